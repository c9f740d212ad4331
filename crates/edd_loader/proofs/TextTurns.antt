-- What one turn of the search for a text does to the first text of the code.
use Rattle.std.proofs.Common.{◌≡◌, ℕ, zero, suc, ◌<◌, ◌≤◌, nat_eq, true, false, List, [], ◌∷◌, length, Option, Some, None, refl, sym, ap, ◌∙◌, arith, inl, inr}
use Rattle.std.specs.Prelude.{option_map, option_and_then, unwrap_or, nat_lt}
use Rattle.std.specs.List.{list_all, slice_get}
use Rattle.std.specs.Option.{option_map_or}
use Rattle.std.specs.Str.{bytes_eq, is_utf8}
use Rattle.std.proofs.lemmas.Bool.{and_parts, cases_Bool, eqb-true, ltb-false, ne_eqb}
use Rattle.edd_syntax.specs.declared.numbers.StrNo.{StrNo}
use Rattle.edd_syntax.specs.Words.{Words, Variants, Variant, is_code, text_in, text_for, english}
use Rattle.edd_image.specs.Front.{◌>>=◌}
use Rattle.edd_image.specs.Strings.{is_string, string_in, variant_from, variants_from, as_words, is_words, is_variant}
use Rattle.edd_image.specs.declared.parts.Counts.{Counts}
use Rattle.edd_image.specs.Fields.{counts_in}
use Rattle.edd_syntax.specs.Names.{is_name}
use Rattle.edd_instructions.specs.Agreement.{string_numbered}
use Rattle.edd_image.specs.Contents.{Span, part, contents_in}
use Rattle.edd_loader.specs.Lookups.{string_in_row}
use Rattle.edd_loader.specs.Texts.{given}
use Rattle.edd_loader.proofs.LookupLaws.{strings_past}
use Rattle.edd_loader.specs.Variants.{all_variants, are_variants, text_from}
use Rattle.edd_loader.proofs.VariantTurns.{variants_split, variants_stop, no_variants, words_are_variants}

first_then : (v : Variant) (o : Option (List Variant)) (code : List ℕ)
    → option_and_then (text_in code) (o >>= λ rest. Some (v ∷ rest))
    ≡ option_and_then (λ ws. text_in code (v ∷ ws)) o
first_then v None code = refl
first_then v (Some ws) code = refl

text_splits : (n b : ℕ) (bytes : List ℕ) (found : Variant × List ℕ) (code : List ℕ)
    → variant_from (b ∷ bytes) ≡ Some found → text_from (suc n) code (b ∷ bytes)
    ≡ option_and_then (λ ws. text_in code (found.0 ∷ ws)) (variants_from n found.1)
unfolding variants_from
text_splits n b bytes found code e = rw e (first_then found.0 (variants_from n found.1) code)

here_in : (v : Variant) (code : List ℕ) (o : Option (List Variant)) → bytes_eq v.code code ≡ true
    → option_map_or (list_all is_variant) o false ≡ true
    → option_and_then (λ ws. text_in code (v ∷ ws)) o ≡ Some v.text
here_in v code None same valid = absurd cc
here_in v code (Some ws) same valid = rw same refl

not_here : (v : Variant) (code : List ℕ) (o : Option (List Variant)) → bytes_eq v.code code ≡ false
    → option_and_then (λ ws. text_in code (v ∷ ws)) o ≡ option_and_then (text_in code) o
not_here v code None other = refl
not_here v code (Some ws) other = rw other refl

-- the variant that is read is valid, and so are those after it
pub front_valid : (rest behind : List ℕ) (v : Variant) (n : ℕ)
    → variant_from rest ≡ Some (v, behind) → length behind < length rest → length rest ≤ n
    → all_variants n rest ≡ true → is_variant v ≡ true
front_valid [] behind v n e shorter le valid = absurd (omega arith)
front_valid (b ∷ bytes) behind v zero e shorter le valid = absurd (omega arith)
front_valid (b ∷ bytes) behind v (suc n) e shorter le valid =
    (and_parts (is_variant v) (all_variants n behind) (sym (variants_split n b bytes (v, behind) e)
    ∙ valid)).0

pub text_utf8 : (v : Variant) → is_variant v ≡ true → is_utf8 v.text ≡ true
text_utf8 v h = (and_parts (is_code v.code) (is_utf8 v.text) h).1

pub text_found : (rest behind code : List ℕ) (v : Variant) (n : ℕ) (total : Option (List ℕ))
    → variant_from rest ≡ Some (v, behind) → length behind < length rest → length rest ≤ n
    → all_variants n rest ≡ true → bytes_eq v.code code ≡ true
    → text_from n code rest ≡ total → Some v.text ≡ total
text_found [] behind code v n total e shorter le valid same so_far = absurd (omega arith)
text_found (b ∷ bytes) behind code v zero total e shorter le valid same so_far =
    absurd (omega arith)
text_found (b ∷ bytes) behind code v (suc n) total e shorter le valid same so_far =
    let others = (and_parts (is_variant v) (all_variants n behind)
    (sym (variants_split n b bytes (v, behind) e) ∙ valid)).1 in
    sym (here_in v code (variants_from n behind) same others)
    ∙ sym (text_splits n b bytes (v, behind) code e) ∙ so_far

-- what is known of the bytes that are left
pub record Left (rest code bytes : List ℕ) : Type 0 where
  pub most : ℕ
  pub enough : length rest ≤ most
  pub valid : all_variants most rest ≡ true
  pub same : text_from most code rest ≡ text_from (length bytes) code bytes

pub text_goes : (rest behind code bytes : List ℕ) (v : Variant)
    → variant_from rest ≡ Some (v, behind) → length behind < length rest
    → bytes_eq v.code code ≡ false → Left rest code bytes → Left behind code bytes
text_goes rest behind code bytes v e shorter other left = goes rest left.most left.enough e shorter
    left.valid left.same
  where
    goes : (rest : List ℕ) (n : ℕ) → length rest ≤ n → variant_from rest ≡ Some (v, behind)
        → length behind < length rest → all_variants n rest ≡ true → text_from n code rest
        ≡ text_from (length bytes) code bytes → Left behind code bytes
    goes [] n le e shorter valid so_far = absurd (omega arith)
    goes (b ∷ more) zero le e shorter valid so_far = absurd (omega arith)
    goes (b ∷ more) (suc n) le e shorter valid so_far = record {
      most = n;
      enough = omega arith;
      valid = (and_parts (is_variant v) (all_variants n behind)
          (sym (variants_split n b more (v, behind) e) ∙ valid)).1;
      same = sym (not_here v code (variants_from n behind) other)
          ∙ sym (text_splits n b more (v, behind) code e) ∙ so_far;
    }

pub never_stops : (rest : List ℕ) (n : ℕ) → nat_eq (length rest) 0 ≡ false
    → variant_from rest ≡ None → all_variants n rest ≡ true → ⊥
never_stops [] n some e valid = absurd cc
never_stops (b ∷ bytes) n some e valid =
    let contradiction : true ≡ false = sym valid ∙ variants_stop n b bytes e in
    cc

pub text_missing : (rest code : List ℕ) (n : ℕ) (total : Option (List ℕ)) → nat_eq (length rest) 0
    ≡ true → text_from n code rest ≡ total → None ≡ total
unfolding variants_from
text_missing [] code zero total none so_far = so_far
text_missing [] code (suc n) total none so_far = so_far
text_missing (b ∷ bytes) code n total none so_far =
    absurd (omega (arith, eqb-true (length (b ∷ bytes)) 0 none))

-- ---- the choice

pub record AreParsed (bytes : List ℕ) : Type 0 where
  pub first : Variant
  pub rest : List Variant
  pub parsed : variants_from (length bytes) bytes ≡ Some (first ∷ rest)
  pub valid : all_variants (length bytes) bytes ≡ true

parse : (o : Option (List Variant)) → option_map_or is_words (o >>= as_words) false ≡ true
    → (first : Variant) × (rest : List Variant) × (o ≡ Some (first ∷ rest))
    × (option_map_or (list_all is_variant) o false ≡ true)
parse None h = absurd cc
parse (Some []) h = absurd cc
parse (Some (first ∷ rest)) h = (first, rest, refl, h)

pub are_parsed : (bytes : List ℕ) → are_variants bytes ≡ true → AreParsed bytes
are_parsed bytes h =
    let p = parse (variants_from (length bytes) bytes) h in
    record { first = p.0; rest = p.1; parsed = p.2; valid = p.3 }

chosen_by : (first : Variant) (rest : List Variant) (o : Option (List Variant)) (code text : List ℕ)
    → o ≡ Some (first ∷ rest)
    → unwrap_or (text_in code (first ∷ rest))
    (unwrap_or (text_in english (first ∷ rest)) first.text) ≡ text
    → option_map (λ words. text_for words code) (option_and_then as_words o) ≡ Some text
unfolding text_for
chosen_by first rest o code text e h = rw e (ap Some h)

pub of_code : (bytes code text : List ℕ) → AreParsed bytes
    → Some text ≡ text_from (length bytes) code bytes
    → option_map (λ words. text_for words code)
    (option_and_then as_words (variants_from (length bytes) bytes)) ≡ Some text
of_code bytes code text p found =
    let here : text_in code (p.first ∷ p.rest) ≡ Some text =
    sym (ap (option_and_then (text_in code)) p.parsed) ∙ sym found in
    chosen_by p.first p.rest _ code text p.parsed
    (ap (λ (o : Option (List ℕ)). unwrap_or o
    (unwrap_or (text_in english (p.first ∷ p.rest)) p.first.text)) here)

pub in_english : (bytes code text : List ℕ) → AreParsed bytes
    → None ≡ text_from (length bytes) code bytes
    → Some text ≡ text_from (length bytes) english bytes
    → option_map (λ words. text_for words code)
    (option_and_then as_words (variants_from (length bytes) bytes)) ≡ Some text
in_english bytes code text p none found =
    let not_here : text_in code (p.first ∷ p.rest) ≡ None =
    sym (ap (option_and_then (text_in code)) p.parsed) ∙ sym none in
    let here : text_in english (p.first ∷ p.rest) ≡ Some text =
    sym (ap (option_and_then (text_in english)) p.parsed) ∙ sym found in
    chosen_by p.first p.rest _ code text p.parsed
    (ap (λ (o : Option (List ℕ)). unwrap_or o
    (unwrap_or (text_in english (p.first ∷ p.rest)) p.first.text)) not_here
    ∙ ap (λ (o : Option (List ℕ)). unwrap_or o p.first.text) here)

first_is : (bytes behind : List ℕ) (v first : Variant) (rest : List Variant)
    → variant_from bytes ≡ Some (v, behind) → variants_from (length bytes) bytes
    ≡ Some (first ∷ rest) → v ≡ first
unfolding variants_from
first_is [] behind v first rest e parsed = absurd cc
first_is (b ∷ bytes) behind v first rest e parsed = by_rest (variants_from (length bytes) behind)
    (rw e at parsed)
  where
    by_rest : (o : Option (List Variant)) → (o >>= λ more. Some (v ∷ more)) ≡ Some (first ∷ rest)
        → v ≡ first
    by_rest None h = absurd cc
    by_rest (Some more) h = cc

pub the_first : (bytes behind code : List ℕ) (v : Variant) → AreParsed bytes
    → None ≡ text_from (length bytes) code bytes → None ≡ text_from (length bytes) english bytes
    → variant_from bytes ≡ Some (v, behind)
    → option_map (λ words. text_for words code)
    (option_and_then as_words (variants_from (length bytes) bytes)) ≡ Some v.text
the_first bytes behind code v p none no_english e =
    let not_here : text_in code (p.first ∷ p.rest) ≡ None =
    sym (ap (option_and_then (text_in code)) p.parsed) ∙ sym none in
    let not_english : text_in english (p.first ∷ p.rest) ≡ None =
    sym (ap (option_and_then (text_in english)) p.parsed) ∙ sym no_english in
    let same = first_is bytes behind v p.first p.rest e p.parsed in
    chosen_by p.first p.rest _ code v.text p.parsed
    (ap (λ (o : Option (List ℕ)). unwrap_or o
    (unwrap_or (text_in english (p.first ∷ p.rest)) p.first.text)) not_here
    ∙ ap (λ (o : Option (List ℕ)). unwrap_or o p.first.text) not_english
    ∙ ap (λ (x : Variant). x.text) (sym same))

pub no_front : (bytes : List ℕ) → are_variants bytes ≡ true → variant_from bytes ≡ None → ⊥
no_front [] h e = let contradiction : false ≡ true = sym no_variants ∙ h in cc
no_front (b ∷ bytes) h e = let contradiction : true ≡ false = sym h ∙ words_are_variants b bytes
    ∙ variants_stop (length (b ∷ bytes)) b bytes e in cc

-- ---- by the tag of a string

pub zero_tag : (tag : ℕ) (rest : List ℕ) → tag ≡ 0 → is_string (tag ∷ rest) ≡ true
    → are_variants rest ≡ true
unfolding string_in
zero_tag tag rest e h = rw e at h

given_words : (o : Option (List Variant)) (code text : List ℕ)
    → option_map (λ words. text_for words code) (option_and_then as_words o) ≡ Some text
    → option_map (λ words. given words code) (option_and_then as_words o) ≡ Some (false, text)
given_words None code text h = absurd cc
given_words (Some []) code text h = absurd cc
given_words (Some (first ∷ rest)) code text h =
    let same : text_for (Variants first rest) code ≡ text = cc in
    ap (λ (x : List ℕ). Some (false, x)) same

pub words_given : (tag : ℕ) (rest code text : List ℕ) → tag ≡ 0
    → option_map (λ words. text_for words code)
    (option_and_then as_words (variants_from (length rest) rest)) ≡ Some text
    → option_map (λ words. given words code) (string_in (tag ∷ rest)) ≡ Some (false, text)
unfolding string_in
words_given tag rest code text e h =
    rw e (given_words (variants_from (length rest) rest) code text h)

pub other_tag : (tag : ℕ) (rest : List ℕ) → (tag ≡ 0 → ⊥) → is_string (tag ∷ rest) ≡ true
    → (nat_eq tag 1 ≡ true) × (is_name rest ≡ true)
unfolding string_in
other_tag tag rest ne h =
    let zero_no : nat_eq tag 0 ≡ false = ne_eqb tag 0 ne in
    elim (cases_Bool (nat_eq tag 1)) [
      | inl one ↦ (one, rw (zero_no, one) at h)
      | inr none ↦ let contradiction : false ≡ true = rw (zero_no, none) at h in absurd cc
    ]

pub key_given : (tag : ℕ) (rest code text : List ℕ) → (tag ≡ 0 → ⊥) → nat_eq tag 1 ≡ true
    → text ≡ rest → option_map (λ words. given words code) (string_in (tag ∷ rest))
    ≡ Some (true, text)
unfolding string_in text_for
key_given tag rest code text ne one e =
    let zero_no : nat_eq tag 0 ≡ false = ne_eqb tag 0 ne in
    rw (zero_no, one, e) refl

pub no_string : (bytes : List ℕ) → length bytes < 1 → is_string bytes ≡ true → ⊥
unfolding string_in
no_string [] h e = let contradiction : false ≡ true = e in cc
no_string (b ∷ bytes) h e = omega arith

-- the string of a number, by its bytes
pub string_here : (b : List ℕ) (n : StrNo) (found : List ℕ) → string_in_row (contents_in b) n.0
    ≡ Some found → string_numbered (contents_in b) n ≡ string_in found
string_here b n found is = here (slice_get (contents_in b).strings n.0) is
  where
    here : (row : Option Span) → option_map (λ span. part span (contents_in b).string_bytes) row
        ≡ Some found → (row >>= λ span. string_in (part span (contents_in b).string_bytes))
        ≡ string_in found
    here None e = absurd cc
    here (Some span) e = let same : part span (contents_in b).string_bytes ≡ found =
        cc in ap string_in same

pub string_missing : {A : Type 0} (f : Words → A) (b : List ℕ) (counts : Counts) (n : StrNo)
    → counts ≡ counts_in b → nat_lt n.0 counts.strings ≡ false
    → None ≡ option_map f (string_numbered (contents_in b) n)
string_missing f b counts n e h =
    let past : (counts_in b).strings ≤ n.0 =
    omega (arith, ltb-false n.0 counts.strings h, ap (λ (c : Counts). c.strings) e) in
    rw (strings_past b n.0 past) refl
