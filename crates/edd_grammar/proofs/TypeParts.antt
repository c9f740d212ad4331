-- Sizes and parts of types are read as they are spelled.
use Rattle.std.proofs.Common.{◌≡◌, ℕ, ◌≤◌, ◌<◌, true, false, List, [], ◌∷◌, drop, length, Option, Some, None, refl, ap, ◌∙◌, inl, inr, arith}
use Rattle.std.proofs.lemmas.Option.{none-some}
use Rattle.edd_syntax.specs.declared.numbers.NumberOption.{NumberOption}
use Rattle.edd_syntax.specs.declared.numbers.FormatOption.{FormatOption}
use Rattle.edd_syntax.specs.declared.symbols.Keyword.{Keyword}
use Rattle.edd_syntax.specs.declared.symbols.Keyword.TheVariants as word
use Rattle.edd_syntax.specs.declared.symbols.Symbol.TheVariants as sign
use Rattle.edd_syntax.specs.Text as texts
use Rattle.edd_syntax.specs.Token.{Token, Reserved, Integer, Sign}
use Rattle.edd_syntax.specs.Reference.{Path}
use Rattle.edd_syntax.specs.Expression.{Expr}
use Rattle.edd_syntax.specs.Conditional.{Cond, Value, Select}
use Rattle.edd_syntax.specs.Item as item
use Rattle.edd_syntax.specs.Item.{TypePart}
use Rattle.edd_syntax.specs.Grammar.{TextHere, OptionalSign}
use Rattle.edd_syntax.specs.StatementGrammar.{OneHere, ElementHere}
use Rattle.edd_syntax.specs.ItemGrammar.{RowHere, ValueExprHere, EnumeratorHere, SizeHere, TypePartHere, TypePartsHere}
use Rattle.edd_syntax.specs.Numbers.{format_of_word, number_of_word}
use Rattle.edd_syntax.specs.Size.{height, leaf, cond_height, type_part_height}
use Rattle.edd_grammar.specs.Reading.{◌>>=◌, on_option, at, expect, at_word, word_by}
use Rattle.edd_grammar.specs.ConditionalReading.{one_at, element_at, text_value, expr_value, skip_comma}
use Rattle.edd_grammar.specs.WordReading.{integer_at, at_close, row_inside}
use Rattle.edd_grammar.specs.ValueReading.{enumerator_value}
use Rattle.edd_grammar.specs.TypeReading.{size_at, format_or_element_at, type_part_at, type_parts_at}
use Rattle.edd_grammar.proofs.Steps.{bind_some, as_read, at_is, expect_is, expect_again, word_is}
use Rattle.edd_grammar.proofs.SameSigns.{same_word_self}
use Rattle.edd_grammar.proofs.Alternatives.{branch, worded}
use Rattle.edd_grammar.proofs.Branches.{SoundOf}
use Rattle.edd_grammar.proofs.BranchesAgain.{CondFollows}
use Rattle.edd_grammar.proofs.SingleValues.{one_sound, one_again, one_shorter}
use Rattle.edd_grammar.proofs.SoundLists.{skip_sound, element_sound}
use Rattle.edd_grammar.proofs.CompleteLists.{element_again, element_shorter, comma_shorter}
use Rattle.edd_grammar.proofs.ValueKinds.{text_value_sound, text_values, expr_value_sound, expr_values}
use Rattle.edd_grammar.proofs.Enumerators.{enumerator_value_sound, listed_enumerators}
use Rattle.edd_grammar.proofs.Words.{integer_is}
use Rattle.edd_grammar.proofs.Rows.{tallest, RowOf, row_shorter, braced_sound, braced_again, row_inside_sound, row_inside_again}

-- ---- parts of a type

module _ (height_left : ℕ) where
  -- an option of a type and the values of its word
  value_option : (k : Keyword) (make : Cond Path (Expr Path) → TypePart Path)
      → ((c : Cond Path (Expr Path)) (here behind rest : List Token) → here ≡ Reserved k ∷ behind
      → OneHere ValueExprHere c behind rest → TypePartHere (make c) here rest)
      → ((c : Cond Path (Expr Path)) → cond_height height c ≤ height_left
      → type_part_height (make c) ≤ height_left)
      → (here : List Token) (p : TypePart Path) (rest : List Token) → at_word k here ≡ true
      → ◌>>=◌ {B = TypePart Path × List Token} (one_at expr_value height_left (drop 1 here))
      (λ c. Some (make c.0, c.1)) ≡ Some (p, rest)
      → TypePartHere p here rest × (type_part_height p ≤ height_left)
  value_option k make spelled low here p rest t e =
      worded TypePartHere type_part_height height_left k (OneHere ValueExprHere)
      (cond_height height) (one_at expr_value height_left)
      (one_sound height ValueExprHere expr_value expr_value_sound height_left) make spelled low
      here p rest t e

  text_option : (k : Keyword) (make : Cond Path texts.Text → TypePart Path)
      → ((c : Cond Path texts.Text) (here behind rest : List Token) → here ≡ Reserved k ∷ behind
      → OneHere TextHere c behind rest → TypePartHere (make c) here rest)
      → ((c : Cond Path texts.Text) → cond_height leaf c ≤ height_left → type_part_height (make c)
      ≤ height_left)
      → (here : List Token) (p : TypePart Path) (rest : List Token) → at_word k here ≡ true
      → ◌>>=◌ {B = TypePart Path × List Token} (one_at text_value height_left (drop 1 here))
      (λ c. Some (make c.0, c.1)) ≡ Some (p, rest)
      → TypePartHere p here rest × (type_part_height p ≤ height_left)
  text_option k make spelled low here p rest t e =
      worded TypePartHere type_part_height height_left k (OneHere TextHere) (cond_height leaf)
      (one_at text_value height_left) (one_sound leaf TextHere text_value text_value_sound
      height_left) make spelled low here p rest t e

  element_option : (here : List Token) (p : TypePart Path) (rest : List Token)
      → ◌>>=◌ {B = TypePart Path × List Token} (element_at enumerator_value height_left here)
      (λ c. Some (item.Element c.0, skip_comma c.1)) ≡ Some (p, rest)
      → TypePartHere p here rest × (type_part_height p ≤ height_left)
  element_option here p rest e =
      let a = bind_some (element_at enumerator_value height_left here) _ (p, rest) e in
      let s = element_sound leaf EnumeratorHere enumerator_value enumerator_value_sound height_left
      here a.0.0 a.0.1 a.1 in
      as_read (λ p r. TypePartHere p here r × (type_part_height p ≤ height_left))
      (item.Element a.0.0) p (skip_comma a.0.1) rest a.2 ((a.0.1, s.0, skip_sound a.0.1), s.1)

  format_sound : (here : List Token) (p : TypePart Path) (rest : List Token)
      → format_or_element_at height_left here ≡ Some (p, rest)
      → TypePartHere p here rest × (type_part_height p ≤ height_left)
  unfolding format_or_element_at
  format_sound here p rest x = by_word (word_by format_of_word here) refl x
    where
      by_word : (o : Option FormatOption) → word_by format_of_word here ≡ o
          → on_option o (◌>>=◌ {B = TypePart Path × List Token}
          (element_at enumerator_value height_left here)
          (λ c. Some (item.Element c.0, skip_comma c.1)))
          (λ which. ◌>>=◌ {B = TypePart Path × List Token} (one_at text_value height_left (drop 1 here))
          (λ c. Some (item.OneFormat which c.0, c.1))) ≡ Some (p, rest)
          → TypePartHere p here rest × (type_part_height p ≤ height_left)
      by_word (Some which) is y =
          let k = word_is format_of_word which here is in
          text_option k.0 (item.OneFormat which) (λ c here behind rest e h. (behind, (k.0, k.1, e), h))
          (λ c l. l) here p rest (ap (at_word k.0) k.2 ∙ same_word_self k.0) y
      by_word None is y = element_option here p rest y

  type_part_sound : SoundOf TypePartHere type_part_height height_left (type_part_at height_left)
  unfolding type_part_at
  type_part_sound here p rest x = by_word (word_by number_of_word here) refl x
    where
      by_word : (o : Option NumberOption) → word_by number_of_word here ≡ o
          → on_option o (format_or_element_at height_left here)
          (λ which. ◌>>=◌ {B = TypePart Path × List Token} (one_at expr_value height_left (drop 1 here))
          (λ c. Some (item.OneNumber which c.0, c.1))) ≡ Some (p, rest)
          → TypePartHere p here rest × (type_part_height p ≤ height_left)
      by_word (Some which) is y =
          let k = word_is number_of_word which here is in
          value_option k.0 (item.OneNumber which)
          (λ c here behind rest e h. (behind, (k.0, k.1, e), h)) (λ c l. l) here p rest
          (ap (at_word k.0) k.2 ∙ same_word_self k.0) y
      by_word None is y = format_sound here p rest y

-- the word of a format is that of no number
no_number : (w : Keyword) (which : FormatOption) → format_of_word w ≡ Some which
    → number_of_word w ≡ None
no_number word.DefaultValue which e = absurd (none-some which e)
no_number word.MinValue which e = absurd (none-some which e)
no_number word.MaxValue which e = absurd (none-some which e)
no_number _ which e = refl

-- no option of a type begins where an element does
record StartsElement (here : List Token) : Type 0 where
  pub no_number : word_by number_of_word here ≡ None
  pub no_format : word_by format_of_word here ≡ None

starts_element : (c : Cond Path item.Enumerator) (here rest : List Token)
    → ElementHere EnumeratorHere c here rest → StartsElement here
starts_element (Select on arms) here rest h =
    rw h.3 (record { no_number = refl; no_format = refl })
starts_element _ here rest h = rw h.4 (record { no_number = refl; no_format = refl })

element_follows : (c : Cond Path item.Enumerator) (rest : List Token)
    → CondFollows (λ rest. Unit {0}) c rest
element_follows (Value e) rest = tt
element_follows _ rest = tt

pub comma_again : (behind rest : List Token) → OptionalSign sign.Comma behind rest
    → at sign.Comma rest ≡ false → skip_comma behind ≡ rest
comma_again behind rest (inl e) f = ap skip_comma e ∙ rw f refl
comma_again behind rest (inr e) f = ap skip_comma e

-- no comma follows, which a part that is an element would take
type_part_again : (height_left : ℕ) (p : TypePart Path) (here rest : List Token)
    → TypePartHere p here rest → type_part_height p ≤ height_left → at sign.Comma rest ≡ false
    → type_part_at height_left here ≡ Some (p, rest)
unfolding type_part_at format_or_element_at
type_part_again height_left (item.OneNumber which c) here rest h low f =
    rw (
      h.1.2,
      h.1.1,
      one_again height ValueExprHere expr_value expr_values height_left c h.0 rest h.2 low,
    ) refl
type_part_again height_left (item.OneFormat which c) here rest h low f =
    rw (
      h.1.2,
      no_number h.1.0 which h.1.1,
      h.1.1,
      one_again leaf TextHere text_value text_values height_left c h.0 rest h.2 low,
    ) refl
type_part_again height_left (item.Element c) here rest h low f =
    let n = starts_element c here h.0 h.1 in
    let read = element_again leaf EnumeratorHere (λ rest. Unit {0}) enumerator_value
    listed_enumerators height_left c here h.0 h.1 low (element_follows c h.0) in
    rw (n.no_number, n.no_format, read, comma_again h.0 rest h.2 f)
    refl

type_part_shorter : (p : TypePart Path) (here rest : List Token) → TypePartHere p here rest
    → length rest < length here
type_part_shorter (item.OneNumber which c) here rest h =
    omega (
      arith,
      ap length h.1.2,
      one_shorter height ValueExprHere expr_value expr_values c h.0 rest
          h.2,
    )
type_part_shorter (item.OneFormat which c) here rest h =
    omega (arith, ap length h.1.2, one_shorter leaf TextHere text_value text_values c h.0 rest h.2)
type_part_shorter (item.Element c) here rest h =
    omega (
      arith,
      element_shorter leaf EnumeratorHere (λ rest. Unit {0}) enumerator_value
          listed_enumerators c here h.0 h.1,
      comma_shorter h.0 rest h.2,
    )

-- a part begins with no comma and no closing brace
type_part_starts : (p : TypePart Path) (here rest : List Token) → TypePartHere p here rest
    → (at sign.Comma here ≡ false) × (at_close here ≡ false)
type_part_starts (item.OneNumber which c) here rest h =
    (ap (at sign.Comma) h.1.2, ap at_close h.1.2)
type_part_starts (item.OneFormat which c) here rest h =
    (ap (at sign.Comma) h.1.2, ap at_close h.1.2)
type_part_starts (item.Element (Select on arms)) here rest h =
    (ap (at sign.Comma) h.1.3, ap at_close h.1.3)
type_part_starts (item.Element _) here rest h =
    (ap (at sign.Comma) h.1.4, ap at_close h.1.4)

type_parts : (height_left : ℕ)
    → RowOf TypePartHere type_part_height height_left (λ rest. at sign.Comma rest ≡ false) at_close
    (type_part_at height_left)
type_parts height_left = record {
  again = type_part_again height_left;
  no_end = λ p here rest h. (type_part_starts p here rest h).1;
  shorter = type_part_shorter;
  at_end = λ rest e. ap (at sign.Comma) (at_is sign.CloseBrace rest e);
  at_next = λ p here rest h. (type_part_starts p here rest h).0;
}

-- ---- a semicolon, or braces

pub type_parts_sound : (height_left : ℕ)
    → SoundOf TypePartsHere (tallest type_part_height) height_left (type_parts_at height_left)
unfolding type_parts_at
type_parts_sound height_left here parts rest x =
    branch (at sign.Semicolon here) _ _ _ x
    (λ t y. as_read (λ parts r. TypePartsHere parts here r
    × (tallest type_part_height parts ≤ height_left)) [] parts (drop 1 here) rest y
    (inl (refl, at_is sign.Semicolon here t), omega arith))
    (λ _ y. let s = braced_sound (RowHere TypePartHere) (tallest type_part_height) height_left
    (row_inside (type_part_at height_left))
    (row_inside_sound TypePartHere type_part_height height_left (type_part_at height_left)
    (type_part_sound height_left)) here parts rest y in
    (inr s.0, s.1))

pub type_parts_again : (height_left : ℕ) (parts : List (TypePart Path)) (here rest : List Token)
    → TypePartsHere parts here rest → tallest type_part_height parts ≤ height_left
    → type_parts_at height_left here ≡ Some (parts, rest)
unfolding type_parts_at
type_parts_again height_left parts here rest (inl h) low = rw (h.1, h.0) refl
type_parts_again height_left parts here rest (inr h) low =
    let no_semicolon : at sign.Semicolon here ≡ false = ap (at sign.Semicolon) h.1 in
    let inside = row_inside_again TypePartHere type_part_height height_left
    (λ rest. at sign.Comma rest ≡ false) (type_part_at height_left) (type_parts height_left)
    parts h.0 rest h.2 low in
    rw no_semicolon (braced_again (row_inside (type_part_at height_left)) parts here h.0 rest h.1
    inside)

pub type_parts_shorter : (parts : List (TypePart Path)) (here rest : List Token)
    → TypePartsHere parts here rest → length rest < length here
type_parts_shorter parts here rest (inl h) = omega (arith, ap length h.1)
type_parts_shorter parts here rest (inr h) =
    omega (arith, ap length h.1, row_shorter TypePartHere type_part_shorter parts h.0 _ h.2)

-- there is no parenthesis where they begin
pub type_parts_begin : (parts : List (TypePart Path)) (here rest : List Token)
    → TypePartsHere parts here rest → at sign.OpenParenthesis here ≡ false
type_parts_begin parts here rest (inl h) = ap (at sign.OpenParenthesis) h.1
type_parts_begin parts here rest (inr h) = ap (at sign.OpenParenthesis) h.1

-- ---- sizes

pub size_sound : (here : List Token) (n : Option ℕ) (rest : List Token)
    → size_at here ≡ Some (n, rest) → SizeHere n here rest
unfolding size_at
size_sound here n rest x =
    branch (at sign.OpenParenthesis here) _ _ _ x
    (λ t y. let a = bind_some (integer_at (drop 1 here)) _ (n, rest) y in
    let b = bind_some (expect sign.CloseParenthesis a.0.1) _ (n, rest) a.2 in
    as_read (λ n r. SizeHere n here r) (Some a.0.0) n b.0 rest b.2
    (at_is sign.OpenParenthesis here t ∙ ap (λ u. Sign sign.OpenParenthesis ∷ u)
    (integer_is (drop 1 here) a.0.0 a.0.1 a.1
    ∙ ap (λ u. Integer a.0.0 ∷ u) (expect_is sign.CloseParenthesis a.0.1 b.0 b.1))))
    (λ _ y. as_read (λ n r. SizeHere n here r) None n here rest y refl)

pub size_again : (n : Option ℕ) (here rest : List Token) → at sign.OpenParenthesis rest ≡ false
    → SizeHere n here rest → size_at here ≡ Some (n, rest)
unfolding size_at
size_again None here rest f h = rw (h, f) refl
size_again (Some n) here rest f h = rw (h, expect_again sign.CloseParenthesis rest) refl

pub size_shorter : (n : Option ℕ) (here rest : List Token) → SizeHere n here rest
    → length rest ≤ length here
size_shorter None here rest h = omega (arith, ap length h)
size_shorter (Some n) here rest h = omega (arith, ap length h)
