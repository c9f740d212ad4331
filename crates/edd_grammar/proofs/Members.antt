-- Response codes, members and elements of arrays are read as they are spelled.
use Rattle.std.proofs.Common.{◌≡◌, ℕ, ◌≤◌, true, false, bytes_eq, codes, List, [], ◌∷◌, drop, length, Option, Some, None, refl, sym, ap, ◌∙◌, inl, inr, arith}
use Rattle.std.proofs.lemmas.Slice.Eq.{bytes_eq-Decides}
use Rattle.std.proofs.lemmas.Option.{some_pair_parts}
use Rattle.edd_syntax.specs.declared.types.ResponseClass.{ResponseClass}
use Rattle.edd_syntax.specs.declared.types.ResponseClass.TheVariants as class
use Rattle.edd_syntax.specs.declared.symbols.Symbol.TheVariants as sign
use Rattle.edd_syntax.specs.Text as texts
use Rattle.edd_syntax.specs.Text.{Name}
use Rattle.edd_syntax.specs.Token.{Token, Identifier, Integer, Sign}
use Rattle.edd_syntax.specs.Reference.{Path}
use Rattle.edd_syntax.specs.Item as item
use Rattle.edd_syntax.specs.ItemGrammar.{NextName, OptionalTextHere, class_name, ResponseEndHere, ResponseCodeHere, MemberTextsHere, MemberHere, ArrayElementHere}
use Rattle.edd_syntax.specs.Size.{leaf}
use Rattle.edd_grammar.specs.Reading.{at, expect, name_at}
use Rattle.edd_grammar.specs.WordReading.{integer_at, at_close}
use Rattle.edd_grammar.specs.ValueReading.{some_text_at, optional_text_at}
use Rattle.edd_grammar.specs.AttributeReading.{class_of, class_at, behind_response, response_code_at, member_at, array_element_at}
use Rattle.edd_grammar.proofs.Steps.{bind_some, as_read, at_is, expect_is, expect_again, name_is}
use Rattle.edd_grammar.proofs.Alternatives.{branch, expected}
use Rattle.edd_grammar.proofs.Shorter.{text_shorter}
use Rattle.edd_grammar.proofs.Branches.{SoundOf}
use Rattle.edd_grammar.proofs.Words.{integer_is}
use Rattle.edd_grammar.proofs.Enumerators.{some_text_sound, some_text_again, optional_text_sound, optional_text_again, optional_text_shorter}
use Rattle.edd_grammar.proofs.Rows.{RowOf}

-- ---- classes of response codes

named_class : (name word : Name) (one c : ResponseClass) → bytes_eq name word ≡ true
    → word ≡ class_name one → Some one ≡ Some c → name ≡ class_name c
named_class name word one c t w e = let same : one ≡ c = cc (e) in (bytes_eq-Decides name word).0 t
    ∙ w ∙ ap class_name same

class_of_sound : (name : Name) (c : ResponseClass) → class_of name ≡ Some c → name ≡ class_name c
class_of_sound name c x =
    branch (bytes_eq name (codes "SUCCESS")) _ _ _ x
    (λ t y. named_class name (codes "SUCCESS") class.Success c t refl y) (λ _ x1.
    branch (bytes_eq name (codes "MISC_WARNING")) _ _ _ x1
    (λ t y. named_class name (codes "MISC_WARNING") class.MiscWarning c t refl y) (λ _ x2.
    branch (bytes_eq name (codes "DATA_ENTRY_WARNING")) _ _ _ x2
    (λ t y. named_class name (codes "DATA_ENTRY_WARNING") class.DataEntryWarning c t refl y)
    (λ _ x3.
    branch (bytes_eq name (codes "DATA_ENTRY_ERROR")) _ _ _ x3
    (λ t y. named_class name (codes "DATA_ENTRY_ERROR") class.DataEntryError c t refl y)
    (λ _ x4.
    branch (bytes_eq name (codes "MODE_ERROR")) _ _ _ x4
    (λ t y. named_class name (codes "MODE_ERROR") class.ModeError c t refl y) (λ _ x5.
    branch (bytes_eq name (codes "PROCESS_ERROR")) _ _ _ x5
    (λ t y. named_class name (codes "PROCESS_ERROR") class.ProcessError c t refl y) (λ _ x6.
    branch (bytes_eq name (codes "MISC_ERROR")) _ _ _ x6
    (λ t y. named_class name (codes "MISC_ERROR") class.MiscError c t refl y)
    (λ _ y. absurd cc)))))))

class_of_again : (c : ResponseClass) → class_of (class_name c) ≡ Some c
class_of_again class.Success = refl
class_of_again _ = refl

class_sound : (here : List Token) (c : ResponseClass) (rest : List Token)
    → class_at here ≡ Some (c, rest) → NextName (class_name c) here rest
unfolding class_at
class_sound here c rest x =
    let a = bind_some (name_at here) _ (c, rest) x in
    let b = bind_some (class_of a.0.0) _ (c, rest) a.2 in
    as_read (λ c r. NextName (class_name c) here r) b.0 c a.0.1 rest b.2
    (name_is here a.0.0 a.0.1 a.1 ∙ ap (λ n. Identifier n ∷ a.0.1)
    (class_of_sound a.0.0 b.0 b.1))

-- ---- response codes

response_end_sound : (here : List Token) → ResponseEndHere here (behind_response here)
response_end_sound here =
    branch (at sign.Semicolon here) (drop 1 here) _ (behind_response here) refl
    (λ t e. inr (inl (at_is sign.Semicolon here t ∙ ap (λ u. Sign sign.Semicolon ∷ u) e)))
    (λ _ x.
    branch (at sign.Comma here) (drop 1 here) here (behind_response here) x
    (λ t e. inr (inr (at_is sign.Comma here t ∙ ap (λ u. Sign sign.Comma ∷ u) e)))
    (λ _ e. inl e))

-- what can't be the end of a response code
abbrev pub AfterResponse : List Token → Type 0
AfterResponse rest = (at sign.Semicolon rest ≡ false) × (at sign.Comma rest ≡ false)

response_end_again : (here rest : List Token) → ResponseEndHere here rest → AfterResponse rest
    → behind_response here ≡ rest
response_end_again here rest (inl e) f = ap behind_response e ∙ rw (f.0, f.1) refl
response_end_again here rest (inr (inl e)) f = ap behind_response e
response_end_again here rest (inr (inr e)) f = ap behind_response e

response_end_shorter : (here rest : List Token) → ResponseEndHere here rest
    → length rest ≤ length here
response_end_shorter here rest (inl e) = omega (arith, ap length e)
response_end_shorter here rest (inr (inl e)) = omega (arith, ap length e)
response_end_shorter here rest (inr (inr e)) = omega (arith, ap length e)

pub response_code_sound : (height_left : ℕ)
    → SoundOf ResponseCodeHere leaf height_left response_code_at
unfolding response_code_at
response_code_sound height_left here r rest x =
    let a = bind_some (integer_at here) _ (r, rest) x in
    let b = bind_some (expect sign.Comma a.0.1) _ (r, rest) a.2 in
    let c = bind_some (class_at b.0) _ (r, rest) b.2 in
    let d = bind_some (expect sign.Comma c.0.1) _ (r, rest) c.2 in
    let w = bind_some (some_text_at d.0) _ (r, rest) d.2 in
    let read : item.ResponseCode = record { number = a.0.0; class = c.0.0; text = w.0.0 } in
    let third : c.0.1 ≡ Sign sign.Comma ∷ d.0 = expect_is sign.Comma c.0.1 d.0 d.1 in
    let second : b.0 ≡ Identifier (class_name c.0.0) ∷ Sign sign.Comma ∷ d.0 =
    class_sound b.0 c.0.0 c.0.1 c.1 ∙ ap (λ u. Identifier (class_name c.0.0) ∷ u) third in
    let first : a.0.1 ≡ Sign sign.Comma ∷ Identifier (class_name c.0.0) ∷ Sign sign.Comma ∷ d.0 =
    expect_is sign.Comma a.0.1 b.0 b.1 ∙ ap (λ u. Sign sign.Comma ∷ u) second in
    as_read (λ r t. ResponseCodeHere r here t × (leaf r ≤ height_left)) read r
    (behind_response w.0.1) rest w.2 (
      (
        d.0,
        w.0.1,
        integer_is here a.0.0 a.0.1 a.1 ∙ ap (λ u. Integer a.0.0 ∷ u) first,
        some_text_sound d.0 w.0.0 w.0.1 w.1,
        response_end_sound w.0.1,
      ),
      omega arith,
    )

response_code_again : (r : item.ResponseCode) (here rest : List Token)
    → ResponseCodeHere r here rest → AfterResponse rest → response_code_at here ≡ Some (r, rest)
unfolding response_code_at class_at
response_code_again r here rest h f =
    rw (
      h.2,
      expect_again sign.Comma (Identifier (class_name r.class) ∷ Sign sign.Comma ∷ h.0),
      class_of_again r.class,
      expect_again sign.Comma h.0,
      some_text_again r.text h.0 h.1 h.3,
      response_end_again h.1 rest h.4 f,
    ) refl

pub response_codes : (height_left : ℕ) → RowOf ResponseCodeHere leaf height_left AfterResponse
    at_close response_code_at
response_codes height_left = record {
  again = λ r here rest h low f. response_code_again r here rest h f;
  no_end = λ r here rest h. ap at_close h.2;
  shorter = λ r here rest h. omega (
    arith,
    ap length h.2,
    text_shorter r.text h.0 h.1 h.3,
    response_end_shorter h.1 rest h.4,
  );
  at_end = λ rest e. (
    ap (at sign.Semicolon) (at_is sign.CloseBrace rest e),
    ap (at sign.Comma) (at_is sign.CloseBrace rest e),
  );
  at_next = λ r here rest h. (ap (at sign.Semicolon) h.2, ap (at sign.Comma) h.2);
}

-- ---- members

-- there is no comma where a text is missing
missing_text : (here rest : List Token) → optional_text_at here ≡ Some (None, rest)
    → at sign.Comma here ≡ false
unfolding optional_text_at
missing_text here rest x =
    branch (at sign.Comma here) _ _ _ x
    (λ t y. let a = bind_some (some_text_at (drop 1 here)) _ (None, rest) y in absurd
    (let n = some_pair_parts (Some a.0.0) None a.0.1 rest a.2 in let m = n.0 in cc (m)))
    (λ f _. f)

member_texts_sound : (label help : Option texts.Text) (here behind rest : List Token)
    → optional_text_at here ≡ Some (label, behind) → optional_text_at behind ≡ Some (help, rest)
    → MemberTextsHere label help here rest
member_texts_sound None None here behind rest a b = optional_text_sound here None behind a
    ∙ optional_text_sound behind None rest b
member_texts_sound None (Some help) here behind rest a b =
    let same = optional_text_sound here None behind a in
    let comma = optional_text_sound behind (Some help) rest b in
    absurd (let n : false ≡ true = sym (missing_text here behind a)
    ∙ ap (at sign.Comma) (same ∙ comma.1) in cc (n))
member_texts_sound (Some label) help here behind rest a b =
    (behind, optional_text_sound here (Some label) behind a, optional_text_sound behind help rest b)

text_behind_comma : (w : texts.Text) (here rest : List Token) → OptionalTextHere (Some w) here rest
    → optional_text_at here ≡ Some (Some w, rest)
unfolding optional_text_at
text_behind_comma w here rest h = rw (h.1, some_text_again w h.0 rest h.2) refl

-- both texts are read before a semicolon
member_texts_again : (label help : Option texts.Text) (here rest : List Token)
    → MemberTextsHere label help here (Sign sign.Semicolon ∷ rest)
    → (behind : List Token) × (optional_text_at here ≡ Some (label, behind))
    × (optional_text_at behind ≡ Some (help, Sign sign.Semicolon ∷ rest))
unfolding optional_text_at
member_texts_again None None here rest h = (Sign sign.Semicolon ∷ rest, rw h refl, refl)
member_texts_again None (Some help) here rest h = absurd h
member_texts_again (Some label) help here rest h = (
  h.0,
  text_behind_comma label here h.0 h.1,
  optional_text_again help h.0 (Sign sign.Semicolon
      ∷ rest) refl h.2,
)

member_texts_shorter : (label help : Option texts.Text) (here rest : List Token)
    → MemberTextsHere label help here rest → length rest ≤ length here
member_texts_shorter None None here rest h = omega (arith, ap length h)
member_texts_shorter None (Some help) here rest h = absurd h
member_texts_shorter (Some label) help here rest h =
    omega (
      arith,
      optional_text_shorter (Some label) here h.0 h.1,
      optional_text_shorter help h.0
          rest h.2,
    )

pub member_sound : (height_left : ℕ) → SoundOf MemberHere leaf height_left member_at
unfolding member_at
member_sound height_left here m rest x =
    let a = bind_some (name_at here) _ (m, rest) x in
    let b = bind_some (expect sign.Comma a.0.1) _ (m, rest) a.2 in
    let c = bind_some (name_at b.0) _ (m, rest) b.2 in
    let d = bind_some (optional_text_at c.0.1) _ (m, rest) c.2 in
    let e = bind_some (optional_text_at d.0.1) _ (m, rest) d.2 in
    let f = bind_some (expect sign.Semicolon e.0.1) _ (m, rest) e.2 in
    let read : item.Member Path =
    record {
      name = a.0.0;
      item = record { base = c.0.0; members = [] };
      label = d.0.0;
      help = e.0.0;
    } in
    as_read (λ m r. MemberHere m here r × (leaf m ≤ height_left)) read m f.0 rest f.2 (
      (
        b.0,
        c.0.1,
        name_is here a.0.0 a.0.1 a.1 ∙ ap (λ u. Identifier a.0.0 ∷ u)
            (expect_is sign.Comma a.0.1 b.0 b.1),
        (refl, name_is b.0 c.0.0 c.0.1 c.1),
        expected (MemberTextsHere d.0.0 e.0.0 c.0.1) sign.Semicolon e.0.1 f.0 f.1
            (member_texts_sound d.0.0 e.0.0 c.0.1 d.0.1 e.0.1 d.1 e.1),
      ),
      omega arith,
    )

member_again : (m : item.Member Path) (here rest : List Token) → MemberHere m here rest
    → member_at here ≡ Some (m, rest)
unfolding member_at
member_again m here rest h =
    let texts = member_texts_again m.label m.help h.1 rest h.4 in
    rw (h.2, expect_again sign.Comma h.0, h.3.1, texts.1, texts.2, expect_again sign.Semicolon rest)
    (ap (λ (ms : List Name). Some (
      record {
        name = m.name;
        item = record { base = m.item.base; members = ms };
        label = m.label;
        help = m.help;
      },
      rest,
    )) (sym h.3.0))

pub members : (height_left : ℕ) → RowOf MemberHere leaf height_left (λ rest. Unit {0}) at_close
    member_at
members height_left = record {
  again = λ m here rest h low f. member_again m here rest h;
  no_end = λ m here rest h. ap at_close h.2;
  shorter = λ m here rest h. omega (
    arith,
    ap length h.2,
    ap length h.3.1,
    member_texts_shorter m.label m.help h.1 _ h.4,
  );
  at_end = λ rest e. tt;
  at_next = λ m here rest h. tt;
}

-- ---- elements of arrays

pub array_element_sound : (height_left : ℕ)
    → SoundOf ArrayElementHere leaf height_left array_element_at
unfolding array_element_at
array_element_sound height_left here x rest found =
    let a = bind_some (integer_at here) _ (x, rest) found in
    let b = bind_some (expect sign.Comma a.0.1) _ (x, rest) a.2 in
    let c = bind_some (name_at b.0) _ (x, rest) b.2 in
    let d = bind_some (optional_text_at c.0.1) _ (x, rest) c.2 in
    let e = bind_some (optional_text_at d.0.1) _ (x, rest) d.2 in
    let f = bind_some (expect sign.Semicolon e.0.1) _ (x, rest) e.2 in
    let read : item.ArrayElement Path =
    record {
      number = a.0.0;
      variable = record { base = c.0.0; members = [] };
      label = d.0.0;
      help = e.0.0;
    } in
    as_read (λ m r. ArrayElementHere m here r × (leaf m ≤ height_left)) read x f.0 rest f.2 (
      (
        b.0,
        c.0.1,
        integer_is here a.0.0 a.0.1 a.1 ∙ ap (λ u. Integer a.0.0 ∷ u)
            (expect_is sign.Comma a.0.1 b.0 b.1),
        (refl, name_is b.0 c.0.0 c.0.1 c.1),
        expected (MemberTextsHere d.0.0 e.0.0 c.0.1) sign.Semicolon e.0.1 f.0 f.1
            (member_texts_sound d.0.0 e.0.0 c.0.1 d.0.1 e.0.1 d.1 e.1),
      ),
      omega arith,
    )

array_element_again : (x : item.ArrayElement Path) (here rest : List Token)
    → ArrayElementHere x here rest → array_element_at here ≡ Some (x, rest)
unfolding array_element_at
array_element_again x here rest h =
    let texts = member_texts_again x.label x.help h.1 rest h.4 in
    rw (h.2, expect_again sign.Comma h.0, h.3.1, texts.1, texts.2, expect_again sign.Semicolon rest)
    (ap (λ (ms : List Name). Some (
      record {
        number = x.number;
        variable = record { base = x.variable.base; members = ms };
        label = x.label;
        help = x.help;
      },
      rest,
    )) (sym h.3.0))

pub array_elements : (height_left : ℕ) → RowOf ArrayElementHere leaf height_left
    (λ rest. Unit {0}) at_close array_element_at
array_elements height_left = record {
  again = λ x here rest h low f. array_element_again x here rest h;
  no_end = λ x here rest h. ap at_close h.2;
  shorter = λ x here rest h. omega (
    arith,
    ap length h.2,
    ap length h.3.1,
    member_texts_shorter x.label x.help h.1 _ h.4,
  );
  at_end = λ rest e. tt;
  at_next = λ x here rest h. tt;
}
