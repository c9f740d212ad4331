-- Types of variables are read as they are spelled.
use Rattle.std.proofs.Common.{◌≡◌, ℕ, zero, suc, ◌≤◌, ◌<◌, Bool, true, false, not, ◌||◌, bytes_eq, codes, cond, List, [], ◌∷◌, length, Option, Some, None, refl, sym, ap, ◌∙◌, inl, inr, arith}
use Rattle.std.proofs.lemmas.Slice.Eq.{bytes_eq-Decides}
use Rattle.edd_syntax.specs.declared.types.VarType.{VarType}
use Rattle.edd_syntax.specs.declared.types.VarType.TheVariants as var_type
use Rattle.edd_syntax.specs.declared.symbols.Symbol.TheVariants as sign
use Rattle.edd_syntax.specs.Text.{Name}
use Rattle.edd_syntax.specs.Token.{Token, Identifier, Sign}
use Rattle.edd_syntax.specs.Reference.{Path}
use Rattle.edd_syntax.specs.Item as item
use Rattle.edd_syntax.specs.Item.{TypeWord, TypePart}
use Rattle.edd_syntax.specs.Refusal.{is_name_in}
use Rattle.edd_syntax.specs.ItemGrammar.{type_name, type_names, is_inside_type, behind_braces, OtherEndHere, SkippedHere, OtherTypeHere, TypeHere}
use Rattle.edd_syntax.specs.Size.{type_part_height}
use Rattle.edd_grammar.specs.Reading.{name_at}
use Rattle.edd_grammar.specs.TypeReading.{type_of, size_at, type_parts_at, behind_other, WrittenType, known_type_at, other_type_at, type_at}
use Rattle.edd_grammar.proofs.Steps.{bind_some, option_cases, as_read, name_is}
use Rattle.edd_grammar.proofs.Alternatives.{branch}
use Rattle.edd_grammar.proofs.Branches.{Spelling, SoundOf, bool_cases}
use Rattle.edd_grammar.proofs.Rows.{tallest}
use Rattle.edd_grammar.proofs.TypeParts.{type_parts_sound, type_parts_again, type_parts_shorter, type_parts_begin, size_sound, size_again, size_shorter}

-- ---- names of types

bytes_eq-comm : (a b : List ℕ) → bytes_eq a b ≡ bytes_eq b a
bytes_eq-comm a b =
    elim (bool_cases (bytes_eq a b)) [
      | inl t ↦ t ∙ sym ((bytes_eq-Decides b a).1 (sym ((bytes_eq-Decides a b).0 t)))
      | inr f ↦ elim (bool_cases (bytes_eq b a)) [
        | inl t ↦ absurd (let n : true
            ≡ false = sym ((bytes_eq-Decides a b).1 (sym ((bytes_eq-Decides b a).0 t)))
            ∙ f in cc (n))
        | inr g ↦ f ∙ sym g
      ]
    ]

type_of_sound : (name : Name) (type : VarType) → type_of name ≡ Some type → name ≡ type_name type
type_of_sound name type x =
    branch (bytes_eq name (codes "INTEGER")) _ _ _ x
    (λ t y. named name (codes "INTEGER") var_type.Integer type t refl y) (λ _ x1.
    branch (bytes_eq name (codes "UNSIGNED_INTEGER")) _ _ _ x1
    (λ t y. named name (codes "UNSIGNED_INTEGER") var_type.UnsignedInteger type t refl y)
    (λ _ x2.
    branch (bytes_eq name (codes "ENUMERATED")) _ _ _ x2
    (λ t y. named name (codes "ENUMERATED") var_type.Enumerated type t refl y) (λ _ x3.
    branch (bytes_eq name (codes "BIT_ENUMERATED")) _ _ _ x3
    (λ t y. named name (codes "BIT_ENUMERATED") var_type.BitEnumerated type t refl y)
    (λ _ y. absurd cc))))
  where
    named : (name word : Name) (one type : VarType) → bytes_eq name word ≡ true
        → word ≡ type_name one → Some one ≡ Some type → name ≡ type_name type
    named name word one type t w e = let same : one ≡ type =
        cc (e) in (bytes_eq-Decides name word).0 t ∙ w ∙ ap type_name same

type_of_again : (type : VarType) → type_of (type_name type) ≡ Some type
type_of_again var_type.Integer = refl
type_of_again _ = refl

-- which of four tests holds
pick : (a b c d : Bool) → Option VarType
pick a b c d = cond a (Some var_type.Integer)
    (cond b (Some var_type.UnsignedInteger)
    (cond c (Some var_type.Enumerated) (cond d (Some var_type.BitEnumerated) None)))

pick_none : (a b c d : Bool) → pick a b c d ≡ None → (a || (b || (c || (d || false)))) ≡ false
unfolding pick
pick_none true b c d e = absurd cc
pick_none false true c d e = absurd cc
pick_none false false true d e = absurd cc
pick_none false false false true e = absurd cc
pick_none false false false false e = refl

none_pick : (a b c d : Bool) → (a || (b || (c || (d || false)))) ≡ false → pick a b c d ≡ None
unfolding pick
none_pick true b c d e = absurd cc
none_pick false true c d e = absurd cc
none_pick false false true d e = absurd cc
none_pick false false false true e = absurd cc
none_pick false false false false e = refl

-- the name of no type
other_sound : (name : Name) → type_of name ≡ None → is_name_in type_names name ≡ false
unfolding pick
other_sound name e =
    rw (
      bytes_eq-comm (codes "INTEGER") name,
      bytes_eq-comm (codes "UNSIGNED_INTEGER") name,
      bytes_eq-comm (codes "ENUMERATED") name,
      bytes_eq-comm (codes "BIT_ENUMERATED") name,
    )
    (pick_none (bytes_eq name (codes "INTEGER")) (bytes_eq name (codes "UNSIGNED_INTEGER"))
    (bytes_eq name (codes "ENUMERATED")) (bytes_eq name (codes "BIT_ENUMERATED")) e)

other_again : (name : Name) → is_name_in type_names name ≡ false → type_of name ≡ None
unfolding pick
other_again name e =
    none_pick (bytes_eq name (codes "INTEGER")) (bytes_eq name (codes "UNSIGNED_INTEGER"))
    (bytes_eq name (codes "ENUMERATED")) (bytes_eq name (codes "BIT_ENUMERATED"))
    (rw (
      bytes_eq-comm name (codes "INTEGER"),
      bytes_eq-comm name (codes "UNSIGNED_INTEGER"),
      bytes_eq-comm name (codes "ENUMERATED"),
      bytes_eq-comm name (codes "BIT_ENUMERATED"),
    ) e)

not_false : (b : Bool) → b ≡ false → not b ≡ true
not_false b e = ap not e

false_not : (b : Bool) → not b ≡ true → b ≡ false
false_not true e = absurd cc
false_not false e = refl

-- ---- what comes after another word

behind_sound : (here rest : List Token) → behind_other here ≡ Some rest → OtherTypeHere here rest
unfolding behind_other
behind_sound [] rest e = absurd cc
behind_sound (Sign sign.Semicolon ∷ here) rest e = (
  [],
  Sign sign.Semicolon ∷ here,
  refl,
  inl (ap (λ u. Sign sign.Semicolon ∷ u) (let same : here ≡ rest = cc (e) in same)),
)
behind_sound (Sign sign.OpenBrace ∷ here) rest e =
    ([], Sign sign.OpenBrace ∷ here, refl, inr (here, refl, e))
behind_sound (Sign sign.CloseBrace ∷ here) rest e = absurd cc
behind_sound (t ∷ here) rest e = let h =
    behind_sound here rest e in (t ∷ h.0, h.1, (refl, here, refl, h.2), h.3)

inside_goes_on : (t : Token) (here : List Token) → is_inside_type t ≡ true → behind_other (t ∷ here)
    ≡ behind_other here
unfolding behind_other
inside_goes_on (Sign sign.Semicolon) here e = absurd cc
inside_goes_on (Sign sign.OpenBrace) here e = absurd cc
inside_goes_on (Sign sign.CloseBrace) here e = absurd cc
inside_goes_on _ here e = refl

end_again : (here rest : List Token) → OtherEndHere here rest → behind_other here ≡ Some rest
unfolding behind_other
end_again here rest (inl h) = ap behind_other h
end_again here rest (inr h) = ap behind_other h.1 ∙ h.2

behind_again : (skipped here from rest : List Token) → SkippedHere skipped here from
    → OtherEndHere from rest → behind_other here ≡ Some rest
behind_again [] here from rest s e = rw s (end_again from rest e)
behind_again (t ∷ ts) here from rest s e = ap behind_other s.2 ∙ inside_goes_on t s.1 s.0
    ∙ behind_again ts s.1 from rest s.3 e

braces_shorter : (depth : ℕ) (here rest : List Token) → behind_braces depth here ≡ Some rest
    → length rest ≤ length here
braces_shorter zero here rest e = let same : here ≡ rest = cc (e) in omega (arith, ap length same)
braces_shorter (suc depth) [] rest e = absurd cc
braces_shorter (suc depth) (Sign sign.OpenBrace ∷ here) rest e =
    omega (arith, braces_shorter (suc (suc depth)) here rest e)
braces_shorter (suc depth) (Sign sign.CloseBrace ∷ here) rest e =
    omega (arith, braces_shorter depth here rest e)
braces_shorter (suc depth) (_ ∷ here) rest e = omega (arith, braces_shorter (suc depth) here rest e)

end_shorter : (here rest : List Token) → OtherEndHere here rest → length rest ≤ length here
end_shorter here rest (inl h) = omega (arith, ap length h)
end_shorter here rest (inr h) = omega (arith, ap length h.1, braces_shorter 1 h.0 rest h.2)

skipped_shorter : (skipped here rest : List Token) → SkippedHere skipped here rest
    → length rest ≤ length here
skipped_shorter [] here rest h = omega (arith, ap length h)
skipped_shorter (t ∷ ts) here rest h = omega (arith, ap length h.2, skipped_shorter ts h.1 rest h.3)

-- ---- types

-- a type as it is written, and its parts
abbrev pub WrittenHere : Spelling WrittenType
WrittenHere w here rest = TypeHere w.0 w.1 here rest

abbrev pub written_height : WrittenType → ℕ
written_height w = tallest type_part_height w.1

known_sound : (height_left : ℕ) (type : VarType) (name : Name) (here behind : List Token)
    (w : WrittenType) (rest : List Token) → here ≡ Identifier name ∷ behind → name ≡ type_name type
    → known_type_at height_left type behind ≡ Some (w, rest) → WrittenHere w here rest
    × (written_height w ≤ height_left)
unfolding known_type_at
known_sound height_left type name here behind w rest h n x =
    let a = bind_some (size_at behind) _ (w, rest) x in
    let b = bind_some (type_parts_at height_left a.0.1) _ (w, rest) a.2 in
    let parts = type_parts_sound height_left a.0.1 b.0.0 b.0.1 b.1 in
    let named : here ≡ Identifier (type_name type) ∷ behind = h ∙ ap (λ m. Identifier m ∷ behind)
    n in
    as_read (λ (w : WrittenType) r. WrittenHere w here r × (written_height w ≤ height_left))
    (item.Known type a.0.0, b.0.0) w b.0.1 rest b.2
    ((behind, a.0.1, named, size_sound behind a.0.0 a.0.1 a.1, parts.0), parts.1)

other_type_sound : (height_left : ℕ) (name : Name) (here behind : List Token) (w : WrittenType)
    (rest : List Token) → here ≡ Identifier name ∷ behind → type_of name ≡ None
    → other_type_at name behind ≡ Some (w, rest) → WrittenHere w here rest
    × (written_height w ≤ height_left)
unfolding other_type_at
other_type_sound height_left name here behind w rest h n x =
    let a = bind_some (behind_other behind) _ (w, rest) x in
    as_read (λ (w : WrittenType) r. WrittenHere w here r × (written_height w ≤ height_left))
    (item.Other name, []) w a.0 rest a.2 (
      (
        refl,
        not_false (is_name_in type_names name) (other_sound name n),
        behind,
        h,
        behind_sound behind a.0 a.1,
      ),
      omega arith,
    )

pub type_sound : (height_left : ℕ)
    → SoundOf WrittenHere written_height height_left (type_at height_left)
unfolding type_at
type_sound height_left here w rest x =
    let a = bind_some (name_at here) _ (w, rest) x in
    let is = name_is here a.0.0 a.0.1 a.1 in
    elim (option_cases (type_of a.0.0) _ _ _ a.2) [
      | inl (n, y) ↦ other_type_sound height_left a.0.0 here a.0.1 w rest is n y
      | inr (type, e, y) ↦ known_sound height_left type a.0.0 here a.0.1 w rest is
          (type_of_sound a.0.0 type e) y
    ]

pub type_again : (height_left : ℕ) (type : TypeWord) (parts : List (TypePart Path))
    (here rest : List Token) → TypeHere type parts here rest → tallest type_part_height parts
    ≤ height_left
    → type_at height_left here ≡ Some ((type, parts), rest)
unfolding type_at known_type_at other_type_at
type_again height_left (item.Known type size) parts here rest h low =
    rw (
      h.2,
      type_of_again type,
      size_again size h.0 h.1 (type_parts_begin parts h.1 rest h.4) h.3,
      type_parts_again height_left parts h.1 rest h.4 low,
    ) refl
type_again height_left (item.Other name) parts here rest h low =
    rw (
      h.3,
      other_again name (false_not (is_name_in type_names name) h.1),
      behind_again h.4.0 h.2 h.4.1 rest h.4.2 h.4.3,
    )
    (ap (λ (p : List (TypePart Path)). Some ((item.Other name, p), rest)) (sym h.0))

pub type_shorter : (type : TypeWord) (parts : List (TypePart Path)) (here rest : List Token)
    → TypeHere type parts here rest → length rest < length here
type_shorter (item.Known type size) parts here rest h =
    omega (
      arith,
      ap length h.2,
      size_shorter size h.0 h.1 h.3,
      type_parts_shorter parts h.1 rest
          h.4,
    )
type_shorter (item.Other name) parts here rest h =
    omega (
      arith,
      ap length h.3,
      skipped_shorter h.4.0 h.2 h.4.1 h.4.2,
      end_shorter h.4.1 rest h.4.3,
    )
