-- What is shown is always the same.
use Rattle.std.proofs.Common.{◌≡◌, ℕ, ℤ, List, [], ◌∷◌, ◌++◌, sym, ap, ◌∙◌}
use Rattle.edd_syntax.specs.declared.numbers.AttrRef.{AttrRef}
use Rattle.edd_image.specs.Contents.{contents_in}
use Rattle.edd_instructions.specs.Reading.{Reading, IsReading}
use Rattle.edd_display.specs.Shown.{Entry, Identification, Head, Row, LineOf, Shows, reading_line}

-- what is read of an attribute is always the same
abbrev pub OneReading : Type 0
OneReading = (b : List ℕ) (ref : AttrRef) (values : List ℤ) (r q : Reading)
    → IsReading b ref values r → IsReading b ref values q → r ≡ q

module _ (unique : OneReading) (b : List ℕ) (values : List ℤ) (code : List ℕ) where
  one_line : (e : Entry) (line other : List ℕ) → LineOf b values code e line
      → LineOf b values code e other → line ≡ other
  unfolding LineOf
  one_line Identification line other p q = p ∙ sym q
  one_line (Head item) line other p q = p ∙ sym q
  one_line (Row ref) line other (r, is, shown) (s, too, seen) =
      shown ∙ ap (reading_line (contents_in b) code ref) (unique b ref values r s is too) ∙ sym seen

  pub one_text : (entries : List Entry) (text other : List ℕ) → Shows b values code entries text
      → Shows b values code entries other → text ≡ other
  unfolding Shows
  one_text [] text other p q = p ∙ sym q
  one_text (e ∷ rest) text other (line, behind, here, later, whole) (line2, behind2, here2, later2, whole2) =
      whole ∙ ap (λ x. x ++ behind) (one_line e line line2 here here2)
      ∙ ap (λ x. line2 ++ x) (one_text rest behind behind2 later later2) ∙ sym whole2
