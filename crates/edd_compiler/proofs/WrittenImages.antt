-- What is written of the units of a description's rows.
use Rattle.std.proofs.Common.{◌≡◌, sym, ap, subst, ◌∙◌, ℕ, ◌<◌, ◌≤◌, List, length, map, arith}
use Rattle.std.specs.Prelude.{sum}
use Rattle.std.specs.List.{All, flat_map}
use Rattle.edd_syntax.specs.declared.numbers.MethNo.{MethNo}
use Rattle.edd_syntax.specs.declared.reference.Target.{Target}
use Rattle.edd_syntax.specs.declared.words.Words as in_code
use Rattle.edd_syntax.specs.Resolved.{IsChecked}
use Rattle.edd_syntax.specs.Rows.{rows}
use Rattle.edd_syntax.specs.Words.{Words}
use Rattle.edd_syntax.specs.WordsView.{string_of}
use Rattle.edd_syntax.specs.Item.{Description}
use Rattle.edd_instructions.specs.Agreement.{AgreesOnData}
use Rattle.edd_image.specs.Contents.{contents_in, contents_of}
use Rattle.edd_image.specs.Layout.{Sections, AreSections, layout}
use Rattle.edd_instructions.specs.MethodAgreement.{Agrees, AgreesOnMethods, IsMethodCode}
use Rattle.edd_instructions.specs.Validity.{code_limit, IsSound, IsValid}
use Rattle.edd_assembly.specs.declared.units.Lowered as in_code_units
use Rattle.edd_assembly.specs.Assembly.{Lowered, assembled}
use Rattle.edd_assembly.specs.Views.{lowered_of}
use Rattle.edd_assembly.specs.LoweredUnits.{AreUnitsOf, IsBodyCode, IsMethodOf}
use Rattle.edd_assembly.specs.RowContents.{limit_of_row}
use Rattle.edd_compiler.specs.Lowering.{HasLowered}
use Rattle.edd_compiler.proofs.ImageParts.{are_methods, are_units, code_within}

-- what is said of a table and its units is said of the words and the units that are handed on
pub handed_on : (d : Description Target) {table : List Words} (words : List in_code.Words)
    (units given : List in_code_units.Lowered)
    → HasLowered d (rows d.items) table (map lowered_of units) → map string_of words ≡ table
    → given ≡ units
    → HasLowered d (rows d.items) (map string_of words) (map lowered_of given)
handed_on d words units given has table same =
    subst (λ us. HasLowered d (rows d.items) (map string_of words) (map lowered_of us)) (sym same)
    (subst (λ t. HasLowered d (rows d.items) t (map lowered_of units)) (sym table) has)

module _ (d : Description Target) (words : List in_code.Words) (units : List Lowered)
    (has : HasLowered d (rows d.items) (map string_of words) units) (s : Sections)
    (made : s ≡ assembled d units (map string_of words))
    (few : length (map string_of words) ≤ 65535) (checked : ∥ IsChecked d ∥₁)
    (bodies : (m : MethNo) (slots : ℕ) (code : List ℕ)
    → IsMethodCode d (map string_of words) m slots code
    → IsBodyCode d (map string_of words) slots code) where
  their_units : AreUnitsOf d (map string_of words) units
  their_units = are_units d (map string_of words) few bodies units has

  module _ (short : ∥ IsChecked d ∥₁ → sum (map (limit_of_row d) (rows d.items)) ≤ 16777216) where
    code_of_units : length s.code ≡ length (flat_map (λ l. l.code) units)
    unfolding assembled
    code_of_units = ap (λ x. length x.code) made

    pub is_short : length s.code ≤ 16777216
    is_short =
        let same = code_of_units in
        let within = code_within d (map string_of words) units has in
        let limit = short checked in
        omega arith

    pub never_longer : 16777216 < length s.code → ⊥
    never_longer longer = let within = is_short in omega arith

    pub is_valid : AreSections s
        → ((lowered : List Lowered) (ws : List in_code.Words) → ∥ IsChecked d ∥₁
        → AreUnitsOf d (map string_of ws) lowered
        → AreSections (assembled d lowered (map string_of ws))
        → IsSound (contents_of (assembled d lowered (map string_of ws))))
        → ((x : Sections) → AreSections x → length x.code ≤ code_limit → IsSound (contents_of x)
        → IsValid (layout x))
        → IsValid (layout s)
    is_valid fit sound valid = valid s fit is_short
        (subst (λ x. IsSound (contents_of x)) (sym made)
        (sound units words checked their_units (subst AreSections made fit)))

  same_contents : AreSections s
      → ((x : Sections) → AreSections x → contents_in (layout x) ≡ contents_of x)
      → contents_of (assembled d units (map string_of words)) ≡ contents_in (layout s)
  same_contents fit read = ap contents_of (sym made) ∙ sym (read s fit)

  pub agrees : AreSections s
      → ((lowered : List Lowered) (ws : List in_code.Words)
      → AreUnitsOf d (map string_of ws) lowered
      → AreSections (assembled d lowered (map string_of ws))
      → AgreesOnData d (contents_of (assembled d lowered (map string_of ws))))
      → ((lowered : List Lowered) (ws : List in_code.Words) → ∥ IsChecked d ∥₁
      → AreUnitsOf d (map string_of ws) lowered → All (IsMethodOf d (map string_of ws)) lowered
      → AreSections (assembled d lowered (map string_of ws))
      → AgreesOnMethods d (contents_of (assembled d lowered (map string_of ws))))
      → ((x : Sections) → AreSections x → contents_in (layout x) ≡ contents_of x)
      → Agrees d (contents_in (layout s))
  agrees fit agree run read =
      let there = subst AreSections made fit in
      subst (Agrees d) (same_contents fit read) (record {
        on_data = agree units words their_units there;
        on_methods = run units words checked their_units
            (are_methods d (map string_of words) few units has) there;
      })
