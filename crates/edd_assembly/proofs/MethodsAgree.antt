-- The sections do what the methods of the description do, where the code of each body does.
use Rattle.std.proofs.Common.{◌≡◌, refl, sym, ap, ◌∙◌, subst, ℕ, ◌<◌, ◌^◌, Bool, true, false, List, map, Option, Some, None, IsTrue, length}
use Rattle.std.specs.Prelude.{◌==◌, ◌&&◌, slice_get, if◌then◌else◌, option_map, ⊤}
use Rattle.std.specs.List.{All, flat_map, list_all, list_any}
use Rattle.std.proofs.Math.Logic.{◌⊎◌, ⊎_elim}
use Rattle.std.proofs.lemmas.Bool.{false≢true, and_parts, eqb-true, le-ltb}
use Rattle.std.proofs.lemmas.List.Elements.{recursion_from_All}
use Rattle.edd_syntax.specs.declared.numbers.Kind.TheVariants as kind
use Rattle.edd_syntax.specs.declared.numbers.MethNo.{MethNo}
use Rattle.edd_syntax.specs.declared.numbers.ItemNo.{ItemNo}
use Rattle.edd_syntax.specs.declared.numbers.ItemNo.TheVariants as items_no
use Rattle.edd_syntax.specs.declared.numbers.Attr.TheVariants as attr
use Rattle.edd_syntax.specs.declared.reference.Target.{Target}
use Rattle.edd_syntax.specs.declared.words.Words as code_words
use Rattle.edd_syntax.specs.Numbers.{index_of, kind_number, kind_of, attr_number, same_attr}
use Rattle.edd_syntax.specs.Item.{Item, Description}
use Rattle.edd_syntax.specs.Resolution.{count_of}
use Rattle.edd_syntax.specs.Resolved.{IsChecked}
use Rattle.edd_syntax.specs.Words.{Words}
use Rattle.edd_syntax.specs.WordsView.{string_of}
use Rattle.edd_syntax.specs.Device.{environment}
use Rattle.edd_syntax.specs.Execution.{body_in, body_of, run_body}
use Rattle.edd_syntax.specs.Statement.{Body, Nil, slots_in}
use Rattle.edd_syntax.specs.Rows.{of_kind}
use Rattle.edd_instructions.specs.declared.unit.Sort.TheVariants.{Attribute, Method}
use Rattle.edd_instructions.specs.Agreement.{machine_of, string_of_table, string_numbered}
use Rattle.edd_image.specs.Contents.{part, Contents, contents_of}
use Rattle.edd_instructions.specs.AbortMethods.{Start, start_at, start_in}
use Rattle.edd_instructions.specs.Execution.{execute}
use Rattle.edd_image.specs.Layout.{AreSections}
use Rattle.edd_instructions.specs.MethodAgreement.{FollowsBody, started, IsBodyOf, EachIsBody, IsMethodCode, AgreesOnMethod, AgreesOnMethods}
use Rattle.edd_instructions.specs.Reading as image
use Rattle.edd_instructions.specs.Reading.{environment_of}
use Rattle.edd_image.specs.Existing.{item_exists}
use Rattle.edd_instructions.specs.Steps.{Environment}
use Rattle.edd_image.specs.Strings.{string_bytes, is_words}
use Rattle.edd_instructions.proofs.JoinedAgreement.{joined_agree}
use Rattle.edd_assembly.specs.Assembly.{Lowered, assembled}
use Rattle.edd_assembly.specs.LoweredUnits.{IsMethodOf, AreUnitsOf}
use Rattle.edd_assembly.proofs.AttributesAgree.{contents, kept, kept_back, same_types, existing, past}
use Rattle.edd_assembly.proofs.BodiesStand.{written}
use Rattle.edd_assembly.proofs.Cutting.{code_of, code_cut}
use Rattle.edd_assembly.proofs.RowsFound.{Found, passes, of_body, found_or_none}
use Rattle.edd_assembly.proofs.RowsRise.{key}
use Rattle.edd_assembly.proofs.RunsAgree.{follows_kept}
use Rattle.edd_assembly.proofs.SectionsAgree.{short}
use Rattle.edd_assembly.proofs.SoundStrings.{strings_valid}

-- ---- the code of a method's row

module _ (unit : Description Target) (strings : List Words) (m : MethNo) where
  same_method : (n : MethNo) → (n.0 == m.0) ≡ true → n ≡ m
  same_method n h = ap (λ (k : ℕ). record { 0 = k }) (eqb-true n.0 m.0 h)

  method_code : (l : Lowered) → IsMethodOf unit strings l → passes (of_body m) (key l.row) ≡ true
      → IsMethodCode unit strings m l.row.sub l.code
  method_code l is passed =
      let behind = (and_parts (kind_number (kind_of l.row.item) == 5) (attr_number l.row.attr == 21
      && index_of l.row.item == m.0) passed).1 in
      let parts = and_parts (attr_number l.row.attr == 21) (index_of l.row.item == m.0) behind in
      pick (same_attr l.row.attr attr.Definition) is parts.0 parts.1
    where
      pick : (b : Bool) → (elim b as (λ w. Type 0) [
        | true ↦ (n : MethNo)
            × (l.row.item ≡ items_no.Method n) × IsMethodCode unit strings n l.row.sub l.code
        | false ↦ ⊤
      ])
          → b ≡ true → (index_of l.row.item == m.0) ≡ true
          → IsMethodCode unit strings m l.row.sub l.code
      pick true code is at = subst (λ (n : MethNo). IsMethodCode unit strings n l.row.sub l.code)
          (same_method code.0 (ap (λ (i : ItemNo). index_of i == m.0) (sym code.1) ∙ at)) code.2
      pick false code is at = absurd (false≢true is)

-- ---- the code of each method

module _ (unit : Description Target) (lowered : List Lowered) (strings : List Words)
    (checked : ∥ IsChecked unit ∥₁) (units : AreUnitsOf unit strings lowered)
    (methods : All (IsMethodOf unit strings) lowered) (valid : list_all is_words strings ≡ true)
    (short : length (flat_map string_bytes strings) < 2 ^ 32) where
  abbrev c : Contents
  c = contents unit lowered strings units valid short

  module _ (m : MethNo) where
    abbrev is_written : Bool
    is_written = list_any (λ (l : Lowered). passes (of_body m) (key l.row)) lowered

    searched : (Found (of_body m) c.code (IsMethodOf unit strings) (image.body_of c m)
        × (is_written ≡ true)) ⊎ ((image.body_of c m ≡ None) × (is_written ≡ false))
    unfolding assembled
    searched = found_or_none (of_body m) (flat_map code_of lowered) (IsMethodOf unit strings) 0
        lowered (code_cut lowered) (recursion_from_All (IsMethodOf unit strings) lowered methods)

    -- a method without a row isn't there
    empty : (o : Option (Item Target)) → slice_get (of_kind kind.Method unit.items) m.0 ≡ o
        → is_written ≡ false → body_of unit m ≡ Nil
    empty None none unwritten =
        ap (λ (o : Option (Item Target)). elim o as (λ _. Body Target) [
          | Some i ↦ body_in i.attributes
          | None ↦ Nil
        ]) none
    empty (Some i) is unwritten =
        absurd (false≢true (sym unwritten ∙ written unit strings lowered checked units m i is))

    -- what the code of a row does alone, whose sort is told by the number of its attribute
    abbrev Follows : Environment → (attribute : ℕ) → (code : List ℕ) → Type 0
    Follows env attribute code = FollowsBody (string_of_table strings) (environment unit).variables
        (λ n s. run_body n (environment unit) (body_of unit m) s)
        (λ k s. execute env k (started (record {
          sort = if attribute == 21 then Method else Attribute;
          code = code;
        }) s) s.answers)

    is_body_by : (f : Found (of_body m) c.code (IsMethodOf unit strings) (image.body_of c m))
        → IsBodyOf unit c m (start_in c m)
    is_body_by f =
        let code = method_code unit strings m f.unit f.kept f.same in
        let body = (and_parts (attr_number f.unit.row.attr == 21) (index_of f.unit.row.item == m.0)
        (and_parts (kind_number (kind_of f.unit.row.item) == 5) (attr_number f.unit.row.attr == 21
        && index_of f.unit.row.item == m.0) f.same).1).0 in
        let attribute : f.row.attribute ≡ 21 = f.attribute
        ∙ eqb-true (attr_number f.unit.row.attr) 21 body in
        let start = start_at c f.row in
        let slots : start.slots ≡ slots_in (body_of unit m) =
        ap (λ (n : ℕ). if n == 21 then f.row.sub else 0) attribute ∙ f.sub ∙ code.locals in
        let follows : Follows (environment_of c) f.row.attribute (part f.row.span c.code) =
        subst (λ (env : Environment). Follows env f.row.attribute (part f.row.span c.code))
        (sym (same_types unit lowered strings units valid short))
        (subst (λ (bytes : List ℕ). Follows (machine_of (environment unit)) f.row.attribute bytes)
        (sym f.code)
        (subst (λ (n : ℕ). Follows (machine_of (environment unit)) n f.unit.code)
        (sym attribute) code.follows)) in
        let is : IsBodyOf unit c m (Some start) = (
          slots,
          follows_kept (string_of_table strings) (string_numbered c)
              (kept unit lowered strings units valid short)
              (kept_back unit lowered strings units valid short) (environment unit).variables
              (λ n s. run_body n (environment unit) (body_of unit m) s)
              (λ k s. execute (environment_of c) k (started start.unit s) s.answers) follows,
        ) in
        subst (λ (o : Option Start). IsBodyOf unit c m o)
        (sym (ap (option_map (start_at c)) f.is)) is

    is_body : IsBodyOf unit c m (start_in c m)
    is_body = ⊎_elim (λ found. is_body_by found.0)
        (λ none. subst (λ (o : Option Start). IsBodyOf unit c m o)
        (sym (ap (option_map (start_at c)) none.0))
        (empty (slice_get (of_kind kind.Method unit.items) m.0) refl none.1)) searched

  is_each : EachIsBody unit c
  is_each m = is_body m

  module _ (m : MethNo) (there : IsTrue (item_exists c.counts (items_no.Method m))) where
    found_there : (o : Option (Item Target))
        → slice_get (of_kind kind.Method unit.items) m.0 ≡ o → is_written m ≡ true
    found_there None none =
        absurd (false≢true (sym (le-ltb m.0 (count_of kind.Method unit.items)
        (past (of_kind kind.Method unit.items) m.0 none))
        ∙ sym (existing unit lowered strings units valid short (items_no.Method m)) ∙ there))
    found_there (Some i) is = written unit strings lowered checked units m i is

    pub method_agrees : AgreesOnMethod unit c m
    method_agrees = ⊎_elim
        (λ found. record {
          row = found.0.row;
          found = found.0.is;
          agrees = joined_agree unit c is_each m found.0.row found.0.is;
        })
        (λ none. absurd (false≢true (sym none.1
        ∙ found_there (slice_get (of_kind kind.Method unit.items) m.0) refl))) (searched m)

pub all_methods_agree : (unit : Description Target) (lowered : List Lowered)
    (words : List code_words.Words) → ∥ IsChecked unit ∥₁
    → AreUnitsOf unit (map string_of words) lowered
    → All (IsMethodOf unit (map string_of words)) lowered
    → AreSections (assembled unit lowered (map string_of words))
    → AgreesOnMethods unit (contents_of (assembled unit lowered (map string_of words)))
all_methods_agree unit lowered words checked units methods sections m there =
    method_agrees unit lowered (map string_of words) checked units methods (strings_valid words)
    (short unit lowered (map string_of words) sections) m there
