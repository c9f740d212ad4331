-- The marks of menus that others name, one menu after the other.
use Rattle.std.proofs.Common.{◌≡◌, refl, sym, ap, ◌∙◌, ℕ, ◌+◌, ◌<◌, ◌≤◌, Bool, true, false, List, [], ◌∷◌, ◌++◌, length, get_or, drop, arith, append_assoc}
use Rattle.std.proofs.lemmas.List.{at_drop_more, at_drop_all, append-nil, length-set}
use Rattle.std.specs.Prelude.{replicate, slice_set, ◌==◌, if◌then◌else◌}
use Rattle.edd_syntax.specs.declared.numbers.Attr.TheVariants as attr
use Rattle.edd_syntax.specs.declared.numbers.AttrRef.{AttrRef}
use Rattle.edd_syntax.specs.declared.numbers.ItemNo.TheVariants as items
use Rattle.edd_syntax.specs.declared.numbers.MenuNo.{MenuNo}
use Rattle.edd_image.specs.declared.parts.Counts.{Counts}
use Rattle.edd_instructions.specs.declared.records.Record.{Record}
use Rattle.edd_instructions.specs.declared.records.Record.TheVariants as records
use Rattle.edd_instructions.specs.Reading.{Reading}
use Rattle.edd_panel.specs.declared.place.Place.TheVariants as place
use Rattle.edd_panel.specs.Screens.{unmarked, unmarked_from, AreItems, AreTops, mark_entries, mark_entry, mark_menus, of_item, records_of, tops_of}

module _ (counts : Counts) (reads : AttrRef → Reading → Type 0) where
  -- whatever ITEMS of the menus from a number on are, with those so far they are those of all menus
  abbrev pub MarksFrom : (count number : ℕ) → List Bool → Type 0
  MarksFrom count number named = (rest : List (List Record)) → length rest + number ≡ count
      → AreItems counts reads number rest
      → (all : List (List Record)) × (length all ≡ count) × AreItems counts reads 0 all
      × (mark_menus 0 all (replicate count false) ≡ mark_menus number rest named)

  pub marks_first : (count : ℕ) (named : List Bool) → named ≡ replicate count false
      → MarksFrom count 0 named
  marks_first count named is rest long are = (
    rest,
    omega (arith, long),
    are,
    ap (λ (marks : List Bool). mark_menus 0 rest marks) (sym is),
  )

  pub marks_step : (count number : ℕ) (old new : List Bool) (r : Reading)
      → reads (of_item (items.Menu (record { 0 = number })) attr.Items) r
      → new ≡ mark_entries number (records_of r) old
      → MarksFrom count number old → MarksFrom count (number + 1) new
  marks_step count number old new r is marks so_far rest long are =
      let one : length (records_of r ∷ rest) + number ≡ count = omega (arith, long) in
      let whole = so_far (records_of r ∷ rest) one ((r, is, refl), are) in (
        whole.0,
        whole.1,
        whole.2,
        whole.3 ∙ ap (λ (x : List Bool). mark_menus (number + 1) rest x) (sym marks),
      )

  pub marks_all : (count number : ℕ) (named : List Bool) (tops : List MenuNo)
      → count ≡ counts.menus → number ≡ count → tops ≡ tops_of named → MarksFrom count number named
      → AreTops counts reads tops
  marks_all count number named tops all_menus end are so_far =
      let rows : List (List Record) = [] in
      let none : length rows + number ≡ count = omega (arith, end) in
      let whole = so_far rows none tt in (
        whole.0,
        whole.1 ∙ all_menus,
        whole.2,
        are ∙ ap tops_of (sym whole.3
            ∙ ap (λ (n : ℕ). mark_menus 0 whole.0 (replicate n false)) all_menus),
      )

-- ---- a mark keeps the number of menus

one_as_long : (of : ℕ) (r : Record) (marks : List Bool)
    → length (mark_entry of r marks) ≡ length marks
one_as_long of (records.Entry (items.Menu m) quals) marks =
    elim (m.0 == of) as (λ b. length (if b then marks else slice_set marks m.0 true) ≡ length marks) [
      | true ↦ refl
      | false ↦ length-set marks m.0 true
    ]
one_as_long of _ marks = refl

pub as_long : (of : ℕ) (rs : List Record) (marks : List Bool)
    → length (mark_entries of rs marks) ≡ length marks
as_long of [] marks = refl
as_long of (r ∷ rest) marks = as_long of rest (mark_entry of r marks) ∙ one_as_long of r marks

-- ---- the menus without a mark

pub unmarked_step : (all : Bool) (named : List Bool) (i : ℕ) (d : Bool) (start old new : List MenuNo)
    → i < length named → new ≡ old ++ unmarked all i (get_or named i d)
    → old ++ unmarked_from all i (drop i named) ≡ start
    → new ++ unmarked_from all (i + 1) (drop (i + 1) named) ≡ start
unmarked_step all named i d start old new within is so_far =
    ap (λ (xs : List MenuNo). xs ++ unmarked_from all (i + 1) (drop (i + 1) named)) is
    ∙ append_assoc old (unmarked all i (get_or named i d)) (unmarked_from all (i + 1) (drop (i + 1) named))
    ∙ ap (λ (xs : List MenuNo). old ++ xs)
    (sym (at_drop_more (λ (ys : List Bool). unmarked_from all i ys) named i d within)) ∙ so_far

pub unmarked_end : (all : Bool) (named : List Bool) (i : ℕ) (start old : List MenuNo)
    → length named ≤ i → old ++ unmarked_from all i (drop i named) ≡ start → old ≡ start
unmarked_end all named i start old over so_far =
    sym (ap (λ (xs : List MenuNo). old ++ xs)
    (at_drop_all (λ (ys : List Bool). unmarked_from all i ys) named i over) ∙ append-nil old) ∙ so_far

-- ---- a menu in place of the top

pub valid_menu : (result valid : Bool) (m : MenuNo) → result ≡ valid → result ≡ true
    → place.Menu m ≡ (if valid then place.Menu m else place.Top)
valid_menu result true m is e = refl
valid_menu result false m is e = let both : true ≡ false = sym e ∙ is in absurd cc

pub no_valid_menu : (result valid : Bool) (m : MenuNo) → result ≡ valid → result ≡ false
    → place.Top ≡ (if valid then place.Menu m else place.Top)
no_valid_menu result true m is e = let both : false ≡ true = sym e ∙ is in absurd cc
no_valid_menu result false m is e = refl
