-- What one turn of the loop over element rows does to the test of the rows from there on.
use Rattle.std.proofs.Common.{◌≡◌, Bool, true, false, ◌&&◌, List, [], ◌∷◌, refl, sym, ap, ◌∙◌}
use Rattle.std.specs.List.{list_all}
use Rattle.std.proofs.lemmas.Bool.{and_left, and_right}
use Rattle.edd_syntax.specs.declared.numbers.Element.{Element}
use Rattle.edd_instructions.specs.Validity.{elements_rise}
use Rattle.edd_loader.specs.Rows.{is_before_next}

rise_splits : (e : Element) (rest : List Element)
    → elements_rise (e ∷ rest) ≡ (is_before_next e rest && elements_rise rest)
rise_splits e [] = refl
rise_splits e (next ∷ rest) = refl

elements_split : (p : Element → Bool) (rows rest : List Element) (e : Element) → rows ≡ e ∷ rest
    → (list_all p rows && elements_rise rows)
    ≡ ((p e && list_all p rest) && (is_before_next e rest && elements_rise rest))
elements_split p rows rest e is =
    rw is (ap (λ (b : Bool). (p e && list_all p rest) && b) (rise_splits e rest))

pub element_goes : (p : Element → Bool) (rows rest : List Element) (e : Element) (total : Bool)
    → rows ≡ e ∷ rest → p e ≡ true → is_before_next e rest ≡ true
    → (list_all p rows && elements_rise rows) ≡ total
    → (list_all p rest && elements_rise rest) ≡ total
element_goes p rows rest e total is passes before so_far =
    rw (passes, before) at (sym (elements_split p rows rest e is) ∙ so_far)

pub element_fails : (p : Element → Bool) (rows rest : List Element) (e : Element) (total : Bool)
    → rows ≡ e ∷ rest → p e ≡ false → (list_all p rows && elements_rise rows) ≡ total
    → false ≡ total
element_fails p rows rest e total is fails so_far =
    sym (and_left (p e && list_all p rest) _ (and_left (p e) _ fails))
    ∙ (sym (elements_split p rows rest e is) ∙ so_far)

pub element_falls : (p : Element → Bool) (rows rest : List Element) (e : Element) (total : Bool)
    → rows ≡ e ∷ rest → is_before_next e rest ≡ false
    → (list_all p rows && elements_rise rows) ≡ total → false ≡ total
element_falls p rows rest e total is fails so_far =
    sym (and_right (p e && list_all p rest) _ (and_left (is_before_next e rest) _ fails))
    ∙ (sym (elements_split p rows rest e is) ∙ so_far)

pub element_done : (p : Element → Bool) (rows : List Element) (total : Bool) → rows ≡ []
    → (list_all p rows && elements_rise rows) ≡ total → true ≡ total
element_done p rows total is so_far = rw is at so_far
