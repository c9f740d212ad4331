-- Marks as the numbers of operands that they tell, and as the places where there are instructions.
use Rattle.std.proofs.Common.{◌≡◌, ℕ, ◌<◌, ◌≤◌, true, false, List, [], ◌∷◌, length, get_or, set, replicate, zero, suc, Some, None, refl, sym, ap, ◌∙◌, arith}
use Rattle.std.proofs.lemmas.Bool.{le-ltb}
use Rattle.std.proofs.lemmas.List.{map-set}
use Rattle.std.proofs.Math.ListN.{get_or-map}
use Rattle.std.proofs.Math.Seq.{map-set_same}
use Rattle.edd_unit_rules.specs.declared.marks.Mark.{Mark}
use Rattle.edd_unit_rules.specs.declared.marks.Mark.TheVariants.{Unknown, Awaited, Stands}
use Rattle.edd_unit_rules.specs.Depths.{Table, known, enter}
use Rattle.edd_unit_rules.specs.Marks.{depth_known, is_stood_on, is_settled, depths, stood_on}

pub known_is : (marks : List Mark) (q : ℕ) → known (depths marks) q
    ≡ depth_known (get_or marks q Unknown)
known_is marks q = get_or-map depth_known marks q Unknown

pub stood_is : (marks : List Mark) (q : ℕ) → get_or (stood_on marks) q false
    ≡ is_stood_on (get_or marks q Unknown)
stood_is marks q = get_or-map is_stood_on marks q Unknown

settled_stands : (m : Mark) (d : ℕ) → is_settled m ≡ true → depth_known m ≡ Some d
    → is_stood_on m ≡ true
settled_stands (Stands n) d s e = refl
settled_stands _ d s e = absurd cc

-- where all is settled, there is an instruction wherever a number is known
pub settled : (marks : List Mark) → ((q : ℕ) → is_settled (get_or marks q Unknown) ≡ true)
    → (q d : ℕ) → known (depths marks) q ≡ Some d → get_or (stood_on marks) q false ≡ true
settled marks all q d e = stood_is marks q ∙ settled_stands (get_or marks q Unknown) d (all q)
    (sym (known_is marks q) ∙ e)

pub nothing_known : (n : ℕ) → depths (replicate n Unknown) ≡ replicate n None
nothing_known zero = refl
nothing_known (suc n) = ap (λ (t : Table). None ∷ t) (nothing_known n)

pub nothing_stands : (n q : ℕ) → get_or (stood_on (replicate n Unknown)) q false ≡ false
nothing_stands n q = stood_is (replicate n Unknown) q ∙ ap is_stood_on (unknown n q)
  where
    unknown : (n q : ℕ) → get_or (replicate n Unknown) q Unknown ≡ Unknown
    unknown zero q = refl
    unknown (suc n) zero = refl
    unknown (suc n) (suc q) = unknown n q

-- ---- a number is noted

pub noted_depths : (marks : List Mark) (place depth : ℕ) → get_or marks place Unknown ≡ Unknown
    → depth ≤ 128 → Some (depths (set marks place (Awaited depth)))
    ≡ enter (depths marks) place depth
unfolding enter
noted_depths marks place depth e small =
    rw (le-ltb 128 depth small, known_is marks place, e)
    (ap (λ (t : Table). Some t) (map-set depth_known marks place (Awaited depth)))

pub noted_stood : (marks : List Mark) (place depth : ℕ) → get_or marks place Unknown ≡ Unknown
    → stood_on (set marks place (Awaited depth)) ≡ stood_on marks
noted_stood marks place depth e = map-set_same is_stood_on marks place (Awaited depth) Unknown
    (sym (ap is_stood_on e))

pub stands_depths : (marks : List Mark) (place depth : ℕ) → depths (set marks place (Stands depth))
    ≡ set (depths marks) place (Some depth)
stands_depths marks place depth = map-set depth_known marks place (Stands depth)

pub stands_stood : (marks : List Mark) (place depth : ℕ) → stood_on (set marks place (Stands depth))
    ≡ set (stood_on marks) place true
stands_stood marks place depth = map-set is_stood_on marks place (Stands depth)

-- the mark that was read at a place
pub mark_there : (marks : List Mark) (place : ℕ) (m : Mark) → place < length marks
    → m ≡ get_or marks place m → get_or marks place Unknown ≡ m
mark_there [] place m inside e = absurd (omega (arith, inside))
mark_there (x ∷ xs) zero m inside e = sym e
mark_there (x ∷ xs) (suc place) m inside e = mark_there xs place m (omega (arith, inside)) e
