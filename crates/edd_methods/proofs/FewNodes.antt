-- A method's body has no more nodes than its description, which has few when it is checked.
use Rattle.std.proofs.Common.{ℕ, ◌≤◌, List, [], ◌∷◌, ◌++◌, map, arith}
use Rattle.std.specs.Prelude.{sum}
use Rattle.std.specs.List.{AllByRecursion, flat_map}
use Rattle.std.proofs.lemmas.List.Sums.{sum_by-cons}
use Rattle.edd_syntax.specs.declared.numbers.MethNo.{MethNo}
use Rattle.edd_syntax.specs.declared.reference.Target.{Target}
use Rattle.edd_syntax.specs.Execution.{body_of}
use Rattle.edd_syntax.specs.Item as item
use Rattle.edd_syntax.specs.Item.{Attribute, Item, Description}
use Rattle.edd_syntax.specs.Resolved.{IsChecked}
use Rattle.edd_syntax.specs.Size.{attribute_nodes, body_nodes, item_nodes}
use Rattle.edd_syntax.specs.Statement.{Body}
use Rattle.edd_code.proofs.FewNodes.{few_nodes}
use Rattle.edd_methods.proofs.CheckedBodies.{OfBody, of_method}

-- at most so many nodes
abbrev Few : (n : ℕ) → Body Target → Type 0
Few n body = body_nodes body ≤ n

one_few : (n : ℕ) (a : Attribute Target) → attribute_nodes a ≤ n → OfBody (Few n) a
one_few n (item.Definition body) h = omega (arith, h)
one_few n _ h = tt

attributes_few : (n : ℕ) (xs : List (Attribute Target)) → sum (map attribute_nodes xs) ≤ n
    → AllByRecursion (OfBody (Few n)) xs
attributes_few n [] h = tt
attributes_few n (a ∷ rest) h =
    let all = sum_by-cons (λ k. k) (attribute_nodes a) (map attribute_nodes rest) in
    (one_few n a (omega (arith, h, all)), attributes_few n rest (omega (arith, h, all)))

joined : (P : Attribute Target → Type 0) (xs ys : List (Attribute Target)) → AllByRecursion P xs
    → AllByRecursion P ys → AllByRecursion P (xs ++ ys)
joined P [] ys h k = k
joined P (x ∷ xs) ys h k = (h.0, joined P xs ys h.1 k)

items_few : (n : ℕ) (items : List (Item Target)) → sum (map item_nodes items) ≤ n
    → AllByRecursion (OfBody (Few n)) (flat_map (λ i. i.attributes) items)
items_few n [] h = tt
items_few n (i ∷ rest) h =
    let all = sum_by-cons (λ k. k) (item_nodes i) (map item_nodes rest) in
    joined (OfBody (Few n)) i.attributes (flat_map (λ i. i.attributes) rest)
    (attributes_few n i.attributes (omega (arith, h, all)))
    (items_few n rest (omega (arith, h, all)))

pub few_in_body : (d : Description Target) → ∥ IsChecked d ∥₁ → (m : MethNo)
    → body_nodes (body_of d m) ≤ 524288
few_in_body d is m = of_method (Few 524288) (omega arith) d m
    (items_few 524288 d.items (few_nodes d is))
