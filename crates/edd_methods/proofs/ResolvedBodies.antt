-- The bodies of a resolved description have slots for their declarators, at most 64.
use Rattle.std.proofs.Common.{◌≡◌, refl, ℕ, ◌+◌, ◌≤◌, Bool, true, false, List, [], ◌∷◌, ◌++◌, Some, arith}
use Rattle.std.specs.Prelude.{nat_lt, ◌||◌, map, sum}
use Rattle.std.specs.List.{AllByRecursion, fold, list_any}
use Rattle.std.proofs.lemmas.Bool.Decides.{nat_tests}
use Rattle.edd_syntax.specs.declared.numbers.MethNo.{MethNo}
use Rattle.edd_syntax.specs.declared.reference.Target.{Target}
use Rattle.edd_syntax.specs.Reference.{Path}
use Rattle.edd_syntax.specs.Execution.{body_of}
use Rattle.edd_syntax.specs.Item as item
use Rattle.edd_syntax.specs.Item.{ItemKind, Attribute, Item, Description}
use Rattle.edd_syntax.specs.NameRules.{item_limit, transaction_limit, local_limit, node_limit, locals_of, transaction_count, too_many}
use Rattle.edd_syntax.specs.Refusal.{Refusal, TooMany, refused_if}
use Rattle.edd_syntax.specs.Resolution.{count_of, kinds}
use Rattle.edd_syntax.specs.Resolved.{IsResolved}
use Rattle.edd_syntax.specs.ResolvedTrees.{resolved_body, meant_in, Reading}
use Rattle.edd_syntax.specs.Size.{unit_nodes}
use Rattle.edd_syntax.specs.declared.limits.Limit.TheVariants as limit
use Rattle.edd_syntax.specs.Statement.{Body, Nil, slots_in}
use Rattle.edd_code.proofs.Fitting.{front_none}
use Rattle.edd_methods.specs.TreeExpressions.{EachSlot}
use Rattle.edd_methods.proofs.CheckedBodies.{OfBody, of_method}
use Rattle.edd_methods.proofs.ResolvedSlots.{each_slot, body_in}
use Rattle.edd_methods.proofs.ResolvedUnits.{unit_made}

-- at most 64 slots
abbrev HasFew : {R : Type 0} → Body R → Type 0
HasFew body = slots_in body ≤ local_limit

-- and each declarator has one of them
abbrev pub KeepsSlots : Body Target → Type 0
KeepsSlots body = HasFew body × EachSlot (slots_in body) body

-- a sum, by its first number
sum_more : (a : ℕ) (ns : List ℕ) → fold ◌+◌ a ns ≡ a + fold ◌+◌ 0 ns
sum_more a [] = omega arith
sum_more a (n ∷ ns) = omega (arith, sum_more (a + n) ns, sum_more (0 + n) ns)

sum_cons : {A : Type 0} (f : A → ℕ) (x : A) (xs : List A) → sum (map f (x ∷ xs)) ≡ f x
    + sum (map f xs)
sum_cons f x xs = omega (arith, sum_more (0 + f x) (map f xs))

-- ---- no item has more than 64 locals

few_in : (sort : ItemKind) (name : _) (xs : List (Attribute Path))
    → locals_of (record { sort = sort; name = name; attributes = xs }) ≤ local_limit
    → AllByRecursion (OfBody HasFew) xs
few_in sort name [] few = tt
few_in sort name (item.Definition body ∷ rest) few =
    let split : locals_of (record {
      sort = sort;
      name = name;
      attributes = item.Definition body
          ∷ rest;
    }) ≡ slots_in body
    + locals_of (record { sort = sort; name = name; attributes = rest }) =
    sum_cons _ (item.Definition body) rest in
    (omega (arith, split, few), few_in sort name rest (omega (arith, split, few)))
few_in sort name (_ ∷ rest) few = (tt, few_in sort name rest few)

abbrev HasFewIn : Item Path → Type 0
HasFewIn i = AllByRecursion (OfBody HasFew) i.attributes

all_few : (xs : List (Item Path)) → list_any (λ i. nat_lt local_limit (locals_of i)) xs ≡ false
    → AllByRecursion (HasFewIn) xs
all_few [] h = tt
all_few (i ∷ rest) h =
    let parts = neither (nat_lt local_limit (locals_of i))
    (list_any (λ i. nat_lt local_limit (locals_of i)) rest) h in
    (few_in i.sort i.name i.attributes (within (locals_of i) parts.0), all_few rest parts.1)
  where
    neither : (a b : Bool) → (a || b) ≡ false → (a ≡ false) × (b ≡ false)
    neither false b h = (refl, h)
    neither true b h = absurd (cc h)

    within : (n : ℕ) → nat_lt local_limit n ≡ false → n ≤ local_limit
    within n h = grind (arith, nat_tests, h)

-- the declarators of a body that means something have its slots
slots_kept : (names : Reading) (b : Body Path) (b' : Body Target) → HasFew b
    → resolved_body names b [] 0 ≡ Some b' → KeepsSlots b'
slots_kept names b b' few h =
    let i = body_in names b [] 0 h in
    (omega (arith, few, i.0), each_slot (0 + slots_in b) (slots_in b') (omega (arith, i.0)) b' i.1)

pub not_refused : (b : Bool) (why : Refusal) → refused_if b why ≡ [] → b ≡ false
not_refused false why h = refl
not_refused true why h = absurd (cc h)

nothing_keeps : KeepsSlots Nil
unfolding slots_in
nothing_keeps = (omega arith, tt)

-- of the rules on counts, the third
locals_few : (items transactions locals nodes : Bool) (a b c d : Refusal)
    → refused_if items a ++ (refused_if transactions b
    ++ (refused_if locals c ++ refused_if nodes d)) ≡ [] → locals ≡ false
locals_few items transactions locals nodes a b c d none =
    let one = front_none (refused_if items a) (refused_if transactions b
    ++ (refused_if locals c ++ refused_if nodes d)) none in
    let two = front_none (refused_if transactions b) (refused_if locals c ++ refused_if nodes d)
    one.1 in
    not_refused locals c (front_none (refused_if locals c) (refused_if nodes d) two.1).0

pub body_keeps : (d : Description Target) → IsResolved d → (m : MethNo) → KeepsSlots (body_of d m)
body_keeps d is m =
    let counts = front_none (too_many is.unit) _ is.no_breach in
    let items = is.unit.items in
    let few = locals_few (list_any (λ k. nat_lt item_limit (count_of k items)) kinds)
    (list_any (λ i. nat_lt transaction_limit (transaction_count i)) items)
    (list_any (λ i. nat_lt local_limit (locals_of i)) items)
    (nat_lt node_limit (unit_nodes is.unit)) (TooMany limit.Items) (TooMany limit.Transactions)
    (TooMany limit.Locals) (TooMany limit.Nodes) counts.0 in
    of_method KeepsSlots nothing_keeps d m
    (unit_made is.unit HasFew KeepsSlots (slots_kept (meant_in is.unit))
    d (all_few items few) is.meanings)
