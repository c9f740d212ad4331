-- A kind, an attribute and an item are known by their numbers.
use Rattle.std.proofs.Common.{◌≡◌, refl, sym, ap, ◌∙◌, ℕ, zero, suc, ◌+◌, ◌≤◌, true, List, [], ◌∷◌, length, map, Option, Some, None, arith}
use Rattle.std.specs.Prelude.{◌==◌, if◌then◌else◌, slice_get}
use Rattle.std.proofs.lemmas.Bool.{eqb-true}
use Rattle.std.proofs.lemmas.Option.{none-some, same_Some}
use Rattle.edd_syntax.specs.declared.numbers.Kind.{Kind}
use Rattle.edd_syntax.specs.declared.numbers.Kind.TheVariants as kind
use Rattle.edd_syntax.specs.declared.numbers.Attr.{Attr}
use Rattle.edd_syntax.specs.declared.operators.Builtin.{Builtin}
use Rattle.edd_syntax.specs.declared.operators.Builtin.TheVariants as builtin
use Rattle.edd_syntax.specs.declared.operators.RequestKind.{RequestKind}
use Rattle.edd_syntax.specs.declared.operators.RequestKind.TheVariants as request
use Rattle.edd_syntax.specs.declared.operators.TheConstants.{REQUESTS}
use Rattle.edd_syntax.specs.Builtins.{builtin_name, numbers_taken, request_from_number, request_number}
use Rattle.edd_syntax.specs.Resolution.{builtins, look_up}
use Rattle.edd_syntax.specs.declared.numbers.ItemNo.{ItemNo}
use Rattle.edd_syntax.specs.declared.numbers.ItemNo.TheVariants as items
use Rattle.edd_syntax.specs.Numbers.{kind_number, kind_of, index_of, item_number, attr_number, attr_from_number, same_kind, same_attr, item_from_numbers, numbered}
use Rattle.edd_syntax.proofs.EveryAttribute.{at_its_place, every_attr}

abbrev kind_at : ℕ → Kind
kind_at n =
    if n == 1 then kind.Variable else
    if n == 2 then kind.Command else
    if n == 3 then kind.Menu else
    if n == 4 then kind.Collection else
    if n == 5 then kind.Method else
    kind.Array

kind_again : (k : Kind) → kind_at (kind_number k) ≡ k
kind_again kind.Variable = refl
kind_again _ = refl

pub same_kinds : (k j : Kind) → same_kind k j ≡ true → k ≡ j
same_kinds k j h = sym (kind_again k) ∙ ap kind_at (eqb-true (kind_number k) (kind_number j) h)
    ∙ kind_again j

pub attr_again : (a : Attr) → attr_from_number (attr_number a) ≡ Some a
attr_again = every_attr (λ a. attr_from_number (attr_number a)) Some refl

pub same_attrs : (a b : Attr) → same_attr a b ≡ true → a ≡ b
same_attrs a b h = same_Some a b
    (sym (attr_again a) ∙ ap attr_from_number (eqb-true (attr_number a) (attr_number b) h)
    ∙ attr_again b)

pub item_again : (i : ItemNo) → item_from_numbers (kind_number (kind_of i)) (index_of i) ≡ Some i
item_again (items.Variable n) = refl
item_again _ = refl

pub numbered_kind : (k : Kind) (n : ℕ) → kind_of (item_number k n) ≡ k
numbered_kind kind.Variable n = refl
numbered_kind _ n = refl

pub numbered_index : (k : Kind) (n : ℕ) → index_of (item_number k n) ≡ n
numbered_index kind.Variable n = refl
numbered_index _ n = refl

-- what is none at 0 and else the one at the place before is what a list has for a number
pub by_number : {A : Type 0} (all : List A) (number : ℕ) (found : Option A)
    → (number ≡ 0 → found ≡ None)
    → ((n : ℕ) → number ≡ n + 1 → found ≡ slice_get all n)
    → found ≡ numbered all number
by_number all zero found none one = none refl
by_number all (suc n) found none one = one n (omega arith)

-- ---- requests and functions

pub request_again : (k : RequestKind) → request_from_number (request_number k) ≡ Some k
request_again request.PutMessage = refl
request_again _ = refl

-- as many numbers, from this one on
abbrev counting : (from count : ℕ) → List ℕ
counting from zero = []
counting from (suc n) = from ∷ counting (suc from) n

rank : (from count place n : ℕ) → slice_get (counting from count) place ≡ Some n
    → n ≡ from + place
rank from zero place n h = absurd (none-some n h)
rank from (suc count) zero n h = omega (arith, same_Some from n h)
rank from (suc count) (suc place) n h = omega (arith, rank (suc from) count place n h)

pub number_of_request : (n : ℕ) (k : RequestKind) → request_from_number n ≡ Some k
    → request_number k ≡ n
number_of_request zero k h = absurd (none-some k h)
number_of_request (suc n) k h =
    let same : map request_number REQUESTS ≡ counting 1 (length REQUESTS) = refl in
    let at = ap (λ ns. slice_get ns n) (sym same) ∙ at_its_place request_number REQUESTS n k h in
    omega (arith, rank 1 (length REQUESTS) n (request_number k) at)

-- a request takes at most two numbers
pub few_numbers : (k : RequestKind) → numbers_taken k ≤ 2
few_numbers request.PutMessage = omega arith
few_numbers _ = omega arith

-- each function is found by its name, so that the list of them lacks none
pub function_again : (f : Builtin) → look_up (builtin_name f) builtins ≡ Some f
function_again (builtin.Ask request.PutMessage) = refl
function_again (builtin.Ask _) = refl
function_again builtin.IvarValue = refl
function_again _ = refl
