-- What a turn tells of the state that it shows, and a fault of a play of the answer.
use Rattle.std.proofs.Common.{◌≡◌, ◌≢◌, ℕ, suc, ◌+◌, ◌<◌, List, [], ◌∷◌, length, map, drop, get_or, drop-cons, add-one, Option, Some, None, refl, sym, ap, ◌∙◌, arith}
use Rattle.std.specs.Prelude.{option_map}
use Rattle.std.proofs.Math.ListN.{get_or-map}
use Rattle.std.proofs.lemmas.List.{length-map}
use Rattle.edd_syntax.specs.Answers.{SetFault, BadVariable, OutOfRange}
use Rattle.edd_instructions.specs.declared.requests.Request.{Request}
use Rattle.edd_instructions.specs.declared.records.Status.{Status}
use Rattle.edd_instructions.specs.declared.records.Status.TheVariants as status
use Rattle.edd_instructions.specs.Execution.{Ending, Bad}
use Rattle.edd_port.specs.declared.fault.PlayFault.{PlayFault}
use Rattle.edd_port.specs.declared.fault.PlayFault.TheVariants as play_fault
use Rattle.edd_port.specs.declared.turn.Turn.{Turn}
use Rattle.edd_port.specs.declared.turn.Turn.TheVariants as turn
use Rattle.edd_port.specs.Drives.{standing}
use Rattle.edd_port.specs.Faults.{play_refusal}
use Rattle.edd_port.specs.Plays.{IsFaultOf}
use Rattle.edd_port.specs.Refusals.{Refusal, BadSet}
use Rattle.edd_port.specs.Turns.{turn_of}

-- the request that a turn shows
abbrev pub asked : Turn → List Request
asked (turn.Asks q) = q ∷ []
asked _ = []

pub shows_what_stands : (st : Status) (t : Turn) → t ≡ turn_of st → standing st ≡ asked t
shows_what_stands status.Running t e = sym (ap asked e)
shows_what_stands _ t e = sym (ap asked e)

pub asks_where_shown : (st : Status) (q : Request) → turn.Asks q ≡ turn_of st → st ≡ status.Asking q
asks_where_shown (status.Asking r) q e = cc
asks_where_shown _ q e = absurd cc

-- a turn other than Spent shows that the state doesn't run
pub rests_where_shown : (st : Status) (t : Turn) → t ≡ turn_of st → t ≢ turn.Spent
    → st ≡ status.Running → ⊥
rests_where_shown st t e other runs = other (e ∙ ap turn_of runs)

-- ---- faults

of_set : (fault : PlayFault) (f : SetFault) (ending : Ending) → play_refusal fault ≡ Some (BadSet f)
    → ending ≡ Bad f → IsFaultOf fault ending
of_set play_fault.BadVariable f ending e is = let same : f ≡ BadVariable = cc in is
    ∙ ap (λ (x : SetFault). Bad x) same
of_set play_fault.OutOfRange f ending e is = let same : f ≡ OutOfRange = cc in is
    ∙ ap (λ (x : SetFault). Bad x) same
of_set _ f ending e is = absurd cc

-- a fault that stands for the refusal of an answer says how the run ends
pub of_refused : (fault : PlayFault) (refused : Refusal) (o : Option SetFault) (ending : Ending)
    → play_refusal fault ≡ Some refused → Some refused ≡ option_map BadSet o
    → ((f : SetFault) → o ≡ Some f → ending ≡ Bad f) → IsFaultOf fault ending
of_refused fault refused None ending e g bad = absurd cc
of_refused fault refused (Some f) ending e g bad = of_set fault f ending (e ∙ g) (bad f refl)

-- ---- answers by number

-- the items from a number on are that one and those after it
pub one_mapped : {A B : Type 0} (f : A → B) (xs : List A) (n : ℕ) (x : A) → n < length xs
    → x ≡ get_or xs n x → drop n (map f xs) ≡ f x ∷ drop (n + 1) (map f xs)
one_mapped f xs n x more is =
    drop-cons (map f xs) n (f x) (omega (arith, more, length-map xs f))
    ∙ ap (λ y. y ∷ drop (suc n) (map f xs)) (get_or-map f xs n x ∙ ap f (sym is))
    ∙ ap (λ (k : ℕ). f x ∷ drop k (map f xs)) (sym (add-one n))
