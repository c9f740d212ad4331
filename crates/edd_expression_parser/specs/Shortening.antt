-- How much of the tokens reading takes.
use Rattle.std.specs.Prelude.{◌≡◌, ◌≤◌, ◌<◌, List, length, Some}
use Rattle.edd_syntax.specs.Token.{Token}
use Rattle.edd_grammar.specs.Reading.{Read}

-- reading takes a token at least
abbrev pub Shortens : {A : Type 0} → (List Token → Read A) → Type 0
Shortens {A} read = (here : List Token) (x : A) (rest : List Token) → read here ≡ Some (x, rest)
    → length rest < length here

-- reading may take nothing
abbrev pub NoLonger : {A : Type 0} → (List Token → Read A) → Type 0
NoLonger {A} read = (here : List Token) (x : A) (rest : List Token) → read here ≡ Some (x, rest)
    → length rest ≤ length here
