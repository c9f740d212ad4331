-- What is answered of a copy: a tree with what each name is read as in its place.
use Rattle.std.specs.Prelude.{◌≡◌, List, [], ◌∷◌, ◌++◌, length, map, Option, Some, Result, IfOk, OnOk}
use Rattle.edd_syntax.specs.declared.numbers.TokenNo.{TokenNo}
use Rattle.edd_syntax.specs.declared.reference.Path as code
use Rattle.edd_syntax.specs.Item.{Description}
use Rattle.edd_syntax.specs.NameRules.{faults_of_use}
use Rattle.edd_syntax.specs.NameUses.{Use}
use Rattle.edd_syntax.specs.Reference.{Path}
use Rattle.edd_breaches.specs.declared.breach.Breach.{Breach}
use Rattle.edd_breaches.specs.Told as breaches
use Rattle.edd_breaches.specs.Told.{told_at}
use Rattle.edd_name_meanings.specs.Places.{place_of_use}

-- what is told of uses, each of which is at the path of the same number
abbrev pub told_in : Description Path → List Use → List code.Path → List breaches.Told
told_in unit [] paths = []
told_in unit (u ∷ uses) [] = []
told_in unit (u ∷ uses) (p ∷ paths) =
    map (λ why. told_at why (place_of_use unit u p)) (faults_of_use unit u)
    ++ told_in unit uses paths

-- there are as many uses as paths, and their faults come after what was told
unfoldable pub Tells : Description Path → List Use → List code.Path → (old new : List Breach)
    → Type 0
Tells unit uses paths old new = (length uses ≡ length paths)
    × breaches.Tells (told_in unit uses paths) old new

-- where there is a copy, all faults of these uses are told
abbrev pub Told : {T E : Type 0} → Description Path → List Use → List code.Path
    → (old new : List Breach) → Result T E → Type 0
Told unit uses paths old new answer = OnOk answer (Tells unit uses paths old new)

-- the copy, seen as a tree of the syntax, is what is read
abbrev pub Copies : {T E S : Type 0} → (read : Option S) → (seen : T → S) → Result T E → Type 0
Copies read seen answer = IfOk answer (λ t. read ≡ Some (seen t))

-- the copy has the tokens of what it is a copy of
abbrev pub Keeps : {T E : Type 0} → (tokens : List TokenNo) → (of : T → List TokenNo) → Result T E
    → Type 0
Keeps tokens of answer = IfOk answer (λ t. of t ≡ tokens)
