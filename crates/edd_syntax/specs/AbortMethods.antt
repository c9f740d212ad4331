-- The list of abort methods, which run where a method is aborted.
use Rattle.std.specs.Prelude.{ℕ, ◌++◌, Bool, ◌||◌, nat_le, List, [], ◌∷◌, length, Option, Some, None, if◌then◌else◌}
use Rattle.edd_syntax.specs.declared.numbers.MethNo.{MethNo}

-- a list holds at most so many (this profile)
abbrev pub abort_method_limit : ℕ
abort_method_limit = 8

-- The list with one more method at its end. A full list takes none, and no list takes one while the
-- run is aborting.
abbrev pub listed : (is_aborting : Bool) → List MethNo → MethNo → Option (List MethNo)
listed is_aborting methods m =
    if is_aborting || nat_le abort_method_limit (length methods) then None
    else Some (methods ++ m ∷ [])
