-- Reading numbers and names that mean something in their places, and repetitions, from left to
-- right.
use Rattle.std.specs.Prelude.{ℕ, zero, suc, Bool, true, false, List, [], ◌∷◌, drop, length, Option, Some, None, if◌then◌else◌}
use Rattle.std.specs.Str.{bytes_eq}
use Rattle.edd_syntax.specs.declared.operators.Operator.TheVariants as operator
use Rattle.edd_syntax.specs.declared.symbols.Symbol.TheVariants as sign
use Rattle.edd_syntax.specs.Text.{Name}
use Rattle.edd_syntax.specs.Token.{Token, Identifier, Integer, Sign}
use Rattle.edd_grammar.specs.Reading.{◌>>=◌, on_option, Read, at, expect, name_at}

-- ---- single tokens

-- an integer
abbrev pub integer_at : List Token → Read ℕ
integer_at (Integer n ∷ rest) = Some (n, rest)
integer_at _ = None

-- whether this name is next
abbrev pub at_name : Name → List Token → Bool
at_name name (Identifier n ∷ rest) = bytes_eq n name
at_name name _ = false

-- the tokens after this name
unfoldable pub expect_name : Name → List Token → Option (List Token)
expect_name name here = if at_name name here then Some (drop 1 here) else None

-- a number, or none
unfoldable pub number_at : List Token → Read (Option ℕ)
number_at here = on_option (integer_at here) (Some (None, here)) (λ n. Some (Some n.0, n.1))

-- ---- names parted by `&`

-- the further names
abbrev pub more_names_at : List Token → List Name × List Token
more_names_at (Sign (sign.Operator operator.And) ∷ Identifier n ∷ rest) =
    (n ∷ (more_names_at rest).0, (more_names_at rest).1)
more_names_at here = ([], here)

-- one or more names
unfoldable pub names_at : List Token → Read (List Name)
names_at here = name_at here >>= λ n. Some (n.0 ∷ (more_names_at n.1).0, (more_names_at n.1).1)

-- ---- repetitions

-- a closing brace is next
abbrev pub at_close : List Token → Bool
at_close here = at sign.CloseBrace here

-- the text ends here
abbrev pub at_end : List Token → Bool
at_end [] = true
at_end (t ∷ rest) = false

-- Elements up to where they end, with nothing between them. The number bounds how many there are.
unfoldable pub row_at : {A : Type 0} → (ends : List Token → Bool) → (List Token → Read A) → ℕ
    → List Token → Read (List A)
row_at ends element zero here = None
row_at ends element (suc n) here =
    if ends here then Some ([], here) else (element here >>= λ x. row_at ends element n x.1
    >>= λ more. Some (x.0 ∷ more.0, more.1))

-- after the semicolons that are next
abbrev pub skip_semicolons : List Token → List Token
skip_semicolons (Sign sign.Semicolon ∷ rest) = skip_semicolons rest
skip_semicolons here = here

-- an element and any number of semicolons after it
unfoldable pub closed : {A : Type 0} → (List Token → Read A) → List Token → Read A
closed element here = element here >>= λ x. Some (x.0, skip_semicolons x.1)

-- ---- braces

-- what is between an opening and a closing brace
unfoldable pub braced : {A : Type 0} → (List Token → Read A) → List Token → Read A
braced inner here = do
  inside ← expect sign.OpenBrace here
  (x, behind) ← inner inside
  rest ← expect sign.CloseBrace behind
  Some (x, rest)

-- elements up to a closing brace
unfoldable pub row_inside : {A : Type 0} → (List Token → Read A) → List Token → Read (List A)
row_inside element here = row_at at_close element (suc (length here)) here
