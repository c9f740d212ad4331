-- How many rows the sections have, and how long a header is.
use Rattle.std.proofs.Common.{◌≡◌, refl, ℕ, ◌+◌, ◌≤◌, List, [], ◌∷◌, ◌++◌, length, arith}
use Rattle.std.proofs.lemmas.List.{length-append, length-map}
use Rattle.edd_syntax.specs.declared.reference.Target.{Target}
use Rattle.edd_syntax.specs.declared.numbers.Kind.{Kind}
use Rattle.edd_syntax.specs.declared.numbers.Kind.TheVariants as kind
use Rattle.edd_syntax.specs.Text.{Name}
use Rattle.edd_syntax.specs.Words.{Words}
use Rattle.edd_syntax.specs.Item.{Item}
use Rattle.edd_syntax.specs.Resolution.{count_of}
use Rattle.edd_image.specs.declared.versions.Version.{Version}
use Rattle.edd_image.specs.declared.versions.Version.TheVariants.{One, Two}
use Rattle.edd_image.specs.Strings.{string_bytes}
use Rattle.edd_image.specs.Versions.{header_size}
use Rattle.edd_assembly.specs.Assembly.{name_rows, names_of_kind, names_of, string_rows, variable_kinds}

pub as_many_name_rows : (s : ℕ) (ns : List Name) → length (name_rows s ns) ≡ length ns
as_many_name_rows s [] = refl
as_many_name_rows s (n ∷ ns) = omega (arith, as_many_name_rows (s + length n) ns)

pub as_many_string_rows : (s : ℕ) (ws : List Words) → length (string_rows s ws) ≡ length ws
as_many_string_rows s [] = refl
as_many_string_rows s (w ∷ ws) = omega (arith, as_many_string_rows (s + length (string_bytes w)) ws)

pub as_many_variables : (items : List (Item Target)) → length (variable_kinds items)
    ≡ count_of kind.Variable items
as_many_variables items = length-map _ _

of_one_kind : (items : List (Item Target)) (k : Kind) → length (names_of_kind k items)
    ≡ count_of k items
of_one_kind items k = length-map _ _

-- all names are those of the six kinds
pub as_many_names : (items : List (Item Target)) → length (names_of items)
    ≡ count_of kind.Variable items + count_of kind.Command items + count_of kind.Menu items
    + count_of kind.Collection items + count_of kind.Method items + count_of kind.Array items
as_many_names items =
    omega (
      arith,
      of_one_kind items kind.Variable,
      of_one_kind items kind.Command,
      of_one_kind items kind.Menu,
      of_one_kind items kind.Collection,
      of_one_kind items kind.Method,
      of_one_kind items kind.Array,
      length-append (names_of_kind kind.Variable items) (names_of_kind kind.Command items
          ++ (names_of_kind kind.Menu items
          ++ (names_of_kind kind.Collection items ++ (names_of_kind kind.Method items
          ++ (names_of_kind kind.Array items ++ []))))),
      length-append (names_of_kind kind.Command items) (names_of_kind kind.Menu items
          ++ (names_of_kind kind.Collection items ++ (names_of_kind kind.Method items
          ++ (names_of_kind kind.Array items ++ [])))),
      length-append (names_of_kind kind.Menu items) (names_of_kind kind.Collection items
          ++ (names_of_kind kind.Method items
          ++ (names_of_kind kind.Array items ++ []))),
      length-append (names_of_kind kind.Collection items) (names_of_kind kind.Method items
          ++ (names_of_kind kind.Array items ++ [])),
      length-append (names_of_kind kind.Method items) (names_of_kind kind.Array items ++ []),
      length-append (names_of_kind kind.Array items) [],
    )

pub ruleset row_counts = (
  as_many_name_rows,
  as_many_string_rows,
  as_many_variables,
  as_many_names,
  length-map,
)

pub header_small : (v : Version) → header_size v ≤ 64
header_small One = omega arith
header_small Two = omega arith
