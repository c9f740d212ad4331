-- What names are read as where some mean nothing, so that the rules after them can be looked for.
use Rattle.std.specs.Prelude.{List, [], ◌∷◌, Option, Some}
use Rattle.std.specs.Option.{option_or}
use Rattle.edd_syntax.specs.declared.numbers.Kind.{Kind}
use Rattle.edd_syntax.specs.declared.numbers.Kind.TheVariants as kind
use Rattle.edd_syntax.specs.declared.reference.Target.{Target}
use Rattle.edd_syntax.specs.declared.reference.Target.TheVariants.{Item}
use Rattle.edd_syntax.specs.Item.{Description}
use Rattle.edd_syntax.specs.NameUses.{Use, OfItem, OfArray, OfFunction}
use Rattle.edd_syntax.specs.Numbers.{item_number}
use Rattle.edd_syntax.specs.Reference.{Path}
use Rattle.edd_syntax.specs.Resolution.{array_kinds, array_meant, function_meant, meaning}
use Rattle.edd_syntax.specs.ResolvedTrees.{Reading}

-- what stands for a name where items of these kinds may be: an item of the first kind
abbrev pub stand_in : List Kind → Target
stand_in [] = Item (item_number kind.Variable 0)
stand_in (k ∷ rest) = Item (item_number k 0)

-- the meaning, or where there is none, what stands for it
abbrev pub or_stand_in : (kinds : List Kind) → (meant : Option Target) → Option Target
or_stand_in kinds meant = option_or meant (Some (stand_in kinds))

-- what names are read as in a unit
abbrev pub read_in : Description Path → Reading
read_in unit = record {
  reference = λ scope kinds path. or_stand_in kinds (meaning unit scope kinds path);
  array = λ scope path. or_stand_in array_kinds (array_meant unit scope path);
  function = λ path. or_stand_in [] (function_meant path);
}

-- what is read at a use
abbrev pub reading_of : Reading → Use → Option Target
reading_of names (OfItem scope kinds path) = names.reference scope kinds path
reading_of names (OfArray scope path) = names.array scope path
reading_of names (OfFunction path) = names.function path

-- the kinds of items that may be there
abbrev pub kinds_at : Use → List Kind
kinds_at (OfItem scope kinds path) = kinds
kinds_at (OfArray scope path) = array_kinds
kinds_at (OfFunction path) = []
