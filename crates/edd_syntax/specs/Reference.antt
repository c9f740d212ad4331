-- What a name refers to. The trees are over R, the type of their references: `Path` in the unit
-- that the parser makes, and `Target`, which is declared in the code, once names are resolved.
use Rattle.std.specs.Prelude.{List}
use Rattle.edd_syntax.specs.Text.{Name}
pub use Rattle.edd_syntax.specs.declared.reference.Target.{Target}
pub use Rattle.edd_syntax.specs.declared.reference.Target.TheVariants.{Local, Item, Function}

-- `name`, or `c.m` for a member of a collection, and so on
pub record Path : Type 0 where
  pub base : Name
  pub members : List Name
