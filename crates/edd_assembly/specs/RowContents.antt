-- What a row of a description holds: the strings of its attribute or body, and how long its code
-- may be.
use Rattle.std.specs.Prelude.{ℕ, ◌*◌, List, if◌then◌else◌, Some, None}
use Rattle.edd_syntax.specs.declared.numbers.Attr.TheVariants as attr
use Rattle.edd_syntax.specs.declared.numbers.AttrRef.{AttrRef}
use Rattle.edd_syntax.specs.declared.numbers.ItemNo.{ItemNo}
use Rattle.edd_syntax.specs.declared.reference.Target.{Target}
use Rattle.edd_syntax.specs.Device.{item_at}
use Rattle.edd_syntax.specs.Execution.{body_in}
use Rattle.edd_syntax.specs.Item as item
use Rattle.edd_syntax.specs.Item.{Attribute, Description}
use Rattle.edd_syntax.specs.Numbers.{same_attr}
use Rattle.edd_syntax.specs.Size.{attribute_nodes}
use Rattle.edd_syntax.specs.Statement.{Body, Nil}
use Rattle.edd_syntax.specs.Strings.{attribute_strings}
use Rattle.edd_syntax.specs.Words.{Words}
use Rattle.edd_attrs.specs.Sizes.{strings_at, length_limit}
use Rattle.edd_attrs.specs.Trees.{tree_at}

-- the written body of a method
abbrev pub body_at : Description Target → ItemNo → Body Target
body_at unit i = elim (item_at unit i) [ Some found ↦ body_in found.attributes | None ↦ Nil ]

-- the body of a method as a DEFINITION
abbrev definition_at : Description Target → AttrRef → Attribute Target
definition_at unit row = item.Definition (body_at unit row.item)

-- the strings of the body, or of the other attribute, that a row is of
abbrev pub strings_of_row : Description Target → AttrRef → List Words
strings_of_row unit row = if same_attr row.attr attr.Definition then attribute_strings
    (definition_at unit row) else strings_at unit row

-- 32 octets a node of a body, as of an attribute
abbrev pub limit_of_row : Description Target → AttrRef → ℕ
limit_of_row unit row = if same_attr row.attr attr.Definition then 32 * attribute_nodes
    (definition_at unit row) else length_limit (tree_at unit row)
