-- The order in which the rows of attributes rise, as one number for each row.
use Rattle.std.specs.Prelude.{ℕ, ◌+◌, ◌*◌, ◌==◌, Bool, ◌&&◌, List}
use Rattle.edd_image.specs.Contents.{AttributeFields, attribute_fields}
use Rattle.edd_image.specs.Fields.{attribute_rows_start}

-- the kind, the attribute, the item and the sub, each with as many bytes as in a row
abbrev pub rank : (kind attribute item sub : ℕ) → ℕ
rank kind attribute item sub = ((kind * 256 + attribute) * 65536 + item) * 65536 + sub

-- the rank of a row
abbrev pub rank_of : AttributeFields → ℕ
rank_of r = rank r.kind r.attribute r.item r.sub

-- the row is one of these three numbers
abbrev pub is_row : (kind attribute item : ℕ) → AttributeFields → Bool
is_row kind attribute item r = r.kind == kind && (r.attribute == attribute && r.item == item)

-- the attribute row of a number, as its bytes say
abbrev pub row_at : List ℕ → ℕ → AttributeFields
row_at b i = attribute_fields b (attribute_rows_start b + 16 * i)
