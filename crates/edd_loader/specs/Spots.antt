-- Where a rule on rows, names or strings is broken first.
use Rattle.std.specs.Prelude.{◌≡◌, ◌≢◌, ⊤, ℕ, ◌+◌, ◌<◌, ◌≤◌, ◌==◌, Bool, true, false, ◌&&◌, List, [], ◌∷◌, map}
use Rattle.std.specs.List.{list_all}
use Rattle.edd_syntax.specs.Names.{is_name}
use Rattle.edd_syntax.specs.declared.numbers.Element.{Element}
use Rattle.edd_image.specs.declared.parts.Counts.{Counts}
use Rattle.edd_image.specs.Contents.{AttributeFields, NameFields, Span, attribute_fields, element_fields, name_fields, part, rows_from, string_fields, variable_fields}
use Rattle.edd_image.specs.Fields.{attribute_count, attribute_rows_start, counts_in, element_count, element_rows_start, extension_padding, header_padding, name_bytes_start, name_rows_start, names_length, string_bytes_start, string_rows_start, strings_length, variable_rows_start}
use Rattle.edd_image.specs.Layout.{item_count}
use Rattle.edd_image.specs.Strings.{is_string}
use Rattle.edd_instructions.specs.Validity.{elements_rise, is_attribute_row, is_element_row, is_variable_row, rise}
use Rattle.edd_loader.specs.declared.spot.Spot.{Spot}
use Rattle.edd_loader.specs.declared.spot.Spot.TheVariants as spot

-- each span begins where the one before it ends, and the first one at the place
abbrev pub follow : ℕ → List Span → Bool
follow place [] = true
follow place (x ∷ xs) = x.start == place && follow (place + x.size) xs

-- each name row has its zero, and the names follow one another
abbrev pub name_rows_follow : List NameFields → Bool
name_rows_follow rows = list_all (λ r. r.padding == 0) rows && follow 0 (map (λ r. r.span) rows)

-- each attribute row is valid, they rise, and the units follow one another
abbrev pub attribute_rows_follow : Counts → List AttributeFields → Bool
attribute_rows_follow counts rows = list_all (is_attribute_row counts) rows
    && (rise rows && follow 0 (map (λ r. r.span) rows))

-- each element row names what exists, and they rise
abbrev pub element_rows_follow : Counts → List Element → Bool
element_rows_follow counts rows = list_all (is_element_row counts) rows && elements_rise rows

-- The first n rows keep the rule, and with the next one they don't. Where n is the number of all,
-- there is none.
pub record IsFirstBroken {A : Type 0} (keeps : List A → Bool) (first : ℕ → List A) (count n : ℕ)
    : Type 0 where
  pub inside : n ≤ count
  pub before : keeps (first n) ≡ true
  pub here : n < count → keeps (first (n + 1)) ≡ false

-- the bytes of all names
abbrev pub name_bytes : List ℕ → List ℕ
name_bytes b = part (record { start = name_bytes_start b; size = names_length b }) b

-- the bytes of all strings
abbrev pub string_bytes : List ℕ → List ℕ
string_bytes b = part (record { start = string_bytes_start b; size = strings_length b }) b

-- The bytes break the rule on rows, names or strings there, and not before. Of the header, but for
-- its zeros, and of instructions nothing is said.
abbrev pub IsSpotOf : List ℕ → Spot → Type 0
IsSpotOf b spot.Header = ⊤
IsSpotOf b spot.Zero = header_padding b ≢ 0
IsSpotOf b spot.SecondZero = extension_padding b ≢ 0
IsSpotOf b (spot.VariableRow n) = IsFirstBroken (list_all is_variable_row)
    (λ k. rows_from (variable_fields b) 4 k (variable_rows_start b)) (counts_in b).variables n
IsSpotOf b (spot.NameRow n) = IsFirstBroken name_rows_follow
    (λ k. rows_from (name_fields b) 8 k (name_rows_start b)) (item_count (counts_in b)) n
IsSpotOf b (spot.AttributeRow n) = IsFirstBroken (attribute_rows_follow (counts_in b))
    (λ k. rows_from (attribute_fields b) 16 k (attribute_rows_start b)) (attribute_count b) n
IsSpotOf b (spot.ElementRow n) = IsFirstBroken (element_rows_follow (counts_in b))
    (λ k. rows_from (element_fields b) 8 k (element_rows_start b)) (element_count b) n
IsSpotOf b (spot.StringRow n) = IsFirstBroken (follow 0)
    (λ k. rows_from (string_fields b) 8 k (string_rows_start b)) (counts_in b).strings n
IsSpotOf b (spot.Name n) = IsFirstBroken (list_all (λ r. is_name (part r.span (name_bytes b))))
    (λ k. rows_from (name_fields b) 8 k (name_rows_start b)) (item_count (counts_in b)) n
IsSpotOf b (spot.String n) = IsFirstBroken (list_all (λ span. is_string (part span (string_bytes b))))
    (λ k. rows_from (string_fields b) 8 k (string_rows_start b)) (counts_in b).strings n
IsSpotOf b (spot.Instruction site) = ⊤
