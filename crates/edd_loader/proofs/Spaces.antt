-- Where the sections of an image are, and what the contents say of them.
use Rattle.std.proofs.Common.{◌≡◌, ℕ, ◌+◌, ◌*◌, ◌≤◌, Bool, true, ◌&&◌, nat_eq, List, [], ◌∷◌, length, map, refl, sym, ap, ◌∙◌, arith, length-drop, length-take}
use Rattle.std.specs.List.{list_all}
use Rattle.std.proofs.lemmas.Bool.{and_parts, le-leb, eqb-true}
use Rattle.edd_image.specs.declared.parts.Counts.{Counts}
use Rattle.edd_image.specs.Layout.{item_count}
use Rattle.edd_image.specs.Fields.{counts_in, attribute_count, element_count, names_length, code_length, strings_length, variable_rows_start, name_rows_start, attribute_rows_start, element_rows_start, code_start, string_rows_start, name_bytes_start, string_bytes_start, sections_end}
use Rattle.edd_image.specs.Contents.{Span, part, NameFields, AttributeFields, rows_from, variable_fields, name_fields, attribute_fields, element_fields, string_fields, contents_in}
use Rattle.edd_instructions.specs.Validity.{fills, rise, elements_rise, is_variable_row, is_attribute_row, is_element_row, are_variable_rows, are_name_rows, are_attribute_rows, are_element_rows, are_string_rows, are_rows, are_names, are_strings}
use Rattle.edd_syntax.specs.Names.{is_name}
use Rattle.edd_image.specs.Strings.{is_string}
use Rattle.edd_loader.specs.Sections.{AreSectionsOf, lies_within}
use Rattle.edd_loader.proofs.RowRules.{row_rules}

-- each section ends inside the bytes
pub record Rooms (b : List ℕ) : Type 0 where
  pub variables : variable_rows_start b + 4 * (counts_in b).variables ≤ length b
  pub names : name_rows_start b + 8 * item_count (counts_in b) ≤ length b
  pub attributes : attribute_rows_start b + 16 * attribute_count b ≤ length b
  pub elements : element_rows_start b + 8 * element_count b ≤ length b
  pub code : code_start b + code_length b ≤ length b
  pub strings : string_rows_start b + 8 * (counts_in b).strings ≤ length b
  pub name_bytes : name_bytes_start b + names_length b ≤ length b
  pub string_bytes : string_bytes_start b + strings_length b ≤ length b

pub rooms : (b : List ℕ) → AreSectionsOf b → Rooms b
unfolding name_rows_start attribute_rows_start element_rows_start code_start string_rows_start
    name_bytes_start string_bytes_start sections_end
rooms b s =
    let filled = s.filled in
    record {
      variables = omega arith;
      names = omega arith;
      attributes = omega arith;
      elements = omega arith;
      code = omega arith;
      strings = omega arith;
      name_bytes = omega arith;
      string_bytes = omega arith;
    }

pub part_length : (start size : ℕ) (b : List ℕ) → start + size ≤ length b
    → length (part (record { start = start; size = size }) b) ≡ size
part_length start size b inside = omega (arith, length-take {A = ℕ}, length-drop {A = ℕ}, inside)

-- ---- the rows of the contents

pub variable_rows_are : (b : List ℕ) (start count : ℕ) → start ≡ variable_rows_start b
    → count ≡ (counts_in b).variables
    → list_all is_variable_row (rows_from (variable_fields b) 4 count start)
    ≡ are_variable_rows (contents_in b)
unfolding contents_in
variable_rows_are b start count e f = rw (e, f) refl

pub name_rows_are : (b : List ℕ) (start count end : ℕ) → AreSectionsOf b → start ≡ name_rows_start b
    → count ≡ item_count (counts_in b) → end ≡ names_length b
    → (list_all (λ r. nat_eq r.padding 0) (rows_from (name_fields b) 8 count start)
    && fills 0 (map (λ r. r.span) (rows_from (name_fields b) 8 count start)) end)
    ≡ are_name_rows (contents_in b)
unfolding contents_in
name_rows_are b start count end s e f g =
    let long = part_length (name_bytes_start b) (names_length b) b (rooms b s).name_bytes in
    rw (e, f, g, long) refl

pub attribute_rows_are : (b : List ℕ) (counts : Counts) (start count end : ℕ) → AreSectionsOf b
    → counts ≡ counts_in b → start ≡ attribute_rows_start b → count ≡ attribute_count b
    → end ≡ code_length b
    → (list_all (is_attribute_row counts) (rows_from (attribute_fields b) 16 count start)
    && (rise (rows_from (attribute_fields b) 16 count start)
    && fills 0 (map (λ r. r.span) (rows_from (attribute_fields b) 16 count start)) end))
    ≡ are_attribute_rows (contents_in b)
unfolding contents_in
attribute_rows_are b counts start count end s c e f g =
    let long = part_length (code_start b) (code_length b) b (rooms b s).code in
    rw (c, e, f, g, long) refl

pub element_rows_are : (b : List ℕ) (counts : Counts) (start count : ℕ) → counts ≡ counts_in b
    → start ≡ element_rows_start b → count ≡ element_count b
    → (list_all (is_element_row counts) (rows_from (element_fields b) 8 count start)
    && elements_rise (rows_from (element_fields b) 8 count start))
    ≡ are_element_rows (contents_in b)
unfolding contents_in
element_rows_are b counts start count c e f = rw (c, e, f) refl

pub string_rows_are : (b : List ℕ) (start count end : ℕ) → AreSectionsOf b
    → start ≡ string_rows_start b → count ≡ (counts_in b).strings → end ≡ strings_length b
    → fills 0 (rows_from (string_fields b) 8 count start) end ≡ are_string_rows (contents_in b)
unfolding contents_in
string_rows_are b start count end s e f g =
    let long = part_length (string_bytes_start b) (strings_length b) b (rooms b s).string_bytes in
    rw (e, f, g, long) refl

-- ---- spans that fill a section lie within it

pub fills_reach : (place end : ℕ) (spans : List Span) → fills place spans end ≡ true → place ≤ end
fills_reach place end [] h = omega (arith, eqb-true place end h)
fills_reach place end (x ∷ xs) h =
    let parts = and_parts (nat_eq x.start place) (fills (place + x.size) xs end) h in
    omega (arith, fills_reach (place + x.size) end xs parts.1)

pub fills_within : (place end : ℕ) (spans : List Span) → fills place spans end ≡ true
    → list_all (lies_within end) spans ≡ true
fills_within place end [] h = refl
fills_within place end (x ∷ xs) h =
    let parts = and_parts (nat_eq x.start place) (fills (place + x.size) xs end) h in
    let at : x.start ≡ place = eqb-true x.start place parts.0 in
    let reach = fills_reach (place + x.size) end xs parts.1 in
    let here : lies_within end x ≡ true = le-leb (x.start + x.size) end (omega arith) in
    rw here (fills_within (place + x.size) end xs parts.1)

pub all_mapped : {A B : Type 0} (f : A → B) (p : B → Bool) (xs : List A) → list_all p (map f xs)
    ≡ list_all (λ x. p (f x)) xs
all_mapped f p [] = refl
all_mapped f p (x ∷ xs) = ap (λ (b : Bool). p (f x) && b) (all_mapped f p xs)

-- ---- the spans of the rows of an image whose rows keep their rules

pub record Spans (b : List ℕ) : Type 0 where
  pub names : list_all (λ r. lies_within (names_length b) r.span)
      (rows_from (name_fields b) 8 (item_count (counts_in b)) (name_rows_start b)) ≡ true
  pub units : list_all (λ r. lies_within (code_length b) r.span)
      (rows_from (attribute_fields b) 16 (attribute_count b) (attribute_rows_start b)) ≡ true
  pub strings : list_all (lies_within (strings_length b))
      (rows_from (string_fields b) 8 (counts_in b).strings (string_rows_start b)) ≡ true

pub spans : (b : List ℕ) → AreSectionsOf b → are_rows (contents_in b) ≡ true → Spans b
unfolding contents_in
spans b s h =
    let c = contents_in b in
    let rules = row_rules c h in
    let long_names = part_length (name_bytes_start b) (names_length b) b (rooms b s).name_bytes in
    let long_code = part_length (code_start b) (code_length b) b (rooms b s).code in
    let long_strings = part_length (string_bytes_start b) (strings_length b) b
    (rooms b s).string_bytes in
    let name_rows = rows_from (name_fields b) 8 (item_count (counts_in b)) (name_rows_start b) in
    let unit_rows = rows_from (attribute_fields b) 16 (attribute_count b) (attribute_rows_start b)
    in
    let string_rows = rows_from (string_fields b) 8 (counts_in b).strings (string_rows_start b) in
    let name_fill : fills 0 (map (λ r. r.span) name_rows) (names_length b) ≡ true =
    rw long_names at (and_parts (list_all (λ r. nat_eq r.padding 0) name_rows) _
    rules.names).1 in
    let unit_fill : fills 0 (map (λ r. r.span) unit_rows) (code_length b) ≡ true =
    rw long_code at (and_parts (rise unit_rows) _
    (and_parts (list_all (is_attribute_row (counts_in b)) unit_rows) _ rules.attributes).1).1
    in
    let string_fill : fills 0 string_rows (strings_length b) ≡ true =
    rw long_strings at rules.strings in
    record {
      names = sym (all_mapped (λ (r : NameFields). r.span) (lies_within (names_length b)) name_rows)
          ∙ fills_within 0 (names_length b) (map (λ r. r.span) name_rows) name_fill;
      units = sym (all_mapped (λ (r : AttributeFields). r.span) (lies_within (code_length b))
          unit_rows) ∙ fills_within 0 (code_length b) (map (λ r. r.span) unit_rows) unit_fill;
      strings = fills_within 0 (strings_length b) string_rows string_fill;
    }

-- ---- the names and strings of the contents

pub names_are : (b names : List ℕ) (start count place size : ℕ)
    → names ≡ part (record { start = place; size = size }) b → place ≡ name_bytes_start b
    → size ≡ names_length b → start ≡ name_rows_start b → count ≡ item_count (counts_in b)
    → list_all (λ r. is_name (part r.span names)) (rows_from (name_fields b) 8 count start)
    ≡ are_names (contents_in b)
unfolding contents_in
names_are b names start count place size n p s e f = rw (n, p, s, e, f) refl

pub strings_are : (b strings : List ℕ) (start count place size : ℕ)
    → strings ≡ part (record { start = place; size = size }) b → place ≡ string_bytes_start b
    → size ≡ strings_length b → start ≡ string_rows_start b → count ≡ (counts_in b).strings
    → list_all (λ span. is_string (part span strings)) (rows_from (string_fields b) 8 count start)
    ≡ are_strings (contents_in b)
unfolding contents_in
strings_are b strings start count place size n p s e f = rw (n, p, s, e, f) refl

-- the same of other words for the bytes, the rows and their ends

pub names_lie : (b names : List ℕ) (start count place size : ℕ) → AreSectionsOf b
    → are_rows (contents_in b) ≡ true → names ≡ part (record { start = place; size = size }) b
    → place ≡ name_bytes_start b → size ≡ names_length b → start ≡ name_rows_start b
    → count ≡ item_count (counts_in b)
    → list_all (λ r. lies_within (length names) r.span) (rows_from (name_fields b) 8 count start)
    ≡ true
names_lie b names start count place size sections rows n p s e f =
    let long : length names ≡ names_length b = ap length (n ∙ rw (p, s) refl)
    ∙ part_length (name_bytes_start b) (names_length b) b (rooms b sections).name_bytes in
    rw (long, e, f) (spans b sections rows).names

pub strings_lie : (b strings : List ℕ) (start count place size : ℕ) → AreSectionsOf b
    → are_rows (contents_in b) ≡ true → strings ≡ part (record { start = place; size = size }) b
    → place ≡ string_bytes_start b → size ≡ strings_length b → start ≡ string_rows_start b
    → count ≡ (counts_in b).strings
    → list_all (lies_within (length strings)) (rows_from (string_fields b) 8 count start) ≡ true
strings_lie b strings start count place size sections rows n p s e f =
    let long : length strings ≡ strings_length b = ap length (n ∙ rw (p, s) refl)
    ∙ part_length (string_bytes_start b) (strings_length b) b (rooms b sections).string_bytes in
    rw (long, e, f) (spans b sections rows).strings

pub units_lie : (b code : List ℕ) (start count place size : ℕ) → AreSectionsOf b
    → are_rows (contents_in b) ≡ true → code ≡ part (record { start = place; size = size }) b
    → place ≡ code_start b → size ≡ code_length b → start ≡ attribute_rows_start b
    → count ≡ attribute_count b
    → list_all (λ r. lies_within (length code) r.span)
    (rows_from (attribute_fields b) 16 count start) ≡ true
units_lie b code start count place size sections rows n p s e f =
    let long : length code ≡ code_length b = ap length (n ∙ rw (p, s) refl)
    ∙ part_length (code_start b) (code_length b) b (rooms b sections).code in
    rw (long, e, f) (spans b sections rows).units
