-- What a valid image has at a number.
use Rattle.std.proofs.Common.{◌≡◌, ℕ, zero, suc, ◌+◌, ◌-◌, ◌*◌, ◌<◌, ◌≤◌, Bool, true, false, cond, ◌&&◌, ◌⊎◌, nat_eq, nat_le, List, [], ◌∷◌, length, take, drop, Option, Some, None, refl, sym, ap, subst, ◌∙◌, arith, inl, inr, mul-suc}
use Rattle.std.specs.Prelude.{option_map, is_some, slice_index}
use Rattle.std.specs.List.{list_all, slice_get}
use Rattle.std.specs.Str.{is_utf8, IsAscii}
use Rattle.std.proofs.lemmas.List.{drop-take, take-take, drop-drop}
use Rattle.std.proofs.lemmas.Bool.{and_parts, or_cases, cases_lt, leb-true, le-leb, lt-leb, eqb-true, ne_eqb, ltb-true}
use Rattle.std.proofs.lemmas.Str.{IsUtf8-from_ascii, is_utf8-from_IsUtf8}
use Rattle.edd_syntax.specs.declared.numbers.ItemNo.{ItemNo}
use Rattle.edd_syntax.specs.declared.numbers.ItemNo.TheVariants as items
use Rattle.edd_syntax.specs.declared.types.VarType.{VarType}
use Rattle.edd_syntax.specs.declared.types.VarType.TheVariants.{Integer, UnsignedInteger, Enumerated, BitEnumerated}
use Rattle.edd_syntax.specs.Text.{Name}
use Rattle.edd_syntax.specs.Names.{begins_name, goes_on_name, is_name, is_within}
use Rattle.edd_image.specs.declared.parts.Counts.{Counts}
use Rattle.edd_instructions.specs.declared.rules.Rule.TheVariants as rule
use Rattle.edd_image.specs.Layout.{item_count, type_code}
use Rattle.edd_image.specs.Fields.{counts_in, names_length, variable_rows_start, name_rows_start, name_bytes_start, name_start, name_length, variable_type, variable_size, strings_length, string_rows_start, string_bytes_start, string_start, string_length}
use Rattle.edd_image.specs.Contents.{Span, part, NameFields, VariableFields, rows_from, variable_fields, name_fields, string_fields, contents_in, fields_of_variable, type_of}
use Rattle.edd_instructions.specs.Agreement.{name_numbered, place_of_item}
use Rattle.edd_image.specs.Existing.{item_exists}
use Rattle.edd_instructions.specs.Validity.{IsValid, is_variable_row}
use Rattle.edd_image.specs.Strings.{is_string}
use Rattle.edd_loader.specs.Lookups.{name_in_row, string_in_row, IsFirstNamed}
use Rattle.edd_loader.specs.Sections.{lies_within}
use Rattle.edd_loader.proofs.RowRules.{row_rules}
use Rattle.edd_loader.proofs.RowTurns.{span_inside}
use Rattle.edd_loader.proofs.RuleOrder.{valid_sections}
use Rattle.edd_loader.proofs.Spaces.{rooms, spans}

-- ---- rows by number

pub row_get : {A : Type 0} (read : ℕ → A) (size count start k : ℕ) → k < count
    → slice_get (rows_from read size count start) k ≡ Some (read (start + size * k))
unfolding rows_from
row_get read size zero start k h = absurd (omega arith)
row_get read size (suc n) start zero h =
    let first : start + size * 0 ≡ start = omega arith in
    rw first refl
row_get read size (suc n) start (suc k) h =
    let further : (start + size) + size * k ≡ start + size * suc k = rw mul-suc (omega arith) in
    row_get read size n (start + size) k (omega arith) ∙ ap (λ (place : ℕ). Some (read place))
    further

pub row_past : {A : Type 0} (read : ℕ → A) (size count start k : ℕ) → count ≤ k
    → slice_get (rows_from read size count start) k ≡ None
unfolding rows_from
row_past read size zero start k h = refl
row_past read size (suc n) start zero h = absurd (omega arith)
row_past read size (suc n) start (suc k) h = row_past read size n (start + size) k (omega arith)

pub all_at : {A : Type 0} (p : A → Bool) (xs : List A) (k : ℕ) (x : A) → list_all p xs ≡ true
    → slice_get xs k ≡ Some x → p x ≡ true
all_at p [] k x h e = absurd cc
all_at p (y ∷ ys) zero x h e = let same : y ≡ x = cc in subst (λ z. p z ≡ true) same
    (and_parts (p y) (list_all p ys) h).0
all_at p (y ∷ ys) (suc k) x h e = all_at p ys k x (and_parts (p y) (list_all p ys) h).1 e

-- ---- names are UTF-8

begins_small : (c : ℕ) → begins_name c ≡ true → c < 128
begins_small c h = elim (cases_lt c 128) [
  | inl below ↦ below
  | inr above ↦
      let upper : nat_le 65 c ≡ true = le-leb 65 c (omega arith) in
      let past_upper : nat_le c 90 ≡ false = lt-leb c 90 (omega arith) in
      let lower : nat_le 97 c ≡ true = le-leb 97 c (omega arith) in
      let past_lower : nat_le c 122 ≡ false = lt-leb c 122 (omega arith) in
      let other : nat_eq c 95 ≡ false = ne_eqb c 95 (λ e. omega (arith, e)) in
      let contradiction : false ≡ true = rw (upper, past_upper, lower, past_lower, other) at h in
      absurd cc
]

small : (c : ℕ) → goes_on_name c ≡ true → c < 128
small c h = elim (or_cases (begins_name c) (is_within 48 57 c) h) [
  | inl begins ↦ begins_small c begins
  | inr digit ↦ omega (arith, leb-true c 57 (and_parts (nat_le 48 c) (nat_le c 57) digit).1)
]

rest_small : (rest : List ℕ) → list_all goes_on_name rest ≡ true → (i : ℕ)
    → slice_index rest i < 128
rest_small [] h i = omega arith
rest_small (c ∷ rest) h zero = small c (and_parts (goes_on_name c) (list_all goes_on_name rest) h).0
rest_small (c ∷ rest) h (suc i) =
    rest_small rest (and_parts (goes_on_name c) (list_all goes_on_name rest) h).1 i

name_ascii : (name : List ℕ) → is_name name ≡ true → IsAscii name
name_ascii [] h i = absurd cc
name_ascii (c ∷ rest) h zero =
    begins_small c (and_parts (begins_name c) (list_all goes_on_name rest)
    (and_parts (begins_name c && list_all goes_on_name rest) _ h).0).0
name_ascii (c ∷ rest) h (suc i) =
    rest_small rest (and_parts (begins_name c) (list_all goes_on_name rest)
    (and_parts (begins_name c && list_all goes_on_name rest) _ h).0).1 i

pub name_utf8 : (name : List ℕ) → is_name name ≡ true → is_utf8 name ≡ true
name_utf8 name h = is_utf8-from_IsUtf8 name (IsUtf8-from_ascii name (name_ascii name h))

-- ---- names by place

pub name_row_at : (b : List ℕ) (place : ℕ) → place < item_count (counts_in b)
    → slice_get (contents_in b).names place ≡ Some (name_fields b (name_rows_start b + 8 * place))
unfolding contents_in
name_row_at b place h = row_get (name_fields b) 8 (item_count (counts_in b)) (name_rows_start b)
    place h

-- a part of a part, by its place among all bytes
part_of_part : (start size from long : ℕ) (b : List ℕ) → from + long ≤ size
    → part (record { start = start + from; size = long }) b
    ≡ part (record { start = from; size = long })
    (part (record { start = start; size = size }) b)
part_of_part start size from long b inside =
    let whole : size ≡ from + (size - from) = omega (arith, inside) in
    let cut : drop from (take size (drop start b)) ≡ take (size - from) (drop from (drop start b)) =
    ap (λ (k : ℕ). drop from (take k (drop start b))) whole ∙ drop-take from (size - from)
    (drop start b) in
    let again : drop from (drop start b) ≡ drop (start + from) b = drop-drop from start b in
    let shorter : take long (take (size - from) (drop from (drop start b)))
    ≡ take long (drop from (drop start b)) =
    take-take long (size - from) _ (omega (arith, inside)) in
    sym (ap (take long) cut ∙ shorter ∙ ap (take long) again)

-- what is found by a row of a section, however it was come by: the row, the place among all bytes,
-- and the part of them
pub record IsFoundBy (b found : List ℕ) (rows bytes_start : List ℕ → ℕ) (start_of length_of : List ℕ
    → ℕ → ℕ) (place : ℕ) : Type 0 where
  pub row : ℕ
  pub row_is : row ≡ rows b + 8 * place
  pub from : ℕ
  pub from_is : from ≡ bytes_start b + start_of b row
  pub long : ℕ
  pub long_is : long ≡ length_of b row
  pub found_is : found ≡ part (record { start = from; size = long }) b

abbrev pub IsNameAt : (b found : List ℕ) (place : ℕ) → Type 0
IsNameAt b found place = IsFoundBy b found name_rows_start name_bytes_start name_start name_length
    place

abbrev pub IsStringAt : (b found : List ℕ) (place : ℕ) → Type 0
IsStringAt b found place = IsFoundBy b found string_rows_start string_bytes_start string_start
    string_length place

name_lies : (b : List ℕ) (place : ℕ) → IsValid b → place < item_count (counts_in b)
    → name_start b (name_rows_start b + 8 * place) + name_length b (name_rows_start b + 8 * place)
    ≤ names_length b
name_lies b place valid h =
    let row = name_rows_start b + 8 * place in
    let lies = all_at (λ (r : NameFields). lies_within (names_length b) r.span) _ place _
    (spans b (valid_sections b valid) (valid rule.Row)).names
    (row_get (name_fields b) 8 (item_count (counts_in b)) (name_rows_start b) place h) in
    span_inside (name_start b row) (name_length b row) (names_length b) (name_fields b row).span
    refl refl lies

found_in : (b found : List ℕ) (place : ℕ) → IsValid b → place < item_count (counts_in b)
    → IsNameAt b found place → found ≡ part (name_fields b (name_rows_start b + 8 * place)).span
    (contents_in b).name_bytes
unfolding contents_in
found_in b found place valid h i =
    let row_is = i.row_is in
    i.found_is ∙ rw (i.from_is, i.long_is, row_is)
    (part_of_part (name_bytes_start b) (names_length b) _ _ b (name_lies b place valid h))

pub name_value : (b found : List ℕ) (place : ℕ) → IsValid b → place < item_count (counts_in b)
    → IsNameAt b found place → name_in_row (contents_in b) place ≡ Some found
name_value b found place valid h i =
    ap (option_map (λ (r : NameFields). part r.span (contents_in b).name_bytes))
    (name_row_at b place h)
    ∙ ap Some (sym (found_in b found place valid h i))

pub name_valid : (b found : List ℕ) (place : ℕ) → IsValid b → place < item_count (counts_in b)
    → IsNameAt b found place → is_utf8 found ≡ true
name_valid b found place valid h i =
    let named = all_at (λ (r : NameFields). is_name (part r.span (contents_in b).name_bytes))
    (contents_in b).names place _ (valid rule.Name) (name_row_at b place h) in
    name_utf8 found (ap is_name (found_in b found place valid h i) ∙ named)

pub name_inside : (b : List ℕ) (place row from long : ℕ) → IsValid b
    → place < item_count (counts_in b) → row ≡ name_rows_start b + 8 * place
    → from ≡ name_bytes_start b + name_start b row → long ≡ name_length b row
    → from + long ≤ length b
name_inside b place row from long valid h r f l =
    let at : from ≡ name_bytes_start b + name_start b (name_rows_start b + 8 * place) =
    f ∙ ap (λ (k : ℕ). name_bytes_start b + name_start b k) r in
    let size : long ≡ name_length b (name_rows_start b + 8 * place) = l ∙ ap (name_length b) r in
    omega (
      arith,
      name_lies b place valid h,
      (rooms b (valid_sections b valid)).name_bytes,
      at,
      size,
    )

pub place_inside : (c : Counts) (item : ItemNo) → item_exists c item ≡ true
    → place_of_item c item < item_count c
place_inside c (items.Variable n) h = omega (arith, ltb-true n.0 c.variables h)
place_inside c (items.Command n) h = omega (arith, ltb-true n.0 c.commands h)
place_inside c (items.Menu n) h = omega (arith, ltb-true n.0 c.menus h)
place_inside c (items.Collection n) h = omega (arith, ltb-true n.0 c.collections h)
place_inside c (items.Method n) h = omega (arith, ltb-true n.0 c.methods h)
place_inside c (items.Array n) h = omega (arith, ltb-true n.0 c.arrays h)

-- the name of an item is in the row of its place, among the rows that there are
pub name_in_place : (b : List ℕ) (item : ItemNo) (name : Name) → name_numbered (contents_in b) item
    ≡ Some name
    → (place_of_item (counts_in b) item < item_count (counts_in b))
    × (name_in_row (contents_in b) (place_of_item (counts_in b) item) ≡ Some name)
unfolding contents_in
name_in_place b item name named = here (item_exists (counts_in b) item) refl named
  where
    here : (there : Bool) → item_exists (counts_in b) item ≡ there
        → cond there (name_in_row (contents_in b) (place_of_item (counts_in b) item)) None
        ≡ Some name
        → (place_of_item (counts_in b) item < item_count (counts_in b))
        × (name_in_row (contents_in b) (place_of_item (counts_in b) item) ≡ Some name)
    here true is h = (place_inside (counts_in b) item is, h)
    here false is h = absurd cc

-- an item that there is has the name in the row of its place
pub named_in_place : (b : List ℕ) (item : ItemNo) → item_exists (counts_in b) item ≡ true
    → name_numbered (contents_in b) item
    ≡ name_in_row (contents_in b) (place_of_item (counts_in b) item)
unfolding contents_in
named_in_place b item there = rw there refl

pub no_name : (b : List ℕ) (item : ItemNo) → item_exists (counts_in b) item ≡ false
    → None ≡ name_numbered (contents_in b) item
unfolding contents_in
no_name b item there = rw there refl

-- the item of a place before which the name is not found
pub first_named : (b : List ℕ) (item : ItemNo) (name : Name) (place : ℕ)
    → place_of_item (counts_in b) item ≡ place
    → ((k : ℕ) → k < place → name_in_row (contents_in b) k ≡ Some name → ⊥)
    → IsFirstNamed (contents_in b) name item
unfolding contents_in
first_named b item name place at before other named =
    let found = name_in_place b other name named in
    elim (cases_lt (place_of_item (counts_in b) other) place) [
      | inl below ↦ absurd (before _ below found.1)
      | inr behind ↦ omega (arith, at, behind)
    ]

-- ---- variables by number

pub variable_row_at : (b : List ℕ) (n : ℕ) → n < (counts_in b).variables
    → slice_get (contents_in b).variables n
    ≡ Some (variable_fields b (variable_rows_start b + 4 * n))
unfolding contents_in
variable_row_at b n h =
    row_get (variable_fields b) 4 (counts_in b).variables (variable_rows_start b) n h

variable_row_valid : (b : List ℕ) (n : ℕ) → IsValid b → n < (counts_in b).variables
    → is_variable_row (variable_fields b (variable_rows_start b + 4 * n)) ≡ true
variable_row_valid b n valid h =
    let c = contents_in b in
    all_at is_variable_row c.variables n _ (row_rules c (valid rule.Row)).variables
    (variable_row_at b n h)

pub typed : (b : List ℕ) (n t start : ℕ) → IsValid b → n < (counts_in b).variables
    → start ≡ variable_rows_start b → t ≡ variable_type b (start + 4 * n) → type_of t ≡ None → ⊥
typed b n t start valid h at e none =
    let row = variable_fields b (variable_rows_start b + 4 * n) in
    let some : is_some (type_of row.type_number) ≡ true =
    (and_parts (is_some (type_of row.type_number)) (is_within 1 4 row.size
    && nat_eq row.padding 0) (variable_row_valid b n valid h)).0 in
    let nothing : is_some (type_of row.type_number) ≡ false = ap (λ (k : ℕ). is_some (type_of k))
    (sym (e ∙ ap (λ (k : ℕ). variable_type b (k + 4 * n)) at)) ∙ ap is_some none in
    let contradiction : true ≡ false = sym some ∙ nothing in
    cc

chosen : (b : Bool) (x : VarType) (o : Option VarType) (v : VarType) → cond b (Some x) o ≡ Some v
    → ((b ≡ true) × (x ≡ v)) ⊎ (o ≡ Some v)
chosen true x o v e = inl (refl, cc)
chosen false x o v e = inr e

pub type_again : (n : ℕ) (v : VarType) → type_of n ≡ Some v → n ≡ type_code v
type_again n v e = elim (chosen (nat_eq n 1) Integer _ v e) [
  | inl one ↦ eqb-true n 1 one.0 ∙ ap type_code one.1
  | inr more ↦ elim (chosen (nat_eq n 2) UnsignedInteger _ v more) [
    | inl two ↦ eqb-true n 2 two.0 ∙ ap type_code two.1
    | inr others ↦ elim (chosen (nat_eq n 3) Enumerated _ v others) [
      | inl three ↦ eqb-true n 3 three.0 ∙ ap type_code three.1
      | inr last ↦ elim (chosen (nat_eq n 4) BitEnumerated _ v last) [
        | inl four ↦ eqb-true n 4 four.0 ∙ ap type_code four.1
        | inr none ↦ absurd cc
      ]
    ]
  ]
]

same_fields : (t u s z p q : ℕ) → t ≡ u → s ≡ z → p ≡ q
    → (let x : VariableFields = record { type_number = t; size = s; padding = p } in x)
    ≡ record { type_number = u; size = z; padding = q }
same_fields t u s z p q e f g = rw (e, f, g) refl

pub kind_is : (b : List ℕ) (n t size start : ℕ) (v : VarType) → IsValid b
    → n < (counts_in b).variables → start ≡ variable_rows_start b
    → t ≡ variable_type b (start + 4 * n) → type_of t ≡ Some v
    → size ≡ variable_size b (start + 4 * n)
    → slice_get (contents_in b).variables n
    ≡ Some (fields_of_variable (record { var_type = v; size = size }))
kind_is b n t size start v valid h at e f g =
    let row = variable_fields b (variable_rows_start b + 4 * n) in
    let parts = and_parts (is_some (type_of row.type_number)) (is_within 1 4 row.size
    && nat_eq row.padding 0) (variable_row_valid b n valid h) in
    let none : row.padding ≡ 0 =
    eqb-true row.padding 0 (and_parts (is_within 1 4 row.size) (nat_eq row.padding 0) parts.1).1
    in
    let code : row.type_number ≡ type_code v =
    sym (e ∙ ap (λ (k : ℕ). variable_type b (k + 4 * n)) at) ∙ type_again t v f in
    variable_row_at b n h ∙ ap Some (same_fields _ _ _ _ _ _ code
    (sym (g ∙ ap (λ (k : ℕ). variable_size b (k + 4 * n)) at)) none)

-- ---- strings by number

pub string_row_at : (b : List ℕ) (n : ℕ) → n < (counts_in b).strings
    → slice_get (contents_in b).strings n ≡ Some (string_fields b (string_rows_start b + 8 * n))
unfolding contents_in
string_row_at b n h = row_get (string_fields b) 8 (counts_in b).strings (string_rows_start b) n h

string_lies : (b : List ℕ) (place : ℕ) → IsValid b → place < (counts_in b).strings
    → string_start b (string_rows_start b + 8 * place)
    + string_length b (string_rows_start b + 8 * place) ≤ strings_length b
string_lies b place valid h =
    let row = string_rows_start b + 8 * place in
    let lies = all_at (lies_within (strings_length b)) _ place _
    (spans b (valid_sections b valid) (valid rule.Row)).strings
    (row_get (string_fields b) 8 (counts_in b).strings (string_rows_start b) place h) in
    span_inside (string_start b row) (string_length b row) (strings_length b) (string_fields b row)
    refl refl lies

string_found : (b found : List ℕ) (place : ℕ) → IsValid b → place < (counts_in b).strings
    → IsStringAt b found place → found ≡ part (string_fields b (string_rows_start b + 8 * place))
    (contents_in b).string_bytes
unfolding contents_in
string_found b found place valid h i =
    let row_is = i.row_is in
    i.found_is ∙ rw (i.from_is, i.long_is, row_is)
    (part_of_part (string_bytes_start b) (strings_length b) _ _ b (string_lies b place valid h))

pub string_value : (b found : List ℕ) (place : ℕ) → IsValid b → place < (counts_in b).strings
    → IsStringAt b found place → string_in_row (contents_in b) place ≡ Some found
string_value b found place valid h i =
    ap (option_map (λ (span : Span). part span (contents_in b).string_bytes))
    (string_row_at b place h)
    ∙ ap Some (sym (string_found b found place valid h i))

pub string_valid : (b found : List ℕ) (place : ℕ) → IsValid b → place < (counts_in b).strings
    → IsStringAt b found place → is_string found ≡ true
string_valid b found place valid h i =
    ap is_string (string_found b found place valid h i)
    ∙ all_at (λ (span : Span). is_string (part span (contents_in b).string_bytes))
    (contents_in b).strings place _ (valid rule.Text) (string_row_at b place h)

pub string_inside : (b : List ℕ) (place row from long : ℕ) → IsValid b
    → place < (counts_in b).strings → row ≡ string_rows_start b + 8 * place
    → from ≡ string_bytes_start b + string_start b row → long ≡ string_length b row
    → from + long ≤ length b
string_inside b place row from long valid h r f l =
    let at : from ≡ string_bytes_start b + string_start b (string_rows_start b + 8 * place) =
    f ∙ ap (λ (k : ℕ). string_bytes_start b + string_start b k) r in
    let size : long ≡ string_length b (string_rows_start b + 8 * place) =
    l ∙ ap (string_length b) r in
    omega (
      arith,
      string_lies b place valid h,
      (rooms b (valid_sections b valid)).string_bytes,
      at,
      size,
    )

pub strings_past : (b : List ℕ) (k : ℕ) → (counts_in b).strings ≤ k
    → slice_get (contents_in b).strings k ≡ None
unfolding contents_in
strings_past b k h = row_past (string_fields b) 8 (counts_in b).strings (string_rows_start b) k h
