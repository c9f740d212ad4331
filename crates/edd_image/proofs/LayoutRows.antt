-- What is read of rows that are one after the other.
use Rattle.std.proofs.Common.{◌≡◌, ℕ, ◌+◌, ◌*◌, List, [], ◌∷◌, ◌++◌, length, take, drop, get_or, map, refl, sym, ap, ◌∙◌, append_assoc, arith, length-append}
use Rattle.std.proofs.Math.Seq.{drop-append-add, drop-append_seam}
use Rattle.std.proofs.lemmas.List.{take_at, drop_at, get_or-append-add}
use Rattle.std.proofs.lemmas.Nat.{from_be_bytes-to_be_bytes_2, from_be_bytes-to_be_bytes_4}
use Rattle.std.specs.Int.{Width, w16, w32, byte_len, from_be_bytes}
use Rattle.std.specs.List.{AllByRecursion, flat_map}
use Rattle.edd_syntax.specs.declared.numbers.Element.{Element}
use Rattle.edd_image.specs.declared.parts.VarKind.{VarKind}
use Rattle.edd_image.specs.declared.parts.NameRow.{NameRow}
use Rattle.edd_image.specs.declared.parts.AttributeRow.{AttributeRow}
use Rattle.edd_image.specs.declared.parts.StringRow.{StringRow}
use Rattle.edd_image.specs.Layout.{variable_row, name_row, attribute_row, element_row, string_row, NameFits, AttributeFits, ElementFits, StringFits}
use Rattle.edd_image.specs.Fields.{number_at}
use Rattle.edd_image.specs.Contents.{Span, part, VariableFields, NameFields, AttributeFields, variable_fields, name_fields, attribute_fields, element_fields, string_fields, rows_from, fields_of_variable, fields_of_name, fields_of_attribute, fields_of_string}

-- ---- numbers after other bytes

number_behind : (w : Width) (before after : List ℕ) (k : ℕ)
    → number_at w (before ++ after) (length before + k) ≡ number_at w after k
unfolding number_at
number_behind w before after k = ap (λ (l : List ℕ). from_be_bytes w (take (byte_len w) l))
    (drop-append-add before after k)

number_first : (w : Width) (before after : List ℕ) → number_at w (before ++ after) (length before)
    ≡ number_at w after 0
unfolding number_at
number_first w before after = ap (λ (l : List ℕ). from_be_bytes w (take (byte_len w) l))
    (drop-append_seam before after)

byte_behind : (before after : List ℕ) (k : ℕ) → get_or (before ++ after) (length before + k) 0
    ≡ get_or after k 0
byte_behind before after k = get_or-append-add before after k 0

byte_first : (before : List ℕ) (b : ℕ) (after : List ℕ)
    → get_or (before ++ (b ∷ after)) (length before) 0 ≡ b
byte_first [] b after = refl
byte_first (x ∷ xs) b after = byte_first xs b after

-- ---- one row

same_variable : {a a' b b' c c' : ℕ} → a ≡ a' → b ≡ b' → c ≡ c'
    → ◌≡◌ {A = VariableFields} (record { type_number = a; size = b; padding = c })
    (record { type_number = a'; size = b'; padding = c' })
same_variable p q r = cc

variable_read : (v : VarKind) (before rest : List ℕ)
    → variable_fields (before ++ (variable_row v ++ rest)) (length before) ≡ fields_of_variable v
unfolding number_at
variable_read v before rest =
    let here = variable_row v ++ rest in
    same_variable (byte_first before _ _) (byte_behind before here 1)
    (number_behind w16 before here 2 ∙ from_be_bytes-to_be_bytes_2 0 (omega arith))

same_span : {a a' b b' : ℕ} → a ≡ a' → b ≡ b'
    → ◌≡◌ {A = Span} (record { start = a; size = b }) (record { start = a'; size = b' })
same_span p q = cc

same_name : {x x' : Span} {c c' : ℕ} → x ≡ x' → c ≡ c'
    → ◌≡◌ {A = NameFields} (record { span = x; padding = c }) (record { span = x'; padding = c' })
same_name p q = cc

name_read : (r : NameRow) → NameFits r → (before rest : List ℕ)
    → name_fields (before ++ (name_row r ++ rest)) (length before) ≡ fields_of_name r
unfolding number_at
name_read r fits before rest =
    let here = name_row r ++ rest in
    same_name
    (same_span (number_first w32 before here ∙ from_be_bytes-to_be_bytes_4 r.start fits.0)
    (number_behind w16 before here 4 ∙ from_be_bytes-to_be_bytes_2 r.length fits.1))
    (number_behind w16 before here 6 ∙ from_be_bytes-to_be_bytes_2 0 (omega arith))

same_attribute : {a a' b b' c c' d d' e e' : ℕ} {x x' : Span} → a ≡ a' → b ≡ b' → c ≡ c' → d ≡ d'
    → e ≡ e' → x ≡ x' → ◌≡◌ {A = AttributeFields}
    (record { kind = a; attribute = b; item = c; sub = d; padding = e; span = x })
    (record { kind = a'; attribute = b'; item = c'; sub = d'; padding = e'; span = x' })
same_attribute p q r s t u = cc

attribute_read : (r : AttributeRow) → AttributeFits r → (before rest : List ℕ)
    → attribute_fields (before ++ (attribute_row r ++ rest)) (length before) ≡ fields_of_attribute r
unfolding number_at
attribute_read r fits before rest =
    let here = attribute_row r ++ rest in
    same_attribute
    (byte_first before _ _)
    (byte_behind before here 1)
    (number_behind w16 before here 2 ∙ from_be_bytes-to_be_bytes_2 _ fits.0)
    (number_behind w16 before here 4 ∙ from_be_bytes-to_be_bytes_2 r.sub fits.1)
    (number_behind w16 before here 6 ∙ from_be_bytes-to_be_bytes_2 0 (omega arith))
    (same_span (number_behind w32 before here 8 ∙ from_be_bytes-to_be_bytes_4 r.start fits.2)
    (number_behind w32 before here 12 ∙ from_be_bytes-to_be_bytes_4 r.length fits.3))

same_element : {a a' n n' v v' : ℕ} → a ≡ a' → n ≡ n' → v ≡ v'
    → ◌≡◌ {A = Element}
    (record { array = record { 0 = a }; number = n; var = record { 0 = v } })
    (record { array = record { 0 = a' }; number = n'; var = record { 0 = v' } })
same_element p q r = cc

element_read : (e : Element) → ElementFits e → (before rest : List ℕ)
    → element_fields (before ++ (element_row e ++ rest)) (length before) ≡ e
unfolding number_at
element_read e fits before rest =
    let here = element_row e ++ rest in
    same_element (number_first w16 before here ∙ from_be_bytes-to_be_bytes_2 e.array.0 fits.0)
    (number_behind w32 before here 4 ∙ from_be_bytes-to_be_bytes_4 e.number fits.1)
    (number_behind w16 before here 2 ∙ from_be_bytes-to_be_bytes_2 e.var.0 fits.2)

string_read : (r : StringRow) → StringFits r → (before rest : List ℕ)
    → string_fields (before ++ (string_row r ++ rest)) (length before) ≡ fields_of_string r
unfolding number_at
string_read r fits before rest =
    let here = string_row r ++ rest in
    same_span (number_first w32 before here ∙ from_be_bytes-to_be_bytes_4 r.start fits.0)
    (number_behind w32 before here 4 ∙ from_be_bytes-to_be_bytes_4 r.length fits.1)

-- ---- the rows of a section

section_length : {A : Type 0} (row : A → List ℕ) (size : ℕ) → ((x : A) → length (row x) ≡ size)
    → (xs : List A) → length (flat_map row xs) ≡ size * length xs
section_length row size each [] = omega arith
section_length row size each (x ∷ xs) =
    omega (arith, length-append (row x) (flat_map row xs), each x, section_length row size each xs)

module _ {A B : Type 0} (row : A → List ℕ) (read : List ℕ → ℕ → B) (field : A → B) (Good : A
    → Type 0) (size : ℕ)
    (sized : (x : A) → length (row x) ≡ size)
    (is_read : (x : A) → Good x → (before rest : List ℕ)
    → read (before ++ (row x ++ rest)) (length before) ≡ field x) where
  rows_behind : (xs : List A) → AllByRecursion Good xs → (before rest : List ℕ)
      → rows_from (read (before ++ (flat_map row xs ++ rest))) size (length xs) (length before)
      ≡ map field xs
  unfolding rows_from
  rows_behind [] good before rest = refl
  rows_behind (x ∷ xs) good before rest =
      let more = flat_map row xs ++ rest in
      let first : before ++ ((row x ++ flat_map row xs) ++ rest) ≡ before ++ (row x ++ more) =
      ap (λ (l : List ℕ). before ++ l) (append_assoc (row x) (flat_map row xs) rest) in
      let others : before ++ ((row x ++ flat_map row xs) ++ rest) ≡ (before ++ row x) ++ more =
      first ∙ sym (append_assoc before (row x) more) in
      let place : length before + size ≡ length (before ++ row x) =
      omega (arith, length-append before (row x), sized x) in
      let head : read (before ++ ((row x ++ flat_map row xs) ++ rest)) (length before) ≡ field x =
      ap (λ (b : List ℕ). read b (length before)) first ∙ is_read x good.0 before more in
      let tail : rows_from (read (before ++ ((row x ++ flat_map row xs) ++ rest))) size (length xs)
      (length before + size) ≡ map field xs =
      ap (λ (b : List ℕ). rows_from (read b) size (length xs) (length before + size)) others
      ∙ ap (λ (p : ℕ). rows_from (read ((before ++ row x) ++ more)) size (length xs) p) place
      ∙ rows_behind xs good.1 (before ++ row x) rest in
      cc (head, tail)

  -- the same of bytes that are known to be so
  pub rows_read : (b : List ℕ) (count place : ℕ) (xs : List A) → AllByRecursion Good xs
      → (before rest : List ℕ) → b ≡ before ++ (flat_map row xs ++ rest) → count ≡ length xs
      → place ≡ length before → rows_from (read b) size count place ≡ map field xs
  rows_read b count place xs good before rest eb ec ep =
      ap (λ (l : List ℕ). rows_from (read l) size count place) eb
      ∙ ap (λ (n : ℕ). rows_from (read (before ++ (flat_map row xs ++ rest))) size n place) ec
      ∙ ap (λ (p : ℕ). rows_from (read (before ++ (flat_map row xs ++ rest))) size (length xs) p) ep
      ∙ rows_behind xs good before rest

-- a section of bytes
pub part_read : (b : List ℕ) (start size : ℕ) (before xs rest : List ℕ) → b ≡ before ++ (xs ++ rest)
    → start ≡ length before → size ≡ length xs → part (record { start = start; size = size }) b ≡ xs
part_read b start size before xs rest eb es ez =
    ap (λ (l : List ℕ). take size (drop start l)) eb
    ∙ ap (λ (l : List ℕ). take size l) (drop_at before (xs ++ rest) start (sym es))
    ∙ take_at xs rest size (sym ez)

pub variables_read : (b : List ℕ) (count place : ℕ) (xs : List VarKind) (before rest : List ℕ)
    → b ≡ before ++ (flat_map variable_row xs ++ rest) → count ≡ length xs → place ≡ length before
    → rows_from (variable_fields b) 4 count place ≡ map fields_of_variable xs
variables_read b count place xs before rest eb ec ep = rows_read variable_row variable_fields
    fields_of_variable (λ v. Unit {0}) 4 (λ x. refl) (λ x good. variable_read x) b count place xs
    (all xs) before rest eb ec ep
  where
    all : (xs : List VarKind) → AllByRecursion (λ v. Unit {0}) xs
    all [] = tt
    all (x ∷ xs) = (tt, all xs)

pub names_read : (b : List ℕ) (count place : ℕ) (xs : List NameRow) → AllByRecursion NameFits xs
    → (before rest : List ℕ) → b ≡ before ++ (flat_map name_row xs ++ rest) → count ≡ length xs
    → place ≡ length before → rows_from (name_fields b) 8 count place ≡ map fields_of_name xs
names_read b count place xs fit before rest eb ec ep = rows_read name_row name_fields fields_of_name
    NameFits 8 (λ x. refl) name_read b count place xs fit before rest eb ec ep

pub attributes_read : (b : List ℕ) (count place : ℕ) (xs : List AttributeRow)
    → AllByRecursion AttributeFits xs → (before rest : List ℕ)
    → b ≡ before ++ (flat_map attribute_row xs ++ rest) → count ≡ length xs → place ≡ length before
    → rows_from (attribute_fields b) 16 count place ≡ map fields_of_attribute xs
attributes_read b count place xs fit before rest eb ec ep = rows_read attribute_row attribute_fields
    fields_of_attribute AttributeFits 16 (λ x. refl) attribute_read b count place xs fit before rest
    eb ec ep

map_of_same : {A : Type 0} (xs : List A) → map (λ x. x) xs ≡ xs
map_of_same [] = refl
map_of_same (x ∷ xs) = ap (λ rest. x ∷ rest) (map_of_same xs)

pub elements_read : (b : List ℕ) (count place : ℕ) (xs : List Element)
    → AllByRecursion ElementFits xs → (before rest : List ℕ)
    → b ≡ before ++ (flat_map element_row xs ++ rest) → count ≡ length xs → place ≡ length before
    → rows_from (element_fields b) 8 count place ≡ xs
elements_read b count place xs fit before rest eb ec ep = rows_read element_row element_fields
    (λ e. e) ElementFits 8 (λ x. refl) element_read b count place xs fit before rest eb ec ep
    ∙ map_of_same xs

pub strings_read : (b : List ℕ) (count place : ℕ) (xs : List StringRow)
    → AllByRecursion StringFits xs → (before rest : List ℕ)
    → b ≡ before ++ (flat_map string_row xs ++ rest) → count ≡ length xs → place ≡ length before
    → rows_from (string_fields b) 8 count place ≡ map fields_of_string xs
strings_read b count place xs fit before rest eb ec ep = rows_read string_row string_fields
    fields_of_string StringFits 8 (λ x. refl) string_read b count place xs fit before rest eb ec ep

pub variables_length : (xs : List VarKind) → length (flat_map variable_row xs) ≡ 4 * length xs
variables_length xs = section_length variable_row 4 (λ x. refl) xs

pub names_length_is : (xs : List NameRow) → length (flat_map name_row xs) ≡ 8 * length xs
names_length_is xs = section_length name_row 8 (λ x. refl) xs

pub attributes_length : (xs : List AttributeRow) → length (flat_map attribute_row xs)
    ≡ 16 * length xs
attributes_length xs = section_length attribute_row 16 (λ x. refl) xs

pub elements_length_is : (xs : List Element) → length (flat_map element_row xs) ≡ 8 * length xs
elements_length_is xs = section_length element_row 8 (λ x. refl) xs

pub strings_length_is : (xs : List StringRow) → length (flat_map string_row xs) ≡ 8 * length xs
strings_length_is xs = section_length string_row 8 (λ x. refl) xs
