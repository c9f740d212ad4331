-- The fields of a layout are its parts.
use Rattle.std.proofs.lemmas.Bool.{le-leb}
use Rattle.std.specs.Prelude.{◌<◌, ◌≤◌, ◌^◌, ◌==◌, ◌&&◌, nat_le}
use Rattle.std.proofs.Common.{◌≡◌, ℕ, Bool, true, cond, ◌+◌, ◌*◌, List, [], ◌++◌, length, refl, sym, ap, ◌∙◌, append_assoc, append-nil, arith, length-append}
use Rattle.std.proofs.lemmas.Nat.{from_be_bytes-to_be_bytes_2, from_be_bytes-to_be_bytes_4}
use Rattle.std.specs.List.{flat_map}
use Rattle.edd_syntax.specs.declared.numbers.Element.{Element}
use Rattle.edd_image.specs.declared.parts.Counts.{Counts}
use Rattle.edd_image.specs.declared.versions.Version.{Version}
use Rattle.edd_image.specs.declared.versions.Version.TheVariants.{One, Two}
use Rattle.edd_image.specs.Versions.{header_size}
use Rattle.edd_image.specs.Layout.{Sections, AreSections, variable_row, name_row, attribute_row, element_row, string_row, item_count, layout_length, magic, identification, counts, lengths, extension, header, layout}
use Rattle.edd_image.specs.Fields.{number_at, version_number, is_extended, header_padding, extension_padding, array_count, element_count, total_length, counts_in, attribute_count, names_length, code_length, strings_length, variable_rows_start, name_rows_start, attribute_rows_start, element_rows_start, code_start, string_rows_start, name_bytes_start, string_bytes_start, sections_end}
use Rattle.edd_image.specs.Contents.{Span, VariableFields, NameFields, AttributeFields, Contents, contents_in, contents_of}
use Rattle.edd_image.proofs.LayoutRows.{part_read, variables_read, names_read, attributes_read, elements_read, strings_read, variables_length, names_length_is, attributes_length, elements_length_is, strings_length_is}

-- ---- the header

same_counts : {a a' b b' c c' d d' e e' z z' f f' g g' h h' i i' j j' : ℕ} → a ≡ a' → b ≡ b'
    → c ≡ c'
    → d ≡ d' → e ≡ e' → z ≡ z' → f ≡ f' → g ≡ g' → h ≡ h' → i ≡ i' → j ≡ j'
    → ◌≡◌ {A = Counts} (record {
      variables = a;
      commands = b;
      menus = c;
      collections = d;
      methods = e;
      arrays = z;
      strings = f;
      manufacturer = g;
      device_type = h;
      device_revision =
          i;
      dd_revision = j;
    })
    (record {
      variables = a';
      commands = b';
      menus = c';
      collections = d';
      methods = e';
      arrays = z';
      strings = f';
      manufacturer = g';
      device_type = h';
      device_revision = i';
      dd_revision = j';
    })
same_counts p q r s t o u v w x y = cc

-- ---- what the second version adds, by cases of the version

header_length_by : (s : Sections) (v : Version)
    → length (header (record s { version = v })) ≡ header_size v
unfolding header magic identification counts lengths extension
header_length_by s One = refl
header_length_by s Two = refl

pub header_length_is : (s : Sections) → length (header s) ≡ header_size s.version
header_length_is s = header_length_by s s.version

at_least : (s : Sections) (rest : List ℕ)
    → 64 ≤ length (header (record s { version = Two }) ++ rest)
at_least s rest =
    let head = header_length_by s Two in
    omega (arith, length-append (header (record s { version = Two })) rest)

is_whole : (s : Sections) → nat_le 64 (length (layout (record s { version = Two }))) ≡ true
unfolding layout
is_whole s = le-leb 64 (length (layout (record s { version = Two }))) (at_least s _)

both : {a b : Bool} → a ≡ true → b ≡ true → (a && b) ≡ true
both p q = rw (p, q) refl

number_is_two : (s : Sections) → (version_number (layout (record s { version = Two })) == 2) ≡ true
unfolding layout header magic number_at
number_is_two s = refl

two_extended : (s : Sections) → is_extended (layout (record s { version = Two })) ≡ true
two_extended s = both (number_is_two s) (is_whole s)

field_extended : (b : List ℕ) (n : ℕ) → is_extended b ≡ true → cond (is_extended b) n 0 ≡ n
field_extended b n e = rw e refl

arrays_read_by : (s : Sections) (v : Version) → (v ≡ One → s.counts.arrays ≡ 0)
    → s.counts.arrays < 2 ^ 16
    → array_count (layout (record s { version = v })) ≡ s.counts.arrays
unfolding layout header magic identification counts lengths extension number_at
arrays_read_by s One none fits = sym (none refl)
arrays_read_by s Two none fits =
    field_extended (layout (record s { version = Two })) _ (two_extended s)
    ∙ from_be_bytes-to_be_bytes_2 s.counts.arrays fits

arrays_read : (s : Sections) → AreSections s → array_count (layout s) ≡ s.counts.arrays
arrays_read s are = arrays_read_by s s.version are.no_arrays are.counts_fit.arrays

extension_zero_read : (s : Sections) (v : Version)
    → extension_padding (layout (record s { version = v })) ≡ 0
unfolding layout header magic identification counts lengths extension number_at
extension_zero_read s One = refl
extension_zero_read s Two =
    field_extended (layout (record s { version = Two })) _ (two_extended s)

element_count_read_by : (s : Sections) (v : Version) → (v ≡ One → length s.elements ≡ 0)
    → length s.elements < 2 ^ 32
    → element_count (layout (record s { version = v })) ≡ length s.elements
unfolding layout header magic identification counts lengths extension number_at
element_count_read_by s One none fits = sym (none refl)
element_count_read_by s Two none fits =
    field_extended (layout (record s { version = Two })) _ (two_extended s)
    ∙ from_be_bytes-to_be_bytes_4 (length s.elements) fits

element_count_read : (s : Sections) → AreSections s → element_count (layout s) ≡ length s.elements
element_count_read s are = element_count_read_by s s.version are.no_elements
    (let h = are.total_fits in omega arith)

variable_rows_read_by : (s : Sections) (v : Version)
    → variable_rows_start (layout (record s { version = v })) ≡ header_size v
unfolding variable_rows_start layout header magic identification counts lengths extension number_at
variable_rows_read_by s One = refl
variable_rows_read_by s Two = refl

variable_rows_read : (s : Sections) → variable_rows_start (layout s) ≡ header_size s.version
variable_rows_read s = variable_rows_read_by s s.version

counts_read : (s : Sections) → AreSections s → counts_in (layout s) ≡ s.counts
unfolding layout header magic identification counts lengths extension number_at
counts_read s are = same_counts
    (from_be_bytes-to_be_bytes_2 s.counts.variables are.counts_fit.variables)
    (from_be_bytes-to_be_bytes_2 s.counts.commands are.counts_fit.commands)
    (from_be_bytes-to_be_bytes_2 s.counts.menus are.counts_fit.menus)
    (from_be_bytes-to_be_bytes_2 s.counts.collections are.counts_fit.collections)
    (from_be_bytes-to_be_bytes_2 s.counts.methods are.counts_fit.methods)
    (arrays_read s are)
    (from_be_bytes-to_be_bytes_2 s.counts.strings are.counts_fit.strings)
    (from_be_bytes-to_be_bytes_4 s.counts.manufacturer are.counts_fit.manufacturer)
    (from_be_bytes-to_be_bytes_4 s.counts.device_type are.counts_fit.device_type)
    (from_be_bytes-to_be_bytes_4 s.counts.device_revision are.counts_fit.device_revision)
    (from_be_bytes-to_be_bytes_4 s.counts.dd_revision are.counts_fit.dd_revision)

first_zero : (s : Sections) → header_padding (layout s) ≡ 0
unfolding layout header magic identification counts lengths extension number_at
first_zero s = refl

zero_read : (s : Sections) → header_padding (layout s) + extension_padding (layout s) ≡ 0
zero_read s =
    let first = first_zero s in
    let second = extension_zero_read s s.version in
    omega arith

pub total_read : (s : Sections) → AreSections s → total_length (layout s) ≡ layout_length s
unfolding layout header magic identification counts lengths extension number_at
total_read s are = from_be_bytes-to_be_bytes_4 (layout_length s) are.total_fits

attribute_count_read : (s : Sections) → AreSections s → attribute_count (layout s)
    ≡ length s.attributes
unfolding layout header magic identification counts lengths extension number_at
attribute_count_read s are = from_be_bytes-to_be_bytes_4 (length s.attributes)
    (let h = are.total_fits in omega arith)

names_length_read : (s : Sections) → AreSections s → names_length (layout s) ≡ length s.name_bytes
unfolding layout header magic identification counts lengths extension number_at
names_length_read s are = from_be_bytes-to_be_bytes_4 (length s.name_bytes)
    (let h = are.total_fits in omega arith)

pub code_length_read : (s : Sections) → AreSections s → code_length (layout s) ≡ length s.code
unfolding layout header magic identification counts lengths extension number_at
code_length_read s are = from_be_bytes-to_be_bytes_4 (length s.code)
    (let h = are.total_fits in omega arith)

strings_length_read : (s : Sections) → AreSections s → strings_length (layout s)
    ≡ length s.string_bytes
unfolding layout header magic identification counts lengths extension number_at
strings_length_read s are = from_be_bytes-to_be_bytes_4 (length s.string_bytes)
    (let h = are.total_fits in omega arith)

-- ---- where the sections start

name_rows_read : (s : Sections) → AreSections s → name_rows_start (layout s)
    ≡ header_size s.version + 4 * length s.variables
unfolding name_rows_start
name_rows_read s are =
    let c = ap (λ (x : Counts). x.variables) (counts_read s are) in
    let n = are.variables_counted in
    let first = variable_rows_read s in
    omega arith

attribute_rows_read : (s : Sections) → AreSections s → attribute_rows_start (layout s)
    ≡ header_size s.version + 4 * length s.variables + 8 * length s.names
unfolding attribute_rows_start
attribute_rows_read s are =
    let c = ap (λ (x : Counts). item_count x) (counts_read s are) in
    let n = are.names_counted in
    let p = name_rows_read s are in
    omega arith

element_rows_read : (s : Sections) → AreSections s → element_rows_start (layout s)
    ≡ header_size s.version + 4 * length s.variables + 8 * length s.names
    + 16 * length s.attributes
unfolding element_rows_start
element_rows_read s are =
    let c = attribute_count_read s are in
    let p = attribute_rows_read s are in
    omega arith

code_read : (s : Sections) → AreSections s → code_start (layout s)
    ≡ header_size s.version + 4 * length s.variables + 8 * length s.names
    + 16 * length s.attributes + 8 * length s.elements
unfolding code_start
code_read s are =
    let c = element_count_read s are in
    let p = element_rows_read s are in
    omega arith

string_rows_read : (s : Sections) → AreSections s → string_rows_start (layout s)
    ≡ header_size s.version + 4 * length s.variables + 8 * length s.names
    + 16 * length s.attributes + 8 * length s.elements + length s.code
unfolding string_rows_start
string_rows_read s are =
    let c = code_length_read s are in
    let p = code_read s are in
    omega arith

name_bytes_read : (s : Sections) → AreSections s → name_bytes_start (layout s)
    ≡ header_size s.version + 4 * length s.variables + 8 * length s.names
    + 16 * length s.attributes + 8 * length s.elements + length s.code
    + 8 * length s.strings
unfolding name_bytes_start
name_bytes_read s are =
    let c = ap (λ (x : Counts). x.strings) (counts_read s are) in
    let n = are.strings_counted in
    let p = string_rows_read s are in
    omega arith

string_bytes_read : (s : Sections) → AreSections s → string_bytes_start (layout s)
    ≡ header_size s.version + 4 * length s.variables + 8 * length s.names
    + 16 * length s.attributes + 8 * length s.elements + length s.code
    + 8 * length s.strings + length s.name_bytes
unfolding string_bytes_start
string_bytes_read s are =
    let c = names_length_read s are in
    let p = name_bytes_read s are in
    omega arith

pub end_read : (s : Sections) → AreSections s → sections_end (layout s) ≡ layout_length s
unfolding sections_end
end_read s are =
    let c = strings_length_read s are in
    let p = string_bytes_read s are in
    omega arith

-- ---- pieces in front taken together

split_2 : (a b rest : List ℕ) → a ++ (b ++ rest) ≡ (a ++ b) ++ rest
split_2 a b rest = sym (append_assoc a b rest)

split_3 : (a b c rest : List ℕ) → a ++ (b ++ (c ++ rest)) ≡ (a ++ (b ++ c)) ++ rest
split_3 a b c rest = simp append_assoc

split_4 : (a b c d rest : List ℕ) → a ++ (b ++ (c ++ (d ++ rest))) ≡ (a ++ (b ++ (c ++ d))) ++ rest
split_4 a b c d rest = simp append_assoc

split_5 : (a b c d e rest : List ℕ) → a ++ (b ++ (c ++ (d ++ (e ++ rest))))
    ≡ (a ++ (b ++ (c ++ (d ++ e)))) ++ rest
split_5 a b c d e rest = simp append_assoc

split_6 : (a b c d e f rest : List ℕ) → a ++ (b ++ (c ++ (d ++ (e ++ (f ++ rest)))))
    ≡ (a ++ (b ++ (c ++ (d ++ (e ++ f))))) ++ rest
split_6 a b c d e f rest = simp append_assoc

split_7 : (a b c d e f g rest : List ℕ)
    → a ++ (b ++ (c ++ (d ++ (e ++ (f ++ (g ++ rest))))))
    ≡ (a ++ (b ++ (c ++ (d ++ (e ++ (f ++ g)))))) ++ rest
split_7 a b c d e f g rest = simp append_assoc

-- the last piece, with nothing after it
split_8 : (a b c d e f g h i : List ℕ)
    → a ++ (b ++ (c ++ (d ++ (e ++ (f ++ (g ++ (h ++ i)))))))
    ≡ (a ++ (b ++ (c ++ (d ++ (e ++ (f ++ (g ++ h))))))) ++ (i ++ [])
split_8 a b c d e f g h i = simp (append_assoc, append-nil)

-- ---- the sections

module _ (s : Sections) (are : AreSections s) where
  variables_are : (contents_in (layout s)).variables ≡ (contents_of s).variables
  unfolding contents_in layout
  variables_are = variables_read (layout s) _ _ s.variables (header s) _ refl
      (ap (λ (c : Counts). c.variables) (counts_read s are) ∙ are.variables_counted)
      (variable_rows_read s ∙ sym (header_length_is s))

  names_are : (contents_in (layout s)).names ≡ (contents_of s).names
  unfolding contents_in layout
  names_are =
      let a = header s in
      let b = flat_map variable_row s.variables in
      let size = variables_length s.variables in
      let sizes = length-append a b in
      let head = header_length_is s in
      let start = name_rows_read s are in
      names_read (layout s) _ _ s.names are.names_fit (a ++ b) _ (split_2 a b _)
      (ap (λ (c : Counts). item_count c) (counts_read s are) ∙ are.names_counted) (omega arith)

  attributes_are : (contents_in (layout s)).attributes ≡ (contents_of s).attributes
  unfolding contents_in layout
  attributes_are =
      let a = header s in
      let b = flat_map variable_row s.variables in
      let c = flat_map name_row s.names in
      let head = header_length_is s in
      let size = variables_length s.variables in
      let size_names = names_length_is s.names in
      let start = attribute_rows_read s are in
      attributes_read (layout s) _ _ s.attributes are.attributes_fit (a ++ (b ++ c)) _
      (split_3 a b c _) (attribute_count_read s are)
      (omega (arith, length-append a (b ++ c), length-append b c))

  elements_are : (contents_in (layout s)).elements ≡ s.elements
  unfolding contents_in layout
  elements_are =
      let a = header s in
      let b = flat_map variable_row s.variables in
      let c = flat_map name_row s.names in
      let d = flat_map attribute_row s.attributes in
      let head = header_length_is s in
      let size = variables_length s.variables in
      let size_names = names_length_is s.names in
      let size_attributes = attributes_length s.attributes in
      let start = element_rows_read s are in
      elements_read (layout s) _ _ s.elements are.elements_fit (a ++ (b ++ (c ++ d))) _
      (split_4 a b c d _) (element_count_read s are)
      (omega (
        arith,
        length-append a (b ++ (c ++ d)),
        length-append b (c ++ d),
        length-append c d,
      ))

  code_is : (contents_in (layout s)).code ≡ s.code
  unfolding contents_in layout
  code_is =
      let a = header s in
      let b = flat_map variable_row s.variables in
      let c = flat_map name_row s.names in
      let d = flat_map attribute_row s.attributes in
      let e = flat_map element_row s.elements in
      let head = header_length_is s in
      let size = variables_length s.variables in
      let size_names = names_length_is s.names in
      let size_attributes = attributes_length s.attributes in
      let size_elements = elements_length_is s.elements in
      let start = code_read s are in
      part_read (layout s) _ _ (a ++ (b ++ (c ++ (d ++ e)))) s.code _ (split_5 a b c d e _)
      (omega (
        arith,
        length-append a (b ++ (c ++ (d ++ e))),
        length-append b (c ++ (d ++ e)),
        length-append c (d ++ e),
        length-append d e,
      ))
      (code_length_read s are)

  strings_are : (contents_in (layout s)).strings ≡ (contents_of s).strings
  unfolding contents_in layout
  strings_are =
      let a = header s in
      let b = flat_map variable_row s.variables in
      let c = flat_map name_row s.names in
      let d = flat_map attribute_row s.attributes in
      let e = flat_map element_row s.elements in
      let f = s.code in
      let head = header_length_is s in
      let size = variables_length s.variables in
      let size_names = names_length_is s.names in
      let size_attributes = attributes_length s.attributes in
      let size_elements = elements_length_is s.elements in
      let start = string_rows_read s are in
      strings_read (layout s) _ _ s.strings are.strings_fit (a ++ (b ++ (c ++ (d ++ (e ++ f))))) _
      (split_6 a b c d e f _) (ap (λ (n : Counts). n.strings) (counts_read s are)
      ∙ are.strings_counted)
      (omega (
        arith,
        length-append a (b ++ (c ++ (d ++ (e ++ f)))),
        length-append b (c ++ (d ++ (e ++ f))),
        length-append c (d ++ (e ++ f)),
        length-append d (e ++ f),
        length-append e f,
      ))

  name_bytes_are : (contents_in (layout s)).name_bytes ≡ s.name_bytes
  unfolding contents_in layout
  name_bytes_are =
      let a = header s in
      let b = flat_map variable_row s.variables in
      let c = flat_map name_row s.names in
      let d = flat_map attribute_row s.attributes in
      let e = flat_map element_row s.elements in
      let f = s.code in
      let g = flat_map string_row s.strings in
      let head = header_length_is s in
      let size = variables_length s.variables in
      let size_names = names_length_is s.names in
      let size_attributes = attributes_length s.attributes in
      let size_elements = elements_length_is s.elements in
      let size_strings = strings_length_is s.strings in
      let start = name_bytes_read s are in
      part_read (layout s) _ _ (a ++ (b ++ (c ++ (d ++ (e ++ (f ++ g)))))) s.name_bytes
      s.string_bytes
      (split_7 a b c d e f g _)
      (omega (
        arith,
        length-append a (b ++ (c ++ (d ++ (e ++ (f ++ g))))),
        length-append b (c ++ (d ++ (e ++ (f ++ g)))),
        length-append c (d ++ (e ++ (f ++ g))),
        length-append d (e ++ (f ++ g)),
        length-append e (f ++ g),
        length-append f g,
      ))
      (names_length_read s are)

  string_bytes_are : (contents_in (layout s)).string_bytes ≡ s.string_bytes
  unfolding contents_in layout
  string_bytes_are =
      let a = header s in
      let b = flat_map variable_row s.variables in
      let c = flat_map name_row s.names in
      let d = flat_map attribute_row s.attributes in
      let e = flat_map element_row s.elements in
      let f = s.code in
      let g = flat_map string_row s.strings in
      let h = s.name_bytes in
      let head = header_length_is s in
      let size = variables_length s.variables in
      let size_names = names_length_is s.names in
      let size_attributes = attributes_length s.attributes in
      let size_elements = elements_length_is s.elements in
      let size_strings = strings_length_is s.strings in
      let start = string_bytes_read s are in
      part_read (layout s) _ _ (a ++ (b ++ (c ++ (d ++ (e ++ (f ++ (g ++ h))))))) s.string_bytes []
      (split_8 a b c d e f g h s.string_bytes)
      (omega (
        arith,
        length-append a (b ++ (c ++ (d ++ (e ++ (f ++ (g ++ h)))))),
        length-append b (c ++ (d ++ (e ++ (f ++ (g ++ h))))),
        length-append c (d ++ (e ++ (f ++ (g ++ h)))),
        length-append d (e ++ (f ++ (g ++ h))),
        length-append e (f ++ (g ++ h)),
        length-append f (g ++ h),
        length-append g h,
      ))
      (strings_length_read s are)

-- ---- together

same_contents : {v v' : Version} {p p' : ℕ} {c c' : Counts} {vs vs' : List VariableFields}
    {ns ns' : List NameFields} {rs rs' : List AttributeFields} {es es' : List Element}
    {xs xs' : List ℕ}
    {ss ss' : List Span} {nb nb' sb sb' : List ℕ}
    → v ≡ v' → p ≡ p' → c ≡ c' → vs ≡ vs' → ns ≡ ns' → rs ≡ rs' → es ≡ es' → xs ≡ xs' → ss ≡ ss'
    → nb ≡ nb'
    → sb ≡ sb'
    → ◌≡◌ {A = Contents} (record {
      version = v;
      padding = p;
      counts = c;
      variables = vs;
      names = ns;
      attributes = rs;
      elements = es;
      code = xs;
      strings = ss;
      name_bytes = nb;
      string_bytes = sb;
    })
    (record {
      version = v';
      padding = p';
      counts = c';
      variables = vs';
      names = ns';
      attributes = rs';
      elements = es';
      code = xs';
      strings = ss';
      name_bytes = nb';
      string_bytes = sb';
    })
same_contents a b d e f g h i j k l = cc

version_read_by : (s : Sections) (v : Version)
    → (contents_in (layout (record s { version = v }))).version ≡ v
unfolding contents_in layout header magic identification counts lengths extension number_at
version_read_by s One = refl
version_read_by s Two = refl

version_read : (s : Sections) → (contents_in (layout s)).version ≡ (contents_of s).version
version_read s = version_read_by s s.version

pub contents_are : (s : Sections) → AreSections s → contents_in (layout s) ≡ contents_of s
unfolding contents_in
contents_are s are = same_contents (version_read s) (zero_read s) (counts_read s are)
    (variables_are s are) (names_are s are) (attributes_are s are) (elements_are s are)
    (code_is s are)
    (strings_are s are) (name_bytes_are s are) (string_bytes_are s are)
