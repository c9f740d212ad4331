-- The bytes of an image in the second version of the layout, section by section, in which all counts
-- differ and no section is empty. It is no valid image: only where the fields are is looked at.
use Rattle.std.specs.Prelude.{ℕ, List, [], ◌∷◌, ◌++◌}
use Rattle.std.specs.List.{flat_map}

-- `EDI1`, the version 2, two zeros, and the length of 373 bytes
abbrev pub beginning : List ℕ
beginning = 0x45 ∷ 0x44 ∷ 0x49 ∷ 0x31 ∷ 0 ∷ 2 ∷ 0 ∷ 0 ∷ 0 ∷ 0 ∷ 1 ∷ 0x75 ∷ []

-- manufacturer, device type, device revision and revision of the description, of 32 bits each
abbrev pub identification : List ℕ
identification = 0 ∷ 0 ∷ 0 ∷ 11 ∷ 0 ∷ 0 ∷ 0 ∷ 12 ∷ 0 ∷ 0 ∷ 0 ∷ 13 ∷ 0 ∷ 0 ∷ 0 ∷ 14 ∷ []

-- 3 variables, 1 command, 2 menus, 4 collections, 5 methods and 7 strings, of 16 bits each
abbrev pub counts : List ℕ
counts = 0 ∷ 3 ∷ 0 ∷ 1 ∷ 0 ∷ 2 ∷ 0 ∷ 4 ∷ 0 ∷ 5 ∷ 0 ∷ 7 ∷ []

-- 2 rows of attributes, 21 bytes of names, 3 of code and 9 of strings, of 32 bits each
abbrev pub lengths : List ℕ
lengths = 0 ∷ 0 ∷ 0 ∷ 2 ∷ 0 ∷ 0 ∷ 0 ∷ 21 ∷ 0 ∷ 0 ∷ 0 ∷ 3 ∷ 0 ∷ 0 ∷ 0 ∷ 9 ∷ []

-- 6 arrays, of 16 bits, two zeros, and 1 row of an element, of 32 bits
abbrev pub extension : List ℕ
extension = 0 ∷ 6 ∷ 0 ∷ 0 ∷ 0 ∷ 0 ∷ 0 ∷ 1 ∷ []

-- rows of variables: the type, the size, and two zeros
abbrev pub variables : List ℕ
variables = 1 ∷ 4 ∷ 0 ∷ 0 ∷ 2 ∷ 3 ∷ 0 ∷ 0 ∷ 3 ∷ 2 ∷ 0 ∷ 0 ∷ []

-- the row of a name of one byte: its place among the bytes of names, its length, and two zeros
abbrev pub name_row : ℕ → List ℕ
name_row n = 0 ∷ 0 ∷ 0 ∷ n ∷ 0 ∷ 1 ∷ 0 ∷ 0 ∷ []

-- the numbers of the 21 items
abbrev pub numbers : List ℕ
numbers = 0 ∷ 1 ∷ 2 ∷ 3 ∷ 4 ∷ 5 ∷ 6 ∷ 7 ∷ 8 ∷ 9 ∷ 10 ∷ 11 ∷ 12 ∷ 13 ∷ 14 ∷ 15 ∷ 16 ∷ 17 ∷ 18 ∷ 19
    ∷ 20 ∷ []

-- rows of attributes: the kind, the attribute, the item, the position, two zeros, and the place and the
-- length of the unit in the code
abbrev pub attributes : List ℕ
attributes = 1 ∷ 31 ∷ 0 ∷ 2 ∷ 0 ∷ 9 ∷ 0 ∷ 0 ∷ 0 ∷ 0 ∷ 0 ∷ 0 ∷ 0 ∷ 0 ∷ 0 ∷ 1
    ∷ 5 ∷ 21 ∷ 0 ∷ 4 ∷ 0 ∷ 8 ∷ 0 ∷ 0 ∷ 0 ∷ 0 ∷ 0 ∷ 1 ∷ 0 ∷ 0 ∷ 0 ∷ 2 ∷ []

-- the row of an element: the array, the variable, and the number in the array
abbrev pub elements : List ℕ
elements = 0 ∷ 5 ∷ 0 ∷ 2 ∷ 0 ∷ 0 ∷ 1 ∷ 0 ∷ []

-- code
abbrev pub code : List ℕ
code = 201 ∷ 202 ∷ 203 ∷ []

-- the row of a string: its place among the bytes of strings, and its length
abbrev pub string_row : ℕ → List ℕ
string_row n = 0 ∷ 0 ∷ 0 ∷ n ∷ 0 ∷ 0 ∷ 0 ∷ 3 ∷ []

-- the places of the 7 strings
abbrev pub places : List ℕ
places = 0 ∷ 1 ∷ 2 ∷ 3 ∷ 4 ∷ 5 ∷ 6 ∷ []

-- the bytes of names, one for each
abbrev pub name_bytes : List ℕ
name_bytes = 101 ∷ 102 ∷ 103 ∷ 104 ∷ 105 ∷ 106 ∷ 107 ∷ 108 ∷ 109 ∷ 110 ∷ 111 ∷ 112 ∷ 113 ∷ 114 ∷ 115
    ∷ 116 ∷ 117 ∷ 118 ∷ 119 ∷ 120 ∷ 121 ∷ []

-- the bytes of strings
abbrev pub string_bytes : List ℕ
string_bytes = 31 ∷ 32 ∷ 33 ∷ 34 ∷ 35 ∷ 36 ∷ 37 ∷ 38 ∷ 39 ∷ []

-- all of them: 64 bytes of the header, 12 of variables, 168 of names, 32 of attributes, 8 of elements,
-- 3 of code, 56 of strings, 21 of names and 9 of strings
abbrev pub bytes : List ℕ
bytes = beginning ++ identification ++ counts ++ lengths ++ extension
    ++ variables ++ flat_map name_row numbers ++ attributes ++ elements ++ code
    ++ flat_map string_row places ++ name_bytes ++ string_bytes
