-- What is cut of a section by its rows is what it was put together of.
use Rattle.std.proofs.Common.{◌≡◌, refl, sym, ap, ◌∙◌, ℕ, ◌+◌, List, [], ◌∷◌, ◌++◌, length, map, take}
use Rattle.std.specs.List.{flat_map}
use Rattle.std.proofs.lemmas.List.{append_assoc, length-append}
use Rattle.std.proofs.Math.Seq.{take-append_seam, drop-append_seam}
use Rattle.edd_syntax.specs.Text.{Name}
use Rattle.edd_syntax.specs.Words.{Words}
use Rattle.edd_image.specs.Strings.{string_bytes}
use Rattle.edd_image.specs.Contents.{Span, part, NameFields, AttributeFields, fields_of_name, fields_of_string, fields_of_attribute}
use Rattle.edd_assembly.specs.Assembly.{Lowered, name_rows, string_rows, attribute_rows}

module _ {Y : Type 0} (bytes : Y → List ℕ) where
  -- where the bytes of elements lie that follow each other from a place on
  abbrev pub spans : ℕ → List Y → List Span
  spans s [] = []
  spans s (y ∷ ys) = (record { start = s; size = length (bytes y) }) ∷ spans (s + length (bytes y))
      ys

  first_cut : (before : List ℕ) (y : Y) (ys : List Y)
      → part (record { start = length before; size = length (bytes y) })
      (before ++ flat_map bytes (y ∷ ys)) ≡ bytes y
  first_cut before y ys = ap (take (length (bytes y)))
      (drop-append_seam before (flat_map bytes (y ∷ ys)))
      ∙ take-append_seam (bytes y) (flat_map bytes ys)

  pub cut : (before : List ℕ) (ys : List Y)
      → map (λ s. part s (before ++ flat_map bytes ys)) (spans (length before) ys) ≡ map bytes ys
  cut before [] = refl
  cut before (y ∷ ys) =
      ap (λ b. b ∷ map (λ s. part s (before ++ (bytes y ++ flat_map bytes ys)))
      (spans (length before + length (bytes y)) ys)) (first_cut before y ys)
      ∙ ap (λ whole. bytes y ∷ map (λ s. part s whole)
      (spans (length before + length (bytes y)) ys))
      (sym (append_assoc before (bytes y) (flat_map bytes ys)))
      ∙ ap (λ n. bytes y ∷ map (λ s. part s ((before ++ bytes y) ++ flat_map bytes ys))
      (spans n ys)) (sym (length-append before (bytes y)))
      ∙ ap (λ rest. bytes y ∷ rest) (cut (before ++ bytes y) ys)

-- the first of several parts, and those after it
abbrev pub first_or : List ℕ → List (List ℕ) → List ℕ
first_or none [] = none
first_or none (x ∷ xs) = x

abbrev pub behind_first : List (List ℕ) → List (List ℕ)
behind_first [] = []
behind_first (x ∷ xs) = xs

-- ---- the sections of names, strings and code

map-map : {A B C : Type 0} (f : A → B) (g : B → C) (xs : List A) → map (λ x. g (f x)) xs
    ≡ map g (map f xs)
map-map f g [] = refl
map-map f g (x ∷ xs) = ap (λ ys. g (f x) ∷ ys) (map-map f g xs)

map-id : {A : Type 0} (xs : List A) → map (λ x. x) xs ≡ xs
map-id [] = refl
map-id (x ∷ xs) = ap (λ ys. x ∷ ys) (map-id xs)

pub names_spans : (s : ℕ) (ns : List Name) → map (λ r. r.span) (map fields_of_name (name_rows s ns))
    ≡ spans (λ n. n) s ns
names_spans s [] = refl
names_spans s (n ∷ ns) = ap (λ rest. (record { start = s; size = length n }) ∷ rest)
    (names_spans (s + length n) ns)

pub names_cut : (ns : List Name)
    → map (λ r. part r.span (flat_map (λ n. n) ns)) (map fields_of_name (name_rows 0 ns)) ≡ ns
names_cut ns = map-map (λ (r : NameFields). r.span) (λ s. part s (flat_map (λ n. n) ns))
    (map fields_of_name (name_rows 0 ns)) ∙ ap (map (λ s. part s (flat_map (λ n. n) ns)))
    (names_spans 0 ns) ∙ cut (λ n. n) [] ns ∙ map-id ns

pub strings_spans : (s : ℕ) (ws : List Words) → map fields_of_string (string_rows s ws)
    ≡ spans string_bytes s ws
strings_spans s [] = refl
strings_spans s (w ∷ ws) = ap (λ rest. (record { start = s; size = length (string_bytes w) })
    ∷ rest) (strings_spans (s + length (string_bytes w)) ws)

pub strings_cut : (ws : List Words)
    → map (λ s. part s (flat_map string_bytes ws)) (map fields_of_string (string_rows 0 ws))
    ≡ map string_bytes ws
strings_cut ws = ap (map (λ s. part s (flat_map string_bytes ws))) (strings_spans 0 ws)
    ∙ cut string_bytes [] ws

abbrev pub code_of : Lowered → List ℕ
code_of l = l.code

pub code_spans : (s : ℕ) (ls : List Lowered)
    → map (λ r. r.span) (map fields_of_attribute (attribute_rows s ls)) ≡ spans code_of s ls
code_spans s [] = refl
code_spans s (l ∷ ls) = ap (λ rest. (record { start = s; size = length l.code }) ∷ rest)
    (code_spans (s + length l.code) ls)

pub code_cut : (ls : List Lowered)
    → map (λ r. part r.span (flat_map code_of ls)) (map fields_of_attribute (attribute_rows 0 ls))
    ≡ map code_of ls
code_cut ls = map-map (λ (r : AttributeFields). r.span) (λ s. part s (flat_map code_of ls))
    (map fields_of_attribute (attribute_rows 0 ls)) ∙ ap (map (λ s. part s (flat_map code_of ls)))
    (code_spans 0 ls) ∙ cut code_of [] ls
