-- The rows of each section fill it without a gap.
use Rattle.std.proofs.Common.{◌≡◌, refl, ap, ◌∙◌, ℕ, ◌+◌, Bool, true, List, [], ◌∷◌, length, map, arith}
use Rattle.std.specs.Prelude.{◌==◌, ◌&&◌}
use Rattle.std.specs.List.{flat_map, list_all}
use Rattle.std.proofs.lemmas.List.{length-append}
use Rattle.std.proofs.lemmas.Grind.{common_steps}
use Rattle.edd_syntax.specs.Text.{Name}
use Rattle.edd_syntax.specs.Words.{Words}
use Rattle.edd_image.specs.Contents.{fields_of_name, fields_of_string, fields_of_attribute}
use Rattle.edd_image.specs.Strings.{string_bytes}
use Rattle.edd_instructions.specs.Validity.{fills}
use Rattle.edd_assembly.specs.Assembly.{Lowered, name_rows, string_rows, attribute_rows}
use Rattle.edd_assembly.proofs.Cutting.{spans, names_spans, strings_spans, code_of, code_spans}

same : (n : ℕ) → (n == n) ≡ true
same n = grind (arith, common_steps)

both : (a : Bool) {b : Bool} → a ≡ true → b ≡ true → (a && b) ≡ true
both a {b} x y = ap (λ c. c && b) x ∙ y

module _ {Y : Type 0} (bytes : Y → List ℕ) where
  pub spans_fill : (s : ℕ) (ys : List Y)
      → fills s (spans bytes s ys) (s + length (flat_map bytes ys)) ≡ true
  spans_fill s [] = ap (λ n. s == n) (omega arith) ∙ same s
  spans_fill s (y ∷ ys) =
      both (s == s) (same s)
      (ap (λ n. fills (s + length (bytes y)) (spans bytes (s + length (bytes y)) ys) n) (omega
      (arith, length-append (bytes y) (flat_map bytes ys))) ∙ spans_fill (s + length (bytes y)) ys)

pub names_fill : (ns : List Name)
    → fills 0 (map (λ r. r.span) (map fields_of_name (name_rows 0 ns)))
    (length (flat_map (λ n. n) ns)) ≡ true
names_fill ns = ap (λ xs. fills 0 xs (length (flat_map (λ n. n) ns))) (names_spans 0 ns)
    ∙ ap (fills 0 (spans (λ n. n) 0 ns)) (omega arith) ∙ spans_fill (λ n. n) 0 ns

pub strings_fill : (ws : List Words)
    → fills 0 (map fields_of_string (string_rows 0 ws)) (length (flat_map string_bytes ws)) ≡ true
strings_fill ws = ap (λ xs. fills 0 xs (length (flat_map string_bytes ws))) (strings_spans 0 ws)
    ∙ ap (fills 0 (spans string_bytes 0 ws)) (omega arith) ∙ spans_fill string_bytes 0 ws

pub code_fills : (ls : List Lowered)
    → fills 0 (map (λ r. r.span) (map fields_of_attribute (attribute_rows 0 ls)))
    (length (flat_map code_of ls)) ≡ true
code_fills ls = ap (λ xs. fills 0 xs (length (flat_map code_of ls))) (code_spans 0 ls)
    ∙ ap (fills 0 (spans code_of 0 ls)) (omega arith) ∙ spans_fill code_of 0 ls

pub no_name_padding : (s : ℕ) (ns : List Name)
    → list_all (λ r. r.padding == 0) (map fields_of_name (name_rows s ns)) ≡ true
no_name_padding s [] = refl
no_name_padding s (n ∷ ns) = no_name_padding (s + length n) ns
