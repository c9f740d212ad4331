-- What a script says depends on how many variables there are and on their names alone.
use Rattle.std.proofs.Common.{◌≡◌, ℕ, zero, suc, pos, Bool, true, false, List, [], ◌∷◌, Option, Some, None, Result, Err, refl, ap, ◌∙◌}
use Rattle.std.specs.Prelude.{if◌then◌else◌, length, nat_lt, ◌==◌, option_map, replicate}
use Rattle.std.specs.List.{after_first, before_first, position_or_len}
use Rattle.std.specs.Str.{bytes_eq}
use Rattle.edd_syntax.specs.declared.numbers.VarNo.{VarNo}
use Rattle.edd_syntax.specs.Text.{Name}
use Rattle.edd_syntax.specs.Answers.{Change, Go, values_set}
use Rattle.edd_image.specs.Front.{◌>>=◌}
use Rattle.edd_script.specs.Lines.{lines}
use Rattle.edd_script.specs.Named.{VariableNames, first_named, is_named, variable_named}
use Rattle.edd_script.specs.Numbers.{decimal_of}
use Rattle.edd_script.specs.Said.{Answered, Line, Set, line_of, pair_of, pairs_of, said_answer, said_by, said_set, setting_of, text_in}
use Rattle.edd_script.specs.Scripts.{Said, answers_in, lines_read, mapped, read_from, script_of, sets_in}
use Rattle.edd_script.specs.Words.{words}

module _ (a b : VariableNames) (counted : a.count ≡ b.count)
    (named : (number : ℕ) → a.name number ≡ b.name number) where
  is_named_alike : (name : Name) (number : ℕ) → is_named a name number ≡ is_named b name number
  is_named_alike name number =
      ap (λ (o : Option Name). elim o as (λ _. Bool) [
        | None ↦ false
        | Some its ↦ bytes_eq its name
      ]) (named number)

  first_alike : (name : Name) (count number : ℕ)
      → first_named a name count number ≡ first_named b name count number
  first_alike name zero number = refl
  first_alike name (suc count) number =
      ap (λ (t : Bool). elim t as (λ _. Option VarNo) [
        | true ↦ Some (record { 0 = number })
        | false ↦ first_named a name count (suc number)
      ]) (is_named_alike name number)
      ∙ ap (λ (o : Option VarNo). elim (is_named b name number) as (λ _. Option VarNo) [
        | true ↦ Some (record { 0 = number })
        | false ↦ o
      ]) (first_alike name count (suc number))

  variable_alike : (name : Name) → variable_named a name ≡ variable_named b name
  variable_alike name = ap (λ (count : ℕ). first_named a name count 0) counted
      ∙ first_alike name b.count 0

  setting_alike : (name : Name) (value : List ℕ) → setting_of a name value ≡ setting_of b name value
  setting_alike name value =
      ap (λ (o : Option VarNo). o >>= λ variable. option_map (λ number.
      record { variable = variable; value = number }) (decimal_of 64 value)) (variable_alike name)

  pair_alike : (word : List ℕ) → pair_of a word ≡ pair_of b word
  pair_alike word =
      ap (λ (o : Option Change). if nat_lt (position_or_len (λ n. n == 61) word) (length word)
      then o else None)
      (setting_alike (before_first (λ n. n == 61) word) (after_first (λ n. n == 61) word))

  pairs_alike : (all : List (List ℕ)) → pairs_of a all ≡ pairs_of b all
  pairs_alike [] = refl
  pairs_alike (word ∷ rest) =
      ap (λ (o : Option Change). o >>= λ set. option_map (λ sets. set ∷ sets) (pairs_of a rest))
      (pair_alike word)
      ∙ ap (λ (o : Option (List Change)). pair_of b word >>= λ set.
      option_map (λ sets. set ∷ sets) o) (pairs_alike rest)

  set_alike : (all : List (List ℕ)) → said_set a all ≡ said_set b all
  set_alike [] = refl
  set_alike (name ∷ []) = refl
  set_alike (name ∷ value ∷ []) = ap (option_map Set) (setting_alike name value)
  set_alike (name ∷ value ∷ more ∷ rest) = refl

  answer_alike : (all : List (List ℕ)) → said_answer a all ≡ said_answer b all
  answer_alike [] = refl
  answer_alike (code ∷ rest) =
      ap (λ (o : Option (List Change)). decimal_of 32 code >>= λ number.
      option_map (λ sets. Answered (Go number sets)) o) (pairs_alike rest)

  by_alike : (all : List (List ℕ)) → said_by a all ≡ said_by b all
  by_alike [] = refl
  by_alike (word ∷ rest) = rw (set_alike rest, answer_alike rest) refl

  line_alike : (line : List ℕ) → line_of a line ≡ line_of b line
  line_alike line = by (text_in line)
    where
      by : (o : Option (List ℕ))
          → (o >>= λ text. said_by a (words text)) ≡ (o >>= λ text. said_by b (words text))
      by None = refl
      by (Some text) = by_alike (words text)

  read_alike : (number : ℕ) (all : List (List ℕ)) → read_from a number all ≡ read_from b number all
  read_alike number [] = refl
  read_alike number (line ∷ rest) =
      ap (λ (o : Option Line). elim o as (λ _. Result (List Line) ℕ) [
        | None ↦ Err number
        | Some said ↦ mapped (λ more. said ∷ more) (read_from a (suc number) rest)
      ]) (line_alike line)
      ∙ ap (λ (r : Result (List Line) ℕ). elim (line_of b line) as (λ _. Result (List Line) ℕ) [
        | None ↦ Err number
        | Some said ↦ mapped (λ more. said ∷ more) r
      ]) (read_alike (suc number) rest)

  pub script_alike : (text : List ℕ) → script_of a text ≡ script_of b text
  script_alike text =
      ap (λ (count : ℕ). mapped (λ said. let s : Said = record {
        values = values_set (replicate count (pos 0)) (sets_in said);
        answers = answers_in said;
      } in s) (lines_read a text)) counted
      ∙ ap (λ (r : Result (List Line) ℕ). mapped (λ said. let s : Said = record {
        values = values_set (replicate b.count (pos 0)) (sets_in said);
        answers = answers_in said;
      } in s) r) (read_alike 1 (lines text))
