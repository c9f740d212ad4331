-- Parts of code that name strings by their numbers, one after the other and round each other.
use Rattle.std.proofs.Common.{◌≡◌, sym, ap, subst, ◌∙◌, ℕ, zero, suc, ◌+◌, inl, inr, List, [], ◌∷◌, ◌++◌, length, arith, append_assoc}
use Rattle.std.specs.List.{Contains}
use Rattle.std.proofs.lemmas.List.{map-append}
use Rattle.std.proofs.lemmas.List.Elements.{Contains-append_left, Contains-append_cases}
use Rattle.edd_syntax.specs.declared.numbers.StrNo.{StrNo}
use Rattle.edd_syntax.specs.Strings.{strings_of_texts}
use Rattle.edd_syntax.specs.Text as texts
use Rattle.edd_syntax.specs.Words.{Words, words_of}
use Rattle.edd_code.specs.Tables.{GrowsBy, Keeps, Overflows, number_in}
use Rattle.edd_code.specs.Written.{WritesNumbered}
use Rattle.edd_code.proofs.Growing.{nothing_added, both_added, overflows_first, overflows_second}
use Rattle.edd_code.proofs.Numbers.{kept_held, number_is}

-- what bytes a part has, by the numbers of strings and its place
abbrev pub Bytes : Type 0
Bytes = (Words → StrNo) → ℕ → List ℕ

-- ---- no string, and one string

pub plain_written : (table : List Words) (before after bytes : List ℕ) (f : Bytes)
    → after ≡ before ++ bytes → ((number : Words → StrNo) → bytes ≡ f number (length before))
    → WritesNumbered table before [] f table after
plain_written table before after bytes f is same = record {
  table = nothing_added table;
  holds = λ w held. absurd (none w held);
  written = λ d later. is ∙ ap (λ (bs : List ℕ). before ++ bs) (same (number_in (table ++ later)));
}
  where
    none : (w : Words) → Contains [] w → ⊥
    none w held = omega (arith, held.1)

pub string_written : (old new : List Words) (before after : List ℕ) (w : Words) (n : StrNo)
    (f : StrNo → ℕ → List ℕ) → GrowsBy old (w ∷ []) new → Keeps new w n
    → after ≡ before ++ f n (length before)
    → WritesNumbered old before (w ∷ []) (λ number. f (number w)) new after
string_written old new before after w n f table keeps is = record {
  table = table;
  holds = λ v held. subst (λ (x : Words). Contains new x) (only v held) (kept_held new w n keeps);
  written = λ d later. is ∙ ap (λ (k : StrNo). before ++ f k (length before))
      (sym (number_is new later w n (table.different d) keeps));
}
  where
    only : (v : Words) → Contains (w ∷ []) v → w ≡ v
    only v (zero, below, is) = is
    only v (suc k, below, is) = absurd (omega arith)

-- ---- one part

-- the same part, with something round it that names no string
pub part_written : {old new strings : List Words} {inner_before inner_after before after : List ℕ}
    {f g : Bytes} → WritesNumbered old inner_before strings f new inner_after
    → ((number : Words → StrNo) → inner_after ≡ inner_before ++ f number (length inner_before)
    → after ≡ before ++ g number (length before))
    → WritesNumbered old before strings g new after
part_written {new = new} w round = record {
  table = w.table;
  holds = w.holds;
  written = λ d later. round (number_in (new ++ later)) (w.written d later);
}

-- ---- two parts

module _ {old mid new first second : List Words} {c0 c1 c2 c3 before after : List ℕ} {f g h : Bytes}
  where
    -- two parts, with something round them that names no string
    pub parts_written : WritesNumbered old c0 first f mid c1 → WritesNumbered mid c2 second g new c3
        → ((number : Words → StrNo) → c1 ≡ c0 ++ f number (length c0)
        → c3 ≡ c2 ++ g number (length c2) → after ≡ before ++ h number (length before))
        → WritesNumbered old before (first ++ second) h new after
    parts_written v w round = record {
      table = both_added v.table w.table;
      holds = λ x held. elim (Contains-append_cases first second x held) [
        | inl k ↦ subst (λ (t : List Words). Contains t x) (sym w.table.grown)
            (Contains-append_left mid w.table.more x (v.holds x k))
        | inr k ↦ w.holds x k
      ];
      written = λ d later.
          let same : mid ++ (w.table.more ++ later) ≡ new ++ later =
          sym (append_assoc mid w.table.more later) ∙ ap (λ (t : List Words). t ++ later)
          (sym w.table.grown) in
          round (number_in (new ++ later))
          (subst (λ (t : List Words). c1 ≡ c0 ++ f (number_in t) (length c0)) same
          (v.written d (w.table.more ++ later))) (w.written (v.table.different d) later);
    }

-- ---- the strings of texts

-- the strings may be listed otherwise
pub strings_listed : {old new strings others : List Words} {before after : List ℕ} {f : Bytes}
    → strings ≡ others → WritesNumbered old before strings f new after
    → WritesNumbered old before others f new after
strings_listed {old} {new} {strings} {others} {before} {after} {f} same w =
    subst (λ (ws : List Words). WritesNumbered old before ws f new after) same w

pub texts_listed : (ts us : List texts.Text) → strings_of_texts ts ++ strings_of_texts us
    ≡ strings_of_texts (ts ++ us)
texts_listed ts us = sym (map-append words_of ts us)

-- too many in the first part, and in the second
pub texts_overflow_first : (old : List Words) (ts us : List texts.Text)
    → Overflows old (strings_of_texts ts) → Overflows old (strings_of_texts (ts ++ us))
texts_overflow_first old ts us over = subst (λ (ws : List Words). Overflows old ws)
    (texts_listed ts us) (overflows_first old (strings_of_texts ts) (strings_of_texts us) over)

pub texts_overflow_second : {old mid : List Words} {before between : List ℕ} {f : Bytes}
    (ts us : List texts.Text) → WritesNumbered old before (strings_of_texts ts) f mid between
    → Overflows mid (strings_of_texts us)
    → Overflows old (strings_of_texts (ts ++ us))
texts_overflow_second {old} {mid} ts us w over =
    subst (λ (ws : List Words). Overflows old ws) (texts_listed ts us)
    (overflows_second old (strings_of_texts ts) mid (strings_of_texts us) w.table over)
