-- Which strings are among others, in whatever order.
use Rattle.std.proofs.Common.{◌≡◌, refl, sym, subst, ℕ, inl, inr, List, ◌++◌}
use Rattle.std.specs.List.{Contains}
use Rattle.std.proofs.lemmas.List.Elements.{Contains-append_left, Contains-append_right, Contains-append_cases}
use Rattle.edd_syntax.specs.declared.numbers.StrNo.{StrNo}
use Rattle.std.specs.Prelude.{Option}
use Rattle.edd_syntax.specs.Words.{Words}
use Rattle.edd_instructions.specs.Agreement.{string_of_table}
use Rattle.edd_code.specs.Blocks.{Block}
use Rattle.edd_code.specs.Tables.{GrowsBy, Overflows}
use Rattle.edd_code.specs.Written.{WritesBlock}
use Rattle.edd_code.proofs.Growing.{both_added, overflows_second}

-- the strings of the first list are among those of the second
abbrev pub Within : (vs ws : List Words) → Type 0
Within vs ws = (w : Words) → Contains vs w → Contains ws w

pub within_same : {vs ws : List Words} → vs ≡ ws → Within vs ws
within_same e w held = subst (λ (us : List Words). Contains us w) e held

pub within_left : (vs ws : List Words) {us : List Words} → us ≡ vs ++ ws → Within vs us
within_left vs ws {us} e w held =
    subst (λ (us : List Words). Contains us w) (sym e) (Contains-append_left vs ws w held)

pub within_right : (vs ws : List Words) {us : List Words} → us ≡ vs ++ ws → Within ws us
within_right vs ws {us} e w held =
    subst (λ (us : List Words). Contains us w) (sym e) (Contains-append_right vs ws w held)

pub within_both : (vs ws us : List Words) → Within vs us → Within ws us → Within (vs ++ ws) us
within_both vs ws us h k w held = elim (Contains-append_cases vs ws w held) [
  | inl p ↦ h w p
  | inr p ↦ k w p
]

pub grows_within : {a vs b ws : List Words} → GrowsBy a vs b → Within vs ws → GrowsBy a ws b
grows_within g within = record {
  more = g.more;
  grown = g.grown;
  only = λ w held. within w (g.only w held);
  different = g.different;
  few = g.few;
}

pub overflows_within : (a : List Words) {vs ws : List Words} → Overflows a vs → Within vs ws
    → Overflows a ws
overflows_within a {vs} {ws} over within = record {
  held = λ d. let all = over.held d in (
    all.0,
    all.1,
    all.2,
    λ w held. within_both a vs (a ++ ws) (within_left a ws {us = (a ++ ws)} refl)
        (λ v h. Contains-append_right a ws v (within v h)) w (all.3 w held),
  );
}

-- a table that grew by some of these strings, and then by more of them
pub grows_twice : {a vs b ws c us : List Words} → GrowsBy a vs b → GrowsBy b ws c → Within vs us
    → Within ws us → GrowsBy a us c
grows_twice {a} {vs} {b} {ws} {us} g h p q =
    grows_within (both_added g h) (within_both vs ws us p q)

pub overflows_later : (a : List Words) {vs : List Words} (b : List Words) {ws us : List Words}
    → GrowsBy a vs b → Overflows b ws → Within vs us → Within ws us → Overflows a us
overflows_later a {vs} b {ws} {us} g over p q =
    overflows_within a (overflows_second a vs b ws g over) (within_both vs ws us p q)

-- a block that was written, with its strings and what it is said in other words
pub block_within : {old : List Words} {before : List ℕ} {vs : List Words} {of : (StrNo
    → Option Words) → Block → Type 0} {new : List Words} {after : List ℕ} {ws : List Words}
    (as_well : (StrNo → Option Words) → Block → Type 0) → WritesBlock old before vs of new after
    → Within vs ws → ((numbered : StrNo → Option Words) (b : Block) → of numbered b
    → as_well numbered b) → WritesBlock old before ws as_well new after
block_within {new = new} {ws} as_well w within same = record {
  table = grows_within w.table within;
  block = w.block;
  written = w.written;
  is = λ later. same (string_of_table (new ++ later)) w.block (w.is later);
}
