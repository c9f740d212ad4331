-- What is shown of lines, one after the other.
use Rattle.std.proofs.Common.{◌≡◌, refl, sym, ap, subst, ◌∙◌, ℕ, suc, ◌+◌, ◌-◌, ◌<◌, ◌≤◌, List, [], ◌∷◌, ◌++◌, length, get_or, drop, arith, append_assoc}
use Rattle.std.proofs.lemmas.List.{at_drop_more, at_drop_all, append-nil}
use Rattle.edd_syntax.specs.declared.numbers.AttrRef.{AttrRef}
use Rattle.edd_syntax.specs.declared.numbers.ItemNo.{ItemNo}
use Rattle.edd_image.specs.declared.parts.Counts.{Counts}
use Rattle.edd_instructions.specs.Reading.{Reading}
use Rattle.edd_panel.specs.declared.entries.Listed.{Listed}
use Rattle.edd_panel.specs.declared.entries.Listed.TheVariants as listed
use Rattle.edd_panel.specs.Screens.{ShowsLine, ShowsLines, numbered_from, plain}

module _ (counts : Counts) (reads : AttrRef → Reading → Type 0) where
  -- whatever is shown of the lines from a place on, with what was shown so far it is shown of all
  abbrev pub ShowsFrom : (written : List Listed) → (i : ℕ) → (shown : List Listed) → Type 0
  ShowsFrom written i shown = (more : List Listed)
      → ShowsLines counts reads (drop i written) more → ShowsLines counts reads written (shown ++ more)

  pub shows_step : (written : List Listed) (i : ℕ) (d : Listed) (old new here : List Listed)
      → i < length written → ShowsLine counts reads (get_or written i d) here → new ≡ old ++ here
      → ShowsFrom written i old → ShowsFrom written (i + 1) new
  shows_step written i d old new here within line is so_far more rest =
      let whole : ShowsLines counts reads written (old ++ (here ++ more)) = so_far (here ++ more)
      (subst (λ (ys : List Listed). ShowsLines counts reads ys (here ++ more))
      (sym (at_drop_more (λ (ys : List Listed). ys) written i d within)) (here, more, line, rest, refl)) in
      subst (λ (xs : List Listed). ShowsLines counts reads written xs)
      (sym (ap (λ (xs : List Listed). xs ++ more) is ∙ append_assoc old here more)) whole

  pub shows_all : (written : List Listed) (i : ℕ) (shown : List Listed) → length written ≤ i
      → ShowsFrom written i shown → ShowsLines counts reads written shown
  shows_all written i shown over so_far =
      subst (λ (xs : List Listed). ShowsLines counts reads written xs) (append-nil shown)
      (so_far [] (subst (λ (ys : List Listed). ShowsLines counts reads ys [])
      (sym (at_drop_all (λ (ys : List Listed). ys) written i over)) refl))

-- numbers from a place on
counted_on : (item : ℕ → ItemNo) (n left : ℕ) (rest : ℕ) → left ≡ suc rest
    → numbered_from item n left ≡ listed.Entry (plain (item n)) ∷ numbered_from item (n + 1) rest
counted_on item n left rest is = ap (λ (k : ℕ). numbered_from item n k) is

pub numbered_step : (item : ℕ → ItemNo) (n count : ℕ) (start old new : List Listed) → n < count
    → new ≡ old ++ listed.Entry (plain (item n)) ∷ []
    → old ++ numbered_from item n (count - n) ≡ start ++ numbered_from item 0 count
    → new ++ numbered_from item (n + 1) (count - (n + 1)) ≡ start ++ numbered_from item 0 count
numbered_step item n count start old new within is so_far =
    let left : count - n ≡ suc (count - (n + 1)) = omega (arith, within) in
    ap (λ (xs : List Listed). xs ++ numbered_from item (n + 1) (count - (n + 1))) is
    ∙ append_assoc old (listed.Entry (plain (item n)) ∷ [])
    (numbered_from item (n + 1) (count - (n + 1)))
    ∙ ap (λ (xs : List Listed). old ++ xs)
    (sym (counted_on item n (count - n) (count - (n + 1)) left)) ∙ so_far

pub numbered_end : (item : ℕ → ItemNo) (n count : ℕ) (start old : List Listed) → count ≤ n
    → old ++ numbered_from item n (count - n) ≡ start ++ numbered_from item 0 count
    → old ≡ start ++ numbered_from item 0 count
numbered_end item n count start old over so_far =
    let none : count - n ≡ 0 = omega (arith, over) in
    sym (ap (λ (k : ℕ). old ++ numbered_from item n k) none ∙ append-nil old) ∙ so_far
