-- Tables of strings that grow, in one step and in several.
use Rattle.std.proofs.Common.{◌≡◌, ◌≢◌, refl, sym, ap, subst, ◌∙◌, ℕ, zero, suc, inl, inr, List, [], ◌∷◌, ◌++◌, length, Option, Some, None, arith, append_assoc, length-append}
use Rattle.std.specs.List.{Contains, slice_get}
use Rattle.std.proofs.lemmas.List.{append-nil, get_or_default}
use Rattle.std.proofs.lemmas.List.Elements.{Contains-append_left, Contains-append_right, Contains-append_cases}
use Rattle.std.proofs.lemmas.List.Quantifiers.{all_pairs_push}
use Rattle.edd_syntax.specs.declared.numbers.StrNo.{StrNo}
use Rattle.edd_syntax.specs.Words.{Words}
use Rattle.edd_instructions.specs.Agreement.{IsString, string_of_table}
use Rattle.edd_strings.specs.Strings.{Adds}
use Rattle.edd_code.specs.Tables.{AreDifferent, GrowsBy, Grows, Keeps, KeepsOptional, Overflows}

slice_get-append : {A : Type 0} (xs ys : List A) (n : ℕ) (x : A) → slice_get xs n ≡ Some x
    → slice_get (xs ++ ys) n ≡ Some x
slice_get-append [] ys n x h = absurd cc
slice_get-append (y ∷ xs) ys zero x h = h
slice_get-append (y ∷ xs) ys (suc n) x h = slice_get-append xs ys n x h

slice_get-push : {A : Type 0} (xs : List A) (x : A) → slice_get (xs ++ x ∷ []) (length xs) ≡ Some x
slice_get-push [] x = refl
slice_get-push (y ∷ xs) x = slice_get-push xs x

pub no_growth : (old : List Words) → Grows old old
no_growth old = ([], sym (append-nil old))

-- ---- one string

pub nothing_added : (old : List Words) → GrowsBy old [] old
nothing_added old = record {
  more = [];
  grown = sym (append-nil old);
  only = λ w c. c;
  different = λ d. d;
  few = λ h. h;
}

pub adds_grow : (old new : List Words) (w : Words) (n : ℕ) → Adds old w n new → Grows old new
adds_grow old new w n (inl h) = ([], h.1 ∙ sym (append-nil old))
adds_grow old new w n (inr h) = (w ∷ [], h.2)

-- a new string is added where there is room for it
pub adds_one : (old new : List Words) (w : Words) (n : ℕ) → Adds old w n new
    → ¬ ((¬ (Contains old w)) × (length old ≡ 65535)) → GrowsBy old (w ∷ []) new
adds_one old new w n (inl h) room = record {
  more = [];
  grown = h.1 ∙ sym (append-nil old);
  only = λ v c. absurd (omega (arith, c.1));
  different = λ d. subst AreDifferent (sym h.1) d;
  few = λ le. omega (arith, le, ap length h.1);
}
adds_one old new w n (inr h) room = record {
  more = w ∷ [];
  grown = h.2;
  only = λ v c. c;
  different = λ d. subst AreDifferent (sym h.2)
      (all_pairs_push (λ s t. s ≢ t) old w d
      (λ k e below same. h.0 (k, below, get_or_default old k w e below ∙ same)));
  few = λ le. let ne : ¬ (length old ≡ 65535) =
      λ e. room (h.0, e) in omega (arith, le, ne, ap length h.2, length-append old (w ∷ []));
}

pub adds_number : (old new : List Words) (w : Words) (n : StrNo) → Adds old w n.0 new
    → Keeps new w n
adds_number old new w n (inl h) later =
    slice_get-append new later n.0 w (subst (λ (t : List Words). slice_get t n.0 ≡ Some w) (sym h.1)
    h.0)
adds_number old new w n (inr h) later =
    slice_get-append new later n.0 w (subst (λ (t : List Words). slice_get t n.0 ≡ Some w) (sym h.2)
    (subst (λ (k : ℕ). slice_get (old ++ w ∷ []) k ≡ Some w) (sym h.1) (slice_get-push old w)))

pub adding_overflows : (old : List Words) (w : Words) → (¬ (Contains old w)) × (length old ≡ 65535)
    → Overflows old (w ∷ [])
adding_overflows old w h = record {
  held = λ d. (
    old ++ w ∷ [],
    all_pairs_push (λ s t. s ≢ t) old w d
        (λ k e below same. h.0 (k, below, get_or_default old k w e below ∙ same)),
    omega (arith, h.1, length-append old (w ∷ [])),
    λ v c. c,
  );
}

pub ruleset adding = (adds_grow, adds_one, adds_number, adding_overflows, no_growth)

-- ---- several

abbrev pub grows_on : (a b c : List Words) → Grows a b → Grows b c → Grows a c
grows_on a b c p q = (
  p.0 ++ q.0,
  q.1 ∙ ap (λ (t : List Words). t ++ q.0) p.1
      ∙ append_assoc a p.0 q.0,
)

abbrev pub growth : {a ws b : List Words} → GrowsBy a ws b → Grows a b
growth g = (g.more, g.grown)

pub both_added : {a vs b ws c : List Words} → GrowsBy a vs b → GrowsBy b ws c
    → GrowsBy a (vs ++ ws) c
both_added {a} {vs} {b} {ws} {c} p q = record {
  more = p.more ++ q.more;
  grown = (grows_on a b c (growth p) (growth q)).1;
  only = λ w held. elim (Contains-append_cases p.more q.more w held) [
    | inl h ↦ Contains-append_left vs ws w (p.only w h)
    | inr h ↦ Contains-append_right vs ws w (q.only w h)
  ];
  different = λ d. q.different (p.different d);
  few = λ h. q.few (p.few h);
}

pub keeps_on : (b c : List Words) (w : Words) (n : StrNo) → Keeps b w n → Grows b c → Keeps c w n
keeps_on b c w n keeps g later =
    subst (λ (t : List Words). IsString (string_of_table t) w n)
    (sym (ap (λ (t : List Words). t ++ later) g.1 ∙ append_assoc b g.0 later))
    (keeps (g.0 ++ later))

pub keeps_optional_on : (b c : List Words) (w : Option Words) (n : Option StrNo)
    → KeepsOptional b w n → Grows b c → KeepsOptional c w n
keeps_optional_on b c None None keeps g later = tt
keeps_optional_on b c None (Some n) keeps g later = keeps later
keeps_optional_on b c (Some w) None keeps g later = keeps later
keeps_optional_on b c (Some w) (Some n) keeps g later = keeps_on b c w n keeps g later

-- too many in a first part, and in a second one
pub overflows_first : (a vs ws : List Words) → Overflows a vs → Overflows a (vs ++ ws)
overflows_first a vs ws over = record {
  held = λ d.
      let all = over.held d in (
        all.0,
        all.1,
        all.2,
        λ w held. elim (Contains-append_cases a vs w (all.3 w held)) [
          | inl h ↦ Contains-append_left a (vs ++ ws) w h
          | inr h ↦ Contains-append_right a (vs ++ ws) w (Contains-append_left vs ws w h)
        ],
      );
}

pub overflows_second : (a vs b ws : List Words) → GrowsBy a vs b → Overflows b ws
    → Overflows a (vs ++ ws)
overflows_second a vs b ws g over = record {
  held = λ d.
      let all = over.held (g.different d) in (
        all.0,
        all.1,
        all.2,
        λ w held. elim (Contains-append_cases b ws w (all.3 w held)) [
          | inl h ↦ elim (Contains-append_cases a g.more w
              (subst (λ (t : List Words). Contains t w) g.grown h)) [
                | inl k ↦ Contains-append_left a (vs ++ ws) w k
                | inr k ↦ Contains-append_right a (vs ++ ws) w
                    (Contains-append_left vs ws w (g.only w k))
              ]
          | inr h ↦ Contains-append_right a (vs ++ ws) w (Contains-append_right vs ws w h)
        ],
      );
}

-- too many in one of the strings of a record
pub overflows_head : (a : List Words) (w : Words) (ws : List Words) → Overflows a (w ∷ [])
    → Overflows a (w ∷ ws)
overflows_head a w ws over = overflows_first a (w ∷ []) ws over

pub overflows_tail : (a b : List Words) (w : Words) (ws : List Words) → GrowsBy a (w ∷ []) b
    → Overflows b ws → Overflows a (w ∷ ws)
overflows_tail a b w ws g over = overflows_second a (w ∷ []) b ws g over
