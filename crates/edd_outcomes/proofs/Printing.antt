-- Lines that were printed, one more in the map, and lines that must not be, one after the other.
use Rattle.std.proofs.Common.{◌≡◌, refl, ap, sym, ◌∙◌, ℕ, ◌+◌, ◌<◌, List, ◌∷◌, length, get_or, drop, Option, Some, Bor}
use Rattle.std.specs.Prelude.{Bool, true, false, cond, ◌||◌, ◌&&◌, is_some}
use Rattle.std.specs.HashMap.{HashMap, UpdatesBy, get_by}
use Rattle.std.specs.List.{cons_option}
use Rattle.std.specs.Str.{bytes_eq}
use Rattle.std.proofs.lemmas.List.{at_drop_more}
use Rattle.std.proofs.lemmas.Map.Text.{hash_map_updates_str}
use Rattle.edd_cases.specs.declared.lines.Line.{Line}
use Rattle.edd_cases.specs.declared.lines.Says.{Says}
use Rattle.edd_cases.specs.declared.lines.Says.TheVariants as says
use Rattle.edd_cases.specs.declared.printed.Seen.{Seen}
use Rattle.edd_outcomes.specs.Expected.{absent, absents, is_printed, lacks, lacks_one, texts}

put_some : {X : Type 0} (x : X) (b : Bool) (old : Option X) → is_some (cond b (Some x) old)
    ≡ (b || is_some old)
put_some x true old = refl
put_some x false old = refl

moved : (new old rest : Bool) → ((new || old) || rest) ≡ (old || (new || rest))
moved true true rest = refl
moved true false rest = refl
moved false old rest = refl

-- one more in the map, and one fewer of those that are left
pub printed_more : (text : Bor (List ℕ)) (turn : ℕ) {S : Type 0} (m n : HashMap (Bor (List ℕ)) ℕ S)
    (rest : List (List ℕ)) (q : List ℕ)
    → UpdatesBy (λ x y. bytes_eq x.now y.now) (λ k. bytes_eq text.now k.now) m n (Some turn)
    → (is_some (get_by (λ k. bytes_eq q k.now) n) || is_printed rest q)
    ≡ (is_some (get_by (λ k. bytes_eq q k.now) m) || is_printed (text.now ∷ rest) q)
printed_more text turn m n rest q updates =
    ap (λ b. b || is_printed rest q)
    (ap is_some (hash_map_updates_str text.now m n (Some turn) updates q)
    ∙ put_some turn (bytes_eq text.now q) _)
    ∙ moved (bytes_eq text.now q) _ (is_printed rest q)

-- the same at the line of a number
pub printed_step : {S : Type 0} (m n : HashMap (Bor (List ℕ)) ℕ S) (i : ℕ) (seen : List Seen)
    (d : Seen) (q : List ℕ) → i < length seen
    → UpdatesBy (λ x y. bytes_eq x.now y.now) (λ k. bytes_eq (get_or seen i d).text.now k.now) m n
    (Some (get_or seen i d).turn)
    → (is_some (get_by (λ k. bytes_eq q k.now) n) || is_printed (texts (drop (i + 1) seen)) q)
    ≡ (is_some (get_by (λ k. bytes_eq q k.now) m) || is_printed (texts (drop i seen)) q)
printed_step m n i seen d q within updates =
    printed_more (get_or seen i d).text (get_or seen i d).turn m n (texts (drop (i + 1) seen)) q updates
    ∙ ap (λ b. is_some (get_by (λ k. bytes_eq q k.now) m) || b)
    (sym (at_drop_more (λ ys. is_printed (texts ys) q) seen i d within))

-- a line of a test, and those behind it
lacks_first : (s : Says) (lines : List Line) (printed : List (List ℕ))
    → lacks (cons_option (absent s) (absents lines)) printed
    ≡ (lacks_one s printed && lacks (absents lines) printed)
lacks_first (says.Absent text) lines printed = refl
lacks_first _ lines printed = refl

-- the same at the line of a number
pub lacks_step : (lines : List Line) (i : ℕ) (d : Line) (printed : List (List ℕ)) (b : Bool)
    → i < length lines → b ≡ lacks_one (get_or lines i d).says printed
    → lacks (absents (drop i lines)) printed ≡ (b && lacks (absents (drop (i + 1) lines)) printed)
lacks_step lines i d printed b within is =
    at_drop_more (λ ys. lacks (absents ys) printed) lines i d within
    ∙ lacks_first (get_or lines i d).says (drop (i + 1) lines) printed
    ∙ ap (λ c. c && lacks (absents (drop (i + 1) lines)) printed) (sym is)
