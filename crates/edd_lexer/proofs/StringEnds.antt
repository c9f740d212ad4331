-- The end of a string: the reader finds it, and what it finds is the end.
use Rattle.std.proofs.Common.{◌≡◌, ℕ, ◌-◌, Bool, true, false, not, ◌&&◌, ◌==◌, List, [], ◌∷◌, ◌++◌, take, length, Option, Some, None, refl, ap, sym, subst, ◌∙◌, arith, length-append}
use Rattle.std.proofs.lemmas.List.{take_at}
use Rattle.edd_syntax.specs.Words.{backslash, is_escape, has_escapes, is_escaped}
use Rattle.edd_lexer.specs.Strings.{quote, is_inside, is_taken_along, Closed}
use Rattle.edd_lexer.specs.Reading.{string_end, escape_end, inside_before}
use Rattle.edd_lexer.proofs.Runs.{both}
use Rattle.edd_lexer.proofs.ByteTests.{and_true, and_both, not_true, same_byte}

and_assoc : (a b c : Bool) → ((a && b) && c) ≡ (a && (b && c))
and_assoc true b c = refl
and_assoc false b c = refl

-- what the definitions say of a first byte, by what it is
inside_by : (b : ℕ) (raw : List ℕ) (t : Bool) → (b == backslash) ≡ t
    → is_inside (b ∷ raw) ≡ (elim t as (λ _. Bool) [
      | true ↦ is_taken_along raw
      | false ↦ not (b == quote) && is_inside raw
    ])
inside_by b raw t e = ap (λ (u : Bool). elim u as (λ _. Bool) [
  | true ↦ is_taken_along raw
  | false ↦ not (b == quote) && is_inside raw
]) e

escapes_by : (b : ℕ) (raw : List ℕ) (t : Bool) → (b == backslash) ≡ t
    → has_escapes (b ∷ raw) ≡ (elim t as (λ _. Bool) [
      | true ↦ is_escaped raw
      | false ↦ has_escapes raw
    ])
escapes_by b raw t e = ap (λ (u : Bool). elim u as (λ _. Bool) [
  | true ↦ is_escaped raw
  | false ↦ has_escapes raw
]) e

abbrev End : Type 0
End = Option (Bool × List ℕ)

end_by : (good : Bool) (b : ℕ) (rest : List ℕ) (t : Bool) → (b == backslash) ≡ t
    → string_end good (b ∷ rest)
    ≡ (elim t as (λ _. End) [
      | true ↦ escape_end good rest
      | false ↦ elim (b == quote) as (λ _. End) [
        | true ↦ Some (good, rest)
        | false ↦ string_end good rest
      ]
    ])
unfolding string_end escape_end
end_by good b rest t e =
    ap (λ (u : Bool). elim u as (λ _. End) [
      | true ↦ escape_end good rest
      | false ↦ elim (b == quote) as (λ _. End) [
        | true ↦ Some (good, rest)
        | false ↦ string_end good rest
      ]
    ]) e

end_at : (good : Bool) (b : ℕ) (rest : List ℕ) (t : Bool) → (b == backslash) ≡ false
    → (b == quote) ≡ t
    → string_end good (b ∷ rest)
    ≡ (elim t as (λ _. End) [ true ↦ Some (good, rest) | false ↦ string_end good rest ])
end_at good b rest t e f =
    end_by good b rest false e
    ∙ ap (λ (u : Bool). elim u as (λ _. End) [
      | true ↦ Some (good, rest)
      | false ↦ string_end good rest
    ]) f

inside_step : (good : Bool) (b : ℕ) (raw rest : List ℕ) (t : Bool) → (b == backslash) ≡ t
    → is_inside (b ∷ raw) ≡ true
    → (is_taken_along raw ≡ true → escape_end good (raw ++ quote ∷ rest)
    ≡ Some (good && is_escaped raw, rest))
    → (is_inside raw ≡ true → string_end good (raw ++ quote ∷ rest)
    ≡ Some (good && has_escapes raw, rest))
    → string_end good (b ∷ (raw ++ quote ∷ rest)) ≡ Some (good && has_escapes (b ∷ raw), rest)
inside_step good b raw rest true e inside escape more =
    end_by good b (raw ++ quote ∷ rest) true e
    ∙ (escape (sym (inside_by b raw true e) ∙ inside) ∙ ap (λ (t : Bool). Some (good && t, rest))
    (sym (escapes_by b raw true e)))
inside_step good b raw rest false e inside escape more =
    let parts = both (not (b == quote)) (is_inside raw) (sym (inside_by b raw false e) ∙ inside) in
    end_at good b (raw ++ quote ∷ rest) false e (not_true (b == quote) parts.0)
    ∙ (more parts.1 ∙ ap (λ (t : Bool). Some (good && t, rest)) (sym (escapes_by b raw false e)))

mutual
  unfolding string_end escape_end

  -- the end of a string is found
  pub string_again : (good : Bool) (raw rest : List ℕ) → is_inside raw ≡ true
      → string_end good (raw ++ quote ∷ rest) ≡ Some (good && has_escapes raw, rest)
  string_again good [] rest e = rw and_true refl
  string_again good (b ∷ raw) rest e = inside_step good b raw rest (b == backslash) refl e
      (λ f. escape_again good raw rest f) (λ f. string_again good raw rest f)

  escape_again : (good : Bool) (raw rest : List ℕ) → is_taken_along raw ≡ true
      → escape_end good (raw ++ quote ∷ rest) ≡ Some (good && is_escaped raw, rest)
  escape_again good [] rest e = absurd cc
  escape_again good (b ∷ raw) rest e =
      string_again (good && is_escape b) raw rest e ∙ ap (λ (t : Bool). Some (t, rest))
      (and_assoc good (is_escape b) (has_escapes raw))

-- what is found as the end of a string, or of a string after a backslash
pub record Ends (inside : List ℕ → Bool) (escapes : List ℕ → Bool) (good : Bool) (here : List ℕ)
    (end : Bool × List ℕ) : Type 0 where
  pub raw : List ℕ
  pub whole : here ≡ raw ++ quote ∷ end.1
  pub is_inside : inside raw ≡ true
  pub escapes_are : end.0 ≡ (good && escapes raw)

Found : (List ℕ → Bool) → (List ℕ → Bool) → Bool → List ℕ → Option (Bool × List ℕ) → Type 0
Found inside escapes good here None = Unit {0}
Found inside escapes good here (Some end) = Ends inside escapes good here end

at_quote : (good : Bool) (b : ℕ) (rest : List ℕ) → (b == quote) ≡ true
    → Ends is_inside has_escapes good (b ∷ rest) (good, rest)
at_quote good b rest e = record {
  raw = [];
  whole = ap (λ (c : ℕ). c ∷ rest) (same_byte b quote e);
  is_inside = refl;
  escapes_are = sym (and_true good);
}

at_other : (good : Bool) (b : ℕ) (rest : List ℕ) (end : Option (Bool × List ℕ))
    → (b == backslash) ≡ false → (b == quote) ≡ false
    → Found is_inside has_escapes good rest end → Found is_inside has_escapes good (b ∷ rest) end
unfolding Found
at_other good b rest None e f found = tt
at_other good b rest (Some end) e f found = record {
  raw = b ∷ found.raw;
  whole = ap (λ (t : List ℕ). b ∷ t) found.whole;
  is_inside = inside_by b found.raw false e ∙ and_both (not (b == quote)) (is_inside found.raw)
      (ap not f) found.is_inside;
  escapes_are = found.escapes_are ∙ ap (λ (t : Bool). good && t)
      (sym (escapes_by b found.raw false e));
}

at_backslash : (good : Bool) (b : ℕ) (rest : List ℕ) (end : Option (Bool × List ℕ))
    → (b == backslash) ≡ true
    → Found is_taken_along is_escaped good rest end
    → Found is_inside has_escapes good (b ∷ rest) end
unfolding Found
at_backslash good b rest None e found = tt
at_backslash good b rest (Some end) e found = record {
  raw = b ∷ found.raw;
  whole = ap (λ (t : List ℕ). b ∷ t) found.whole;
  is_inside = inside_by b found.raw true e ∙ found.is_inside;
  escapes_are = found.escapes_are ∙ ap (λ (t : Bool). good && t)
      (sym (escapes_by b found.raw true e));
}

taken_along : (good : Bool) (b : ℕ) (rest : List ℕ) (end : Option (Bool × List ℕ))
    → Found is_inside has_escapes (good && is_escape b) rest end
    → Found is_taken_along is_escaped good (b ∷ rest) end
unfolding Found
taken_along good b rest None found = tt
taken_along good b rest (Some end) found = record {
  raw = b ∷ found.raw;
  whole = ap (λ (t : List ℕ). b ∷ t) found.whole;
  is_inside = found.is_inside;
  escapes_are = found.escapes_are ∙ and_assoc good (is_escape b) (has_escapes found.raw);
}

string_found_at : (good : Bool) (b : ℕ) (rest : List ℕ) (t u : Bool) → (b == backslash) ≡ t
    → (b == quote) ≡ u
    → Found is_taken_along is_escaped good rest (escape_end good rest)
    → Found is_inside has_escapes good rest (string_end good rest)
    → Found is_inside has_escapes good (b ∷ rest) (string_end good (b ∷ rest))
unfolding Found
string_found_at good b rest true u e f escape more =
    let P : End → Type 0 = λ o. Found is_inside has_escapes good (b ∷ rest) o in
    subst P (sym (end_by good b rest true e)) (at_backslash good b rest (escape_end good rest) e
    escape)
string_found_at good b rest false true e f escape more =
    let P : End → Type 0 = λ o. Found is_inside has_escapes good (b ∷ rest) o in
    subst P (sym (end_at good b rest true e f)) (at_quote good b rest f)
string_found_at good b rest false false e f escape more =
    let P : End → Type 0 = λ o. Found is_inside has_escapes good (b ∷ rest) o in
    subst P (sym (end_at good b rest false e f))
    (at_other good b rest (string_end good rest) e f more)

mutual
  unfolding string_end escape_end Found

  string_found : (good : Bool) (here : List ℕ)
      → Found is_inside has_escapes good here (string_end good here)
  string_found good [] = tt
  string_found good (b ∷ rest) = string_found_at good b rest (b == backslash) (b == quote) refl refl
      (escape_found good rest) (string_found good rest)

  escape_found : (good : Bool) (here : List ℕ)
      → Found is_taken_along is_escaped good here (escape_end good here)
  escape_found good [] = tt
  escape_found good (b ∷ rest) = taken_along good b rest (string_end (good && is_escape b) rest)
      (string_found (good && is_escape b) rest)

-- what is found is the end
pub string_is : (good : Bool) (here : List ℕ) (end : Bool × List ℕ)
    → string_end good here ≡ Some end → Ends is_inside has_escapes good here end
unfolding Found
string_is good here end e = let P : Option (Bool × List ℕ)
    → Type 0 = λ o. Found is_inside has_escapes good here o in subst P e (string_found good here)

-- where none is found, no string ends
pub none_closed : (good : Bool) (here raw rest : List ℕ) → string_end good here ≡ None
    → ¬ (Closed here raw rest)
none_closed good here raw rest e c =
    let again : string_end good here ≡ Some (good && has_escapes raw, rest) =
    rw c.whole (string_again good raw rest c.inside) in
    let both_are : ◌≡◌ {A = Option (Bool × List ℕ)} None (Some (good && has_escapes raw, rest)) =
    sym e ∙ again in
    cc

-- the inside of a string, cut out by lengths
pub inside_is : (here raw rest : List ℕ) → here ≡ raw ++ quote ∷ rest → inside_before here rest
    ≡ raw
inside_is here raw rest e =
    let n : length raw ≡ length here - length rest - 1 =
    omega (arith, length-append raw (quote ∷ rest), ap length e) in
    ap (λ (t : List ℕ). take (length here - length rest - 1) t) e
    ∙ take_at raw (quote ∷ rest) (length here - length rest - 1) n
