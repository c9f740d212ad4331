-- Reading one qualifier after the other.
use Rattle.std.proofs.Common.{◌≡◌, ℕ, zero, suc, ◌+◌, ◌≤◌, ◌<◌, Bool, true, false, List, [], ◌∷◌, ◌++◌, drop, length, Some, None, Result, Ok, Err, refl, sym, ap, ◌∙◌, ◌||◌, arith, length-drop, subst, Bor}
use Rattle.std.specs.Prelude.{if◌then◌else◌}
use Rattle.std.specs.Result.{IsErrAnd}
use Rattle.std.specs.Str.{bytes_eq}
use Rattle.std.proofs.lemmas.List.{map-id}
use Rattle.edd_syntax.specs.declared.symbols.Symbol.TheVariants.{OpenParenthesis, CloseParenthesis, Comma}
use Rattle.edd_syntax.specs.Refusal.{is_name_in}
use Rattle.edd_syntax.specs.Text.{Name}
use Rattle.edd_syntax.specs.Token.{Token}
use Rattle.edd_grammar.specs.Reading.{◌>>=◌, Read, at, name_at}
use Rattle.edd_grammar.specs.ConditionalReading.{skip_comma}
use Rattle.edd_grammar.specs.ValueReading.{allowed_at, some_qualifiers}
use Rattle.edd_grammar.proofs.Steps.{bind_some, guard_some, at_is, name_is}
use Rattle.edd_token_reader.specs.declared.fault.ParseFault.{ParseFault}
use Rattle.edd_token_reader.specs.declared.fault.ParseFault.TheVariants as fault
use Rattle.edd_token_reader.specs.Qualifiers.{read_as}
use Rattle.edd_token_reader.specs.Views.{Gives}
use Rattle.edd_token_reader.proofs.Fronts.{bind_same, regroup, add_element, all_elements, with_elements}

-- a name more is there, or is the last one
pub one_more_name : (names : List Name) (name word : Name)
    → is_name_in (names ++ name ∷ []) word ≡ (is_name_in names word || bytes_eq name word)
one_more_name [] name word = go (bytes_eq name word)
  where
    go : (t : Bool) → (t || false) ≡ (false || t)
    go true = refl
    go false = refl
one_more_name (n ∷ names) name word =
    ap (λ (t : Bool). bytes_eq n word || t) (one_more_name names name word)
    ∙ sym (or_assoc (bytes_eq n word) (is_name_in names word) (bytes_eq name word))
  where
    or_assoc : (a b c : Bool) → ((a || b) || c) ≡ (a || (b || c))
    or_assoc true b c = refl
    or_assoc false b c = refl

pub comma_no_longer : (here : List Token) → length (skip_comma here) ≤ length here
comma_no_longer here = go (at Comma here)
  where
    go : (t : Bool) → length (if t then drop 1 here else here) ≤ length here
    go true = omega (arith, length-drop 1 here)
    go false = omega arith

module _ (allowed : List Name) where
  pub allowed_shortens : (here : List Token) (q : Name) (rest : List Token)
      → allowed_at allowed here ≡ Some (q, rest) → length rest < length here
  unfolding allowed_at
  allowed_shortens here q rest e =
      let n = bind_some (name_at here) _ (q, rest) e in
      let g = guard_some (is_name_in allowed n.0.0) (Some n.0) (q, rest) n.2 in
      let same : n.0 ≡ (q, rest) = (let h = g.1 in cc (h)) in
      omega (
        arith,
        ap length (name_is here n.0.0 n.0.1 n.1),
        ap (λ (p : Name × List Token). length p.1) same,
      )

  -- the names up to the closing parenthesis
  abbrev pub names_here : List Token → Read (List Name)
  names_here here = some_qualifiers allowed (length here + 1) here

  -- one bound that is large enough is as good as another
  same_names : (n m : ℕ) (here : List Token) → length here < n → length here < m
      → some_qualifiers allowed n here ≡ some_qualifiers allowed m here
  unfolding some_qualifiers
  same_names zero m here lt le = absurd (omega arith)
  same_names (suc n) zero here lt le = absurd (omega arith)
  same_names (suc n) (suc m) here lt le =
      bind_same (allowed_at allowed here) _ _ (λ q e.
      let s = allowed_shortens here q.0 q.1 e in
      let c = comma_no_longer q.1 in
      ap (λ (t : Read (List Name)). (if at CloseParenthesis q.1 then Some ([], drop 1 q.1) else t)
      >>= λ o. Some (q.0 ∷ o.0, o.1))
      (same_names n m (skip_comma q.1) (omega arith) (omega arith)))

  -- after the opening parenthesis
  pub names_opened : (here : List Token) → at OpenParenthesis here ≡ true
      → some_qualifiers allowed (length here) (drop 1 here) ≡ names_here (drop 1 here)
  names_opened here e =
      let n : length here ≡ length (drop 1 here) + 1 =
      omega (arith, ap length (at_is OpenParenthesis here e)) in
      ap (λ (k : ℕ). some_qualifiers allowed k (drop 1 here)) n

  -- what is read goes on after the names so far
  abbrev pub after_names : List Name → Read (List Name) → Read (List Name)
  after_names front found = with_elements (λ (n : Name). n) front found

  pub names_fail : (front : List Name) (here : List Token) → allowed_at allowed here
      ≡ None → after_names front (names_here here) ≡ None
  unfolding some_qualifiers
  names_fail front here e = let more : length here + 1 ≡ suc (length here) =
      omega arith in rw (more, e) refl

  pub names_end : (front : List Name) (q : Name) (here rest : List Token)
      → allowed_at allowed here ≡ Some (q, rest) → at CloseParenthesis rest ≡ true
      → after_names front (names_here here) ≡ Some (front ++ q ∷ [], drop 1 rest)
  unfolding some_qualifiers
  names_end front q here rest e last =
      let more : length here + 1 ≡ suc (length here) = omega arith in
      rw (more, e, last) (regroup (add_element (λ (n : Name). n)) front q (Some ([], drop 1 rest))
      ∙ ap (λ (x : List Name). Some (x, drop 1 rest)) (all_elements (λ (n : Name). n) (front ++ q ∷ [])
      ∙ map-id (front ++ q ∷ [])))

  pub names_go_on : (front : List Name) (q : Name) (here rest : List Token)
      → allowed_at allowed here ≡ Some (q, rest) → at CloseParenthesis rest ≡ false
      → after_names front (names_here here) ≡ after_names (front ++ q ∷ [])
      (names_here (skip_comma rest))
  unfolding some_qualifiers
  names_go_on front q here rest e last =
      let more : length here + 1 ≡ suc (length here) = omega arith in
      let s = allowed_shortens here q rest e in
      let c = comma_no_longer rest in
      let same = same_names (length here) (length (skip_comma rest) + 1) (skip_comma rest)
      (omega arith) (omega arith) in
      rw (more, e, last) (regroup (add_element (λ (n : Name). n)) front q
      (some_qualifiers allowed (length here) (skip_comma rest)))
      ∙ ap (after_names (front ++ q ∷ [])) same

  -- ---- with what the names stand for

  module _ {Q : Type 0} (among : List Name → Q) where
    -- these stand for the names from `start` up to here
    abbrev pub IsRead : Q → (here start : List Token) → Type 0
    IsRead all here start = (front : List Name) × (all ≡ among front)
        × (after_names front (names_here here) ≡ names_here start)

    pub read_fails : (all : Q) (here start : List Token) → IsRead all here start
        → allowed_at allowed here ≡ None → read_as among (names_here start) ≡ None
    read_fails all here start (front, made, same) e =
        ap (read_as among) (sym same ∙ names_fail front here e)

    -- a name that is not allowed, or memory that ran out
    pub read_refused : (all : Q) (here start : List Token) → IsRead all here start
        → (answer : Result Q ParseFault) (f : ParseFault) (left : List Token)
        → IsErrAnd answer (λ e. e ≡ f)
        → Gives (λ (n : Bor (List ℕ)). n.now) (Err f) left (allowed_at allowed here)
        → Gives (λ (q : Q). q) answer left (read_as among (names_here start))
    read_refused all here start read (Ok q) f left passed gives = absurd passed
    read_refused all here start read (Err e) f left passed gives =
        subst (λ (x : ParseFault). Gives (λ (q : Q). q) (Err x) left
        (read_as among (names_here start))) (sym passed) (go f gives)
      where
        go : (f : ParseFault) → Gives (λ (n : Bor (List ℕ)). n.now) (Err f) left
            (allowed_at allowed here)
            → Gives (λ (q : Q). q) (Err f) left (read_as among (names_here start))
        go fault.Memory h = tt
        go (fault.Syntax at) h = read_fails all here start read h
        go (fault.TooDeep at) h = read_fails all here start read h
        go (fault.Unsupported at word) h = read_fails all here start read h

    pub read_ends : (all more : Q) (q : Name) (here start rest after : List Token)
        → IsRead all here start → allowed_at allowed here ≡ Some (q, rest)
        → at CloseParenthesis rest ≡ true → after ≡ drop 1 rest
        → ((names : List Name) → all ≡ among names → more ≡ among (names ++ q ∷ []))
        → read_as among (names_here start) ≡ Some (more, after)
    read_ends all more q here start rest after (front, made, same) e last behind with_one =
        ap (read_as among) (sym same ∙ names_end front q here rest e last)
        ∙ (ap (λ (x : Q). Some (x, drop 1 rest)) (sym (with_one front made))
        ∙ ap (λ (x : List Token). Some (more, x)) (sym behind))

    pub read_goes_on : (all more : Q) (q : Name) (here start rest left after : List Token)
        → IsRead all here start → allowed_at allowed here ≡ Some (q, rest)
        → at CloseParenthesis rest ≡ false → left ≡ rest → after ≡ skip_comma left
        → ((names : List Name) → all ≡ among names → more ≡ among (names ++ q ∷ []))
        → IsRead more after start
    read_goes_on all more q here start rest left after (front, made, same) e last stays behind
        with_one = (
          front ++ q ∷ [],
          with_one front made,
          ap (λ (x : List Token). after_names (front ++ q ∷ []) (names_here x))
              (behind ∙ ap skip_comma stays)
              ∙ (sym (names_go_on front q here rest e last) ∙ same),
        )

pub ruleset names_read = (allowed_shortens, comma_no_longer)
