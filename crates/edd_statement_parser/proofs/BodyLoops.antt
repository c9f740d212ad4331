-- Reading one declarator or part after the other.
use Rattle.std.proofs.Common.{◌≡◌, ℕ, ℤ, zero, suc, ◌+◌, ◌-◌, ◌≤◌, ◌<◌, Bool, true, false, ◌&&◌, List, [], ◌∷◌, ◌++◌, drop, length, map, Option, Some, None, refl, sym, ap, ◌∙◌, inl, inr, arith, length-drop}
use Rattle.std.specs.Prelude.{if◌then◌else◌}
use Rattle.edd_syntax.specs.declared.symbols.Keyword.TheVariants as word
use Rattle.edd_syntax.specs.declared.symbols.Symbol.TheVariants.{CloseBrace, Colon, Comma, Equals, Semicolon}
use Rattle.edd_syntax.specs.declared.stmt.Part as code_part
use Rattle.edd_syntax.specs.declared.stmt.Declarator as code_declarator
use Rattle.edd_syntax.specs.declared.reference.Path as path
use Rattle.edd_syntax.specs.Token.{Token}
use Rattle.edd_syntax.specs.Reference.{Path}
use Rattle.edd_syntax.specs.Expression.{Expr}
use Rattle.edd_syntax.specs.Statement.{Declarator, Part, Body, Nil, Cons}
use Rattle.edd_syntax.specs.Grammar.{InMethod}
use Rattle.edd_grammar.specs.Reading.{◌>>=◌, Read, at, at_word, expect, name_at}
use Rattle.edd_grammar.specs.ConditionalReading.{label_at}
use Rattle.edd_grammar.specs.ExpressionReading.{expr_at}
use Rattle.edd_grammar.specs.DeclarationReading.{value_at, declarator_at, some_declarators, declarators_at}
use Rattle.edd_grammar.specs.StatementReading.{at_local_type, case_label_at, declaration_at, part_at, parts_at, statement_at, statement_layer}
use Rattle.edd_grammar.proofs.Steps.{bind_some, chosen, as_read, expect_is, name_is}
use Rattle.edd_grammar.proofs.Labels.{label_sound, label_shorter}
use Rattle.edd_grammar.proofs.Shorter.{expr_shorter}
use Rattle.edd_grammar.proofs.SoundExpressions.{expr_sound}
use Rattle.edd_grammar.proofs.SoundStatements.{statement_sound}
use Rattle.edd_grammar.proofs.CompleteStatements.{statement_shorter}
use Rattle.edd_statement_parser.specs.Bodies.{declarator_view, part_view, body_view}
use Rattle.edd_token_reader.proofs.Fronts.{bind_same, behind, with_front, regroup}

-- ---- declarators

abbrev pub add_declarator : code_declarator.Declarator path.Path → List (Declarator Path)
    → List (Declarator Path)
add_declarator d others = declarator_view d ∷ others

all_declarators : (front : List (code_declarator.Declarator path.Path))
    → behind add_declarator front [] ≡ map declarator_view front
all_declarators [] = refl
all_declarators (d ∷ front) = ap (λ (xs : List (Declarator Path)). declarator_view d ∷ xs)
    (all_declarators front)

abbrev pub with_declarators : List (code_declarator.Declarator path.Path)
    → Read (List (Declarator Path)) → Read (List (Declarator Path))
with_declarators front found = with_front add_declarator front found

module _ (height_left : ℕ) where
  value_no_longer : (here : List Token) (v : Option (Expr Path)) (rest : List Token)
      → value_at height_left here ≡ Some (v, rest) → length rest ≤ length here
  unfolding value_at
  value_no_longer here v rest e =
      elim (chosen (at Equals here) _ _ _ e) [
        | inl (_, x) ↦
            let a = bind_some (expr_at InMethod height_left 1 (drop 1 here)) _ (v, rest) x in
            let s = expr_sound InMethod height_left 1 (drop 1 here) a.0.0 a.0.1 (omega arith) a.1 in
            as_read (λ _ r. length r ≤ length here) (Some a.0.0) v a.0.1 rest a.2
            (omega (
              arith,
              length-drop 1 here,
              expr_shorter InMethod 1 a.0.0 (drop 1 here) a.0.1
                  s.0.spelled,
            ))
        | inr (_, x) ↦ as_read (λ _ r. length r ≤ length here) None v here rest x (omega arith)
      ]

  pub declarator_shortens : (here : List Token) (d : Declarator Path) (rest : List Token)
      → declarator_at height_left here ≡ Some (d, rest) → length rest < length here
  unfolding declarator_at
  declarator_shortens here d rest e =
      let n = bind_some (name_at here) _ (d, rest) e in
      let v = bind_some (value_at height_left n.0.1) _ (d, rest) n.2 in
      as_read (λ _ r. length r < length here) _ d v.0.1 rest v.2
      (omega (
        arith,
        ap length (name_is here n.0.0 n.0.1 n.1),
        value_no_longer n.0.1 v.0.0 v.0.1
            v.1,
      ))

  -- one declarator at least
  abbrev pub declarators_here : List Token → Read (List (Declarator Path))
  declarators_here here = some_declarators height_left (length here) here

  -- nothing is read where nothing is left
  none_left : (n : ℕ) (here : List Token) → length here ≤ 0 → some_declarators height_left n here
      ≡ None
  unfolding some_declarators
  none_left zero here le = refl
  none_left (suc n) here le = go (declarator_at height_left here) refl
    where
      go : (found : Read (Declarator Path)) → declarator_at height_left here ≡ found
          → some_declarators height_left (suc n) here ≡ None
      go None e = rw e refl
      go (Some d) e = absurd (let s = declarator_shortens here d.0 d.1 e in omega arith)

  -- one bound that is large enough is as good as another
  same_declarators : (n m : ℕ) (here : List Token) → length here ≤ n → length here ≤ m
      → some_declarators height_left n here ≡ some_declarators height_left m here
  unfolding some_declarators
  same_declarators zero m here lt le = sym (none_left m here lt)
  same_declarators (suc n) zero here lt le = none_left (suc n) here le
  same_declarators (suc n) (suc m) here lt le =
      bind_same (declarator_at height_left here) _ _ (λ d e.
      let s = declarator_shortens here d.0 d.1 e in
      ap (λ (t : Read (List (Declarator Path))). (if at Comma d.1 then t else Some ([], d.1))
      >>= λ o. Some (d.0 ∷ o.0, o.1))
      (same_declarators n m (drop 1 d.1) (omega (arith, length-drop 1 d.1))
      (omega (arith, length-drop 1 d.1))))

  declarators_shorten : (n : ℕ) (here : List Token) (ds : List (Declarator Path))
      (rest : List Token) → some_declarators height_left n here ≡ Some (ds, rest)
      → length rest < length here
  unfolding some_declarators
  declarators_shorten zero here ds rest e = absurd cc
  declarators_shorten (suc n) here ds rest e =
      let d = bind_some (declarator_at height_left here) _ (ds, rest) e in
      let o = bind_some (if at Comma d.0.1 then some_declarators height_left n (drop 1 d.0.1) else
      Some ([], d.0.1)) _ (ds, rest) d.2 in
      let s = declarator_shortens here d.0.0 d.0.1 d.1 in
      let le : length o.0.1 ≤ length d.0.1 =
      elim (chosen (at Comma d.0.1) _ _ _ o.1) [
        | inl (_, x) ↦ omega (
          arith,
          length-drop 1 d.0.1,
          declarators_shorten n (drop 1 d.0.1) o.0.0
              o.0.1 x,
        )
        | inr (_, x) ↦ as_read (λ _ r. length r ≤ length d.0.1) [] o.0.0 d.0.1 o.0.1 x (omega arith)
      ] in
      as_read (λ _ r. length r < length here) (d.0.0 ∷ o.0.0) ds o.0.1 rest o.2 (omega arith)

  pub declarators_fail : (front : List (code_declarator.Declarator path.Path)) (here : List Token)
      → declarator_at height_left here ≡ None → with_declarators front (declarators_here here)
      ≡ None
  unfolding some_declarators
  declarators_fail front here e = go (length here)
    where
      go : (n : ℕ) → with_declarators front (some_declarators height_left n here) ≡ None
      go zero = refl
      go (suc n) = rw e refl

  one_more : (front : List (code_declarator.Declarator path.Path))
      (d : code_declarator.Declarator path.Path) (n : ℕ) (here rest : List Token)
      → declarator_at height_left here ≡ Some (declarator_view d, rest) → at Comma rest ≡ true
      → with_declarators front (some_declarators height_left (suc n) here)
      ≡ with_declarators (front ++ d ∷ []) (some_declarators height_left n (drop 1 rest))
  unfolding some_declarators
  one_more front d n here rest e comma =
      rw (e, comma) (regroup add_declarator front d (some_declarators height_left n (drop 1 rest)))

  pub declarators_go_on : (front : List (code_declarator.Declarator path.Path))
      (d : code_declarator.Declarator path.Path) (here rest : List Token)
      → declarator_at height_left here ≡ Some (declarator_view d, rest) → at Comma rest ≡ true
      → with_declarators front (declarators_here here) ≡ with_declarators (front ++ d ∷ [])
      (declarators_here (drop 1 rest))
  declarators_go_on front d here rest e comma =
      let s = declarator_shortens here (declarator_view d) rest e in
      let more : length here ≡ suc (length here - 1) = omega arith in
      let same = same_declarators (length here - 1) (length (drop 1 rest)) (drop 1 rest)
      (omega (arith, length-drop 1 rest)) (omega arith) in
      ap (λ (n : ℕ). with_declarators front (some_declarators height_left n here)) more
      ∙ (one_more front d (length here - 1) here rest e comma
      ∙ ap (with_declarators (front ++ d ∷ [])) same)

  pub declarators_end : (front : List (code_declarator.Declarator path.Path))
      (d : code_declarator.Declarator path.Path) (here rest : List Token)
      → declarator_at height_left here ≡ Some (declarator_view d, rest) → at Comma rest ≡ false
      → with_declarators front (declarators_here here)
      ≡ Some (map declarator_view (front ++ d ∷ []), rest)
  unfolding some_declarators
  declarators_end front d here rest e last =
      let s = declarator_shortens here (declarator_view d) rest e in
      let more : length here ≡ suc (length here - 1) = omega arith in
      rw (more, e, last) (regroup add_declarator front d (Some ([], rest))
      ∙ ap (λ (x : List (Declarator Path)). Some (x, rest)) (all_declarators (front ++ d ∷ [])))

pub ruleset declarators_read = (
  declarator_shortens,
  declarators_fail,
  declarators_go_on,
  declarators_end,
)

-- ---- a declaration

pub declaration_none : (height_left : ℕ) (here : List Token) → height_left < 2
    → declaration_at height_left here ≡ None
unfolding declaration_at
declaration_none zero here lt = refl
declaration_none (suc zero) here lt = refl
declaration_none (suc (suc height_left)) here lt = absurd (omega arith)

pub declaration_some : (height_left : ℕ) (here : List Token) → 2 ≤ height_left
    → declaration_at height_left here
    ≡ (declarators_at (height_left - 2) here >>= λ d. expect Semicolon d.1
    >>= λ rest. Some (d.0, rest))
unfolding declaration_at
declaration_some zero here le = absurd (omega arith)
declaration_some (suc zero) here le = absurd (omega arith)
declaration_some (suc (suc height_left)) here le = let same : suc (suc height_left) - 2
    ≡ height_left = omega arith in rw same refl

pub ruleset declarations = (declaration_none, declaration_some)

-- ---- the height of a statement

pub statement_none : (height_left : ℕ) (here : List Token) → height_left ≡ 0
    → statement_at height_left here ≡ None
unfolding statement_at
statement_none zero here e = refl
statement_none (suc height_left) here e = absurd (omega arith)

pub statement_some : (height_left : ℕ) (here : List Token) → 0 < height_left
    → statement_at height_left here ≡ statement_layer (height_left - 1)
    (statement_at (height_left - 1)) here
unfolding statement_at
statement_some zero here e = absurd (omega arith)
statement_some (suc height_left) here e = let same : suc height_left - 1 ≡ height_left =
    omega arith in rw same refl

pub ruleset levels = (statement_none, statement_some)

-- ---- parts

abbrev pub add_part : code_part.Part path.Path → Body Path → Body Path
add_part p others = Cons (part_view p) others

all_parts : (front : List (code_part.Part path.Path)) → behind add_part front Nil ≡ body_view front
all_parts [] = refl
all_parts (p ∷ front) = ap (Cons (part_view p)) (all_parts front)

abbrev pub with_parts : List (code_part.Part path.Path) → Read (Body Path) → Read (Body Path)
with_parts front found = with_front add_part front found

declaration_shortens : (height_left : ℕ) (here : List Token) (ds : List (Declarator Path))
    (rest : List Token) → declaration_at height_left here ≡ Some (ds, rest)
    → length rest < length here
unfolding declaration_at declarators_at
declaration_shortens zero here ds rest x = absurd cc
declaration_shortens (suc zero) here ds rest x = absurd cc
declaration_shortens (suc (suc height_left)) here ds rest x =
    let a = bind_some (declarators_at height_left here) _ (ds, rest) x in
    let b = bind_some (expect Semicolon a.0.1) _ (ds, rest) a.2 in
    as_read (λ _ r. length r < length here) _ ds b.0 rest b.2
    (omega (
      arith,
      declarators_shorten height_left (length here) here a.0.0 a.0.1 a.1,
      ap length (expect_is Semicolon a.0.1 b.0 b.1),
    ))

label_shortens : (here : List Token) (z : ℤ) (rest : List Token)
    → case_label_at here ≡ Some (z, rest) → length rest < length here
unfolding case_label_at
label_shortens here z rest x =
    let a = bind_some (label_at here) _ (z, rest) x in
    let b = bind_some (expect Colon a.0.1) _ (z, rest) a.2 in
    as_read (λ _ r. length r < length here) _ z b.0 rest b.2
    (omega (
      arith,
      label_shorter a.0.0 here a.0.1 (label_sound here a.0.0 a.0.1 a.1),
      ap length (expect_is Colon a.0.1 b.0 b.1),
    ))

module _ (height_left : ℕ) (labels : Bool) where
  pub part_shortens : (here : List Token) (p : Part Path) (rest : List Token)
      → part_at height_left (statement_at height_left) labels here ≡ Some (p, rest)
      → length rest < length here
  unfolding part_at
  part_shortens here p rest x =
      let one = length-drop 1 here in
      elim (chosen (at_local_type here) _ _ _ x) [
        | inl (_, y) ↦
            let d = bind_some (declaration_at height_left (drop 1 here)) _ (p, rest) y in
            as_read (λ _ r. length r < length here) _ p _ rest d.2
            (omega (arith, declaration_shortens height_left (drop 1 here) d.0.0 d.0.1 d.1))
        | inr (_, x1) ↦ elim (chosen (labels && at_word word.MethodCase here) _ _ _ x1) [
          | inl (_, y) ↦
              let z = bind_some (case_label_at (drop 1 here)) _ (p, rest) y in
              as_read (λ _ r. length r < length here) _ p _ rest z.2
              (omega (arith, label_shortens (drop 1 here) z.0.0 z.0.1 z.1))
          | inr (_, x2) ↦ elim (chosen (labels && at_word word.MethodDefault here) _ _ _ x2) [
            | inl (_, y) ↦
                let c = bind_some (expect Colon (drop 1 here)) _ (p, rest) y in
                as_read (λ _ r. length r < length here) _ p _ rest c.2
                (omega (arith, ap length (expect_is Colon (drop 1 here) c.0 c.1)))
            | inr (_, y) ↦
                let a = bind_some (statement_at height_left here) _ (p, rest) y in
                as_read (λ _ r. length r < length here) _ p _ rest a.2
                (statement_shorter a.0.0 here a.0.1
                (statement_sound height_left here a.0.0 a.0.1 a.1).0)
          ]
        ]
      ]

  -- the parts up to the closing brace
  abbrev pub parts_here : List Token → Read (Body Path)
  parts_here here = parts_at height_left (statement_at height_left) labels (length here + 1) here

  -- one bound that is large enough is as good as another
  same_parts : (n m : ℕ) (here : List Token) → length here < n → length here < m
      → parts_at height_left (statement_at height_left) labels n here
      ≡ parts_at height_left (statement_at height_left) labels m here
  unfolding parts_at
  same_parts zero m here lt le = absurd (omega arith)
  same_parts (suc n) zero here lt le = absurd (omega arith)
  same_parts (suc n) (suc m) here lt le =
      ap (λ (t : Read (Body Path)). if at CloseBrace here then Some (Nil, here) else t)
      (bind_same (part_at height_left (statement_at height_left) labels here) _ _ (λ p e.
      let s = part_shortens here p.0 p.1 e in
      ap (λ (t : Read (Body Path)). t >>= λ more. Some (Cons p.0 more.0, more.1))
      (same_parts n m p.1 (omega arith) (omega arith))))

  pub parts_end : (front : List (code_part.Part path.Path)) (here : List Token)
      → at CloseBrace here ≡ true → with_parts front (parts_here here)
      ≡ Some (body_view front, here)
  unfolding parts_at
  parts_end front here e =
      let more : length here + 1 ≡ suc (length here) = omega arith in
      rw (more, e) (ap (λ (x : Body Path). Some (x, here)) (all_parts front))

  pub parts_fail : (front : List (code_part.Part path.Path)) (here : List Token)
      → at CloseBrace here ≡ false → part_at height_left (statement_at height_left) labels here
      ≡ None → with_parts front (parts_here here) ≡ None
  unfolding parts_at
  parts_fail front here e fails = let more : length here + 1 ≡ suc (length here) =
      omega arith in rw (more, e, fails) refl

  pub parts_go_on : (front : List (code_part.Part path.Path)) (p : code_part.Part path.Path)
      (here rest : List Token) → at CloseBrace here ≡ false
      → part_at height_left (statement_at height_left) labels here ≡ Some (part_view p, rest)
      → with_parts front (parts_here here) ≡ with_parts (front ++ p ∷ []) (parts_here rest)
  unfolding parts_at
  parts_go_on front p here rest e read =
      let more : length here + 1 ≡ suc (length here) = omega arith in
      let s = part_shortens here (part_view p) rest read in
      let same = same_parts (length here) (length rest + 1) rest (omega arith) (omega arith) in
      rw (more, e, read) (regroup add_part front p
      (parts_at height_left (statement_at height_left) labels (length here) rest))
      ∙ ap (with_parts (front ++ p ∷ [])) same

pub ruleset parts_read = (part_shortens, parts_end, parts_fail, parts_go_on)
