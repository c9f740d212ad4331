-- Reading a conditional takes a token at least, where reading one of its values does.
use Rattle.std.proofs.Common.{◌≡◌, ℕ, zero, suc, ◌≤◌, ◌<◌, List, drop, length, Some, ap, inl, inr, arith, length-drop}
use Rattle.edd_syntax.specs.declared.symbols.Keyword.TheVariants as word
use Rattle.edd_syntax.specs.declared.symbols.Symbol.{Symbol}
use Rattle.edd_syntax.specs.declared.symbols.Symbol.TheVariants as sign
use Rattle.edd_syntax.specs.Token.{Token}
use Rattle.edd_syntax.specs.Reference.{Path}
use Rattle.edd_syntax.specs.Conditional as cond
use Rattle.edd_syntax.specs.Conditional.{Cond, Conds, NoArms}
use Rattle.edd_syntax.specs.Grammar.{InAttribute}
use Rattle.edd_grammar.specs.Reading.{Read, at, at_word, expect}
use Rattle.edd_grammar.specs.ConditionalReading.{label_at, condition_at, braces_at, else_at, case_at, default_at, arms_at, if_at, select_at, cond_layer, ended, only, list_ends, skip_comma, elements_at, listed}
use Rattle.edd_grammar.proofs.Steps.{bind_some, chosen, as_read, expect_is}
use Rattle.edd_grammar.proofs.Labels.{label_sound, label_shorter, condition_sound, condition_shorter}
use Rattle.edd_grammar.proofs.SoundLists.{skip_sound}
use Rattle.edd_grammar.proofs.CompleteLists.{comma_shorter}
use Rattle.edd_expression_parser.specs.declared.cond.Form.{Form}
use Rattle.edd_expression_parser.specs.declared.cond.Form.TheVariants.{One, Many}
use Rattle.edd_expression_parser.specs.Conditionals.{value_in, branch_in, cond_at, arm_at}
use Rattle.edd_expression_parser.specs.Shortening.{Shortens, NoLonger}

pub sign_taken : (s : Symbol) (here rest : List Token) → expect s here ≡ Some rest
    → length here ≡ suc (length rest)
sign_taken s here rest e = ap length (expect_is s here rest e)

label_shortens : Shortens label_at
label_shortens here z rest e = label_shorter z here rest (label_sound here z rest e)

condition_shortens : (height_left : ℕ) → Shortens (condition_at InAttribute height_left)
condition_shortens height_left here c rest e =
    condition_shorter InAttribute c here rest
    (condition_sound InAttribute height_left here c rest e).0

-- ---- one layer

module _ {V : Type 0} (height_left : ℕ) (value : List Token → Read V) (branch : List Token
    → Read (Conds Path V)) (inner : List Token → Read (Cond Path V))
    (value_shortens : Shortens value) (branch_no_longer : NoLonger branch)
    (inner_shortens : Shortens inner) where
  braces_shorten : Shortens (braces_at height_left value branch inner)
  unfolding braces_at
  braces_shorten here all rest e =
      let a = bind_some (expect sign.OpenBrace here) _ (all, rest) e in
      let b = bind_some (branch a.0) _ (all, rest) a.2 in
      let c = bind_some (expect sign.CloseBrace b.0.1) _ (all, rest) b.2 in
      as_read (λ _ r. length r < length here) _ all _ rest c.2
      (omega (
        arith,
        sign_taken sign.OpenBrace here a.0 a.1,
        branch_no_longer a.0 b.0.0 b.0.1 b.1,
        sign_taken sign.CloseBrace b.0.1 c.0 c.1,
      ))

  else_no_longer : NoLonger (else_at height_left value branch inner)
  unfolding else_at
  else_no_longer here all rest e =
      elim (chosen (at_word word.Else here) _ _ _ e) [
        | inl (_, y) ↦ elim (chosen (at_word word.If (drop 1 here)) _ _ _ y) [
          | inl (_, z) ↦
              let c = bind_some (inner (drop 1 here)) _ (all, rest) z in
              as_read (λ _ r. length r ≤ length here) _ all _ rest c.2
              (omega (arith, length-drop 1 here, inner_shortens (drop 1 here) c.0.0 c.0.1 c.1))
          | inr (_, z) ↦ omega (arith, length-drop 1 here, braces_shorten (drop 1 here) all rest z)
        ]
        | inr (_, y) ↦ as_read (λ _ r. length r ≤ length here) cond.Nil all here rest y
            (omega arith)
      ]

  pub case_shortens : Shortens (case_at height_left value branch inner)
  unfolding case_at
  case_shortens here found rest e =
      let a = bind_some (label_at here) _ (found, rest) e in
      let b = bind_some (expect sign.Colon a.0.1) _ (found, rest) a.2 in
      let c = bind_some (branch b.0) _ (found, rest) b.2 in
      as_read (λ _ r. length r < length here) _ found _ rest c.2
      (omega (
        arith,
        label_shortens here a.0.0 a.0.1 a.1,
        sign_taken sign.Colon a.0.1 b.0 b.1,
        branch_no_longer b.0 c.0.0 c.0.1 c.1,
      ))

  pub default_shortens : Shortens (default_at height_left value branch inner)
  unfolding default_at
  default_shortens here body rest e =
      let a = bind_some (expect sign.Colon here) _ (body, rest) e in
      omega (
        arith,
        sign_taken sign.Colon here a.0 a.1,
        branch_no_longer a.0 body rest a.2,
      )

  arms_no_longer : (n : ℕ) → NoLonger (arms_at height_left value branch inner n)
  unfolding arms_at
  arms_no_longer zero here arms rest e = absurd cc
  arms_no_longer (suc n) here arms rest e =
      elim (chosen (at sign.CloseBrace here) _ _ _ e) [
        | inl (_, y) ↦ as_read (λ _ r. length r ≤ length here) NoArms arms here rest y (omega arith)
        | inr (_, y) ↦ elim (chosen (at_word word.Case here) _ _ _ y) [
          | inl (_, z) ↦
              let a = bind_some (case_at height_left value branch inner (drop 1 here)) _
              (arms, rest) z in
              let b = bind_some (arms_at height_left value branch inner n a.0.1) _ (arms, rest)
              a.2 in
              as_read (λ _ r. length r ≤ length here) _ arms _ rest b.2
              (omega (
                arith,
                length-drop 1 here,
                case_shortens (drop 1 here) a.0.0 a.0.1 a.1,
                arms_no_longer n a.0.1 b.0.0 b.0.1 b.1,
              ))
          | inr (_, z) ↦ elim (chosen (at_word word.Default here) _ _ _ z) [
            | inl (_, w) ↦
                let a = bind_some (default_at height_left value branch inner (drop 1 here)) _
                (arms, rest) w in
                let b = bind_some (arms_at height_left value branch inner n a.0.1) _ (arms, rest)
                a.2 in
                as_read (λ _ r. length r ≤ length here) _ arms _ rest b.2
                (omega (
                  arith,
                  length-drop 1 here,
                  default_shortens (drop 1 here) a.0.0 a.0.1 a.1,
                  arms_no_longer n a.0.1 b.0.0 b.0.1 b.1,
                ))
            | inr (_, w) ↦ absurd cc
          ]
        ]
      ]

  pub layer_shortens : Shortens (cond_layer height_left value branch inner)
  unfolding cond_layer if_at select_at
  layer_shortens here x rest e =
      elim (chosen (at_word word.If here) _ _ _ e) [
        | inl (_, y) ↦
            let a = bind_some (condition_at InAttribute height_left (drop 1 here)) _ (x, rest) y in
            let b = bind_some (braces_at height_left value branch inner a.0.1) _ (x, rest) a.2 in
            let c = bind_some (else_at height_left value branch inner b.0.1) _ (x, rest) b.2 in
            as_read (λ _ r. length r < length here) _ x _ rest c.2
            (omega (
              arith,
              length-drop 1 here,
              condition_shortens height_left (drop 1 here) a.0.0 a.0.1 a.1,
              braces_shorten a.0.1 b.0.0 b.0.1 b.1,
              else_no_longer b.0.1 c.0.0 c.0.1 c.1,
            ))
        | inr (_, y) ↦ elim (chosen (at_word word.Select here) _ _ _ y) [
          | inl (_, z) ↦
              let a = bind_some (condition_at InAttribute height_left (drop 1 here)) _ (x, rest)
              z in
              let b = bind_some (expect sign.OpenBrace a.0.1) _ (x, rest) a.2 in
              let c = bind_some (arms_at height_left value branch inner (suc (length b.0)) b.0) _
              (x, rest) b.2 in
              let d = bind_some (expect sign.CloseBrace c.0.1) _ (x, rest) c.2 in
              as_read (λ _ r. length r < length here) _ x _ rest d.2
              (omega (
                arith,
                length-drop 1 here,
                condition_shortens height_left (drop 1 here) a.0.0 a.0.1 a.1,
                sign_taken sign.OpenBrace a.0.1 b.0 b.1,
                arms_no_longer (suc (length b.0)) b.0 c.0.0 c.0.1 c.1,
                sign_taken sign.CloseBrace c.0.1 d.0 d.1,
              ))
          | inr (_, z) ↦
              let v = bind_some (value here) _ (x, rest) z in
              as_read (λ _ r. length r < length here) _ x _ rest v.2
              (value_shortens here v.0.0 v.0.1 v.1)
        ]
      ]

-- ---- values, branches and lists

pub skip_no_longer : (here : List Token) → length (skip_comma here) ≤ length here
skip_no_longer here = comma_shorter here (skip_comma here) (skip_sound here)

module _ {V : Type 0} where
  ended_shortens : (value : List Token → Read V) → Shortens value → Shortens (ended value)
  unfolding ended
  ended_shortens value shortens here v rest e =
      let a = bind_some (value here) _ (v, rest) e in
      let b = bind_some (expect sign.Semicolon a.0.1) _ (v, rest) a.2 in
      as_read (λ _ r. length r < length here) _ v _ rest b.2
      (omega (
        arith,
        shortens here a.0.0 a.0.1 a.1,
        sign_taken sign.Semicolon a.0.1 b.0 b.1,
      ))

  one_value_shortens : (form : Form) (value : List Token → Read V) → Shortens value
      → Shortens (value_in form value)
  unfolding value_in
  one_value_shortens One value shortens here v rest e = ended_shortens value shortens here v rest e
  one_value_shortens Many value shortens here v rest e = shortens here v rest e

  elements_no_longer : (element : List Token → Read (Cond Path V)) → Shortens element → (n : ℕ)
      → NoLonger (elements_at element n)
  unfolding elements_at
  elements_no_longer element shortens zero here all rest e = absurd cc
  elements_no_longer element shortens (suc n) here all rest e =
      elim (chosen (list_ends here) _ _ _ e) [
        | inl (_, y) ↦ as_read (λ _ r. length r ≤ length here) cond.Nil all here rest y
            (omega arith)
        | inr (_, y) ↦
            let a = bind_some (element here) _ (all, rest) y in
            let b = bind_some (elements_at element n (skip_comma a.0.1)) _ (all, rest) a.2 in
            as_read (λ _ r. length r ≤ length here) _ all _ rest b.2
            (omega (
              arith,
              shortens here a.0.0 a.0.1 a.1,
              skip_no_longer a.0.1,
              elements_no_longer element shortens n (skip_comma a.0.1) b.0.0 b.0.1 b.1,
            ))
      ]

  pub listed_no_longer : (element : List Token → Read (Cond Path V)) → Shortens element
      → NoLonger (listed element)
  unfolding listed
  listed_no_longer element shortens here all rest e =
      elements_no_longer element shortens (suc (length here)) here all rest e

  branches_no_longer : (form : Form) (inner : List Token → Read (Cond Path V)) → Shortens inner
      → NoLonger (branch_in form inner)
  unfolding branch_in only
  branches_no_longer One inner shortens here all rest e =
      let a = bind_some (inner here) _ (all, rest) e in
      as_read (λ _ r. length r ≤ length here) _ all _ rest a.2
      (omega (arith, shortens here a.0.0 a.0.1 a.1))
  branches_no_longer Many inner shortens here all rest e =
      listed_no_longer inner shortens here all rest e

-- ---- conditionals and arms

module _ {V : Type 0} (form : Form) (value : ℕ → List Token → Read V)
    (shortens : (height_left : ℕ) → Shortens (value height_left)) where
  pub cond_shortens : (height_left : ℕ) → Shortens (cond_at form value height_left)
  unfolding cond_at
  cond_shortens zero here x rest e = absurd cc
  cond_shortens (suc height_left) here x rest e =
      let inner : Shortens (cond_at form value height_left) =
      λ here x rest e. cond_shortens height_left here x rest e in
      layer_shortens height_left (value_in form (value height_left))
      (branch_in form (cond_at form value height_left)) (cond_at form value height_left)
      (one_value_shortens form (value height_left) (shortens height_left))
      (branches_no_longer form (cond_at form value height_left) inner) inner here x rest e

  pub arm_shortens : (height_left : ℕ) → Shortens (arm_at form value height_left)
  unfolding arm_at
  arm_shortens height_left here x rest e =
      let value_shortens = one_value_shortens form (value height_left) (shortens height_left) in
      let inner = cond_shortens height_left in
      let branches = branches_no_longer form (cond_at form value height_left) inner in
      elim (chosen (at_word word.Case here) _ _ _ e) [
        | inl (_, y) ↦
            let a = bind_some (case_at height_left (value_in form (value height_left))
            (branch_in form (cond_at form value height_left)) (cond_at form value height_left)
            (drop 1 here)) _ (x, rest) y in
            as_read (λ _ r. length r < length here) _ x _ rest a.2
            (omega (
              arith,
              length-drop 1 here,
              case_shortens height_left (value_in form (value height_left))
                  (branch_in form (cond_at form value height_left))
                  (cond_at form value height_left) value_shortens branches inner (drop 1 here)
                  a.0.0 a.0.1 a.1,
            ))
        | inr (_, y) ↦ elim (chosen (at_word word.Default here) _ _ _ y) [
          | inl (_, z) ↦
              let a = bind_some (default_at height_left (value_in form (value height_left))
              (branch_in form (cond_at form value height_left)) (cond_at form value height_left)
              (drop 1 here)) _ (x, rest) z in
              as_read (λ _ r. length r < length here) _ x _ rest a.2
              (omega (
                arith,
                length-drop 1 here,
                default_shortens height_left (value_in form (value height_left))
                    (branch_in form (cond_at form value height_left))
                    (cond_at form value height_left) value_shortens branches inner (drop 1 here)
                    a.0.0 a.0.1 a.1,
              ))
          | inr (_, z) ↦ absurd cc
        ]
      ]
