-- In a checked description no `break` or `continue` of a method is outside a loop or a switch, so
-- its code jumps to no place outside.
use Rattle.std.proofs.Common.{◌≡◌, refl, sym, ap, ◌∙◌, ℕ, ◌+◌, Bool, true, false, List, [], ◌∷◌, ◌++◌}
use Rattle.std.specs.Prelude.{not, ◌||◌}
use Rattle.std.specs.List.{AllByRecursion, flat_map}
use Rattle.std.proofs.lemmas.Grind.{flat_map-append}
use Rattle.edd_syntax.specs.declared.numbers.MethNo.{MethNo}
use Rattle.edd_syntax.specs.declared.reference.Target.{Target}
use Rattle.edd_syntax.specs.Execution.{body_of}
use Rattle.edd_syntax.specs.Item as item
use Rattle.edd_syntax.specs.Item.{Attribute, Description}
use Rattle.edd_syntax.specs.Expression.{Expr}
use Rattle.edd_syntax.specs.Refusal.{BreakOutside}
use Rattle.edd_syntax.specs.Statement as tree
use Rattle.edd_syntax.specs.Statement.{Stmt, Body}
use Rattle.edd_syntax.specs.SubsetRules.{attributes_of, bodies_in, breaks_outside, breaks_outside_in, wrong_breaks}
use Rattle.edd_instructions.specs.declared.instruction.Instruction.{Instruction}
use Rattle.edd_instructions.specs.declared.instruction.Instruction.TheVariants as instruction
use Rattle.edd_code.specs.Blocks as blocks
use Rattle.edd_code.specs.Blocks.{bytes_of}
use Rattle.edd_code.proofs.Fitting.{front_none}
use Rattle.edd_methods.specs.Statements.{arms_emitted, arms_size, bytes_at, default_place, emitted, size, tests_emitted, tests_size}
use Rattle.edd_methods.specs.TreeCode.{Blocks, arms_of, code_in, code_of, declare_block}
use Rattle.edd_methods.proofs.CheckedBodies.{OfBody, of_method}
use Rattle.edd_methods.proofs.ResolvedBodies.{not_refused}

-- ---- the rule on a method's body

abbrev pub Inside : Body Target → Type 0
Inside body = breaks_outside_in false false body ≡ []

inside_in : (xs : List (Attribute Target))
    → flat_map (breaks_outside_in false false) (flat_map bodies_in xs) ≡ []
    → AllByRecursion (OfBody Inside) xs
inside_in [] h = tt
inside_in (a ∷ rest) h =
    let parts = front_none (flat_map (breaks_outside_in false false) (bodies_in a)) _
    (sym (flat_map-append (breaks_outside_in false false) (bodies_in a)
    (flat_map bodies_in rest)) ∙ h) in
    (one a parts.0, inside_in rest parts.1)
  where
    one : (a : Attribute Target) → flat_map (breaks_outside_in false false) (bodies_in a) ≡ []
        → OfBody Inside a
    one (item.Definition body) h = (front_none (breaks_outside_in false false body) [] h).0
    one (item.OneText which c) h = tt
    one (item.Class words) h = tt
    one (item.Handling c) h = tt
    one (item.Validity c) h = tt
    one (item.TypeOf word parts) h = tt
    one (item.Number n) h = tt
    one (item.Operation o) h = tt
    one (item.Transaction number parts) h = tt
    one (item.ResponseCodes responses) h = tt
    one (item.Items entries) h = tt
    one (item.Members members) h = tt
    one (item.Elements elements) h = tt

pub breaks_inside : (unit : Description Target) → wrong_breaks unit ≡ [] → (m : MethNo)
    → Inside (body_of unit m)
breaks_inside unit none m = of_method Inside refl unit m (inside_in (attributes_of unit) none)

-- ---- so the places to which `break` and `continue` would lead make no difference

-- in a loop the place of its next turn is the same, and in a loop or a switch so is the place
-- after it
module _ (given : Blocks) where
  abbrev Alike : (in_loop in_switch : Bool) → (out out' back back' : ℕ) → Type 0
  Alike in_loop in_switch out out' back back' = (in_loop ≡ true → back ≡ back')
      × ((in_loop || in_switch) ≡ true → out ≡ out')

  is_true : (b : Bool) → not b ≡ false → b ≡ true
  is_true true h = refl
  is_true false h = absurd cc

  abbrev test_at : (p : ℕ) → Expr Target → List Instruction
  test_at p e = blocks.emitted p (given.value e)

  mutual
    unfolding emitted code_of

    statement_alike : (x : Stmt Target) (l s : Bool) → breaks_outside l s x ≡ []
        → (p out out' back back' : ℕ) → Alike l s out out' back back'
        → emitted p out back (code_of given x) ≡ emitted p out' back' (code_of given x)
    statement_alike (tree.Block body) l s h p out out' back back' a =
        body_alike body l s h p out out' back back' a
    statement_alike (tree.If condition first) l s h p out out' back back' a =
        let c = code_of given first in
        let n = blocks.size (given.value condition) in
        let jump = instruction.JumpIfZero (blocks.target (p + (n + (5 + size c)))) in
        ap (λ (is : List Instruction). test_at p condition ++ (jump ∷ is))
        (statement_alike first l s h (p + (n + 5)) out out' back back' a)
    statement_alike (tree.IfElse condition first otherwise) l s h p out out' back back' a =
        let c = code_of given first in
        let d = code_of given otherwise in
        let n = blocks.size (given.value condition) in
        let parts = front_none (breaks_outside l s first) (breaks_outside l s otherwise) h in
        let jump = instruction.JumpIfZero (blocks.target (p + (n + (5 + (size c + 5))))) in
        let over = instruction.Jump (blocks.target (p + (n + (5 + (size c + (5 + size d)))))) in
        ap (λ (is : List Instruction). test_at p condition
        ++ (jump ∷ (is ++ (over ∷ emitted (p + (n + (5 + (size c + 5)))) out back d))))
        (statement_alike first l s parts.0 (p + (n + 5)) out out' back back' a)
        ∙ ap (λ (is : List Instruction). test_at p condition
        ++ (jump ∷ (emitted (p + (n + 5)) out' back' c ++ (over ∷ is))))
        (statement_alike otherwise l s parts.1 (p + (n + (5 + (size c + 5)))) out out' back back' a)
    statement_alike (tree.Switch on body) l s h p out out' back back' a =
        let arms = arms_of given body in
        let n = blocks.size (given.value on) in
        ap (λ (is : List Instruction). test_at p on
        ++ (instruction.Jump (blocks.target (p + (n + (10 + (arms_size arms + 5)))))
        ∷ (instruction.Jump (blocks.target
        (p + (n + (10 + (arms_size arms + (5 + (tests_size arms + 6)))))))
        ∷ (is ++ (instruction.Jump (blocks.target (p + (n + 5)))
        ∷ (tests_emitted (p + (n + 10)) arms
        ++ (instruction.Pop ∷ (instruction.Jump
        (blocks.target (default_place (p + (n + 10)) (p + (n + 5)) arms)) ∷ []))))))))
        (arms_alike body l true h (p + (n + 10)) (p + (n + 5)) (p + (n + 5)) back back'
        (a.0, λ _. refl))
    statement_alike tree.Break l s h p out out' back back' a =
        ap (λ (o : ℕ). instruction.Jump (blocks.target o) ∷ [])
        (a.1 (is_true (l || s) (not_refused (not (l || s)) BreakOutside h)))
    statement_alike tree.Continue l s h p out out' back back' a =
        ap (λ (o : ℕ). instruction.Jump (blocks.target o) ∷ [])
        (a.0 (is_true l (not_refused (not l) BreakOutside h)))
    statement_alike _ l s h p out out' back back' a = refl

    body_alike : (b : Body Target) (l s : Bool) → breaks_outside_in l s b ≡ []
        → (p out out' back back' : ℕ) → Alike l s out out' back back'
        → emitted p out back (code_in given b) ≡ emitted p out' back' (code_in given b)
    body_alike tree.Nil l s h p out out' back back' a = refl
    body_alike (tree.Cons (tree.Declare declarators) rest) l s h p out out' back back' a =
        let d = declare_block given declarators in
        ap (λ (is : List Instruction). blocks.emitted p d ++ is)
        (body_alike rest l s h (p + blocks.size d) out out' back back' a)
    body_alike (tree.Cons (tree.Statement x) rest) l s h p out out' back back' a =
        let c = code_of given x in
        let parts = front_none (breaks_outside l s x) (breaks_outside_in l s rest) h in
        ap (λ (is : List Instruction). is ++ emitted (p + size c) out back (code_in given rest))
        (statement_alike x l s parts.0 p out out' back back' a)
        ∙ ap (λ (is : List Instruction). emitted p out' back' c ++ is)
        (body_alike rest l s parts.1 (p + size c) out out' back back' a)
    body_alike (tree.Cons _ rest) l s h p out out' back back' a =
        body_alike rest l s h p out out' back back' a

    arms_alike : (b : Body Target) (l s : Bool) → breaks_outside_in l s b ≡ []
        → (p out out' back back' : ℕ) → Alike l s out out' back back'
        → arms_emitted p out back (arms_of given b) ≡ arms_emitted p out' back' (arms_of given b)
    arms_alike tree.Nil l s h p out out' back back' a = refl
    arms_alike (tree.Cons (tree.Declare declarators) rest) l s h p out out' back back' a =
        let d = declare_block given declarators in
        ap (λ (is : List Instruction). blocks.emitted p d ++ is)
        (arms_alike rest l s h (p + blocks.size d) out out' back back' a)
    arms_alike (tree.Cons (tree.Statement x) rest) l s h p out out' back back' a =
        let c = code_of given x in
        let parts = front_none (breaks_outside l s x) (breaks_outside_in l s rest) h in
        ap (λ (is : List Instruction). is ++ arms_emitted (p + size c) out back
        (arms_of given rest)) (statement_alike x l s parts.0 p out out' back back' a)
        ∙ ap (λ (is : List Instruction). emitted p out' back' c ++ is)
        (arms_alike rest l s parts.1 (p + size c) out out' back back' a)
    arms_alike (tree.Cons _ rest) l s h p out out' back back' a =
        arms_alike rest l s h p out out' back back' a

  -- the code of a body without such statements is the same wherever they would lead
  pub leads_nowhere : (b : Body Target) → Inside b → (p out out' back back' : ℕ)
      → bytes_at p out back (code_in given b) ≡ bytes_at p out' back' (code_in given b)
  leads_nowhere b h p out out' back back' =
      ap bytes_of (body_alike b false false h p out out' back back'
      ((λ e. absurd cc), (λ e. absurd cc)))
