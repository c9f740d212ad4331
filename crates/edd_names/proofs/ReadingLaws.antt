-- What trees are read as depends on what is read at their uses of names, and on nothing else.
use Rattle.std.proofs.Common.{◌≡◌, refl, ap, ◌∙◌, ℕ, ◌+◌, List, [], ◌∷◌, length, Option, Some, None}
use Rattle.std.proofs.Math.Path.{fun_ext}
use Rattle.std.specs.List.{flat_map}
use Rattle.edd_name_meanings.specs.StandIns.{reading_of}
use Rattle.edd_names.proofs.MemberLaws.{Every, every_append}
use Rattle.edd_syntax.specs.declared.numbers.Kind.{Kind}
use Rattle.edd_syntax.specs.Reference.{Path}
use Rattle.edd_syntax.specs.declared.reference.Target.TheVariants.{Local}
use Rattle.edd_syntax.specs.Expression as expr
use Rattle.edd_syntax.specs.Expression.{Expr, Reference, Indexed, Parentheses, Unary, Binary, Compare, LogicalAnd, LogicalOr, Conditional, Assign, CompoundAssign, Increment, Call, Text, Arguments}
use Rattle.edd_syntax.specs.Conditional as cond
use Rattle.edd_syntax.specs.Conditional.{Cond, Value, If, Select, Conds, Arms, NoArms, ConsArm, Case, Default}
use Rattle.edd_syntax.specs.Statement as s
use Rattle.edd_syntax.specs.Statement.{Declarator, Stmt, Body, Nil, Cons, Declare, Statement, CaseLabel, DefaultLabel, slots_of}
use Rattle.edd_syntax.specs.Item as item
use Rattle.edd_syntax.specs.Item.{ItemKind, TypePart, TransactionPart, Attribute}
use Rattle.edd_syntax.specs.NameUses.{Use, uses_among, argument_uses, expr_uses, optional_uses, declarator_uses, stmt_uses, body_uses, attribute_expr_uses, cond_uses, conds_uses, arms_uses, no_uses, entry_uses, data_uses, type_part_uses, transaction_part_uses, attribute_uses, item_uses, OfItem}
use Rattle.edd_syntax.specs.Resolution.{Scope, variable_kinds, argument_kinds, member_kinds, declared, all_declared}
use Rattle.edd_syntax.specs.ResolvedTrees.{◌>>=◌, Reading, at_attribute, at_scope, each, unchanged, resolved_by, resolved_arguments, resolved_expr, resolved_optional, resolved_cond, resolved_conds, resolved_arms, resolved_declarators, resolved_stmt, resolved_body, resolved_entry, resolved_data, resolved_type_part, resolved_transaction_part, resolved_attribute, resolved_item}

-- ---- the same steps have the same values

one : {A B : Type 0} {o p : Option A} (k : A → B) → o ≡ p
    → (o >>= (λ x. Some (k x))) ≡ (p >>= (λ x. Some (k x)))
one k e = ap (λ o. o >>= (λ x. Some (k x))) e

two : {A B C : Type 0} {o p : Option A} {u v : Option B} (k : A → B → C) → o ≡ p → u ≡ v
    → (o >>= (λ x. u >>= (λ y. Some (k x y)))) ≡ (p >>= (λ x. v >>= (λ y. Some (k x y))))
two {p = p} {u = u} k e f = ap (λ o. o >>= (λ x. u >>= (λ y. Some (k x y)))) e
    ∙ ap (λ u. p >>= (λ x. u >>= (λ y. Some (k x y)))) f

three : {A B C D : Type 0} {o p : Option A} {u v : Option B} {w z : Option C} (k : A → B → C → D)
    → o ≡ p → u ≡ v → w ≡ z
    → (o >>= (λ x. u >>= (λ y. w >>= (λ t. Some (k x y t)))))
    ≡ (p >>= (λ x. v >>= (λ y. z >>= (λ t. Some (k x y t)))))
three {p = p} {u = u} {w = w} k e f g =
    ap (λ o. o >>= (λ x. u >>= (λ y. w >>= (λ t. Some (k x y t))))) e
    ∙ ap (λ q. p >>= q) (fun_ext (λ x. two (k x) f g))

module _ (r q : Reading) where
  -- the same is read at a use
  abbrev Same : Use → Type 0
  Same u = reading_of r u ≡ reading_of q u

  abbrev AllSame : List Use → Type 0
  AllSame us = Every Same us

  -- ---- expressions

  mutual
    unfolding resolved_by

    same_expr : (scope : Scope) (kinds : List Kind) (e : Expr Path)
        → AllSame (uses_among scope kinds e)
        → resolved_by (at_scope r scope) (r.reference scope kinds) e
        ≡ resolved_by (at_scope q scope) (q.reference scope kinds) e
    same_expr scope kinds (Reference from) h = one Reference h.0
    same_expr scope kinds (Indexed array index) h =
        two Indexed h.0 (same_expr scope variable_kinds index h.1)
    same_expr scope kinds (Parentheses inner) h =
        one Parentheses (same_expr scope variable_kinds inner h)
    same_expr scope kinds (Unary op operand) h =
        one (Unary op) (same_expr scope variable_kinds operand h)
    same_expr scope kinds (Binary op left right) h =
        let b = every_append Same (uses_among scope variable_kinds left) _ h in
        two (Binary op) (same_expr scope variable_kinds left b.0)
        (same_expr scope variable_kinds right b.1)
    same_expr scope kinds (Compare by left right) h =
        let b = every_append Same (uses_among scope variable_kinds left) _ h in
        two (Compare by) (same_expr scope variable_kinds left b.0)
        (same_expr scope variable_kinds right b.1)
    same_expr scope kinds (LogicalAnd left right) h =
        let b = every_append Same (uses_among scope variable_kinds left) _ h in
        two LogicalAnd (same_expr scope variable_kinds left b.0)
        (same_expr scope variable_kinds right b.1)
    same_expr scope kinds (LogicalOr left right) h =
        let b = every_append Same (uses_among scope variable_kinds left) _ h in
        two LogicalOr (same_expr scope variable_kinds left b.0)
        (same_expr scope variable_kinds right b.1)
    same_expr scope kinds (Conditional test first second) h =
        let b = every_append Same (uses_among scope variable_kinds test) _ h in
        let c = every_append Same (uses_among scope variable_kinds first) _ b.1 in
        three Conditional (same_expr scope variable_kinds test b.0)
        (same_expr scope variable_kinds first c.0) (same_expr scope variable_kinds second c.1)
    same_expr scope kinds (Assign to value) h =
        two Assign h.0 (same_expr scope variable_kinds value h.1)
    same_expr scope kinds (CompoundAssign op to value) h =
        two (CompoundAssign op) h.0 (same_expr scope variable_kinds value h.1)
    same_expr scope kinds (Increment op to) h = one (Increment op) h.0
    same_expr scope kinds (Call name arguments) h =
        two Call h.0 (same_arguments scope (argument_kinds name) arguments h.1)
    same_expr scope kinds _ h = refl

    same_arguments : (scope : Scope) (kinds : List Kind) (all : Arguments Path)
        → AllSame (argument_uses scope kinds all)
        → resolved_arguments (at_scope r scope) (r.reference scope kinds) all
        ≡ resolved_arguments (at_scope q scope) (q.reference scope kinds) all
    same_arguments scope kinds expr.Nil h = refl
    same_arguments scope kinds (expr.Cons (Text text) rest) h =
        one (expr.Cons (Text text)) (same_arguments scope kinds rest h)
    same_arguments scope kinds (expr.Cons (expr.Value e) rest) h =
        let b = every_append Same (uses_among scope kinds e) _ h in
        two (λ e' rest'. expr.Cons (expr.Value e') rest') (same_expr scope kinds e b.0)
        (same_arguments scope kinds rest b.1)

  same_value : (scope : Scope) (e : Expr Path) → AllSame (expr_uses scope e)
      → resolved_expr (at_scope r scope) e ≡ resolved_expr (at_scope q scope) e
  same_value scope e h = same_expr scope variable_kinds e h

  same_optional : (scope : Scope) (e : Option (Expr Path)) → AllSame (optional_uses scope e)
      → resolved_optional (at_scope r scope) e ≡ resolved_optional (at_scope q scope) e
  same_optional scope None h = refl
  same_optional scope (Some e) h = one (λ e'. Some e') (same_value scope e h)

  -- ---- conditionals

  module _ {V W : Type 0} (uses : V → List Use) (first second : V → Option W)
      (same : (v : V) → AllSame (uses v) → first v ≡ second v) where
    mutual
      unfolding resolved_cond

      same_cond : (c : Cond Path V) → AllSame (cond_uses uses c)
          → resolved_cond (at_attribute r) first c ≡ resolved_cond (at_attribute q) second c
      same_cond (Value v) h = one Value (same v h)
      same_cond (If test chosen otherwise) h =
          let b = every_append Same (attribute_expr_uses test) _ h in
          let c = every_append Same (conds_uses uses chosen) _ b.1 in
          three If (same_value [] test b.0) (same_conds chosen c.0)
          (same_conds otherwise c.1)
      same_cond (Select on arms) h =
          let b = every_append Same (attribute_expr_uses on) _ h in
          two Select (same_value [] on b.0) (same_arms arms b.1)

      same_conds : (c : Conds Path V) → AllSame (conds_uses uses c)
          → resolved_conds (at_attribute r) first c ≡ resolved_conds (at_attribute q) second c
      same_conds cond.Nil h = refl
      same_conds (cond.Cons c rest) h =
          let b = every_append Same (cond_uses uses c) _ h in
          two cond.Cons (same_cond c b.0) (same_conds rest b.1)

      same_arms : (c : Arms Path V) → AllSame (arms_uses uses c)
          → resolved_arms (at_attribute r) first c ≡ resolved_arms (at_attribute q) second c
      same_arms NoArms h = refl
      same_arms (ConsArm (Case label body) rest) h =
          let b = every_append Same (conds_uses uses body) _ h in
          two (λ body' rest'. ConsArm (Case label body') rest') (same_conds body b.0)
          (same_arms rest b.1)
      same_arms (ConsArm (Default body) rest) h =
          let b = every_append Same (conds_uses uses body) _ h in
          two (λ body' rest'. ConsArm (Default body') rest') (same_conds body b.0)
          (same_arms rest b.1)

  -- ---- statements

  same_declarators : (scope : Scope) (next : ℕ) (all : List (Declarator Path))
      → AllSame (declarator_uses scope next all)
      → resolved_declarators r scope next all ≡ resolved_declarators q scope next all
  same_declarators scope next [] h = refl
  same_declarators scope next (d ∷ rest) h =
      let b = every_append Same (optional_uses scope d.value) _ h in
      two (λ value others. record { place = Local next; value = value } ∷ others)
      (same_optional scope d.value b.0)
      (same_declarators (declared d.place next scope) (next + 1) rest b.1)

  mutual
    unfolding resolved_stmt

    same_stmt : (t : Stmt Path) (scope : Scope) (next : ℕ) → AllSame (stmt_uses t scope next)
        → resolved_stmt r t scope next ≡ resolved_stmt q t scope next
    same_stmt (s.Evaluate e) scope next h = one s.Evaluate (same_value scope e h)
    same_stmt (s.Block body) scope next h = one s.Block (same_body body scope next h)
    same_stmt (s.If test first) scope next h =
        let b = every_append Same (expr_uses scope test) _ h in
        two s.If (same_value scope test b.0) (same_stmt first scope next b.1)
    same_stmt (s.IfElse test first otherwise) scope next h =
        let b = every_append Same (expr_uses scope test) _ h in
        let c = every_append Same (stmt_uses first scope next) _ b.1 in
        three s.IfElse (same_value scope test b.0) (same_stmt first scope next c.0)
        (same_stmt otherwise scope (next + slots_of first) c.1)
    same_stmt (s.While test body) scope next h =
        let b = every_append Same (expr_uses scope test) _ h in
        two s.While (same_value scope test b.0) (same_stmt body scope next b.1)
    same_stmt (s.Do body test) scope next h =
        let b = every_append Same (stmt_uses body scope next) _ h in
        two s.Do (same_stmt body scope next b.0) (same_value scope test b.1)
    same_stmt (s.For initial test update body) scope next h =
        let b = every_append Same (optional_uses scope initial) _ h in
        let c = every_append Same (optional_uses scope test) _ b.1 in
        let d = every_append Same (optional_uses scope update) _ c.1 in
        ap (λ o. o >>= (λ initial'. resolved_optional (at_scope r scope) test
        >>= (λ test'. resolved_optional (at_scope r scope) update
        >>= (λ update'. resolved_stmt r body scope next
        >>= (λ body'. Some (s.For initial' test' update' body'))))))
        (same_optional scope initial b.0)
        ∙ ap (λ k. resolved_optional (at_scope q scope) initial >>= k)
        (fun_ext (λ initial'. three (s.For initial') (same_optional scope test c.0)
        (same_optional scope update d.0) (same_stmt body scope next d.1)))
    same_stmt (s.Switch on body) scope next h =
        let b = every_append Same (expr_uses scope on) _ h in
        two s.Switch (same_value scope on b.0) (same_body body scope next b.1)
    same_stmt _ scope next h = refl

    same_body : (t : Body Path) (scope : Scope) (next : ℕ) → AllSame (body_uses t scope next)
        → resolved_body r t scope next ≡ resolved_body q t scope next
    same_body Nil scope next h = refl
    same_body (Cons (Declare declarators) rest) scope next h =
        let b = every_append Same (declarator_uses scope next declarators) _ h in
        two (λ declarators' rest'. Cons (Declare declarators') rest')
        (same_declarators scope next declarators b.0)
        (same_body rest (all_declared scope next declarators) (next + length declarators) b.1)
    same_body (Cons (Statement first) rest) scope next h =
        let b = every_append Same (stmt_uses first scope next) _ h in
        two (λ first' rest'. Cons (Statement first') rest') (same_stmt first scope next b.0)
        (same_body rest scope (next + slots_of first) b.1)
    same_body (Cons (CaseLabel label) rest) scope next h =
        one (Cons (CaseLabel label)) (same_body rest scope next h)
    same_body (Cons DefaultLabel rest) scope next h =
        one (Cons DefaultLabel) (same_body rest scope next h)

  -- ---- attributes and items

  same_each : {V W : Type 0} (uses : V → List Use) (first second : V → Option W)
      → ((v : V) → AllSame (uses v) → first v ≡ second v) → (all : List V)
      → AllSame (flat_map uses all) → each first all ≡ each second all
  same_each uses first second same [] h = refl
  same_each uses first second same (v ∷ rest) h =
      let b = every_append Same (uses v) (flat_map uses rest) h in
      two (λ y others. y ∷ others) (same v b.0) (same_each uses first second same rest b.1)

  same_plain : {V : Type 0} (c : Cond Path V) → AllSame (cond_uses no_uses c)
      → resolved_cond (at_attribute r) unchanged c ≡ resolved_cond (at_attribute q) unchanged c
  same_plain c h = same_cond no_uses unchanged unchanged (λ v none. refl) c h

  same_entry : (e : item.MenuEntry Path) → AllSame (entry_uses e)
      → resolved_entry r e ≡ resolved_entry q e
  same_entry (item.Text text) h = refl
  same_entry (item.Reference to qualifiers) h = one (λ to'. item.Reference to' qualifiers) h.0

  same_data : (d : item.DataItem Path) → AllSame (data_uses d) → resolved_data r d ≡ resolved_data q
      d
  same_data (item.Constant n) h = refl
  same_data (item.Variable variable mask qualifiers) h =
      one (λ variable'. item.Variable variable' mask qualifiers) h.0

  same_type_part : (p : TypePart Path) → AllSame (type_part_uses p)
      → resolved_type_part r p ≡ resolved_type_part q p
  same_type_part (item.OneNumber which c) h = one (item.OneNumber which)
      (same_cond attribute_expr_uses _ _ (same_value []) c h)
  same_type_part (item.OneFormat which c) h = one (item.OneFormat which) (same_plain c h)
  same_type_part (item.Element c) h = one item.Element (same_plain c h)

  same_transaction_part : (p : TransactionPart Path) → AllSame (transaction_part_uses p)
      → resolved_transaction_part r p ≡ resolved_transaction_part q p
  same_transaction_part (item.Request all) h = one item.Request
      (same_conds data_uses _ _ same_data all h)
  same_transaction_part (item.Reply all) h = one item.Reply
      (same_conds data_uses _ _ same_data all h)

  same_attribute : (sort : ItemKind) (a : Attribute Path) → AllSame (attribute_uses sort a)
      → resolved_attribute r sort a ≡ resolved_attribute q sort a
  same_attribute sort (item.OneText which c) h = one (item.OneText which) (same_plain c h)
  same_attribute sort (item.Handling c) h = one item.Handling (same_plain c h)
  same_attribute sort (item.Validity c) h = one item.Validity (same_plain c h)
  same_attribute sort (item.TypeOf word parts) h = one (item.TypeOf word)
      (same_each type_part_uses _ _ same_type_part parts h)
  same_attribute sort (item.Transaction number parts) h = one (item.Transaction number)
      (same_each transaction_part_uses _ _ same_transaction_part parts h)
  same_attribute sort (item.Items entries) h = one item.Items
      (same_conds entry_uses _ _ same_entry entries h)
  same_attribute sort (item.Members members) h = one item.Members
      (same_each (λ m. OfItem [] (member_kinds sort) m.item ∷ []) _ _
      (λ m fine. one (λ item'. record {
        name = m.name;
        item = item';
        label = m.label;
        help = m.help;
      }) fine.0) members h)
  same_attribute sort (item.Elements elements) h = one item.Elements
      (same_each (λ e. OfItem [] variable_kinds e.variable ∷ []) _ _
      (λ e fine. one (λ variable'. record {
        number = e.number;
        variable = variable';
        label = e.label;
        help = e.help;
      }) fine.0) elements h)
  same_attribute sort (item.Definition body) h = one item.Definition (same_body body [] 0 h)
  same_attribute sort _ h = refl

  same_item : (i : item.Item Path) → AllSame (item_uses i) → resolved_item r i ≡ resolved_item q i
  same_item i h = one (λ attributes. record {
    sort = i.sort;
    name = i.name;
    attributes = attributes;
  }) (same_each (attribute_uses i.sort) _ _ (same_attribute i.sort) i.attributes h)

  pub same_items : (items : List (item.Item Path)) → AllSame (flat_map item_uses items)
      → each (resolved_item r) items ≡ each (resolved_item q) items
  same_items items h = same_each item_uses _ _ same_item items h
