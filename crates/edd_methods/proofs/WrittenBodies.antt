-- The code of a body, part by part, and of the arms of a switch with their labels.
use Rattle.std.proofs.Common.{◌≡◌, refl, sym, ap, subst, ◌∙◌, ℕ, ◌+◌, ◌<◌, ◌≤◌, zero, suc, ℤ, List, [], ◌∷◌, ◌++◌, length, map, get_or, arith, append_assoc}
use Rattle.std.specs.Prelude.{Option, Some, None, Result}
use Rattle.std.specs.List.{flat_map}
use Rattle.std.proofs.lemmas.Grind.{flat_map-append}
use Rattle.std.proofs.lemmas.List.{append-nil}
use Rattle.edd_syntax.specs.declared.numbers.StrNo.{StrNo}
use Rattle.edd_syntax.specs.declared.reference.Target.{Target}
use Rattle.edd_syntax.specs.Size.{body_nodes}
use Rattle.edd_syntax.specs.Statement as tree
use Rattle.edd_syntax.specs.Statement.{Declarator, body_from, Declare, Cons, CaseLabel, DefaultLabel}
use Rattle.edd_syntax.specs.Strings.{expr_texts}
use Rattle.edd_syntax.specs.SubsetRules.{stmt_expressions, body_expressions, optional_part}
use Rattle.edd_syntax.specs.Text.{Text}
use Rattle.edd_syntax.specs.TwosComplement.{wrap}
use Rattle.edd_syntax.specs.Words.{Words}
use Rattle.edd_code.specs.Blocks as blocks
use Rattle.edd_code.specs.Blocks.{target, bytes_of}
use Rattle.edd_code.specs.MethodExpressions.{method_block}
use Rattle.edd_code.proofs.Lines.{bytes_of-append}
use Rattle.edd_code.specs.declared.fault.LowerFault.{LowerFault}
use Rattle.edd_methods.specs.declared.labels.Labels.{Labels}
use Rattle.edd_methods.specs.Labels.{NotesArms, case_noted, default_noted, or_else}
use Rattle.edd_methods.proofs.NumberedParts.{nothing_named}
use Rattle.edd_methods.proofs.WrittenStatements.{LowersStatement, plain_nothing, reworded}
use Rattle.edd_methods.specs.StatementCode.{blocks_by, body_code, statement_code}
use Rattle.edd_methods.specs.Statements.{Code, Plain, Then, Arms, Statement, size, emitted, arms_emitted, bytes_at}
use Rattle.edd_methods.specs.TreeCode.{Blocks, declare_block, code_of, code_in, arms_of}
use Rattle.edd_methods.specs.Writing.{Lowers, Numbered, body_texts, statement_texts, declared_texts, placed_texts, arms_bytes, cases_at, default_at}
use Rattle.edd_methods.proofs.ClosedCode.{bytes_of_none, code_longer, plain_is, then_is}

-- ---- texts

pub body_split : (x : tree.Part Target) (xs : List (tree.Part Target))
    → body_texts (body_from (x ∷ xs)) ≡ body_texts (body_from (x ∷ [])) ++ body_texts (body_from xs)
body_split (Declare ds) xs =
    flat_map-append (λ p. expr_texts p.expression) (flat_map (λ d. optional_part d.value) ds)
    (body_expressions (body_from xs))
    ∙ ap (λ ps. placed_texts ps ++ body_texts (body_from xs))
    (sym (append-nil (flat_map (λ d. optional_part d.value) ds)))
body_split (tree.Statement s) xs =
    flat_map-append (λ p. expr_texts p.expression) (stmt_expressions s)
    (body_expressions (body_from xs))
    ∙ ap (λ ps. placed_texts ps ++ body_texts (body_from xs))
    (sym (append-nil (stmt_expressions s)))
body_split _ xs = refl

pub declare_texts : (ds : List (Declarator Target)) → body_texts (body_from (Declare ds ∷ []))
    ≡ declared_texts ds
declare_texts ds = ap placed_texts (append-nil (flat_map (λ d. optional_part d.value) ds))

pub one_texts : (s : tree.Stmt Target) → body_texts (body_from (tree.Statement s ∷ []))
    ≡ statement_texts s
one_texts s = ap placed_texts (append-nil (stmt_expressions s))

-- ---- nodes

pub part_falls : {X : Type 0} (view : X → tree.Part Target) (xs : List X) (i : ℕ) {x : X}
    → i < length xs → x ≡ get_or xs i x
    → body_nodes (body_from (view x ∷ [])) ≤ body_nodes (body_from (map view xs))
part_falls view [] i h is = absurd (omega arith)
part_falls {X} view (y ∷ ys) zero h is = subst (λ (z : X). body_nodes (body_from (view z ∷ []))
    ≤ body_nodes (body_from (view y ∷ map view ys))) (sym is) (first_falls (view y))
  where
    first_falls : (q : tree.Part Target) → body_nodes (body_from (q ∷ []))
        ≤ body_nodes (Cons q (body_from (map view ys)))
    first_falls (Declare ds) = omega arith
    first_falls (tree.Statement s) = omega arith
    first_falls (CaseLabel label) = omega arith
    first_falls DefaultLabel = omega arith
part_falls {X} view (y ∷ ys) (suc i) {x} h is =
    let later = part_falls view ys i (omega (arith, h)) is in
    more (view y) later
  where
    more : (q : tree.Part Target) → body_nodes (body_from (view x ∷ []))
        ≤ body_nodes (body_from (map view ys)) → body_nodes (body_from (view x ∷ []))
        ≤ body_nodes (Cons q (body_from (map view ys)))
    more (Declare ds) le = omega (arith, le)
    more (tree.Statement s) le = omega (arith, le)
    more (CaseLabel label) le = omega (arith, le)
    more DefaultLabel le = omega (arith, le)

-- ---- a part in front of others

nothing : (q : ℕ) → blocks.bytes_at q blocks.Nothing ≡ []
unfolding blocks.emitted
nothing q = bytes_of_none

module _ (given : Blocks) (out back : ℕ) where
  abbrev here : ℕ → List (tree.Part Target) → List ℕ
  here p xs = bytes_at p out back (code_in given (body_from xs))

  alone : (p : ℕ) (c : Code) → bytes_at p out back (Then c (Plain blocks.Nothing))
      ≡ bytes_at p out back c
  alone p c =
      then_is p out back c (Plain blocks.Nothing) ∙ ap (λ bytes. bytes_at p out back c ++ bytes)
      (plain_is (p + size c) out back blocks.Nothing ∙ nothing (p + size c))
      ∙ append-nil (bytes_at p out back c)

  -- one piece of code in front of others
  piece : (p : ℕ) (c d : Code) → bytes_at p out back (Then c d)
      ≡ bytes_at p out back (Then c (Plain blocks.Nothing))
      ++ bytes_at (p + size (Then c (Plain blocks.Nothing))) out back d
  piece p c d =
      let at : p + size c ≡ p + (size c + 0) = omega arith in
      then_is p out back c d ∙ ap (λ bytes. bytes ++ bytes_at (p + size c) out back d)
      (sym (alone p c)) ∙ ap (λ n. bytes_at p out back (Then c (Plain blocks.Nothing))
      ++ bytes_at n out back d) at

  labelled : (p : ℕ) (xs : List (tree.Part Target))
      → here p xs ≡ bytes_at p out back (Plain blocks.Nothing) ++ here (p + 0) xs
  labelled p xs = let at : p ≡ p + 0 = omega arith in ap (λ n. here n xs) at
      ∙ ap (λ bytes. bytes ++ here (p + 0) xs)
      (sym (plain_is p out back blocks.Nothing ∙ nothing p))

  one_part : (x : tree.Part Target) (xs : List (tree.Part Target)) (p : ℕ)
      → here p (x ∷ xs) ≡ here p (x ∷ []) ++ here (p + size (code_in given (body_from (x ∷ [])))) xs
  unfolding code_in
  one_part (Declare ds) xs p = piece p (Plain (declare_block given ds))
      (code_in given (body_from xs))
  one_part (tree.Statement s) xs p = piece p (code_of given s) (code_in given (body_from xs))
  one_part _ xs p = labelled p xs

  -- what there will be once the other parts are written
  abbrev pub parts_left : List ℕ → List (tree.Part Target) → List ℕ
  parts_left so_far rest = so_far ++ here (length so_far) rest

  pub part_on : (x : tree.Part Target) (c0 c1 : List ℕ) → c1 ≡ c0 ++ here (length c0) (x ∷ [])
      → (rest : List (tree.Part Target)) → c0 ++ here (length c0) (x ∷ rest) ≡ c1
      ++ here (length c1) rest
  part_on x c0 c1 is rest =
      let one = code_in given (body_from (x ∷ [])) in
      ap (λ bytes. c0 ++ bytes) (one_part x rest (length c0))
      ∙ sym (append_assoc c0 (here (length c0) (x ∷ [])) (here (length c0 + size one) rest)) ∙ ap
      (λ n. (c0 ++ here (length c0) (x ∷ [])) ++ here n rest) (sym (code_longer c0 out back one is))
      ∙ ap (λ code. code ++ here (length c1) rest) (sym is)

  -- ---- arms, with their labels

  -- code, the places of its cases, and that of its first default
  abbrev pub Noted : Type 0
  Noted = List ℕ × List (ℤ × ℕ) × Option ℕ

  -- what there will be once the other parts are written
  abbrev pub arms_left : Noted → List (tree.Part Target) → Noted
  arms_left s rest =
      let arms = arms_of given (body_from rest) in (
        s.0 ++ arms_bytes (length s.0) out back arms,
        s.1 ++ cases_at (length s.0) arms,
        or_else s.2 (default_at (length s.0) arms),
      )

  abbrev SameNoted : Noted → Noted → Type 0
  SameNoted x y = x ≡ y

  all_same : {a b : List ℕ} {cs ds : List (ℤ × ℕ)} {e f : Option ℕ} → a ≡ b → cs ≡ ds → e ≡ f
      → SameNoted (a, cs, e) (b, ds, f)
  all_same {a} {b} {cs} {ds} {e} {f} p q r = ap (λ (x : List ℕ). (x, cs, e)) p
      ∙ ap (λ (x : List (ℤ × ℕ)). (b, x, e)) q ∙ ap (λ (x : Option ℕ). (b, ds, x)) r

  or_none : (d : Option ℕ) → or_else d None ≡ d
  or_none None = refl
  or_none (Some place) = refl

  or_both : (d e f : Option ℕ) → or_else d (or_else e f) ≡ or_else (or_else d e) f
  or_both None e f = refl
  or_both (Some place) e f = refl

  -- a piece of code that is no label
  code_on : (c : Code) (arms : Arms) (c0 c1 : List ℕ) (cases0 cases1 : List (ℤ × ℕ))
      (d0 d1 : Option ℕ) → c1 ≡ c0 ++ bytes_at (length c0) out back (Then c (Plain blocks.Nothing))
      → cases1 ≡ cases0 ++ [] → d1 ≡ or_else d0 None
      → SameNoted (
        c0 ++ arms_bytes (length c0) out back (Statement c arms),
        cases0
            ++ cases_at (length c0) (Statement c arms),
        or_else d0 (default_at (length c0) (Statement c arms)),
      ) (
        c1 ++ arms_bytes (length c1) out back arms,
        cases1 ++ cases_at (length c1) arms,
        or_else d1 (default_at (length c1) arms),
      )
  unfolding emitted
  code_on c arms c0 c1 cases0 cases1 d0 d1 is cases default =
      let own : c1 ≡ c0 ++ bytes_at (length c0) out back c =
      is ∙ ap (λ bytes. c0 ++ bytes) (alone (length c0) c) in
      let long : length c0 + size c ≡ length c1 = sym (code_longer c0 out back c own) in
      all_same
      (ap (λ bytes. c0 ++ bytes)
      (bytes_of-append (emitted (length c0) out back c)
      (arms_emitted (length c0 + size c) out back arms))
      ∙ sym (append_assoc c0 (bytes_at (length c0) out back c)
      (arms_bytes (length c0 + size c) out back arms))
      ∙ ap (λ code. code ++ arms_bytes (length c0 + size c) out back arms) (sym own)
      ∙ ap (λ n. c1 ++ arms_bytes n out back arms) long)
      (ap (λ cs. cs ++ cases_at (length c0 + size c) arms) (sym (cases ∙ append-nil cases0))
      ∙ ap (λ n. cases1 ++ cases_at n arms) long)
      (ap (λ d. or_else d (default_at (length c0 + size c) arms)) (sym (default ∙ or_none d0))
      ∙ ap (λ n. or_else d1 (default_at n arms)) long)

  unmoved : (c0 c1 : List ℕ) → c1 ≡ c0 ++ bytes_at (length c0) out back (Plain blocks.Nothing)
      → c0 ≡ c1
  unmoved c0 c1 is = sym (is
      ∙ ap (λ bytes. c0 ++ bytes) (plain_is (length c0) out back blocks.Nothing
      ∙ nothing (length c0)) ∙ append-nil c0)

  pub arms_on : (x : tree.Part Target) (c0 c1 : List ℕ) (cases0 cases1 : List (ℤ × ℕ))
      (d0 d1 : Option ℕ) → c1 ≡ c0 ++ here (length c0) (x ∷ [])
      → cases1 ≡ cases0 ++ case_noted (target (length c0)) x
      → d1 ≡ or_else d0 (default_noted (target (length c0)) x)
      → (rest : List (tree.Part Target)) → arms_left (c0, cases0, d0) (x ∷ rest)
      ≡ arms_left (c1, cases1, d1) rest
  unfolding code_in arms_emitted
  arms_on (Declare ds) c0 c1 cases0 cases1 d0 d1 is cases default rest =
      code_on (Plain (declare_block given ds)) (arms_of given (body_from rest)) c0 c1 cases0 cases1
      d0 d1 is cases default
  arms_on (tree.Statement s) c0 c1 cases0 cases1 d0 d1 is cases default rest =
      code_on (code_of given s) (arms_of given (body_from rest)) c0 c1 cases0 cases1 d0 d1 is cases
      default
  arms_on (CaseLabel label) c0 c1 cases0 cases1 d0 d1 is cases default rest =
      let arms = arms_of given (body_from rest) in
      let same = unmoved c0 c1 is in
      all_same (ap (λ code. code ++ arms_bytes (length code) out back arms) same)
      (sym (append_assoc cases0 ((wrap 32 label, target (length c0)) ∷ [])
      (cases_at (length c0) arms)) ∙ ap (λ cs. cs ++ cases_at (length c0) arms) (sym cases)
      ∙ ap (λ code. cases1 ++ cases_at (length code) arms) same)
      (ap (λ d. or_else d (default_at (length c0) arms)) (sym (default ∙ or_none d0))
      ∙ ap (λ code. or_else d1 (default_at (length code) arms)) same)
  arms_on DefaultLabel c0 c1 cases0 cases1 d0 d1 is cases default rest =
      let arms = arms_of given (body_from rest) in
      let same = unmoved c0 c1 is in
      all_same (ap (λ code. code ++ arms_bytes (length code) out back arms) same)
      (ap (λ cs. cs ++ cases_at (length c0) arms) (sym (cases ∙ append-nil cases0))
      ∙ ap (λ code. cases1 ++ cases_at (length code) arms) same)
      (or_both d0 (Some (target (length c0))) (default_at (length c0) arms)
      ∙ ap (λ d. or_else d (default_at (length c0) arms)) (sym default)
      ∙ ap (λ code. or_else d1 (default_at (length code) arms)) same)

  pub parts_none : (c : List ℕ) → parts_left c [] ≡ c
  unfolding code_in
  parts_none c = ap (λ bytes. c ++ bytes) (plain_is (length c) out back blocks.Nothing
      ∙ nothing (length c)) ∙ append-nil c

  pub arms_none : (c0 : List ℕ) (old : Labels) (c1 : List ℕ) (new : Labels)
      (all : List (tree.Part Target)) → arms_left (c0, old.cases.items, old.default) all
      ≡ arms_left (c1, new.cases.items, new.default) []
      → NotesArms c0 old out back (arms_of given (body_from all)) c1 new
  unfolding code_in arms_emitted
  arms_none c0 old c1 new all is = record {
    code = sym (ap (λ (s : Noted). s.0) is ∙ ap (λ bytes. c1 ++ bytes) bytes_of_none
        ∙ append-nil c1);
    cases = sym (ap (λ (s : Noted). s.1) is ∙ append-nil new.cases.items);
    default = sym (ap (λ (s : Noted). s.2) is ∙ or_none new.default);
  }

-- the same of the code of methods, by the numbers of strings
abbrev pub body_left : (out back : ℕ) → (Words → StrNo) → List ℕ → List (tree.Part Target) → List ℕ
body_left out back number so_far rest = parts_left (blocks_by (method_block number)) out back so_far
    rest

abbrev pub switch_left : (out back : ℕ) → (Words → StrNo) → List ℕ × List (ℤ × ℕ) × Option ℕ
    → List (tree.Part Target) → List ℕ × List (ℤ × ℕ) × Option ℕ
switch_left out back number so_far rest = arms_left (blocks_by (method_block number)) out back
    so_far rest

-- the texts of parts
abbrev pub parts_texts : List (tree.Part Target) → List Text
parts_texts ps = body_texts (body_from ps)

module _ {A : Type 0} (r : Result A LowerFault) (old new : List Words) (c0 c1 : List ℕ)
    (out back : ℕ) where
  -- the part is written
  abbrev pub LowersPart : tree.Part Target → Type 0
  LowersPart x = Lowers r old (body_texts (body_from (x ∷ [])))
      (λ number. c1 ≡ c0 ++ bytes_at (length c0) out back
      (body_code (method_block number) (body_from (x ∷ [])))) new

  pub declare_part : {ds : List (Declarator Target)} {x : tree.Part Target} → x ≡ Declare ds
      → Lowers r old (declared_texts ds) (λ number. c1 ≡ c0 ++ blocks.bytes_at (length c0)
      (declare_block (blocks_by (method_block number)) ds)) new → LowersPart x
  unfolding code_in
  declare_part {ds} is h =
      subst LowersPart (sym is) (reworded r old new (λ number. c1
      ≡ c0 ++ blocks.bytes_at (length c0) (declare_block (blocks_by (method_block number)) ds))
      (λ number. c1 ≡ c0 ++ bytes_at (length c0) out back
      (body_code (method_block number) (body_from (Declare ds ∷ [])))) (sym (declare_texts ds))
      (λ number e. e ∙ ap (λ bytes. c0 ++ bytes) (sym (alone (blocks_by (method_block number)) out
      back (length c0) (Plain (declare_block (blocks_by (method_block number)) ds))
      ∙ plain_is (length c0) out back (declare_block (blocks_by (method_block number)) ds)))) h)

  pub statement_part : {s : tree.Stmt Target} {x : tree.Part Target} → x ≡ tree.Statement s
      → LowersStatement r old c0 out back s c1 new → LowersPart x
  unfolding code_in
  statement_part {s} is h =
      subst LowersPart (sym is) (reworded r old new (λ number. c1 ≡ c0 ++ bytes_at (length c0) out
      back (statement_code (method_block number) s)) (λ number. c1 ≡ c0 ++ bytes_at (length c0) out
      back (body_code (method_block number) (body_from (tree.Statement s ∷ []))))
      (sym (one_texts s)) (λ number e. e ∙ ap (λ bytes. c0 ++ bytes) (sym (alone (blocks_by
      (method_block number)) out back (length c0) (statement_code (method_block number) s)))) h)

-- a label has no code
pub case_part : {x : tree.Part Target} {label : ℤ} (table : List Words) (c0 : List ℕ) (out back : ℕ)
    → x ≡ CaseLabel label → Numbered table (body_texts (body_from (x ∷ []))) (λ number. c0 ≡ c0
    ++ bytes_at (length c0) out back (body_code (method_block number) (body_from (x ∷ [])))) table
unfolding code_in
case_part table c0 out back is =
    subst (λ (y : tree.Part Target). Numbered table (body_texts (body_from (y ∷ [])))
    (λ number. c0 ≡ c0 ++ bytes_at (length c0) out back
    (body_code (method_block number) (body_from (y ∷ [])))) table) (sym is)
    (nothing_named table _ (λ number. plain_nothing c0 out back))

pub default_part : {x : tree.Part Target} (table : List Words) (c0 : List ℕ) (out back : ℕ)
    → x ≡ DefaultLabel → Numbered table (body_texts (body_from (x ∷ []))) (λ number. c0 ≡ c0
    ++ bytes_at (length c0) out back (body_code (method_block number) (body_from (x ∷ [])))) table
unfolding code_in
default_part table c0 out back is =
    subst (λ (y : tree.Part Target). Numbered table (body_texts (body_from (y ∷ [])))
    (λ number. c0 ≡ c0 ++ bytes_at (length c0) out back
    (body_code (method_block number) (body_from (y ∷ [])))) table) (sym is)
    (nothing_named table _ (λ number. plain_nothing c0 out back))
