-- An instruction that is read is spelled by the bytes that it was read from.
use Rattle.std.proofs.Common.{◌≡◌, ℕ, ◌-◌, ◌<◌, ◌^◌, Bool, true, false, cond, List, [], ◌∷◌, ◌++◌, length, take, drop, Some, None, suc, refl, sym, ap, ◌∙◌, append_assoc, arith, length-append}
use Rattle.std.proofs.lemmas.List.{take-append-drop, drop_at}
use Rattle.std.proofs.lemmas.Bool.{false≢true, ltb-true, eqb-true, eqb-false}
use Rattle.std.specs.Prelude.{nat_lt, ◌==◌}
use Rattle.std.specs.Int.{w16, w32, w64}
use Rattle.edd_syntax.specs.declared.numbers.ItemNo.{ItemNo}
use Rattle.edd_syntax.specs.declared.numbers.ItemNo.TheVariants as items
use Rattle.edd_syntax.specs.declared.operators.Operator.{Operator}
use Rattle.edd_syntax.specs.declared.operators.Operator.TheVariants as operator
use Rattle.edd_syntax.specs.declared.operators.Comparison.{Comparison}
use Rattle.edd_syntax.specs.declared.operators.Comparison.TheVariants as comparison
use Rattle.edd_syntax.specs.Numbers.{kind_number, kind_of, index_of}
use Rattle.edd_instructions.specs.declared.instruction.Ask.{Ask}
use Rattle.edd_syntax.specs.Builtins.{names_taken, request_from_number}
use Rattle.edd_syntax.proofs.KnownByNumber.{number_of_request}
use Rattle.edd_instructions.specs.declared.instruction.Instruction.{Instruction}
use Rattle.edd_instructions.specs.declared.instruction.Instruction.TheVariants as instruction
use Rattle.edd_image.specs.Layout.{u16, u32}
use Rattle.edd_image.specs.Front.{byte_from, number_from}
use Rattle.edd_instructions.specs.Decoding.{unused_are_zero, signed_from, optional_string, item_from, basic_from, operator_of, comparison_of, unary_of, jump_from, entry_from, data_from, enumerator_from, response_from, member_from, element_from, record_from, ask_of, ask_from, abort_method_from, instruction_from, instruction_at, listed_item}
use Rattle.edd_instructions.specs.Spelling.{AreBytes, i64, item_bytes, optional_number, optional_bytes, operator_code, comparison_code, ask_bytes, spelling, IsOptional, IsAsk, IsListed, IsSpelled}
use Rattle.edd_instructions.proofs.Readings.{Gives, gives_none, gives_some, gives_choice, gives_then, gives_map, Begins, drop_bytes, byte_took, u16_took, u32_took, i64_took}

-- ---- codes

operator_is : (code : ℕ) → Gives (λ op. operator_code op ≡ code) (operator_of code)
unfolding operator_of
operator_is code =
    let P : Operator → Type 0 = λ op. operator_code op ≡ code in
    gives_choice P (code == 0x10) _ _ (λ e. gives_some P operator.Add (sym (eqb-true code 0x10 e)))
    (λ _.
    gives_choice P (code == 0x11) _ _
    (λ e. gives_some P operator.Subtract (sym (eqb-true code 0x11 e))) (λ _.
    gives_choice P (code == 0x12) _ _
    (λ e. gives_some P operator.Multiply (sym (eqb-true code 0x12 e))) (λ _.
    gives_choice P (code == 0x13) _ _
    (λ e. gives_some P operator.Divide (sym (eqb-true code 0x13 e))) (λ _.
    gives_choice P (code == 0x14) _ _
    (λ e. gives_some P operator.Remainder (sym (eqb-true code 0x14 e))) (λ _.
    gives_choice P (code == 0x15) _ _
    (λ e. gives_some P operator.ShiftLeft (sym (eqb-true code 0x15 e))) (λ _.
    gives_choice P (code == 0x16) _ _
    (λ e. gives_some P operator.ShiftRight (sym (eqb-true code 0x16 e))) (λ _.
    gives_choice P (code == 0x17) _ _ (λ e. gives_some P operator.And (sym (eqb-true code 0x17 e)))
    (λ _.
    gives_choice P (code == 0x18) _ _ (λ e. gives_some P operator.Or (sym (eqb-true code 0x18 e)))
    (λ _.
    gives_choice P (code == 0x19) _ _ (λ e. gives_some P operator.Xor (sym (eqb-true code 0x19 e)))
    (λ _. gives_none P))))))))))

comparison_is : (code : ℕ) → Gives (λ op. comparison_code op ≡ code) (comparison_of code)
unfolding comparison_of
comparison_is code =
    let P : Comparison → Type 0 = λ op. comparison_code op ≡ code in
    gives_choice P (code == 0x1a) _ _
    (λ e. gives_some P comparison.Equal (sym (eqb-true code 0x1a e))) (λ _.
    gives_choice P (code == 0x1b) _ _
    (λ e. gives_some P comparison.NotEqual (sym (eqb-true code 0x1b e))) (λ _.
    gives_choice P (code == 0x1c) _ _
    (λ e. gives_some P comparison.Less (sym (eqb-true code 0x1c e))) (λ _.
    gives_choice P (code == 0x1d) _ _
    (λ e. gives_some P comparison.LessOrEqual (sym (eqb-true code 0x1d e))) (λ _.
    gives_choice P (code == 0x1e) _ _
    (λ e. gives_some P comparison.Greater (sym (eqb-true code 0x1e e))) (λ _.
    gives_choice P (code == 0x1f) _ _
    (λ e. gives_some P comparison.GreaterOrEqual (sym (eqb-true code 0x1f e)))
    (λ _. gives_none P))))))

-- the whole bytes are the spelling of the instruction and the rest, and its operands are in range
abbrev Says : List ℕ → Instruction × List ℕ → Type 0
Says whole x = IsSpelled x.0 × (whole ≡ spelling x.0 ++ x.1)

unary_is : (code : ℕ) → Gives (λ i. IsSpelled i × (spelling i ≡ code ∷ [])) (unary_of code)
unfolding unary_of
unary_is code =
    let P : Instruction → Type 0 = λ i. IsSpelled i × (spelling i ≡ code ∷ []) in
    gives_choice P (code == 0x20) _ _
    (λ e. gives_some P instruction.Negate (tt, head (eqb-true code 0x20 e))) (λ _.
    gives_choice P (code == 0x21) _ _
    (λ e. gives_some P instruction.Not (tt, head (eqb-true code 0x21 e))) (λ _.
    gives_choice P (code == 0x22) _ _
    (λ e. gives_some P instruction.Complement (tt, head (eqb-true code 0x22 e)))
    (λ _. gives_none P)))
  where
    head : {a b : ℕ} → a ≡ b → b ∷ [] ≡ a ∷ []
    head e = ap (λ (n : ℕ). n ∷ []) (sym e)

-- ---- operands

item_is : (kind n : ℕ) → n < 2 ^ 16
    → Gives (λ item. (kind_number (kind_of item) ≡ kind) × (index_of item ≡ n) × IsListed item)
    (listed_item kind n)
item_is kind n low =
    let P : ItemNo → Type 0 = λ item. (kind_number (kind_of item) ≡ kind) × (index_of item ≡ n)
    × IsListed item in
    gives_choice P (kind == 6) _ _ (λ _. gives_none P) (λ no_array.
    gives_choice P (kind == 1) _ _ (λ e. gives_some P (items.Variable (record { 0 = n }))
    (sym (eqb-true kind 1 e), refl, low)) (λ _.
    gives_choice P (kind == 2) _ _ (λ e. gives_some P (items.Command (record { 0 = n }))
    (sym (eqb-true kind 2 e), refl, low)) (λ _.
    gives_choice P (kind == 3) _ _ (λ e. gives_some P (items.Menu (record { 0 = n }))
    (sym (eqb-true kind 3 e), refl, low)) (λ _.
    gives_choice P (kind == 4) _ _ (λ e. gives_some P (items.Collection (record { 0 = n }))
    (sym (eqb-true kind 4 e), refl, low)) (λ _.
    gives_choice P (kind == 5) _ _ (λ e. gives_some P (items.Method (record { 0 = n }))
    (sym (eqb-true kind 5 e), refl, low)) (λ _.
    gives_choice P (kind == 6) _ _ (λ e. absurd (false≢true (sym no_array ∙ e)))
    (λ _. gives_none P)))))))

item_took : (bytes : List ℕ) → AreBytes bytes
    → Gives (λ x. Begins bytes (item_bytes x.0) x.1 × IsListed x.0) (item_from bytes)
unfolding item_from
item_took bytes are =
    let P : ItemNo × List ℕ → Type 0 = λ x. Begins bytes (item_bytes x.0) x.1 × IsListed x.0 in
    gives_then P (byte_from bytes) _ (λ kind e1. let k = byte_took bytes are kind e1 in
    gives_then P (number_from w16 kind.1) _ (λ n e2. let m = u16_took kind.1 k.0.others n e2 in
    gives_then P (listed_item kind.0 n.0) _ (λ item e3.
    let h = item_is kind.0 n.0 m.1 item e3 in
    gives_some P (item, n.1) (
      record {
        is = k.0.is ∙ ap (λ (l : List ℕ). kind.0 ∷ l) m.0.is
            ∙ sym (ap (λ (a : ℕ). a ∷ (u16 (index_of item) ++ n.1)) h.0
            ∙ ap (λ (a : ℕ). kind.0 ∷ (u16 a ++ n.1)) h.1);
        others = m.0.others;
      },
      h.2,
    ))))

optional_is : (n : ℕ) → n < 2 ^ 16 → IsOptional (optional_string n)
    × (optional_number (optional_string n) ≡ n)
optional_is n lt = by_test (n == 0xffff) refl
  where
    by_test : (test : Bool) → (n == 0xffff) ≡ test
        → IsOptional (cond test None (Some (record { 0 = n })))
        × (optional_number (cond test None (Some (record { 0 = n }))) ≡ n)
    by_test true e = (tt, sym (eqb-true n 0xffff e))
    by_test false e = let ne = eqb-false n 0xffff e in (grind arith, refl)

-- ---- instructions

module _ (code : ℕ) (bytes : List ℕ) (are : AreBytes bytes) where
  -- the code is this, and the operands come after it
  spelled : {c : ℕ} {tail : List ℕ} → (code == c) ≡ true → bytes ≡ tail → code ∷ bytes ≡ c ∷ tail
  spelled {c} {tail} e h = ap (λ (n : ℕ). n ∷ bytes) (eqb-true code c e)
      ∙ ap (λ (l : List ℕ). c ∷ l) h

  P : Instruction × List ℕ → Type 0
  P = Says (code ∷ bytes)

  basic_says : Gives P (basic_from code bytes)
  unfolding basic_from P
  basic_says =
      gives_choice P (code == 0x00) _ _
      (λ e. gives_some P (instruction.End, bytes) (tt, spelled e refl)) (λ _.
      gives_choice P (code == 0x01) _ _
      (λ e. gives_then P (number_from w32 bytes) _
      (λ x r. let h = u32_took bytes are x r in gives_some P (instruction.Push x.0, x.1)
      (h.1, spelled e h.0.is))) (λ _.
      gives_choice P (code == 0x02) _ _
      (λ e. gives_then P (number_from w16 bytes) _
      (λ x r. let h = u16_took bytes are x r in gives_some P
      (instruction.Variable (record { 0 = x.0 }), x.1) (h.1, spelled e h.0.is))) (λ _.
      gives_choice P (code == 0x03) _ _
      (λ e. gives_then P (number_from w16 bytes) _
      (λ x r. let h = u16_took bytes are x r in gives_some P
      (instruction.Store (record { 0 = x.0 }), x.1) (h.1, spelled e h.0.is))) (λ _.
      gives_choice P (code == 0x04) _ _
      (λ e. gives_then P (number_from w16 bytes) _
      (λ x r. let h = u16_took bytes are x r in gives_some P (instruction.GetLocal x.0, x.1)
      (h.1, spelled e h.0.is))) (λ _.
      gives_choice P (code == 0x05) _ _
      (λ e. gives_then P (number_from w16 bytes) _
      (λ x r. let h = u16_took bytes are x r in gives_some P (instruction.SetLocal x.0, x.1)
      (h.1, spelled e h.0.is))) (λ _.
      gives_choice P (code == 0x06) _ _
      (λ e. gives_some P (instruction.Pop, bytes) (tt, spelled e refl)) (λ _.
      gives_choice P (code == 0x07) _ _
      (λ e. gives_some P (instruction.Duplicate, bytes) (tt, spelled e refl)) (λ _.
      gives_choice P (code == 0x08) _ _
      (λ e. gives_then P (number_from w16 bytes) _
      (λ x r. let h = u16_took bytes are x r in gives_some P
      (instruction.ReadElement (record { 0 = x.0 }), x.1) (h.1, spelled e h.0.is)))
      (λ _. gives_none P)))))))))

  jump_says : Gives P (jump_from code bytes)
  unfolding jump_from P
  jump_says =
      gives_choice P (code == 0x30) _ _
      (λ e. gives_then P (number_from w32 bytes) _
      (λ x r. let h = u32_took bytes are x r in gives_some P (instruction.Jump x.0, x.1)
      (h.1, spelled e h.0.is))) (λ _.
      gives_choice P (code == 0x31) _ _
      (λ e. gives_then P (number_from w32 bytes) _
      (λ x r. let h = u32_took bytes are x r in gives_some P (instruction.JumpIfZero x.0, x.1)
      (h.1, spelled e h.0.is))) (λ _.
      gives_choice P (code == 0x32) _ _
      (λ e. gives_then P (number_from w32 bytes) _
      (λ x r. let h = u32_took bytes are x r in gives_some P (
        instruction.JumpIfNotZero x.0,
        x.1,
      ) (h.1, spelled e h.0.is))) (λ _.
      gives_choice P (code == 0x33) _ _ (λ e.
      gives_then P (signed_from w64 bytes) _ (λ x r. let h = i64_took bytes are x r in
      gives_then P (number_from w32 x.1) _ (λ y q. let k = u32_took x.1 h.0.others y q in
      gives_some P (instruction.Case x.0 y.0, y.1)
      ((h.1, k.1), spelled e (h.0.is ∙ ap (λ (l : List ℕ). i64 x.0 ++ l) k.0.is)))))
      (λ _. gives_none P))))

  entry_says : (code == 0x42) ≡ true → Gives P (entry_from bytes)
  unfolding entry_from P
  entry_says e =
      gives_then P (item_from bytes) _ (λ x r. let h = item_took bytes are x r in
      gives_then P (number_from w16 x.1) _ (λ y q. let k = u16_took x.1 h.0.others y q in
      gives_choice P (nat_lt y.0 16) _ _
      (λ t. gives_some P (instruction.Item x.0 y.0, y.1) (
        (h.1, ltb-true y.0 16 t),
        spelled e (h.0.is ∙ ap (λ (l : List ℕ). item_bytes x.0 ++ l) k.0.is),
      ))
      (λ _. gives_none P)))

  data_says : (code == 0x44) ≡ true → Gives P (data_from bytes)
  unfolding data_from P
  data_says e =
      gives_then P (number_from w16 bytes) _ (λ x r. let h = u16_took bytes are x r in
      gives_then P (number_from w32 x.1) _ (λ y q. let k = u32_took x.1 h.0.others y q in
      gives_then P (byte_from y.1) _ (λ z s. let l = byte_took y.1 k.0.others z s in
      gives_choice P (nat_lt z.0 4) _ _
      (λ t. gives_some P (instruction.DataVar (record { 0 = x.0 }) y.0 z.0, z.1) (
        (h.1, k.1, ltb-true z.0 4 t),
        spelled e (h.0.is ∙ ap (λ (m : List ℕ). u16 x.0 ++ m)
            (k.0.is ∙ ap (λ (m : List ℕ). u32 y.0 ++ m) l.0.is)),
      ))
      (λ _. gives_none P))))

  enumerator_says : (code == 0x45) ≡ true → Gives P (enumerator_from bytes)
  unfolding enumerator_from P
  enumerator_says e =
      gives_then P (signed_from w64 bytes) _ (λ x r. let h = i64_took bytes are x r in
      gives_then P (number_from w16 x.1) _ (λ y q. let k = u16_took x.1 h.0.others y q in
      gives_then P (number_from w16 y.1) _ (λ z s. let l = u16_took y.1 k.0.others z s in
      let o = optional_is z.0 l.1 in
      gives_some P (instruction.Enumerator x.0 (record { 0 = y.0 }) (optional_string z.0), z.1) (
        (h.1, k.1, o.0),
        spelled e
            (h.0.is ∙ ap (λ (m : List ℕ). i64 x.0 ++ m)
            (k.0.is ∙ ap (λ (m : List ℕ). u16 y.0 ++ m)
            (l.0.is ∙ ap (λ (n : ℕ). u16 n ++ z.1) (sym o.1)))),
      ))))

  response_says : (code == 0x46) ≡ true → Gives P (response_from bytes)
  unfolding response_from P
  response_says e =
      gives_then P (number_from w32 bytes) _ (λ x r. let h = u32_took bytes are x r in
      gives_then P (byte_from x.1) _ (λ y q. let k = byte_took x.1 h.0.others y q in
      gives_then P (number_from w16 y.1) _ (λ z s. let l = u16_took y.1 k.0.others z s in
      gives_choice P (nat_lt y.0 7) _ _
      (λ t. gives_some P (instruction.Response x.0 y.0 (record { 0 = z.0 }), z.1) (
        (h.1, ltb-true y.0 7 t, l.1),
        spelled e (h.0.is ∙ ap (λ (m : List ℕ). u32 x.0 ++ m)
            (k.0.is ∙ ap (λ (m : List ℕ). y.0 ∷ m) l.0.is)),
      ))
      (λ _. gives_none P))))

  member_says : (code == 0x47) ≡ true → Gives P (member_from bytes)
  unfolding member_from P
  member_says e =
      gives_then P (number_from w16 bytes) _ (λ x r. let h = u16_took bytes are x r in
      gives_then P (item_from x.1) _ (λ y q. let k = item_took x.1 h.0.others y q in
      gives_then P (number_from w16 y.1) _ (λ z s. let l = u16_took y.1 k.0.others z s in
      gives_then P (number_from w16 z.1) _ (λ u v. let m = u16_took z.1 l.0.others u v in
      let o = optional_is z.0 l.1 in
      let p = optional_is u.0 m.1 in
      gives_some P (
        instruction.Member (record { 0 = x.0 }) y.0 (optional_string z.0)
            (optional_string u.0),
        u.1,
      ) (
        (h.1, k.1, o.0, p.0),
        spelled e (h.0.is ∙ ap (λ (t : List ℕ). u16 x.0 ++ t)
            (k.0.is ∙ ap (λ (t : List ℕ). item_bytes y.0 ++ t) (l.0.is
            ∙ ap (λ (n : ℕ). u16 n ++ z.1) (sym o.1)
            ∙ ap (λ (t : List ℕ). optional_bytes (optional_string z.0) ++ t)
            (m.0.is ∙ ap (λ (n : ℕ). u16 n ++ u.1) (sym p.1))))),
      )))))

  element_says : (code == 0x48) ≡ true → Gives P (element_from bytes)
  unfolding element_from P
  element_says e =
      gives_then P (number_from w32 bytes) _ (λ x r. let h = u32_took bytes are x r in
      gives_then P (number_from w16 x.1) _ (λ y q. let k = u16_took x.1 h.0.others y q in
      gives_then P (number_from w16 y.1) _ (λ z s. let l = u16_took y.1 k.0.others z s in
      gives_then P (number_from w16 z.1) _ (λ u v. let m = u16_took z.1 l.0.others u v in
      let o = optional_is z.0 l.1 in
      let p = optional_is u.0 m.1 in
      gives_some P (
        instruction.Element x.0 (record { 0 = y.0 }) (optional_string z.0)
            (optional_string u.0),
        u.1,
      ) (
        (h.1, k.1, o.0, p.0),
        spelled e (h.0.is ∙ ap (λ (t : List ℕ). u32 x.0 ++ t)
            (k.0.is ∙ ap (λ (t : List ℕ). u16 y.0 ++ t) (l.0.is
            ∙ ap (λ (n : ℕ). u16 n ++ z.1) (sym o.1)
            ∙ ap (λ (t : List ℕ). optional_bytes (optional_string z.0) ++ t)
            (m.0.is ∙ ap (λ (n : ℕ). u16 n ++ u.1) (sym p.1))))),
      )))))

  record_says : Gives P (record_from code bytes)
  unfolding record_from P
  record_says =
      gives_choice P (code == 0x40) _ _
      (λ e. gives_then P (number_from w16 bytes) _
      (λ x r. let h = u16_took bytes are x r in gives_some P
      (instruction.Text (record { 0 = x.0 }), x.1) (h.1, spelled e h.0.is))) (λ _.
      gives_choice P (code == 0x41) _ _
      (λ e. gives_some P (instruction.Number, bytes) (tt, spelled e refl)) (λ _.
      gives_choice P (code == 0x42) _ _ (λ e. entry_says e) (λ _.
      gives_choice P (code == 0x43) _ _
      (λ e. gives_then P (byte_from bytes) _
      (λ x r. let h = byte_took bytes are x r in gives_some P (instruction.DataConst x.0, x.1)
      (h.1, spelled e h.0.is))) (λ _.
      gives_choice P (code == 0x44) _ _ (λ e. data_says e) (λ _.
      gives_choice P (code == 0x45) _ _ (λ e. enumerator_says e) (λ _.
      gives_choice P (code == 0x46) _ _ (λ e. response_says e) (λ _.
      gives_choice P (code == 0x47) _ _ (λ e. member_says e) (λ _.
      gives_choice P (code == 0x48) _ _ (λ e. element_says e) (λ _. gives_none P)))))))))

-- the number of a request, with its operands
ask_is : (b s t : ℕ) → s < 2 ^ 16 → t < 2 ^ 16
    → Gives (λ a. IsAsk a × (ask_bytes a ≡ b ∷ (u16 s ++ u16 t))) (ask_of b s t)
unfolding ask_of
ask_is b s t sl tl =
    let P : Ask → Type 0 = λ a. IsAsk a × (ask_bytes a ≡ b ∷ (u16 s ++ u16 t)) in
    gives_then P (request_from_number b) _ (λ kind is.
    gives_choice P (unused_are_zero (names_taken kind) s t) _ _
    (λ e. gives_some P (record { kind = kind; first = s; second = t })
    ((sl, tl, e), ap (λ (n : ℕ). n ∷ (u16 s ++ u16 t)) (number_of_request b kind is)))
    (λ _. gives_none P))

ask_says : (code : ℕ) (bytes : List ℕ) → AreBytes bytes → (code == 0x50) ≡ true
    → Gives (Says (code ∷ bytes)) (ask_from bytes)
unfolding ask_from
ask_says code bytes are e =
    let P : Instruction × List ℕ → Type 0 = Says (code ∷ bytes) in
    gives_then P (byte_from bytes) _ (λ x r. let h = byte_took bytes are x r in
    gives_then P (number_from w16 x.1) _ (λ y q. let k = u16_took x.1 h.0.others y q in
    gives_then P (number_from w16 y.1) _ (λ z s. let l = u16_took y.1 k.0.others z s in
    gives_then P (ask_of x.0 y.0 z.0) _ (λ a g. let m = ask_is x.0 y.0 z.0 k.1 l.1 a g in
    gives_some P (instruction.Ask a, z.1) (
      m.0,
      spelled code bytes are e
          (h.0.is ∙ ap (λ (t : List ℕ). x.0 ∷ t) (k.0.is ∙ ap (λ (t : List ℕ). u16 y.0 ++ t) l.0.is)
          ∙ ap (λ (t : List ℕ). t ++ z.1) (sym m.1)),
    )))))

abort_method_says : (code : ℕ) (bytes : List ℕ) → AreBytes bytes → (code == 0x52) ≡ true
    → Gives (Says (code ∷ bytes)) (abort_method_from bytes)
unfolding abort_method_from
abort_method_says code bytes are e =
    let P : Instruction × List ℕ → Type 0 = Says (code ∷ bytes) in
    gives_then P (number_from w16 bytes) _ (λ x r. let h = u16_took bytes are x r in
    gives_some P (instruction.AddAbortMethod (record { 0 = x.0 }), x.1)
    (h.1, spelled code bytes are e h.0.is))

instruction_says : (bytes : List ℕ) → AreBytes bytes → Gives (Says bytes) (instruction_from bytes)
unfolding instruction_from P
instruction_says [] are = gives_none (Says [])
instruction_says (code ∷ bytes) are =
    let P' : Instruction × List ℕ → Type 0 = Says (code ∷ bytes) in
    let rest : AreBytes bytes = record { below = λ i. are.below (suc i) } in
    gives_choice P' (nat_lt code 0x10) _ _ (λ _. basic_says code bytes rest) (λ _.
    gives_choice P' (nat_lt code 0x1a) _ _
    (λ _. gives_map P' (operator_of code) (λ op. (instruction.Operate op, bytes))
    (λ op e. (tt, ap (λ (n : ℕ). n ∷ bytes) (sym (operator_is code op e))))) (λ _.
    gives_choice P' (nat_lt code 0x20) _ _
    (λ _. gives_map P' (comparison_of code) (λ op. (instruction.Compare op, bytes))
    (λ op e. (tt, ap (λ (n : ℕ). n ∷ bytes) (sym (comparison_is code op e))))) (λ _.
    gives_choice P' (nat_lt code 0x30) _ _ (λ _. gives_map P' (unary_of code) (λ i. (i, bytes))
    (λ i e. let h = unary_is code i e in (h.0, sym (ap (λ (l : List ℕ). l ++ bytes) h.1))))
    (λ _.
    gives_choice P' (nat_lt code 0x40) _ _ (λ _. jump_says code bytes rest) (λ _.
    gives_choice P' (nat_lt code 0x50) _ _ (λ _. record_says code bytes rest) (λ _.
    gives_choice P' (code == 0x50) _ _ (λ e. ask_says code bytes rest e) (λ _.
    gives_choice P' (code == 0x51) _ _
    (λ e. gives_some P' (instruction.Abort, bytes) (tt, spelled code bytes rest e refl)) (λ _.
    gives_choice P' (code == 0x52) _ _ (λ e. abort_method_says code bytes rest e)
    (λ _. gives_none P')))))))))

-- what is after the instruction is what is after the next place
next_is : (size : ℕ) (place : ℕ) (whole code : List ℕ) (i : Instruction) (rest : List ℕ)
    → whole ≡ drop place code → whole ≡ spelling i ++ rest → drop (length code - length rest) code
    ≡ rest
next_is size place whole code i rest e h =
    let all : code ≡ (take place code ++ spelling i) ++ rest = sym (take-append-drop place code)
    ∙ ap (λ (l : List ℕ). take place code ++ l) (sym e ∙ h)
    ∙ sym (append_assoc (take place code) (spelling i) rest) in
    let n : length (take place code ++ spelling i) ≡ length code - length rest =
    omega (
      arith,
      ap (λ (l : List ℕ). length l) all,
      length-append (take place code ++ spelling i) rest,
    ) in
    ap (λ (l : List ℕ). drop (length code - length rest) l) all
    ∙ drop_at (take place code ++ spelling i) rest (length code - length rest) n

pub stands_spelled : (code : List ℕ) (place : ℕ) (i : Instruction) (next : ℕ) → AreBytes code
    → instruction_at code place ≡ Some (i, next)
    → IsSpelled i × (drop place code ≡ spelling i ++ drop next code)
unfolding instruction_at
stands_spelled code place i next are e =
    gives_map (λ (y : Instruction × ℕ). IsSpelled y.0
    × (drop place code ≡ spelling y.0 ++ drop y.1 code)) (instruction_from (drop place code))
    (λ found. (found.0, length code - length found.1))
    (λ found r. let h = instruction_says (drop place code) (drop_bytes place code are) found r in (
      h.0,
      h.1 ∙ ap (λ (l : List ℕ). spelling found.0 ++ l)
          (sym (next_is 0 place (drop place code) code found.0 found.1 refl h.1)),
    ))
    (i, next) e
