-- What was spelled is read again, whatever follows it.
use Rattle.std.proofs.Common.{◌≡◌, ℕ, ◌+◌, ◌-◌, ◌<◌, ◌^◌, false, eqb, ℤ, List, ◌∷◌, ◌++◌, length, Option, Some, None, refl, ap, ◌∙◌, append_assoc, arith, of_z, FitsSigned}
use Rattle.std.specs.Int.{Width, w64, byte_len, from_be_bytes, to_be_bytes, cast_unsigned, cast_signed}
use Rattle.std.proofs.lemmas.Bool.{lt-ltb, ne_eqb}
use Rattle.std.proofs.lemmas.Int.{ints, to_z-of_z}
use Rattle.std.proofs.lemmas.List.{take_at, drop_at, length-append}
use Rattle.std.proofs.lemmas.Nat.{from_be_bytes-to_be_bytes_8}
use Rattle.edd_syntax.specs.declared.numbers.StrNo.{StrNo}
use Rattle.edd_syntax.specs.declared.numbers.ItemNo.{ItemNo}
use Rattle.edd_syntax.specs.declared.numbers.ItemNo.TheVariants as items
use Rattle.edd_syntax.specs.declared.operators.Operator.{Operator}
use Rattle.edd_syntax.specs.declared.operators.Operator.TheVariants as operator
use Rattle.edd_syntax.specs.declared.operators.Comparison.{Comparison}
use Rattle.edd_syntax.specs.declared.operators.Comparison.TheVariants as comparison
use Rattle.edd_instructions.specs.declared.instruction.Ask.{Ask}
use Rattle.edd_syntax.proofs.KnownByNumber.{request_again}
use Rattle.edd_instructions.specs.declared.instruction.Instruction.{Instruction}
use Rattle.edd_instructions.specs.declared.instruction.Instruction.TheVariants as instruction
use Rattle.edd_image.specs.Layout.{u16, u32}
use Rattle.edd_image.specs.Front.{byte_from}
use Rattle.edd_instructions.specs.Decoding.{signed_from, optional_string, item_from, basic_from, operator_of, comparison_of, unary_of, jump_from, entry_from, data_from, enumerator_from, response_from, member_from, element_from, record_from, ask_of, ask_from, abort_method_from, instruction_from, instruction_at}
use Rattle.edd_image.proofs.FrontRead.{enough, u16_again, u32_again}
use Rattle.edd_instructions.specs.Spelling.{i64, item_bytes, optional_number, optional_bytes, operator_code, comparison_code, ask_bytes, spelling, IsOptional, IsAsk, IsListed, IsSpelled}

signed_again : (w : Width) (n : ℕ) (rest : List ℕ) → length (to_be_bytes w n) ≡ byte_len w
    → from_be_bytes w (to_be_bytes w n) ≡ n → signed_from w (to_be_bytes w n ++ rest)
    ≡ Some (cast_signed w n, rest)
unfolding signed_from
signed_again w n rest len same =
    rw (
      enough w n rest len,
      take_at (to_be_bytes w n) rest (byte_len w) len,
      drop_at (to_be_bytes w n) rest (byte_len w) len,
      same,
    ) refl

below_64 : (z : ℤ) → FitsSigned w64 z → of_z w64 z < 2 ^ 64
below_64 z fits = omega (arith, ints)

i64_again : (z : ℤ) (rest : List ℕ) → FitsSigned w64 z → signed_from w64 (i64 z ++ rest)
    ≡ Some (z, rest)
i64_again z rest fits = signed_again w64 (cast_unsigned w64 z) rest refl
    (from_be_bytes-to_be_bytes_8 (cast_unsigned w64 z) (below_64 z fits))
    ∙ ap (λ (x : ℤ). Some (x, rest)) (to_z-of_z w64 z fits)

optional_below : (o : Option StrNo) → IsOptional o → optional_number o < 2 ^ 16
optional_below None h = omega arith
optional_below (Some s) h = omega (arith, h)

optional_is : (o : Option StrNo) → IsOptional o → optional_string (optional_number o) ≡ o
optional_is None h = refl
optional_is (Some s) h =
    let ne : eqb s.0 0xffff ≡ false = ne_eqb s.0 0xffff (λ e. omega (arith, e, h)) in
    rw ne refl

item_again : (item : ItemNo) (rest : List ℕ) → IsListed item
    → item_from (item_bytes item ++ rest) ≡ Some (item, rest)
unfolding item_from byte_from
item_again (items.Variable n) rest h = rw (u16_again n.0 rest h) refl
item_again (items.Command n) rest h = rw (u16_again n.0 rest h) refl
item_again (items.Menu n) rest h = rw (u16_again n.0 rest h) refl
item_again (items.Collection n) rest h = rw (u16_again n.0 rest h) refl
item_again (items.Method n) rest h = rw (u16_again n.0 rest h) refl
item_again (items.Array n) rest h = absurd h

entry_again : (item : ItemNo) (quals : ℕ) (rest : List ℕ) → IsListed item → quals < 16
    → entry_from (item_bytes item ++ (u16 quals ++ rest)) ≡ Some (instruction.Item item quals, rest)
unfolding entry_from
entry_again item quals rest h lt =
    rw (
      item_again item (u16 quals ++ rest) h,
      u16_again quals rest (omega (arith, lt)),
      lt-ltb quals 16 lt,
    ) refl

ask_again : (a : Ask) (rest : List ℕ) → IsAsk a → ask_from (ask_bytes a ++ rest)
    ≡ Some (instruction.Ask a, rest)
unfolding ask_from byte_from ask_of
ask_again a rest h =
    rw (
      u16_again a.first (u16 a.second ++ rest) h.0,
      u16_again a.second rest h.1,
      request_again a.kind,
      h.2,
    ) refl

operator_again : (op : Operator) (rest : List ℕ) → instruction_from (operator_code op ∷ rest)
    ≡ Some (instruction.Operate op, rest)
unfolding instruction_from operator_of
operator_again operator.Add rest = refl
operator_again _ rest = refl

comparison_again : (op : Comparison) (rest : List ℕ) → instruction_from (comparison_code op ∷ rest)
    ≡ Some (instruction.Compare op, rest)
unfolding instruction_from comparison_of
comparison_again comparison.Equal rest = refl
comparison_again _ rest = refl

-- an instruction that was spelled is read again, whatever follows it
pub instruction_again : (i : Instruction) (rest : List ℕ) → IsSpelled i
    → instruction_from (spelling i ++ rest) ≡ Some (i, rest)
unfolding instruction_from basic_from unary_of jump_from record_from data_from enumerator_from
    response_from member_from element_from abort_method_from byte_from
instruction_again (instruction.Push n) rest h = rw (u32_again n rest h) refl
instruction_again (instruction.Variable v) rest h = rw (u16_again v.0 rest h) refl
instruction_again (instruction.Store v) rest h = rw (u16_again v.0 rest h) refl
instruction_again (instruction.GetLocal slot) rest h = rw (u16_again slot rest h) refl
instruction_again (instruction.SetLocal slot) rest h = rw (u16_again slot rest h) refl
instruction_again (instruction.ReadElement a) rest h = rw (u16_again a.0 rest h) refl
instruction_again (instruction.Operate op) rest h = operator_again op rest
instruction_again (instruction.Compare op) rest h = comparison_again op rest
instruction_again (instruction.Jump to) rest h = rw (u32_again to rest h) refl
instruction_again (instruction.JumpIfZero to) rest h = rw (u32_again to rest h) refl
instruction_again (instruction.JumpIfNotZero to) rest h = rw (u32_again to rest h) refl
instruction_again (instruction.Case label to) rest h =
    rw (i64_again label (u32 to ++ rest) h.0, u32_again to rest h.1) refl
instruction_again (instruction.Text s) rest h = rw (u16_again s.0 rest h) refl
instruction_again (instruction.Item item quals) rest h =
    ap entry_from (append_assoc (item_bytes item) (u16 quals) rest) ∙ entry_again item quals rest
    h.0 h.1
instruction_again (instruction.DataVar v mask quals) rest h =
    rw (
      u16_again v.0 (u32 mask ++ (quals ∷ rest)) h.0,
      u32_again mask (quals ∷ rest) h.1,
      lt-ltb quals 4 h.2,
    ) refl
instruction_again (instruction.Enumerator n text help) rest h =
    rw (
      i64_again n (u16 text.0 ++ (optional_bytes help ++ rest)) h.0,
      u16_again text.0 (optional_bytes help ++ rest) h.1,
      u16_again (optional_number help) rest
          (optional_below help h.2),
      optional_is help h.2,
    ) refl
instruction_again (instruction.Response n class text) rest h =
    rw (
      u32_again n (class ∷ (u16 text.0 ++ rest)) h.0,
      u16_again text.0 rest h.2,
      lt-ltb class 7 h.1,
    ) refl
instruction_again (instruction.Member name item label help) rest h =
    let others = optional_bytes label ++ optional_bytes help in
    rw (
      append_assoc (item_bytes item) others rest,
      u16_again name.0 (item_bytes item ++ (others ++ rest)) h.0,
      item_again item (others ++ rest)
          h.1,
      u16_again (optional_number label) (optional_bytes help ++ rest)
          (optional_below label h.2),
      u16_again (optional_number help) rest (optional_below help h.3),
      optional_is label h.2,
      optional_is help h.3,
    ) refl
instruction_again (instruction.Element n v label help) rest h =
    rw (
      u32_again n (u16 v.0 ++ (optional_bytes label ++ (optional_bytes help ++ rest))) h.0,
      u16_again v.0 (optional_bytes label ++ (optional_bytes help ++ rest)) h.1,
      u16_again (optional_number label) (optional_bytes help ++ rest)
          (optional_below label h.2),
      u16_again (optional_number help) rest (optional_below help h.3),
      optional_is label h.2,
      optional_is help h.3,
    ) refl
instruction_again (instruction.Ask request) rest h = ask_again request rest h
instruction_again (instruction.AddAbortMethod m) rest h = rw (u16_again m.0 rest h) refl
instruction_again _ rest h = refl

pub stands_where_spelled : (before after : List ℕ) (i : Instruction) → IsSpelled i
    → instruction_at (before ++ (spelling i ++ after)) (length before)
    ≡ Some (i, length before + length (spelling i))
unfolding instruction_at
stands_where_spelled before after i h =
    let size : length (before ++ (spelling i ++ after)) - length after ≡ length before
    + length (spelling i) = omega (
      arith,
      length-append before (spelling i ++ after),
      length-append (spelling i) after,
    ) in
    rw (drop_at before (spelling i ++ after) (length before) refl, instruction_again i after h)
    (ap (λ (n : ℕ). Some (i, n)) size)
