-- Parts of code that are blocks, with the strings of texts by number.
use Rattle.std.proofs.Common.{◌≡◌, refl, sym, ap, subst, ◌∙◌, ℕ, ◌+◌, List, [], ◌∷◌, ◌++◌, length, arith, ◌<◌, ◌≤◌, map, append_assoc, length-append}
use Rattle.std.proofs.lemmas.List.{append-nil}
use Rattle.edd_syntax.specs.declared.numbers.StrNo.{StrNo}
use Rattle.edd_syntax.specs.declared.reference.Target.{Target}
use Rattle.edd_syntax.specs.declared.operators.Builtin.{Builtin}
use Rattle.edd_syntax.specs.Expression.{Expr, Call, Argument, Arguments, arguments_from}
use Rattle.edd_syntax.specs.Strings.{argument_texts, expr_texts, strings_of_texts}
use Rattle.edd_syntax.specs.Text as texts
use Rattle.edd_syntax.specs.Words.{Words}
use Rattle.edd_instructions.specs.declared.instruction.Ask.{Ask}
use Rattle.edd_instructions.specs.declared.instruction.Instruction.{Instruction}
use Rattle.edd_instructions.specs.declared.instruction.Instruction.TheVariants as instruction
use Rattle.edd_instructions.specs.Spelling.{spelling}
use Rattle.edd_code.specs.Arguments.{alone_block}
use Rattle.edd_code.specs.Expressions.{no_value}
use Rattle.edd_code.specs.Blocks.{Block, Straight, Then, WhenNotZero, WhenZero, Either, bytes_at}
use Rattle.edd_code.specs.Closing.{closed}
use Rattle.edd_code.specs.MethodExpressions.{call_block, method_block}
use Rattle.edd_code.specs.Tables.{GrowsBy, Keeps, Overflows, number_in}
use Rattle.edd_code.specs.Written.{ByNumber, HoldsTexts, WritesPart}
use Rattle.edd_code.proofs.Closing.{when_not_zero_closed, when_zero_closed, either_closed}
use Rattle.edd_code.proofs.Growing.{no_growth}
use Rattle.edd_code.proofs.Numbered.{parts_written, part_written, plain_written, strings_listed, texts_listed, texts_overflow_first, texts_overflow_second}
use Rattle.edd_code.proofs.Numbers.{number_is}
use Rattle.edd_code.proofs.Writing.{goes_on, one_more}

-- a block by the numbers of strings
abbrev pub Numbered : Type 0
Numbered = (Words → StrNo) → Block

-- ---- no string

pub plain_part : (table : List Words) (before after : List ℕ) (b : Block)
    → after ≡ before ++ bytes_at (length before) b
    → WritesPart table before [] (λ number. b) table after
plain_part table before after b is = plain_written table before after (bytes_at (length before) b)
    (λ number place. bytes_at place b) is (λ number. refl)

pub ruleset writing = (no_growth, plain_part, one_more, texts_overflow_first, texts_overflow_second)

-- ---- one part, with blocks round it that name no string

module _ {old new : List Words} where
  pub then_plain : (before between : List ℕ) {after : List ℕ} (ts : List texts.Text) (a : Numbered)
      (b : Block) → WritesPart old before ts a new between → after ≡ between ++ bytes_at
      (length between) b → WritesPart old before ts (λ number. Then (a number) b) new after
  then_plain before between {after} ts a b w is =
      part_written w (λ number one. goes_on before between after (a number) b one is)

  pub plain_then : (before : List ℕ) {between : List ℕ} (after : List ℕ) (ts : List texts.Text)
      (a : Block) (b : Numbered) → between ≡ before ++ bytes_at (length before) a → WritesPart old
      between ts b new after → WritesPart old before ts (λ number. Then a (b number)) new after
  plain_then before {between} after ts a b is w =
      part_written w (λ number one. goes_on before between after a (b number) is one)

  pub when_not_zero_part : (before : List ℕ) {c1 : List ℕ} (c2 : List ℕ) {after : List ℕ} {hole : ℕ}
      (ts : List texts.Text) (body : Numbered) → c1 ≡ before ++ spelling (instruction.JumpIfZero 0)
      → hole ≡ length before + 1 → WritesPart old c1 ts body new c2 → after ≡ closed c2 hole
      → WritesPart old before ts (λ number. WhenNotZero (body number)) new after
  when_not_zero_part before {c1} c2 ts body opened at w is =
      part_written w (λ number one. is ∙ ap (closed c2) at
      ∙ when_not_zero_closed before (body number) opened one)

  pub when_zero_part : (before : List ℕ) {c1 : List ℕ} (c2 : List ℕ) {after : List ℕ} {hole : ℕ}
      (ts : List texts.Text) (body : Numbered)
      → c1 ≡ before ++ spelling (instruction.JumpIfNotZero 0) → hole ≡ length before + 1
      → WritesPart old c1 ts body new c2 → after ≡ closed c2 hole
      → WritesPart old before ts (λ number. WhenZero (body number)) new after
  when_zero_part before {c1} c2 ts body opened at w is =
      part_written w (λ number one. is ∙ ap (closed c2) at
      ∙ when_zero_closed before (body number) opened one)

  pub same_part : (before after : List ℕ) (ts : List texts.Text) (a b : Numbered)
      → ((number : Words → StrNo) → a number ≡ b number) → WritesPart old before ts a new after
      → WritesPart old before ts b new after
  same_part before after ts a b same w =
      part_written w (λ number one. one ∙ ap (λ (x : Block). before ++ bytes_at (length before) x)
      (same number))

  -- nothing comes after the last texts
  pub last_part : (before after : List ℕ) (ts : List texts.Text) (b : Numbered)
      → WritesPart old before ts b new after → WritesPart old before (ts ++ []) b new after
  last_part before after ts b w =
      subst (λ (us : List texts.Text). WritesPart old before us b new after) (sym (append-nil ts)) w

  -- texts that no code names
  pub held_part : (before after : List ℕ) (ts : List texts.Text) (b : Block) → HoldsTexts old ts new
      → after ≡ before ++ bytes_at (length before) b
      → WritesPart old before ts (λ number. b) new after
  held_part before after ts b w is = part_written w (λ number one. is)

pub last_overflows : {old : List Words} (ts : List texts.Text) → Overflows old (strings_of_texts ts)
    → Overflows old (strings_of_texts (ts ++ []))
last_overflows {old} ts over =
    subst (λ (us : List texts.Text). Overflows old (strings_of_texts us)) (sym (append-nil ts)) over

-- ---- two parts

module _ {old mid new : List Words} where
  pub then_part : (before between after : List ℕ) (ts us : List texts.Text) (a b : Numbered)
      → WritesPart old before ts a mid between → WritesPart mid between us b new after
      → WritesPart old before (ts ++ us) (λ number. Then (a number) (b number)) new after
  then_part before between after ts us a b v w = strings_listed (texts_listed ts us)
      (parts_written v w (λ number one two. goes_on before between after (a number) (b number) one
      two))

  pub either_part : (before : List ℕ) {c1 : List ℕ} (c2 : List ℕ) {c3 c4 : List ℕ} (c5 : List ℕ)
      {after : List ℕ} {hole end : ℕ} (ts us : List texts.Text) (first otherwise : Numbered)
      → c1 ≡ before ++ spelling (instruction.JumpIfZero 0) → hole ≡ length before + 1
      → WritesPart old c1 ts first mid c2 → c3 ≡ c2 ++ spelling (instruction.Jump 0)
      → end ≡ length c2 + 1 → c4 ≡ closed c3 hole → WritesPart mid c4 us otherwise new c5
      → after ≡ closed c5 end → WritesPart old before (ts
      ++ us) (λ number. Either (first number) (otherwise number)) new after
  either_part before {c1} c2 {c3} {c4} c5 ts us first otherwise one at v three behind four w is =
      strings_listed (texts_listed ts us) (parts_written v w (λ number two five.
      is ∙ ap (closed c5) behind ∙ either_closed before c1 c2 c3 c4 c5 (first number)
      (otherwise number) one two three (four ∙ ap (closed c3) at) five))

-- ---- what depends on the numbers of strings

-- what is known by the numbers of a table is known by those of one that begins with it
pub known_on : {A : Type 0} (old : List Words) {mid new strings : List Words} (of : (Words → StrNo) → A) (x : A)
    → ByNumber old mid of x → GrowsBy mid strings new → ByNumber old new of x
known_on {A} old {mid} {new} of x known table d later =
    known d (table.more ++ later)
    ∙ ap (λ (t : List Words). of (number_in t)) (sym (append_assoc mid table.more later)
    ∙ ap (λ (t : List Words). t ++ later) (sym table.grown))

-- a part, and a request that names what depends on the numbers of strings
pub ask_part : {old new : List Words} (before between : List ℕ) {after : List ℕ}
    (ts : List texts.Text) (a : Numbered) (of : (Words → StrNo) → Ask) (x : Ask)
    → WritesPart old before ts a new between → ByNumber old new of x
    → after ≡ between ++ spelling (instruction.Ask x) → WritesPart old before ts
    (λ number. Then (a number) (Straight (instruction.Ask (of number)))) new after
ask_part {new = new} before between {after} ts a of x w known is = record {
  table = w.table;
  holds = w.holds;
  written = λ d later.
      let number = number_in (new ++ later) in
      goes_on before between after (a number) (Straight (instruction.Ask (of number)))
      (w.written d later)
      (one_more between after (instruction.Ask (of number))
      (is ∙ ap (λ (y : Ask). between ++ spelling (instruction.Ask y)) (known d later)));
}

-- the number of a text
pub text_known : (old new : List Words) {w : Words} (n : StrNo) → GrowsBy old (w ∷ []) new
    → Keeps new w n → ByNumber old new (λ number. (number w).0 ∷ []) (n.0 ∷ [])
text_known old new {w} n table keeps d later =
    ap (λ (k : StrNo). k.0 ∷ []) (sym (number_is new later w n (table.different d) keeps))

-- ---- calls without arguments

module _ {X : Type 0} (view : X → Argument Target) (i : Instruction) where
  pub alone_part : (xs : List X) (table : List Words) (before : List ℕ) {after : List ℕ}
      → length xs < 1 → after ≡ before ++ spelling i
      → WritesPart table before (argument_texts (arguments_from (map view xs)))
      (λ number. alone_block i (arguments_from (map view xs))) table after
  alone_part [] table before {after} h is =
      plain_part table before after (Straight i) (one_more before after i is)
  alone_part (x ∷ xs) table before h is = absurd (omega arith)

  pub not_alone : (xs : List X) → 1 ≤ length xs
      → no_value ≡ alone_block i (arguments_from (map view xs))
  not_alone [] h = absurd (omega arith)
  not_alone (x ∷ xs) h = refl

-- ---- the same expression, and the same function

pub expression_part : {old new : List Words} {before after : List ℕ} (x y : Expr Target) → x ≡ y
    → WritesPart old before (expr_texts y) (λ number. method_block number y) new after
    → WritesPart old before (expr_texts x) (λ number. method_block number x) new after
expression_part {old} {new} {before} {after} x y is w =
    subst (λ (z : Expr Target). WritesPart old before (expr_texts z)
    (λ number. method_block number z) new after) (sym is) w

pub call_part : {old new : List Words} {before after : List ℕ} (function g : Target)
    (a : Arguments Target) → function ≡ g
    → WritesPart old before (argument_texts a) (λ number. method_block number (Call g a)) new after
    → WritesPart old before (argument_texts a) (λ number. method_block number (Call function a)) new
    after
call_part {old} {new} {before} {after} function g a is w =
    subst (λ (f : Target). WritesPart old before (argument_texts a)
    (λ number. method_block number (Call f a)) new after) (sym is) w

pub builtin_part : {old new : List Words} {before after : List ℕ} (f g : Builtin)
    (a : Arguments Target) → f ≡ g
    → WritesPart old before (argument_texts a) (λ number. call_block number g a) new after
    → WritesPart old before (argument_texts a) (λ number. call_block number f a) new after
builtin_part {old} {new} {before} {after} f g a is w =
    subst (λ (h : Builtin). WritesPart old before (argument_texts a)
    (λ number. call_block number h a) new after) (sym is) w

-- ---- lengths

pub longer_by : (before : List ℕ) {after : List ℕ} (bytes : List ℕ) → after ≡ before ++ bytes
    → length before ≤ length after
longer_by before bytes is = omega (arith, ap length is, length-append before bytes)

-- the four bytes after the first of an opening lie inside what is longer
pub opened_inside : (before : List ℕ) {c1 : List ℕ} (c2 opening : List ℕ) {hole : ℕ}
    → c1 ≡ before ++ opening → length opening ≡ 5 → hole ≡ length before + 1 → length c1 ≤ length c2
    → hole + 4 ≤ length c2
opened_inside before c2 opening one five at longer =
    omega (arith, at, longer, five, ap length one ∙ length-append before opening)
