-- Code that gives one record.
use Rattle.std.proofs.Common.{◌≡◌, ℕ, ℤ, pos, refl, sym, ap, subst, ◌∙◌, List, [], ◌∷◌, ◌++◌, length, Option}
use Rattle.std.specs.Option.{option_to_list}
use Rattle.edd_syntax.specs.declared.numbers.StrNo.{StrNo}
use Rattle.edd_syntax.specs.declared.numbers.VarNo.{VarNo}
use Rattle.edd_syntax.specs.declared.numbers.ItemNo.{ItemNo}
use Rattle.edd_syntax.specs.declared.types.ResponseClass.{ResponseClass}
use Rattle.edd_syntax.specs.declared.item.MenuQualifiers.{MenuQualifiers}
use Rattle.edd_syntax.specs.declared.item.DataQualifiers.{DataQualifiers}
use Rattle.edd_syntax.specs.declared.reference.Target.{Target}
use Rattle.edd_syntax.specs.Attributes as source
use Rattle.edd_syntax.specs.Attributes.{menu_bits, data_bits}
use Rattle.edd_syntax.specs.Expression.{Expr}
use Rattle.edd_syntax.specs.Words.{Words}
use Rattle.edd_instructions.specs.declared.records.Record.{Record}
use Rattle.edd_instructions.specs.declared.records.Record.TheVariants as records
use Rattle.edd_instructions.specs.declared.instruction.Instruction.{Instruction}
use Rattle.edd_instructions.specs.declared.instruction.Instruction.TheVariants as instruction
use Rattle.edd_instructions.specs.Spelling.{spelling}
use Rattle.edd_instructions.specs.Agreement.{class_number, mask_number, SameRecord, string_of_table}
use Rattle.edd_code.specs.Blocks.{Block, Nothing, Straight, Then, bytes_at}
use Rattle.edd_code.specs.Expressions.{expression_block}
use Rattle.edd_code.proofs.Closing.{nothing_written, straight_written, then_written}
use Rattle.edd_code.specs.Tables.{GrowsBy, Keeps, KeepsOptional}
use Rattle.edd_attrs.specs.Code.{giving}
use Rattle.edd_code.specs.Written.{WritesBlock}
use Rattle.edd_attrs.specs.Lowered.{LowersTree}
use Rattle.edd_attrs.specs.Records.{strings_of_record}
use Rattle.edd_attrs.specs.Sizes.{strings_of_tree}
use Rattle.edd_attrs.specs.Trees.{Tree}
use Rattle.edd_attrs.specs.TreeBlocks.{IsValueBlock, IsBlockOf, straight_line}
use Rattle.edd_attrs.specs.Writing.{WritesRecord}
use Rattle.edd_code.proofs.Growing.{no_growth, nothing_added, growth, grows_on, both_added, keeps_on, keeps_optional_on}

-- ---- instructions in a line

-- a first block, and another after it
pub both_blocks : (before : List ℕ) {between after : List ℕ} (a b : Block) → between
    ≡ before ++ bytes_at (length before) a → after ≡ between ++ bytes_at (length between) b
    → after ≡ before ++ bytes_at (length before) (Then a b)
both_blocks before a b first second =
    second ∙ ap (λ (code : List ℕ). code ++ bytes_at (length code) b) first
    ∙ then_written before a b

pub line_ends : (before after : List ℕ) (i : Instruction) → after ≡ before ++ spelling i
    → after ≡ before ++ bytes_at (length before) (straight_line (i ∷ []))
line_ends before after i is =
    both_blocks before (Straight i) Nothing (is ∙ straight_written before i) (nothing_written after)

pub line_goes_on : (before between after : List ℕ) (i : Instruction) (is : List Instruction)
    → between ≡ before ++ spelling i
    → after ≡ between ++ bytes_at (length between) (straight_line is)
    → after ≡ before ++ bytes_at (length before) (straight_line (i ∷ is))
line_goes_on before between after i is first rest =
    both_blocks before (Straight i) (straight_line is) (first ∙ straight_written before i) rest

-- ---- nothing

pub no_block : (old : List Words) (before : List ℕ)
    → WritesBlock old before [] (λ numbered b. b ≡ Nothing) old before
no_block old before = record {
  table = nothing_added old;
  block = Nothing;
  written = nothing_written before;
  is = λ later. refl;
}

-- ---- one record

-- a record of one instruction, once its strings are in the table
pub record_written : {old new : List Words} (before : List ℕ) {after : List ℕ} (x : source.Record)
    (r : Record) (i : Instruction) → giving r ≡ i ∷ [] → GrowsBy old (strings_of_record x) new
    → after ≡ before ++ spelling i → ((later : List Words)
    → SameRecord (string_of_table (new ++ later)) x r) → WritesRecord old before x new after
record_written before {after} x r i one table is same = record {
  table = table;
  block = straight_line (i ∷ []);
  written = line_ends before after i is;
  is = λ later. (r, same later, ap straight_line (sym one));
}

pub text_written : (old new : List Words) (before after : List ℕ) (w : Words) (s : StrNo)
    → GrowsBy old (w ∷ []) new → Keeps new w s
    → after ≡ before ++ spelling (instruction.Text s)
    → WritesRecord old before (source.Words w) new after
text_written old new before after w s table keeps is = record_written before (source.Words w)
    (records.Words s) (instruction.Text s) refl table is (λ later. (s, refl, keeps later))

pub ruleset text_steps = (text_written, growth, no_growth)

-- a number is pushed and then given
pub number_written : (table : List Words) (before between after : List ℕ) (n : ℕ)
    → between ≡ before ++ spelling (instruction.Push n)
    → after ≡ between ++ spelling instruction.Number
    → WritesRecord table before (source.Number (pos n)) table after
number_written table before between after n first second = record {
  table = nothing_added table;
  block = straight_line (instruction.Push n ∷ instruction.Number ∷ []);
  written = line_goes_on before between after (instruction.Push n) (instruction.Number ∷ []) first
      (line_ends between after instruction.Number second);
  is = λ later. (records.Number (pos n), refl, refl);
}

-- the value of an expression is left on top and then given
pub value_written : (table : List Words) (before between after : List ℕ) (e : Expr Target)
    → between ≡ before ++ bytes_at (length before) (expression_block e)
    → after ≡ between ++ spelling instruction.Number
    → WritesBlock table before [] (λ numbered b. IsValueBlock e b) table after
value_written table before between after e first second = record {
  table = nothing_added table;
  block = Then (expression_block e) (Straight instruction.Number);
  written = both_blocks before (expression_block e) (Straight instruction.Number) first (second
      ∙ straight_written between instruction.Number);
  is = λ later. refl;
}

pub ruleset value_steps = (value_written, no_growth)

-- ---- records of two or three strings

pub item_written : (table : List Words) (before after : List ℕ) (i : ItemNo) (q : MenuQualifiers)
    → after ≡ before ++ spelling (instruction.Item i (menu_bits q))
    → WritesRecord table before (source.Entry i q) table after
item_written table before after i q is = record_written before (source.Entry i q) (records.Entry i
    (menu_bits q)) (instruction.Item i (menu_bits q)) refl (nothing_added table) is (λ later. refl)

pub constant_written : (table : List Words) (before after : List ℕ) (n : ℕ)
    → after ≡ before ++ spelling (instruction.DataConst n)
    → WritesRecord table before (source.DataConst n) table after
constant_written table before after n is = record_written before (source.DataConst n)
    (records.DataConst n) (instruction.DataConst n) refl (nothing_added table) is (λ later. refl)

pub variable_written : (table : List Words) (before after : List ℕ) (v : VarNo) (mask : Option ℕ)
    (q : DataQualifiers) → after ≡ before
    ++ spelling (instruction.DataVar v (mask_number mask) (data_bits q))
    → WritesRecord table before (source.DataVar v mask q) table after
variable_written table before after v mask q is =
    record_written before (source.DataVar v mask q) (records.DataVar v (mask_number mask)
    (data_bits q)) (instruction.DataVar v (mask_number mask) (data_bits q)) refl
    (nothing_added table) is (λ later. refl)

pub response_written : {old new : List Words} (before : List ℕ) {after : List ℕ} (n : ℕ)
    (c : ResponseClass) {w : Words} (s : StrNo) → GrowsBy old (w ∷ []) new → Keeps new w s
    → after ≡ before ++ spelling (instruction.Response n (class_number c) s)
    → WritesRecord old before (source.Response n c w) new after
response_written {old} {new} before {after} n c {w} s table keeps is =
    record_written before (source.Response n c w) (records.Response n (class_number c) s)
    (instruction.Response n (class_number c) s) refl table is (λ later. (s, refl, keeps later))

pub enumerator_written : {old mid new : List Words} (before : List ℕ) {after : List ℕ} (z : ℤ)
    {w : Words} (o : Option Words) (s : StrNo) (h : Option StrNo) → GrowsBy old (w ∷ []) mid
    → Keeps mid w s → GrowsBy mid (option_to_list o) new → KeepsOptional new o h
    → after ≡ before ++ spelling (instruction.Enumerator z s h)
    → WritesRecord old before (source.Enumerator z w o) new after
enumerator_written {old} {mid} {new} before {after} z {w} o s h first keeps second helps is =
    record_written before (source.Enumerator z w o) (records.Enumerator z s h)
    (instruction.Enumerator z s h) refl (both_added first second) is
    (λ later. (s, h, refl, keeps_on mid new w s keeps (growth second) later, helps later))

pub member_written : {old named labelled new : List Words} (before : List ℕ) {after : List ℕ}
    (i : ItemNo) {w : Words} (o p : Option Words) (s : StrNo) (l h : Option StrNo)
    → GrowsBy old (w ∷ []) named → Keeps named w s → GrowsBy named (option_to_list o) labelled
    → KeepsOptional labelled o l → GrowsBy labelled (option_to_list p) new → KeepsOptional new p h
    → after ≡ before ++ spelling (instruction.Member s i l h)
    → WritesRecord old before (source.Member w i o p) new after
member_written {old} {named} {labelled} {new} before {after} i {w} o p s l h first keeps second
    labels third helps is =
    record_written before (source.Member w i o p) (records.Member s i l h)
    (instruction.Member s i l h) refl (both_added first (both_added second third)) is (λ later. (
      s,
      l,
      h,
      refl,
      keeps_on named new w s keeps
          (grows_on named labelled new (growth second) (growth third)) later,
      keeps_optional_on labelled new o l labels (growth third) later,
      helps later,
    ))

pub array_element_written : {old labelled new : List Words} (before : List ℕ) {after : List ℕ}
    (n : ℕ) (v : VarNo) (o p : Option Words) (l h : Option StrNo) → GrowsBy old (option_to_list o)
    labelled → KeepsOptional labelled o l → GrowsBy labelled (option_to_list p) new
    → KeepsOptional new p h → after ≡ before ++ spelling (instruction.Element n v l h)
    → WritesRecord old before (source.Element n v o p) new after
array_element_written {old} {labelled} {new} before {after} n v o p l h first labels second helps
    is =
    record_written before (source.Element n v o p) (records.Element n v l h)
    (instruction.Element n v l h) refl (both_added first second) is (λ later. (
      l,
      h,
      refl,
      keeps_optional_on labelled new o l labels (growth second) later,
      helps later,
    ))

-- ---- whole units

pub unit_lowered : (tree : Option Tree) {old new table : List Words}
    {before written body code : List ℕ} → before ≡ [] → table ≡ new → body ≡ written → WritesBlock
    old before (strings_of_tree tree) (λ numbered b. IsBlockOf numbered tree b) new written
    → code ≡ body ++ spelling instruction.End → LowersTree old tree table code
unit_lowered tree {old} {table} {code} empty same_table same_body w is =
    subst (λ (t : List Words). LowersTree old tree t code) (sym same_table)
    (record {
      table = w.table;
      block = w.block;
      is_unit = is ∙ ap (λ (bs : List ℕ). bs ++ spelling instruction.End) (same_body ∙ w.written
          ∙ ap (λ (bs : List ℕ). bs ++ bytes_at (length bs) w.block) empty);
      is = w.is;
    })
