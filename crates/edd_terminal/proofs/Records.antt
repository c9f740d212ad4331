-- Names, strings, records and lines of an image are those of the unit that it agrees with.
use Rattle.std.proofs.Common.{◌≡◌, ℕ, List, [], ◌∷◌, ◌++◌, Option, Some, None, Ok, Err, refl, ap, ◌∙◌}
use Rattle.std.specs.Prelude.{option_map, slice_get, unwrap_or}
use Rattle.edd_syntax.specs.declared.numbers.AttrRef.{AttrRef}
use Rattle.edd_syntax.specs.declared.numbers.ItemNo.{ItemNo}
use Rattle.edd_syntax.specs.declared.numbers.ItemNo.TheVariants as items
use Rattle.edd_syntax.specs.declared.numbers.StrNo.{StrNo}
use Rattle.edd_syntax.specs.declared.reference.Target.{Target}
use Rattle.edd_syntax.specs.Text.{Name}
use Rattle.edd_syntax.specs.Words.{Words, Key, Variants, text_for}
use Rattle.edd_syntax.specs.DeviceValues.{VariableType}
use Rattle.edd_syntax.specs.Item.{Description, Item}
use Rattle.edd_syntax.specs.Device.{item_at}
use Rattle.edd_syntax.specs.Attributes as source
use Rattle.edd_syntax.specs.Attributes.{is_of_transaction}
use Rattle.edd_image.specs.Contents.{Contents}
use Rattle.edd_instructions.specs.declared.records.Record.{Record}
use Rattle.edd_instructions.specs.Agreement.{AgreesOnData, IsOptionalString, IsString, SameReading, SameRecord, SameRecords, string_numbered}
use Rattle.edd_instructions.specs.Reading as image
use Rattle.edd_loader.specs.Texts.{given}
use Rattle.edd_display.specs.Records.{record_shown, records_shown}
use Rattle.edd_display.specs.Shown.{after_name, head_line, identification_line, reading_line, reading_shown, row_word, type_shown}
use Rattle.edd_display.specs.Words.{member_shown, name_of, name_shown, optional_shown, string_shown, text_shown}
use Rattle.edd_terminal.specs.Lines.{behind_name, head_shown, identification_shown, meaning_shown, meant_record_shown, meant_records_shown, member_words_shown, name_in, optional_words_shown, row_shown, words_shown}

name_given : (o : Option (Item Target))
    → unwrap_or (option_map (λ x. x.name) o) []
    ≡ elim o as (λ _. List ℕ) [ None ↦ [] | Some i ↦ i.name ]
name_given None = refl
name_given (Some i) = refl

text_given : (code : List ℕ) (w : Words) → text_shown (Some (given w code)) ≡ words_shown code w
unfolding text_for
text_given code (Variants first rest) = refl
text_given code (Key name) = refl

member_given : (code : List ℕ) (w : Words)
    → name_shown (Some (given w code)) ≡ member_words_shown code w
unfolding text_for
member_given code (Variants first rest) = refl
member_given code (Key name) = refl

module _ (unit : Description Target) (c : Contents) (agrees : AgreesOnData unit c) where
  pub name_is : (item : ItemNo) → name_of c item ≡ name_in unit item
  unfolding name_of name_in
  name_is item = ap (λ (o : Option Name). unwrap_or o []) (agrees.names item)
      ∙ name_given (item_at unit item)

  module _ (code : List ℕ) where
    pub string_is : (w : Words) (n : StrNo) → IsString (string_numbered c) w n
        → string_shown c code n ≡ words_shown code w
    unfolding string_shown
    string_is w n is =
        ap (λ (o : Option Words). text_shown (option_map (λ x. given x code) o)) is
        ∙ text_given code w

    member_is : (w : Words) (n : StrNo) → IsString (string_numbered c) w n
        → member_shown c code n ≡ member_words_shown code w
    unfolding member_shown
    member_is w n is =
        ap (λ (o : Option Words). name_shown (option_map (λ x. given x code) o)) is
        ∙ member_given code w

    optional_is : (w : Option Words) (n : Option StrNo)
        → IsOptionalString (string_numbered c) w n
        → optional_shown c code n ≡ optional_words_shown code w
    optional_is None None is = refl
    optional_is None (Some n) is = absurd is
    optional_is (Some w) None is = absurd is
    optional_is (Some w) (Some n) is = ap (λ (xs : List ℕ). 32 ∷ xs) (string_is w n is)

    record_is : (x : source.Record) (r : Record) → SameRecord (string_numbered c) x r
        → record_shown c code r ≡ meant_record_shown unit code x
    unfolding record_shown meant_record_shown
    record_is (source.Words w) r same =
        ap (record_shown c code) same.1 ∙ string_is w same.0 same.2
    record_is (source.Number z) r same = ap (record_shown c code) same
    record_is (source.Entry item quals) r same =
        ap (record_shown c code) same ∙ rw (name_is item) refl
    record_is (source.DataConst n) r same = ap (record_shown c code) same
    record_is (source.DataVar var mask quals) r same =
        ap (record_shown c code) same ∙ rw (name_is (items.Variable var)) refl
    record_is (source.Enumerator value text help) r same =
        ap (record_shown c code) same.2
        ∙ rw (string_is text same.0 same.3, optional_is help same.1 same.4) refl
    record_is (source.Response number class text) r same =
        ap (record_shown c code) same.1 ∙ rw (string_is text same.0 same.2) refl
    record_is (source.Member name item label help) r same =
        ap (record_shown c code) same.3
        ∙ rw (
          member_is name same.0 same.4,
          name_is item,
          optional_is label same.1 same.5,
          optional_is help same.2 same.6,
        ) refl
    record_is (source.Element number var label help) r same =
        ap (record_shown c code) same.2
        ∙ rw (
          name_is (items.Variable var),
          optional_is label same.0 same.3,
          optional_is help same.1 same.4,
        ) refl

    records_are : (xs : List source.Record) (rs : List Record)
        → SameRecords (string_numbered c) xs rs
        → records_shown c code rs ≡ meant_records_shown unit code xs
    records_are [] [] same = refl
    records_are [] (r ∷ rs) same = absurd same
    records_are (x ∷ xs) [] same = absurd same
    records_are (x ∷ xs) (r ∷ rs) same =
        ap (λ (line : List ℕ). 32 ∷ line ++ records_shown c code rs) (record_is x r same.0)
        ∙ ap (λ (more : List ℕ). 32 ∷ meant_record_shown unit code x ++ more)
        (records_are xs rs same.1)

    -- the line of records
    records_line : (ref : AttrRef) (xs : List source.Record) (rs : List Record)
        → SameRecords (string_numbered c) xs rs
        → reading_line c code ref (image.Records rs)
        ≡ row_shown unit code ref (source.Gives (Ok xs))
    unfolding reading_line row_shown reading_shown meaning_shown
    records_line ref [] [] same = refl
    records_line ref [] (r ∷ rs) same = absurd same
    records_line ref (x ∷ xs) [] same = absurd same
    records_line ref (x ∷ xs) (r ∷ rs) same =
        ap (λ (shown : List ℕ). row_word ref ++ shown ++ 10 ∷ [])
        (records_are (x ∷ xs) (r ∷ rs) same)

    -- the line of what is read of an attribute
    pub reading_is : (ref : AttrRef) (x : source.Reading) (r : image.Reading)
        → SameReading (string_numbered c) x r
        → reading_line c code ref r ≡ row_shown unit code ref x
    unfolding reading_line row_shown reading_shown meaning_shown
    reading_is ref source.NoItem r same = ap (reading_line c code ref) same
    reading_is ref (source.Gives (Ok xs)) r same =
        ap (reading_line c code ref) same.1 ∙ records_line ref xs same.0 same.2
    reading_is ref (source.Gives (Err why)) r same = ap (reading_line c code ref) same

  -- the first line of an item
  behind_is : (item : ItemNo) → after_name c item ≡ behind_name unit item
  behind_is (items.Variable n) =
      ap (λ (types : List VariableType). type_shown (slice_get types n.0)) agrees.types
  behind_is _ = refl

  pub head_is : (item : ItemNo) → head_line c item ≡ head_shown unit item
  unfolding head_line head_shown
  head_is item = rw (name_is item, behind_is item) refl

  pub identification_is : identification_line c.counts ≡ identification_shown unit.identification
  unfolding identification_line identification_shown
  identification_is = ap identification_shown agrees.identification
