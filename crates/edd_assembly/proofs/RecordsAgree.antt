-- Strings by their numbers are those of the description, and records with them.
use Rattle.std.proofs.Common.{◌≡◌, refl, sym, ap, ◌∙◌, subst, ℕ, zero, suc, ◌<◌, ◌^◌, true, List, [], ◌∷◌, length, map, Option, Some, None}
use Rattle.std.specs.Prelude.{slice_get, option_map, Result, Ok, Err}
use Rattle.std.specs.List.{AllByRecursion, flat_map, list_all}
use Rattle.std.proofs.lemmas.Option.{none-some, same_Some, slice_get-map}
use Rattle.edd_syntax.specs.declared.answer.Trap.{Trap}
use Rattle.edd_syntax.specs.declared.numbers.StrNo.{StrNo}
use Rattle.edd_syntax.specs.declared.numbers.Attr.{Attr}
use Rattle.edd_syntax.specs.declared.numbers.Attr.TheVariants as attr
use Rattle.edd_syntax.specs.Words.{Words}
use Rattle.edd_syntax.specs.AttributeValue.{Trapping, ◌>>=◌}
use Rattle.edd_syntax.specs.Attributes as source
use Rattle.edd_syntax.specs.Attributes.{or_default}
use Rattle.edd_syntax.proofs.EveryAttribute.{every_attr}
use Rattle.edd_instructions.specs.declared.records.Record.{Record}
use Rattle.edd_image.specs.Contents.{Span, part, fields_of_string}
use Rattle.edd_image.specs.Front as front
use Rattle.edd_image.specs.Strings.{string_bytes, string_in, is_words}
use Rattle.edd_instructions.specs.Reading.{default_records, reading_of}
use Rattle.edd_instructions.specs.Agreement.{IsOptionalString, SameRecord, SameRecords, SameRun, SameReading, string_of_table}
use Rattle.edd_assembly.specs.Assembly.{string_rows}
use Rattle.edd_assembly.proofs.Cutting.{strings_cut}
use Rattle.edd_assembly.proofs.SoundStrings.{IsReadAgain, strings_again}

-- ---- a string by its number

read_again : (ws : List Words) (n : ℕ) (w : Words) → AllByRecursion IsReadAgain ws
    → slice_get ws n ≡ Some w → string_in (string_bytes w) ≡ Some w
read_again [] n w all h = absurd (none-some w h)
read_again (x ∷ ws) zero w all h = subst IsReadAgain (same_Some x w h) all.0
read_again (x ∷ ws) (suc n) w all h = read_again ws n w all.1 h

then_read : (bytes : List ℕ) (o : Option Span)
    → front.◌>>=◌ o (λ span. string_in (part span bytes))
    ≡ front.◌>>=◌ (option_map (λ span. part span bytes) o) string_in
then_read bytes None = refl
then_read bytes (Some span) = refl

-- where the table has no string, the rows have none
pub string_missing : (ws : List Words) (n : StrNo) → string_of_table ws n ≡ None
    → slice_get (map fields_of_string (string_rows 0 ws)) n.0 ≡ None
string_missing ws n h =
    none_of (λ span. part span (flat_map string_bytes ws))
    (slice_get (map fields_of_string (string_rows 0 ws)) n.0)
    (sym (slice_get-map (λ span. part span (flat_map string_bytes ws))
    (map fields_of_string (string_rows 0 ws)) n.0)
    ∙ ap (λ bs. slice_get bs n.0) (strings_cut ws)
    ∙ slice_get-map string_bytes ws n.0
    ∙ ap (option_map string_bytes) h)
  where
    none_of : {A B : Type 0} (f : A → B) (o : Option A) → option_map f o ≡ None → o ≡ None
    none_of f None e = refl
    none_of f (Some x) e = absurd (cc e)

pub string_read : (ws : List Words) → list_all is_words ws ≡ true
    → length (flat_map string_bytes ws) < 2 ^ 32 → (n : StrNo) (w : Words)
    → string_of_table ws n ≡ Some w
    → front.◌>>=◌ (slice_get (map fields_of_string (string_rows 0 ws)) n.0)
    (λ span. string_in (part span (flat_map string_bytes ws))) ≡ Some w
string_read ws valid few n w h =
    then_read (flat_map string_bytes ws) (slice_get (map fields_of_string (string_rows 0 ws)) n.0)
    ∙ ap (λ o. front.◌>>=◌ o string_in)
    (sym (slice_get-map (λ span. part span (flat_map string_bytes ws))
    (map fields_of_string (string_rows 0 ws)) n.0)
    ∙ ap (λ bs. slice_get bs n.0) (strings_cut ws)
    ∙ slice_get-map string_bytes ws n.0
    ∙ ap (option_map string_bytes) h)
    ∙ read_again ws n.0 w (strings_again ws valid few) h

-- ---- records, whose strings another function of numbers gives too

module _ (f g : StrNo → Option Words) (kept : (n : StrNo) (w : Words) → f n ≡ Some w → g n ≡ Some w)
  where
    optional_kept : (w : Option Words) (n : Option StrNo) → IsOptionalString f w n
        → IsOptionalString g w n
    optional_kept None None h = h
    optional_kept None (Some n) h = h
    optional_kept (Some w) None h = h
    optional_kept (Some w) (Some n) h = kept n w h

    record_kept : (x : source.Record) (r : Record) → SameRecord f x r → SameRecord g x r
    record_kept (source.Words w) r h = (h.0, h.1, kept h.0 w h.2)
    record_kept (source.Enumerator value text help) r h =
        (h.0, h.1, h.2, kept h.0 text h.3, optional_kept help h.1 h.4)
    record_kept (source.Response number class text) r h = (h.0, h.1, kept h.0 text h.2)
    record_kept (source.Member name item label help) r h = (
      h.0,
      h.1,
      h.2,
      h.3,
      kept h.0 name h.4,
      optional_kept label h.1 h.5,
      optional_kept help h.2 h.6,
    )
    record_kept (source.Element number var label help) r h =
        (h.0, h.1, h.2, optional_kept label h.0 h.3, optional_kept help h.1 h.4)
    record_kept _ r h = h

    records_kept : (xs : List source.Record) (rs : List Record) → SameRecords f xs rs
        → SameRecords g xs rs
    records_kept [] [] h = h
    records_kept [] (r ∷ rs) h = h
    records_kept (x ∷ xs) [] h = h
    records_kept (x ∷ xs) (r ∷ rs) h = (record_kept x r h.0, records_kept xs rs h.1)

    -- ---- a reading, which has the default where nothing is given

    pub default_same : (a : Attr) → SameRecords g (or_default a []) (default_records a)
    default_same attr.Handling = (refl, record {})
    default_same attr.Validity = (refl, record {})
    default_same a = record {}

    no_default : (a : Attr) (x : source.Record) (xs : List source.Record) → or_default a (x ∷ xs)
        ≡ x
        ∷ xs
    no_default a x xs = every_attr (λ b. or_default b (x ∷ xs)) (λ b. x ∷ xs) refl a

    records_agree : (a : Attr) (xs : List source.Record) {given : Result (List Record) Trap}
        (rs : List Record) → given ≡ Ok rs → SameRecords f xs rs
        → SameReading g (source.Gives (Ok (or_default a xs))) (reading_of a given)
    records_agree a [] [] is same = (default_records a, ap (reading_of a) is, default_same a)
    records_agree a [] (r ∷ rs) is same = absurd same
    records_agree a (x ∷ xs) [] is same = absurd same
    records_agree a (x ∷ xs) (r ∷ rs) is same = (
      r ∷ rs,
      ap (reading_of a) is,
      subst (λ ys. SameRecords g ys (r ∷ rs))
          (sym (no_default a x xs)) (records_kept (x ∷ xs) (r ∷ rs) same),
    )

    pub reading_agrees : (a : Attr) (meant : Trapping (List source.Record))
        (given : Result (List Record) Trap) → SameRun f meant given
        → SameReading g (source.Gives (meant >>= λ rs. Ok (or_default a rs))) (reading_of a given)
    reading_agrees a (Ok xs) given run = records_agree a xs run.0 run.1 run.2
    reading_agrees a (Err why) given run = ap (reading_of a) run
