-- What one turn of a loop over rows does to a test of the rows from there on.
use Rattle.std.proofs.Common.{◌≡◌, ℕ, suc, ◌+◌, ◌-◌, ◌*◌, ◌<◌, ◌≤◌, Bool, true, false, ◌&&◌, nat_eq, List, [], ◌∷◌, map, refl, sym, ap, ◌∙◌, arith, add-one, mul-suc}
use Rattle.std.specs.List.{list_all}
use Rattle.std.proofs.lemmas.Bool.{and_left, and_right, and_parts, eq-eqb, ne_eqb, leb-true}
use Rattle.edd_image.specs.Contents.{Span, part, NameFields, AttributeFields, rows_from}
use Rattle.edd_instructions.specs.Validity.{fills, rise}
use Rattle.edd_loader.specs.Rows.{rises_next}
use Rattle.edd_loader.specs.Sections.{lies_within}

-- the rows from the one on that comes after i others
abbrev pub rows_on : {A : Type 0} → (read : ℕ → A) → (size count start i : ℕ) → List A
rows_on read size count start i = rows_from read size (count - i) (start + size * i)

pub next_row : {A : Type 0} (read : ℕ → A) (size n m place next : ℕ) → n ≡ suc m
    → next ≡ place + size → rows_from read size n place ≡ read place ∷ rows_from read size m next
unfolding rows_from
next_row read size n m place next e f = rw (e, f) refl

pub no_row : {A : Type 0} (read : ℕ → A) (size n place : ℕ) → n ≡ 0 → rows_from read size n place
    ≡ []
unfolding rows_from
no_row read size n place e = rw e refl

-- a row comes after i others, and then the rows after i + 1
pub row_at : {A : Type 0} (read : ℕ → A) (size count start i : ℕ) → i < count
    → rows_on read size count start i ≡ read (start + size * i) ∷ rows_on read size count start
    (i + 1)
row_at read size count start i inside =
    let further : start + size * (i + 1) ≡ (start + size * i) + size =
    rw (add-one, mul-suc) (omega arith) in
    next_row read size (count - i) (count - (i + 1)) (start + size * i) (start + size * (i + 1))
    (omega arith) further

-- the rows after a row, from its end on
pub rows_behind : {A : Type 0} (read : ℕ → A) (size count start i : ℕ)
    → rows_from read size ((count - i) - 1) ((start + size * i) + size)
    ≡ rows_on read size count start (i + 1)
rows_behind read size count start i =
    let further : (start + size * i) + size ≡ start + size * (i + 1) =
    rw (add-one, mul-suc) (omega arith) in
    let fewer : (count - i) - 1 ≡ count - (i + 1) = omega arith in
    rw (further, fewer) refl

-- ---- a test of each row

pub each_goes : {A : Type 0} (p : A → Bool) (rows rest : List A) (r : A) (total : Bool)
    → rows ≡ r ∷ rest → p r ≡ true → list_all p rows ≡ total → list_all p rest ≡ total
each_goes p rows rest r total e yes_r so_far = rw yes_r at (rw e at so_far)

pub each_fails : {A : Type 0} (p : A → Bool) (rows rest : List A) (r : A) (total : Bool)
    → rows ≡ r ∷ rest → p r ≡ false → list_all p rows ≡ total → false ≡ total
each_fails p rows rest r total e no_r so_far = sym (and_left (p r) _ no_r) ∙ (rw e at so_far)

pub each_done : {A : Type 0} (p : A → Bool) (rows : List A) (total : Bool) → rows ≡ []
    → list_all p rows ≡ total → true ≡ total
each_done p rows total e so_far = rw e at so_far

-- where all pass, the first passes, and the rest

pub first_passes : {A : Type 0} (p : A → Bool) (rows rest : List A) (r : A) → rows ≡ r ∷ rest
    → list_all p rows ≡ true → p r ≡ true
first_passes p rows rest r e all = (and_parts (p r) (list_all p rest) (rw e at all)).0

pub rest_passes : {A : Type 0} (p : A → Bool) (rows rest : List A) (r : A) → rows ≡ r ∷ rest
    → list_all p rows ≡ true → list_all p rest ≡ true
rest_passes p rows rest r e all = (and_parts (p r) (list_all p rest) (rw e at all)).1

pub span_inside : (start size end : ℕ) (span : Span) → start ≡ span.start → size ≡ span.size
    → lies_within end span ≡ true → start + size ≤ end
span_inside start size end span e f h = omega (arith, leb-true (span.start + span.size) end h)

-- a test of the bytes of a span
pub part_tested : (p : List ℕ → Bool) (bytes found : List ℕ) (start size : ℕ) (span : Span)
    (test result : Bool) → test ≡ p found → found ≡ part (record { start = start; size = size })
    bytes → start ≡ span.start → size ≡ span.size → test ≡ result
    → p (part span bytes) ≡ result
part_tested p bytes found start size span test result tested is e f so =
    let same : found ≡ part span bytes = is ∙ rw (e, f) refl in
    sym (ap p same) ∙ sym tested ∙ so

-- ---- spans that are one after the other

pub fill_goes : (rows rest : List Span) (r : Span) (place end start size : ℕ) (total : Bool)
    → rows ≡ r ∷ rest → start ≡ r.start → size ≡ r.size → start ≡ place
    → fills place rows end ≡ total → fills (place + size) rest end ≡ total
fill_goes rows rest r place end start size total e f g here so_far =
    let same : nat_eq r.start place ≡ true = eq-eqb r.start place (sym f ∙ here) in
    rw g (rw same at (rw e at so_far))

pub fill_fails : (rows rest : List Span) (r : Span) (place end start : ℕ) (total : Bool)
    → rows ≡ r ∷ rest → start ≡ r.start → (start ≡ place → ⊥) → fills place rows end ≡ total
    → false ≡ total
fill_fails rows rest r place end start total e f elsewhere so_far =
    let other : nat_eq r.start place ≡ false = ne_eqb r.start place (λ same. elsewhere (f ∙ same))
    in
    sym (and_left (nat_eq r.start place) _ other) ∙ (rw e at so_far)

pub fill_done : (rows : List Span) (place end : ℕ) (total : Bool) → rows ≡ []
    → fills place rows end ≡ total → nat_eq place end ≡ total
fill_done rows place end total e so_far = rw e at so_far

-- ---- a test of each name row, and their spans

abbrev pub has_zero : NameFields → Bool
has_zero r = nat_eq r.padding 0

abbrev pub name_span : NameFields → Span
name_span r = r.span

pub name_goes : (rows rest : List NameFields) (r : NameFields) (place end start size : ℕ)
    (total : Bool) → rows ≡ r ∷ rest → r.padding ≡ 0 → start ≡ r.span.start → size ≡ r.span.size
    → start ≡ place
    → (list_all has_zero rows && fills place (map name_span rows) end) ≡ total
    → (list_all has_zero rest && fills (place + size) (map name_span rest) end) ≡ total
name_goes rows rest r place end start size total e z f g here so_far =
    let same : nat_eq r.span.start place ≡ true = eq-eqb r.span.start place (sym f ∙ here) in
    let none : nat_eq r.padding 0 ≡ true = eq-eqb r.padding 0 z in
    rw g (rw (none, same) at (rw e at so_far))

pub padding_fails : (rows rest : List NameFields) (r : NameFields) (place end : ℕ) (total : Bool)
    → rows ≡ r ∷ rest → (r.padding ≡ 0 → ⊥)
    → (list_all has_zero rows && fills place (map name_span rows) end) ≡ total → false ≡ total
padding_fails rows rest r place end total e z so_far =
    let some : nat_eq r.padding 0 ≡ false = ne_eqb r.padding 0 z in
    sym (and_left (list_all has_zero (r ∷ rest)) _ (and_left (nat_eq r.padding 0) _ some))
    ∙ (rw e at so_far)

pub name_fails : (rows rest : List NameFields) (r : NameFields) (place end start : ℕ) (total : Bool)
    → rows ≡ r ∷ rest → start ≡ r.span.start → (start ≡ place → ⊥)
    → (list_all has_zero rows && fills place (map name_span rows) end) ≡ total → false ≡ total
name_fails rows rest r place end start total e f elsewhere so_far =
    let other : nat_eq r.span.start place ≡ false =
    ne_eqb r.span.start place (λ same. elsewhere (f ∙ same)) in
    sym (and_right (list_all has_zero (r ∷ rest)) _ (and_left (nat_eq r.span.start place) _ other))
    ∙ (rw e at so_far)

pub name_done : (rows : List NameFields) (place end : ℕ) (total : Bool) → rows ≡ []
    → (list_all has_zero rows && fills place (map name_span rows) end) ≡ total
    → nat_eq place end ≡ total
name_done rows place end total e so_far = rw e at so_far

-- ---- a test of each attribute row, whether they rise, and their spans

abbrev pub attribute_span : AttributeFields → Span
attribute_span r = r.span

rise_splits : (r : AttributeFields) (rest : List AttributeFields)
    → rise (r ∷ rest) ≡ (rises_next r rest && rise rest)
rise_splits r [] = refl
rise_splits r (next ∷ rest) = refl

attributes_split : (p : AttributeFields → Bool) (rows rest : List AttributeFields)
    (r : AttributeFields) (place end : ℕ) → rows ≡ r ∷ rest
    → (list_all p rows && (rise rows && fills place (map attribute_span rows) end))
    ≡ ((p r && list_all p rest)
    && ((rises_next r rest && rise rest)
    && (nat_eq r.span.start place && fills (place + r.span.size) (map attribute_span rest)
    end)))
attributes_split p rows rest r place end e =
    rw e (ap (λ (b : Bool). (p r && list_all p rest)
    && (b && (nat_eq r.span.start place && fills (place + r.span.size) (map attribute_span rest)
    end))) (rise_splits r rest))

pub attribute_goes : (p : AttributeFields → Bool) (rows rest : List AttributeFields)
    (r : AttributeFields) (place end start size : ℕ) (total : Bool) → rows ≡ r ∷ rest → p r ≡ true
    → rises_next r rest ≡ true → start ≡ r.span.start → size ≡ r.span.size → start ≡ place
    → (list_all p rows && (rise rows && fills place (map attribute_span rows) end)) ≡ total
    → (list_all p rest && (rise rest && fills (place + size) (map attribute_span rest) end))
    ≡ total
attribute_goes p rows rest r place end start size total e passes rises_on f g here so_far =
    let same : nat_eq r.span.start place ≡ true = eq-eqb r.span.start place (sym f ∙ here) in
    rw g (rw (passes, rises_on, same) at (sym (attributes_split p rows rest r place end e)
    ∙ so_far))

pub attribute_fails : (p : AttributeFields → Bool) (rows rest : List AttributeFields)
    (r : AttributeFields) (place end : ℕ) (total : Bool) → rows ≡ r ∷ rest → p r ≡ false
    → (list_all p rows && (rise rows && fills place (map attribute_span rows) end)) ≡ total
    → false ≡ total
attribute_fails p rows rest r place end total e fails so_far =
    sym (and_left (p r && list_all p rest) _ (and_left (p r) _ fails))
    ∙ (sym (attributes_split p rows rest r place end e) ∙ so_far)

pub rise_fails : (p : AttributeFields → Bool) (rows rest : List AttributeFields)
    (r : AttributeFields) (place end : ℕ) (total : Bool) → rows ≡ r ∷ rest
    → rises_next r rest ≡ false
    → (list_all p rows && (rise rows && fills place (map attribute_span rows) end)) ≡ total
    → false ≡ total
rise_fails p rows rest r place end total e fails so_far =
    sym (and_right (p r && list_all p rest) _
    (and_left (rises_next r rest && rise rest) _ (and_left (rises_next r rest) _ fails)))
    ∙ (sym (attributes_split p rows rest r place end e) ∙ so_far)

pub unit_fails : (p : AttributeFields → Bool) (rows rest : List AttributeFields)
    (r : AttributeFields) (place end start : ℕ) (total : Bool) → rows ≡ r ∷ rest
    → start ≡ r.span.start → (start ≡ place → ⊥)
    → (list_all p rows && (rise rows && fills place (map attribute_span rows) end)) ≡ total
    → false ≡ total
unit_fails p rows rest r place end start total e f elsewhere so_far =
    let other : nat_eq r.span.start place ≡ false =
    ne_eqb r.span.start place (λ same. elsewhere (f ∙ same)) in
    sym (and_right (p r && list_all p rest) _
    (and_right (rises_next r rest && rise rest) _
    (and_left (nat_eq r.span.start place) _ other)))
    ∙ (sym (attributes_split p rows rest r place end e) ∙ so_far)

pub attribute_done : (p : AttributeFields → Bool) (rows : List AttributeFields) (place end : ℕ)
    (total : Bool) → rows ≡ []
    → (list_all p rows && (rise rows && fills place (map attribute_span rows) end)) ≡ total
    → nat_eq place end ≡ total
attribute_done p rows place end total e so_far = rw e at so_far
