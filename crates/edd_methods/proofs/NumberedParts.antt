-- Parts of code with strings by their numbers, together, and where the second or a later one is
-- refused.
use Rattle.std.proofs.Common.{◌≡◌, refl, sym, ap, subst, ◌∙◌, ℕ, ◌+◌, ◌<◌, ◌≤◌, inl, inr, Bool, true, false, List, [], ◌∷◌, ◌++◌, length, map, get_or, drop, arith, append_assoc}
use Rattle.std.specs.Prelude.{◌&&◌, Result, Err}
use Rattle.std.specs.List.{Contains, list_all}
use Rattle.std.proofs.lemmas.List.{append-nil, map-append, drop_more, drop_all}
use Rattle.std.proofs.lemmas.List.Elements.{Contains-append_left, Contains-append_right, Contains-append_cases}
use Rattle.edd_syntax.specs.declared.numbers.StrNo.{StrNo}
use Rattle.edd_syntax.specs.Strings.{strings_of_texts}
use Rattle.edd_syntax.specs.Text.{Text}
use Rattle.edd_syntax.specs.Words.{Words, words_of}
use Rattle.edd_code.specs.declared.fault.LowerFault.{LowerFault}
use Rattle.edd_code.specs.declared.fault.LowerFault.TheVariants.{TooMany, Memory}
use Rattle.edd_code.specs.Tables.{Grows, GrowsBy, Overflows, number_in}
use Rattle.edd_code.proofs.Growing.{nothing_added, both_added, grows_on, growth, no_growth, overflows_second}
use Rattle.edd_methods.specs.Writing.{Numbered, Lowers}

-- what is said of a part, by the numbers of strings
abbrev pub Said : Type 1
Said = (Words → StrNo) → Type 0

-- the texts of the first list are among those of the second
abbrev pub Within : (ts us : List Text) → Type 0
Within ts us = (w : Words) → Contains (strings_of_texts ts) w → Contains (strings_of_texts us) w

pub within_left : (ts us : List Text) → Within ts (ts ++ us)
within_left ts us w held = subst (λ (ws : List Words). Contains ws w)
    (sym (map-append words_of ts us))
    (Contains-append_left (strings_of_texts ts) (strings_of_texts us) w held)

pub within_right : (ts us : List Text) → Within us (ts ++ us)
within_right ts us w held = subst (λ (ws : List Words). Contains ws w)
    (sym (map-append words_of ts us))
    (Contains-append_right (strings_of_texts ts) (strings_of_texts us) w held)

pub within_both : (ts us vs : List Text) → Within ts vs → Within us vs → Within (ts ++ us) vs
within_both ts us vs h k w held =
    elim (Contains-append_cases (strings_of_texts ts) (strings_of_texts us) w
    (subst (λ (ws : List Words). Contains ws w) (map-append words_of ts us) held)) [
      | inl p ↦ h w p
      | inr p ↦ k w p
    ]

pub within_same : {ts us : List Text} → ts ≡ us → Within ts us
within_same e w held = subst (λ (xs : List Text). Contains (strings_of_texts xs) w) e held

-- both orders hold the same
pub exchanged : (ts us : List Text) → Within (ts ++ us) (us ++ ts)
exchanged ts us = within_both ts us (us ++ ts) (within_right us ts) (within_left us ts)

-- the second of three in front of the others
pub front_exchanged : (ts us vs : List Text) → Within (ts ++ (us ++ vs)) (us ++ (ts ++ vs))
front_exchanged ts us vs =
    within_both ts (us ++ vs) (us ++ (ts ++ vs))
    (λ w held. within_right us (ts ++ vs) w (within_left ts vs w held))
    (within_both us vs (us ++ (ts ++ vs)) (within_left us (ts ++ vs))
    (λ w held. within_right us (ts ++ vs) w (within_right ts vs w held)))

pub front_within : (ts us vs : List Text) → Within (us ++ ts) (ts ++ (us ++ vs))
front_within ts us vs = within_both us ts (ts ++ (us ++ vs))
    (λ w held. within_right ts (us ++ vs) w (within_left us vs w held)) (within_left ts (us ++ vs))

-- ---- parts

-- nothing is written that names a string
pub nothing_named : (old : List Words) (is : Said) → ((number : Words → StrNo) → is number)
    → Numbered old [] is old
nothing_named old is h =
    record {
      table = nothing_added old;
      holds = λ w held. absurd (omega (arith, held.1));
      written = λ later. h (number_in (old ++ later));
    }

pub said : {old new : List Words} {texts : List Text} {P Q : Said}
    → ((number : Words → StrNo) → P number → Q number) → Numbered old texts P new
    → Numbered old texts Q new
said {new = new} h w = record {
  table = w.table;
  holds = w.holds;
  written = λ later. h (number_in (new ++ later)) (w.written later);
}

pub both : {a b c : List Words} {ts us : List Text} {P Q : Said} → Numbered a ts P b
    → Numbered b us Q c → Numbered a (ts ++ us) (λ number. P number × Q number) c
both {a} {b} {c} {ts} {us} {P} {Q} v w = record {
  table = subst (λ (ws : List Words). GrowsBy a ws c) (sym (map-append words_of ts us))
      (both_added v.table w.table);
  holds = λ x held. elim (Contains-append_cases (strings_of_texts ts) (strings_of_texts us) x
      (subst (λ (ws : List Words). Contains ws x) (map-append words_of ts us) held)) [
        | inl p ↦ subst (λ (t : List Words). Contains t x) (sym w.table.grown)
            (Contains-append_left b w.table.more x (v.holds x p))
        | inr p ↦ w.holds x p
      ];
  written = λ later.
      let same : b ++ (w.table.more ++ later) ≡ c ++ later = sym (append_assoc b w.table.more later)
      ∙ ap (λ (t : List Words). t ++ later) (sym w.table.grown) in (
        subst (λ (t : List Words). P (number_in t)) same (v.written (w.table.more ++ later)),
        w.written later,
      );
}

-- the texts may be listed in another way
pub listed : {old new : List Words} {ts : List Text} {P : Said} {us : List Text} → Within ts us
    → Within us ts → Numbered old ts P new → Numbered old us P new
listed there back w = record {
  table = record {
    more = w.table.more;
    grown = w.table.grown;
    only = λ x held. there x (w.table.only x held);
    different = w.table.different;
    few =
        w.table.few;
  };
  holds = λ x held. w.holds x (back x held);
  written = w.written;
}

pub same_texts : {old new : List Words} {ts : List Text} {P : Said} {us : List Text} → ts ≡ us
    → Numbered old ts P new → Numbered old us P new
same_texts {old} {new} {ts} {P} e w = subst (λ (xs : List Text). Numbered old xs P new) e w

-- ---- a part that is refused

-- the table grew, and there are too many strings where the fault says so
abbrev pub Refused : LowerFault → (old : List Words) → (texts : List Text) → (new : List Words)
    → Type 0
Refused why old texts new = Grows old new × (why ≡ TooMany → Overflows old (strings_of_texts texts))

pub overflows_within : (old : List Words) (ts us : List Text) → Within ts us
    → Overflows old (strings_of_texts ts) → Overflows old (strings_of_texts us)
overflows_within old ts us within over = record {
  held = λ d. let all = over.held d in (
    all.0,
    all.1,
    all.2,
    λ w held. elim (Contains-append_cases old (strings_of_texts ts) w (all.3 w held)) [
      | inl p ↦ Contains-append_left old (strings_of_texts us) w p
      | inr p ↦ Contains-append_right old (strings_of_texts us) w (within w p)
    ],
  );
}

pub refused_within : (why : LowerFault) (old : List Words) (ts us : List Text) (new : List Words)
    → Within ts us → Refused why old ts new → Refused why old us new
refused_within why old ts us new within h = (h.0, λ e. overflows_within old ts us within (h.1 e))

-- after a part that is written, the next one is refused
pub refused_behind : {old mid : List Words} {ts : List Text} {P : Said} (why : LowerFault)
    (us : List Text) (new : List Words) → Numbered old ts P mid → Refused why mid us new
    → Refused why old (ts ++ us) new
refused_behind {old} {mid} {ts} {P} why us new w h = (
  grows_on old mid new (growth w.table) h.0,
  λ e. subst (λ (ws : List Words). Overflows old ws) (sym (map-append words_of ts us))
      (overflows_second old (strings_of_texts ts) mid (strings_of_texts us) w.table (h.1 e)),
)

-- memory is refused and no string is added
pub no_memory : {why : LowerFault} (old : List Words) (texts : List Text) → why ≡ Memory
    → Refused why old texts old
no_memory old texts is = (no_growth old, λ e. absurd (cc (e, is)))

-- what a function answers that passes the fault on
pub refused_is : {A : Type 0} (old new : List Words) (texts : List Text) (P : Said)
    {r : Result A LowerFault} {why : LowerFault} → r ≡ Err why → Refused why old texts new
    → Lowers r old texts P new
refused_is {A} old new texts P is h =
    subst (λ (x : Result A LowerFault). Lowers x old texts P new) (sym is) h

-- ---- each of two lists of texts is good

both_true : (a b : Bool) → (a && b) ≡ true → (a ≡ true) × (b ≡ true)
both_true true b h = (refl, h)
both_true false b h = absurd cc

pub all_parts : {A : Type 0} (p : A → Bool) (xs ys : List A) → list_all p (xs ++ ys) ≡ true
    → (list_all p xs ≡ true) × (list_all p ys ≡ true)
all_parts p [] ys h = (refl, h)
all_parts p (x ∷ xs) ys h =
    let here = both_true (p x) (list_all p (xs ++ ys)) h in
    let rest = all_parts p xs ys here.1 in
    (rw here.0 rest.0, rest.1)

-- ---- a loop over a list, each of whose elements is written in turn

-- `left number s rest` is what there will be once the rest is written after what there is now
module _ {X Y S T : Type 0} (view : X → Y) (texts : List Y → List Text)
    (splits : (y : Y) (ys : List Y) → texts (y ∷ ys) ≡ texts (y ∷ []) ++ texts ys)
    (left : (Words → StrNo) → S → List Y → T) where
  -- the elements that are left
  abbrev pub views : ℕ → List X → List Y
  views i xs = map view (drop i xs)

  -- the first i elements are written
  pub record Front (i : ℕ) (all : List X) (old : List Words) (before : S) (new : List Words)
      (after : S) : Type 0 where
    pub done : List Text
    pub rest : texts (map view all) ≡ done ++ texts (views i all)
    pub wrote : Numbered old done (λ number. left number before (map view all)
        ≡ left number after (views i all)) new

  pub front_starts : (all : List X) (old : List Words) (before : S)
      → Front 0 all old before old before
  front_starts all old before =
      record { done = []; rest = refl; wrote = nothing_named old _ (λ number. refl) }

  next : (i : ℕ) (all : List X) (x : X) → i < length all → x ≡ get_or all i x
      → views i all ≡ view x ∷ views (i + 1) all
  next i all x h is = ap (map view) (drop_more all i x h)
      ∙ ap (λ (z : X). view z ∷ views (i + 1) all) (sym is)

  next_texts : (i : ℕ) (all : List X) (x : X) → i < length all → x ≡ get_or all i x
      → texts (views i all) ≡ texts (view x ∷ []) ++ texts (views (i + 1) all)
  next_texts i all x h is = ap texts (next i all x h is) ∙ splits (view x) (views (i + 1) all)

  -- one element more
  pub front_grows : {i : ℕ} {all : List X} {old mid new : List Words} {before between after : S}
      {x : X} → i < length all → x ≡ get_or all i x → Front i all old before mid between
      → Numbered mid (texts (view x ∷ [])) (λ number. (rest : List Y) → left number between (view x
      ∷ rest) ≡ left number after rest) new → Front (i + 1) all old before new after
  front_grows {i} {all} {old} {mid} {new} {before} {between} {after} {x} h is front one = record {
    done = front.done ++ texts (view x ∷ []);
    rest = front.rest ∙ ap (λ ts. front.done ++ ts) (next_texts i all x h is)
        ∙ sym (append_assoc front.done (texts (view x ∷ [])) (texts (views (i + 1) all)));
    wrote = said (λ number parts. parts.0 ∙ ap (left number between) (next i all x h is)
        ∙ parts.1 (views (i + 1) all)) (both front.wrote one);
  }

  pub front_ends : {i : ℕ} {all : List X} {old new : List Words} {before after : S} → length all ≤ i
      → texts [] ≡ [] → Front i all old before new after
      → Numbered old (texts (map view all)) (λ number. left number before (map view all)
      ≡ left number after []) new
  front_ends {i} {all} {old} {new} {before} {after} h none front =
      let over : views i all ≡ [] = ap (map view) (drop_all i all h) in
      same_texts (sym (front.rest ∙ ap (λ ys. front.done ++ texts ys) over
      ∙ ap (λ ts. front.done ++ ts) none ∙ append-nil front.done))
      (said (λ number e. e ∙ ap (left number after) over) front.wrote)

  -- one element is refused
  pub front_refused : {i : ℕ} {all : List X} {old mid new : List Words} {before between : S}
      (why : LowerFault) {x : X} → i < length all → x ≡ get_or all i x
      → Front i all old before mid between → Refused why mid (texts (view x ∷ [])) new
      → Refused why old (texts (map view all)) new
  front_refused {i} {all} {old} {mid} {new} {before} {between} why {x} h is front refused =
      let one = texts (view x ∷ []) in
      let more = texts (views (i + 1) all) in
      let all_texts : texts (map view all) ≡ (front.done ++ one) ++ more = front.rest
      ∙ ap (λ ts. front.done ++ ts) (next_texts i all x h is)
      ∙ sym (append_assoc front.done one more) in
      refused_within why old (front.done ++ one) (texts (map view all)) new
      (λ w held. within_same (sym all_texts) w (within_left (front.done ++ one) more w held))
      (refused_behind why one new front.wrote refused)

  -- the texts of an element are good where those of all are
  pub front_texts : (p : Text
      → Bool) {i : ℕ} {all : List X} {old mid : List Words} {before between : S} {x : X}
      → i < length all → x ≡ get_or all i x → Front i all old before mid between
      → list_all p (texts (map view all)) ≡ true → list_all p (texts (view x ∷ [])) ≡ true
  front_texts p {i} {all} {x} h is front good =
      let rest = all_parts p front.done (texts (views i all)) (ap (list_all p) (sym front.rest)
      ∙ good) in
      (all_parts p (texts (view x ∷ [])) (texts (views (i + 1) all))
      (ap (list_all p) (sym (next_texts i all x h is)) ∙ rest.1)).0
