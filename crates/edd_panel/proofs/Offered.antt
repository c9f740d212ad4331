-- What a number leads to, and may be opened, the place offers.
use Rattle.std.proofs.Common.{◌≡◌, refl, sym, ap, subst, ◌∙◌, ℕ, zero, suc, ℤ, Bool, true, false, List, [], ◌∷◌, ◌++◌, Option, Some, None, ◌⊎◌, inl, inr, filter_map}
use Rattle.std.specs.Prelude.{pos, negsuc, if◌then◌else◌}
use Rattle.edd_syntax.specs.declared.answer.Trap.{Trap}
use Rattle.edd_syntax.specs.declared.numbers.Attr.TheVariants as attr
use Rattle.edd_syntax.specs.declared.numbers.AttrRef.{AttrRef}
use Rattle.edd_syntax.specs.declared.numbers.ItemNo.TheVariants as items
use Rattle.edd_image.specs.declared.parts.Counts.{Counts}
use Rattle.edd_instructions.specs.declared.records.Record.{Record}
use Rattle.edd_instructions.specs.Reading.{Reading, NoItem, Records, Fault}
use Rattle.edd_panel.specs.declared.entries.Entry.{Entry}
use Rattle.edd_panel.specs.declared.entries.Listed.{Listed}
use Rattle.edd_panel.specs.declared.entries.Listed.TheVariants as listed
use Rattle.edd_panel.specs.declared.place.Place.{Place}
use Rattle.edd_panel.specs.declared.place.Place.TheVariants as place
use Rattle.edd_panel.specs.Edits.{first_number}
use Rattle.edd_panel.specs.Screens.{IsAmong, IsListed, IsScreen, IsWritten, Offers, ShowsLine, ShowsLines, ShowsPlace, ShowsRead, is_left_out, is_not_zero, is_valid, line_of, lines_by, nth_entry, numbered, of_item}

pub later : {X : Type 0} (y : X) (xs : List X) (x : X) → IsAmong xs x → IsAmong (y ∷ xs) x
later {X} y xs x is = (y ∷ is.0, is.1, ap (λ (zs : List X). y ∷ zs) is.2)

pub among_first : {X : Type 0} (x : X) (xs : List X) → IsAmong (x ∷ xs) x
among_first x xs = ([], xs, refl)

-- an entry of a list that begins with an entry is that one, or one of the rest
first_or_rest : (w : Entry) (more : List Listed) (n : ℕ) (e : Entry)
    → nth_entry (listed.Entry w ∷ more) n ≡ Some e
    → (w ≡ e) ⊎ ((k : ℕ) × (nth_entry more k ≡ Some e))
first_or_rest w more zero e is = inl cc
first_or_rest w more (suc k) e is = inr (k, is)

module _ (counts : Counts) (reads : AttrRef → Reading → Type 0) where
  -- the entry is one of these lines, is not left out, and may be opened
  record IsOffered (written : List Listed) (e : Entry) : Type 0 where
    among : IsAmong written (listed.Entry e)
    shown : is_left_out e ≡ false
    reading : Reading
    read : reads (of_item e.item attr.Validity) reading
    valid : is_valid reading ≡ true

  behind : (line : Listed) (rest : List Listed) (e : Entry) → IsOffered rest e
      → IsOffered (line ∷ rest) e
  behind line rest e is = record {
    among = later line rest (listed.Entry e) is.among;
    shown = is.shown;
    reading = is.reading;
    read = is.read;
    valid = is.valid;
  }

  -- the entries of a rest of the lines are offered
  AllOffered : (rest more : List Listed) → Type 0
  AllOffered rest more = (k : ℕ) (e : Entry) → nth_entry more k ≡ Some e → e.trap ≡ None
      → IsOffered rest e

  untrapped : (w e : Entry) (why : Trap) → (record w { trap = Some why }) ≡ e → e.trap ≡ None → ⊥
  untrapped w e why is none =
      let trapped : e.trap ≡ Some why = sym (ap (λ (x : Entry). x.trap) is) in
      let both : Some why ≡ None = sym trapped ∙ none in absurd cc

  itself : (w : Entry) (rest : List Listed) (r : Reading) (e : Entry) → is_left_out w ≡ false
      → reads (of_item w.item attr.Validity) r → is_valid r ≡ true → w ≡ e
      → IsOffered (listed.Entry w ∷ rest) e
  itself w rest r e shown read valid is =
      subst (λ (x : Entry). IsOffered (listed.Entry w ∷ rest) x) is (record {
        among = among_first (listed.Entry w) rest;
        shown = shown;
        reading = r;
        read = read;
        valid = valid;
      })

  -- an entry that is shown with what is behind it
  one : (w : Entry) (rest more : List Listed) (r : Reading) → is_left_out w ≡ false
      → reads (of_item w.item attr.Validity) r → is_valid r ≡ true
      → AllOffered rest more → (n : ℕ) (e : Entry)
      → nth_entry (listed.Entry w ∷ more) n ≡ Some e → e.trap ≡ None
      → IsOffered (listed.Entry w ∷ rest) e
  unfolding AllOffered
  one w rest more r shown read valid offered n e is none = elim (first_or_rest w more n e is) [
    | inl same ↦ itself w rest r e shown read valid same
    | inr further ↦ behind (listed.Entry w) rest e (offered further.0 e further.1 none)
  ]

  -- by VALIDITY
  by_records : (w : Entry) (rest more : List Listed) (rs : List Record) (valid : Bool)
      → is_not_zero (first_number rs) ≡ valid → is_left_out w ≡ false
      → reads (of_item w.item attr.Validity) (Records rs)
      → AllOffered rest more → (n : ℕ) (e : Entry)
      → nth_entry ((if valid then listed.Entry w ∷ [] else []) ++ more) n ≡ Some e
      → e.trap ≡ None → IsOffered (listed.Entry w ∷ rest) e
  unfolding AllOffered
  by_records w rest more rs true z shown read offered n e is none =
      one w rest more (Records rs) shown read z offered n e is none
  by_records w rest more rs false z shown read offered n e is none =
      behind (listed.Entry w) rest e (offered n e is none)

  by_validity : (w : Entry) (rest more : List Listed) (r : Reading) → is_left_out w ≡ false
      → reads (of_item w.item attr.Validity) r
      → AllOffered rest more → (n : ℕ) (e : Entry)
      → nth_entry (lines_by r w ++ more) n ≡ Some e → e.trap ≡ None
      → IsOffered (listed.Entry w ∷ rest) e
  unfolding AllOffered
  by_validity w rest more NoItem shown read offered n e is none =
      one w rest more NoItem shown read refl offered n e is none
  by_validity w rest more (Records rs) shown read offered n e is none =
      by_records w rest more rs (is_not_zero (first_number rs)) refl shown read offered n e is none
  by_validity w rest more (Fault why) shown read offered n e is none =
      elim (first_or_rest (record w { trap = Some why }) more n e is) [
        | inl same ↦ absurd (untrapped w e why same none)
        | inr further ↦ behind (listed.Entry w) rest e (offered further.0 e further.1 none)
      ]

  by_entry : (w : Entry) (rest here more : List Listed) (out : Bool) → is_left_out w ≡ out
      → elim out as (λ _. Type 0) [
        | true ↦ here ≡ []
        | false ↦ (r : Reading) × reads (of_item w.item attr.Validity) r × (here ≡ lines_by r w)
      ]
      → AllOffered rest more → (n : ℕ) (e : Entry) → nth_entry (here ++ more) n ≡ Some e
      → e.trap ≡ None → IsOffered (listed.Entry w ∷ rest) e
  unfolding AllOffered
  by_entry w rest here more true out shows offered n e is none =
      behind (listed.Entry w) rest e (offered n e
      (subst (λ (hs : List Listed). nth_entry (hs ++ more) n ≡ Some e) shows is) none)
  by_entry w rest here more false out shows offered n e is none =
      by_validity w rest more shows.0 out shows.1 offered n e
      (subst (λ (hs : List Listed). nth_entry (hs ++ more) n ≡ Some e) shows.2 is) none

  by_line : (line : Listed) (rest here more : List Listed) → ShowsLine counts reads line here
      → AllOffered rest more → (n : ℕ) (e : Entry) → nth_entry (here ++ more) n ≡ Some e
      → e.trap ≡ None → IsOffered (line ∷ rest) e
  unfolding AllOffered
  by_line (listed.Text text) rest here more shows offered n e is none =
      behind (listed.Text text) rest e (offered n e
      (subst (λ (hs : List Listed). nth_entry (hs ++ more) n ≡ Some e) shows is) none)
  by_line (listed.Entry w) rest here more shows offered n e is none =
      by_entry w rest here more (is_left_out w) refl shows offered n e is none

  by_lines : (written shown : List Listed) → ShowsLines counts reads written shown
      → AllOffered written shown
  unfolding AllOffered
  by_lines [] shown shows = λ n e is none.
      let nowhere : nth_entry [] n ≡ Some e =
      subst (λ (hs : List Listed). nth_entry hs n ≡ Some e) shows is in absurd cc
  by_lines (line ∷ rest) shown shows = λ n e is none.
      by_line line rest shows.0 shows.1 shows.2 (by_lines rest shows.1 shows.3) n e
      (subst (λ (hs : List Listed). nth_entry hs n ≡ Some e) shows.4 is) none

  -- ---- a place

  record IsIn (p : Place) (e : Entry) : Type 0 where
    written : IsWritten counts reads p e
    shown : is_left_out e ≡ false
    reading : Reading
    read : reads (of_item e.item attr.Validity) reading
    valid : is_valid reading ≡ true

  in_list : (p : Place) (written : List Listed) (e : Entry)
      → (IsAmong written (listed.Entry e) → IsWritten counts reads p e)
      → IsOffered written e → IsIn p e
  in_list p written e how is = record {
    written = how is.among;
    shown = is.shown;
    reading = is.reading;
    read = is.read;
    valid = is.valid;
  }

  no_lines : (shown : List Listed) (n : ℕ) (e : Entry) → shown ≡ [] → nth_entry shown n ≡ Some e → ⊥
  no_lines shown n e none is =
      let nowhere : nth_entry [] n ≡ Some e =
      subst (λ (hs : List Listed). nth_entry hs n ≡ Some e) none is in absurd cc

  by_read : (p : Place) (list : AttrRef) (r : Reading) (shown : List Listed) (trap : Option Trap)
      → (n : ℕ) (e : Entry) → (IsListed counts reads list e → IsWritten counts reads p e)
      → reads list r → ShowsRead counts reads r shown trap
      → nth_entry shown n ≡ Some e → e.trap ≡ None → IsIn p e
  unfolding AllOffered
  by_read p list NoItem shown trap n e how read shows is none =
      absurd (no_lines shown n e shows.0 is)
  by_read p list (Records rs) shown trap n e how read shows is none =
      in_list p (filter_map line_of rs) e (λ among. how (rs, read, among))
      (by_lines (filter_map line_of rs) shown shows.0 n e is none)
  by_read p list (Fault why) shown trap n e how read shows is none =
      absurd (no_lines shown n e shows.0 is)

  by_place : (p : Place) (shown : List Listed) (trap : Option Trap) → ShowsPlace counts reads p shown trap
      → (n : ℕ) (e : Entry) → nth_entry shown n ≡ Some e → e.trap ≡ None → IsIn p e
  unfolding AllOffered
  by_place place.Top shown trap shows n e is none =
      in_list place.Top shows.0.0 e (λ among. (shows.0.0, shows.0.1, among))
      (by_lines shows.0.0 shown shows.0.2 n e is none)
  by_place (place.Menu m) shown trap shows n e is none =
      by_read (place.Menu m) (of_item (items.Menu m) attr.Items) shows.0 shown trap n e (λ is. is)
      shows.1 shows.2 is none
  by_place (place.Collection c) shown trap shows n e is none =
      by_read (place.Collection c) (of_item (items.Collection c) attr.Members) shows.0 shown trap n e
      (λ is. is) shows.1 shows.2 is none

  offered_at : (at : Place) (shown : List Listed) (trap : Option Trap) (n : ℕ) (e : Entry)
      → IsScreen counts reads at shown trap → nth_entry shown n ≡ Some e → e.trap ≡ None
      → Offers counts reads at e
  offered_at at shown trap n e screen is none =
      let found = by_place screen.0 shown trap screen.2 n e is none in (
        (screen.0, screen.1, found.written),
        found.shown,
        (found.reading, found.read, found.valid),
      )

  -- the entry of a number that may be opened is one that the place offers
  pub numbered_is_offered : (at : Place) (shown : List Listed) (trap : Option Trap) (n : ℤ) (e : Entry)
      → IsScreen counts reads at shown trap → numbered shown n ≡ Some e → e.trap ≡ None
      → Offers counts reads at e
  numbered_is_offered at shown trap (pos zero) e screen is none = absurd cc
  numbered_is_offered at shown trap (pos (suc n)) e screen is none =
      offered_at at shown trap n e screen is none
  numbered_is_offered at shown trap (negsuc n) e screen is none = absurd cc
