-- Enumerators, and texts that may be missing, are read as they are spelled.
use Rattle.std.proofs.Common.{◌≡◌, ℕ, ◌≤◌, ◌<◌, false, List, ◌∷◌, drop, length, Option, Some, None, refl, ap, arith}
use Rattle.edd_syntax.specs.declared.symbols.Keyword.TheVariants as word
use Rattle.edd_syntax.specs.declared.symbols.Symbol.TheVariants as sign
use Rattle.edd_syntax.specs.Text as texts
use Rattle.edd_syntax.specs.Token.{Token, Sign}
use Rattle.edd_syntax.specs.Item as item
use Rattle.edd_syntax.specs.Grammar.{TextHere}
use Rattle.edd_syntax.specs.ItemGrammar.{OptionalTextHere, EnumeratorHere}
use Rattle.edd_syntax.specs.Size.{leaf}
use Rattle.edd_grammar.specs.Reading.{at, expect, at_word, is_text, text_at}
use Rattle.edd_grammar.specs.ConditionalReading.{label_at, list_ends}
use Rattle.edd_grammar.specs.ValueReading.{some_text_at, optional_text_at, enumerator_at, enumerator_value}
use Rattle.edd_grammar.specs.Following.{ListedValue}
use Rattle.edd_grammar.proofs.Steps.{bind_some, guard_some, as_read, at_is, expect_is, expect_again}
use Rattle.edd_grammar.proofs.Alternatives.{branch, expected}
use Rattle.edd_grammar.proofs.Texts.{text_sound, text_again}
use Rattle.edd_grammar.proofs.Shorter.{text_shorter}
use Rattle.edd_grammar.proofs.Labels.{label_sound, label_again, label_shorter}
use Rattle.edd_grammar.proofs.Branches.{SoundOf}

-- ---- texts

pub some_text_sound : (here : List Token) (w : texts.Text) (rest : List Token)
    → some_text_at here ≡ Some (w, rest) → TextHere w here rest
unfolding some_text_at
some_text_sound here w rest x = let g = guard_some (is_text here) (text_at here) (w, rest)
    x in text_sound here w rest g.0 g.1

pub some_text_again : (w : texts.Text) (here rest : List Token) → TextHere w here rest
    → some_text_at here ≡ Some (w, rest)
unfolding some_text_at
some_text_again w here rest h = let r = text_again w here rest h in rw (r.0) r.1

pub optional_text_sound : (here : List Token) (w : Option texts.Text) (rest : List Token)
    → optional_text_at here ≡ Some (w, rest) → OptionalTextHere w here rest
unfolding optional_text_at
optional_text_sound here w rest x =
    branch (at sign.Comma here) _ _ _ x
    (λ t y. let a = bind_some (some_text_at (drop 1 here)) _ (w, rest) y in
    as_read (λ w r. OptionalTextHere w here r) (Some a.0.0) w a.0.1 rest a.2
    (drop 1 here, at_is sign.Comma here t, some_text_sound (drop 1 here) a.0.0 a.0.1 a.1))
    (λ _ y. as_read (λ w r. OptionalTextHere w here r) None w here rest y refl)

-- a text that may be missing is read where no comma follows
pub optional_text_again : (w : Option texts.Text) (here rest : List Token)
    → at sign.Comma rest ≡ false → OptionalTextHere w here rest → optional_text_at here
    ≡ Some (w, rest)
unfolding optional_text_at
optional_text_again None here rest f h = rw (h, f) refl
optional_text_again (Some w) here rest f h = rw (h.1, some_text_again w h.0 rest h.2) refl

pub optional_text_shorter : (w : Option texts.Text) (here rest : List Token)
    → OptionalTextHere w here rest → length rest ≤ length here
optional_text_shorter None here rest h = omega (arith, ap length h)
optional_text_shorter (Some w) here rest h =
    omega (arith, ap length h.1, text_shorter w h.0 rest h.2)

-- ---- enumerators

pub enumerator_value_sound : (height_left : ℕ)
    → SoundOf EnumeratorHere leaf height_left (enumerator_value height_left)
unfolding enumerator_value enumerator_at
enumerator_value_sound height_left here e rest x =
    let a = bind_some (expect sign.OpenBrace here) _ (e, rest) x in
    let b = bind_some (label_at a.0) _ (e, rest) a.2 in
    let c = bind_some (expect sign.Comma b.0.1) _ (e, rest) b.2 in
    let d = bind_some (some_text_at c.0) _ (e, rest) c.2 in
    let h = bind_some (optional_text_at d.0.1) _ (e, rest) d.2 in
    let k = bind_some (expect sign.CloseBrace h.0.1) _ (e, rest) h.2 in
    let read : item.Enumerator = record { value = b.0.0; text = d.0.0; help = h.0.0 } in
    as_read (λ e r. EnumeratorHere e here r × (leaf e ≤ height_left)) read e k.0 rest k.2 (
      (
        a.0,
        b.0.1,
        c.0,
        d.0.1,
        expect_is sign.OpenBrace here a.0 a.1,
        label_sound a.0 b.0.0 b.0.1 b.1,
        expect_is sign.Comma b.0.1 c.0 c.1,
        some_text_sound c.0 d.0.0 d.0.1 d.1,
        expected (λ u. OptionalTextHere h.0.0 d.0.1 u) sign.CloseBrace h.0.1 k.0 k.1
            (optional_text_sound d.0.1 h.0.0 h.0.1 h.1),
      ),
      omega arith,
    )

enumerator_again : (height_left : ℕ) (e : item.Enumerator) (here rest : List Token)
    → EnumeratorHere e here rest → enumerator_value height_left here ≡ Some (e, rest)
unfolding enumerator_value enumerator_at
enumerator_again height_left e here rest h =
    rw (
      h.4,
      expect_again sign.OpenBrace h.0,
      label_again e.value h.0 h.1 h.5,
      h.6,
      expect_again sign.Comma h.2,
      some_text_again e.text h.2 h.3 h.7,
      optional_text_again e.help h.3 (Sign sign.CloseBrace ∷ rest) refl h.8,
      expect_again sign.CloseBrace rest,
    ) refl

enumerator_shorter : (e : item.Enumerator) (here rest : List Token) → EnumeratorHere e here rest
    → length rest < length here
enumerator_shorter e here rest h = omega (
  arith,
  ap length h.4,
  label_shorter e.value h.0 h.1 h.5,
  ap length h.6,
  text_shorter e.text h.2 h.3 h.7,
  optional_text_shorter e.help h.3 _ h.8,
)

pub listed_enumerators : ListedValue leaf EnumeratorHere (λ rest. Unit {0}) enumerator_value
listed_enumerators = record {
  again = λ height_left e here rest h low f. enumerator_again height_left e here rest h;
  starts = λ e here rest h. (ap (at_word word.If) h.4, ap (at_word word.Select) h.4);
  no_end = λ e here rest h. ap list_ends h.4;
  no_comma = λ e here rest h. ap (at sign.Comma) h.4;
  shorter = enumerator_shorter;
  at_comma = λ rest. tt;
  at_end = λ rest e. tt;
  at_if = λ rest. tt;
  at_select = λ rest. tt;
  at_value = λ e here rest h. tt;
}
