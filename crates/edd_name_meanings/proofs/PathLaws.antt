-- Along a path, from one member to the next.
use Rattle.std.proofs.Common.{◌≡◌, sym, ap, ◌∙◌, ℕ, ◌+◌, ◌<◌, List, [], ◌∷◌, length, get_or, drop, map, Option, Some, None, subst}
use Rattle.std.specs.Prelude.{true, not, IfOk, MatchOption, Result, Ok, Err, option_and_then, if◌then◌else◌}
use Rattle.std.proofs.lemmas.List.{at_drop_more}
use Rattle.edd_name_meanings.specs.declared.path_steps.PathStep.{PathStep}
use Rattle.edd_name_meanings.specs.Meanings.{item_among}
use Rattle.edd_name_meanings.specs.Paths.{Reaches}
use Rattle.edd_name_meanings.specs.StandIns.{or_stand_in, stand_in}
use Rattle.edd_syntax.specs.declared.numbers.Kind.{Kind}
use Rattle.edd_syntax.specs.declared.numbers.ItemNo.{ItemNo}
use Rattle.edd_syntax.specs.declared.numbers.TokenNo.{TokenNo}
use Rattle.edd_syntax.specs.declared.reference.Target.TheVariants.{Item}
use Rattle.edd_syntax.specs.Text.{Name}
use Rattle.edd_syntax.specs.Reference.{Path}
use Rattle.edd_syntax.specs.Item.{Description}
use Rattle.edd_syntax.specs.NameRules.{faults_along, is_kind_among}
use Rattle.edd_syntax.specs.Refusal.{Refusal, WrongKind, refused_if, first_of}
use Rattle.edd_syntax.specs.Resolution.{along}

pub reads_nothing : (allowed : List Kind) (meant : Option ItemNo) → meant ≡ None
    → or_stand_in allowed (item_among allowed meant) ≡ Some (stand_in allowed)
reads_nothing allowed meant is = ap (λ i. or_stand_in allowed (item_among allowed i)) is

module _ (unit : Description Path) (allowed : List Kind) (all : List Refusal) (at : TokenNo)
    (meant : Option ItemNo) (p : PathStep) where
  -- after the last member nothing is found where the kind is allowed
  no_fault : (i : Option ItemNo) → is_kind_among allowed p.kind ≡ true
      → faults_along unit allowed p.name.now p.kind i [] ≡ all → None ≡ first_of all
  no_fault (Some i) is faults = ap (λ b. first_of (refused_if (not b) (WrongKind p.name.now)))
      (sym is) ∙ ap first_of faults
  no_fault None is faults = ap (λ b. first_of (refused_if (not b) (WrongKind p.name.now))) (sym is)
      ∙ ap first_of faults

  pub arrives : (item : ItemNo) → p.item ≡ Some item → is_kind_among allowed p.kind ≡ true
      → Reaches unit allowed all at meant p [] → (None ≡ first_of all)
      × (or_stand_in allowed (item_among allowed meant) ≡ Some (Item item))
  arrives item is among r = (
    no_fault p.item among r.faults,
    ap (λ i. or_stand_in allowed (item_among allowed i))
        (sym r.item ∙ ap (option_and_then (λ j. along unit j [])) is)
        ∙ ap (λ b. or_stand_in allowed (if b then Some (Item item) else None))
        (ap (λ k. is_kind_among allowed k) (r.kind item is) ∙ among),
  )

  pub unknown : p.item ≡ None → is_kind_among allowed p.kind ≡ true
      → Reaches unit allowed all at meant p [] → (None ≡ first_of all)
      × (or_stand_in allowed (item_among allowed meant) ≡ Some (stand_in allowed))
  unknown is among r = (
    no_fault p.item among r.faults,
    reads_nothing allowed meant (sym r.item ∙ ap (option_and_then (λ j. along unit j [])) is),
  )

-- the next member of a path
pub at_member : {X : Type 0} (name : X → Name) (unit : Description Path) (allowed : List Kind)
    (all : List Refusal) (at : TokenNo) (meant : Option ItemNo) (p : PathStep) (xs ys : List X)
    (i : ℕ) (x : X) (n : Name) → ys ≡ xs → i < length xs → x ≡ get_or ys i x → n ≡ name x
    → Reaches unit allowed all at meant p (map name (drop i xs))
    → Reaches unit allowed all at meant p (n ∷ map name (drop (i + 1) xs))
at_member name unit allowed all at meant p xs ys i x n same h is named r =
    subst (Reaches unit allowed all at meant p)
    (at_drop_more (map name) xs i x h ∙ ap (λ y. name y ∷ map name (drop (i + 1) xs))
    (sym (is ∙ ap (λ zs. get_or zs i x) same)) ∙ ap (λ m. m ∷ map name (drop (i + 1) xs))
    (sym named))
    r

pub at_none : {X : Type 0} (o : Option X) (P : Type 0) (Q : X → Type 0) → o ≡ None
    → MatchOption o P Q → P
at_none o P Q is h = subst (λ o. MatchOption o P Q) is h

pub at_some : {X : Type 0} (o : Option X) (x : X) (P : Type 0) (Q : X → Type 0) → o ≡ Some x
    → MatchOption o P Q → Q x
at_some o x P Q is h = subst (λ o. MatchOption o P Q) is h

pub weaker_ok : {T E : Type 0} (r : Result T E) (P Q : T → Type 0) → ((t : T) → P t → Q t)
    → IfOk r P → IfOk r Q
weaker_ok (Ok t) P Q w h = w t h
weaker_ok (Err e) P Q w h = tt
