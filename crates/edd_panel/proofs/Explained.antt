-- In a sitting each level and the variable that is open were offered, and values change as they may.
use Rattle.std.proofs.Common.{◌≡◌, refl, sym, ap, subst, ◌∙◌, ℕ, ℤ, Bool, true, false, List, [], ◌∷◌, ◌++◌, Option, Some, None, inl, inr, append_assoc}
use Rattle.std.specs.Prelude.{◌||◌, slice_set, option_map}
use Rattle.edd_syntax.specs.Answers.{Answer}
use Rattle.edd_syntax.specs.declared.answer.Trap.{Trap}
use Rattle.edd_syntax.specs.declared.numbers.ItemNo.{ItemNo}
use Rattle.edd_syntax.specs.declared.numbers.ItemNo.TheVariants as items
use Rattle.edd_syntax.specs.DeviceValues.{value_at}
use Rattle.edd_image.specs.Fields.{counts_in}
use Rattle.edd_machine.specs.Types.{types_in}
use Rattle.edd_port.specs.declared.turn.Turn.{Turn}
use Rattle.edd_port.specs.declared.turn.Turn.TheVariants as turn
use Rattle.edd_port.specs.Runs.{Run}
use Rattle.edd_port.specs.Turns.{turn_of}
use Rattle.edd_panel.specs.declared.command.Command.{Command}
use Rattle.edd_panel.specs.declared.command.Command.TheVariants as command
use Rattle.edd_panel.specs.declared.command.Happened.{Happened}
use Rattle.edd_panel.specs.declared.command.Happened.TheVariants as happened
use Rattle.edd_panel.specs.declared.entries.Entry.{Entry}
use Rattle.edd_panel.specs.declared.fault.EditFault.{EditFault}
use Rattle.edd_panel.specs.declared.place.Field.{Field}
use Rattle.edd_panel.specs.declared.place.Level.{Level}
use Rattle.edd_panel.specs.declared.place.Place.{Place}
use Rattle.edd_panel.specs.declared.place.Place.TheVariants as place
use Rattle.edd_panel.specs.Advances.{after_steps, settled}
use Rattle.edd_panel.specs.Edits.{Decides, Rules, edit_fault, reads_of}
use Rattle.edd_panel.specs.Happens.{AtMenu, AtVariable, EditsBy, Enters, GoesBack, InMethod, OpensItem, OpensOne, deepest, is_read_only, level_of}
use Rattle.edd_panel.specs.Replies.{after_answer}
use Rattle.edd_panel.specs.Screens.{IsAmong, IsScreen, Offers, numbered}
use Rattle.edd_panel.specs.Sittings.{Act, Taken, Answered, Advanced, AreExplained, Does, IsExplained, IsSitting, IsWay, Step, place_of}
use Rattle.edd_panel.specs.Standing.{Standing, opened}
use Rattle.edd_panel.proofs.Offered.{among_first, later, numbered_is_offered}

-- ---- levels and rights

or_left : (a b : Bool) → (a || b) ≡ false → a ≡ false
or_left true b e = absurd cc
or_left false b e = refl

or_right : (a b : Bool) → (a || b) ≡ false → b ≡ false
or_right true b e = absurd cc
or_right false b e = e

free : (read_only : Bool) (rules : Rules) (old n : ℤ) → edit_fault rules read_only old n ≡ None
    → read_only ≡ false
free true rules old n e = absurd cc
free false rules old n e = refl

deepest_of : (x : Level) (above : List Level) (l : Level) (below : List Level)
    → deepest x (above ++ l ∷ below) ≡ deepest l below
deepest_of x [] l below = refl
deepest_of x (a ∷ above) l below = deepest_of a above l below

at_level : (path above : List Level) (l : Level) (below : List Level) → path ≡ above ++ l ∷ below
    → level_of path ≡ deepest l below
at_level path above l below is = ap level_of is
    ∙ deepest_of (record { place = place.Top; read_only = false }) above l below

-- a level that is entered is the last one, and the others are those of before
data Split (path : List Level) (new : Level) (above : List Level) (l : Level) (below : List Level)
    : Type 0 where
  Last : path ≡ above → new ≡ l → Split path new above l below
  Upper : (rest : List Level) → path ≡ above ++ l ∷ rest → Split path new above l below

one_level : (x y : Level) (xs ys : List Level) → x ∷ xs ≡ y ∷ ys → x ≡ y
one_level x y xs ys is = cc

levels_behind : (x y : Level) (xs ys : List Level) → x ∷ xs ≡ y ∷ ys → xs ≡ ys
levels_behind x y xs ys is = cc

no_level : (x : Level) (xs ys : List Level) → [] ≡ xs ++ x ∷ ys → ⊥
no_level x [] ys is = absurd cc
no_level x (y ∷ xs) ys is = absurd cc

split : (path : List Level) (new : Level) (above : List Level) (l : Level) (below : List Level)
    → path ++ new ∷ [] ≡ above ++ l ∷ below → Split path new above l below
split [] new [] l below is = Last refl (one_level new l [] below is)
split [] new (a ∷ above) l below is =
    absurd (no_level l above below (levels_behind new a [] (above ++ l ∷ below) is))
split (p ∷ path) new [] l below is =
    Upper path (ap (λ (x : Level). x ∷ path) (one_level p l (path ++ new ∷ []) below is))
split (p ∷ path) new (a ∷ above) l below is =
    let first : p ≡ a = one_level p a (path ++ new ∷ []) (above ++ l ∷ below) is in
    elim (split path new above l below (levels_behind p a (path ++ new ∷ []) (above ++ l ∷ below) is)) [
      | Last same e ↦ Last (ap (λ (x : Level). x ∷ path) first ∙ ap (λ (xs : List Level). a ∷ xs) same) e
      | Upper rest e ↦ Upper rest (ap (λ (x : Level). x ∷ path) first
          ∙ ap (λ (xs : List Level). a ∷ xs) e)
    ]

same_field : (f g : Field) → Some f ≡ Some g → f ≡ g
same_field f g is = cc

module _ (b : List ℕ) where
  -- ---- what each panel of a sitting keeps

  -- a panel, at its level, offered an entry that opens the level
  Opened : Standing → Level → Type 0
  Opened t l = (e : Entry) × Offers (counts_in b) (reads_of b t.values) (level_of t.path).place e
      × (place_of e.item ≡ Some l.place)
      × (l.read_only ≡ ((level_of t.path).read_only || is_read_only e.qualifiers))

  -- each level of the path was entered from those above it
  Way : List Standing → List Level → Type 0
  Way past path = (above : List Level) (l : Level) (below : List Level) → path ≡ above ++ l ∷ below
      → (t : Standing) × IsAmong past t × (t.path ≡ above) × Opened t l

  -- the variable that is open is offered
  FieldOpened : Standing → Type 0
  FieldOpened s = (f : Field) → s.field ≡ Some f
      → (e : Entry) × Offers (counts_in b) (reads_of b s.values) (level_of s.path).place e
      × (e.item ≡ items.Variable f.variable)
      × (f.read_only ≡ ((level_of s.path).read_only || is_read_only e.qualifiers))

  -- while a method runs no variable is open
  Quiet : Standing → Type 0
  Quiet s = (r : Run) → s.run ≡ Some r → s.field ≡ None

  record Stands (past : List Standing) (s : Standing) : Type 0 where
    way : Way past s.path
    field : FieldOpened s
    quiet : Quiet s
    image : s.image ≡ b

  -- what an act keeps, and how its values are explained
  record Goes (past : List Standing) (before : Standing) (act : Act) (after : Standing) : Type 0 where
    stands : Stands (before ∷ past) after
    explained : IsExplained (counts_in b) (types_in b) (reads_of b) (before ∷ past) before act after

  way_later : (past : List Standing) (s : Standing) (path : List Level) → Way past path
      → Way (s ∷ past) path
  unfolding Way Opened
  way_later past s path way = λ above l below is.
      let t = way above l below is in (t.0, later s past t.0 t.1, t.2, t.3)

  no_field : (s : Standing) → s.field ≡ None → FieldOpened s
  unfolding FieldOpened
  no_field s none = λ f is. let both : None ≡ Some f = sym none ∙ is in absurd cc

  closed : (s : Standing) → s.field ≡ None → Quiet s
  unfolding Quiet
  closed s none = λ r is. none

  no_run : (s : Standing) → s.run ≡ None → Quiet s
  unfolding Quiet
  no_run s none = λ r is. let both : None ≡ Some r = sym none ∙ is in absurd cc

  -- the values stay
  keeps : (past : List Standing) (before : Standing) (act : Act) (after s : Standing) → after ≡ s
      → s.values ≡ before.values → Stands (before ∷ past) s → Goes past before act after
  keeps past before act after s is values stands = record {
    stands = subst (λ (x : Standing). Stands (before ∷ past) x) (sym is) stands;
    explained = inl (ap (λ (x : Standing). x.values) is ∙ values);
  }

  -- nothing changes
  stays : (past : List Standing) (before : Standing) (act : Act) (after : Standing)
      → Stands past before → after ≡ before → Goes past before act after
  stays past before act after stands is = keeps past before act after before is refl (record {
    way = way_later past before before.path stands.way;
    field = stands.field;
    quiet = stands.quiet;
    image = stands.image;
  })

  -- only the run changes, from one to another
  runs : (past : List Standing) (before : Standing) (act : Act) (after : Standing)
      (r : Run) (next : Option Run) → Stands past before → before.run ≡ Some r
      → after ≡ record before { run = next } → Goes past before act after
  unfolding FieldOpened Quiet
  runs past before act after r next stands has is =
      keeps past before act after (record before { run = next }) is refl (record {
        way = way_later past before before.path stands.way;
        field = stands.field;
        quiet = λ other e. stands.quiet r has;
        image = stands.image;
      })

  -- the variable is left
  leaves : (past : List Standing) (before : Standing) (act : Act) (after : Standing)
      → Stands past before → after ≡ record before { field = None } → Goes past before act after
  leaves past before act after stands is =
      keeps past before act after (record before { field = None }) is refl (record {
        way = way_later past before before.path stands.way;
        field = no_field (record before { field = None }) refl;
        quiet = closed (record before { field = None }) refl;
        image = stands.image;
      })

  -- ---- an edit

  -- where the deepest level is not READ_ONLY, no level of the path is
  all_free : (past : List Standing) (path : List Level) → Way past path
      → (level_of path).read_only ≡ false
      → (below above : List Level) (l : Level) → path ≡ above ++ l ∷ below → l.read_only ≡ false
  unfolding Way Opened
  all_free past path way last [] above l is =
      sym (ap (λ (x : Level). x.read_only) (at_level path above l [] is)) ∙ last
  all_free past path way last (m ∷ below) above l is =
      let split : path ≡ (above ++ l ∷ []) ++ m ∷ below =
      is ∙ sym (append_assoc above (l ∷ []) (m ∷ below)) in
      let lower : m.read_only ≡ false = all_free past path way last below (above ++ l ∷ []) m split in
      let from = way (above ++ l ∷ []) m below split in
      let upper : (level_of from.0.path).read_only ≡ false =
      or_left _ _ (sym from.3.3 ∙ lower) in
      sym (ap (λ (x : Level). x.read_only) (at_level from.0.path above l [] from.2)) ∙ upper

  free_way : (past : List Standing) (path : List Level) → Way past path
      → (level_of path).read_only ≡ false → IsWay (counts_in b) (types_in b) (reads_of b) past path
  unfolding Way Opened
  free_way past path way last = λ above l below is.
      let from = way above l below is in
      let not_read_only : l.read_only ≡ false = all_free past path way last below above l is in (
        from.0,
        from.1,
        from.2,
        (
          from.3.0.item,
          (from.3.0, from.3.1, refl, or_right _ _ (sym from.3.3 ∙ not_read_only)),
          from.3.2,
        ),
      )

  edits : (past : List Standing) (before : Standing) (n : ℤ) (h : Happened) (after : Standing) (f : Field)
      → Stands past before → before.field ≡ Some f
      → Decides before.image before.values f.variable f.read_only n None
      → after ≡ record before { values = slice_set before.values f.variable.0 n; field = None }
      → Goes past before (Taken (command.Number n) h) after
  unfolding FieldOpened
  edits past before n h after f stands has allowed is =
      let edited : Standing =
      record before { values = slice_set before.values f.variable.0 n; field = None } in
      let open_by = stands.field f has in
      let may : Decides b before.values f.variable f.read_only n None =
      subst (λ (i : List ℕ). Decides i before.values f.variable f.read_only n None)
      stands.image allowed in
      let unlocked : f.read_only ≡ false = free f.read_only may.0 (value_at before.values f.variable) n may.2 in
      let parts : ((level_of before.path).read_only || is_read_only open_by.0.qualifiers) ≡ false =
      sym open_by.3 ∙ unlocked in record {
        stands = subst (λ (x : Standing). Stands (before ∷ past) x) (sym is) (record {
          way = way_later past before before.path stands.way;
          field = no_field edited refl;
          quiet = closed edited refl;
          image = stands.image;
        });
        explained = inr (inl (
          f,
          n,
          h,
          has,
          refl,
          ap (λ (x : Standing). x.values) is,
          (
            may.0,
            may.1,
            subst (λ (c : Bool). edit_fault may.0 c (value_at before.values f.variable) n ≡ None)
                unlocked may.2,
          ),
          (open_by.0, open_by.1, open_by.2, or_right _ _ parts),
          free_way (before ∷ past) before.path (way_later past before before.path stands.way)
              (or_left _ _ parts),
        ));
      }

  edits_by : (past : List Standing) (before : Standing) (n : ℤ) (h : Happened) (after : Standing) (f : Field)
      (why : Option EditFault) → Stands past before → before.field ≡ Some f
      → Decides before.image before.values f.variable f.read_only n why
      → EditsBy before f n why h after → Goes past before (Taken (command.Number n) h) after
  edits_by past before n h after f None stands has decides by =
      edits past before n h after f stands has decides by.1
  edits_by past before n h after f (Some why) stands has decides by =
      stays past before (Taken (command.Number n) h) after stands by.1

  at_variable : (past : List Standing) (before : Standing) (c : Command) (h : Happened) (after : Standing)
      (f : Field) → Stands past before → before.field ≡ Some f → AtVariable before f c h after
      → Goes past before (Taken c h) after
  at_variable past before (command.Number n) h after f stands has does =
      edits_by past before n h after f does.0 stands has does.1 does.2
  at_variable past before command.Enter h after f stands has does =
      leaves past before (Taken command.Enter h) after stands does.1
  at_variable past before command.Back h after f stands has does =
      leaves past before (Taken command.Back h) after stands does.1
  at_variable past before command.Abort h after f stands has does =
      stays past before (Taken command.Abort h) after stands does.1

  -- ---- at a menu

  -- a level that the panel offers is entered
  way_more : (past : List Standing) (before : Standing) (new : Level) → Way past before.path
      → Opened before new → Way (before ∷ past) (before.path ++ new ∷ [])
  unfolding Way Opened
  way_more past before new way offered = λ above l below is.
      elim (split before.path new above l below is) [
        | Last same e ↦ (
          before,
          among_first before past,
          same,
          subst (λ (x : Level). (e' : Entry)
              × Offers (counts_in b) (reads_of b before.values) (level_of before.path).place e'
              × (place_of e'.item ≡ Some x.place)
              × (x.read_only ≡ ((level_of before.path).read_only || is_read_only e'.qualifiers)))
              e offered,
        )
        | Upper rest e ↦ way_later past before before.path way above l rest e
      ]

  enters : (past : List Standing) (before : Standing) (act : Act) (after : Standing) (h : Happened)
      (e : Entry) (p : Place) → Stands past before → before.run ≡ None → before.field ≡ None
      → Offers (counts_in b) (reads_of b before.values) (level_of before.path).place e
      → place_of e.item ≡ Some p
      → Enters before p ((level_of before.path).read_only || is_read_only e.qualifiers) h after
      → Goes past before act after
  unfolding Opened
  enters past before act after h e p stands idle none offers is does =
      let new : Level = record {
        place = p;
        read_only = (level_of before.path).read_only || is_read_only e.qualifiers;
      } in
      let entered : Standing = record before { path = before.path ++ new ∷ [] } in
      keeps past before act after entered does.1 refl (record {
        way = way_more past before new stands.way (e, offers, is, refl);
        field = no_field entered none;
        quiet = no_run entered idle;
        image = stands.image;
      })

  opens_field : (past : List Standing) (before : Standing) (act : Act) (after : Standing) (e : Entry)
      (f : Field) → Stands past before → before.run ≡ None
      → Offers (counts_in b) (reads_of b before.values) (level_of before.path).place e
      → e.item ≡ items.Variable f.variable
      → f.read_only ≡ ((level_of before.path).read_only || is_read_only e.qualifiers)
      → after ≡ record before { field = Some f } → Goes past before act after
  unfolding FieldOpened
  opens_field past before act after e f stands idle offers item read_only is =
      let with_field : Standing = record before { field = Some f } in
      keeps past before act after with_field is refl (record {
        way = way_later past before before.path stands.way;
        field = λ g same. subst (λ (x : Field). (e' : Entry)
            × Offers (counts_in b) (reads_of b before.values) (level_of before.path).place e'
            × (e'.item ≡ items.Variable x.variable)
            × (x.read_only ≡ ((level_of before.path).read_only || is_read_only e'.qualifiers)))
            (same_field f g same) (e, offers, item, read_only);
        quiet = no_run with_field idle;
        image = stands.image;
      })

  starts : (past : List Standing) (before : Standing) (act : Act) (after : Standing) (r : Run)
      → Stands past before → before.field ≡ None → after ≡ record before { run = Some r }
      → Goes past before act after
  unfolding FieldOpened
  starts past before act after r stands none is =
      keeps past before act after (record before { run = Some r }) is refl (record {
        way = way_later past before before.path stands.way;
        field = stands.field;
        quiet = closed (record before { run = Some r }) none;
        image = stands.image;
      })

  opens_item : (past : List Standing) (before : Standing) (act : Act) (h : Happened) (after : Standing)
      (e : Entry) (item : ItemNo) → Stands past before → before.run ≡ None → before.field ≡ None
      → Offers (counts_in b) (reads_of b before.values) (level_of before.path).place e
      → e.item ≡ item
      → OpensItem before item ((level_of before.path).read_only || is_read_only e.qualifiers) h after
      → Goes past before act after
  opens_item past before act h after e (items.Variable v) stands idle none offers is does =
      opens_field past before act after e
      (record { variable = v; read_only = (level_of before.path).read_only || is_read_only e.qualifiers })
      stands idle offers is refl does.1
  opens_item past before act h after e (items.Menu m) stands idle none offers is does =
      enters past before act after h e (place.Menu m) stands idle none offers (ap place_of is) does
  opens_item past before act h after e (items.Collection m) stands idle none offers is does =
      enters past before act after h e (place.Collection m) stands idle none offers (ap place_of is) does
  opens_item past before act h after e (items.Method m) stands idle none offers is does = elim does [
    | inl started ↦ starts past before act after started.1.0 stands none started.1.1
    | inr refused ↦ stays past before act after stands refused.2
  ]
  opens_item past before act h after e (items.Command m) stands idle none offers is does =
      stays past before act after stands does.1
  opens_item past before act h after e (items.Array m) stands idle none offers is does =
      stays past before act after stands does.1

  by_trap : (past : List Standing) (before : Standing) (act : Act) (h : Happened) (after : Standing)
      (e : Entry) (trap : Option Trap) → Stands past before → before.run ≡ None → before.field ≡ None
      → (trap ≡ None → Offers (counts_in b) (reads_of b before.values) (level_of before.path).place e)
      → elim trap as (λ _. Type 0) [
        | Some why ↦ (h ≡ happened.Trapped why) × (after ≡ before)
        | None ↦ OpensItem before e.item
            ((level_of before.path).read_only || is_read_only e.qualifiers) h after
      ]
      → Goes past before act after
  by_trap past before act h after e (Some why) stands idle none offers does =
      stays past before act after stands does.1
  by_trap past before act h after e None stands idle none offers does =
      opens_item past before act h after e e.item stands idle none (offers refl) refl does

  opens_one : (past : List Standing) (before : Standing) (act : Act) (h : Happened) (after : Standing)
      (o : Option Entry) → Stands past before → before.run ≡ None → before.field ≡ None
      → ((e : Entry) → o ≡ Some e → e.trap ≡ None
      → Offers (counts_in b) (reads_of b before.values) (level_of before.path).place e)
      → OpensOne before (level_of before.path) o h after → Goes past before act after
  opens_one past before act h after None stands idle none offers does =
      stays past before act after stands does.1
  opens_one past before act h after (Some e) stands idle none offers does =
      by_trap past before act h after e e.trap stands idle none (offers e refl) does

  goes_back : (past : List Standing) (before : Standing) (act : Act) (h : Happened) (after : Standing)
      → Stands past before → before.run ≡ None → before.field ≡ None → GoesBack before h after
      → Goes past before act after
  unfolding Way
  goes_back past before act h after stands idle none does = elim does [
    | inl top ↦ stays past before act after stands top.2
    | inr left ↦
        let shorter : Standing = record before { path = after.path } in
        let upper : Way past after.path = λ above l below is.
        stands.way above l (below ++ left.0.0 ∷ [])
        (left.0.1 ∙ ap (λ (xs : List Level). xs ++ left.0.0 ∷ []) is
        ∙ append_assoc above (l ∷ below) (left.0.0 ∷ [])) in
        keeps past before act after shorter left.2 refl (record {
          way = way_later past before after.path upper;
          field = no_field shorter none;
          quiet = no_run shorter idle;
          image = stands.image;
        })
  ]

  at_menu : (past : List Standing) (before : Standing) (c : Command) (h : Happened) (after : Standing)
      → Stands past before → before.run ≡ None → before.field ≡ None → AtMenu before c h after
      → Goes past before (Taken c h) after
  at_menu past before (command.Number n) h after stands idle none does =
      opens_one past before (Taken (command.Number n) h) h after (numbered does.0 n) stands idle none
      (λ e is untrapped. numbered_is_offered (counts_in b) (reads_of b before.values)
      (level_of before.path).place does.0 does.1 n e
      (subst (λ (i : List ℕ). IsScreen (counts_in i) (reads_of i before.values)
      (level_of before.path).place does.0 does.1) stands.image does.2) is untrapped) does.3
  at_menu past before command.Back h after stands idle none does =
      goes_back past before (Taken command.Back h) h after stands idle none does
  at_menu past before command.Enter h after stands idle none does =
      stays past before (Taken command.Enter h) after stands does.1
  at_menu past before command.Abort h after stands idle none does =
      stays past before (Taken command.Abort h) after stands does.1

  -- ---- any act

  by_field : (past : List Standing) (before : Standing) (c : Command) (h : Happened) (after : Standing)
      (field : Option Field) → Stands past before → before.run ≡ None → before.field ≡ field
      → elim field as (λ _. Type 0) [ Some f ↦ AtVariable before f c h after | None ↦ AtMenu before c h after ]
      → Goes past before (Taken c h) after
  by_field past before c h after (Some f) stands idle has does =
      at_variable past before c h after f stands has does
  by_field past before c h after None stands idle none does =
      at_menu past before c h after stands idle none does

  by_run : (past : List Standing) (before : Standing) (c : Command) (h : Happened) (after : Standing)
      (run : Option Run) → Stands past before → before.run ≡ run
      → elim run as (λ _. Type 0) [
        | Some r ↦ InMethod before r c h after
        | None ↦ elim before.field as (λ _. Type 0) [
          | Some f ↦ AtVariable before f c h after
          | None ↦ AtMenu before c h after
        ]
      ]
      → Goes past before (Taken c h) after
  by_run past before c h after (Some r) stands has does =
      runs past before (Taken c h) after r (Some does.0) stands has does.2
  by_run past before c h after None stands idle does =
      by_field past before c h after before.field stands idle refl does

  answers : (past : List Standing) (before : Standing) (answer : Answer) (after : Standing)
      (run : Option Run) → Stands past before → before.run ≡ run
      → after ≡ record before { run = option_map (λ r. after_answer r answer) run }
      → Goes past before (Answered answer) after
  answers past before answer after (Some r) stands has is =
      runs past before (Answered answer) after r (Some (after_answer r answer)) stands has is
  answers past before answer after None stands idle is =
      stays past before (Answered answer) after stands
      (is ∙ ap (λ (o : Option Run). record before { run = o }) (sym idle))

  -- the method is over, and has left its values
  is_left : (past : List Standing) (before : Standing) (budget : ℕ) (shown : Option Turn)
      (after : Standing) (r : Run) → Stands past before → before.run ≡ Some r
      → after ≡ record before { values = (after_steps r budget).state.values; run = None }
      → Goes past before (Advanced budget shown) after
  unfolding Quiet
  is_left past before budget shown after r stands has is =
      let over : Standing =
      record before { values = (after_steps r budget).state.values; run = None } in record {
        stands = subst (λ (x : Standing). Stands (before ∷ past) x) (sym is) (record {
          way = way_later past before before.path stands.way;
          field = no_field over (stands.quiet r has);
          quiet = no_run over refl;
          image = stands.image;
        });
        explained = inr (inr (r, budget, shown, refl, has, ap (λ (x : Standing). x.values) is));
      }

  by_turn : (past : List Standing) (before : Standing) (budget : ℕ) (shown : Option Turn)
      (after : Standing) (r : Run) (t : Turn) → Stands past before → before.run ≡ Some r
      → after ≡ settled t before (after_steps r budget)
      → Goes past before (Advanced budget shown) after
  by_turn past before budget shown after r (turn.Asks q) stands has is =
      runs past before (Advanced budget shown) after r (Some (after_steps r budget)) stands has is
  by_turn past before budget shown after r turn.Spent stands has is =
      runs past before (Advanced budget shown) after r (Some (after_steps r budget)) stands has is
  by_turn past before budget shown after r turn.Ended stands has is =
      is_left past before budget shown after r stands has is
  by_turn past before budget shown after r turn.Aborted stands has is =
      is_left past before budget shown after r stands has is
  by_turn past before budget shown after r (turn.Trapped why) stands has is =
      is_left past before budget shown after r stands has is

  advances : (past : List Standing) (before : Standing) (budget : ℕ) (shown : Option Turn)
      (after : Standing) (run : Option Run) → Stands past before → before.run ≡ run
      → elim run as (λ _. Type 0) [
        | Some r ↦ (shown ≡ Some (turn_of (after_steps r budget).state.status))
            × (after ≡ settled (turn_of (after_steps r budget).state.status) before
            (after_steps r budget))
        | None ↦ (shown ≡ None) × (after ≡ before)
      ]
      → Goes past before (Advanced budget shown) after
  advances past before budget shown after (Some r) stands has does =
      by_turn past before budget shown after r (turn_of (after_steps r budget).state.status) stands has
      does.1
  advances past before budget shown after None stands idle does =
      stays past before (Advanced budget shown) after stands does.1

  goes : (past : List Standing) (before : Standing) (act : Act) (after : Standing) → Stands past before
      → Does before act after → Goes past before act after
  goes past before (Taken c h) after stands does =
      by_run past before c h after before.run stands refl does
  goes past before (Answered answer) after stands does =
      answers past before answer after before.run stands refl does
  goes past before (Advanced budget shown) after stands does =
      advances past before budget shown after before.run stands refl does

  -- ---- whole sittings

  explains : (past : List Standing) (before : Standing) (steps : List Step) → Stands past before
      → IsSitting (types_in b) before steps → AreExplained (counts_in b) (types_in b) (reads_of b) past before steps
  explains past before [] stands sitting = tt
  explains past before (s ∷ rest) stands sitting =
      let step = goes past before s.act s.after stands sitting.0 in
      (step.explained, explains (before ∷ past) s.after rest step.stands sitting.2)

  pub sittings : (values : List ℤ) (steps : List Step)
      → IsSitting (types_in b) (opened b values) steps
      → AreExplained (counts_in b) (types_in b) (reads_of b) [] (opened b values) steps
  unfolding Way
  sittings values steps sitting = explains [] (opened b values) steps (record {
    way = λ above l below is. absurd (no_level l above below is);
    field = no_field (opened b values) refl;
    quiet = no_run (opened b values) refl;
    image = refl;
  }) sitting
