-- The names of items by kind and number are those of the description.
use Rattle.std.proofs.Common.{◌≡◌, refl, sym, ap, ◌∙◌, ℕ, zero, suc, ◌+◌, ◌<◌, Bool, true, false, List, [], ◌∷◌, ◌++◌, length, map, Option, None, nat_lt, arith}
use Rattle.std.specs.Prelude.{slice_get, option_map, if◌then◌else◌}
use Rattle.std.specs.List.{flat_map}
use Rattle.std.proofs.lemmas.Bool.{ltb-true, ltb-false}
use Rattle.std.proofs.lemmas.List.{length-map}
use Rattle.std.proofs.lemmas.Option.{slice_get-map, slice_get_past}
use Rattle.edd_syntax.specs.declared.numbers.Kind.{Kind}
use Rattle.edd_syntax.specs.declared.numbers.Kind.TheVariants as kind
use Rattle.edd_syntax.specs.declared.numbers.ItemNo.{ItemNo}
use Rattle.edd_syntax.specs.declared.numbers.ItemNo.TheVariants as items_no
use Rattle.edd_syntax.specs.declared.reference.Target.{Target}
use Rattle.edd_syntax.specs.Text.{Name}
use Rattle.edd_syntax.specs.Item.{Item, Description}
use Rattle.edd_syntax.specs.Words.{Words}
use Rattle.edd_syntax.specs.Device.{item_at}
use Rattle.edd_syntax.specs.Rows.{of_kind}
use Rattle.edd_syntax.specs.Resolution.{count_of}
use Rattle.edd_image.specs.Contents.{part, NameFields, fields_of_name, contents_of}
use Rattle.edd_instructions.specs.Agreement.{counts_of, place_of_item, name_numbered}
use Rattle.edd_assembly.specs.Assembly.{Lowered, name_rows, names_of_kind, names_of, assembled}
use Rattle.edd_assembly.proofs.Cutting.{names_cut}

behind : {A : Type 0} (xs ys : List A) (m n : ℕ) → m ≡ length xs + n → slice_get (xs ++ ys) m
    ≡ slice_get ys n
behind [] ys m n is = ap (slice_get ys) (is ∙ omega arith)
behind (x ∷ xs) ys m n is = ap (slice_get (x ∷ (xs ++ ys))) (is ∙ next)
    ∙ behind xs ys (length xs + n) n refl
  where
    next : length (x ∷ xs) + n ≡ suc (length xs + n)
    next = omega arith

within : {A : Type 0} (xs ys : List A) (n : ℕ) → n < length xs → slice_get (xs ++ ys) n
    ≡ slice_get xs n
within [] ys n h = absurd (omega (arith, h))
within (x ∷ xs) ys zero h = refl
within (x ∷ xs) ys (suc n) h = within xs ys n (omega (arith, h))

module _ (items : List (Item Target)) where
  abbrev names : Kind → List Name
  names k = names_of_kind k items

  as_many : (k : Kind) → length (names k) ≡ count_of k items
  as_many k = length-map (of_kind k items) (λ (i : Item Target). i.name)

  -- the names of the kinds after a kind
  abbrev behind_variables : List Name
  behind_variables = names kind.Command
      ++ (names kind.Menu
      ++ (names kind.Collection ++ (names kind.Method ++ (names kind.Array ++ []))))

  abbrev behind_commands : List Name
  behind_commands = names kind.Menu
      ++ (names kind.Collection ++ (names kind.Method ++ (names kind.Array ++ [])))

  abbrev behind_menus : List Name
  behind_menus = names kind.Collection ++ (names kind.Method ++ (names kind.Array ++ []))

  abbrev behind_collections : List Name
  behind_collections = names kind.Method ++ (names kind.Array ++ [])

  abbrev behind_methods : List Name
  behind_methods = names kind.Array ++ []

  past_variables : (n : ℕ) → slice_get (names_of items) (count_of kind.Variable items + n)
      ≡ slice_get behind_variables n
  past_variables n = behind (names kind.Variable) behind_variables (count_of kind.Variable items
      + n) n (omega (arith, as_many kind.Variable))

  past_commands : (n : ℕ) → slice_get (names_of items) (count_of kind.Variable items
      + count_of kind.Command items + n) ≡ slice_get behind_commands n
  past_commands n =
      behind (names kind.Variable) behind_variables (count_of kind.Variable items
      + count_of kind.Command items + n) (count_of kind.Command items + n)
      (omega (arith, as_many kind.Variable))
      ∙ behind (names kind.Command) behind_commands (count_of kind.Command items + n) n
      (omega (arith, as_many kind.Command))

  past_menus : (n : ℕ) → slice_get (names_of items) (count_of kind.Variable items
      + count_of kind.Command items + count_of kind.Menu items + n) ≡ slice_get behind_menus n
  past_menus n =
      ap (slice_get (names_of items)) (omega arith) ∙ past_commands (count_of kind.Menu items + n)
      ∙ behind (names kind.Menu) behind_menus (count_of kind.Menu items + n) n
      (omega (arith, as_many kind.Menu))

  past_collections : (n : ℕ)
      → slice_get (names_of items) (count_of kind.Variable items + count_of kind.Command items
      + count_of kind.Menu items + count_of kind.Collection items + n)
      ≡ slice_get behind_collections n
  past_collections n =
      ap (slice_get (names_of items)) (omega arith)
      ∙ past_menus (count_of kind.Collection items + n)
      ∙ behind (names kind.Collection) behind_collections (count_of kind.Collection items + n) n
      (omega (arith, as_many kind.Collection))

  past_methods : (n : ℕ)
      → slice_get (names_of items) (count_of kind.Variable items + count_of kind.Command items
      + count_of kind.Menu items + count_of kind.Collection items + count_of kind.Method items + n)
      ≡ slice_get behind_methods n
  past_methods n =
      ap (slice_get (names_of items)) (omega arith)
      ∙ past_collections (count_of kind.Method items + n)
      ∙ behind (names kind.Method) behind_methods (count_of kind.Method items + n) n
      (omega (arith, as_many kind.Method))

  of_its_kind : (k : Kind) (n : ℕ) → slice_get (names k) n
      ≡ option_map (λ i. i.name) (slice_get (of_kind k items) n)
  of_its_kind k n = slice_get-map (λ (i : Item Target). i.name) (of_kind k items) n

  -- the name that is read where there is such an item
  by_number : (k : Kind) (n : ℕ) (read : Option Name)
      → (n < length (names k) → read ≡ slice_get (names k) n) → (b : Bool)
      → nat_lt n (count_of k items) ≡ b → (if b then read else None)
      ≡ option_map (λ i. i.name) (slice_get (of_kind k items) n)
  by_number k n read is true below =
      is (omega (arith, as_many k, ltb-true n (count_of k items) below)) ∙ of_its_kind k n
  by_number k n read is false past = ap (option_map (λ (i : Item Target). i.name))
      (sym (slice_get_past (of_kind k items) n (ltb-false n (count_of k items) past)))

module _ (unit : Description Target) (lowered : List Lowered) (strings : List Words) where
  read_is : (place : ℕ) → option_map (λ r. part r.span (flat_map (λ n. n) (names_of unit.items)))
      (slice_get (map fields_of_name (name_rows 0 (names_of unit.items))) place)
      ≡ slice_get (names_of unit.items) place
  read_is place =
      sym (slice_get-map (λ (r : NameFields). part r.span (flat_map (λ n. n) (names_of unit.items)))
      (map fields_of_name (name_rows 0 (names_of unit.items))) place)
      ∙ ap (λ ns. slice_get ns place) (names_cut (names_of unit.items))

  abbrev read_at : ItemNo → Option Name
  read_at i = option_map (λ r. part r.span (flat_map (λ n. n) (names_of unit.items)))
      (slice_get (map fields_of_name (name_rows 0 (names_of unit.items)))
      (place_of_item (counts_of unit.identification unit.items (length strings)) i))

  pub names_agree : (i : ItemNo) → name_numbered (contents_of (assembled unit lowered strings)) i
      ≡ option_map (λ x. x.name) (item_at unit i)
  unfolding assembled
  names_agree (items_no.Variable n) =
      by_number unit.items kind.Variable n.0 (read_at (items_no.Variable n))
      (λ h. read_is n.0 ∙ within (names unit.items kind.Variable) (behind_variables unit.items) n.0
      h)
      (nat_lt n.0 (count_of kind.Variable unit.items)) refl
  names_agree (items_no.Command n) =
      by_number unit.items kind.Command n.0 (read_at (items_no.Command n))
      (λ h. read_is (count_of kind.Variable unit.items + n.0) ∙ past_variables unit.items n.0
      ∙ within (names unit.items kind.Command) (behind_commands unit.items) n.0 h)
      (nat_lt n.0 (count_of kind.Command unit.items)) refl
  names_agree (items_no.Menu n) =
      by_number unit.items kind.Menu n.0 (read_at (items_no.Menu n))
      (λ h. read_is (count_of kind.Variable unit.items + count_of kind.Command unit.items + n.0)
      ∙ past_commands unit.items n.0 ∙ within (names unit.items kind.Menu)
      (behind_menus unit.items) n.0 h)
      (nat_lt n.0 (count_of kind.Menu unit.items)) refl
  names_agree (items_no.Collection n) =
      by_number unit.items kind.Collection n.0 (read_at (items_no.Collection n))
      (λ h. read_is (count_of kind.Variable unit.items + count_of kind.Command unit.items
      + count_of kind.Menu unit.items + n.0) ∙ past_menus unit.items n.0
      ∙ within (names unit.items kind.Collection) (behind_collections unit.items) n.0 h)
      (nat_lt n.0 (count_of kind.Collection unit.items)) refl
  names_agree (items_no.Method n) =
      by_number unit.items kind.Method n.0 (read_at (items_no.Method n))
      (λ h. read_is (count_of kind.Variable unit.items + count_of kind.Command unit.items
      + count_of kind.Menu unit.items + count_of kind.Collection unit.items + n.0)
      ∙ past_collections unit.items n.0
      ∙ within (names unit.items kind.Method) (behind_methods unit.items) n.0 h)
      (nat_lt n.0 (count_of kind.Method unit.items)) refl
  names_agree (items_no.Array n) =
      by_number unit.items kind.Array n.0 (read_at (items_no.Array n))
      (λ h. read_is (count_of kind.Variable unit.items + count_of kind.Command unit.items
      + count_of kind.Menu unit.items + count_of kind.Collection unit.items
      + count_of kind.Method unit.items + n.0)
      ∙ past_methods unit.items n.0 ∙ within (names unit.items kind.Array) [] n.0 h)
      (nat_lt n.0 (count_of kind.Array unit.items)) refl
