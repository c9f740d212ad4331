-- What an attribute means is what its tree means.
use Rattle.std.proofs.Common.{◌≡◌, refl, sym, ap, ◌∙◌, ℕ, Bool, true, false, pos, List, [], ◌∷◌, ◌++◌, map, Option, Some, None, cond}
use Rattle.std.specs.Prelude.{option_map, slice_get}
use Rattle.std.proofs.lemmas.List.{map-append}
use Rattle.std.proofs.lemmas.Option.{slice_get-map}
use Rattle.edd_syntax.specs.declared.numbers.NumberOption.TheVariants as number_option
use Rattle.edd_syntax.specs.declared.numbers.Attr.{Attr}
use Rattle.edd_syntax.specs.declared.numbers.Attr.TheVariants as attr
use Rattle.edd_syntax.specs.declared.numbers.AttrRef.{AttrRef}
use Rattle.edd_syntax.specs.declared.reference.Target.{Target}
use Rattle.edd_syntax.specs.Item as item
use Rattle.edd_syntax.specs.Item.{TypePart, TransactionPart, Attribute, Item, Description}
use Rattle.edd_syntax.specs.Words.{name_words}
use Rattle.edd_syntax.specs.Numbers.{same_attr}
use Rattle.edd_syntax.specs.Device.{Environment, environment, item_at}
use Rattle.edd_syntax.specs.Attributes as source
use Rattle.edd_syntax.specs.Attributes.{Meaning, constant, one, list, texts, expressions, handling_number, operation_number, bit, enumerator, entry, data_item, response, member, element, written_number, elements, of_part, of_parts, of_attribute, of_attributes, of_transaction_part, transactions, meaning_of, is_of_transaction}
use Rattle.edd_instructions.specs.Agreement.{item_meaning, tree_meaning}
use Rattle.edd_attrs.specs.Trees.{Tree, Texts, Class, Handling, Validity, Expressions, Enumerators, Number, Operation, Transaction, Data, ResponseCodes, Items, Members, Elements, Named, trees_of_part, trees_of_parts, trees_of_attribute, trees_of, tree_of_transaction_part, transaction_trees, first_tree, tree_in, tree_at}

module _ (env : Environment) where
  abbrev pub meaning : Tree → Meaning
  meaning (Texts c) = texts env c
  meaning (Class names) = constant (map (λ n. source.Words (name_words n)) names)
  meaning (Handling c) = one env (λ h. source.Number (pos (handling_number h))) c
  meaning (Validity c) = one env (λ valid. source.Number (pos (bit valid))) c
  meaning (Expressions c) = expressions env c
  meaning (Enumerators parts) = list env enumerator (elements env parts)
  meaning (Number n) = constant (source.Number (pos n) ∷ [])
  meaning (Operation o) = constant (source.Number (pos (operation_number o)) ∷ [])
  meaning (Transaction number) = constant (written_number number)
  meaning (Data all) = list env data_item all
  meaning (ResponseCodes responses) = constant (map response responses)
  meaning (Items entries) = list env entry entries
  meaning (Members members) = constant (map member members)
  meaning (Elements all) = constant (map element all)

  abbrev pub named : Named → source.Named
  named x = (x.0, meaning x.1)

  part_means : (p : TypePart Target) → of_part env p ≡ map named (trees_of_part p)
  part_means (item.OneNumber number_option.DefaultValue c) = refl
  part_means _ = refl

  parts_mean : (parts : List (TypePart Target))
      → of_parts env parts ≡ map named (trees_of_parts parts)
  parts_mean [] = refl
  parts_mean (p ∷ rest) =
      ap (λ (xs : List source.Named). xs ++ of_parts env rest) (part_means p)
      ∙ ap (λ (xs : List source.Named). map named (trees_of_part p) ++ xs) (parts_mean rest)
      ∙ sym (map-append named (trees_of_part p) (trees_of_parts rest))

  attribute_means : (a : Attribute Target) → of_attribute env a ≡ map named (trees_of_attribute a)
  attribute_means (item.TypeOf word parts) =
      ap (λ (xs : List source.Named). named (attr.Enumerators, Enumerators parts) ∷ xs)
      (parts_mean parts)
  attribute_means _ = refl

  attributes_mean : (attributes : List (Attribute Target)) → of_attributes env attributes
      ≡ map named (trees_of attributes)
  attributes_mean [] = refl
  attributes_mean (a ∷ rest) =
      ap (λ (xs : List source.Named). xs ++ of_attributes env rest) (attribute_means a)
      ∙ ap (λ (xs : List source.Named). map named (trees_of_attribute a) ++ xs)
      (attributes_mean rest)
      ∙ sym (map-append named (trees_of_attribute a) (trees_of rest))

  part_of_transaction_means : (p : TransactionPart Target) → of_transaction_part env p
      ≡ named (tree_of_transaction_part p)
  part_of_transaction_means (item.Request all) = refl
  part_of_transaction_means (item.Reply all) = refl

  parts_of_transaction_mean : (parts : List (TransactionPart Target))
      → map (of_transaction_part env) parts ≡ map named (map tree_of_transaction_part parts)
  parts_of_transaction_mean [] = refl
  parts_of_transaction_mean (p ∷ rest) =
      ap (λ (x : source.Named). x ∷ map (of_transaction_part env) rest)
      (part_of_transaction_means p)
      ∙ ap (λ (xs : List source.Named). named (tree_of_transaction_part p) ∷ xs)
      (parts_of_transaction_mean rest)

  transactions_mean : (attributes : List (Attribute Target)) → transactions env attributes
      ≡ map (map named) (transaction_trees attributes)
  transactions_mean [] = refl
  transactions_mean (item.Transaction number parts ∷ rest) =
      ap (λ (xs : List source.Named). (named (attr.Transaction, Transaction number) ∷ xs)
      ∷ transactions env rest) (parts_of_transaction_mean parts)
      ∙ ap (λ (xs : List (List source.Named)). (named (attr.Transaction, Transaction number)
      ∷ map named (map tree_of_transaction_part parts)) ∷ xs) (transactions_mean rest)
  transactions_mean (_ ∷ rest) = transactions_mean rest

  -- a tree that isn't there gives nothing
  abbrev pub meaning_at : Option Tree → Meaning
  meaning_at None = constant []
  meaning_at (Some t) = meaning t

  first_means : (a : Attr) (xs : List Named) → meaning_of a (map named xs)
      ≡ meaning_at (first_tree a xs)
  first_means a [] = refl
  first_means a (x ∷ rest) = here (same_attr x.0 a) (first_means a rest)
    where
      here : (b : Bool) → meaning_of a (map named rest) ≡ meaning_at (first_tree a rest)
          → elim b as (λ _. Meaning) [ true ↦ meaning x.1 | false ↦ meaning_of a (map named rest) ]
          ≡ meaning_at (elim b as (λ _. Option Tree) [
            | true ↦ Some x.1
            | false ↦ first_tree a rest
          ])
      here true same = refl
      here false same = same

  abbrev meaning_in_transaction : Attr → Option (List source.Named) → Meaning
  meaning_in_transaction a None = constant []
  meaning_in_transaction a (Some transaction) = meaning_of a transaction

  in_transaction : (a : Attr) (o : Option (List Named))
      → meaning_in_transaction a (option_map (map named) o)
      ≡ meaning_at (elim o as (λ _. Option Tree) [ Some trees ↦ first_tree a trees | None ↦ None ])
  in_transaction a None = refl
  in_transaction a (Some trees) = first_means a trees

  unwrapped : (a : Attr) (o : Option (List source.Named))
      → elim o as (λ _. Meaning) [
        | Some transaction ↦ meaning_of a transaction
        | None ↦ constant []
      ] ≡ meaning_in_transaction a o
  unwrapped a None = refl
  unwrapped a (Some transaction) = refl

  item_means : (i : Item Target) (a : Attr) (sub : ℕ) → item_meaning env i a sub
      ≡ meaning_at (tree_in i.attributes a sub)
  item_means i a sub = by_kind (is_of_transaction a) _ _ _ _
      (unwrapped a (slice_get (transactions env i.attributes) sub)
      ∙ ap (λ (ts : List (List source.Named)). meaning_in_transaction a (slice_get ts sub))
      (transactions_mean i.attributes)
      ∙ ap (meaning_in_transaction a) (slice_get-map (map named) (transaction_trees i.attributes)
      sub)
      ∙ in_transaction a (slice_get (transaction_trees i.attributes) sub))
      (ap (meaning_of a) (attributes_mean i.attributes) ∙ first_means a (trees_of i.attributes))
    where
      by_kind : (b : Bool) (m n : Meaning) (s t : Option Tree) → m ≡ meaning_at s → n ≡ meaning_at t
          → cond b m n ≡ meaning_at (cond b s t)
      by_kind true m n s t h k = h
      by_kind false m n s t h k = k

pub unit_means : (unit : Description Target) (ref : AttrRef) → tree_meaning unit ref
    ≡ meaning_at (environment unit) (tree_at unit ref)
unfolding tree_meaning tree_at
unit_means unit ref = of_item (item_at unit ref.item)
  where
    of_item : (o : Option (Item Target))
        → elim o as (λ _. Meaning) [
          | Some i ↦ item_meaning (environment unit) i ref.attr ref.sub
          | None ↦ constant []
        ]
        ≡ meaning_at (environment unit)
        (elim o as (λ _. Option Tree) [
          | Some i ↦ tree_in i.attributes ref.attr ref.sub
          | None ↦ None
        ])
    of_item None = refl
    of_item (Some i) = item_means (environment unit) i ref.attr ref.sub
