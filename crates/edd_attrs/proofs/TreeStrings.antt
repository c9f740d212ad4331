-- The strings of the records of a tree are those of the tree.
use Rattle.std.proofs.Common.{◌≡◌, refl, sym, ap, ◌∙◌, Bool, true, List, [], ◌∷◌, ◌++◌, map, Option, Some, None}
use Rattle.std.specs.List.{flat_map, list_all}
use Rattle.std.proofs.lemmas.List.{map-append}
use Rattle.edd_syntax.specs.declared.reference.Target.{Target}
use Rattle.edd_syntax.specs.declared.types.Handling as handling
use Rattle.edd_syntax.specs.Attributes.{enumerator, data_item, response, entry, member, element}
use Rattle.edd_syntax.specs.Conditional.{Cond, Conds}
use Rattle.edd_syntax.specs.Expression.{Expr}
use Rattle.edd_syntax.specs.Item as item
use Rattle.edd_syntax.specs.Item.{DataItem, MenuEntry, TypePart}
use Rattle.edd_syntax.specs.Strings.{enumerator_texts, entry_texts, array_element_texts, optional_text, strings_of_texts, member_strings}
use Rattle.edd_syntax.specs.SubsetRules.{values_in, values_of}
use Rattle.edd_syntax.specs.Text as texts
use Rattle.edd_syntax.specs.Words.{Words, words_of, name_words}
use Rattle.edd_attrs.specs.Records.{text_record, class_record, handling_record, validity_record, strings_of_record}
use Rattle.edd_attrs.specs.Sizes.{element_texts, tree_strings}
use Rattle.edd_attrs.specs.TreeBlocks.{elements}
use Rattle.edd_attrs.specs.Trees.{Texts, Class, Handling, Validity, Expressions, Enumerators, Data, ResponseCodes, Items, Members, Elements}
use Rattle.edd_attrs.specs.Writing.{cond_strings, conds_strings, element_strings, enumerator_strings}
use Rattle.edd_attrs.proofs.Flat.{element_strings_are}

-- ---- lists of lists

none_each : {X A : Type 0} (f : X → List A) (xs : List X) → ((x : X) → f x ≡ [])
    → flat_map f xs ≡ []
none_each f [] none = refl
none_each {X} {A} f (x ∷ xs) none = ap (λ (ys : List A). ys ++ flat_map f xs) (none x)
    ∙ none_each f xs none

same_each : {X A : Type 0} (f g : X → List A) (xs : List X) → ((x : X) → f x ≡ g x)
    → flat_map f xs ≡ flat_map g xs
same_each f g [] same = refl
same_each {X} {A} f g (x ∷ xs) same = ap (λ (ys : List A). ys ++ flat_map f xs) (same x)
    ∙ ap (λ (ys : List A). g x ++ ys) (same_each f g xs same)

one_each : {X A : Type 0} (f : X → A) (xs : List X) → flat_map (λ x. f x ∷ []) xs ≡ map f xs
one_each f [] = refl
one_each {X} {A} f (x ∷ xs) = ap (λ (ys : List A). f x ∷ ys) (one_each f xs)

map_flat : {X Y A : Type 0} (f : Y → A) (g : X → List Y) (xs : List X)
    → flat_map (λ x. map f (g x)) xs ≡ map f (flat_map g xs)
map_flat f g [] = refl
map_flat {X} {Y} {A} f g (x ∷ xs) = ap (λ (ys : List A). map f (g x) ++ ys) (map_flat f g xs)
    ∙ sym (map-append f (g x) (flat_map g xs))

-- a test that always passes
pub always : {V : Type 0} (all : List V) → list_all (λ v. true) all ≡ true
always [] = refl
always (v ∷ rest) = always rest

-- ---- each element

of_enumerator : (e : item.Enumerator) → enumerator_strings e ≡ strings_of_texts (enumerator_texts e)
of_enumerator e = here e.help
  where
    here : (o : Option texts.Text) → strings_of_record (enumerator (record e { help = o }))
        ≡ strings_of_texts (e.text ∷ optional_text o)
    here None = refl
    here (Some t) = refl

of_entry : (e : MenuEntry Target) → strings_of_record (entry e) ≡ strings_of_texts (entry_texts e)
of_entry (item.Text t) = refl
of_entry (item.Reference to q) = refl

of_data : (d : DataItem Target) → strings_of_record (data_item d) ≡ []
of_data (item.Constant n) = refl
of_data (item.Variable v mask q) = refl

of_member : (m : item.Member Target) → strings_of_record (member m) ≡ member_strings m
of_member m = here m.label m.help
  where
    here : (l h : Option texts.Text) → strings_of_record (member (record m { label = l; help = h }))
        ≡ name_words m.name ∷ strings_of_texts (optional_text l ++ optional_text h)
    here None None = refl
    here None (Some h) = refl
    here (Some l) None = refl
    here (Some l) (Some h) = refl

of_array_element : (e : item.ArrayElement Target) → strings_of_record (element e)
    ≡ strings_of_texts (array_element_texts e)
of_array_element e = here e.label e.help
  where
    here : (l h : Option texts.Text)
        → strings_of_record (element (record e { label = l; help = h }))
        ≡ strings_of_texts (optional_text l ++ optional_text h)
    here None None = refl
    here None (Some h) = refl
    here (Some l) None = refl
    here (Some l) (Some h) = refl

of_element : (p : TypePart Target) → element_strings p ≡ strings_of_texts (element_texts p)
of_element (item.Element c) =
    same_each enumerator_strings (λ e. strings_of_texts (enumerator_texts e)) (values_in c)
    of_enumerator ∙ map_flat words_of enumerator_texts (values_in c)
of_element _ = refl

-- ---- each tree

pub of_texts : (c : Cond Target texts.Text) → cond_strings (λ t. strings_of_record (text_record t))
    c ≡ tree_strings (Texts c)
unfolding tree_strings
of_texts c = one_each words_of (values_in c)

pub of_class : (names : List texts.Name) → flat_map (λ n. strings_of_record (class_record n)) names
    ≡ tree_strings (Class names)
unfolding tree_strings
of_class names = one_each name_words names

pub of_handling : (c : Cond Target handling.Handling)
    → cond_strings (λ h. strings_of_record (handling_record h)) c ≡ tree_strings (Handling c)
unfolding tree_strings
of_handling c = none_each (λ h. strings_of_record (handling_record h)) (values_in c) (λ h. refl)

pub of_validity : (c : Cond Target Bool) → cond_strings (λ b. strings_of_record (validity_record b))
    c ≡ tree_strings (Validity c)
unfolding tree_strings
of_validity c = none_each (λ b. strings_of_record (validity_record b)) (values_in c) (λ b. refl)

pub of_expressions : (c : Cond Target (Expr Target)) → cond_strings (λ e. []) c
    ≡ tree_strings (Expressions c)
unfolding tree_strings
of_expressions c = none_each (λ e. []) (values_in c) (λ e. refl)

pub of_enumerators : (parts : List (TypePart Target))
    → conds_strings enumerator_strings (elements parts) ≡ tree_strings (Enumerators parts)
unfolding tree_strings
of_enumerators parts =
    sym (element_strings_are parts)
    ∙ same_each element_strings (λ p. strings_of_texts (element_texts p)) parts of_element
    ∙ map_flat words_of element_texts parts

pub of_data_items : (all : Conds Target (DataItem Target))
    → conds_strings (λ d. strings_of_record (data_item d)) all ≡ tree_strings (Data all)
unfolding tree_strings
of_data_items all = none_each (λ d. strings_of_record (data_item d)) (values_of all) of_data

pub of_responses : (responses : List item.ResponseCode)
    → flat_map (λ r. strings_of_record (response r)) responses
    ≡ tree_strings (ResponseCodes responses)
unfolding tree_strings
of_responses [] = refl
of_responses (r ∷ rest) = ap (λ (ws : List Words). words_of r.text ∷ ws) (of_responses rest)

pub of_items : (entries : Conds Target (MenuEntry Target))
    → conds_strings (λ e. strings_of_record (entry e)) entries ≡ tree_strings (Items entries)
unfolding tree_strings
of_items entries = same_each (λ e. strings_of_record (entry e))
    (λ e. strings_of_texts (entry_texts e)) (values_of entries) of_entry
    ∙ map_flat words_of entry_texts (values_of entries)

pub of_members : (members : List (item.Member Target))
    → flat_map (λ m. strings_of_record (member m)) members ≡ tree_strings (Members members)
unfolding tree_strings
of_members members = same_each (λ m. strings_of_record (member m)) member_strings members of_member

pub of_array_elements : (all : List (item.ArrayElement Target))
    → flat_map (λ e. strings_of_record (element e)) all ≡ tree_strings (Elements all)
unfolding tree_strings
of_array_elements all = same_each (λ e. strings_of_record (element e))
    (λ e. strings_of_texts (array_element_texts e)) all of_array_element
    ∙ map_flat words_of array_element_texts all
