-- Without their places, the attributes that are told twice are those of the rule.
use Rattle.std.proofs.Common.{◌≡◌, refl, ap, ◌∙◌, List, [], ◌∷◌, ◌++◌, append_assoc, map}
use Rattle.std.specs.Prelude.{Bool, true, false, if◌then◌else◌}
use Rattle.std.specs.List.{flat_map}
use Rattle.edd_breaches.specs.Told.{Told, refusals}
use Rattle.edd_syntax.specs.declared.item.Item.{Item}
use Rattle.edd_syntax.specs.declared.item.Attribute.{Attribute}
use Rattle.edd_syntax.specs.declared.item.Attribute.TheVariants as a
use Rattle.edd_syntax.specs.declared.item.TypePart.{TypePart}
use Rattle.edd_syntax.specs.declared.item.TypePart.TheVariants as part
use Rattle.edd_syntax.specs.declared.item.TransactionPart.{TransactionPart}
use Rattle.edd_syntax.specs.declared.item.TransactionPart.TheVariants as transaction
use Rattle.edd_syntax.specs.declared.numbers.Attr.TheVariants as attr
use Rattle.edd_syntax.specs.declared.reference.Path.{Path}
use Rattle.edd_syntax.specs.ItemView.{attribute_of, attributes_of, item_of, transaction_part_of, type_part_of}
use Rattle.edd_syntax.specs.NameRules.{attribute_word, is_transaction, repeated_words, repeated_words_inside, transaction_part_word, type_part_words}
use Rattle.edd_syntax.specs.Numbers.{attr_word, number_attr, format_attr}
use Rattle.edd_syntax.specs.Refusal.{DuplicateAttribute, repeated}
use Rattle.edd_syntax.specs.Text.{Name}
use Rattle.edd_syntax.specs.TreeView.{path_of}
use Rattle.edd_breaches.specs.Along.{told_along}
use Rattle.edd_syntax.specs.Places.{word_at}
use Rattle.edd_name_rules.specs.WordsTold.{option_told, with_option, part_told, with_part, braces_told, own_word_told, attribute_told, with_attribute, words_told, words_told_in}
use Rattle.edd_duplicates.specs.Names.{word_told}
use Rattle.edd_name_rules.proofs.NamesForgotten.{both, one_more, one_name}
use Rattle.edd_name_rules.proofs.SameNames.{SameNames, with_one}

-- the words of options
abbrev option_words : List (TypePart Path) → List Name
option_words ps = flat_map type_part_words (map (type_part_of path_of) ps)

options_are : (b d : List Name) → SameNames b d → (ps : List (TypePart Path))
    → refusals (told_along option_told with_option b ps)
    ≡ map DuplicateAttribute (repeated d (option_words ps))
options_are b d h [] = refl
options_are b d h (part.OneNumber at which value ∷ ps) = let w = attr_word (number_attr which) in
    one_more DuplicateAttribute b d h w at _ (option_words ps)
    (options_are (w ∷ b) (w ∷ d) (with_one w b d h) ps)
options_are b d h (part.OneFormat at which format ∷ ps) = let w = attr_word (format_attr which) in
    one_more DuplicateAttribute b d h w at _ (option_words ps)
    (options_are (w ∷ b) (w ∷ d) (with_one w b d h) ps)
options_are b d h (part.Element element ∷ ps) = options_are b d h ps

-- the words of REQUESTs and REPLYs
abbrev part_words : List (TransactionPart Path) → List Name
part_words ps = map transaction_part_word (map (transaction_part_of path_of) ps)

parts_are : (b d : List Name) → SameNames b d → (ps : List (TransactionPart Path))
    → refusals (told_along part_told with_part b ps)
    ≡ map DuplicateAttribute (repeated d (part_words ps))
parts_are b d h [] = refl
parts_are b d h (transaction.Request at all ∷ ps) = let w = attr_word attr.Request in
    one_more DuplicateAttribute b d h w at _ (part_words ps)
    (parts_are (w ∷ b) (w ∷ d) (with_one w b d h) ps)
parts_are b d h (transaction.Reply at all ∷ ps) = let w = attr_word attr.Reply in
    one_more DuplicateAttribute b d h w at _ (part_words ps)
    (parts_are (w ∷ b) (w ∷ d) (with_one w b d h) ps)

braces_are : (x : Attribute Path) → refusals (braces_told x)
    ≡ map DuplicateAttribute (repeated_words_inside (attribute_of path_of x))
braces_are (a.TypeOf at word parts) = options_are [] [] (λ q. refl) parts.items
braces_are (a.Transaction at number parts) = parts_are [] [] (λ q. refl) parts.items
braces_are _ = refl

unless : (t : Bool) (told : List Told) (ns : List Name)
    → refusals told ≡ map DuplicateAttribute ns
    → refusals (if t then [] else told) ≡ map DuplicateAttribute (if t then [] else ns)
unless true told ns h = refl
unless false told ns h = h

attributes_are : (b d : List Name) → SameNames b d → (all : List (Attribute Path))
    → refusals (told_along attribute_told with_attribute b all)
    ≡ map DuplicateAttribute (repeated_words d (map (attribute_of path_of) all))
attributes_are b d h [] = refl
attributes_are b d h (x ∷ rest) =
    let word = attribute_word (attribute_of path_of x) in
    let others = told_along attribute_told with_attribute (word ∷ b) rest in
    ap refusals (append_assoc (own_word_told b x) (braces_told x) others)
    ∙ both DuplicateAttribute (own_word_told b x) (braces_told x ++ others) _ _
    (unless (is_transaction (attribute_of path_of x)) (word_told b word (word_at x)) _
    (one_name DuplicateAttribute b d h word (word_at x)))
    (both DuplicateAttribute (braces_told x) others _ _ (braces_are x)
    (attributes_are (word ∷ b) (word ∷ d) (with_one word b d h) rest))

pub words_are : (items : List (Item Path)) → refusals (words_told items)
    ≡ map DuplicateAttribute (flat_map (λ i. repeated_words [] i.attributes)
    (map (item_of path_of) items))
words_are [] = refl
words_are (i ∷ rest) = both DuplicateAttribute (words_told_in i) (words_told rest) _ _
    (attributes_are [] [] (λ q. refl) (attributes_of i)) (words_are rest)
