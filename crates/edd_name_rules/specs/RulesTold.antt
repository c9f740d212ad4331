-- The rules on counts, names and attributes: what is broken, each at its token.
use Rattle.std.specs.Prelude.{Bool, true, false, not, ◌&&◌, nat_lt, None, List, [], ◌∷◌, ◌++◌, map}
use Rattle.std.specs.List.{list_any, flat_map}
use Rattle.edd_breaches.specs.Told.{Told, told_if}
use Rattle.edd_syntax.specs.declared.item.Item.{Item}
use Rattle.edd_syntax.specs.declared.limits.Limit.{Limit}
use Rattle.edd_syntax.specs.declared.limits.Limit.TheVariants as limit
use Rattle.edd_syntax.specs.declared.reference.Path.{Path}
use Rattle.edd_syntax.specs.Item as item
use Rattle.edd_syntax.specs.Item.{kind_of_item}
use Rattle.edd_syntax.specs.ItemView.{attribute_of, attributes_of, name_of, named_items, sort_of}
use Rattle.edd_syntax.specs.NameRules.{attribute_word, item_limit, local_limit, locals_of, node_limit, required_words, transaction_count, transaction_limit}
use Rattle.edd_syntax.specs.Reference as pure
use Rattle.edd_syntax.specs.Refusal.{MissingAttribute, TooMany, is_name_in}
use Rattle.edd_syntax.specs.Resolution.{count_of, kinds}
use Rattle.edd_syntax.specs.Size.{unit_nodes}
use Rattle.edd_syntax.specs.Text.{Name}
use Rattle.edd_syntax.specs.TreeView.{path_of}
use Rattle.edd_name_rules.specs.NamesTold.{names_told}
use Rattle.edd_syntax.specs.Places.{name_at}
use Rattle.edd_name_rules.specs.Walks.{described}
use Rattle.edd_name_rules.specs.WordsTold.{words_told}

-- no attribute of an item is written with a word
abbrev pub lacks : Item Path → Name → Bool
lacks i word = not (is_name_in (map attribute_word (map (attribute_of path_of) (attributes_of i)))
    word)

-- those of some words that an item lacks
abbrev pub missing_among : Item Path → List Name → List Told
missing_among i words = flat_map (λ word.
    told_if (lacks i word) (MissingAttribute (name_of i) word) (name_at i)) words

-- the attributes that an item lacks
abbrev pub missing_in : Item Path → List Told
missing_in i = missing_among i (required_words (kind_of_item (sort_of i)))

-- those that items lack
abbrev pub missing_told : List (Item Path) → List Told
missing_told items = flat_map missing_in items

-- there is too much of something, which no token stands for
abbrev pub excess_told : Bool → Limit → List Told
excess_told true what = (record { refusal = TooMany what; place = None }) ∷ []
excess_told false what = []

-- what there is too much of
abbrev pub too_many_told : List (Item Path) → List Told
too_many_told items =
    excess_told (list_any (λ k. nat_lt item_limit (count_of k (named_items items))) kinds)
    limit.Items ++
    (excess_told (list_any (λ i. nat_lt transaction_limit (transaction_count i))
    (named_items items)) limit.Transactions ++
    (excess_told (list_any (λ i. nat_lt local_limit (locals_of i)) (named_items items))
    limit.Locals ++
    excess_told (nat_lt node_limit (unit_nodes (described (named_items items)))) limit.Nodes))

-- there are not too many items of a kind or locals of a method, so that they have numbers
abbrev pub are_few : List (item.Item pure.Path) → Bool
are_few items = not (list_any (λ k. nat_lt item_limit (count_of k items)) kinds)
    && not (list_any (λ i. nat_lt local_limit (locals_of i)) items)

-- all rules, in the order in which they are answered
unfoldable pub rules_told : List (Item Path) → List Told
rules_told items = too_many_told items
    ++ (names_told items ++ (words_told items ++ missing_told items))
