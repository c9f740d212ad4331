-- Without their places, what is told is what breaks the rules.
use Rattle.std.proofs.Common.{◌≡◌, refl, ap, ◌∙◌, List, [], ◌∷◌, ◌++◌, map}
use Rattle.std.specs.Prelude.{Bool, true, false, filter}
use Rattle.std.specs.List.{flat_map}
use Rattle.edd_breaches.proofs.TellLaws.{refusals_append}
use Rattle.edd_breaches.specs.Told.{Told, told_if, refusals}
use Rattle.edd_syntax.specs.declared.item.Item.{Item}
use Rattle.edd_syntax.specs.declared.limits.Limit.{Limit}
use Rattle.edd_syntax.specs.declared.limits.Limit.TheVariants as limit
use Rattle.edd_syntax.specs.declared.numbers.TokenNo.{TokenNo}
use Rattle.edd_syntax.specs.declared.reference.Path.{Path}
use Rattle.edd_syntax.specs.Item.{kind_of_item}
use Rattle.edd_syntax.specs.ItemView.{item_of, name_of, named_items, sort_of}
use Rattle.edd_syntax.specs.NameRules.{duplicate_attributes, duplicate_names, missing_attributes, missing_words, required_words, too_many}
use Rattle.edd_syntax.specs.Refusal.{Refusal, MissingAttribute, TooMany, refused_if}
use Rattle.edd_syntax.specs.Text.{Name}
use Rattle.edd_syntax.specs.TreeView.{path_of}
use Rattle.edd_name_rules.specs.NamesTold.{names_told}
use Rattle.edd_syntax.specs.Places.{name_at}
use Rattle.edd_name_rules.specs.RulesTold.{excess_told, lacks, missing_in, missing_told, rules_told, too_many_told}
use Rattle.edd_name_rules.specs.Walks.{described}
use Rattle.edd_name_rules.specs.WordsTold.{words_told}
use Rattle.edd_name_rules.proofs.NamesForgotten.{items_are, told_first}
use Rattle.edd_name_rules.proofs.WordsForgotten.{words_are}

joined : (told rest : List Told) (xs ys : List Refusal) → refusals told ≡ xs → refusals rest ≡ ys
    → refusals (told ++ rest) ≡ xs ++ ys
joined told rest xs ys h k = refusals_append told rest ∙ ap (λ zs. zs ++ refusals rest) h
    ∙ ap (λ zs. xs ++ zs) k

words_missing : (f : Name → Refusal) (test : Name → Bool) (at : TokenNo) (ws : List Name)
    → refusals (flat_map (λ w. told_if (test w) (f w) at) ws) ≡ map f (filter test ws)
words_missing f test at [] = refl
words_missing f test at (w ∷ ws) = told_first f (test w) w at _ (filter test ws)
    (words_missing f test at ws)

missing_are : (items : List (Item Path)) → refusals (missing_told items)
    ≡ flat_map (λ i. map (MissingAttribute i.name) (missing_words i)) (map (item_of path_of) items)
missing_are [] = refl
missing_are (i ∷ rest) = joined (missing_in i) (missing_told rest) _ _
    (words_missing (MissingAttribute (name_of i)) (lacks i) (name_at i)
    (required_words (kind_of_item (sort_of i)))) (missing_are rest)

excess_is : (t : Bool) (what : Limit) → refusals (excess_told t what) ≡ refused_if t (TooMany what)
excess_is true what = refl
excess_is false what = refl

too_many_are : (items : List (Item Path)) → refusals (too_many_told items)
    ≡ too_many (described (named_items items))
too_many_are items =
    joined (excess_told _ limit.Items) _ _ _ (excess_is _ limit.Items)
    (joined (excess_told _ limit.Transactions) _ _ _ (excess_is _ limit.Transactions)
    (joined (excess_told _ limit.Locals) (excess_told _ limit.Nodes) _ _ (excess_is _ limit.Locals)
    (excess_is _ limit.Nodes)))

-- all rules
pub rules_are : (items : List (Item Path)) → refusals (rules_told items)
    ≡ too_many (described (named_items items)) ++ (duplicate_names (described (named_items items))
    ++ (duplicate_attributes (described (named_items items))
    ++ missing_attributes (described (named_items items))))
unfolding rules_told
rules_are items =
    joined (too_many_told items) (names_told items ++ (words_told items ++ missing_told items)) _ _
    (too_many_are items)
    (joined (names_told items) (words_told items ++ missing_told items) _ _
    (items_are [] [] (λ q. refl) items)
    (joined (words_told items) (missing_told items) _ _ (words_are items) (missing_are items)))
