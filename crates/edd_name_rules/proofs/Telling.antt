-- Telling of what holds.
use Rattle.std.proofs.Common.{◌≡◌, sym, ap, ◌∙◌, ◌+◌, List, [], ◌∷◌, ◌++◌, map, None, subst}
use Rattle.std.specs.Prelude.{Bool, true, false, not, Option}
use Rattle.std.proofs.lemmas.List.{append-nil}
use Rattle.edd_breaches.proofs.TellLaws.{tells_none, tells_one, tells_append, told_not, told_so}
use Rattle.edd_breaches.specs.declared.breach.Breach.{Breach}
use Rattle.edd_breaches.specs.declared.breach.Rule.TheVariants as rule
use Rattle.edd_breaches.specs.Told.{Tells, told_at, told_if}
use Rattle.edd_syntax.specs.declared.limits.Limit.{Limit}
use Rattle.edd_syntax.specs.declared.numbers.TokenNo.{TokenNo}
use Rattle.edd_syntax.specs.declared.item.Item.{Item}
use Rattle.edd_syntax.specs.declared.reference.Path.{Path}
use Rattle.edd_syntax.specs.ItemView.{attribute_of, attributes_of, name_of}
use Rattle.edd_syntax.specs.NameRules.{attribute_word}
use Rattle.edd_syntax.specs.Refusal.{Refusal, MissingAttribute, is_name_in}
use Rattle.edd_syntax.specs.Text.{Name}
use Rattle.edd_syntax.specs.TreeView.{path_of}
use Rattle.edd_syntax.specs.Places.{name_at}
use Rattle.edd_name_rules.specs.RulesTold.{excess_told, lacks, missing_among}

pub not_over : (b : Bool) (what : Limit) (old : List Breach) → b ≡ false
    → Tells (excess_told b what) old old
not_over b what old h = subst (λ t. Tells (excess_told t what) old old) (sym h) (tells_none old)

pub over : (b : Bool) (what : Limit) (first : Option TokenNo) (old new : List Breach) → b ≡ true
    → new ≡ old ++ (record { rule = rule.TooMany what; place = None; earlier = first }) ∷ []
    → Tells (excess_told b what) old new
over b what first old new h grown = subst (λ t. Tells (excess_told t what) old new) (sym h)
    (tells_one (record { rule = rule.TooMany what; place = None; earlier = first }) old new grown)

pub ruleset excess = (not_over, over)

-- ---- attributes that are missing

pub one_there : (i : Item Path) (word : Name) (b : Bool) (old : List Breach)
    → b ≡ is_name_in (map attribute_word (map (attribute_of path_of) (attributes_of i))) word
    → b ≡ true → Tells (missing_among i (word ∷ [])) old old
one_there i word b old is there =
    tells_append (told_if (lacks i word) (MissingAttribute (name_of i) word) (name_at i)) [] old old
    old (told_not (lacks i word) (MissingAttribute (name_of i) word) (name_at i) old
    (ap not (sym is ∙ there))) (tells_none old)

pub one_missing : (i : Item Path) (word : Name) (b : Bool) (old new : List Breach)
    → b ≡ is_name_in (map attribute_word (map (attribute_of path_of) (attributes_of i))) word
    → b ≡ false
    → Tells (told_at (MissingAttribute (name_of i) word) (name_at i) ∷ []) old new
    → Tells (missing_among i (word ∷ [])) old new
one_missing i word b old new is lack tells =
    tells_append (told_if (lacks i word) (MissingAttribute (name_of i) word) (name_at i)) [] old new
    new (told_so (lacks i word) (MissingAttribute (name_of i) word) (name_at i) old new
    (ap not (sym is ∙ lack)) tells) (tells_none new)

pub ruleset one_word = (one_there, one_missing)

pub more_words : (i : Item Path) (w v : Name) (ws : List Name) (old mid new : List Breach)
    → Tells (missing_among i (w ∷ [])) old mid → Tells (missing_among i (v ∷ ws)) mid new
    → Tells (missing_among i (w ∷ v ∷ ws)) old new
more_words i w v ws old mid new h k = subst (λ ys. Tells (ys ++ missing_among i (v ∷ ws)) old new)
    (append-nil (told_if (lacks i w) (MissingAttribute (name_of i) w) (name_at i)))
    (tells_append (missing_among i (w ∷ [])) (missing_among i (v ∷ ws)) old mid new h k)
