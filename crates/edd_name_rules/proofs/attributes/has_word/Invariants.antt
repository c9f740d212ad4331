use Rattle.std.proofs.Common.{◌≡◌, map, drop}
use Rattle.edd_syntax.specs.ItemView.{attribute_of}
use Rattle.edd_syntax.specs.NameRules.{attribute_word}
use Rattle.edd_syntax.specs.Refusal.{is_name_in}
use Rattle.edd_syntax.specs.TreeView.{path_of}
use Rattle.edd_name_rules.proofs.attributes.has_word.Given as goal

-- the attributes so far have other words
abbrev pub invariant-loop-attribute : goal.invariant-loop-attribute
invariant-loop-attribute l =
    is_name_in (map attribute_word
    (map (attribute_of path_of) (drop l.attribute-index l.attributes))) l.word
    ≡ is_name_in (map attribute_word (map (attribute_of path_of) l.attributes)) l.word
