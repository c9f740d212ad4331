use Rattle.std.proofs.Common.{◌≡◌, refl, sym, ap, ◌∙◌, List, [], ◌∷◌, map, arith}
use Rattle.std.specs.Prelude.{option_map, find}
use Rattle.std.specs.List.{flat_map}
use Rattle.std.specs.Option.{option_or}
use Rattle.std.specs.Str.{bytes_eq}
use Rattle.std.proofs.lemmas.List.Concat.{flat_map_single}
use Rattle.edd_syntax.specs.ItemView.{member_of}
use Rattle.edd_syntax.specs.TreeView.{path_of}
use Rattle.edd_name_meanings.specs.Members.{member_named}
use Rattle.edd_name_meanings.specs.Numbering.{at}
use Rattle.edd_name_meanings.proofs.Gathering.{gathered_more, mapped_if, or_none, take_all}
use Rattle.edd_name_meanings.proofs.MapLaws.{mapped_or}
use Rattle.edd_name_meanings.proofs.members.add_members.Goals as goal

map_same : {X : Type 0} (xs : List X) → map (λ m. m) xs ≡ xs
map_same [] = refl
map_same (x ∷ xs) = ap (λ ys. x ∷ ys) (map_same xs)

pub loop-member-init : goal.loop-member-init
loop-member-init c = λ q. sym (or_none (member_named q c.args.into.now))

pub loop-member-preserved : goal.loop-member-preserved
loop-member-preserved c = λ q.
    gathered_more (member_of path_of) (λ m. m ∷ []) (λ m. bytes_eq m.name q)
    (member_named q c.args.into.now) (member_named q c.loop-member.into)
    (member_named q c.put_first.new.map) c.loop-member.member-index c.args.members.now
    c.member-item.result (omega arith) c.member-item.is
    (ap (option_map (λ r. member_of path_of r.now)) (c.in_ok-put_first.ensures q)
    ∙ mapped_or (λ r. member_of path_of r.now) (at q c.loop-member.into) _
    ∙ ap (option_or (member_named q c.loop-member.into))
    (mapped_if (λ r. member_of path_of r.now) (bytes_eq c.as_str.result.now q) _
    ∙ ap (λ n. find (λ y. bytes_eq n q) (member_of path_of c.member-item.result ∷ []))
    c.as_str.ensures))
    (c.loop-member.invariant q)

pub returns : goal.returns
returns c = λ q.
    c.loop-member.invariant q
    ∙ ap (λ xs. option_or (member_named q c.args.into.now)
    (find (λ m. bytes_eq m.name q) (flat_map (λ m. m ∷ []) (map (member_of path_of) xs))))
    (take_all c.loop-member.member-index c.args.members.now (omega arith))
    ∙ ap (λ ms. option_or (member_named q c.args.into.now) (find (λ m. bytes_eq m.name q) ms))
    (flat_map_single (λ m. m) (map (member_of path_of) c.args.members.now)
    ∙ map_same (map (member_of path_of) c.args.members.now))
