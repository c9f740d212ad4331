use Rattle.std.proofs.Common.{◌≡◌, sym, ap, ◌∙◌, ◌<◌, ◌≤◌, length, get_or, subst}
use Rattle.std.specs.Prelude.{option_map, option_and_then}
use Rattle.std.proofs.lemmas.Option.{slice_get_past}
use Rattle.edd_syntax.specs.ItemView.{member_of}
use Rattle.edd_syntax.specs.TreeView.{path_of}
use Rattle.edd_name_meanings.specs.Members.{found_in}
use Rattle.edd_name_meanings.proofs.Gathering.{at_index}
use Rattle.edd_name_meanings.proofs.directory.Names.member.Goals as goal

pub returns-in_err-found : goal.returns-in_err-found
returns-in_err-found c =
    ap (option_map (λ m. (member_of path_of m.0.now, m.1))) c.from_residual.ensures
    ∙ ap (option_and_then (λ o. found_in o c.args.name.now))
    (sym (slice_get_past c.args.self.now.collections.items c.args.collection.0
    (subst (λ xs. length xs ≤ c.args.collection.0) c.deref.ensures.value
    (subst (λ k. length c.deref.result.now ≤ k) c.from.ensures
    c.in_err-found.ensures.lookup.3))))
    ∙ c.args.self.now.collected c.args.collection.0 c.args.name.now

pub returns : goal.returns
returns c =
    c.member.ensures
    ∙ ap (option_and_then (λ o. found_in o c.args.name.now))
    (sym (at_index c.args.self.now.collections.items c.args.collection.0 c.in_ok-found.found.now
    (subst (λ xs. c.args.collection.0 < length xs) c.deref.ensures.value
    (subst (λ k. k < length c.deref.result.now) c.from.ensures
    c.in_ok-found.ensures.lookup.3.0))
    (subst (λ xs. c.in_ok-found.found.now ≡ get_or xs c.args.collection.0 c.in_ok-found.found.now)
    c.deref.ensures.value (subst (λ k. c.in_ok-found.found.now ≡ get_or c.deref.result.now k
    c.in_ok-found.found.now) c.from.ensures c.in_ok-found.ensures.lookup.1))))
    ∙ c.args.self.now.collected c.args.collection.0 c.args.name.now
