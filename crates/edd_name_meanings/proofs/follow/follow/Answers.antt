use Rattle.std.proofs.Common.{sym, ap, ◌∙◌, map, Some, subst, arith}
use Rattle.edd_syntax.specs.WordsView.{text_bytes}
use Rattle.std.proofs.Math.ListN.{drop_of_length-le}
use Rattle.edd_syntax.specs.NameRules.{faults_along}
use Rattle.edd_syntax.specs.Numbers.{kind_of}
use Rattle.edd_syntax.specs.Resolution.{along}
use Rattle.edd_name_meanings.specs.Directory.{description_of}
use Rattle.edd_name_meanings.specs.Paths.{Reaches}
use Rattle.edd_name_meanings.specs.Places.{place_along}
use Rattle.edd_name_rules.proofs.Passing.{passed, weaker_err}
use Rattle.edd_name_meanings.proofs.PathLaws.{reads_nothing, at_member, at_none, at_some, weaker_ok}
use Rattle.edd_name_meanings.proofs.follow.follow.Goals as goal

pub returns-in_err-next-clause-refused : goal.returns-in_err-next-clause-refused
returns-in_err-next-clause-refused c =
    passed c.from_residual.result c.in_err-next.field-0.0 _ c.from_residual.ensures.1
    (c.in_err-next.ensures.refused c.args.allowed.now _ _ _ _
    (at_member text_bytes (description_of c.args.names.now) c.args.allowed.now _ _ _
    c.loop-member.here
    c.args.path.now.members.items c.deref-member-items.result.now c.loop-member.member-index
    c.member-item.result c.as_str-in-loop-member.result.now c.deref-member-items.ensures.value
    (omega arith) c.member-item.is c.as_str-in-loop-member.ensures c.loop-member.invariant))

pub returns-in-None-clause-sound : goal.returns-in-None-clause-sound
returns-in-None-clause-sound c =
    let h = at_none c.in_ok-next.field-0 _ _ c.in-None.is
    (c.in_ok-next.ensures.sound c.args.allowed.now _ _ _ _
    (at_member text_bytes (description_of c.args.names.now) c.args.allowed.now _ _ _
    c.loop-member.here
    c.args.path.now.members.items c.deref-member-items.result.now c.loop-member.member-index
    c.member-item.result c.as_str-in-loop-member.result.now c.deref-member-items.ensures.value
    (omega arith) c.member-item.is c.as_str-in-loop-member.ensures c.loop-member.invariant)) in (
      h.0,
      reads_nothing c.args.allowed.now _ h.1 ∙ ap (λ t. Some t) (sym c.stand_in.ensures),
    )

pub loop-member-preserved : goal.loop-member-preserved
loop-member-preserved c =
    at_some c.in_ok-next.field-0 c.in-Some.next _ _ c.in-Some.is
    (c.in_ok-next.ensures.sound c.args.allowed.now _ _ _ _
    (at_member text_bytes (description_of c.args.names.now) c.args.allowed.now _ _ _
    c.loop-member.here
    c.args.path.now.members.items c.deref-member-items.result.now c.loop-member.member-index
    c.member-item.result c.as_str-in-loop-member.result.now c.deref-member-items.ensures.value
    (omega arith) c.member-item.is c.as_str-in-loop-member.ensures c.loop-member.invariant))

pub returns-clause-refused : goal.returns-clause-refused
returns-clause-refused c =
    weaker_err c.arrive.result _ _
    (λ f h. h _ _ _ (subst (λ ms. Reaches (description_of c.args.names.now) c.args.allowed.now
    (faults_along (description_of c.args.names.now) c.args.allowed.now
    (text_bytes c.args.path.now.base) (kind_of c.args.from) (Some c.args.from)
    (map text_bytes c.args.path.now.members.items))
    (place_along (description_of c.args.names.now) c.args.path.now.at (kind_of c.args.from)
    (Some c.args.from) (map text_bytes c.args.path.now.members.items))
    (along (description_of c.args.names.now) c.args.from
    (map text_bytes c.args.path.now.members.items)) c.loop-member.here (map text_bytes ms))
    (drop_of_length-le c.args.path.now.members.items (omega arith)) c.loop-member.invariant))
    c.arrive.ensures.refused

pub returns-clause-sound : goal.returns-clause-sound
returns-clause-sound c =
    weaker_ok c.arrive.result _ _
    (λ t h. h _ _ _ (subst (λ ms. Reaches (description_of c.args.names.now) c.args.allowed.now
    (faults_along (description_of c.args.names.now) c.args.allowed.now
    (text_bytes c.args.path.now.base) (kind_of c.args.from) (Some c.args.from)
    (map text_bytes c.args.path.now.members.items))
    (place_along (description_of c.args.names.now) c.args.path.now.at (kind_of c.args.from)
    (Some c.args.from) (map text_bytes c.args.path.now.members.items))
    (along (description_of c.args.names.now) c.args.from
    (map text_bytes c.args.path.now.members.items)) c.loop-member.here (map text_bytes ms))
    (drop_of_length-le c.args.path.now.members.items (omega arith)) c.loop-member.invariant))
    c.arrive.ensures.sound
