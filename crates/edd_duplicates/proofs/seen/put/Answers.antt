use Rattle.std.proofs.Common.{◌∷◌, ◌∙◌, refl}
use Rattle.std.specs.Str.{bytes_eq}
use Rattle.edd_syntax.specs.Refusal.{is_name_in}
use Rattle.edd_duplicates.specs.declared.seen.Seen.{Seen}
use Rattle.edd_duplicates.proofs.Noting.{seen_in_map, once_more}
use Rattle.edd_duplicates.proofs.seen.put.Goals as goal

pub returns-in-None-clause-known : goal.returns-in-None-clause-known
returns-in-None-clause-known c = λ before h.
    seen_in_map before c.args.name.now c.args.at.0 c.args.seen.now
    (record {
      few = c.args.seen.now.few;
      is_short = c.args.seen.now.is_short;
      many = c.insert.new.self;
    }) refl c.in_ok-insert.ensures.updates h

pub returns-in_ok-insert-in-Some-clause-known : goal.returns-in_ok-insert-in-Some-clause-known
returns-in_ok-insert-in-Some-clause-known c = λ before h q.
    let mid : Seen = record {
      few = c.args.seen.now.few;
      is_short = c.args.seen.now.is_short;
      many = c.insert.new.self;
    } in
    seen_in_map (c.args.name.now ∷ before) c.args.name.now c.in-Some.first mid
    (record {
      few = c.args.seen.now.few;
      is_short = c.args.seen.now.is_short;
      many = c.insert-in-Some.new.self;
    }) refl c.in_ok-insert-in-Some.ensures.updates
    (seen_in_map before c.args.name.now c.args.at.0 c.args.seen.now mid refl
    c.in_ok-insert.ensures.updates h) q
    ∙ once_more (bytes_eq c.args.name.now q) (is_name_in before q)
