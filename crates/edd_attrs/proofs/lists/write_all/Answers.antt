use Rattle.std.proofs.Common.{arith, refl, map}
use Rattle.std.proofs.lemmas.List.{length-map}
use Rattle.std.proofs.lemmas.Grind.{common_steps}
use Rattle.edd_code.specs.Tables.{Overflows}
use Rattle.edd_attrs.specs.TreeBlocks.{IsLineBlock}
use Rattle.edd_attrs.proofs.Flat.{each}
use Rattle.edd_code.proofs.Growing.{no_growth, grows_on}
use Rattle.edd_attrs.proofs.Loops.{front_starts, front_grows, front_overflows, front_ends, block_step, viewed_at}
use Rattle.edd_attrs.proofs.lists.write_all.Goals as goal

pub write-requires : goal.write-requires
write-requires g c =
    each g.V.Element.is_kept (map g.V.Element.view c.args.all.now) c.loop-v.v-index
    (omega (arith, length-map c.args.all.now g.V.Element.view)) (viewed_at g.V.Element.view
    c.args.all.now c.loop-v.v-index (omega arith) c.v-item.is) c.requires

pub loop-v-init : goal.loop-v-init
loop-v-init g c = record {
  front = front_starts g.V.Element.strings (λ numbered. IsLineBlock (g.V.Element.is_block numbered))
      (map g.V.Element.view c.args.all.now) c.args.table.now c.args.code.now;
  grows = no_growth c.args.table.now;
}

pub loop-v-preserved : goal.loop-v-preserved
loop-v-preserved g c = record {
  front =
      front_grows g.V.Element.strings (λ numbered. IsLineBlock (g.V.Element.is_block numbered))
      (omega (arith, length-map c.args.all.now g.V.Element.view))
      (viewed_at g.V.Element.view c.args.all.now c.loop-v.v-index (omega arith) c.v-item.is)
      c.loop-v.invariant.front (block_step g.V.Element.strings
      (λ numbered. IsLineBlock (g.V.Element.is_block numbered)) (g.V.Element.view c.v-item.result)
      c.in_ok-write.ensures.sound (λ numbered rest p q one more. (p, q, refl, one, more)));
  grows = grows_on c.args.table.now c.loop-v.table c.write.new.table c.loop-v.invariant.grows
      c.in_ok-write.ensures.grows;
}

pub returns-in_err-write-clause-grows : goal.returns-in_err-write-clause-grows
returns-in_err-write-clause-grows g c = grows_on c.args.table.now c.loop-v.table c.write.new.table
    c.loop-v.invariant.grows c.in_err-write.ensures.grows

pub returns-in_err-write-clause-refused : goal.returns-in_err-write-clause-refused
returns-in_err-write-clause-refused g c h =
    let over : Overflows c.loop-v.table (g.V.Element.strings (g.V.Element.view c.v-item.result)) =
    grind (arith, common_steps) in
    front_overflows g.V.Element.strings (λ numbered. IsLineBlock (g.V.Element.is_block numbered))
    (omega (arith, length-map c.args.all.now g.V.Element.view)) (viewed_at g.V.Element.view
    c.args.all.now c.loop-v.v-index (omega arith) c.v-item.is) c.loop-v.invariant.front over

pub returns-clause-sound : goal.returns-clause-sound
returns-clause-sound g c =
    front_ends g.V.Element.strings (λ numbered. IsLineBlock (g.V.Element.is_block numbered)) (omega
    (arith, length-map c.args.all.now g.V.Element.view)) c.loop-v.invariant.front (λ numbered. refl)
