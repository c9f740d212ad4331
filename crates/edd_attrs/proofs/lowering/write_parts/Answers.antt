use Rattle.std.proofs.Common.{arith, refl, subst, List, map}
use Rattle.std.proofs.lemmas.Grind.{common_steps}
use Rattle.std.proofs.lemmas.List.{length-map}
use Rattle.edd_syntax.specs.ItemView.{numbered_type_part}
use Rattle.edd_syntax.specs.Words.{Words}
use Rattle.edd_code.specs.Tables.{Overflows}
use Rattle.edd_code.specs.Written.{WritesBlock}
use Rattle.edd_attrs.specs.Writing.{element_strings}
use Rattle.edd_attrs.proofs.Flat.{part_kept, element_strings_are}
use Rattle.edd_code.proofs.Growing.{no_growth, grows_on}
use Rattle.edd_attrs.proofs.Loops.{front_starts, front_grows, front_overflows, front_ends, viewed_at}
use Rattle.edd_attrs.proofs.Parts.{IsPartsBlock, part_step}
use Rattle.edd_attrs.proofs.lowering.write_parts.Goals as goal

pub write_part-requires : goal.write_part-requires
write_part-requires c =
    part_kept (map numbered_type_part c.args.parts.now) c.loop-part.part-index
    (omega (arith, length-map c.args.parts.now numbered_type_part)) (viewed_at numbered_type_part
    c.args.parts.now c.loop-part.part-index (omega arith) c.part-item.is) c.requires

pub loop-part-init : goal.loop-part-init
loop-part-init c = record {
  front = front_starts element_strings IsPartsBlock (map numbered_type_part c.args.parts.now)
      c.args.table.now c.args.code.now;
  grows = no_growth c.args.table.now;
}

pub loop-part-preserved : goal.loop-part-preserved
loop-part-preserved c = record {
  front =
      front_grows element_strings IsPartsBlock (omega (
        arith,
        length-map c.args.parts.now numbered_type_part,
      )) (viewed_at numbered_type_part c.args.parts.now c.loop-part.part-index
      (omega arith) c.part-item.is) c.loop-part.invariant.front
      (part_step (numbered_type_part c.part-item.result) c.loop-part.table c.write_part.new.table
      c.loop-part.code c.write_part.new.code c.in_ok-write_part.ensures.sound);
  grows = grows_on c.args.table.now c.loop-part.table c.write_part.new.table
      c.loop-part.invariant.grows c.in_ok-write_part.ensures.grows;
}

pub returns-in_err-write_part-clause-grows : goal.returns-in_err-write_part-clause-grows
returns-in_err-write_part-clause-grows c = grows_on c.args.table.now c.loop-part.table
    c.write_part.new.table c.loop-part.invariant.grows c.in_err-write_part.ensures.grows

pub returns-in_err-write_part-clause-refused : goal.returns-in_err-write_part-clause-refused
returns-in_err-write_part-clause-refused c h =
    let over : Overflows c.loop-part.table (element_strings (numbered_type_part c.part-item.result))
    = grind (arith, common_steps) in
    subst (λ (ws : List Words). Overflows c.args.table.now ws)
    (element_strings_are (map numbered_type_part c.args.parts.now)) (front_overflows element_strings
    IsPartsBlock (omega (arith, length-map c.args.parts.now numbered_type_part)) (viewed_at
    numbered_type_part c.args.parts.now c.loop-part.part-index (omega arith) c.part-item.is)
    c.loop-part.invariant.front over)

pub returns-clause-sound : goal.returns-clause-sound
returns-clause-sound c =
    subst (λ (ws : List Words). WritesBlock c.args.table.now c.args.code.now ws (λ numbered
    b. IsPartsBlock numbered (map numbered_type_part c.args.parts.now) b) c.loop-part.table
    c.loop-part.code) (element_strings_are (map numbered_type_part c.args.parts.now)) (front_ends
    element_strings IsPartsBlock (omega (arith, length-map c.args.parts.now numbered_type_part))
    c.loop-part.invariant.front (λ numbered. refl))
