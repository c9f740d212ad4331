use Rattle.std.proofs.Common.{◌≡◌, ℕ, List, length, nat_eq, sym, ap, ◌∙◌}
use Rattle.std.proofs.lemmas.Bool.{and_parts, eqb-true}
use Rattle.edd_instructions.specs.Validity.{IsValid}
use Rattle.edd_instructions.specs.declared.rules.Rule.TheVariants as rule
use Rattle.edd_image.specs.Fields.{total_length}
use Rattle.edd_loader.proofs.RuleOrder.{has_header}
use Rattle.edd_embed.specs.Images.{numbers_in}
use Rattle.edd_embed.proofs.image.load_numbers.Goals as goal

pub numbers_in-requires : goal.numbers_in-requires
numbers_in-requires c = has_header _ _ c.bytes.ensures.sound c.bytes.ensures.valid

-- a valid image is as long as its header says
is_whole : (b c : List ℕ) → c ≡ b → IsValid b → total_length c ≡ length c
is_whole b c e valid = rw e (eqb-true (total_length b) (length b)
    (and_parts (nat_eq (total_length b) (length b)) _ (valid rule.Length)).0)

pub returns-clause-sound : goal.returns-clause-sound
returns-clause-sound c = record {
  header = has_header _ _ (sym c.in_ok-image.ensures.sound) c.bytes.ensures.valid;
  whole = is_whole _ _ (sym c.in_ok-image.ensures.sound) c.bytes.ensures.valid;
  same = c.numbers_in.ensures
      ∙ ap numbers_in (c.bytes.ensures.sound ∙ c.in_ok-image.ensures.sound);
}
