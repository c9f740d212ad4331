-- There is some text before the first code, or there is no code.
use Rattle.std.proofs.Common.{◌≡◌, ◌<◌, ◌⊎◌, inl, inr, None, length, refl, arith}
use Rattle.std.proofs.lemmas.Bool.Decides.{nat_tests}
use Rattle.edd_strings.proofs.Spelling.{words-english_first}
use Rattle.edd_strings.proofs.source.first_variant.Goals as goal
use Rattle.edd_strings.proofs.source.first_variant.Goals.{else-is_empty-via-else-is_empty, else-is_empty-via-then-is_empty+in-None-1}

pub returns-2 : goal.returns-2
returns-2 c =
    let h : (0 < length c.args.part.text.now) ⊎ (c.args.part.next ≡ None) =
    elim c.else-is_empty.branch [
      | else-is_empty-via-else-is_empty w ↦
          inl (grind (arith, nat_tests, w.if-is_empty.ensures))
      | else-is_empty-via-then-is_empty+in-None-1 w ↦ inr (cc)
    ] in
    rw (
      words-english_first c.args.part.text.now c.args.part.next h,
      c.code_of.ensures,
      c.in_ok-text_of.ensures,
    ) refl
