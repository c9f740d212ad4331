-- Each turn reads the text up to a backslash and the character after it.
use Rattle.std.proofs.Common.{◌≡◌, ◌++◌, length, Some, None, string_bytes, lit<, ap, sym, ◌∙◌}
use Rattle.std.proofs.lemmas.Str.Pattern.{split_parts}
use Rattle.std.specs.Char.{encode_utf8}
use Rattle.edd_syntax.specs.Words.{unescape}
use Rattle.edd_strings.proofs.Unescaping.{unescape-char, unescape-end, unescape-plain, unescape-step}
use Rattle.edd_strings.proofs.escapes.unescape.Goals as goal
use Rattle.edd_strings.proofs.escapes.unescape.Goals.{in-Some-next+in_ok-push, in_default-next}

pub loop-before-preserved : goal.loop-before-preserved
loop-before-preserved c =
    let text = unescape c.args.text.now in
    let parts = split_parts 92 c.loop-before.rest.now (Some (c.in-Some.before, c.in-Some.after))
    c.in-Some.ensures.cases (lit< tt) in
    let step = unescape-step (string_bytes c.loop-before.plain) _ _ _ text parts.0 parts.1
    c.loop-before.invariant.1 in (
      c.as_str-rest.utf8,
      elim c.match-next.branch [
        | in-Some-next+in_ok-push w ↦
            let after : c.in-Some.after.now ≡ encode_utf8 w.in-Some-next.c
            ++ c.next.new.self.rest.now = sym c.chars-chars.ensures.rest
            ∙ w.in-Some-next.ensures.steps.0 in
            let char = unescape-char (string_bytes c.loop-before.plain) c.in-Some.before.now
            c.in-Some.after.now c.next.new.self.rest.now text w.in-Some-next.c after step in
            cc (
              char,
              w.plain-is,
              w.in_ok-push.ensures.bytes,
              c.in_ok-push_str.ensures.bytes,
              w.escaped.ensures,
              c.as_str-rest.ensures,
            )
        | in_default-next w ↦
            let none : length c.in-Some.after.now ≡ 0 = sym (ap length c.chars-chars.ensures.rest)
            ∙ w.in_default-next.ensures.steps.0.0 in
            let same : c.as_str-rest.result.now ≡ c.in-Some.after.now = c.as_str-rest.ensures
            ∙ ap (λ s. s.rest.now) w.in_default-next.ensures.steps.0.1
            ∙ c.chars-chars.ensures.rest in
            let end = unescape-end (string_bytes c.loop-before.plain) c.in-Some.before.now
            c.in-Some.after.now c.as_str-rest.result.now text none same step in
            cc (end, w.plain-is, c.in_ok-push_str.ensures.bytes)
      ],
    )

pub returns : goal.returns
returns c =
    let parts = split_parts 92 c.loop-before.rest.now None c.in_default.ensures.cases (lit< tt) in
    let rest = unescape-plain c.loop-before.rest.now parts in
    cc (rest, c.loop-before.invariant.1, c.in_ok-push_str-2.ensures.bytes)
