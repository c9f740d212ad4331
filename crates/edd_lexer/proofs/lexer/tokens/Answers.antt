use Rattle.std.proofs.Common.{◌≡◌, ◌<◌, ◌-◌, ℕ, List, Option, Err, length, drop, length-drop, map, sym, ap, subst, ◌∙◌, arith}
use Rattle.std.specs.Prelude.{IfSome}
use Rattle.std.proofs.lemmas.List.{map_push}
use Rattle.edd_lexer.specs.Faults.{Fault}
use Rattle.edd_lexer.specs.Reading.{tokens_of}
use Rattle.edd_lexer.specs.Views.{lexeme_of}
use Rattle.edd_lexer.proofs.Loop.{on_blank, behind_first, on_wrong, on_gap, on_token, at_end, end_of_end}
use Rattle.edd_lexer.proofs.LineCounts.{all_placed, blank_line, few_so_far, line_is, line_on}
use Rattle.edd_lexer.proofs.FaultLines.{blank_reached, gap_reached, stops_on, token_reached}
use Rattle.edd_lexer.proofs.lexer.tokens.Goals as goal

pub returns-in-Wrong-clause-sound : goal.returns-in-Wrong-clause-sound
returns-in-Wrong-clause-sound c =
    let text = c.args.text.now in
    let stops = on_wrong (map (lexeme_of text) c.loop-rest.tokens.items) (length text)
    c.loop-rest.fresh c.loop-rest.rest.now c.in-Wrong.fault
    (let some = c.in-len1-up.len_at_least in omega arith) (sym c.in-Wrong.ensures.read) in
    let P : Option Fault → Type 0 = λ o. IfSome o (λ fault. tokens_of text ≡ Err fault) in
    subst P (sym c.refusal.ensures.fault) (sym c.loop-rest.invariant.read ∙ stops)

pub returns-in-Wrong-clause-fault_lines : goal.returns-in-Wrong-clause-fault_lines
returns-in-Wrong-clause-fault_lines c =
    rw c.refusal.ensures.line (stops_on c.args.text.now c.loop-rest.rest.now c.loop-rest.fresh
    c.in-Wrong.fault c.loop-rest.line (let some = c.in-len1-up.len_at_least in omega arith)
    c.loop-rest.invariant.is_end c.loop-rest.invariant.line c.loop-rest.invariant.reached
    (sym c.in-Wrong.ensures.read))

pub loop-rest-preserved-in-Gap : goal.loop-rest-preserved-in-Gap
loop-rest-preserved-in-Gap c =
    let text = c.args.text.now in
    let here = c.loop-rest.rest.now in
    let same = on_gap (map (lexeme_of text) c.loop-rest.tokens.items) (length text)
    c.loop-rest.fresh here c.in-Gap.next c.in-Gap.behind.now
    (let lt = c.in-Gap.ensures.leads.shorter in omega arith) (sym c.in-Gap.ensures.read) in
    record {
      within = (let lt = c.in-Gap.ensures.leads.shorter in omega arith);
      is_end = end_of_end text here c.in-Gap.behind.now c.loop-rest.invariant.is_end
          c.loop-rest.invariant.within c.in-Gap.ensures.leads;
      read = sym same ∙ c.loop-rest.invariant.read;
      line = line_on text here c.in-Gap.behind.now c.loop-rest.line c.in-Gap.lines
          c.loop-rest.invariant.line c.in-Gap.ensures.counts c.requires;
      placed = c.loop-rest.invariant.placed;
      reached = gap_reached text c.loop-rest.fresh here c.in-Gap.next c.in-Gap.behind.now
          c.loop-rest.invariant.reached (let some = c.in-len1-up.len_at_least in omega arith)
          (sym c.in-Gap.ensures.read);
    }

pub loop-rest-preserved : goal.loop-rest-preserved
loop-rest-preserved c =
    let text = c.args.text.now in
    let here = c.loop-rest.rest.now in
    let behind = c.in-Token.behind.now in
    let same = on_token (map (lexeme_of text) c.loop-rest.tokens.items) text c.loop-rest.fresh here
    behind c.in-Token.kind c.loop-rest.invariant.is_end c.loop-rest.invariant.within
    c.in-Token.ensures.leads.shorter (sym c.in-Token.ensures.read) in
    record {
      within = (let lt = c.in-Token.ensures.leads.shorter in omega arith);
      is_end = end_of_end text here behind c.loop-rest.invariant.is_end c.loop-rest.invariant.within
          c.in-Token.ensures.leads;
      read = rw (c.in_ok-push-in-Token.ensures.items, map_push, c.offset-in-Token.ensures, c.offset.ensures)
          (sym same ∙ c.loop-rest.invariant.read);
      line = line_on text here behind c.loop-rest.line c.in-Token.lines c.loop-rest.invariant.line
          c.in-Token.ensures.counts c.requires;
      placed = rw c.in_ok-push-in-Token.ensures.items
          (all_placed text c.loop-rest.tokens.items _ c.loop-rest.invariant.placed
          (rw c.offset.ensures (line_is text here c.loop-rest.line c.loop-rest.invariant.is_end
          c.loop-rest.invariant.line)));
      reached = token_reached text c.loop-rest.fresh here _ behind c.loop-rest.invariant.reached
          (let some = c.in-len1-up.len_at_least in omega arith) (sym c.in-Token.ensures.read);
    }

pub returns-clause-sound : goal.returns-clause-sound
returns-clause-sound c =
    let text = c.args.text.now in
    sym c.loop-rest.invariant.read ∙ at_end (map (lexeme_of text) c.loop-rest.tokens.items)
    (length text) c.loop-rest.fresh c.loop-rest.rest.now
    (let none = c.in_default.len_below in omega arith)

pub loop-rest-preserved-then-is_blank : goal.loop-rest-preserved-then-is_blank
loop-rest-preserved-then-is_blank c =
    let text = c.args.text.now in
    let here = c.loop-rest.rest.now in
    let some : 0 < length here = (let h = c.in-len1-up.len_at_least in omega arith) in
    let same = on_blank (map (lexeme_of text) c.loop-rest.tokens.items) (length text)
    c.loop-rest.fresh here some (sym c.is_blank.ensures ∙ c.if-is_blank.true) in
    let e = c.behind_byte-rest.ensures in
    let IsEnd : List ℕ → Type 0 = λ x. x ≡ drop (length text - length x) text in
    record {
      within = omega (arith, ap length e, length-drop 1 here);
      is_end = subst IsEnd (sym e) (behind_first text here c.loop-rest.invariant.is_end
          c.loop-rest.invariant.within some);
      read = rw (e, c.fresh_behind-fresh.ensures) (sym same ∙ c.loop-rest.invariant.read);
      line = rw e (blank_line text here c.loop-rest.line c.lines_after-line.result some
          c.loop-rest.invariant.line c.lines_after-line.ensures);
      placed = c.loop-rest.invariant.placed;
      reached = rw (e, c.fresh_behind-fresh.ensures) (blank_reached text c.loop-rest.fresh here
          c.loop-rest.invariant.reached some (sym c.is_blank.ensures ∙ c.if-is_blank.true));
    }

pub lines_after-line-requires : goal.lines_after-line-requires
lines_after-line-requires c = few_so_far c.args.text.now c.loop-rest.rest.now c.loop-rest.line
    c.loop-rest.invariant.line c.requires
