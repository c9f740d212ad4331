use Rattle.std.proofs.Common.{◌≡◌, ◌≤◌, ◌+◌, ◌-◌, true, map, length, drop}
use Rattle.std.specs.List.{AllByRecursion}
use Rattle.edd_lexer.specs.Places.{IsOnItsLine, Reaches, lines_in}
use Rattle.edd_lexer.specs.Tokens.{behind_byte_order_mark}
use Rattle.edd_lexer.specs.Views.{lexeme_of}
use Rattle.edd_lexer.specs.Reading.{tokens_of}
use Rattle.edd_lexer.proofs.Whole.{tokens_from}
use Rattle.edd_lexer.proofs.Loop.{with_front}
use Rattle.edd_lexer.proofs.lexer.tokens.Given as goal

abbrev pub invariant-loop-rest : goal.invariant-loop-rest
invariant-loop-rest l = record {
  within : length l.rest ≤ length l.fn.text;
  is_end : l.rest ≡ drop (length l.fn.text - length l.rest) l.fn.text;
  read : with_front (map (lexeme_of l.fn.text) l.tokens.items)
      (tokens_from (length l.fn.text) l.fresh l.rest) ≡ tokens_of l.fn.text;
  line : l.line + lines_in l.rest ≡ 1 + lines_in l.fn.text;
  placed : AllByRecursion (IsOnItsLine l.fn.text) l.tokens.items;
  reached : Reaches true (behind_byte_order_mark l.fn.text) l.fresh l.rest;
}

abbrev pub decreases-loop-rest : goal.decreases-loop-rest
decreases-loop-rest l = length l.rest
