use Rattle.std.proofs.Common.{drop, map}
use Rattle.edd_lexer.specs.Views.{lexeme_of}
use Rattle.edd_layout.specs.Comments.{EachSame, beginning, gaps_from}
use Rattle.edd_layout.proofs.gaps.have_same_gaps.Given as goal

-- the gaps so far have the same comments
abbrev pub invariant-loop-place : goal.invariant-loop-place
invariant-loop-place l =
    EachSame (gaps_from l.text l.from (map (lexeme_of l.text) (drop l.place l.tokens)))
    (gaps_from l.other l.other_from (map (lexeme_of l.other) (drop l.place l.other_tokens)))
    → EachSame (gaps_from l.text (beginning l.text) (map (lexeme_of l.text) l.tokens))
    (gaps_from l.other (beginning l.other) (map (lexeme_of l.other) l.other_tokens))
