-- The bytes of names and strings are text where the whole is.
use Rattle.std.proofs.Common.{◌≡◌, ℕ, zero, suc, ◌+◌, ◌-◌, ◌<◌, ◌≤◌, Bool, true, false, ◌&&◌, List, [], ◌∷◌, ◌++◌, length, take, drop, map, get_or, All, refl, sym, ap, subst, ◌∙◌, inl, inr, append_assoc, length-append, arith}
use Rattle.std.specs.Prelude.{IsUtf8, bytes_eq, slice_range, nat_lt, cond}
use Rattle.std.specs.List.{list_all}
use Rattle.std.specs.Str.{IsAscii}
use Rattle.std.proofs.lemmas.List.{drop_at, take_at, take-append-drop}
use Rattle.std.proofs.lemmas.List.Elements.{All-nil, All-cons, All-head, All-tail}
use Rattle.std.proofs.lemmas.Str.{IsUtf8-from_ascii, IsUtf8-drop, IsUtf8-take, IsCharBoundary-after_ascii, IsCharBoundary-before_ascii}
use Rattle.std.proofs.Math.Seq.{get_or-append_seam}
use Rattle.edd_syntax.specs.Names.{is_name, begins_name, goes_on_name}
use Rattle.edd_syntax.specs.Token.{Token}
use Rattle.edd_syntax.specs.Token as pure
use Rattle.edd_lexer.specs.declared.token.Token as code
use Rattle.edd_lexer.specs.declared.token.TokenKind.{TokenKind}
use Rattle.edd_lexer.specs.declared.token.TokenKind.TheVariants as kind
use Rattle.edd_lexer.specs.Strings.{quote}
use Rattle.edd_lexer.specs.Gaps.{Gap}
use Rattle.edd_lexer.specs.Kept.{IsKept, IsLexeme}
use Rattle.edd_lexer.specs.Tokens.{Lexeme, Stands, word, integer, decimal, string, sign, TokensFrom, nothing, behind_gap, behind_token, AreTokens, behind_byte_order_mark}
use Rattle.edd_lexer.specs.Views.{token_of, lexeme_of}
use Rattle.edd_lexer.proofs.Keeping.{tokens_kept}
use Rattle.edd_lexer.proofs.Cuts.{gap_cut, token_cut}
use Rattle.edd_lexer.proofs.Runs.{both}
use Rattle.edd_lexer.proofs.ReservedWords.{Tokened, word_tokened}
use Rattle.edd_token_reader.specs.TokenTexts.{HasText, HasQuotes, IsReadable}

-- ---- the text of one token

pub name_is_text : (text : List ℕ) (t : code.Token) → IsReadable text t → t.kind ≡ kind.Name
    → IsUtf8 (slice_range text t.start t.end)
name_is_text text t readable e =
    let P : TokenKind → Type 0 = λ k. HasText (token_of k (slice_range text t.start t.end)) in subst
    P e readable.text_is

pub string_is_text : (text : List ℕ) (t : code.Token) → IsReadable text t → t.kind ≡ kind.String
    → IsUtf8 (slice_range (slice_range text t.start t.end) 1
    (length (slice_range text t.start t.end) - 1))
string_is_text text t readable e =
    let P : TokenKind → Type 0 = λ k. HasText (token_of k (slice_range text t.start t.end)) in subst
    P e readable.text_is

pub string_has_quotes : (text : List ℕ) (t : code.Token) → IsReadable text t → t.kind ≡ kind.String
    → 2 ≤ t.end - t.start
string_has_quotes text t readable e = let P : TokenKind
    → Type 0 = λ k. HasQuotes k (t.end - t.start) in subst P e readable.quotes

-- ---- cutting a text at quotes

text_behind : (before rest : List ℕ) → IsUtf8 (before ++ quote ∷ rest) → IsUtf8 rest
text_behind before rest text =
    let whole = before ++ quote ∷ rest in
    let lt : length before < length whole = omega (arith, length-append before (quote ∷ rest)) in
    let at : get_or whole (length before) 0 ≡ quote = get_or-append_seam before quote rest 0 in
    let cut = IsCharBoundary-after_ascii whole (length before) text lt (omega arith) in
    let e : drop (length before + 1) whole ≡ rest =
    (ap (drop (length before + 1)) (sym (append_assoc before (quote ∷ []) rest))
    ∙ drop_at (before ++ quote ∷ []) rest (length before + 1)
    (omega (arith, length-append before (quote ∷ [])))) in
    subst IsUtf8 e (IsUtf8-drop whole (length before + 1) text cut)

text_before : (raw rest : List ℕ) → IsUtf8 (raw ++ quote ∷ rest) → IsUtf8 raw
text_before raw rest text =
    let whole = raw ++ quote ∷ rest in
    let lt : length raw < length whole = omega (arith, length-append raw (quote ∷ rest)) in
    let at : get_or whole (length raw) 0 ≡ quote = get_or-append_seam raw quote rest 0 in
    let cut = IsCharBoundary-before_ascii whole (length raw) lt (omega arith) in
    subst IsUtf8 (take_at raw (quote ∷ rest) (length raw) refl)
    (IsUtf8-take whole (length raw) text cut)

-- ---- names

part_small : (c : ℕ) → goes_on_name c ≡ true → c < 128
part_small c e = grind arith

one_more_ascii : (c : ℕ) (rest : List ℕ) → c < 128 → IsAscii rest → IsAscii (c ∷ rest)
one_more_ascii c rest small all zero = small
one_more_ascii c rest small all (suc i) = all i

parts_ascii : (bytes : List ℕ) → list_all goes_on_name bytes ≡ true → IsAscii bytes
parts_ascii [] e = λ i. omega arith
parts_ascii (c ∷ rest) e =
    let h = both (goes_on_name c) (list_all goes_on_name rest) e in
    one_more_ascii c rest (part_small c h.0) (parts_ascii rest h.1)

begins_goes_on : (c : ℕ) → begins_name c ≡ true → goes_on_name c ≡ true
begins_goes_on c e = rw e refl

name_text : (name : List ℕ) → is_name name ≡ true → IsUtf8 name
name_text [] e = absurd cc
name_text (c ∷ rest) e =
    let h = both (begins_name c && list_all goes_on_name rest) (nat_lt (length rest) 255) e in
    let g = both (begins_name c) (list_all goes_on_name rest) h.0 in
    IsUtf8-from_ascii (c ∷ rest) (one_more_ascii c rest (part_small c (begins_goes_on c g.0))
    (parts_ascii rest g.1))

-- ---- where tokens are: after some bytes of the text

-- `here` is an end of the text
abbrev Ends : List ℕ → List ℕ → Type 0
Ends text here = (before : List ℕ) × (text ≡ before ++ here)

-- after some bytes more
behind_more : (text here bytes rest : List ℕ) → Ends text here → here ≡ bytes ++ rest
    → Ends text rest
behind_more text here bytes rest ends e = (
  ends.0 ++ bytes,
  ends.1
      ∙ (ap (λ (x : List ℕ). ends.0 ++ x) e ∙ sym (append_assoc ends.0 bytes rest)),
)

behind_the_gap : (text : List ℕ) (fresh : Bool) (here : List ℕ) (next : Bool) (rest : List ℕ)
    → Ends text here → Gap fresh here next rest → Ends text rest
behind_the_gap text fresh here next rest ends g = let cut =
    gap_cut fresh here next rest g in behind_more text here cut.0 rest ends cut.1

behind_the_token : (text here : List ℕ) (t : Token) (rest : List ℕ) → Ends text here
    → Stands here t rest → Ends text rest
behind_the_token text here t rest ends s = let cut = token_cut here t rest s in behind_more text
    here cut.0 rest ends cut.1

-- ---- each token has its text

word_has_text : (bytes : List ℕ) (t : Token) → is_name bytes ≡ true → Tokened bytes t → HasText t
word_has_text bytes t name (inl (k, is, spelled)) = subst HasText (sym is) tt
word_has_text bytes t name (inr is) = subst HasText (sym is) (name_text bytes name)

stands_has_text : (text here : List ℕ) (t : Token) (rest : List ℕ) → IsUtf8 text → Ends text here
    → Stands here t rest → HasText t
stands_has_text text here t rest utf8 ends (word bytes whole name stop is) =
    subst HasText (sym is) (word_has_text bytes (pure.word_token bytes) name (word_tokened bytes))
stands_has_text text here t rest utf8 ends (integer bytes n whole spelled fits free is) =
    subst HasText (sym is) tt
stands_has_text text here t rest utf8 ends (decimal bytes whole spelled free is) =
    subst HasText (sym is) tt
stands_has_text text here t rest utf8 ends (string inside raw whole closed good is) =
    let open_at : text ≡ ends.0 ++ quote ∷ inside = ends.1 ∙ ap (λ (x : List ℕ). ends.0 ++ x)
    whole in
    let inner : IsUtf8 inside = text_behind ends.0 inside (subst IsUtf8 open_at utf8) in
    subst HasText (sym is) (text_before raw rest (subst IsUtf8 closed.whole inner))
stands_has_text text here t rest utf8 ends (sign s whole free is) = subst HasText (sym is) tt

abbrev LexemeText : Lexeme → Type 0
LexemeText lexeme = HasText lexeme.token

from_text : (text : List ℕ) (fresh : Bool) (here : List ℕ) (lexemes : List Lexeme) → IsUtf8 text
    → Ends text here → TokensFrom (length text) fresh here lexemes → All LexemeText lexemes
from_text text fresh here lexemes utf8 ends nothing = All-nil LexemeText
from_text text fresh here lexemes utf8 ends (behind_gap {next = next} {rest = rest} gap_is more) =
    from_text text next rest lexemes utf8 (behind_the_gap text fresh here next rest ends gap_is)
    more
from_text text fresh here lexemes utf8 ends
    (behind_token {rest = rest} {lexeme = lexeme} {more = others} stands start end more) =
    All-cons LexemeText lexeme others (stands_has_text text here lexeme.token rest utf8 ends stands)
    (from_text text false rest others utf8 (behind_the_token text here lexeme.token rest ends
    stands) more)

start_ends : (text : List ℕ) → Ends text (behind_byte_order_mark text)
start_ends text = go (bytes_eq (take 3 text) (239 ∷ 187 ∷ 191 ∷ []))
  where
    go : (t : Bool) → Ends text (cond t (drop 3 text) text)
    go true = (take 3 text, sym (take-append-drop 3 text))
    go false = ([], refl)

lexemes_have_text : (text : List ℕ) (lexemes : List Lexeme) → AreTokens text lexemes
    → All LexemeText lexemes
lexemes_have_text text lexemes are = from_text text true _ lexemes are.utf8 (start_ends text)
    are.read

-- ---- tokens that can be read

quotes_kept : (kind_of : TokenKind) (bytes : List ℕ) (size : ℕ)
    → IsKept (token_of kind_of bytes) size → HasQuotes kind_of size
quotes_kept kind.String bytes size h = omega (arith, h.1)
quotes_kept _ bytes size h = tt

all_readable : (text : List ℕ) (tokens : List code.Token)
    → All LexemeText (map (lexeme_of text) tokens)
    → All (IsLexeme text) (map (lexeme_of text) tokens) → All (IsReadable text) tokens
all_readable text [] texts kept = All-nil (IsReadable text)
all_readable text (t ∷ rest) texts kept =
    let others = map (lexeme_of text) rest in
    let lexeme = All-head (IsLexeme text) (lexeme_of text t) others kept in
    let first : IsReadable text t = record {
      forward = let lt = lexeme.not_empty in omega arith;
      within = lexeme.within;
      text_is = All-head LexemeText (lexeme_of text t) others texts;
      quotes = quotes_kept t.kind (slice_range text t.start t.end) (t.end - t.start) lexeme.kept;
    } in
    All-cons (IsReadable text) t rest first
    (all_readable text rest (All-tail LexemeText (lexeme_of text t) others texts)
    (All-tail (IsLexeme text) (lexeme_of text t) others kept))

pub tokens_readable : (text : List ℕ) (tokens : List code.Token)
    → AreTokens text (map (lexeme_of text) tokens) → All (IsReadable text) tokens
tokens_readable text tokens are =
    all_readable text tokens (lexemes_have_text text (map (lexeme_of text) tokens) are)
    (tokens_kept text (map (lexeme_of text) tokens) are)
