-- Where a rule that is broken is shown.
use Rattle.std.specs.Prelude.{ℕ, ◌+◌, Bool, true, false, List, ◌∷◌, drop, Option, Some, None, option_map, slice_get, if◌then◌else◌}
use Rattle.edd_breach_places.specs.declared.span.Span.{Span}
use Rattle.edd_breaches.specs.Told.{Told}
use Rattle.edd_lexer.specs.declared.token.Token.{Token}
use Rattle.edd_lexer.specs.declared.token.TokenKind.{TokenKind}
use Rattle.edd_lexer.specs.declared.token.TokenKind.TheVariants as kind
use Rattle.edd_syntax.specs.declared.numbers.TokenNo.{TokenNo}
use Rattle.edd_syntax.specs.declared.operators.Comparison.TheVariants as comparison
use Rattle.edd_syntax.specs.declared.symbols.Symbol.TheVariants as sign
use Rattle.edd_syntax.specs.Refusal as refusal
use Rattle.edd_syntax.specs.Refusal.{Refusal}

-- ---- tokens

-- the bytes of a token
abbrev pub bytes_of : Token → Span
bytes_of t = record { start = t.start; end = t.end }

-- those of the token with a number, where there is one
abbrev pub span_at : List Token → (number : ℕ) → Option Span
span_at tokens number = option_map bytes_of (slice_get tokens number)

-- `.`
abbrev pub is_dot : TokenKind → Bool
is_dot (kind.Symbol sign.Dot) = true
is_dot _ = false

-- `<`
abbrev pub is_less : TokenKind → Bool
is_less (kind.Symbol (sign.Comparison comparison.Less)) = true
is_less _ = false

-- from the last name of a path on, where these begin with its first
unfoldable pub last_of_path : List Token → List Token
last_of_path (name ∷ dot ∷ rest) =
    if is_dot dot.kind then last_of_path rest else name ∷ dot ∷ rest
last_of_path tokens = tokens

-- the token behind the `<` that follows a name
abbrev pub mask_behind : List Token → Option Token
mask_behind (name ∷ less ∷ mask ∷ rest) = if is_less less.kind then Some mask else None
mask_behind _ = None

-- the mask of the data item that begins at a token, else the item itself, as a constant
abbrev pub mask_at : List Token → (at : ℕ) → Option Span
mask_at tokens at =
    elim (mask_behind (last_of_path (drop at tokens))) [
      | Some mask ↦ Some (bytes_of mask)
      | None ↦ span_at tokens at
    ]

-- ---- breaches

-- Where a rule that is broken at a token is shown: a type at its word, which follows TYPE, or at
-- its size behind the word and a sign; a data item at its mask; anything else at the token itself.
abbrev pub place_for : List Token → Refusal → (at : ℕ) → Option Span
place_for tokens (refusal.FloatVariable name) at = span_at tokens (at + 1)
place_for tokens (refusal.OtherType name word) at = span_at tokens (at + 1)
place_for tokens (refusal.BadSize name) at = span_at tokens (at + 3)
place_for tokens refusal.ConstRange at = mask_at tokens at
place_for tokens _ at = span_at tokens at

-- the same, where the rule has a token
abbrev place_if : List Token → Refusal → Option TokenNo → Option Span
place_if tokens why None = None
place_if tokens why (Some at) = place_for tokens why at.0

-- where what is told is shown
abbrev pub place_of : List Token → Told → Option Span
place_of tokens t = place_if tokens t.refusal t.place
