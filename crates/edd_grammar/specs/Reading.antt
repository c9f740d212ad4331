-- Reading names, paths and texts from left to right: what was read and the tokens after it, or
-- nothing.
use Rattle.std.specs.Prelude.{ℕ, Bool, true, false, List, [], ◌∷◌, ◌++◌, drop, Option, Some, None, if◌then◌else◌}
use Rattle.edd_syntax.specs.declared.symbols.Keyword.{Keyword}
use Rattle.edd_syntax.specs.declared.symbols.Symbol.{Symbol}
use Rattle.edd_syntax.specs.declared.symbols.Symbol.TheVariants as sign
use Rattle.edd_syntax.specs.Text as texts
use Rattle.edd_syntax.specs.Text.{Name, Quoted, Key}
use Rattle.edd_syntax.specs.Token.{Token, Reserved, Identifier, String, Sign}
use Rattle.edd_syntax.specs.Reference.{Path}
use Rattle.edd_grammar.specs.Signs.{same_sign, same_word}

infixl 10 ◌>>=◌
-- goes on with what was read; None where either step gives None
abbrev pub ◌>>=◌ : {A B : Type 0} → Option A → (A → Option B) → Option B
(Some x) >>= f = f x
None >>= f = None

-- what to do where there is nothing, and where there is a value
abbrev pub on_option : {A B : Type 0} → Option A → B → (A → B) → B
on_option None none some = none
on_option (Some x) none some = some x

-- what was read, and the tokens after it
abbrev pub Read : Type 0 → Type 0
Read A = Option (A × List Token)

-- ---- single tokens

-- whether this sign is next
abbrev pub at : Symbol → List Token → Bool
at s (Sign t ∷ rest) = same_sign s t
at s _ = false

-- the tokens after this sign
unfoldable pub expect : Symbol → List Token → Option (List Token)
expect s here = if at s here then Some (drop 1 here) else None

-- whether this word is next
abbrev pub at_word : Keyword → List Token → Bool
at_word k (Reserved w ∷ rest) = same_word k w
at_word k _ = false

-- what the word that is next stands for by a table
abbrev pub word_by : {A : Type 0} → (Keyword → Option A) → List Token → Option A
word_by table (Reserved w ∷ rest) = table w
word_by table _ = None

-- the tokens after this word
unfoldable pub expect_word : Keyword → List Token → Option (List Token)
expect_word k here = if at_word k here then Some (drop 1 here) else None

-- any sign
abbrev pub sign_at : List Token → Read Symbol
sign_at (Sign s ∷ rest) = Some (s, rest)
sign_at _ = None

-- a name
abbrev pub name_at : List Token → Read Name
name_at (Identifier n ∷ rest) = Some (n, rest)
name_at _ = None

-- ---- paths

-- the dots with a name after each, as many as follow
abbrev pub members_at : List Token → List Name × List Token
members_at (Sign sign.Dot ∷ Identifier m ∷ rest) = (m ∷ (members_at rest).0, (members_at rest).1)
members_at here = ([], here)

-- the path whose first name was read
unfoldable pub path_behind : Name → List Token → Path × List Token
path_behind base here = (record { base = base; members = (members_at here).0 }, (members_at here).1)

-- a name, and the members after it
unfoldable pub path_at : List Token → Read Path
path_at here = do
  (base, behind) ← name_at here
  Some (path_behind base behind)

-- ---- texts

-- whether a string is next
abbrev pub is_string : List Token → Bool
is_string (String s ∷ rest) = true
is_string _ = false

-- the strings one after the other, joined
abbrev pub strings_at : List Token → List ℕ × List Token
strings_at (String s ∷ rest) = (s ++ (strings_at rest).0, (strings_at rest).1)
strings_at here = ([], here)

-- after the opening bracket
unfoldable pub key_at : List Token → Read texts.Text
key_at here = do
  (name, behind) ← name_at here
  rest ← expect sign.CloseBracket behind
  Some (Key name, rest)

-- whether a string or a key is next
abbrev pub is_text : List Token → Bool
is_text here = if is_string here then true else at sign.OpenBracket here

-- a text, where `is_text` holds
unfoldable pub text_at : List Token → Read texts.Text
text_at here = if is_string here then Some (Quoted (strings_at here).0, (strings_at here).1) else
    key_at (drop 1 here)
