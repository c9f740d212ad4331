-- The tokens of the language, as far as the grammar tells them apart.
use Rattle.std.specs.Prelude.{ℕ, List, find, Option, Some, None, codes}
use Rattle.std.specs.Str.{bytes_eq}
use Rattle.edd_syntax.specs.declared.symbols.Keyword.{Keyword}
use Rattle.edd_syntax.specs.declared.symbols.Keyword.TheVariants as keyword
use Rattle.edd_syntax.specs.declared.symbols.Symbol.{Symbol}
use Rattle.edd_syntax.specs.declared.symbols.TheConstants.{KEYWORDS}
use Rattle.edd_syntax.specs.Text.{Name}

-- a token, without its place in the text
pub data Token : Type 0 where
  Reserved : Keyword → Token
  -- a name that isn't reserved
  Identifier : Name → Token
  Integer : (value : ℕ) → Token
  -- a number with a fraction or an exponent
  Decimal : Token
  -- a string, by its inside as it is written
  String : (raw : List ℕ) → Token
  Sign : Symbol → Token

-- how a reserved word is written
abbrev pub spelling : Keyword → Name
spelling keyword.Manufacturer = codes "MANUFACTURER"
spelling keyword.DeviceType = codes "DEVICE_TYPE"
spelling keyword.DeviceRevision = codes "DEVICE_REVISION"
spelling keyword.DdRevision = codes "DD_REVISION"
spelling keyword.Variable = codes "VARIABLE"
spelling keyword.Command = codes "COMMAND"
spelling keyword.Menu = codes "MENU"
spelling keyword.Collection = codes "COLLECTION"
spelling keyword.Method = codes "METHOD"
spelling keyword.Array = codes "ARRAY"
spelling keyword.Of = codes "OF"
spelling keyword.Label = codes "LABEL"
spelling keyword.Help = codes "HELP"
spelling keyword.Class = codes "CLASS"
spelling keyword.Handling = codes "HANDLING"
spelling keyword.ConstantUnit = codes "CONSTANT_UNIT"
spelling keyword.Validity = codes "VALIDITY"
spelling keyword.Type = codes "TYPE"
spelling keyword.Number = codes "NUMBER"
spelling keyword.Operation = codes "OPERATION"
spelling keyword.Transaction = codes "TRANSACTION"
spelling keyword.ResponseCodes = codes "RESPONSE_CODES"
spelling keyword.Request = codes "REQUEST"
spelling keyword.Reply = codes "REPLY"
spelling keyword.Items = codes "ITEMS"
spelling keyword.Members = codes "MEMBERS"
spelling keyword.Definition = codes "DEFINITION"
spelling keyword.Elements = codes "ELEMENTS"
spelling keyword.If = codes "IF"
spelling keyword.Else = codes "ELSE"
spelling keyword.Select = codes "SELECT"
spelling keyword.Case = codes "CASE"
spelling keyword.Default = codes "DEFAULT"
spelling keyword.DefaultValue = codes "DEFAULT_VALUE"
spelling keyword.MinValue = codes "MIN_VALUE"
spelling keyword.MaxValue = codes "MAX_VALUE"
spelling keyword.DisplayFormat = codes "DISPLAY_FORMAT"
spelling keyword.EditFormat = codes "EDIT_FORMAT"
spelling keyword.Int = codes "int"
spelling keyword.Long = codes "long"
spelling keyword.MethodIf = codes "if"
spelling keyword.MethodElse = codes "else"
spelling keyword.While = codes "while"
spelling keyword.Do = codes "do"
spelling keyword.For = codes "for"
spelling keyword.Switch = codes "switch"
spelling keyword.MethodCase = codes "case"
spelling keyword.MethodDefault = codes "default"
spelling keyword.Break = codes "break"
spelling keyword.Continue = codes "continue"
spelling keyword.Return = codes "return"
spelling keyword.Char = codes "char"
spelling keyword.Short = codes "short"
spelling keyword.Unsigned = codes "unsigned"
spelling keyword.Signed = codes "signed"
spelling keyword.Float = codes "float"
spelling keyword.Double = codes "double"
spelling keyword.Goto = codes "goto"

-- the reserved words
abbrev pub all_keywords : List Keyword
all_keywords = KEYWORDS

-- the reserved word that is written so
abbrev pub keyword_of : Name → Option Keyword
keyword_of word = find (λ k. bytes_eq (spelling k) word) all_keywords

-- the token of a word: a reserved word, or a name
abbrev pub word_token : Name → Token
word_token word = elim (keyword_of word) [ Some k ↦ Reserved k | None ↦ Identifier word ]
