-- The strings of a description: its texts and keys, its class words and the names of its members.
use Rattle.std.specs.Prelude.{ℕ, Bool, true, false, ◌&&◌, nat_lt, if◌then◌else◌, List, [], ◌∷◌, ◌++◌, length, map, Option, Some, None}
use Rattle.std.specs.Str.{bytes_eq}
use Rattle.std.specs.List.{list_any, flat_map}
use Rattle.edd_syntax.specs.declared.limits.Limit.TheVariants as limit
use Rattle.edd_syntax.specs.Text as texts
use Rattle.edd_syntax.specs.Words.{Words, Variant, Variants, Key, words_of, name_words}
use Rattle.edd_syntax.specs.Expression as expr
use Rattle.edd_syntax.specs.Expression.{Expr, Indexed, Parentheses, Unary, Binary, Compare, LogicalAnd, LogicalOr, Conditional, Assign, CompoundAssign, Call, Arguments}
use Rattle.edd_syntax.specs.Item as item
use Rattle.edd_syntax.specs.Item.{TypePart, Attribute, Description}
use Rattle.edd_syntax.specs.SubsetRules.{body_expressions, values_in, values_of, attributes_of}
use Rattle.edd_syntax.specs.Refusal.{Refusal, TooMany, refused_if}

-- a text that may be missing
abbrev pub optional_text : Option texts.Text → List texts.Text
optional_text None = []
optional_text (Some text) = text ∷ []

-- the texts among the arguments of calls
abbrev mutual
  pub expr_texts : {R : Type 0} → Expr R → List texts.Text
  expr_texts (Indexed array index) = expr_texts index
  expr_texts (Parentheses inner) = expr_texts inner
  expr_texts (Unary op operand) = expr_texts operand
  expr_texts (Binary op left right) = expr_texts left ++ expr_texts right
  expr_texts (Compare by left right) = expr_texts left ++ expr_texts right
  expr_texts (LogicalAnd left right) = expr_texts left ++ expr_texts right
  expr_texts (LogicalOr left right) = expr_texts left ++ expr_texts right
  expr_texts (Conditional test first second) = expr_texts test
      ++ (expr_texts first ++ expr_texts second)
  expr_texts (Assign to value) = expr_texts value
  expr_texts (CompoundAssign op to value) = expr_texts value
  expr_texts (Call function arguments) = argument_texts arguments
  expr_texts _ = []

  -- the texts among arguments, and among those of the calls in them
  pub argument_texts : {R : Type 0} → Arguments R → List texts.Text
  argument_texts expr.Nil = []
  argument_texts (expr.Cons (expr.Text text) rest) = text ∷ argument_texts rest
  argument_texts (expr.Cons (expr.Value e) rest) = expr_texts e ++ argument_texts rest

-- the texts of an enumerator: its own and its help
abbrev pub enumerator_texts : item.Enumerator → List texts.Text
enumerator_texts e = e.text ∷ optional_text e.help

-- the text that an entry of a menu may be
abbrev pub entry_texts : {R : Type 0} → item.MenuEntry R → List texts.Text
entry_texts (item.Text text) = text ∷ []
entry_texts (item.Reference to qualifiers) = []

-- the texts in an option of a type, or in an element of its list
abbrev pub type_part_texts : {R : Type 0} → TypePart R → List texts.Text
type_part_texts (item.OneNumber which c) = []
type_part_texts (item.OneFormat which c) = values_in c
type_part_texts (item.Element c) = flat_map enumerator_texts (values_in c)

-- the strings of texts
abbrev pub strings_of_texts : List texts.Text → List Words
strings_of_texts = map words_of

-- the strings of a member: its name, its label and its help
abbrev pub member_strings : {R : Type 0} → item.Member R → List Words
member_strings m = name_words m.name
    ∷ strings_of_texts (optional_text m.label ++ optional_text m.help)

-- the texts of an element of an array: its label and its help
abbrev pub array_element_texts : {R : Type 0} → item.ArrayElement R → List texts.Text
array_element_texts e = optional_text e.label ++ optional_text e.help

-- the strings of an attribute, in all branches
abbrev pub attribute_strings : {R : Type 0} → Attribute R → List Words
attribute_strings (item.OneText which c) = strings_of_texts (values_in c)
attribute_strings (item.Class words) = map name_words words
attribute_strings (item.TypeOf word parts) = strings_of_texts (flat_map type_part_texts parts)
attribute_strings (item.ResponseCodes responses) = strings_of_texts (map (λ r. r.text) responses)
attribute_strings (item.Items entries) = strings_of_texts (flat_map entry_texts (values_of entries))
attribute_strings (item.Members members) = flat_map member_strings members
attribute_strings (item.Elements elements) =
    strings_of_texts (flat_map array_element_texts elements)
attribute_strings (item.Definition body) =
    strings_of_texts (flat_map (λ p. expr_texts p.expression) (body_expressions body))
attribute_strings _ = []

-- the strings of a description, each as often as it is there
abbrev pub unit_strings : {R : Type 0} → Description R → List Words
unit_strings unit = flat_map attribute_strings (attributes_of unit)

-- ---- different strings

-- as many variants, with the same codes and texts in the same order
abbrev pub same_variants : List Variant → List Variant → Bool
same_variants [] [] = true
same_variants [] (w ∷ ws) = false
same_variants (v ∷ vs) [] = false
same_variants (v ∷ vs) (w ∷ ws) = bytes_eq v.code w.code && bytes_eq v.text w.text
    && same_variants vs ws

-- the same variants in the same order, or the same key
abbrev pub same_words : Words → Words → Bool
same_words (Variants v vs) (Variants w ws) = same_variants (v ∷ vs) (w ∷ ws)
same_words (Key a) (Key b) = bytes_eq a b
same_words (Variants v vs) (Key b) = false
same_words (Key a) (Variants w ws) = false

-- each string once
abbrev pub different : List Words → List Words
different [] = []
different (w ∷ rest) = if list_any (same_words w) rest then different rest else w ∷ different rest

-- how many different strings a description may have
abbrev pub string_limit : ℕ
string_limit = 65535

-- the breach of a description that has more
abbrev pub too_many_strings : {R : Type 0} → Description R → List Refusal
too_many_strings unit = refused_if (nat_lt string_limit (length (different (unit_strings unit))))
    (TooMany limit.Strings)
