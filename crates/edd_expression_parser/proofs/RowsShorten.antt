-- What is in rows takes a token at least: response codes, members, elements, and the parts of
-- types and of transactions.
use Rattle.std.proofs.Common.{◌≡◌, ℕ, ◌≤◌, ◌<◌, Bool, true, false, List, ◌∷◌, drop, length, Option, Some, None, ◌∙◌, arith, length-drop}
use Rattle.std.specs.Prelude.{if◌then◌else◌}
use Rattle.edd_syntax.specs.declared.symbols.Keyword.TheVariants as word
use Rattle.edd_syntax.specs.declared.symbols.Symbol.TheVariants as sign
use Rattle.edd_syntax.specs.Token.{Token, Sign}
use Rattle.edd_syntax.specs.Item as item
use Rattle.edd_syntax.specs.Numbers.{format_of_word, number_of_word}
use Rattle.edd_grammar.specs.Reading.{◌>>=◌, on_option, Read, at_word, expect, word_by}
use Rattle.edd_grammar.specs.WordReading.{skip_semicolons, closed, braced}
use Rattle.edd_grammar.specs.ConditionalReading.{one_at, element_at, list_at, text_value, expr_value, skip_comma}
use Rattle.edd_grammar.specs.ValueReading.{enumerator_value, data_item_value}
use Rattle.edd_grammar.specs.TypeReading.{format_or_element_at, type_part_at}
use Rattle.edd_grammar.specs.AttributeReading.{response_code_at, member_at, array_element_at, transaction_part_at}
use Rattle.edd_grammar.proofs.Steps.{bind_some, as_read}
use Rattle.edd_grammar.proofs.Members.{response_codes, response_code_sound, members, member_sound, array_elements, array_element_sound}
use Rattle.edd_expression_parser.specs.declared.cond.Form.TheVariants.{One, Many}
use Rattle.edd_expression_parser.specs.Conditionals.{cond_at}
use Rattle.edd_expression_parser.specs.Shortening.{Shortens, NoLonger}
use Rattle.edd_expression_parser.specs.ValuesShorten.{text_shortens, expr_shortens, enumerator_shortens, data_item_shortens}
use Rattle.edd_expression_parser.proofs.CondLoops.{one_is, many_is, list_is}
use Rattle.edd_expression_parser.proofs.Shortening.{sign_taken, skip_no_longer, listed_no_longer, cond_shortens}

pub response_code_shortens : (height_left : ℕ) → Shortens response_code_at
response_code_shortens height_left here r rest e =
    (response_codes height_left).shorter r here rest
    (response_code_sound height_left here r rest e).0

pub member_shortens : (height_left : ℕ) → Shortens member_at
member_shortens height_left here m rest e =
    (members height_left).shorter m here rest (member_sound height_left here m rest e).0

pub array_element_shortens : (height_left : ℕ) → Shortens array_element_at
array_element_shortens height_left here e rest found =
    (array_elements height_left).shorter e here rest
    (array_element_sound height_left here e rest found).0

-- ---- conditionals

module _ {V : Type 0} (value : ℕ → List Token → Read V)
    (shortens : (height_left : ℕ) → Shortens (value height_left)) (height_left : ℕ) where
  one_shortens : Shortens (one_at value height_left)
  one_shortens here x rest e =
      cond_shortens One value shortens height_left here x rest (one_is value height_left here ∙ e)

  element_shortens : Shortens (element_at value height_left)
  element_shortens here x rest e =
      cond_shortens Many value shortens height_left here x rest (many_is value height_left here ∙ e)

  list_no_longer : NoLonger (list_at value height_left)
  list_no_longer here all rest e =
      listed_no_longer (cond_at Many value height_left)
      (cond_shortens Many value shortens height_left) here all rest
      (list_is value height_left here ∙ e)

-- ---- steps

-- what is found takes a token at least
abbrev TakesOne : {A : Type 0} → List Token → Read A → Type 0
TakesOne {A} here found = (x : A) (rest : List Token) → found ≡ Some (x, rest)
    → length rest < length here

either : {A : Type 0} (here : List Token) (b : Bool) (found other : Read A) → TakesOne here found
    → TakesOne here other → TakesOne here (if b then found else other)
either here true found other f o x rest e = f x rest e
either here false found other f o x rest e = o x rest e

by_word : {A B : Type 0} (here : List Token) (o : Option B) (found : B → Read A) (other : Read A)
    → ((x : B) → TakesOne here (found x)) → TakesOne here other
    → TakesOne here (on_option o other found)
by_word here (Some x) found other f o = f x
by_word here None found other f o = o

nothing : {A : Type 0} (here : List Token) → TakesOne {A = A} here None
nothing here x rest e = absurd cc

module _ {A B : Type 0} (read : List Token → Read A) (shortens : Shortens read) (f : A → B)
    (here : List Token) where
  behind_word : TakesOne here (read (drop 1 here) >>= λ c. Some (f c.0, c.1))
  behind_word x rest e =
      let a = bind_some (read (drop 1 here)) _ (x, rest) e in
      as_read (λ _ r. length r < length here) (f a.0.0) x a.0.1 rest a.2
      (omega (arith, length-drop 1 here, shortens (drop 1 here) a.0.0 a.0.1 a.1))

  before_comma : TakesOne here (read here >>= λ c. Some (f c.0, skip_comma c.1))
  before_comma x rest e =
      let a = bind_some (read here) _ (x, rest) e in
      as_read (λ _ r. length r < length here) (f a.0.0) x (skip_comma a.0.1) rest a.2
      (omega (arith, skip_no_longer a.0.1, shortens here a.0.0 a.0.1 a.1))

semicolons_no_longer : (here : List Token) → length (skip_semicolons here) ≤ length here
semicolons_no_longer (Sign sign.Semicolon ∷ rest) = omega (arith, semicolons_no_longer rest)
semicolons_no_longer _ = omega arith

closed_shortens : {A : Type 0} (element : List Token → Read A) → Shortens element
    → Shortens (closed element)
unfolding closed
closed_shortens element shortens here x rest e =
    let a = bind_some (element here) _ (x, rest) e in
    as_read (λ _ r. length r < length here) a.0.0 x (skip_semicolons a.0.1) rest a.2
    (omega (arith, semicolons_no_longer a.0.1, shortens here a.0.0 a.0.1 a.1))

braced_shortens : {A : Type 0} (inner : List Token → Read A) → NoLonger inner
    → Shortens (braced inner)
unfolding braced
braced_shortens inner no_longer here x rest e =
    let a = bind_some (expect sign.OpenBrace here) _ (x, rest) e in
    let b = bind_some (inner a.0) _ (x, rest) a.2 in
    let c = bind_some (expect sign.CloseBrace b.0.1) _ (x, rest) b.2 in
    as_read (λ _ r. length r < length here) b.0.0 x c.0 rest c.2
    (omega (
      arith,
      sign_taken sign.OpenBrace here a.0 a.1,
      no_longer a.0 b.0.0 b.0.1 b.1,
      sign_taken sign.CloseBrace b.0.1 c.0 c.1,
    ))

-- ---- parts of types and of transactions

pub type_part_shortens : (height_left : ℕ) → Shortens (type_part_at height_left)
unfolding type_part_at format_or_element_at
type_part_shortens height_left here =
    let exprs = one_shortens expr_value expr_shortens height_left in
    let texts = one_shortens text_value text_shortens height_left in
    let elements = element_shortens enumerator_value enumerator_shortens height_left in
    by_word here (word_by number_of_word here) _ _
    (λ which. behind_word (one_at expr_value height_left) exprs (item.OneNumber which) here)
    (by_word here (word_by format_of_word here) _ _
    (λ which. behind_word (one_at text_value height_left) texts (item.OneFormat which) here)
    (before_comma (element_at enumerator_value height_left) elements item.Element here))

transaction_part_shortens : (height_left : ℕ) → Shortens (transaction_part_at height_left)
unfolding transaction_part_at
transaction_part_shortens height_left here =
    let items = braced_shortens (list_at data_item_value height_left)
    (list_no_longer data_item_value data_item_shortens height_left) in
    either here (at_word word.Request here) _ _
    (behind_word (braced (list_at data_item_value height_left)) items item.Request here)
    (either here (at_word word.Reply here) _ _
    (behind_word (braced (list_at data_item_value height_left)) items item.Reply here)
    (nothing here))

pub closed_part_shortens : (height_left : ℕ)
    → Shortens (closed (transaction_part_at height_left))
closed_part_shortens height_left =
    closed_shortens (transaction_part_at height_left) (transaction_part_shortens height_left)
