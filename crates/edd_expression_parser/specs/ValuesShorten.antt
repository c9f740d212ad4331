-- Each kind of value takes a token at least: what is read is spelled, and that takes one.
use Rattle.std.proofs.Common.{ℕ}
use Rattle.edd_grammar.specs.ConditionalReading.{text_value, expr_value}
use Rattle.edd_grammar.specs.ValueReading.{handling_value, truth_value, enumerator_value, data_item_value, menu_entry_value}
use Rattle.edd_grammar.proofs.ValueKinds.{text_values, text_value_sound, expr_values, expr_value_sound}
use Rattle.edd_grammar.proofs.Words.{handling_values, handling_value_sound, truth_values, truth_value_sound}
use Rattle.edd_grammar.proofs.Enumerators.{listed_enumerators, enumerator_value_sound}
use Rattle.edd_grammar.proofs.Entries.{listed_data_items, data_item_value_sound, listed_menu_entries, menu_entry_value_sound}
use Rattle.edd_expression_parser.specs.Shortening.{Shortens}

-- reading a text takes a token at least
pub text_shortens : (height_left : ℕ) → Shortens (text_value height_left)
text_shortens height_left here w rest e =
    text_values.shorter w here rest (text_value_sound height_left here w rest e).0

-- reading an expression takes a token at least
pub expr_shortens : (height_left : ℕ) → Shortens (expr_value height_left)
expr_shortens height_left here v rest e =
    expr_values.shorter v here rest (expr_value_sound height_left here v rest e).0

-- reading READ, WRITE or both takes a token at least
pub handling_shortens : (height_left : ℕ) → Shortens (handling_value height_left)
handling_shortens height_left here h rest e =
    handling_values.shorter h here rest (handling_value_sound height_left here h rest e).0

-- reading TRUE or FALSE takes a token at least
pub truth_shortens : (height_left : ℕ) → Shortens (truth_value height_left)
truth_shortens height_left here b rest e =
    truth_values.shorter b here rest (truth_value_sound height_left here b rest e).0

-- reading an enumerator takes a token at least
pub enumerator_shortens : (height_left : ℕ) → Shortens (enumerator_value height_left)
enumerator_shortens height_left here v rest e =
    listed_enumerators.shorter v here rest (enumerator_value_sound height_left here v rest e).0

-- reading a data item takes a token at least
pub data_item_shortens : (height_left : ℕ) → Shortens (data_item_value height_left)
data_item_shortens height_left here d rest e =
    listed_data_items.shorter d here rest (data_item_value_sound height_left here d rest e).0

-- reading an entry of a menu takes a token at least
pub menu_entry_shortens : (height_left : ℕ) → Shortens (menu_entry_value height_left)
menu_entry_shortens height_left here m rest e =
    listed_menu_entries.shorter m here rest (menu_entry_value_sound height_left here m rest e).0
