-- Data items and entries of menus are read as they are spelled, in lists.
use Rattle.std.proofs.Common.{◌≡◌, ℕ, ◌≤◌, ◌<◌, true, false, List, ◌∷◌, drop, length, Option, Some, None, refl, sym, ap, ◌∙◌, inl, inr, arith}
use Rattle.edd_syntax.specs.declared.item.MenuQualifiers.{MenuQualifiers}
use Rattle.edd_syntax.specs.declared.item.DataQualifiers.{DataQualifiers}
use Rattle.edd_syntax.specs.declared.operators.Comparison.TheVariants as comparison
use Rattle.edd_syntax.specs.declared.symbols.Keyword.TheVariants as word
use Rattle.edd_syntax.specs.declared.symbols.Symbol.TheVariants as sign
use Rattle.edd_syntax.specs.Text.{Quoted, Key}
use Rattle.edd_syntax.specs.Token.{Token, Integer, Sign}
use Rattle.edd_syntax.specs.Reference.{Path}
use Rattle.edd_syntax.specs.Item as item
use Rattle.edd_syntax.specs.ItemGrammar.{MaskHere, DataItemHere, MenuEntryHere, data_qualifier_names, menu_qualifier_names}
use Rattle.edd_syntax.specs.Size.{leaf}
use Rattle.edd_grammar.specs.Reading.{at, expect, at_word, path_at, is_text, text_at}
use Rattle.edd_grammar.specs.ConditionalReading.{list_ends}
use Rattle.edd_grammar.specs.WordReading.{integer_at}
use Rattle.edd_grammar.specs.ValueReading.{mask_at, qualifiers_at, data_variable_at, data_item_at, menu_reference_at, menu_entry_at, data_item_value, menu_entry_value}
use Rattle.edd_grammar.specs.Following.{EndsBranch, ListedValue}
use Rattle.edd_grammar.proofs.Steps.{bind_some, option_cases, as_read, at_is, at_word_is, expect_is, expect_again}
use Rattle.edd_grammar.proofs.Alternatives.{branch}
use Rattle.edd_grammar.proofs.Texts.{path_sound, path_again, text_sound, text_again}
use Rattle.edd_grammar.proofs.Shorter.{path_shorter, text_shorter}
use Rattle.edd_grammar.proofs.Branches.{SoundOf}
use Rattle.edd_grammar.proofs.Words.{integer_is}
use Rattle.edd_grammar.proofs.Qualifiers.{qualifiers_sound, qualifiers_again, qualifiers_shorter, qualifiers_begin}

-- ---- masks

mask_sound : (here : List Token) (m : Option ℕ) (rest : List Token) → mask_at here ≡ Some (m, rest)
    → MaskHere m here rest
unfolding mask_at
mask_sound here m rest x =
    branch (at (sign.Comparison comparison.Less) here) _ _ _ x
    (λ t y. let a = bind_some (integer_at (drop 1 here)) _ (m, rest) y in
    let b = bind_some (expect (sign.Comparison comparison.Greater) a.0.1) _ (m, rest) a.2 in
    as_read (λ m r. MaskHere m here r) (Some a.0.0) m b.0 rest b.2
    (at_is (sign.Comparison comparison.Less) here t
    ∙ ap (λ u. Sign (sign.Comparison comparison.Less) ∷ u)
    (integer_is (drop 1 here) a.0.0 a.0.1 a.1
    ∙ ap (λ u. Integer a.0.0 ∷ u) (expect_is (sign.Comparison comparison.Greater) a.0.1 b.0
    b.1))))
    (λ _ y. as_read (λ m r. MaskHere m here r) None m here rest y refl)

-- a mask is read where no `<` follows one that is missing
mask_again : (m : Option ℕ) (here rest : List Token) → at (sign.Comparison comparison.Less) rest
    ≡ false → MaskHere m here rest → mask_at here ≡ Some (m, rest)
unfolding mask_at
mask_again None here rest f h = rw (h, f) refl
mask_again (Some m) here rest f h = rw (h, expect_again (sign.Comparison comparison.Greater) rest)
    refl

mask_shorter : (m : Option ℕ) (here rest : List Token) → MaskHere m here rest
    → length rest ≤ length here
mask_shorter None here rest h = omega (arith, ap length h)
mask_shorter (Some m) here rest h = omega (arith, ap length h)

mask_no_dot : (m : Option ℕ) (here rest : List Token) → MaskHere m here rest
    → at sign.Dot rest ≡ false → at sign.Dot here ≡ false
mask_no_dot None here rest h d = ap (at sign.Dot) h ∙ d
mask_no_dot (Some m) here rest h d = ap (at sign.Dot) h

-- ---- what may follow

-- what can't go on with a data item
abbrev pub EndsEntry : List Token → Type 0
EndsEntry rest = (at sign.Dot rest ≡ false) × (at sign.OpenParenthesis rest ≡ false)
    × (at (sign.Comparison comparison.Less) rest ≡ false)

ends_cases : (rest : List Token) → list_ends rest ≡ true → EndsBranch rest
ends_cases rest e =
    branch (at sign.CloseBrace rest) _ _ _ e (λ t _. inl t) (λ _ f.
    branch (at_word word.Case rest) _ _ _ f (λ t _. inr (inl t)) (λ _ t. inr (inr t)))

end_ends : (rest : List Token) → EndsBranch rest → EndsEntry rest
end_ends rest (inl e) = rw (at_is sign.CloseBrace rest e) (refl, refl, refl)
end_ends rest (inr (inl e)) = rw (at_word_is word.Case rest e) (refl, refl, refl)
end_ends rest (inr (inr e)) = rw (at_word_is word.Default rest e) (refl, refl, refl)

-- ---- data items

data_variable_sound : (here : List Token) (d : item.DataItem Path) (rest : List Token)
    → data_variable_at here ≡ Some (d, rest) → DataItemHere d here rest
unfolding data_variable_at
data_variable_sound here d rest x =
    let a = bind_some (path_at here) _ (d, rest) x in
    let b = bind_some (mask_at a.0.1) _ (d, rest) a.2 in
    let c = bind_some (qualifiers_at data_qualifier_names b.0.1) _ (d, rest) b.2 in
    as_read (λ d r. DataItemHere d here r) _ d _ rest c.2 (
      a.0.1,
      b.0.1,
      path_sound here a.0.0 a.0.1 a.1,
      mask_sound a.0.1 b.0.0 b.0.1 b.1,
      c.0.0,
      refl,
      qualifiers_sound data_qualifier_names b.0.1 c.0.0 c.0.1 c.1,
    )

pub data_item_value_sound : (height_left : ℕ)
    → SoundOf DataItemHere leaf height_left (data_item_value height_left)
unfolding data_item_value data_item_at
data_item_value_sound height_left here d rest x =
    elim (option_cases (integer_at here) _ _ _ x) [
      | inl (_, y) ↦ (data_variable_sound here d rest y, omega arith)
      | inr (n, e, y) ↦ as_read (λ d r. DataItemHere d here r × (leaf d ≤ height_left))
          (item.Constant n.0) d n.1 rest y (integer_is here n.0 n.1 e, omega arith)
    ]

data_item_again : (d : item.DataItem Path) (here rest : List Token) → DataItemHere d here rest
    → EndsEntry rest → data_item_at here ≡ Some (d, rest)
unfolding data_item_at data_variable_at
data_item_again (item.Constant n) here rest h f = rw h refl
data_item_again (item.Variable variable mask qualifiers) here rest h f =
    let begin = qualifiers_begin data_qualifier_names h.4 h.1 rest h.6 f.0 f.2 in
    let no_number : integer_at here ≡ None = ap integer_at h.2.1 in
    rw (
      no_number,
      path_again variable here h.0 (mask_no_dot mask h.0 h.1 h.3 begin.0) h.2,
      mask_again mask h.0 h.1 begin.1 h.3,
      qualifiers_again data_qualifier_names h.4 h.1 rest f.1 h.6,
    ) (ap (λ (q : DataQualifiers). Some (item.Variable variable mask q, rest)) (sym h.5))

data_item_shorter : (d : item.DataItem Path) (here rest : List Token) → DataItemHere d here rest
    → length rest < length here
data_item_shorter (item.Constant n) here rest h = omega (arith, ap length h)
data_item_shorter (item.Variable variable mask qualifiers) here rest h =
    omega (
      arith,
      path_shorter variable here h.0 h.2,
      mask_shorter mask h.0 h.1 h.3,
      qualifiers_shorter data_qualifier_names h.4 h.1 rest h.6,
    )

-- a data item begins with a number or a name
record StartsEntry (here : List Token) : Type 0 where
  pub no_condition : (at_word word.If here ≡ false) × (at_word word.Select here ≡ false)
  pub no_end : list_ends here ≡ false
  pub no_comma : at sign.Comma here ≡ false
  pub ends : EndsEntry here

data_item_starts : (d : item.DataItem Path) (here rest : List Token) → DataItemHere d here rest
    → StartsEntry here
data_item_starts (item.Constant n) here rest h =
    rw h (record {
      no_condition = (refl, refl);
      no_end = refl;
      no_comma = refl;
      ends = (refl, refl, refl);
    })
data_item_starts (item.Variable variable mask qualifiers) here rest h =
    rw h.2.1 (record {
      no_condition = (refl, refl);
      no_end = refl;
      no_comma = refl;
      ends = (refl, refl, refl);
    })

pub listed_data_items : ListedValue leaf DataItemHere EndsEntry data_item_value
unfolding data_item_value
listed_data_items = record {
  again = λ height_left d here rest h low f. data_item_again d here rest h f;
  starts = λ d here rest h. (data_item_starts d here rest h).no_condition;
  no_end = λ d here rest h. (data_item_starts d here rest h).no_end;
  no_comma = λ d here rest h. (data_item_starts d here rest h).no_comma;
  shorter = data_item_shorter;
  at_comma = λ rest. (refl, refl, refl);
  at_end = λ rest e. end_ends rest (ends_cases rest e);
  at_if = λ rest. (refl, refl, refl);
  at_select = λ rest. (refl, refl, refl);
  at_value = λ d here rest h. (data_item_starts d here rest h).ends;
}

-- ---- entries of menus

menu_reference_sound : (here : List Token) (m : item.MenuEntry Path) (rest : List Token)
    → menu_reference_at here ≡ Some (m, rest) → MenuEntryHere m here rest
unfolding menu_reference_at
menu_reference_sound here m rest x =
    let a = bind_some (path_at here) _ (m, rest) x in
    let b = bind_some (qualifiers_at menu_qualifier_names a.0.1) _ (m, rest) a.2 in
    as_read (λ m r. MenuEntryHere m here r) _ m _ rest b.2 (
      a.0.1,
      path_sound here a.0.0 a.0.1 a.1,
      b.0.0,
      refl,
      qualifiers_sound menu_qualifier_names
          a.0.1 b.0.0 b.0.1 b.1,
    )

pub menu_entry_value_sound : (height_left : ℕ)
    → SoundOf MenuEntryHere leaf height_left (menu_entry_value height_left)
unfolding menu_entry_value menu_entry_at
menu_entry_value_sound height_left here m rest x =
    branch (is_text here) _ _ _ x
    (λ t y. let a = bind_some (text_at here) _ (m, rest) y in
    as_read (λ m r. MenuEntryHere m here r × (leaf m ≤ height_left)) (item.Text a.0.0) m a.0.1 rest
    a.2 (text_sound here a.0.0 a.0.1 t a.1, omega arith))
    (λ _ y. (menu_reference_sound here m rest y, omega arith))

menu_entry_again : (m : item.MenuEntry Path) (here rest : List Token) → MenuEntryHere m here rest
    → EndsEntry rest → menu_entry_at here ≡ Some (m, rest)
unfolding menu_entry_at menu_reference_at
menu_entry_again (item.Text text) here rest h f = let r = text_again text here rest h in rw
    (r.0, r.1) refl
menu_entry_again (item.Reference to qualifiers) here rest h f =
    let begin = qualifiers_begin menu_qualifier_names h.2 h.0 rest h.4 f.0 f.2 in
    let no_text : is_text here ≡ false = ap is_text h.1.1 in
    rw (
      no_text,
      path_again to here h.0 begin.0 h.1,
      qualifiers_again menu_qualifier_names h.2 h.0
          rest f.1 h.4,
    )
    (ap (λ (q : MenuQualifiers). Some (item.Reference to q, rest)) (sym h.3))

menu_entry_shorter : (m : item.MenuEntry Path) (here rest : List Token) → MenuEntryHere m here rest
    → length rest < length here
menu_entry_shorter (item.Text text) here rest h = text_shorter text here rest h
menu_entry_shorter (item.Reference to qualifiers) here rest h =
    omega (
      arith,
      path_shorter to here h.0 h.1,
      qualifiers_shorter menu_qualifier_names h.2 h.0 rest
          h.4,
    )

menu_entry_starts : (m : item.MenuEntry Path) (here rest : List Token) → MenuEntryHere m here rest
    → StartsEntry here
menu_entry_starts (item.Text (Quoted raw)) here rest h =
    rw h.3.1 (record {
      no_condition = (refl, refl);
      no_end = refl;
      no_comma = refl;
      ends = (refl, refl, refl);
    })
menu_entry_starts (item.Text (Key name)) here rest h =
    rw h (record {
      no_condition = (refl, refl);
      no_end = refl;
      no_comma = refl;
      ends = (refl, refl, refl);
    })
menu_entry_starts (item.Reference to qualifiers) here rest h =
    rw h.1.1 (record {
      no_condition = (refl, refl);
      no_end = refl;
      no_comma = refl;
      ends = (refl, refl, refl);
    })

pub listed_menu_entries : ListedValue leaf MenuEntryHere EndsEntry menu_entry_value
unfolding menu_entry_value
listed_menu_entries = record {
  again = λ height_left m here rest h low f. menu_entry_again m here rest h f;
  starts = λ m here rest h. (menu_entry_starts m here rest h).no_condition;
  no_end = λ m here rest h. (menu_entry_starts m here rest h).no_end;
  no_comma = λ m here rest h. (menu_entry_starts m here rest h).no_comma;
  shorter = menu_entry_shorter;
  at_comma = λ rest. (refl, refl, refl);
  at_end = λ rest e. end_ends rest (ends_cases rest e);
  at_if = λ rest. (refl, refl, refl);
  at_select = λ rest. (refl, refl, refl);
  at_value = λ m here rest h. (menu_entry_starts m here rest h).ends;
}
