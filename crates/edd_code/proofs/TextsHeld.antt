-- The texts of arguments, added one after the other.
use Rattle.std.proofs.Common.{◌≡◌, refl, sym, ap, subst, ◌∙◌, ℕ, zero, suc, ◌+◌, ◌<◌, ◌≤◌, Bool, true, List, [], ◌∷◌, ◌++◌, length, get_or, map, take, drop, arith, append_assoc}
use Rattle.std.specs.Prelude.{Vec}
use Rattle.std.specs.List.{list_all}
use Rattle.std.proofs.lemmas.List.{take_more, take_all, take-append-drop, drop_more}
use Rattle.std.specs.declared.alloc.Global.{Global}
use Rattle.edd_syntax.specs.declared.numbers.TokenNo.{TokenNo}
use Rattle.edd_syntax.specs.declared.expr.Argument as code_argument
use Rattle.edd_syntax.specs.declared.expr.Argument.TheVariants as variant
use Rattle.edd_syntax.specs.declared.expr.Expr as code
use Rattle.edd_syntax.specs.declared.expr.Expr.TheVariants as e
use Rattle.edd_syntax.specs.declared.reference.Target.{Target}
use Rattle.edd_syntax.specs.declared.text.Text as code_text
use Rattle.edd_syntax.specs.Expression.{Argument, Call, Text, Value, arguments_from}
use Rattle.edd_syntax.specs.Size.{argument_nodes, nodes}
use Rattle.edd_syntax.specs.Strings.{argument_texts, expr_texts, strings_of_texts}
use Rattle.edd_syntax.specs.Text as texts
use Rattle.edd_syntax.specs.TreeView.{numbered_argument, numbered_expr}
use Rattle.edd_syntax.specs.WellFormed.{is_text}
use Rattle.edd_syntax.specs.Words.{Words, words_of}
use Rattle.edd_syntax.specs.WordsView.{text_of}
use Rattle.edd_syntax.proofs.TreeRows.{call_is}
use Rattle.edd_code.specs.Tables.{GrowsBy, Keeps, Overflows}
use Rattle.edd_code.specs.Written.{HoldsTexts}
use Rattle.edd_code.proofs.BothTests.{both_of, both_true}
use Rattle.edd_code.proofs.Growing.{no_growth}
use Rattle.edd_code.proofs.Numbered.{parts_written, plain_written, string_written, strings_listed, texts_listed, texts_overflow_first, texts_overflow_second}

-- ---- all are texts

pub all_parts : {A : Type 0} (p : A → Bool) (xs ys : List A) → list_all p (xs ++ ys) ≡ true
    → (list_all p xs ≡ true) × (list_all p ys ≡ true)
all_parts p [] ys h = (refl, h)
all_parts p (x ∷ xs) ys h =
    let here = both_of (p x) (list_all p (xs ++ ys)) h in
    let rest = all_parts p xs ys here.1 in
    (both_true here.0 rest.0, rest.1)

-- ---- texts in two parts

pub none_held : (table : List Words) → HoldsTexts table [] table
none_held table = plain_written table [] [] [] _ refl (λ number. refl)

pub one_held : (old new : List Words) (t : texts.Text) → GrowsBy old (words_of t ∷ []) new → (n : _)
    → Keeps new (words_of t) n → HoldsTexts old (t ∷ []) new
one_held old new t table n keeps = string_written old new [] [] (words_of t) n (λ k place. []) table
    keeps refl

pub both_held : {old mid new : List Words} (ts us : List texts.Text) → HoldsTexts old ts mid
    → HoldsTexts mid us new → HoldsTexts old (ts ++ us) new
both_held ts us v w = strings_listed (texts_listed ts us)
    (parts_written v w (λ number one two. refl))

pub ruleset holding = (
  no_growth,
  none_held,
  one_held,
  both_held,
  texts_overflow_first,
  texts_overflow_second,
)

-- ---- arguments

abbrev pub texts_of : List (Argument Target) → List texts.Text
texts_of xs = argument_texts (arguments_from xs)

texts_append : (xs ys : List (Argument Target)) → texts_of (xs ++ ys) ≡ texts_of xs ++ texts_of ys
texts_append [] ys = refl
texts_append (Text t ∷ xs) ys = ap (λ (ts : List texts.Text). t ∷ ts) (texts_append xs ys)
texts_append (Value e ∷ xs) ys = ap (λ (ts : List texts.Text). expr_texts e ++ ts)
    (texts_append xs ys) ∙ sym (append_assoc (expr_texts e) (texts_of xs) (texts_of ys))

module _ (xs : List (Argument Target)) (i : ℕ) (x : Argument Target) (h : i < length xs)
    (is : x ≡ get_or xs i x) where
  pub texts_next : texts_of (take i xs) ++ texts_of (x ∷ []) ≡ texts_of (take (i + 1) xs)
  texts_next = sym (ap texts_of
      (take_more xs i x h ∙ ap (λ (y : Argument Target). take i xs ++ y ∷ []) (sym is))
      ∙ texts_append (take i xs) (x ∷ []))

  texts_parts : texts_of (take i xs) ++ (texts_of (x ∷ []) ++ texts_of (drop (i + 1) xs))
      ≡ texts_of xs
  texts_parts =
      sym (ap texts_of (sym (take-append-drop i xs)
      ∙ ap (λ (ys : List (Argument Target)). take i xs ++ ys)
      (drop_more xs i x h ∙ ap (λ (y : Argument Target). y ∷ drop (i + 1) xs) (sym is)))
      ∙ texts_append (take i xs) (x ∷ drop (i + 1) xs)
      ∙ ap (λ (ts : List texts.Text). texts_of (take i xs) ++ ts)
      (texts_append (x ∷ []) (drop (i + 1) xs)))

  pub argument_kept : list_all is_text (texts_of xs) ≡ true → list_all is_text (texts_of (x ∷ []))
      ≡ true
  argument_kept kept =
      (all_parts is_text (texts_of (x ∷ [])) (texts_of (drop (i + 1) xs))
      (all_parts is_text (texts_of (take i xs)) (texts_of (x ∷ []) ++ texts_of (drop (i + 1) xs))
      (subst (λ (ts : List texts.Text). list_all is_text ts ≡ true) (sym texts_parts)
      kept)).1).0

  pub argument_held : {old mid new : List Words} → HoldsTexts old (texts_of (take i xs)) mid
      → HoldsTexts mid (texts_of (x ∷ [])) new → HoldsTexts old (texts_of (take (i + 1) xs)) new
  argument_held {old} {mid} {new} v w = subst (λ (ts : List texts.Text). HoldsTexts old ts new)
      texts_next (both_held (texts_of (take i xs)) (texts_of (x ∷ [])) v w)

  pub argument_overflows : {old mid : List Words} → HoldsTexts old (texts_of (take i xs)) mid
      → Overflows mid (strings_of_texts (texts_of (x ∷ [])))
      → Overflows old (strings_of_texts (texts_of xs))
  argument_overflows {old} {mid} v over =
      subst (λ (ts : List texts.Text). Overflows old (strings_of_texts ts)) texts_parts
      (texts_overflow_second (texts_of (take i xs))
      (texts_of (x ∷ []) ++ texts_of (drop (i + 1) xs)) v
      (texts_overflow_first mid (texts_of (x ∷ [])) (texts_of (drop (i + 1) xs)) over))

pub all_held : {old new : List Words} (xs : List (Argument Target)) (i : ℕ) → length xs ≤ i
    → HoldsTexts old (texts_of (take i xs)) new → HoldsTexts old (texts_of xs) new
all_held {old} {new} xs i h v =
    subst (λ (ys : List (Argument Target)). HoldsTexts old (texts_of ys) new) (take_all i xs h) v

-- an argument is at its place when the arguments are viewed
pub viewed_at : {X Y : Type 0} (view : X → Y) (xs : List X) (i : ℕ) {x : X} → i < length xs
    → x ≡ get_or xs i x → view x ≡ get_or (map view xs) i (view x)
viewed_at view [] i h is = absurd (omega arith)
viewed_at view (y ∷ xs) zero h is = ap view is
viewed_at view (y ∷ xs) (suc i) {x} h is = viewed_at view xs i (omega arith) is

-- ---- an argument has no more nodes than all

pub argument_falls : (xs : List (Argument Target)) (i : ℕ) (x : Argument Target) → i < length xs
    → x ≡ get_or xs i x → argument_nodes (arguments_from (x ∷ []))
    ≤ argument_nodes (arguments_from xs)
argument_falls [] i x h is = absurd (omega arith)
argument_falls (Text t ∷ xs) zero x h is = rw is (omega arith)
argument_falls (Value e ∷ xs) zero x h is = rw is (omega arith)
argument_falls (Text t ∷ xs) (suc i) x h is = omega (arith, argument_falls xs i x (omega arith) is)
argument_falls (Value e ∷ xs) (suc i) x h is = omega (arith, argument_falls xs i x (omega arith) is)

-- ---- variants of the code

pub text_held : {old new : List Words} {a : code_argument.Argument Target} {t : code_text.Text}
    → a ≡ variant.Text t → HoldsTexts old (text_of t ∷ []) new
    → HoldsTexts old (texts_of (numbered_argument a ∷ [])) new
text_held {old} {new} is h =
    subst (λ (x : code_argument.Argument Target). HoldsTexts old
    (texts_of (numbered_argument x ∷ [])) new) (sym is) h

module _ (x : code.Expr Target) (token : TokenNo) (function : Target)
    (v : Vec (code_argument.Argument Target) Global) (xs : List (code_argument.Argument Target))
    (is : x ≡ e.Call token function v) (same : xs ≡ v.items) where
  pub call_of : numbered_expr x ≡ Call function (arguments_from (map numbered_argument xs))
  call_of = call_is (λ r. r) x token function v is
      ∙ ap (λ (ys : List (code_argument.Argument Target)). Call function
      (arguments_from (map numbered_argument ys))) (sym same)

  pub call_texts : texts_of (map numbered_argument xs) ≡ expr_texts (numbered_expr x)
  call_texts = sym (ap expr_texts call_of)

  pub call_nodes : nodes (numbered_expr x) ≡ 1
      + argument_nodes (arguments_from (map numbered_argument xs))
  call_nodes = ap nodes call_of
