-- A sign or a word that is the same by `==` is the same one.
use Rattle.std.proofs.Common.{◌≡◌, Bool, true, false, refl, ap, List, [], ◌∷◌, inl, inr}
use denote.Enum.Bare.{sameb, same_true, true_same}
use denote.Enum.Compared.{Each, by}
use denote.Enum.Declared.{Choice, values_one}
use denote.Struct.Field.{Field}
use Rattle.edd_syntax.specs.contracts.operators.Operator.{the_type as the_operator}
use Rattle.edd_syntax.specs.contracts.operators.Comparison.{the_type as the_comparison}
use Rattle.edd_syntax.specs.contracts.symbols.Keyword.{the_type as the_keyword}
use Rattle.edd_syntax.specs.contracts.symbols.Symbol.{enum as the_symbol}
use Rattle.edd_syntax.specs.declared.operators.Operator.{Operator}
use Rattle.edd_syntax.specs.declared.operators.Comparison.{Comparison}
use Rattle.edd_syntax.specs.declared.symbols.Keyword.{Keyword}
use Rattle.edd_syntax.specs.declared.symbols.Symbol.{Symbol}
use Rattle.edd_syntax.specs.declared.symbols.Symbol.TheVariants as sign
use Rattle.edd_grammar.specs.Signs.{same_sign, same_word}

-- where the fields of each variant are the same by their own test, they are the same; a variant
-- without fields is
Tells : (Fss : List (List Field)) → Each Bool Fss → Type 0
Tells [] each = Unit
Tells ([] ∷ Fss) each = Tells Fss each.1
Tells ((F ∷ Fs) ∷ Fss) each = ((x y : _) → each.0 x y ≡ true → x ≡ y) × Tells Fss each.1

told : (Fss : List (List Field)) (each : Each Bool Fss) → Tells Fss each → (c d : Choice Fss)
    → by false false Fss each c d ≡ true → c ≡ d
unfolding Tells
told [] each tells c d e = absurd c
told ([] ∷ Fss) each tells (inl x) (inl y) e = refl
told ([] ∷ Fss) each tells (inl x) (inr y) e = absurd cc
told ([] ∷ Fss) each tells (inr x) (inl y) e = absurd cc
told ([] ∷ Fss) each tells (inr x) (inr y) e = ap inr (told Fss each.1 tells x y e)
told ((F ∷ Fs) ∷ Fss) each tells (inl x) (inl y) e = ap inl (tells.0 x y e)
told ((F ∷ Fs) ∷ Fss) each tells (inl x) (inr y) e = absurd cc
told ((F ∷ Fs) ∷ Fss) each tells (inr x) (inl y) e = absurd cc
told ((F ∷ Fs) ∷ Fss) each tells (inr x) (inr y) e = ap inr (told Fss each.1 tells.1 x y e)

operators : (a b : Operator × Unit {0}) → sameb the_operator a.0 b.0 ≡ true → a ≡ b
operators a b e = ap (λ (x : Operator). (x, tt)) (same_true the_operator tt a.0 b.0 e)

comparisons : (a b : Comparison × Unit {0}) → sameb the_comparison a.0 b.0 ≡ true → a ≡ b
comparisons a b e = ap (λ (x : Comparison). (x, tt)) (same_true the_comparison tt a.0 b.0 e)

pub same_sign_is : (a b : Symbol) → same_sign a b ≡ true → a ≡ b
unfolding Tells
same_sign_is a b e = values_one the_symbol a b
    (told the_symbol.parts _ (operators, (comparisons, (operators, tt))) (the_symbol.as_values a)
    (the_symbol.as_values b) e)

pub same_sign_self : (s : Symbol) → same_sign s s ≡ true
same_sign_self (sign.Operator a) = true_same the_operator a a refl
same_sign_self (sign.Comparison a) = true_same the_comparison a a refl
same_sign_self (sign.CompoundAssign a) = true_same the_operator a a refl
same_sign_self _ = refl

pub same_word_is : (a b : Keyword) → same_word a b ≡ true → a ≡ b
same_word_is a b e = same_true the_keyword tt a b e

pub same_word_self : (k : Keyword) → same_word k k ≡ true
same_word_self k = true_same the_keyword k k refl
