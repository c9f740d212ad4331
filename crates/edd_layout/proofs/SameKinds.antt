-- Kinds of tokens that are the same by `==` are the same.
use Rattle.std.proofs.Common.{◌≡◌, ℕ, Bool, true, false, refl, ap, List, [], ◌∷◌, inl, inr, nat_eq, slice_range, arith}
use denote.Enum.Bare.{sameb, same_true}
use denote.Enum.Compared.{Each, by}
use denote.Enum.Declared.{Choice, values_one}
use denote.Struct.Field.{Field}
use Rattle.edd_syntax.specs.contracts.operators.Operator.{the_type as the_operator}
use Rattle.edd_syntax.specs.contracts.operators.Comparison.{the_type as the_comparison}
use Rattle.edd_syntax.specs.contracts.symbols.Keyword.{the_type as the_keyword}
use Rattle.edd_syntax.specs.contracts.symbols.Symbol.{enum as the_symbol}
use Rattle.edd_syntax.specs.contracts.symbols.SymbolPartialEq.TheImpl as symbol_eq
use Rattle.edd_syntax.specs.declared.operators.Operator.{Operator}
use Rattle.edd_syntax.specs.declared.operators.Comparison.{Comparison}
use Rattle.edd_syntax.specs.declared.symbols.Keyword.{Keyword}
use Rattle.edd_syntax.specs.declared.symbols.Symbol.{Symbol}
use Rattle.edd_lexer.specs.contracts.token.TokenKind.{enum as the_kind}
use Rattle.edd_lexer.specs.contracts.token.TokenKindPartialEq.TheImpl as kind_eq
use Rattle.edd_lexer.specs.declared.token.TokenKind.{TokenKind}
use Rattle.edd_lexer.specs.declared.token.Token.{Token}
use Rattle.edd_layout.specs.Same.{spelling}

-- where the fields of each variant are the same by their own test, they are the same; a variant
-- without fields is
Tells : (Fss : List (List Field)) → Each Bool Fss → Type 0
Tells [] each = Unit
Tells ([] ∷ Fss) each = Tells Fss each.1
Tells ((F ∷ Fs) ∷ Fss) each = ((x y : _) → each.0 x y ≡ true → x ≡ y) × Tells Fss each.1

told : (Fss : List (List Field)) (each : Each Bool Fss) → Tells Fss each → (c d : Choice Fss)
    → by false false Fss each c d ≡ true → c ≡ d
unfolding Tells
told [] each tells c d e = absurd c
told ([] ∷ Fss) each tells (inl x) (inl y) e = refl
told ([] ∷ Fss) each tells (inl x) (inr y) e = absurd cc
told ([] ∷ Fss) each tells (inr x) (inl y) e = absurd cc
told ([] ∷ Fss) each tells (inr x) (inr y) e = ap inr (told Fss each.1 tells x y e)
told ((F ∷ Fs) ∷ Fss) each tells (inl x) (inl y) e = ap inl (tells.0 x y e)
told ((F ∷ Fs) ∷ Fss) each tells (inl x) (inr y) e = absurd cc
told ((F ∷ Fs) ∷ Fss) each tells (inr x) (inl y) e = absurd cc
told ((F ∷ Fs) ∷ Fss) each tells (inr x) (inr y) e = ap inr (told Fss each.1 tells.1 x y e)

operators : (a b : Operator × Unit {0}) → sameb the_operator a.0 b.0 ≡ true → a ≡ b
operators a b e = ap (λ (x : Operator). (x, tt)) (same_true the_operator tt a.0 b.0 e)

comparisons : (a b : Comparison × Unit {0}) → sameb the_comparison a.0 b.0 ≡ true → a ≡ b
comparisons a b e = ap (λ (x : Comparison). (x, tt)) (same_true the_comparison tt a.0 b.0 e)

words : (a b : Keyword × Unit {0}) → sameb the_keyword a.0 b.0 ≡ true → a ≡ b
words a b e = ap (λ (x : Keyword). (x, tt)) (same_true the_keyword tt a.0 b.0 e)

signs : (a b : Symbol × Unit {0}) → (symbol_eq.ghosts).eq a.0 b.0 ≡ true → a ≡ b
unfolding Tells
signs a b e = ap (λ (x : Symbol). (x, tt)) (values_one the_symbol a.0 b.0
    (told the_symbol.parts _ (operators, (comparisons, (operators, tt))) (the_symbol.as_values a.0)
    (the_symbol.as_values b.0) e))

numbers : (a b : ℕ × Unit {0}) → nat_eq a.0 b.0 ≡ true → a ≡ b
numbers a b e = grind arith

pub same_kind_is : (a b : TokenKind) → (kind_eq.ghosts).eq a b ≡ true → a ≡ b
unfolding Tells
same_kind_is a b e = values_one the_kind a b
    (told the_kind.parts _ (words, (numbers, (signs, tt))) (the_kind.as_values a)
    (the_kind.as_values b) e)

-- tokens of one kind whose bytes are these, and the same, are spelled alike
pub spelled_alike : (text other : List ℕ) (t u : Token) (bytes behind : List ℕ) → t.kind ≡ u.kind
    → bytes ≡ slice_range text t.start t.end → behind ≡ slice_range other u.start u.end
    → bytes ≡ behind → spelling text t ≡ spelling other u
spelled_alike text other t u bytes behind kinds taken others same = cc
