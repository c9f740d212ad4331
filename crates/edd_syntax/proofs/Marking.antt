-- The bits of attributes that are written.
use Rattle.std.proofs.Common.{◌≡◌, refl, sym, ap, ◌∙◌, ℕ, ◌*◌, ◌%◌, ◌^◌, ◌≤◌, w32, Bool, true, false, arith}
use Rattle.std.specs.Prelude.{◌==◌, ◌||◌, nat_le}
use Rattle.std.specs.Int.{bit_at}
use Rattle.std.specs.Int.Bits.{bit_or}
use Rattle.std.proofs.Math.Bool.{or-false}
use Rattle.std.proofs.lemmas.Bool.{leb-true, eqb-true, eqb-false, or_right}
use Rattle.std.proofs.lemmas.Nat.Bits.{bit_at-zero, bit_at_set_same, bit_at_set_other}
use Rattle.edd_syntax.specs.declared.numbers.Attr.{Attr}
use Rattle.edd_syntax.specs.Marks.{is_marked}
use Rattle.edd_syntax.specs.Numbers.{attr_number, same_attr}
use Rattle.edd_syntax.proofs.EveryAttribute.{every_attr}

pub few_attributes : (a : Attr) → attr_number a ≤ 31
few_attributes a = leb-true (attr_number a) 31
    (every_attr (λ b. nat_le (attr_number b) 31) (λ b. true) refl a)

pub none_marked : (a : Attr) → is_marked 0 a ≡ false
none_marked a = ap (λ n. n == 1) (bit_at-zero (attr_number a))

module _ (marks : ℕ) (a b : Attr) where
  abbrev all : ℕ
  all = bit_or marks (1 * 2 ^ attr_number b % 2 ^ 32)

  by_same : (c : Bool) → same_attr a b ≡ c → is_marked all a ≡ (is_marked marks a || c)
  by_same true is =
      ap (λ n. bit_at all n == 1) (eqb-true (attr_number a) (attr_number b) is)
      ∙ ap (λ n. n == 1) (bit_at_set_same w32 marks (attr_number b)
      (let few = few_attributes b in omega arith))
      ∙ sym (or_right (is_marked marks a) true refl)
  by_same false is =
      ap (λ n. n == 1) (bit_at_set_other w32 marks (attr_number b)
      (let few = few_attributes b in omega arith) (attr_number a)
      (eqb-false (attr_number a) (attr_number b) is))
      ∙ sym (or-false (is_marked marks a))

  -- one attribute more
  pub mark_more : is_marked (bit_or marks (1 * 2 ^ attr_number b % 2 ^ 32)) a
      ≡ (is_marked marks a || same_attr a b)
  mark_more = by_same (same_attr a b) refl

pub ruleset marks = (few_attributes)
