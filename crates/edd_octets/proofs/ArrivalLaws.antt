-- The sets of what came leave each bit that came as the sender has it, and all others as they were.
use Rattle.std.proofs.Common.{◌≡◌, ◌≢◌, ℕ, zero, suc, ◌*◌, ◌^◌, ◌<◌, ◌≤◌, ◌==◌, ◌⊎◌, Bool, true, false, ℤ, pos, List, [], ◌∷◌, length, refl, sym, ap, subst, ◌∙◌, arith, inl, inr}
use Rattle.std.specs.Prelude.{if◌then◌else◌, bit_and, bit_or, min, slice_set}
use Rattle.std.specs.Int.{w32, bit_at, bit_not}
use Rattle.std.proofs.lemmas.Bool.{cases_lt, eq-eqb, eqb-true, eqb-false}
use Rattle.std.proofs.lemmas.List.{get_or-set_same, get_or-set_other, get_or_past, length-set}
use Rattle.std.proofs.Math.Nat.{mod-eq_of_lt}
use Rattle.std.proofs.lemmas.Nat.{or_lt, and_le_l, pow_pos}
use Rattle.std.proofs.lemmas.Nat.Bits.{bit_at_and, bit_at_or, bit_at_not, bit_at-lt, bit_at-zero, bit_at_above}
use Rattle.edd_syntax.specs.declared.numbers.VarNo.{VarNo}
use Rattle.edd_syntax.specs.Answers.{Change, values_set}
use Rattle.edd_syntax.specs.DeviceValues.{VariableType, type_at, value_at}
use Rattle.edd_octets.specs.Arrival.{Arrives, bits_under, names}
use Rattle.edd_octets.specs.Decoding.{Received, sets_of, value_with}
use Rattle.edd_octets.specs.Masks.{bits_of, renewed}
use Rattle.edd_octets.proofs.NumberLaws.{bits_back, residue_small}
use Rattle.edd_octets.proofs.ReceivedLaws.{AreOwn, IsOwn}

-- variables have at most four octets
abbrev pub AreSmall : List VariableType → Type 0
AreSmall types = (v : VarNo) → (type_at types v).size ≤ 4

-- a bit that is taken where it is named, and else left
abbrev chosen : (named taken left : ℕ) → ℕ
chosen named taken left = if named == 1 then taken else left

chosen_one : (named taken left : ℕ) → named ≡ 1 → chosen named taken left ≡ taken
chosen_one named taken left e = rw (eq-eqb named 1 e) refl

chosen_other : (named taken left : ℕ) → named ≡ 0 → chosen named taken left ≡ left
chosen_other named taken left e = rw e refl

-- a bit is 0 or 1
zero_or_one : (n i : ℕ) → (bit_at n i ≡ 1) ⊎ (bit_at n i ≡ 0)
zero_or_one n i = elim (cases_lt (bit_at n i) 1) [
  | inl less ↦ inr (omega arith)
  | inr more ↦ inl (omega (arith, bit_at-lt n i))
]

-- a bit of what is renewed
renewed_bit : (named old new sent i : ℕ) → named < 2 ^ 32 → old < 2 ^ 32
    → new ≡ bit_and sent named
    → bit_at (renewed named old new) i ≡ chosen (bit_at named i) (bit_at sent i) (bit_at old i)
renewed_bit named old new sent i small fits is =
    let new_bit : bit_at new i ≡ min (bit_at sent i) (bit_at named i) =
    ap (λ (n : ℕ). bit_at n i) is ∙ bit_at_and sent named i in
    let whole = bit_at_or (bit_and old (bit_not w32 named)) new i in
    let kept = bit_at_and old (bit_not w32 named) i in
    elim (cases_lt i 32) [
      | inl low ↦
          let left = bit_at_not w32 named i small low in
          elim (zero_or_one named i) [
            | inl one ↦ omega (arith, new_bit, whole, kept, left, one, bit_at-lt sent i, bit_at-lt old i)
                ∙ sym (chosen_one (bit_at named i) (bit_at sent i) (bit_at old i) one)
            | inr none ↦ omega (arith, new_bit, whole, kept, left, none, bit_at-lt sent i, bit_at-lt old i)
                ∙ sym (chosen_other (bit_at named i) (bit_at sent i) (bit_at old i) none)
          ]
      | inr high ↦
          let none = bit_at_above named 32 i small high in
          let gone = bit_at_above old 32 i fits high in
          omega (arith, new_bit, whole, kept, none, gone)
          ∙ sym (chosen_other (bit_at named i) (bit_at sent i) (bit_at old i) none)
    ]

chosen_twice : (named more i sent old : ℕ)
    → chosen (bit_at more i) sent (chosen (bit_at named i) sent old)
    ≡ chosen (bit_at (bit_or named more) i) sent old
chosen_twice named more i sent old =
    let both = bit_at_or named more i in
    elim (zero_or_one more i) [
      | inl one ↦ chosen_one (bit_at more i) sent (chosen (bit_at named i) sent old) one
          ∙ sym (chosen_one (bit_at (bit_or named more) i) sent old
          (omega (arith, both, one, bit_at-lt named i)))
      | inr none ↦ chosen_other (bit_at more i) sent (chosen (bit_at named i) sent old) none
          ∙ ap (λ (n : ℕ). chosen n sent old) (omega (arith, both, none))
    ]

pub below_all : (size n : ℕ) → size ≤ 4 → n < 2 ^ (8 * size) → n < 2 ^ 32
below_all zero n few small = omega arith
below_all (suc zero) n few small = omega arith
below_all (suc (suc zero)) n few small = omega arith
below_all (suc (suc (suc zero))) n few small = omega arith
below_all (suc (suc (suc (suc zero)))) n few small = omega arith
below_all (suc (suc (suc (suc (suc size))))) n few small = absurd (omega arith)

module _ (types : List VariableType) (sender : List ℤ) (small : AreSmall types) where
  -- the values after one set
  abbrev after_one : List ℤ → Received → List ℤ
  after_one receiver r = slice_set receiver r.variable.0 (value_with types receiver r)

  here : (receiver : List ℤ) (r : Received) → IsOwn types sender r
      → r.variable.0 < length receiver → (i : ℕ)
      → bit_at (bits_under types (after_one receiver r) r.variable) i
      ≡ chosen (bit_at r.named i) (bit_at (bits_under types sender r.variable) i)
      (bit_at (bits_under types receiver r.variable) i)
  here receiver r ours inside i =
      let t = type_at types r.variable in
      let old = bits_under types receiver r.variable in
      let sent = bits_under types sender r.variable in
      let old_small = residue_small (8 * t.size) (value_at receiver r.variable) in
      let sent_small = residue_small (8 * t.size) (value_at sender r.variable) in
      let fits : renewed r.named old r.bits < 2 ^ (8 * t.size) =
      or_lt (8 * t.size) (bit_and old (bit_not w32 r.named)) r.bits
      (omega (arith, and_le_l old (bit_not w32 r.named), old_small))
      (omega (arith, ours.0, and_le_l sent r.named, sent_small)) in
      let value : value_at (after_one receiver r) r.variable ≡ value_with types receiver r =
      get_or-set_same receiver r.variable.0 (value_with types receiver r) (pos 0) inside in
      ap (λ (z : ℤ). bit_at (bits_of t z) i) value
      ∙ ap (λ (n : ℕ). bit_at n i) (bits_back t (renewed r.named old r.bits) fits)
      ∙ renewed_bit r.named old r.bits sent i ours.1
      (below_all t.size old (small r.variable) old_small) ours.0

  elsewhere : (receiver : List ℤ) (r : Received) (v : VarNo) → v.0 ≢ r.variable.0
      → bits_under types (after_one receiver r) v ≡ bits_under types receiver v
  elsewhere receiver r v apart = ap (bits_of (type_at types v))
      (get_or-set_other receiver r.variable.0 v.0 (value_with types receiver r) (pos 0) apart)

  -- after one set: of its variable, and of another
  one_set : (receiver : List ℤ) (r : Received) (more : ℕ) → IsOwn types sender r → (v : VarNo)
      → v.0 < length receiver → (i : ℕ) (is_same : Bool) → (r.variable.0 == v.0) ≡ is_same
      → chosen (bit_at more i) (bit_at (bits_under types sender v) i)
      (bit_at (bits_under types (after_one receiver r) v) i)
      ≡ chosen (bit_at (if is_same then bit_or r.named more else more) i)
      (bit_at (bits_under types sender v) i) (bit_at (bits_under types receiver v) i)
  one_set receiver r more ours v inside i true e =
      let same : r.variable ≡ v =
      ap (λ (n : ℕ). record { 0 = n }) (eqb-true r.variable.0 v.0 e) in
      let within : r.variable.0 < length receiver = omega (arith, eqb-true r.variable.0 v.0 e) in
      subst (λ (w : VarNo). chosen (bit_at more i) (bit_at (bits_under types sender w) i)
      (bit_at (bits_under types (after_one receiver r) w) i)
      ≡ chosen (bit_at (bit_or r.named more) i)
      (bit_at (bits_under types sender w) i) (bit_at (bits_under types receiver w) i)) same
      (ap (chosen (bit_at more i) (bit_at (bits_under types sender r.variable) i))
      (here receiver r ours within i)
      ∙ chosen_twice r.named more i (bit_at (bits_under types sender r.variable) i)
      (bit_at (bits_under types receiver r.variable) i))
  one_set receiver r more ours v inside i false e =
      let apart : v.0 ≢ r.variable.0 = λ same. eqb-false r.variable.0 v.0 e (sym same) in
      ap (λ (n : ℕ). chosen (bit_at more i) (bit_at (bits_under types sender v) i) (bit_at n i))
      (elsewhere receiver r v apart)

  arrive : (all : List Received) (receiver : List ℤ) → AreOwn types sender all → (v : VarNo)
      → v.0 < length receiver → (i : ℕ)
      → bit_at (bits_under types (values_set receiver (sets_of types receiver all)) v) i
      ≡ chosen (bit_at (names all v) i) (bit_at (bits_under types sender v) i)
      (bit_at (bits_under types receiver v) i)
  arrive [] receiver ours v inside i =
      sym (chosen_other (bit_at 0 i) (bit_at (bits_under types sender v) i)
      (bit_at (bits_under types receiver v) i) (bit_at-zero i))
  arrive (r ∷ rest) receiver ours v inside i =
      let next = after_one receiver r in
      let within : v.0 < length next =
      omega (arith, length-set receiver r.variable.0 (value_with types receiver r), inside) in
      arrive rest next ours.1 v within i
      ∙ one_set receiver r (names rest v) ours.0 v inside i (r.variable.0 == v.0) refl

  length_set : (sets : List Change) (values : List ℤ) → length (values_set values sets) ≡ length values
  length_set [] values = refl
  length_set (set ∷ rest) values =
      length_set rest (slice_set values set.variable.0 set.value)
      ∙ length-set values set.variable.0 set.value

  -- past the last variable all bits are 0
  past : (values : List ℤ) (v : VarNo) (i : ℕ) → length values ≤ v.0
      → bit_at (bits_under types values v) i ≡ 0
  past values v i le = ap (λ (z : ℤ). bit_at (bits_of (type_at types v) z) i)
      (get_or_past values v.0 (pos 0) le)
      ∙ ap (λ (n : ℕ). bit_at n i) (mod-eq_of_lt (pow_pos (8 * (type_at types v).size)))
      ∙ bit_at-zero i

  pub arrives : (all : List Received) (receiver : List ℤ) → AreOwn types sender all
      → length sender ≡ length receiver
      → Arrives types sender receiver (values_set receiver (sets_of types receiver all)) all
  arrives all receiver ours long v i = elim (cases_lt v.0 (length receiver)) [
    | inl inside ↦ arrive all receiver ours v inside i
    | inr outside ↦
        let after = values_set receiver (sets_of types receiver all) in
        let gone = past after v i
        (omega (arith, length_set (sets_of types receiver all) receiver, outside)) in
        let sent = past sender v i (omega (arith, long, outside)) in
        let kept = past receiver v i outside in
        elim (zero_or_one (names all v) i) [
          | inl one ↦ gone ∙ sym sent ∙ sym (chosen_one (bit_at (names all v) i) _ _ one)
          | inr none ↦ gone ∙ sym kept ∙ sym (chosen_other (bit_at (names all v) i) _ _ none)
        ]
  ]
