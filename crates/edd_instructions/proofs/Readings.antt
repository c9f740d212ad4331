-- What is read is spelled so.
use Rattle.std.proofs.Common.{◌≡◌, ℕ, zero, suc, ◌+◌, ◌<◌, ◌≤◌, ◌^◌, Bool, true, false, cond, ℤ, List, [], ◌∷◌, ◌++◌, length, take, drop, get_or, Option, Some, None, refl, sym, ap, subst, ◌∙◌, arith, length-take}
use Rattle.std.proofs.lemmas.List.{take-append-drop, get_or-drop}
use Rattle.std.proofs.lemmas.Bool.{ltb-false}
use Rattle.std.proofs.lemmas.Nat.{be_bytes_2, be_bytes_4, be_bytes_8}
use Rattle.std.proofs.lemmas.Int.{of_z-to_z}
use Rattle.std.proofs.Math.Facts.{sfits_to_z}
use Rattle.std.specs.Prelude.{option_map, nat_lt, FitsSigned}
use mir.Val.{bits}
use Rattle.std.specs.Int.{Width, w16, w32, w64, byte_len, from_be_bytes, to_be_bytes, cast_signed, cast_unsigned}
use Rattle.edd_image.specs.Front.{◌>>=◌, byte_from, number_from}
use Rattle.edd_instructions.specs.Decoding.{signed_from}
use Rattle.edd_image.specs.Layout.{u16, u32}
use Rattle.edd_instructions.specs.Spelling.{AreBytes, i64}

-- ---- what holds of a result, where there is one

abbrev pub Gives : {A : Type 0} → (A → Type 0) → Option A → Type 0
Gives {A} P o = (x : A) → o ≡ Some x → P x

pub gives_none : {A : Type 0} (P : A → Type 0) → Gives P None
gives_none P x e = absurd cc

pub gives_some : {A : Type 0} (P : A → Type 0) (y : A) → P y → Gives P (Some y)
gives_some {A} P y h x e =
    let same : y ≡ x = cc in
    subst P same h

pub gives_choice : {A : Type 0} (P : A → Type 0) (test : Bool) (a b : Option A)
    → (test ≡ true → Gives P a) → (test ≡ false → Gives P b) → Gives P (cond test a b)
gives_choice P true a b p q = p refl
gives_choice P false a b p q = q refl

pub gives_then : {A B : Type 0} (P : B → Type 0) (read : Option A) (f : A → Option B)
    → ((y : A) → read ≡ Some y → Gives P (f y)) → Gives P (read >>= f)
gives_then P None f q x e = absurd cc
gives_then P (Some y) f q x e = q y refl x e

pub gives_map : {A B : Type 0} (P : B → Type 0) (read : Option A) (f : A → B)
    → ((y : A) → read ≡ Some y → P (f y)) → Gives P (option_map f read)
gives_map P None f q x e = absurd cc
gives_map P (Some y) f q x e =
    let same : f y ≡ x = cc in
    subst P same (q y refl)

-- ---- numbers

pub drop_bytes : (n : ℕ) (bytes : List ℕ) → AreBytes bytes → AreBytes (drop n bytes)
drop_bytes n bytes are =
    record { below = λ i. let h = are.below (n + i) in rw (get_or-drop n bytes i 0) h }

take_below : (n : ℕ) (bytes : List ℕ) → AreBytes bytes → (i : ℕ) → get_or (take n bytes) i 0 < 256
take_below zero bytes are i = omega arith
take_below (suc n) [] are i = omega arith
take_below (suc n) (b ∷ bytes) are zero = are.below 0
take_below (suc n) (b ∷ bytes) are (suc i) =
    take_below n bytes (record { below = λ k. are.below (suc k) }) i

-- the bytes begin with the piece, and what is after it is bytes
pub record Begins (bytes piece rest : List ℕ) : Type 0 where
  pub is : bytes ≡ piece ++ rest
  pub others : AreBytes rest

pub byte_took : (bytes : List ℕ) → AreBytes bytes
    → Gives (λ x. Begins bytes (x.0 ∷ []) x.1 × (x.0 < 256)) (byte_from bytes)
unfolding byte_from
byte_took [] are = gives_none _
byte_took (b ∷ rest) are = gives_some (λ (x : ℕ × List ℕ). Begins (b ∷ rest) (x.0 ∷ []) x.1
    × (x.0 < 256)) (b, rest)
    (record { is = refl; others = record { below = λ k. are.below (suc k) } }, are.below 0)

number_took : (w : Width) (n : ℕ) (bytes : List ℕ) → byte_len w ≡ n → AreBytes bytes
    → ((bs : List ℕ) → length bs ≡ byte_len w → ((i : ℕ) → get_or bs i 0 < 256)
    → (to_be_bytes w (from_be_bytes w bs) ≡ bs) × (from_be_bytes w bs < 2 ^ bits w))
    → Gives (λ x. Begins bytes (to_be_bytes w x.0) x.1 × (x.0 < 2 ^ bits w)) (number_from w bytes)
unfolding number_from
number_took w n bytes same are back =
    let P : ℕ × List ℕ → Type 0 = λ x. Begins bytes (to_be_bytes w x.0) x.1 × (x.0 < 2 ^ bits w) in
    gives_choice P (nat_lt (length bytes) (byte_len w)) _ _ (λ e. gives_none P) (λ e.
    let long : byte_len w ≤ length bytes = ltb-false (length bytes) (byte_len w) e in
    let b = back (take (byte_len w) bytes) (simp length-take (omega arith))
    (take_below (byte_len w) bytes are) in
    gives_some P _ (
      record {
        is = sym (ap (λ (l : List ℕ). l ++ drop (byte_len w) bytes) b.0
            ∙ take-append-drop (byte_len w) bytes);
        others = drop_bytes (byte_len w) bytes are;
      },
      b.1,
    ))

back_2 : (bs : List ℕ) → length bs ≡ 2 → ((i : ℕ) → get_or bs i 0 < 256)
    → (to_be_bytes w16 (from_be_bytes w16 bs) ≡ bs) × (from_be_bytes w16 bs < 2 ^ 16)
back_2 bs len below = (be_bytes_2 bs _ len below refl, omega (arith, below 0, below 1))

back_4 : (bs : List ℕ) → length bs ≡ 4 → ((i : ℕ) → get_or bs i 0 < 256)
    → (to_be_bytes w32 (from_be_bytes w32 bs) ≡ bs) × (from_be_bytes w32 bs < 2 ^ 32)
back_4 bs len below = (
  be_bytes_4 bs _ len below refl,
  omega (arith, below 0, below 1, below 2, below 3),
)

back_8 : (bs : List ℕ) → length bs ≡ 8 → ((i : ℕ) → get_or bs i 0 < 256)
    → (to_be_bytes w64 (from_be_bytes w64 bs) ≡ bs) × (from_be_bytes w64 bs < 2 ^ 64)
back_8 bs len below = (
  be_bytes_8 bs _ len below refl,
  omega (arith, below 0, below 1, below 2, below 3, below 4, below 5, below 6, below 7),
)

pub u16_took : (bytes : List ℕ) → AreBytes bytes
    → Gives (λ x. Begins bytes (u16 x.0) x.1 × (x.0 < 2 ^ 16)) (number_from w16 bytes)
u16_took bytes are = number_took w16 2 bytes refl are back_2

pub u32_took : (bytes : List ℕ) → AreBytes bytes
    → Gives (λ x. Begins bytes (u32 x.0) x.1 × (x.0 < 2 ^ 32)) (number_from w32 bytes)
u32_took bytes are = number_took w32 4 bytes refl are back_4

signed_again : (n : ℕ) → n < 2 ^ 64 → (cast_unsigned w64 (cast_signed w64 n) ≡ n)
    × FitsSigned w64 (cast_signed w64 n)
signed_again n lt = (of_z-to_z w64 n lt, sfits_to_z (omega arith))

pub i64_took : (bytes : List ℕ) → AreBytes bytes
    → Gives (λ x. Begins bytes (i64 x.0) x.1 × FitsSigned w64 x.0) (signed_from w64 bytes)
unfolding signed_from
i64_took bytes are =
    let P : ℤ × List ℕ → Type 0 = λ x. Begins bytes (i64 x.0) x.1 × FitsSigned w64 x.0 in
    gives_choice P (nat_lt (length bytes) 8) _ _ (λ e. gives_none P) (λ e.
    let long : 8 ≤ length bytes = ltb-false (length bytes) 8 e in
    let b = back_8 (take 8 bytes) (simp length-take (omega arith)) (take_below 8 bytes are) in
    let again = signed_again (from_be_bytes w64 (take 8 bytes)) b.1 in
    gives_some P _ (
      record {
        is = sym (ap (λ (n : ℕ). to_be_bytes w64 n ++ drop 8 bytes) again.0
            ∙ ap (λ (l : List ℕ). l ++ drop 8 bytes) b.0 ∙ take-append-drop 8 bytes);
        others = drop_bytes 8 bytes are;
      },
      again.1,
    ))
