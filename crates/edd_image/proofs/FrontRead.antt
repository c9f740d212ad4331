-- A number that was written is read again, whatever follows it.
use Rattle.std.proofs.Common.{◌≡◌, ℕ, ◌<◌, ◌^◌, false, ltb, List, ◌++◌, length, Some, refl, arith}
use Rattle.std.specs.Int.{Width, w16, w32, byte_len, from_be_bytes, to_be_bytes}
use Rattle.std.proofs.lemmas.Bool.{le-ltb}
use Rattle.std.proofs.lemmas.List.{take_at, drop_at, length-append}
use Rattle.std.proofs.lemmas.Nat.{from_be_bytes-to_be_bytes_2, from_be_bytes-to_be_bytes_4}
use Rattle.edd_image.specs.Layout.{u16, u32}
use Rattle.edd_image.specs.Front.{number_from}

pub enough : (w : Width) (n : ℕ) (rest : List ℕ) → length (to_be_bytes w n) ≡ byte_len w
    → ltb (length (to_be_bytes w n ++ rest)) (byte_len w) ≡ false
enough w n rest len = le-ltb _ _ (omega (arith, len, length-append (to_be_bytes w n) rest))

number_again : (w : Width) (n : ℕ) (rest : List ℕ) → length (to_be_bytes w n) ≡ byte_len w
    → from_be_bytes w (to_be_bytes w n) ≡ n → number_from w (to_be_bytes w n ++ rest)
    ≡ Some (n, rest)
unfolding number_from
number_again w n rest len same =
    rw (
      enough w n rest len,
      take_at (to_be_bytes w n) rest (byte_len w) len,
      drop_at (to_be_bytes w n) rest (byte_len w) len,
      same,
    ) refl

pub u16_again : (n : ℕ) (rest : List ℕ) → n < 2 ^ 16 → number_from w16 (u16 n ++ rest)
    ≡ Some (n, rest)
u16_again n rest lt = number_again w16 n rest refl (from_be_bytes-to_be_bytes_2 n lt)

pub u32_again : (n : ℕ) (rest : List ℕ) → n < 2 ^ 32 → number_from w32 (u32 n ++ rest)
    ≡ Some (n, rest)
u32_again n rest lt = number_again w32 n rest refl (from_be_bytes-to_be_bytes_4 n lt)
