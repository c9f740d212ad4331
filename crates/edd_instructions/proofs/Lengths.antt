-- What is left after an instruction is shorter than what it was read from.
use Rattle.std.proofs.Common.{◌≡◌, ℕ, ◌-◌, ◌<◌, ◌≤◌, Bool, true, false, cond, List, [], ◌∷◌, length, drop, Option, Some, None, refl, sym, subst, arith, length-drop}
use Rattle.std.specs.Prelude.{IfSome, option_map, ◌==◌, nat_lt}
use Rattle.std.specs.Int.{Width, w16, w32, w64, byte_len}
use Rattle.edd_instructions.specs.declared.instruction.Instruction.{Instruction}
use Rattle.edd_image.specs.Front.{◌>>=◌, byte_from, number_from}
use Rattle.edd_instructions.specs.Decoding.{signed_from, listed_item, item_from, basic_from, operator_of, comparison_of, unary_of, jump_from, entry_from, data_from, enumerator_from, response_from, member_from, element_from, record_from, ask_of, ask_from, abort_method_from, instruction_from, instruction_at}

-- at most n bytes are left where something is read
abbrev pub Leaves : {A : Type 0} → ℕ → Option (A × List ℕ) → Type 0
Leaves {A} n read = (found : A × List ℕ) → read ≡ Some found → length found.1 ≤ n

none_leaves : {A : Type 0} (n : ℕ) → Leaves {A = A} n None
none_leaves n found e = absurd cc

some_leaves : {A : Type 0} (n : ℕ) (x : A) (rest : List ℕ) → length rest ≤ n
    → Leaves n (Some (x, rest))
some_leaves {A} n x rest h found e =
    let same : (x, rest) ≡ found = cc in
    subst (λ (y : A × List ℕ). length y.1 ≤ n) same h

choice_leaves : {A : Type 0} (n : ℕ) (test : Bool) (a b : Option (A × List ℕ)) → Leaves n a
    → Leaves n b → Leaves n (cond test a b)
choice_leaves n true a b p q = p
choice_leaves n false a b p q = q

then_leaves : {A B : Type 0} (n : ℕ) (read : Option (A × List ℕ)) (f : A × List ℕ
    → Option (B × List ℕ)) → Leaves n read → ((x : A × List ℕ) → length x.1 ≤ n → Leaves n (f x))
    → Leaves n (read >>= f)
then_leaves n None f p q found e = absurd cc
then_leaves n (Some x) f p q found e = q x (p x refl) found e

value_leaves : {A B : Type 0} (n : ℕ) (value : Option A) (f : A → Option (B × List ℕ))
    → ((x : A) → Leaves n (f x)) → Leaves n (value >>= f)
value_leaves n None f q found e = absurd cc
value_leaves n (Some x) f q found e = q x found e

map_leaves : {A B : Type 0} (n : ℕ) (value : Option A) (f : A → B) (rest : List ℕ) → length rest ≤ n
    → Leaves n (option_map (λ (x : A). (f x, rest)) value)
map_leaves n None f rest h = none_leaves n
map_leaves n (Some x) f rest h = some_leaves n (f x) rest h

byte_leaves : (n : ℕ) (bytes : List ℕ) → length bytes ≤ n → Leaves n (byte_from bytes)
unfolding byte_from
byte_leaves n [] h = none_leaves n
byte_leaves n (b ∷ rest) h = some_leaves n b rest (omega arith)

number_leaves : (w : Width) (n : ℕ) (bytes : List ℕ) → length bytes ≤ n
    → Leaves n (number_from w bytes)
unfolding number_from
number_leaves w n bytes h = choice_leaves n (nat_lt (length bytes) (byte_len w)) _ _ (none_leaves n)
    (some_leaves n _ (drop (byte_len w) bytes) (omega (arith, length-drop (byte_len w) bytes)))

signed_leaves : (w : Width) (n : ℕ) (bytes : List ℕ) → length bytes ≤ n
    → Leaves n (signed_from w bytes)
unfolding signed_from
signed_leaves w n bytes h = choice_leaves n (nat_lt (length bytes) (byte_len w)) _ _ (none_leaves n)
    (some_leaves n _ (drop (byte_len w) bytes) (omega (arith, length-drop (byte_len w) bytes)))

item_leaves : (n : ℕ) (bytes : List ℕ) → length bytes ≤ n → Leaves n (item_from bytes)
unfolding item_from
item_leaves n bytes h =
    then_leaves n (byte_from bytes) _ (byte_leaves n bytes h) (λ kind h1.
    then_leaves n (number_from w16 kind.1) _ (number_leaves w16 n kind.1 h1) (λ m h2.
    value_leaves n (listed_item kind.0 m.0) _ (λ item. some_leaves n item m.1 h2)))

basic_leaves : (n code : ℕ) (bytes : List ℕ) → length bytes ≤ n → Leaves n (basic_from code bytes)
unfolding basic_from
basic_leaves n code bytes h =
    choice_leaves n (code == 0x00) _ _ (some_leaves n _ bytes h) (
    choice_leaves n (code == 0x01) _ _
    (then_leaves n (number_from w32 bytes) _ (number_leaves w32 n bytes h)
    (λ x k. some_leaves n _ x.1 k)) (
    choice_leaves n (code == 0x02) _ _
    (then_leaves n (number_from w16 bytes) _ (number_leaves w16 n bytes h)
    (λ x k. some_leaves n _ x.1 k)) (
    choice_leaves n (code == 0x03) _ _
    (then_leaves n (number_from w16 bytes) _ (number_leaves w16 n bytes h)
    (λ x k. some_leaves n _ x.1 k)) (
    choice_leaves n (code == 0x04) _ _
    (then_leaves n (number_from w16 bytes) _ (number_leaves w16 n bytes h)
    (λ x k. some_leaves n _ x.1 k)) (
    choice_leaves n (code == 0x05) _ _
    (then_leaves n (number_from w16 bytes) _ (number_leaves w16 n bytes h)
    (λ x k. some_leaves n _ x.1 k)) (
    choice_leaves n (code == 0x06) _ _ (some_leaves n _ bytes h) (
    choice_leaves n (code == 0x07) _ _ (some_leaves n _ bytes h) (
    choice_leaves n (code == 0x08) _ _
    (then_leaves n (number_from w16 bytes) _ (number_leaves w16 n bytes h)
    (λ x k. some_leaves n _ x.1 k)) (none_leaves n)))))))))

jump_leaves : (n code : ℕ) (bytes : List ℕ) → length bytes ≤ n → Leaves n (jump_from code bytes)
unfolding jump_from
jump_leaves n code bytes h =
    choice_leaves n (code == 0x30) _ _
    (then_leaves n (number_from w32 bytes) _ (number_leaves w32 n bytes h)
    (λ x k. some_leaves n _ x.1 k)) (
    choice_leaves n (code == 0x31) _ _
    (then_leaves n (number_from w32 bytes) _ (number_leaves w32 n bytes h)
    (λ x k. some_leaves n _ x.1 k)) (
    choice_leaves n (code == 0x32) _ _
    (then_leaves n (number_from w32 bytes) _ (number_leaves w32 n bytes h)
    (λ x k. some_leaves n _ x.1 k)) (
    choice_leaves n (code == 0x33) _ _ (
    then_leaves n (signed_from w64 bytes) _ (signed_leaves w64 n bytes h) (λ x k.
    then_leaves n (number_from w32 x.1) _ (number_leaves w32 n x.1 k)
    (λ y l. some_leaves n _ y.1 l))) (none_leaves n))))

entry_leaves : (n : ℕ) (bytes : List ℕ) → length bytes ≤ n → Leaves n (entry_from bytes)
unfolding entry_from
entry_leaves n bytes h =
    then_leaves n (item_from bytes) _ (item_leaves n bytes h) (λ x k.
    then_leaves n (number_from w16 x.1) _ (number_leaves w16 n x.1 k) (λ y l.
    choice_leaves n (nat_lt y.0 16) _ _ (some_leaves n _ y.1 l) (none_leaves n)))

data_leaves : (n : ℕ) (bytes : List ℕ) → length bytes ≤ n → Leaves n (data_from bytes)
unfolding data_from
data_leaves n bytes h =
    then_leaves n (number_from w16 bytes) _ (number_leaves w16 n bytes h) (λ x k.
    then_leaves n (number_from w32 x.1) _ (number_leaves w32 n x.1 k) (λ y l.
    then_leaves n (byte_from y.1) _ (byte_leaves n y.1 l) (λ z m.
    choice_leaves n (nat_lt z.0 4) _ _ (some_leaves n _ z.1 m) (none_leaves n))))

enumerator_leaves : (n : ℕ) (bytes : List ℕ) → length bytes ≤ n → Leaves n (enumerator_from bytes)
unfolding enumerator_from
enumerator_leaves n bytes h =
    then_leaves n (signed_from w64 bytes) _ (signed_leaves w64 n bytes h) (λ x k.
    then_leaves n (number_from w16 x.1) _ (number_leaves w16 n x.1 k) (λ y l.
    then_leaves n (number_from w16 y.1) _ (number_leaves w16 n y.1 l)
    (λ z m. some_leaves n _ z.1 m)))

response_leaves : (n : ℕ) (bytes : List ℕ) → length bytes ≤ n → Leaves n (response_from bytes)
unfolding response_from
response_leaves n bytes h =
    then_leaves n (number_from w32 bytes) _ (number_leaves w32 n bytes h) (λ x k.
    then_leaves n (byte_from x.1) _ (byte_leaves n x.1 k) (λ y l.
    then_leaves n (number_from w16 y.1) _ (number_leaves w16 n y.1 l) (λ z m.
    choice_leaves n (nat_lt y.0 7) _ _ (some_leaves n _ z.1 m) (none_leaves n))))

member_leaves : (n : ℕ) (bytes : List ℕ) → length bytes ≤ n → Leaves n (member_from bytes)
unfolding member_from
member_leaves n bytes h =
    then_leaves n (number_from w16 bytes) _ (number_leaves w16 n bytes h) (λ x k.
    then_leaves n (item_from x.1) _ (item_leaves n x.1 k) (λ y l.
    then_leaves n (number_from w16 y.1) _ (number_leaves w16 n y.1 l) (λ z m.
    then_leaves n (number_from w16 z.1) _ (number_leaves w16 n z.1 m)
    (λ u p. some_leaves n _ u.1 p))))

element_leaves : (n : ℕ) (bytes : List ℕ) → length bytes ≤ n → Leaves n (element_from bytes)
unfolding element_from
element_leaves n bytes h =
    then_leaves n (number_from w32 bytes) _ (number_leaves w32 n bytes h) (λ x k.
    then_leaves n (number_from w16 x.1) _ (number_leaves w16 n x.1 k) (λ y l.
    then_leaves n (number_from w16 y.1) _ (number_leaves w16 n y.1 l) (λ z m.
    then_leaves n (number_from w16 z.1) _ (number_leaves w16 n z.1 m)
    (λ u p. some_leaves n _ u.1 p))))

record_leaves : (n code : ℕ) (bytes : List ℕ) → length bytes ≤ n → Leaves n (record_from code bytes)
unfolding record_from
record_leaves n code bytes h =
    choice_leaves n (code == 0x40) _ _
    (then_leaves n (number_from w16 bytes) _ (number_leaves w16 n bytes h)
    (λ x k. some_leaves n _ x.1 k)) (
    choice_leaves n (code == 0x41) _ _ (some_leaves n _ bytes h) (
    choice_leaves n (code == 0x42) _ _ (entry_leaves n bytes h) (
    choice_leaves n (code == 0x43) _ _ (then_leaves n (byte_from bytes) _ (byte_leaves n bytes h)
    (λ x k. some_leaves n _ x.1 k)) (
    choice_leaves n (code == 0x44) _ _ (data_leaves n bytes h) (
    choice_leaves n (code == 0x45) _ _ (enumerator_leaves n bytes h) (
    choice_leaves n (code == 0x46) _ _ (response_leaves n bytes h) (
    choice_leaves n (code == 0x47) _ _ (member_leaves n bytes h) (
    choice_leaves n (code == 0x48) _ _ (element_leaves n bytes h) (none_leaves n)))))))))

ask_leaves : (n : ℕ) (bytes : List ℕ) → length bytes ≤ n → Leaves n (ask_from bytes)
unfolding ask_from
ask_leaves n bytes h =
    then_leaves n (byte_from bytes) _ (byte_leaves n bytes h) (λ x k.
    then_leaves n (number_from w16 x.1) _ (number_leaves w16 n x.1 k) (λ y l.
    then_leaves n (number_from w16 y.1) _ (number_leaves w16 n y.1 l) (λ z m.
    value_leaves n (ask_of x.0 y.0 z.0) _ (λ request. some_leaves n _ z.1 m))))

abort_method_leaves : (n : ℕ) (bytes : List ℕ) → length bytes ≤ n
    → Leaves n (abort_method_from bytes)
unfolding abort_method_from
abort_method_leaves n bytes h =
    then_leaves n (number_from w16 bytes) _ (number_leaves w16 n bytes h)
    (λ x k. some_leaves n _ x.1 k)

pub instruction_leaves : (bytes : List ℕ) (found : Instruction × List ℕ) → instruction_from bytes
    ≡ Some found → length found.1 < length bytes
unfolding instruction_from
instruction_leaves [] found e = absurd cc
instruction_leaves (code ∷ bytes) found e =
    let n = length bytes in
    let le : n ≤ n = omega arith in
    let all = choice_leaves n (nat_lt code 0x10) _ _ (basic_leaves n code bytes le) (
    choice_leaves n (nat_lt code 0x1a) _ _ (map_leaves n (operator_of code) _ bytes le) (
    choice_leaves n (nat_lt code 0x20) _ _ (map_leaves n (comparison_of code) _ bytes le) (
    choice_leaves n (nat_lt code 0x30) _ _ (map_leaves n (unary_of code) _ bytes le) (
    choice_leaves n (nat_lt code 0x40) _ _ (jump_leaves n code bytes le) (
    choice_leaves n (nat_lt code 0x50) _ _ (record_leaves n code bytes le) (
    choice_leaves n (code == 0x50) _ _ (ask_leaves n bytes le) (
    choice_leaves n (code == 0x51) _ _ (some_leaves n _ bytes le) (
    choice_leaves n (code == 0x52) _ _ (abort_method_leaves n bytes le) (none_leaves n))))))))) in
    let here = all found e in
    omega (arith, here)

inside : (size place : ℕ) (read : Option (Instruction × List ℕ)) (found : Instruction × ℕ)
    → ((x : Instruction × List ℕ) → read ≡ Some x → length x.1 < size - place)
    → option_map (λ x. (x.0, size - length x.1)) read ≡ Some found
    → (place < found.1) × (found.1 ≤ size)
inside size place None found h e = absurd cc
inside size place (Some x) found h e =
    let same : (x.0, size - length x.1) ≡ found = cc in
    let short = h x refl in
    subst (λ (y : Instruction × ℕ). (place < y.1) × (y.1 ≤ size)) same
    (omega (arith, short), omega (arith, short))

-- the place after an instruction lies after it, and inside the code or at its end
pub instruction_inside : (code : List ℕ) (place : ℕ) (found : Instruction × ℕ)
    → instruction_at code place ≡ Some found → (place < found.1) × (found.1 ≤ length code)
unfolding instruction_at
instruction_inside code place found e =
    inside (length code) place (instruction_from (drop place code)) found
    (λ x r. omega (arith, instruction_leaves (drop place code) x r, length-drop place code)) e

pub found_inside : (code : List ℕ) (place : ℕ) (found : Option (Instruction × ℕ))
    → found ≡ instruction_at code place → IfSome found (λ x. (place < x.1) × (x.1 ≤ length code))
found_inside code place None e = tt
found_inside code place (Some x) e = instruction_inside code place x (sym e)

-- there is no instruction past the end
pub nothing_past : (code : List ℕ) (place : ℕ) → length code ≤ place → instruction_at code place
    ≡ None
nothing_past code place past = none_by (instruction_at code place) refl
  where
    none_by : (found : Option (Instruction × ℕ)) → instruction_at code place ≡ found → found ≡ None
    none_by None e = refl
    none_by (Some x) e = absurd (omega (arith, past, instruction_inside code place x e))
