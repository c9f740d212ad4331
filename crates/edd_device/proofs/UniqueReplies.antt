-- What comes of a request is always the same.
use Rattle.std.proofs.Common.{◌≡◌, ℕ, ◌<◌, ◌⊎◌, inl, inr, ℤ, pos, Bool, List, Option, Some, None, Result, refl, sym, ap, subst, ◌∙◌}
use Rattle.std.specs.Prelude.{is_some}
use Rattle.std.proofs.lemmas.Bool.{cases_order}
use Rattle.edd_syntax.specs.declared.numbers.Attr.TheVariants as attr
use Rattle.edd_syntax.specs.declared.numbers.AttrRef.{AttrRef}
use Rattle.edd_instructions.specs.declared.requests.Request.{Request}
use Rattle.edd_instructions.specs.declared.requests.Request.TheVariants as request
use Rattle.edd_instructions.specs.Reading.{Reading}
use Rattle.edd_instructions.proofs.UniqueReadings.{unique}
use Rattle.edd_device.specs.declared.fault.DeviceFault.{DeviceFault}
use Rattle.edd_device.specs.Devices.{IsReply, IsSent, Simulated, Step, method_for, sent}
use Rattle.edd_device.specs.Messages.{AtPosition, IsCarried, IsFound, IsMessage, IsOther, Message, NumberAt, Numbers, OfCommand, TransactionAt, carried, entries, number_read, of_command, transaction_number}
use Rattle.edd_device.specs.Methods.{◌>>=◌}

numbers : (b : List ℕ) (values : List ℤ) (ref : AttrRef) (taken : Reading → Option ℤ)
    (m n : Option ℤ) → Numbers b values ref taken m → Numbers b values ref taken n → m ≡ n
numbers b values ref taken m n (r, read, e) (q, read', f) =
    e ∙ ap taken (unique b ref values r q read read') ∙ sym f

-- ---- the first of a number

-- at each place there is one number
abbrev Single : (At : ℕ → Option ℤ → Type 0) → Type 0
Single At = (k : ℕ) (m n : Option ℤ) → At k m → At k n → m ≡ n

clash : (At : ℕ → Option ℤ → Type 0) → Single At → (number : ℤ) (k : ℕ) → At k (Some number)
    → IsOther At number k → ⊥
clash At single number k here (n, at, other) = other (single k n (Some number) at here)

found : (At : ℕ → Option ℤ → Type 0) → Single At → (number : ℤ) (end : ℕ) (o p : Option ℕ)
    → IsFound At number end o → IsFound At number end p → o ≡ p
found At single number end None None f g = refl
found At single number end None (Some k) f g =
    absurd (clash At single number k g.here (f k g.within))
found At single number end (Some j) None f g =
    absurd (clash At single number j f.here (g j f.within))
found At single number end (Some j) (Some k) f g = by_order (cases_order j k)
  where
    by_order : (j ≡ k) ⊎ ((j < k) ⊎ (k < j)) → Some j ≡ Some k
    by_order (inl same) = ap (λ (n : ℕ). Some n) same
    by_order (inr (inl less)) = absurd (clash At single number j f.here (g.before j less))
    by_order (inr (inr more)) = absurd (clash At single number k g.here (f.before k more))

-- ---- messages

module _ (b : List ℕ) (values : List ℤ) where
  is_carried : (command position : ℕ) (m n : Result Message DeviceFault)
      → IsCarried b values command position m → IsCarried b values command position n → m ≡ n
  is_carried command position m n (q, r, read_q, read_r, e) (q', r', read_q', read_r', e') =
      let same_q = unique b (of_command command attr.Request position) values q q' read_q read_q' in
      let same_r = unique b (of_command command attr.Reply position) values r r' read_r read_r' in
      e ∙ ap (λ (x : Reading). carried command (entries x) (entries r)) same_q
      ∙ ap (λ (x : Reading). carried command (entries q') (entries x)) same_r ∙ sym e'

  at_position : (command : ℕ) (number transaction : ℤ) (known : Bool) (o : Option ℕ)
      (m n : Result Message DeviceFault)
      → AtPosition b values command number transaction known o m
      → AtPosition b values command number transaction known o n → m ≡ n
  at_position command number transaction known None m n e f = e ∙ sym f
  at_position command number transaction known (Some position) m n e f =
      is_carried command position m n e f

  of_one : (number transaction : ℤ) (known : Bool) (o : Option ℕ)
      (m n : Result Message DeviceFault) → OfCommand b values number transaction known o m
      → OfCommand b values number transaction known o n → m ≡ n
  of_one number transaction known None m n e f = e ∙ sym f
  of_one number transaction known (Some command) m n (o, is, e) (p, is', f) =
      let same : o ≡ p = found (TransactionAt b values command)
      (λ k x y. numbers b values (of_command command attr.Transaction k) transaction_number x y)
      transaction 4096 o p is is' in
      at_position command number transaction known p m n
      (subst (λ (x : Option ℕ). AtPosition b values command number transaction known x m) same e)
      f

  pub message : (number transaction : ℤ) (known : Bool) (m n : Result Message DeviceFault)
      → IsMessage b values number transaction known m
      → IsMessage b values number transaction known n → m ≡ n
  message number transaction known m n (o, is, e) (p, is', f) =
      let same : o ≡ p = found (NumberAt b values)
      (λ k x y. numbers b values (of_command k attr.Number 0) number_read x y) number _ o p is is'
      in
      of_one number transaction known p m n
      (subst (λ (x : Option ℕ). OfCommand b values number transaction known x m) same e) f

-- ---- replies

module _ (s : Simulated) (values : List ℤ) where
  sends : (number transaction : ℤ) (r q : Result Step DeviceFault)
      → IsSent s values number transaction r → IsSent s values number transaction q → r ≡ q
  sends number transaction r q (m, is, e) (n, is', f) =
      let same : m ≡ n = message s.instrument values number transaction
      (is_some (method_for s number transaction)) m n is is' in
      e ∙ ap (λ (x : Result Message DeviceFault). x >>= λ message. sent s values
      (method_for s number transaction) message) same ∙ sym f

  pub reply : (asks : Request) (r q : Result Step DeviceFault) → IsReply s values asks r
      → IsReply s values asks q → r ≡ q
  reply (request.SendCommand number) r q e f = sends number (pos 0) r q e f
  reply (request.SendCommandTrans number transaction) r q e f = sends number transaction r q e f
  reply _ r q e f = e ∙ sym f
