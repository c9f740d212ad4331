-- A method that runs one time after the other.
use Rattle.std.proofs.Common.{◌≡◌, ℕ, suc, ◌+◌, ◌-◌, ◌<◌, List, Result, Ok, Err, ap, ◌∙◌, arith}
use Rattle.edd_syntax.specs.declared.numbers.MethNo.{MethNo}
use Rattle.edd_device.specs.declared.fault.DeviceFault.{DeviceFault}
use Rattle.edd_device.specs.Methods.{Now, ◌>>=◌, ran, ran_times}

module _ (d : List ℕ) (m : MethNo) (times done : ℕ) (now : Now) (more : done < times) where
  one : ran_times d m (times - done) now
      ≡ (ran d m now >>= λ next. ran_times d m (times - (done + 1)) next)
  one = let e : times - done ≡ suc (times - (done + 1)) = omega (arith, more) in
      ap (λ (n : ℕ). ran_times d m n now) e

pub one_ok : (d : List ℕ) (m : MethNo) (times done : ℕ) (now next : Now) → done < times
    → ran d m now ≡ Ok next
    → ran_times d m (times - done) now ≡ ran_times d m (times - (done + 1)) next
one_ok d m times done now next more e = one d m times done now more
    ∙ ap (λ (r : Result Now DeviceFault). r >>= λ n. ran_times d m (times - (done + 1)) n) e

pub one_err : (d : List ℕ) (m : MethNo) (times done : ℕ) (now : Now) (fault : DeviceFault)
    → done < times → ran d m now ≡ Err fault → ran_times d m (times - done) now ≡ Err fault
one_err d m times done now fault more e = one d m times done now more
    ∙ ap (λ (r : Result Now DeviceFault). r >>= λ n. ran_times d m (times - (done + 1)) n) e
