-- A session of a program in C: numbers that its calls write.
use Rattle.std.specs.Prelude.{◌≡◌, ℕ, ℤ, List, [], Some}
use Rattle.edd_syntax.specs.declared.numbers.MethNo.{MethNo}
use Rattle.edd_syntax.specs.Answers.{Answer}
use Rattle.edd_port.specs.Runs.{Run, advanced}
use Rattle.edd_embed.specs.declared.sessions.PlainSession.{PlainSession}
use Rattle.edd_embed.specs.declared.turns.PlainTurn.{PlainTurn}
use Rattle.edd_embed.specs.Sessions.{Advances, Answers, Starts, run_of, state_in}
use Rattle.edd_promise.specs.Sessions.{IsSession, Past, nothing_done, with_answer, with_run}

-- This is what calls on the numbers of a session make of them and of the values, in any order and
-- however they are cut, where each takes what the one before has left.
pub data ComesPlain (b : List ℕ) (method : MethNo) (device : List ℤ)
    : Past → PlainSession → (values : List ℤ) → Type 0 where
  -- it was just started
  Started : (p : PlainSession) → Starts b method device p
      → ComesPlain b method device nothing_done p device
  -- it is advanced, within any budget
  Advanced : (past : Past) (old new : PlainSession) (values after : List ℤ) (budget : ℕ)
      (shown : PlainTurn) → ComesPlain b method device past old values
      → (advances : Advances b old values budget new after shown)
      → ComesPlain b method device
      (with_run past [] (advanced (run_of b old advances.before) budget)) new after
  -- the pending request is answered
  Answered : (past : Past) (old new : PlainSession) (values after : List ℤ) (answer : Answer)
      → ComesPlain b method device past old values → Answers b old values answer new after
      → ComesPlain b method device (with_answer past answer) new after

-- The numbers stand for a session that did this and is now here.
pub record StandsFor (b : List ℕ) (method : MethNo) (device : List ℤ) (past : Past)
    (p : PlainSession) (values : List ℤ) (now : Run) : Type 0 where
  pub session : IsSession b method device past now
  pub stands : state_in b p values ≡ Some now.state
