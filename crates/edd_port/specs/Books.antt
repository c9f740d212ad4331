-- What a host has been asked, and what it answered.
use Rattle.std.specs.Prelude.{◌≡◌, ℕ, ◌+◌, List, [], ◌∷◌, ◌++◌}
use Rattle.edd_syntax.specs.Answers.{Answer}
use Rattle.edd_instructions.specs.declared.requests.Request.{Request}
use Rattle.edd_port.specs.declared.host.Reply.{Reply}
use Rattle.edd_port.specs.declared.host.Reply.TheVariants.{Give, Nothing, Failed}
use Rattle.edd_port.specs.Runs.{counted}

-- a request and its answer
pub record Pair : Type 0 where
  pub request : Request
  pub answer : Answer

-- the requests that a host answered, in order, and how often it had nothing or failed
pub record Book : Type 0 where
  pub pairs : List Pair
  pub nothing : ℕ
  pub failed : ℕ

-- the book after the host answered a request
abbrev pub with_pair : Book → Pair → Book
with_pair b pair = record b { pairs = b.pairs ++ pair ∷ [] }

-- the book after the host had nothing once more
abbrev pub with_nothing : Book → Book
with_nothing b = record b { nothing = counted (b.nothing + 1) }

-- the book after the host failed once more
abbrev pub with_failure : Book → Book
with_failure b = record b { failed = counted (b.failed + 1) }

-- what a reply to a request makes of the book: a pair more, or one count more
abbrev pub Replied : Book → Request → Reply → Book → Type 0
Replied before r Give after = (answer : Answer)
    × (after ≡ with_pair before (record { request = r; answer = answer }))
Replied before r Nothing after = after ≡ with_nothing before
Replied before r Failed after = after ≡ with_failure before

-- the answer is that of the last pair
abbrev pub IsLast : List Pair → Answer → Type 0
IsLast pairs answer = (others : List Pair) × (r : Request)
    × (pairs ≡ others ++ record { request = r; answer = answer } ∷ [])
