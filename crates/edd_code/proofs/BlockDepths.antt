-- The number of operands at each place of a block, in a unit of any version and sort.
use Rattle.std.proofs.Common.{◌≡◌, sym, ap, ◌∙◌, ℕ, ◌+◌, ◌-◌, ◌<◌, ◌≤◌, Bool, true, false, arith}
use Rattle.std.specs.Prelude.{nat_lt}
use Rattle.std.proofs.lemmas.Bool.{lt-ltb, le-ltb}
use Rattle.edd_instructions.specs.declared.unit.Sort.{Sort}
use Rattle.edd_image.specs.declared.versions.Version.{Version}
use Rattle.edd_code.specs.Blocks.{Block, Nothing, Straight, Then, WhenNotZero, WhenZero, Either, Match, size}
use Rattle.edd_code.specs.Flow.{FlowsIn, depth_after}
use Rattle.edd_code.proofs.Lines.{spelling_not_empty}

-- this in front of a place, and that from there on
abbrev pub until : (place x : ℕ) → (here behind : ℕ) → ℕ
until place x here behind = elim (nat_lt x place) as (λ _. ℕ) [ true ↦ here | false ↦ behind ]

pub until_front : (place x here behind : ℕ) → x < place → until place x here behind ≡ here
until_front place x here behind h =
    ap (λ (b : Bool). elim b as (λ _. ℕ) [ true ↦ here | false ↦ behind ]) (lt-ltb x place h)

pub until_behind : (place x here behind : ℕ) → place ≤ x → until place x here behind ≡ behind
until_behind place x here behind h =
    ap (λ (b : Bool). elim b as (λ _. ℕ) [ true ↦ here | false ↦ behind ]) (le-ltb x place h)

-- the number of operands at a place x inside a block at a place p, with d in front of the block
abbrev pub depth_in : Block → (p d x : ℕ) → ℕ
depth_in (Then first second) p d x = until (p + size first) x (depth_in first p d x)
    (depth_in second (p + size first) (depth_after first d) x)
depth_in (WhenNotZero body) p d x = until (p + 5) x d (depth_in body (p + 5) (d - 1) x)
depth_in (WhenZero body) p d x = until (p + 5) x d (depth_in body (p + 5) (d - 1) x)
depth_in (Either first otherwise) p d x =
    until (p + 5) x d (until (p + (5 + size first)) x (depth_in first (p + 5) (d - 1) x)
    (until (p + (5 + (size first + 5))) x (depth_after first (d - 1))
    (depth_in otherwise (p + (5 + (size first + 5))) (d - 1) x)))
depth_in (Match label body rest) p d x =
    until (p + 13) x d (until (p + (13 + size rest)) x (depth_in rest (p + 13) d x)
    (until (p + (13 + (size rest + 5))) x (depth_after rest d)
    (depth_in body (p + (13 + (size rest + 5))) (d - 1) x)))
depth_in _ p d x = d

module _ (depth : ℕ → ℕ) where
  -- these are the numbers of operands at the places of a block
  abbrev pub HasDepthsOf : (p d : ℕ) → Block → Type 0
  HasDepthsOf p d Nothing = depth p ≡ d
  HasDepthsOf p d (Straight i) = depth p ≡ d
  HasDepthsOf p d (Then first second) = HasDepthsOf p d first × HasDepthsOf (p + size first)
      (depth_after first d) second
  HasDepthsOf p d (WhenNotZero body) = (depth p ≡ d) × HasDepthsOf (p + 5) (d - 1) body
  HasDepthsOf p d (WhenZero body) = (depth p ≡ d) × HasDepthsOf (p + 5) (d - 1) body
  HasDepthsOf p d (Either first otherwise) =
      (depth p ≡ d) × HasDepthsOf (p + 5) (d - 1) first
      × (depth (p + (5 + size first)) ≡ depth_after first (d - 1))
      × HasDepthsOf (p + (5 + (size first + 5))) (d - 1) otherwise
  HasDepthsOf p d (Match label body rest) =
      (depth p ≡ d) × HasDepthsOf (p + 13) d rest
      × (depth (p + (13 + size rest)) ≡ depth_after rest d)
      × HasDepthsOf (p + (13 + (size rest + 5))) (d - 1) body

  pub at_front : (p d : ℕ) (b : Block) → HasDepthsOf p d b → depth p ≡ d
  at_front p d Nothing h = h
  at_front p d (Straight i) h = h
  at_front p d (Then first second) h = at_front p d first h.0
  at_front p d _ h = h.0

module _ (version : Version) (sort : Sort) (depth : ℕ → ℕ) where
  abbrev Agrees : (p d : ℕ) → Block → Type 0
  Agrees p d b = (x : ℕ) → p ≤ x → x < p + size b → depth x ≡ depth_in b p d x

  -- a function that agrees inside and after the block has its numbers
  pub has_depths : (p d : ℕ) (b : Block) → FlowsIn version sort b d → Agrees p d b
      → depth (p + size b) ≡ depth_after b d → HasDepthsOf depth p d b
  has_depths p d Nothing flows agrees exit = ap depth (omega arith) ∙ exit
  has_depths p d (Straight i) flows agrees exit =
      agrees p (omega arith) (omega (arith, spelling_not_empty i))
  has_depths p d (Then first second) flows agrees exit =
      let m = p + size first in
      let behind = has_depths m (depth_after first d) second flows.1
      (λ x low high. agrees x (omega (arith, low)) (omega (arith, high))
      ∙ until_behind m x (depth_in first p d x) (depth_in second m (depth_after first d) x) low)
      (ap depth (omega arith) ∙ exit) in (
        has_depths p d first flows.0
            (λ x low high. agrees x low (omega (arith, high))
            ∙ until_front m x (depth_in first p d x) (depth_in second m (depth_after first d) x)
            high)
            (at_front depth m (depth_after first d) second behind),
        behind,
      )
  has_depths p d (WhenNotZero body) flows agrees exit = (
    agrees p (omega arith) (omega arith) ∙ until_front (p + 5) p d (depth_in body (p + 5) (d - 1) p)
        (omega arith),
    has_depths (p + 5) (d - 1) body flows.2
        (λ x low high. agrees x (omega (arith, low)) (omega (arith, high))
        ∙ until_behind (p + 5) x d (depth_in body (p + 5) (d - 1) x) low)
        (ap depth (omega arith) ∙ exit ∙ sym flows.3),
  )
  has_depths p d (WhenZero body) flows agrees exit = (
    agrees p (omega arith) (omega arith) ∙ until_front (p + 5) p d (depth_in body (p + 5) (d - 1) p)
        (omega arith),
    has_depths (p + 5) (d - 1) body flows.2
        (λ x low high. agrees x (omega (arith, low)) (omega (arith, high))
        ∙ until_behind (p + 5) x d (depth_in body (p + 5) (d - 1) x) low)
        (ap depth (omega arith) ∙ exit ∙ sym flows.3),
  )
  has_depths p d (Either first otherwise) flows agrees exit =
      let m = p + (5 + size first) in
      let r = p + (5 + (size first + 5)) in
      let in_first = λ (x : ℕ). depth_in first (p + 5) (d - 1) x in
      let in_other = λ (x : ℕ). depth_in otherwise r (d - 1) x in
      let joined = depth_after first (d - 1) in
      let jump = agrees m (omega arith) (omega arith) ∙ until_behind (p + 5) m d _ (omega arith)
      ∙ until_behind m m (in_first m) _ (omega arith) ∙ until_front r m joined (in_other m)
      (omega arith) in (
        agrees p (omega arith) (omega arith) ∙ until_front (p + 5) p d _ (omega arith),
        has_depths (p + 5) (d - 1) first flows.2
            (λ x low high. agrees x (omega (arith, low)) (omega (arith, high))
            ∙ until_behind (p + 5) x d _ low ∙ until_front m x (in_first x) _
            (omega (arith, high)))
            (ap depth (omega arith) ∙ jump),
        jump,
        has_depths r (d - 1) otherwise flows.3
            (λ x low high. agrees x (omega (arith, low)) (omega (arith, high))
            ∙ until_behind (p + 5) x d _ (omega (arith, low))
            ∙ until_behind m x (in_first x) _ (omega (arith, low))
            ∙ until_behind r x joined (in_other x) low)
            (ap depth (omega arith) ∙ exit ∙ sym flows.4),
      )
  has_depths p d (Match label body rest) flows agrees exit =
      let m = p + (13 + size rest) in
      let r = p + (13 + (size rest + 5)) in
      let in_rest = λ (x : ℕ). depth_in rest (p + 13) d x in
      let in_body = λ (x : ℕ). depth_in body r (d - 1) x in
      let joined = depth_after rest d in
      let jump = agrees m (omega arith) (omega arith) ∙ until_behind (p + 13) m d _ (omega arith)
      ∙ until_behind m m (in_rest m) _ (omega arith) ∙ until_front r m joined (in_body m)
      (omega arith) in (
        agrees p (omega arith) (omega arith) ∙ until_front (p + 13) p d _ (omega arith),
        has_depths (p + 13) d rest flows.3
            (λ x low high. agrees x (omega (arith, low)) (omega (arith, high))
            ∙ until_behind (p + 13) x d _ low ∙ until_front m x (in_rest x) _
            (omega (arith, high)))
            (ap depth (omega arith) ∙ jump),
        jump,
        has_depths r (d - 1) body flows.2
            (λ x low high. agrees x (omega (arith, low)) (omega (arith, high))
            ∙ until_behind (p + 13) x d _ (omega (arith, low))
            ∙ until_behind m x (in_rest x) _ (omega (arith, low))
            ∙ until_behind r x joined (in_body x) low)
            (ap depth (omega arith) ∙ exit),
      )
