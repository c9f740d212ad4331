-- What a walk over a unit asks of each instruction by itself.
use Rattle.std.specs.Prelude.{ℕ, ◌+◌, ◌-◌, ◌==◌, Bool, true, false, ◌&&◌, nat_lt, nat_le}
use Rattle.std.specs.Option.{option_map_or}
use Rattle.edd_instructions.specs.declared.instruction.Instruction.{Instruction}
use Rattle.edd_instructions.specs.declared.unit.Sort.{Sort}
use Rattle.edd_instructions.specs.declared.unit.Sort.TheVariants.{Attribute, Method}
use Rattle.edd_instructions.specs.Units.{Placed, takes, leaves, onward, jump}

-- a jump from the place leads forward, where it has to, and inside the unit
abbrev pub may_lead : Sort → (size place target : ℕ) → Bool
may_lead Attribute size place target = nat_lt place target && nat_lt target size
may_lead Method size place target = nat_lt target size

-- where it jumps, that leads inside the unit, and forward where it has to
abbrev pub jumps_inside : Sort → (size place : ℕ) → Instruction → Bool
jumps_inside sort size place i = option_map_or (λ w. may_lead sort size place w.to) (jump i) true

-- Where it goes on to the instruction after it, that lies inside the unit.
abbrev pub goes_on_inside : ℕ → Placed → Bool
goes_on_inside size x = option_map_or (λ w. nat_lt w.to size) (onward x.instruction x.next) true

-- each way from it leads inside the unit, and a jump forward where it has to
abbrev pub leads_inside : Sort → ℕ → Placed → Bool
leads_inside sort size x = goes_on_inside size x && jumps_inside sort size x.place x.instruction

-- it jumps to the place
abbrev pub jumps_to : ℕ → Placed → Bool
jumps_to q x = option_map_or (λ w. w.to == q) (jump x.instruction) false

-- so many operands are enough for it, and what it leaves has room
abbrev pub fits : ℕ → Instruction → Bool
fits depth i = nat_le (takes i) depth && option_map_or (λ n. nat_le (depth - takes i + n) 128)
    (leaves i) true
