-- The strings of all branches are in the table, since their records are written.
use Rattle.std.proofs.Common.{◌≡◌, refl, sym, ap, subst, ◌∙◌, Bool, true, false, List, [], ◌∷◌, ◌++◌, length, map, arith}
use Rattle.std.specs.List.{Contains}
use Rattle.std.proofs.lemmas.List.{map-append}
use Rattle.std.proofs.lemmas.Grind.{flat_map-append}
use Rattle.edd_syntax.specs.declared.reference.Target.{Target}
use Rattle.edd_syntax.specs.Conditional.{Cond, Value, If, Select, Conds, Nil, Cons, Arms, NoArms, ConsArm, Case, Default}
use Rattle.edd_syntax.specs.Words.{Words}
use Rattle.edd_syntax.specs.Attributes as source
use Rattle.edd_syntax.specs.SubsetRules.{values_in, values_of, values_under, cond_defaults, conds_defaults, arms_defaults}
use Rattle.edd_instructions.specs.Agreement.{string_of_table}
use Rattle.edd_code.specs.Blocks.{Block}
use Rattle.edd_attrs.specs.Records.{strings_of_record, strings_of}
use Rattle.edd_attrs.specs.TreeBlocks.{IsCondBlock, IsCondsBlock, IsArmsBlock, IsDefaultBlock, IsLineBlock, IsRecordBlock, Giving}
use Rattle.edd_attrs.proofs.RecordStrings.{record_held, both_held}
use Rattle.edd_attrs.proofs.CheckedTrees.{front_none}

-- an empty list holds nothing
pub none_in : {A : Type 0} (strings : List Words) (v : Words) → Contains [] v → A
none_in strings v held = absurd (omega (arith, held.1))

module _ (strings : List Words) where
  abbrev pub Held : List Words → Type 0
  Held ws = (v : Words) → Contains ws v → Contains strings v

  pub one_held : (x : source.Record) (b : Block) → IsRecordBlock (string_of_table strings) x b
      → Held (strings_of_record x)
  one_held x b is = record_held strings x is.0 is.1

  module _ {V : Type 0} (f : V → source.Record) where
    abbrev strings_by : List V → List Words
    strings_by vs = strings_of (map f vs)

    -- the strings of a list are those of its parts
    strings_append : (vs ws : List V) → strings_by (vs ++ ws) ≡ strings_by vs ++ strings_by ws
    strings_append vs ws = ap strings_of (map-append f vs ws) ∙ flat_map-append strings_of_record
        (map f vs) (map f ws)

    nothing_held : Held []
    nothing_held v held = none_in strings v held

    append_held : (vs ws : List V) → Held (strings_by vs) → Held (strings_by ws)
        → Held (strings_by (vs ++ ws))
    append_held vs ws p q = subst Held (sym (strings_append vs ws))
        (both_held strings (strings_by vs) (strings_by ws) p q)

    abbrev Gives : V → Block → Type 0
    Gives v b = Giving (string_of_table strings) f v b

    mutual
      pub cond_held : (c : Cond Target V) (b : Block) → IsCondBlock Gives c b → cond_defaults c ≡ []
          → Held (strings_by (values_in c))
      cond_held (Value v) b is h = both_held strings (strings_of_record (f v)) []
          (one_held (f v) b is) nothing_held
      cond_held (If condition first otherwise) b is h =
          let none = front_none (conds_defaults first) (conds_defaults otherwise) h in
          append_held (values_of first) (values_of otherwise) (conds_held first is.0 is.3 none.0)
          (conds_held otherwise is.1 is.4 none.1)
      cond_held (Select on arms) b is h = arms_held false arms is.1 (λ e. is.3) is.0 is.4 h

      pub conds_held : (c : Conds Target V) (b : Block) → IsCondsBlock Gives c b
          → conds_defaults c ≡ [] → Held (strings_by (values_of c))
      conds_held Nil b is h = nothing_held
      conds_held (Cons first rest) b is h =
          let none = front_none (cond_defaults first) (conds_defaults rest) h in
          append_held (values_in first) (values_of rest) (cond_held first is.0 is.3 none.0)
          (conds_held rest is.1 is.4 none.1)

      -- where no DEFAULT was met yet, the block after the CASEs is that of the first one
      arms_held : (had : Bool) (arms : Arms Target V) (y : Block)
          → (had ≡ false → IsDefaultBlock Gives arms y) → (b : Block) → IsArmsBlock Gives y arms b
          → arms_defaults had arms ≡ [] → Held (strings_by (values_under arms))
      arms_held had NoArms y default b is h = nothing_held
      arms_held had (ConsArm (Case label body) rest) y default b is h =
          let none = front_none (conds_defaults body) (arms_defaults had rest) h in
          append_held (values_of body) (values_under rest) (conds_held body is.0 is.3 none.0)
          (arms_held had rest y default is.1 is.4 none.1)
      arms_held true (ConsArm (Default body) rest) y default b is h =
          absurd (omega (arith, ap length h))
      arms_held false (ConsArm (Default body) rest) y default b is h =
          let none = front_none (conds_defaults body) (arms_defaults true rest) h in
          append_held (values_of body) (values_under rest) (conds_held body y (default refl) none.0)
          (arms_held true rest y (λ e. absurd (cc e)) b is none.1)

    pub line_held : (vs : List V) (b : Block) → IsLineBlock Gives vs b → Held (strings_by vs)
    line_held [] b is = nothing_held
    line_held (v ∷ vs) b is = both_held strings (strings_of_record (f v)) (strings_by vs)
        (one_held (f v) is.0 is.3) (line_held vs is.1 is.4)
