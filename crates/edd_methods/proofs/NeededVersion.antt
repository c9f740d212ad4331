-- The version of a description's image is the second where a method names add_abort_method.
use Rattle.std.proofs.Common.{◌≡◌, Bool, true, List, [], ◌∷◌}
use Rattle.std.specs.Prelude.{nat_lt}
use Rattle.std.specs.List.{AllByRecursion, list_any, flat_map}
use Rattle.std.proofs.lemmas.Bool.{or_left, or_right}
use Rattle.edd_syntax.specs.declared.numbers.Kind.TheVariants as kind
use Rattle.edd_syntax.specs.declared.numbers.MethNo.{MethNo}
use Rattle.edd_syntax.specs.declared.reference.Target.{Target}
use Rattle.edd_syntax.specs.Execution.{body_of}
use Rattle.edd_syntax.specs.Item as item
use Rattle.edd_syntax.specs.Item.{Attribute, Description}
use Rattle.edd_syntax.specs.LayoutVersion.{body_names_it}
use Rattle.edd_syntax.specs.Resolution.{count_of}
use Rattle.edd_syntax.specs.Statement.{Body}
use Rattle.edd_syntax.specs.SubsetRules.{attributes_of, bodies_in, bodies_of}
use Rattle.edd_image.specs.declared.versions.Version.TheVariants.{Two}
use Rattle.edd_instructions.specs.Agreement.{version_for}
use Rattle.edd_code.proofs.Versions.{needed}
use Rattle.edd_methods.proofs.CheckedBodies.{OfBody, of_method}

module _ (d : Description Target) where
  abbrev has_arrays : Bool
  has_arrays = nat_lt 0 (count_of kind.Array d.items)

  -- where the body names it, the version is the second
  abbrev Asks : Body Target → Type 0
  Asks body = body_names_it body ≡ true → version_for d ≡ Two

  -- each body of these attributes asks so, where one of them that names it does
  each_asks : (xs : List (Attribute Target))
      → (list_any body_names_it (flat_map bodies_in xs) ≡ true → version_for d ≡ Two)
      → AllByRecursion (OfBody Asks) xs
  each_asks [] one = tt
  each_asks (item.Definition body ∷ rest) one =
      let others = list_any body_names_it (flat_map bodies_in rest) in (
        λ is. one (or_left (body_names_it body) others is),
        each_asks rest (λ is. one (or_right (body_names_it body) others is)),
      )
  each_asks (_ ∷ rest) one = (tt, each_asks rest one)

  pub with_names : (m : MethNo) → body_names_it (body_of d m) ≡ true → version_for d ≡ Two
  with_names m =
      of_method Asks (λ is. absurd cc) d m
      (each_asks (attributes_of d)
      (λ is. needed d (or_right has_arrays (list_any body_names_it (bodies_of d)) is)))
