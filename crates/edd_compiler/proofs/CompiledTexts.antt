-- What the image of a description, or its refusal, says of the text.
use Rattle.std.proofs.Common.{◌≡◌, ap, ◌∙◌, ℕ, List, [], ◌∷◌, ◌++◌}
use Rattle.std.specs.Prelude.{Result, Ok, Err, IfOk, IfErr, OnOk}
use Rattle.edd_syntax.specs.declared.limits.Limit.TheVariants as limit
use Rattle.edd_syntax.specs.declared.reference.Target.{Target}
use Rattle.edd_syntax.specs.Item.{Description}
use Rattle.edd_syntax.specs.Accepted.{profile_breaches}
use Rattle.edd_syntax.specs.Refusal.{TooMany, first_of}
use Rattle.edd_syntax.specs.ResolvedTrees.{resolved_unit}
use Rattle.edd_syntax.specs.Strings.{too_many_strings}
use Rattle.edd_image.specs.Contents.{contents_in}
use Rattle.edd_instructions.specs.MethodAgreement.{Agrees}
use Rattle.edd_instructions.specs.Validity.{IsValid}
use Rattle.edd_compiler.specs.declared.fault.Fault.{Fault}
use Rattle.edd_compiler.specs.declared.fault.Fault.TheVariants as fault
use Rattle.edd_compiler.specs.Faults.{IsOfLowering, Explains}
use Rattle.edd_compiler.specs.Images.{IsImageOf}
use Rattle.edd_compiler.specs.Sources.{IsDescriptionOf}
use Rattle.edd_compiler.proofs.Refused.{profile_decides}

module _ (text : List ℕ) (d : Description Target) (of : IsDescriptionOf text d) where
  pub is_image : (bytes : List ℕ) → IsValid bytes → Agrees d (contents_in bytes)
      → too_many_strings d ≡ [] → IsImageOf text bytes
  is_image bytes valid agrees few = record {
    unit = of.0.is_resolved.unit;
    spelled = of.1;
    accepted = record {
      resolved = d;
      meanings = of.0.is_resolved.meanings;
      no_breach = ap (λ xs. xs ++ profile_breaches (resolved_unit of.0.is_resolved.unit))
          of.0.is_resolved.no_breach
          ∙ ap profile_breaches of.0.is_resolved.meanings
          ∙ ap (λ xs. xs ++ too_many_strings d) of.0.no_breach
          ∙ few;
    };
    valid = valid;
    agrees = agrees;
  }

  pub explained : (e : Fault) → IsOfLowering (too_many_strings d ≡ TooMany limit.Strings ∷ []) e
      → Explains text e
  explained (fault.Lex e) is = absurd is
  explained (fault.Parse e) is = absurd is
  explained (fault.Rule e) is = absurd is
  explained fault.TooManyStrings is = (
    of.0.is_resolved.unit,
    of.1,
    profile_decides text of.0.is_resolved.unit of.1 d of.0.is_resolved.meanings
        of.0.is_resolved.no_breach
        ∙ ap (λ xs. first_of (xs ++ too_many_strings d)) of.0.no_breach ∙ ap first_of is,
  )
  explained fault.Memory is = tt

-- a good answer that keeps these clauses keeps what follows from them
pub of_good : {A E S : Type 0} {P Q R : A → Type 0} (r : Result A E) → IfOk r P → IfOk r Q
    → OnOk r S → ((x : A) → P x → Q x → S → R x) → IfOk r R
of_good (Ok x) p q s f = f x p q s
of_good (Err e) p q s f = tt

pub of_bad : {A E : Type 0} {P Q : E → Type 0} (r : Result A E) → IfErr r P → ((e : E) → P e → Q e)
    → IfErr r Q
of_bad (Ok x) p f = tt
of_bad (Err e) p f = f e p
