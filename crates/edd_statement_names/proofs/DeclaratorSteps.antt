-- Declarators, each of which has a slot of its own and can be used by the next ones.
use Rattle.std.proofs.Common.{◌≡◌, refl, sym, ap, ◌∙◌, ℕ, ◌+◌, ◌<◌, List, ◌∷◌, ◌++◌, length, get_or, drop, map, Option, Some}
use Rattle.std.proofs.lemmas.List.{at_drop_more}
use Rattle.edd_statement_names.specs.ResolvedParts.{resolved_declarator}
use Rattle.edd_expression_names.proofs.ExprSteps.{bound, regroup}
use Rattle.edd_syntax.specs.declared.reference.Path as code_path
use Rattle.edd_syntax.specs.declared.reference.Target.{Target}
use Rattle.edd_syntax.specs.declared.stmt.Declarator as code
use Rattle.edd_name_meanings.specs.PathsIn.{paths_in_declarators, paths_in_optional}
use Rattle.edd_syntax.specs.declared.reference.Target.TheVariants.{Local}
use Rattle.edd_syntax.specs.Reference.{Path}
use Rattle.edd_syntax.specs.NameUses.{Use, optional_uses, declarator_uses}
use Rattle.edd_syntax.specs.Resolution.{Scope, declared, all_declared}
use Rattle.edd_syntax.specs.ResolvedTrees.{◌>>=◌, Reading, at_scope, resolved_optional, resolved_declarators}
use Rattle.edd_syntax.specs.Statement.{Declarator}

-- the locals that can be used, and the next slot
abbrev pub State : Type 0
State = Scope × ℕ

abbrev pub behind : State → Declarator Path → State
behind s d = (declared d.place s.1 s.0, s.1 + 1)

abbrev pub uses_here : State → Declarator Path → List Use
uses_here s d = optional_uses s.0 d.value

abbrev pub uses_from : State → List (Declarator Path) → List Use
uses_from s ds = declarator_uses s.0 s.1 ds

pub uses_split : (s : State) (d : Declarator Path) (ds : List (Declarator Path))
    → uses_from s (d ∷ ds) ≡ uses_here s d ++ uses_from (behind s d) ds
uses_split s d ds = refl

abbrev pub paths_here : code.Declarator code_path.Path → List code_path.Path
paths_here d = paths_in_optional d.value

pub paths_split : (d : code.Declarator code_path.Path) (ds : List (code.Declarator code_path.Path))
    → paths_in_declarators (d ∷ ds) ≡ paths_here d ++ paths_in_declarators ds
paths_split d ds = refl

module _ (names : Reading) where
  abbrev pub meant_here : State → Declarator Path → Option (Declarator Target)
  meant_here s d = resolved_declarator names s.0 s.1 d

  abbrev pub meant_from : State → List (Declarator Path) → Option (List (Declarator Target))
  meant_from s ds = resolved_declarators names s.0 s.1 ds

  pub declarators_joined : (s : State) (d : Declarator Path) (ds : List (Declarator Path))
      (w : Declarator Target) (ws : List (Declarator Target)) → meant_here s d ≡ Some w
      → meant_from (behind s d) ds ≡ Some ws → meant_from s (d ∷ ds) ≡ Some (w ∷ ws)
  declarators_joined s d ds w ws e f =
      regroup (resolved_optional (at_scope names s.0) d.value)
      (λ v. record { place = Local s.1; value = v }) (λ z. meant_from (behind s d) ds
      >>= (λ zs. Some (z ∷ zs)))
      ∙ bound (meant_here s d) (meant_from (behind s d) ds) (λ z zs. z ∷ zs) w ws e f

-- the scope after all of them
pub declared_more : {X : Type 0} (view : X → Declarator Path) (s t : State) (i : ℕ) (xs : List X)
    (x : X) (all : Scope) → i < length xs → x ≡ get_or xs i x → t ≡ behind s (view x)
    → all_declared s.0 s.1 (map view (drop i xs)) ≡ all
    → all_declared t.0 t.1 (map view (drop (i + 1) xs)) ≡ all
declared_more view s t i xs x all h is follows known =
    ap (λ u. all_declared u.0 u.1 (map view (drop (i + 1) xs))) follows
    ∙ ap (λ y. all_declared (behind s (view y)).0 (behind s (view y)).1
    (map view (drop (i + 1) xs))) is
    ∙ sym (at_drop_more (λ ys. all_declared s.0 s.1 (map view ys)) xs i x h) ∙ known
