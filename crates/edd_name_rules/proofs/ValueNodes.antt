-- The nodes of a conditional don't depend on what its values stand for, but for the nodes below
-- them.
use Rattle.std.proofs.Common.{◌≡◌, refl, ap, ◌∙◌, ℕ, ◌+◌, List, [], ◌∷◌, map}
use Rattle.edd_syntax.specs.declared.cond.Cond.{Cond, Row_of-Cond, end_of-Cond, more_of-Cond, Row_of-Arm, end_of-Arm, more_of-Arm}
use Rattle.edd_syntax.specs.declared.cond.Cond.TheVariants.{Value, If', Select'}
use Rattle.edd_syntax.specs.declared.cond.Arm.TheVariants.{Case', Default'}
use Rattle.edd_syntax.specs.Conditional.{conds_from, arms_from}
use Rattle.edd_syntax.specs.ItemView.{cond_of, conds_in, arms_in}
use Rattle.edd_syntax.specs.Size.{nodes, cond_nodes, conds_nodes, arms_nodes}
use Rattle.edd_syntax.specs.TreeView.{expr_of}

module _ {R S V W : Type 0} (f : R → S) (g : V → W) (of : W → ℕ) where
  mutual
    unfolding cond_of

    pub nodes_of_cond : (c : Cond R V) → cond_nodes (λ v. of (g v)) (cond_of f (λ v. v) c)
        ≡ cond_nodes of (cond_of f g c)
    nodes_of_cond (Value v) = refl
    nodes_of_cond (If' test shape first shape' otherwise) =
        ap (λ n. 1 + (nodes (expr_of f test)
        + (n + conds_nodes (λ v. of (g v)) (conds_from (conds_in f (λ v. v) otherwise)))))
        (nodes_of_conds _ first)
        ∙ ap (λ n. 1 + (nodes (expr_of f test) + (conds_nodes of (conds_from (conds_in f g first))
        + n))) (nodes_of_conds _ otherwise)
    nodes_of_cond (Select' on shape arms) = ap (λ n. 1 + (nodes (expr_of f on) + n))
        (nodes_of_arms _ arms)

    nodes_of_conds : (n : _) (row : Row_of-Cond R V n)
        → conds_nodes (λ v. of (g v)) (conds_from (conds_in f (λ v. v) row))
        ≡ conds_nodes of (conds_from (conds_in f g row))
    nodes_of_conds n end_of-Cond = refl
    nodes_of_conds n (more_of-Cond first rest) =
        ap (λ k. k + conds_nodes (λ v. of (g v)) (conds_from (conds_in f (λ v. v) rest)))
        (nodes_of_cond first)
        ∙ ap (λ k. cond_nodes of (cond_of f g first) + k) (nodes_of_conds _ rest)

    nodes_of_arms : (n : _) (row : Row_of-Arm R V n)
        → arms_nodes (λ v. of (g v)) (arms_from (arms_in f (λ v. v) row))
        ≡ arms_nodes of (arms_from (arms_in f g row))
    nodes_of_arms n end_of-Arm = refl
    nodes_of_arms n (more_of-Arm (Case' label shape body) rest) =
        ap (λ k. 1 + (k + arms_nodes (λ v. of (g v)) (arms_from (arms_in f (λ v. v) rest))))
        (nodes_of_conds _ body)
        ∙ ap (λ k. 1 + (conds_nodes of (conds_from (conds_in f g body)) + k)) (nodes_of_arms _ rest)
    nodes_of_arms n (more_of-Arm (Default' token shape body) rest) =
        ap (λ k. 1 + (k + arms_nodes (λ v. of (g v)) (arms_from (arms_in f (λ v. v) rest))))
        (nodes_of_conds _ body)
        ∙ ap (λ k. 1 + (conds_nodes of (conds_from (conds_in f g body)) + k)) (nodes_of_arms _ rest)

  pub nodes_of_list : (cs : List (Cond R V))
      → conds_nodes (λ v. of (g v)) (conds_from (map (cond_of f (λ v. v)) cs))
      ≡ conds_nodes of (conds_from (map (cond_of f g) cs))
  nodes_of_list [] = refl
  nodes_of_list (x ∷ cs) =
      ap (λ k. k + conds_nodes (λ v. of (g v)) (conds_from (map (cond_of f (λ v. v)) cs)))
      (nodes_of_cond x)
      ∙ ap (λ k. cond_nodes of (cond_of f g x) + k) (nodes_of_list cs)
