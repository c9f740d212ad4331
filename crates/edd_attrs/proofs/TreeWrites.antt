-- What was written for the tree in one case is written for the tree.
use Rattle.std.proofs.Common.{◌≡◌, sym, subst, ℕ, List}
use Rattle.edd_syntax.specs.Words.{Words}
use Rattle.edd_code.specs.Tables.{Overflows}
use Rattle.edd_code.specs.Written.{WritesBlock}
use Rattle.edd_attrs.specs.declared.trees.Tree.{Tree}
use Rattle.edd_attrs.specs.Sizes.{tree_strings}
use Rattle.edd_attrs.specs.TreeBlocks.{IsTreeBlock}
use Rattle.edd_attrs.specs.Views.{tree_of}

pub written : {old new ws : List Words} {before after : List ℕ} {t u : Tree} → t ≡ u
    → ws ≡ tree_strings (tree_of u)
    → WritesBlock old before ws (λ numbered b. IsTreeBlock numbered (tree_of u) b) new after
    → WritesBlock old before (tree_strings (tree_of t))
    (λ numbered b. IsTreeBlock numbered (tree_of t) b) new after
written {old} {new} {before} {after} {u} is same w =
    subst (λ (x : Tree). WritesBlock old before (tree_strings (tree_of x))
    (λ numbered b. IsTreeBlock numbered (tree_of x) b) new after) (sym is)
    (subst (λ (ws : List Words). WritesBlock old before ws
    (λ numbered b. IsTreeBlock numbered (tree_of u) b) new after) same w)

pub overflows : {P : Type 0} {table ws : List Words} {t u : Tree} → t ≡ u
    → ws ≡ tree_strings (tree_of u) → (P → Overflows table ws) → P
    → Overflows table (tree_strings (tree_of t))
overflows {table} is same over p =
    subst (λ (x : Tree). Overflows table (tree_strings (tree_of x))) (sym is)
    (subst (λ (ws : List Words). Overflows table ws) same (over p))
