-- Lists of the same names, in whatever order.
use Rattle.std.proofs.Common.{◌≡◌, sym, ap, ◌∙◌, List, ◌∷◌, ◌++◌}
use Rattle.std.specs.Prelude.{◌||◌}
use Rattle.std.specs.Str.{bytes_eq}
use Rattle.std.proofs.lemmas.List.Folds.{list_any-append}
use Rattle.edd_duplicates.proofs.Noting.{or_second}
use Rattle.edd_syntax.specs.Text.{Name}
use Rattle.edd_syntax.specs.Refusal.{is_name_in}

-- the same names
abbrev pub SameNames : List Name → List Name → Type 0
SameNames xs ys = (q : Name) → is_name_in xs q ≡ is_name_in ys q

pub with_one : (n : Name) (xs ys : List Name) → SameNames xs ys → SameNames (n ∷ xs) (n ∷ ys)
with_one n xs ys h q = ap (λ b. bytes_eq n q || b) (h q)

-- a name after others is that name before them
pub after_one : (n : Name) (ns ys xs : List Name) → SameNames xs (ns ++ n ∷ ys)
    → SameNames xs (n ∷ (ns ++ ys))
after_one n ns ys xs h q =
    h q ∙ list_any-append (λ m. bytes_eq m q) ns (n ∷ ys)
    ∙ or_second (is_name_in ns q) (bytes_eq n q) (is_name_in ys q)
    ∙ ap (λ b. bytes_eq n q || b) (sym (list_any-append (λ m. bytes_eq m q) ns ys))
