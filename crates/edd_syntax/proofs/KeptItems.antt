-- The items of a unit, one after another.
use Rattle.std.proofs.Common.{◌≡◌, List, [], ◌∷◌, ◌++◌, refl, arith}
use Rattle.std.specs.Prelude.{IsTrue, if◌then◌else◌, is_ok, Result, Ok, Err}
use Rattle.std.proofs.lemmas.Grind.{common_steps}
use Rattle.edd_syntax.specs.declared.reference.Path as path
use Rattle.edd_syntax.specs.declared.item.Item as Code
use Rattle.edd_syntax.specs.TreeView.{path_of}
use Rattle.edd_syntax.specs.ItemView.{item_of, named_items}
use Rattle.edd_syntax.specs.Reference.{Path}
use Rattle.edd_syntax.specs.Item.{Item}
use Rattle.edd_syntax.specs.WellFormed.{are_items, is_item, is_path, is_plain}

pub none_kept : IsTrue (are_items [])
unfolding are_items
none_kept = refl

pub one_more_kept : (all : List (Item Path)) (i : Item Path) → IsTrue (are_items all)
    → IsTrue (is_item is_path is_plain i) → IsTrue (are_items (all ++ i ∷ []))
unfolding are_items
one_more_kept [] i h k = grind (arith, common_steps)
one_more_kept (x ∷ rest) i h k = grind (arith, common_steps, one_more_kept rest i)

named_more : (all : List (Code.Item path.Path)) (i : Code.Item path.Path)
    → named_items (all ++ i ∷ []) ≡ named_items all ++ item_of path_of i ∷ []
named_more all i = grind (arith, common_steps)

-- after a push, which may have failed
pub pushed_kept : {T E : Type 0} (r : Result T E) (new old : List (Code.Item path.Path))
    (i : Code.Item path.Path) → new ≡ (if is_ok r then old ++ i ∷ [] else old)
    → IsTrue (are_items (named_items old)) → IsTrue (is_item is_path is_plain (item_of path_of i))
    → IsTrue (are_items (named_items new))
pushed_kept (Ok t) new old i e h k =
    rw e (rw named_more (one_more_kept (named_items old) (item_of path_of i) h k))
pushed_kept (Err x) new old i e h k = rw e h
