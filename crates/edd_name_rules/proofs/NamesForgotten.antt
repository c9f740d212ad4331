-- Without their places, the names that are told twice are those of the rule.
use Rattle.std.proofs.Common.{◌≡◌, refl, sym, ap, ◌∙◌, List, [], ◌∷◌, ◌++◌, append_assoc, map}
use Rattle.std.specs.Prelude.{Bool, true, false, if◌then◌else◌}
use Rattle.edd_breaches.proofs.TellLaws.{refusals_append}
use Rattle.edd_breaches.specs.Told.{Told, told_if, refusals}
use Rattle.edd_syntax.specs.declared.item.Item.{Item}
use Rattle.edd_syntax.specs.declared.item.Attribute.{Attribute}
use Rattle.edd_syntax.specs.declared.item.Attribute.TheVariants as a
use Rattle.edd_syntax.specs.declared.numbers.TokenNo.{TokenNo}
use Rattle.edd_syntax.specs.declared.reference.Path.{Path}
use Rattle.edd_syntax.specs.declared.stmt.Stmt.{Stmt, Row_of-Part, end_of-Part, more_of-Part}
use Rattle.edd_syntax.specs.declared.stmt.Stmt.TheVariants.{Empty, Evaluate, Block', If', IfElse', While', Do', For', Switch', Break, Continue, Return}
use Rattle.edd_syntax.specs.declared.stmt.Part.{Part}
use Rattle.edd_syntax.specs.declared.stmt.Part.TheVariants.{Declare, Statement}
use Rattle.edd_syntax.specs.ItemView.{attribute_of, attributes_of, item_of, member_of, name_of}
use Rattle.edd_syntax.specs.NameRules.{repeated_inside, repeated_locals, repeated_in_attributes, repeated_in_items}
use Rattle.edd_syntax.specs.Refusal.{Refusal, DuplicateName, is_name_in, repeated}
use Rattle.edd_syntax.specs.Statement.{body_from}
use Rattle.edd_syntax.specs.Text.{Name}
use Rattle.edd_syntax.specs.TreeView.{declarator_of, part_of, parts_in, path_of, stmt_of}
use Rattle.edd_breaches.specs.Along.{told_along, after_all}
use Rattle.edd_name_rules.specs.NamesTold.{inside_told, locals_told, part_told, local_told, with_local, with_locals, member_told, with_member, members_told, with_members, item_told, with_item}
use Rattle.edd_duplicates.specs.Names.{name_told}
use Rattle.edd_syntax.specs.Places.{name_at}
use Rattle.edd_name_rules.proofs.Repeating.{map_append}
use Rattle.edd_name_rules.proofs.SameNames.{SameNames, with_one, after_one}

-- ---- what is told of one thing, and of those after it

pub both : {A : Type 0} (f : A → Refusal) (told rest : List Told) (xs ys : List A)
    → refusals told ≡ map f xs → refusals rest ≡ map f ys
    → refusals (told ++ rest) ≡ map f (xs ++ ys)
both f told rest xs ys h k =
    refusals_append told rest ∙ ap (λ zs. zs ++ refusals rest) h ∙ ap (λ zs. map f xs ++ zs) k
    ∙ sym (map_append f xs ys)

pub told_first : (f : Name → Refusal) (t : Bool) (n : Name) (at : TokenNo) (rest : List Told)
    (ns : List Name) → refusals rest ≡ map f ns
    → refusals (told_if t (f n) at ++ rest) ≡ map f (if t then n ∷ ns else ns)
told_first f true n at rest ns h = ap (λ zs. f n ∷ zs) h
told_first f false n at rest ns h = h

told_alone : (f : Name → Refusal) (t : Bool) (n : Name) (at : TokenNo)
    → refusals (told_if t (f n) at) ≡ map f (if t then n ∷ [] else [])
told_alone f true n at = refl
told_alone f false n at = refl

module _ (f : Name → Refusal) (b d : List Name) (h : SameNames b d) where
  pub one_more : (n : Name) (at : TokenNo) (rest : List Told) (ns : List Name)
      → refusals rest ≡ map f (repeated (n ∷ d) ns)
      → refusals (told_if (is_name_in b n) (f n) at ++ rest) ≡ map f (repeated d (n ∷ ns))
  one_more n at rest ns k = told_first f (is_name_in b n) n at rest (repeated (n ∷ d) ns) k
      ∙ ap (λ t. map f (if t then n ∷ repeated (n ∷ d) ns else repeated (n ∷ d) ns)) (h n)

  pub one_name : (n : Name) (at : TokenNo)
      → refusals (told_if (is_name_in b n) (f n) at) ≡ map f (repeated d (n ∷ []))
  one_name n at = told_alone f (is_name_in b n) n at
      ∙ ap (λ t. map f (if t then n ∷ [] else [])) (h n)

-- names one after another
module _ {X Y : Type 0} (f : Name → Refusal) (view : X → Y) (name : Y → Name) (at : X → TokenNo) where
  pub names_are : (b d : List Name) → SameNames b d → (xs : List X)
      → refusals (told_along (λ b x. told_if (is_name_in b (name (view x))) (f (name (view x))) (at x))
      (λ b x. name (view x) ∷ b) b xs) ≡ map f (repeated d (map name (map view xs)))
  names_are b d h [] = refl
  names_are b d h (x ∷ xs) = one_more f b d h (name (view x)) (at x) _ _
      (names_are (name (view x) ∷ b) (name (view x) ∷ d) (with_one (name (view x)) b d h) xs)

module _ {X Y : Type 0} (view : X → Y) (name : Y → Name) where
  pub after_names : (b d : List Name) → SameNames b d → (xs : List X)
      → SameNames (after_all (λ b x. name (view x) ∷ b) b xs) (map name (map view xs) ++ d)
  after_names b d h [] = h
  after_names b d h (x ∷ xs) = after_one (name (view x)) (map name (map view xs)) d _
      (after_names (name (view x) ∷ b) (name (view x) ∷ d) (with_one (name (view x)) b d h) xs)

-- ---- statements

mutual
  inside_are : (x : Stmt Path)
      → refusals (inside_told x) ≡ map DuplicateName (repeated_inside (stmt_of path_of x))
  inside_are Empty = refl
  inside_are (Evaluate e) = refl
  inside_are (Block' shape parts) = locals_are [] [] (λ q. refl) _ parts
  inside_are (If' test p first) = inside_are first
  inside_are (IfElse' test p first q otherwise) = both DuplicateName (inside_told first)
      (inside_told otherwise) _ _ (inside_are first) (inside_are otherwise)
  inside_are (While' test p body) = inside_are body
  inside_are (Do' p body test) = inside_are body
  inside_are (For' initial test update p body) = inside_are body
  inside_are (Switch' on shape parts) = locals_are [] [] (λ q. refl) _ parts
  inside_are (Break at) = refl
  inside_are (Continue at) = refl
  inside_are Return = refl

  locals_are : (b d : List Name) → SameNames b d → (n : _) (row : Row_of-Part Path n)
      → refusals (locals_told b row)
      ≡ map DuplicateName (repeated_locals d (body_from (parts_in path_of row)))
  locals_are b d h n end_of-Part = refl
  locals_are b d h n (more_of-Part (Declare ds) rest) =
      both DuplicateName (told_along local_told with_local b ds.items) _ _ _
      (names_are DuplicateName (declarator_of path_of) (λ d. d.place.base) (λ d. d.place.at) b d h
      ds.items)
      (locals_are _ _ (after_names (declarator_of path_of) (λ d. d.place.base) b d h ds.items) _ rest)
  locals_are b d h n (more_of-Part (Statement s) rest) = both DuplicateName (inside_told s)
      (locals_told b rest) _ _ (inside_are s) (locals_are b d h _ rest)
  locals_are b d h n (more_of-Part _ rest) = locals_are b d h _ rest

parts_are : (b d : List Name) → SameNames b d → (ps : List (Part Path))
    → refusals (told_along part_told with_locals b ps)
    ≡ map DuplicateName (repeated_locals d (body_from (map (part_of path_of) ps)))
parts_are b d h [] = refl
parts_are b d h (Declare ds ∷ rest) =
    both DuplicateName (told_along local_told with_local b ds.items) _ _ _
    (names_are DuplicateName (declarator_of path_of) (λ d. d.place.base) (λ d. d.place.at) b d h
    ds.items)
    (parts_are _ _ (after_names (declarator_of path_of) (λ d. d.place.base) b d h ds.items) rest)
parts_are b d h (Statement s ∷ rest) = both DuplicateName (inside_told s) _ _ _ (inside_are s)
    (parts_are b d h rest)
parts_are b d h (_ ∷ rest) = parts_are b d h rest

-- ---- items

members_are : (b d : List Name) → SameNames b d → (all : List (Attribute Path))
    → refusals (told_along members_told with_members b all)
    ≡ map DuplicateName (repeated_in_attributes d (map (attribute_of path_of) all))
members_are b d h [] = refl
members_are b d h (a.Definition at parts ∷ rest) =
    both DuplicateName (told_along part_told with_locals [] parts.items) _ _ _
    (parts_are [] [] (λ q. refl) parts.items) (members_are b d h rest)
members_are b d h (a.Members at ms ∷ rest) =
    both DuplicateName (told_along member_told with_member b ms.items) _ _ _
    (names_are DuplicateName (member_of path_of) (λ m. m.name) (λ m. m.at) b d h ms.items)
    (members_are _ _ (after_names (member_of path_of) (λ m. m.name) b d h ms.items) rest)
members_are b d h (_ ∷ rest) = members_are b d h rest

pub items_are : (b d : List Name) → SameNames b d → (items : List (Item Path))
    → refusals (told_along item_told with_item b items)
    ≡ map DuplicateName (repeated_in_items d (map (item_of path_of) items))
items_are b d h [] = refl
items_are b d h (i ∷ rest) =
    let inside = told_along members_told with_members [] (attributes_of i) in
    let others = told_along item_told with_item (name_of i ∷ b) rest in
    ap refusals (append_assoc (name_told b (name_of i) (name_at i)) inside others)
    ∙ both DuplicateName (name_told b (name_of i) (name_at i)) (inside ++ others) _ _
    (one_name DuplicateName b d h (name_of i) (name_at i))
    (both DuplicateName inside others _ _ (members_are [] [] (λ q. refl) (attributes_of i))
    (items_are (name_of i ∷ b) (name_of i ∷ d) (with_one (name_of i) b d h) rest))
