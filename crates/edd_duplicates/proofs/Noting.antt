-- Names of a scope, one after another.
use Rattle.std.proofs.Common.{◌≡◌, refl, ap, ◌∙◌, ℕ, List, ◌∷◌, map, Option, Some}
use Rattle.std.specs.Prelude.{Bool, true, false, cond, ◌||◌, is_some}
use Rattle.std.specs.HashMap.{UpdatesBy}
use Rattle.std.specs.Str.{bytes_eq}
use Rattle.std.proofs.lemmas.Map.Text.{hash_map_updates_str}
use Rattle.edd_syntax.specs.Text.{Name}
use Rattle.edd_syntax.specs.Refusal.{is_name_in}
use Rattle.edd_duplicates.specs.declared.seen.Seen.{Seen}
use Rattle.edd_duplicates.specs.Seen.{in_few, in_many, HasSeen}

-- the second of three comes first
pub or_second : (a b c : Bool) → (a || (b || c)) ≡ (b || (a || c))
or_second true true c = refl
or_second true false c = refl
or_second false true c = refl
or_second false false c = refl

-- ---- one name

put_some : {X : Type 0} (x : X) (b : Bool) (old : Option X) → is_some (cond b (Some x) old)
    ≡ (b || is_some old)
put_some x true old = refl
put_some x false old = refl

-- one more in the map
pub seen_in_map : (before : List Name) (name : Name) (token : ℕ) (m n : Seen)
    → n.few ≡ m.few
    → UpdatesBy (λ x y. bytes_eq x.now y.now) (λ k. bytes_eq name k.now) m.many n.many (Some token)
    → HasSeen before m → HasSeen (name ∷ before) n
seen_in_map before name token m n same updates h q =
    ap (λ v. is_name_in (map (λ k. k.name.now) v.items) q || in_many n q) same
    ∙ ap (λ b. in_few m q || b)
    (ap is_some (hash_map_updates_str name m.many n.many (Some token) updates q)
    ∙ put_some token (bytes_eq name q) _)
    ∙ or_second (in_few m q) (bytes_eq name q) (in_many m q)
    ∙ ap (λ b. bytes_eq name q || b) (h q)

-- a name that is there twice is there
pub once_more : (b c : Bool) → (b || (b || c)) ≡ (b || c)
once_more true c = refl
once_more false c = refl
