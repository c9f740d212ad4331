-- The bodies of the arms of a SELECT, which are written from the last to the first.
use Rattle.std.proofs.Common.{◌≡◌, refl, sym, ap, subst, ◌∙◌, ℕ, ◌+◌, ◌<◌, ◌≤◌, ℤ, List, [], ◌∷◌, ◌++◌, length, get_or, take, drop, Option, Some, None, zero, suc, arith, append_assoc, length-append}
use Rattle.std.specs.List.{flat_map}
use Rattle.std.proofs.lemmas.List.{append-nil, take_more, take_all, drop_all}
use Rattle.edd_syntax.specs.declared.numbers.StrNo.{StrNo}
use Rattle.edd_syntax.specs.declared.reference.Target.{Target}
use Rattle.edd_syntax.specs.Conditional.{Conds, Arm, NoArms, ConsArm, Case, Default, arms_from}
use Rattle.edd_syntax.specs.SubsetRules.{values_of}
use Rattle.edd_syntax.specs.Words.{Words}
use Rattle.edd_instructions.specs.declared.instruction.Instruction.TheVariants as instruction
use Rattle.edd_instructions.specs.Agreement.{string_of_table}
use Rattle.edd_instructions.specs.Spelling.{spelling}
use Rattle.edd_code.specs.Blocks.{Block, Match, bytes_at}
use Rattle.edd_code.specs.Closing.{closed}
use Rattle.edd_code.proofs.Closing.{match_closed, closed_length}
use Rattle.edd_code.specs.Tables.{GrowsBy, Overflows}
use Rattle.edd_attrs.specs.TreeBlocks.{IsCondsBlock, IsArmsBlock}
use Rattle.edd_attrs.specs.Writing.{WritesArm, WritesArms, WritesBody, arms_strings, conds_strings, header, headers, hole_of, holes_of, with_body}
use Rattle.edd_attrs.proofs.Among.{Within, within_same, within_left, within_right, grows_within, grows_twice, overflows_later}
use Rattle.edd_attrs.proofs.Flat.{arms_strings_are, strings_at_arm}
use Rattle.edd_code.proofs.Growing.{nothing_added}
use Rattle.edd_attrs.proofs.Loops.{later_on, dropped, flat_take, flat_drop, flat_parts}

-- ---- one body

-- code with a body after it has those bytes more that its jump and its body have
pub with_body_length : (before : List ℕ) (hole : ℕ) (body : Block) → hole + 4 ≤ length before
    → length before ≤ length (with_body before hole body)
with_body_length before hole body inside =
    let jumped : List ℕ = before ++ spelling (instruction.Jump 0) in
    let l1 : length jumped ≡ length before + 5 =
    length-append before (spelling (instruction.Jump 0)) in
    let l2 = closed_length jumped hole (omega arith) in
    let opened : List ℕ = closed jumped hole in
    let l3 = length-append opened (bytes_at (length opened) body) in
    let l4 = closed_length (opened ++ bytes_at (length opened) body) (length before + 1)
    (omega arith) in
    omega (arith, l1, l2, l3, l4)

-- after the header of its CASE and the rest, the code with a body is that of a match
pub body_matches : (front before : List ℕ) (label : ℤ) (body rest : Block)
    → before ≡ (front ++ spelling (instruction.Case label 0))
    ++ bytes_at (length (front ++ spelling (instruction.Case label 0))) rest
    → with_body before (length front + 9) body ≡ front
    ++ bytes_at (length front) (Match label body rest)
body_matches front before label body rest is =
    let c1 : List ℕ = front ++ spelling (instruction.Case label 0) in
    let c3 : List ℕ = before ++ spelling (instruction.Jump 0) in
    let c4 : List ℕ = closed c3 (length front + 9) in
    match_closed front c1 before c3 c4 (c4 ++ bytes_at (length c4) body) label body rest refl is
    refl refl refl

-- ---- open targets

snoc_same : {X : Type 0} (xs ys : List X) (x y : X) → xs ++ x ∷ [] ≡ ys ++ y ∷ []
    → (xs ≡ ys) × (x ≡ y)
snoc_same [] [] x y e = let same : x ≡ y = cc in (refl, same)
snoc_same [] (b ∷ ys) x y e = absurd (omega (arith, ap length e, length-append ys (y ∷ [])))
snoc_same (a ∷ xs) [] x y e = absurd (omega (arith, ap length e, length-append xs (x ∷ [])))
snoc_same (a ∷ xs) (b ∷ ys) x y e =
    let head : a ≡ b = cc in
    let tail : xs ++ x ∷ [] ≡ ys ++ y ∷ [] = cc in
    let rest = snoc_same xs ys x y tail in
    let whole : a ∷ xs ≡ b ∷ ys = rw (head, rest.0) refl in
    (whole, rest.1)

-- the last of the first k elements is taken away
pub popped : (all : List (Option ℕ)) {olds : List (Option ℕ)} (news : List (Option ℕ))
    (hole : Option ℕ) (k : ℕ) → olds ≡ take (k + 1) all → olds ≡ news ++ hole ∷ [] → k < length all
    → (news ≡ take k all) × (hole ≡ get_or all k None)
popped all news hole k is parts below = snoc_same news (take k all) hole (get_or all k None)
    (sym parts ∙ is ∙ take_more all k None below)

no_more : (n : ℕ) → n ≡ n + 0
no_more n = omega arith

module _ {V : Type 0} where
  pub holes_counted : (place : ℕ) (arms : List (Arm Target V)) → length (holes_of place arms)
      ≡ length arms
  holes_counted place [] = refl
  holes_counted place (arm ∷ rest) = ap suc (holes_counted (place + length (header arm)) rest)

  -- one arm more
  pub holes_more : (place : ℕ) (arms : List (Arm Target V)) (arm : Arm Target V)
      → holes_of place (arms ++ arm ∷ []) ≡ holes_of place arms
      ++ hole_of (place + length (headers arms)) arm ∷ []
  holes_more place [] arm = ap (λ p. hole_of p arm ∷ []) (no_more place)
  holes_more place (x ∷ rest) arm =
      ap (λ hs. hole_of place x ∷ hs) (holes_more (place + length (header x)) rest arm
      ∙ ap (λ p. holes_of (place + length (header x)) rest ++ hole_of p arm ∷ [])
      (omega (arith, length-append (header x) (headers rest))))

  pub holes_taken : (place i : ℕ) (arms : List (Arm Target V)) (arm : Arm Target V)
      → i < length arms → arm ≡ get_or arms i arm
      → holes_of place (take (i + 1) arms) ≡ holes_of place (take i arms)
      ++ hole_of (place + length (headers (take i arms))) arm ∷ []
  holes_taken place i arms arm below at =
      ap (holes_of place) (take_more arms i arm below ∙ ap (λ a. take i arms ++ a ∷ []) (sym at))
      ∙ holes_more place (take i arms) arm

  -- the open target of an arm
  pub hole_at : (place : ℕ) (arms : List (Arm Target V)) (i : ℕ) (arm : Arm Target V)
      → i < length arms → arm ≡ get_or arms i arm
      → get_or (holes_of place arms) i None ≡ hole_of (place + length (headers (take i arms))) arm
  hole_at place [] i arm below at = absurd (omega arith)
  hole_at place (x ∷ rest) zero arm below at = ap (λ a. hole_of place a) (sym at)
      ∙ ap (λ p. hole_of p arm) (no_more place)
  hole_at place (x ∷ rest) (suc i) arm below at =
      hole_at (place + length (header x)) rest i arm (omega arith) at
      ∙ ap (λ p. hole_of p arm) (omega (arith, length-append (header x) (headers (take i rest))))

-- a header lies inside the headers
pub header_inside : {V : Type 0} (arms : List (Arm Target V)) (i : ℕ) (arm : Arm Target V)
    → i < length arms → arm ≡ get_or arms i arm
    → length (headers (take i arms)) + length (header arm) ≤ length (headers arms)
header_inside arms i arm below at = omega (
  arith,
  ap length (flat_parts header arms i) ∙ length-append (headers (take i arms))
      (headers (drop i arms)),
  ap length (flat_drop header arms i arm below at)
      ∙ length-append (header arm) (headers (drop (i + 1) arms)),
)

-- ---- one arm

module _ {V : Type 0} (strings : V → List Words) (is_block : (StrNo → Option Words) → V → Block
    → Type 0) where
  pub case_written : {old new : List Words} {before after : List ℕ} {hole : ℕ} (label : ℤ)
      (body : Conds Target V) → hole + 4 ≤ length before → WritesBody old before hole
      (conds_strings strings body) (λ numbered b. IsCondsBlock (is_block numbered) body b) new after
      → WritesArm strings is_block old before (Some hole) (Case label body) new after
  case_written {before} {hole} label body inside w = record {
    table = grows_within w.table (within_left (conds_strings strings body) [] (ap (flat_map strings)
        (append-nil (values_of body)) ∙ sym (append-nil (conds_strings strings body))));
    longer = subst (λ (code : List ℕ). length before ≤ length code) (sym w.written)
        (with_body_length before hole w.block inside);
    around = λ rest. Match label w.block rest;
    written = λ front rest is at.
        let place : hole ≡ length front + 9 = cc in
        w.written
        ∙ ap (λ (p : ℕ). with_body before p w.block) place
        ∙ body_matches front before label w.block rest is;
    is = λ later otherwise rest b held. (w.block, b, refl, w.is later, held);
  }

  pub default_written : (old : List Words) (before : List ℕ) (hole : Option ℕ)
      (body : Conds Target V) → WritesArm strings is_block old before hole (Default body) old before
  default_written old before hole body = record {
    table = grows_within {ws = (arms_strings strings (ConsArm (Default body) NoArms))}
        (nothing_added old) (λ w held. absurd (omega (arith, held.1)));
    longer = omega arith;
    around = λ rest. rest;
    written = λ front rest is at. is ∙ ap (λ (code : List ℕ). code ++ bytes_at (length code) rest)
        (append-nil front);
    is = λ later otherwise rest b held. held;
  }

  -- ---- all arms

  -- the arms from the one at i on are written
  pub record Back (i : ℕ) (arms : List (Arm Target V)) (a : List Words) (before : List ℕ)
      (holes : List (Option ℕ)) (b : List Words) (now : List ℕ) : Type 0 where
    pub table : GrowsBy a (arms_strings strings (arms_from (drop i arms))) b
    pub longer : length before ≤ length now
    pub around : Block → Block
    pub written : (front : List ℕ) (rest : Block) → before ≡ (front ++ headers arms)
        ++ bytes_at (length (front ++ headers arms)) rest
        → holes ≡ holes_of (length front) arms → now ≡ (front ++ headers (take i arms))
        ++ bytes_at (length (front ++ headers (take i arms))) (around rest)
    pub is : (later : List Words) (otherwise : Block) (x : Block)
        → IsArmsBlock (is_block (string_of_table (b ++ later))) otherwise NoArms x
        → IsArmsBlock (is_block (string_of_table (b ++ later))) otherwise (arms_from (drop i arms))
        (around x)

  pub back_starts : (i : ℕ) (arms : List (Arm Target V)) (a : List Words) (before : List ℕ)
      (holes : List (Option ℕ)) → length arms ≤ i → Back i arms a before holes a before
  back_starts i arms a before holes h =
      let none : drop i arms ≡ [] = drop_all i arms h in record {
        table = subst (λ (xs : List (Arm Target V)). GrowsBy a (arms_strings strings (arms_from xs))
            a) (sym none) (nothing_added a);
        longer = omega arith;
        around = λ x. x;
        written = λ front rest is at. subst (λ (xs : List (Arm Target V)). before
            ≡ (front ++ headers xs) ++ bytes_at (length (front ++ headers xs)) rest)
            (sym (take_all i arms h)) is;
        is = λ later otherwise x held. subst
            (λ (xs : List (Arm Target V)). IsArmsBlock (is_block (string_of_table (a ++ later)))
            otherwise (arms_from xs) x) (sym none) held;
      }

  -- ---- one arm more

  module _ (i : ℕ) (arms : List (Arm Target V)) (arm : Arm Target V) (below : i < length arms)
      (at : arm ≡ get_or arms i arm) where
    rest_within : Within (arms_strings strings (arms_from (drop (i + 1) arms)))
        (arms_strings strings (arms_from (drop i arms)))
    rest_within w held =
        within_same (arms_strings_are strings (drop i arms)) w (within_right
        (strings_at_arm strings arm) (flat_map (strings_at_arm strings) (drop (i + 1) arms))
        (flat_drop (strings_at_arm strings) arms i arm below at) w
        (within_same (sym (arms_strings_are strings (drop (i + 1) arms))) w held))

    arm_within : Within (strings_at_arm strings arm)
        (arms_strings strings (arms_from (drop i arms)))
    arm_within w held =
        within_same (arms_strings_are strings (drop i arms)) w (within_left
        (strings_at_arm strings arm) (flat_map (strings_at_arm strings) (drop (i + 1) arms))
        (flat_drop (strings_at_arm strings) arms i arm below at) w held)

    all_within : Within (arms_strings strings (arms_from (drop i arms)))
        (arms_strings strings (arms_from arms))
    all_within w held =
        within_same (arms_strings_are strings arms) w
        (within_right (flat_map (strings_at_arm strings) (take i arms)) (flat_map
        (strings_at_arm strings) (drop i arms)) (flat_parts (strings_at_arm strings) arms i) w
        (within_same (sym (arms_strings_are strings (drop i arms))) w held))

    in_front : (front : List ℕ) → front ++ headers (take (i + 1) arms)
        ≡ (front ++ headers (take i arms)) ++ header arm
    in_front front = ap (λ (code : List ℕ). front ++ code) (flat_take header arms i arm below at)
        ∙ sym (append_assoc front (headers (take i arms)) (header arm))

    pub back_overflows : {a b : List Words} {before now : List ℕ} {holes : List (Option ℕ)}
        → Back (i + 1) arms a before holes b now → Overflows b (strings_at_arm strings arm)
        → Overflows a (arms_strings strings (arms_from arms))
    back_overflows {a} {b} back over =
        overflows_later a b {us = (arms_strings strings (arms_from arms))} back.table over
        (λ w held. all_within w (rest_within w held)) (λ w held. all_within w (arm_within w held))

    -- the open target of the arm comes after the headers before it
    pub own_hole : (place : ℕ) → get_or (holes_of place arms) i None
        ≡ hole_of (place + length (headers (take i arms))) arm
    own_hole place = hole_at place arms i arm below at

    pub back_grows : {a b c : List Words} {before now after : List ℕ} {holes : List (Option ℕ)}
        {hole : Option ℕ} → hole ≡ get_or holes i None → Back (i + 1) arms a before holes b now
        → WritesArm strings is_block b now hole arm c after → Back i arms a before holes c after
    back_grows {b} {c} own back w = record {
      table = grows_twice back.table w.table rest_within arm_within;
      longer = omega (arith, w.longer, back.longer);
      around = λ x. w.around (back.around x);
      written = λ front rest is at.
          w.written (front ++ headers (take i arms)) (back.around rest)
          (back.written front rest is at
          ∙ ap (λ (code : List ℕ). code ++ bytes_at (length code) (back.around rest))
          (in_front front))
          (own ∙ ap (λ hs. get_or hs i None) at ∙ own_hole (length front)
          ∙ ap (λ place. hole_of place arm)
          (sym (length-append front (headers (take i arms)))));
      is = λ later otherwise x held.
          let e : c ++ later ≡ b ++ (w.table.more ++ later) =
          later_on b w.table.more later w.table.grown in
          let behind_it : IsArmsBlock (is_block (string_of_table (c ++ later))) otherwise
          (arms_from (drop (i + 1) arms)) (back.around x) =
          subst (λ (t : List Words). IsArmsBlock (is_block (string_of_table t)) otherwise
          (arms_from (drop (i + 1) arms)) (back.around x)) (sym e)
          (back.is (w.table.more ++ later) otherwise x
          (subst (λ (t : List Words). IsArmsBlock (is_block (string_of_table t)) otherwise
          NoArms x) e held)) in
          subst (λ (xs : List (Arm Target V)). IsArmsBlock (is_block (string_of_table (c ++ later)))
          otherwise (arms_from xs) (w.around (back.around x))) (sym (dropped arms i below at))
          (w.is later otherwise (arms_from (drop (i + 1) arms)) (back.around x) behind_it);
    }

  pub back_ends : {i : ℕ} {arms : List (Arm Target V)} {a b : List Words} {before now : List ℕ}
      {holes : List (Option ℕ)} → i ≤ 0 → Back i arms a before holes b now
      → WritesArms strings is_block a before holes arms b now
  back_ends {i} {arms} {a} {b} {before} {now} {holes} h back =
      let whole : Back 0 arms a before holes b now = let none : i ≡ 0 =
      omega arith in subst (λ (k : ℕ). Back k arms a before holes b now) none back in record {
        table = whole.table;
        around = whole.around;
        written = λ front rest is at. whole.written front rest is at
            ∙ ap (λ (code : List ℕ). code ++ bytes_at (length code) (whole.around rest))
            (append-nil front);
        is = whole.is;
      }
