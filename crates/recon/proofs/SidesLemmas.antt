-- The sides of a block look at earlier blocks alone, and whether they are there doesn't depend on the macroblock's samples.
use Rattle.std.proofs.Common.{◌≡◌, ℕ, ◌+◌, ◌-◌, ◌*◌, ◌/◌, ◌%◌, ◌<◌, Bool, true, false, cond, eqb, ltb, List, [], ◌∷◌, Option, Some, get_or, refl, ap, ◌∙◌, arith}
use Rattle.std.specs.Prelude.{is_some, option_map}
use Rattle.std.proofs.lemmas.Bool.Decides.{nat_tests}
use Rattle.cb_types.specs.Blocks.{block_at, block_column, block_row}
use Rattle.intra_pred.specs.Available.{is_available, is_available4}
use Rattle.recon.specs.Intra.{has_sides}
use Rattle.recon.specs.Sides.{beside, corner_side, four_across, four_down, left_side, own, right_side, sides_of, top_side}
use Rattle.recon.specs.declared.edges.Edges.{Edges}
use Rattle.recon.specs.declared.sides.Sides.{Sides}

-- two macroblocks have the same samples in the blocks before one
pub record SameBefore (end : ℕ) (l m : List ℕ) : Type 0 where
  pub same : (x y : ℕ) → x < 16 → y < 16 → block_at (x / 4) (y / 4) < end → own l x y ≡ own m x y

-- a choice by a test, in either case
pub by_cases : {A : Type 0} (t : Bool) (a b c d : A) → (t ≡ true → a ≡ c) → (t ≡ false → b ≡ d) → cond t a b ≡ cond t c d
by_cases true a b c d hit miss = hit refl
by_cases false a b c d hit miss = miss refl

pub is_from : (a b : ℕ) → eqb a b ≡ true → a ≡ b
is_from a b e = grind (arith, nat_tests)

pub isnt_from : (a b : ℕ) → eqb a b ≡ false → (a ≡ b → ⊥)
isnt_from a b e f = grind (arith, nat_tests)

less_from : (a b : ℕ) → ltb a b ≡ true → a < b
less_from a b e = grind (arith, nat_tests)

four_same : (a b c d a' b' c' d' : ℕ) → a ≡ a' → b ≡ b' → c ≡ c' → d ≡ d' → (a ∷ b ∷ c ∷ d ∷ []) ≡ (a' ∷ b' ∷ c' ∷ d' ∷ [])
four_same a b c d a' b' c' d' e f g h = cc

down_same : (l m : List ℕ) (x y end : ℕ) → SameBefore end l m → x < 16 → y % 4 ≡ 0 → y < 16 → block_at (x / 4) (y / 4) < end → four_down l x y ≡ four_down m x y
down_same l m x y end same inside whole down before =
    let line : (k : ℕ) → k < 4 → own l x (y + k) ≡ own m x (y + k) =
    λ k lt. let e : (y + k) / 4 ≡ y / 4 = omega arith in same.same x (y + k) inside (omega arith) (omega (arith, ap (λ r. block_at (x / 4) r) e)) in
    four_same _ _ _ _ _ _ _ _ (same.same x y inside down before) (line 1 (omega arith)) (line 2 (omega arith)) (line 3 (omega arith))

across_same : (l m : List ℕ) (x y end : ℕ) → SameBefore end l m → x < 16 → x % 4 ≡ 0 → y < 16 → block_at (x / 4) (y / 4) < end → four_across l x y ≡ four_across m x y
across_same l m x y end same inside whole down before =
    let line : (k : ℕ) → k < 4 → own l (x + k) y ≡ own m (x + k) y =
    λ k lt. let e : (x + k) / 4 ≡ x / 4 = omega arith in same.same (x + k) y (omega arith) down (omega (arith, ap (λ c. block_at c (y / 4)) e)) in
    four_same _ _ _ _ _ _ _ _ (same.same x y inside down before) (line 1 (omega arith)) (line 2 (omega arith)) (line 3 (omega arith))

left_same : (edges : Edges) (l m : List ℕ) (c r : ℕ) → c < 4 → r < 4 → SameBefore (block_at c r) l m → left_side edges l c r ≡ left_side edges m c r
left_same edges l m c r inside down same =
    by_cases (eqb c 0) _ _ _ _ (λ e. refl)
    (λ e. let some : c ≡ 0 → ⊥ = isnt_from c 0 e in
    ap Some (down_same l m (4 * c - 1) (4 * r) (block_at c r) same (omega arith) (omega arith) (omega arith)
    (let a : (4 * c - 1) / 4 ≡ c - 1 = omega arith in let b : 4 * r / 4 ≡ r = omega arith in let lt : block_at (c - 1) r < block_at c r = omega arith in omega (arith, ap (λ k. block_at k (4 * r / 4)) a, ap (λ k. block_at (c - 1) k) b))))

top_same : (edges : Edges) (l m : List ℕ) (c r : ℕ) → c < 4 → r < 4 → SameBefore (block_at c r) l m → top_side edges l c r ≡ top_side edges m c r
top_same edges l m c r inside down same =
    by_cases (eqb r 0) _ _ _ _ (λ e. refl)
    (λ e. let some : r ≡ 0 → ⊥ = isnt_from r 0 e in
    ap Some (across_same l m (4 * c) (4 * r - 1) (block_at c r) same (omega arith) (omega arith) (omega arith)
    (let a : (4 * r - 1) / 4 ≡ r - 1 = omega arith in let b : 4 * c / 4 ≡ c = omega arith in let lt : block_at c (r - 1) < block_at c r = omega arith in omega (arith, ap (λ k. block_at k ((4 * r - 1) / 4)) b, ap (λ k. block_at c k) a))))

right_same : (edges : Edges) (l m : List ℕ) (c r : ℕ) → c < 4 → r < 4 → SameBefore (block_at c r) l m → right_side edges l c r ≡ right_side edges m c r
right_same edges l m c r inside down same =
    by_cases (eqb r 0) _ _ _ _ (λ e. refl)
    (λ e. let some : r ≡ 0 → ⊥ = isnt_from r 0 e in
    by_cases (eqb c 3) _ _ _ _ (λ f. refl)
    (λ f. let more : c ≡ 3 → ⊥ = isnt_from c 3 f in
    by_cases (ltb (block_at (c + 1) (r - 1)) (block_at c r)) _ _ _ _
    (λ g. let lt : block_at (c + 1) (r - 1) < block_at c r = less_from _ _ g in
    ap Some (across_same l m (4 * c + 4) (4 * r - 1) (block_at c r) same (omega arith) (omega arith) (omega arith)
    (let a : (4 * r - 1) / 4 ≡ r - 1 = omega arith in let b : (4 * c + 4) / 4 ≡ c + 1 = omega arith in omega (arith, ap (λ k. block_at k ((4 * r - 1) / 4)) b, ap (λ k. block_at (c + 1) k) a))))
    (λ g. refl)))

corner_same : (edges : Edges) (l m : List ℕ) (c r : ℕ) → c < 4 → r < 4 → SameBefore (block_at c r) l m → corner_side edges l c r ≡ corner_side edges m c r
corner_same edges l m c r inside down same =
    by_cases (eqb c 0) _ _ _ _ (λ e. refl)
    (λ e. let some : c ≡ 0 → ⊥ = isnt_from c 0 e in
    by_cases (eqb r 0) _ _ _ _ (λ f. refl)
    (λ f. let more : r ≡ 0 → ⊥ = isnt_from r 0 f in
    ap Some (same.same (4 * c - 1) (4 * r - 1) (omega arith) (omega arith)
    (let a : (4 * c - 1) / 4 ≡ c - 1 = omega arith in let b : (4 * r - 1) / 4 ≡ r - 1 = omega arith in let lt : block_at (c - 1) (r - 1) < block_at c r = omega arith in omega (arith, ap (λ k. block_at k ((4 * r - 1) / 4)) a, ap (λ k. block_at (c - 1) k) b)))))

sides_made : Option (List ℕ) → Option (List ℕ) → Option (List ℕ) → Option ℕ → Sides
sides_made l t r c = record { left = l; top = t; right = r; corner = c }

sides_of_four : (l t r : Option (List ℕ)) (c : Option ℕ) (l' t' r' : Option (List ℕ)) (c' : Option ℕ) → l ≡ l' → t ≡ t' → r ≡ r' → c ≡ c' → sides_made l t r c ≡ sides_made l' t' r' c'
sides_of_four l t r c l' t' r' c' e f g h = cc

named_before : (block : ℕ) (l m : List ℕ) → block < 16 → SameBefore block l m → SameBefore (block_at (block_column block) (block_row block)) l m
named_before block l m lt same = record { same = λ x y inside down before. same.same x y inside down (let e : block_at (block_column block) (block_row block) ≡ block = omega arith in omega arith) }

pub sides_same : (edges : Edges) (l m : List ℕ) (block : ℕ) → block < 16 → SameBefore block l m → sides_of edges l block ≡ sides_of edges m block
unfolding sides_of sides_made
sides_same edges l m block lt same =
    let c : ℕ = block_column block in
    let r : ℕ = block_row block in
    let before = named_before block l m lt same in
    sides_of_four _ _ _ _ _ _ _ _ (left_same edges l m c r (omega arith) (omega arith) before) (top_same edges l m c r (omega arith) (omega arith) before) (right_same edges l m c r (omega arith) (omega arith) before) (corner_same edges l m c r (omega arith) (omega arith) before)

ap3 : {A : Type 0} (f : Bool → Bool → Bool → A) (a b c a' b' c' : Bool) → a ≡ a' → b ≡ b' → c ≡ c' → f a b c ≡ f a' b' c'
ap3 f a b c a' b' c' e g h = cc

-- whether sides are there
side_there : (edges : Edges) (l m : List ℕ) (c r : ℕ) → is_some (left_side edges l c r) ≡ is_some (left_side edges m c r)
side_there edges l m c r = elim (eqb c 0) as (λ t. is_some (cond t (beside r edges.left) (Some (four_down l (4 * c - 1) (4 * r)))) ≡ is_some (cond t (beside r edges.left) (Some (four_down m (4 * c - 1) (4 * r))))) [ true ↦ refl | false ↦ refl ]

top_there : (edges : Edges) (l m : List ℕ) (c r : ℕ) → is_some (top_side edges l c r) ≡ is_some (top_side edges m c r)
top_there edges l m c r = elim (eqb r 0) as (λ t. is_some (cond t (beside c edges.top) (Some (four_across l (4 * c) (4 * r - 1)))) ≡ is_some (cond t (beside c edges.top) (Some (four_across m (4 * c) (4 * r - 1))))) [ true ↦ refl | false ↦ refl ]

corner_there : (edges : Edges) (l m : List ℕ) (c r : ℕ) → is_some (corner_side edges l c r) ≡ is_some (corner_side edges m c r)
corner_there edges l m c r =
    elim (eqb c 0) as (λ t. is_some (cond t (cond (eqb r 0) edges.corner (option_map (λ samples. get_or samples (4 * r - 1) 0) edges.left)) (cond (eqb r 0) (option_map (λ samples. get_or samples (4 * c - 1) 0) edges.top) (Some (own l (4 * c - 1) (4 * r - 1)))))
    ≡ is_some (cond t (cond (eqb r 0) edges.corner (option_map (λ samples. get_or samples (4 * r - 1) 0) edges.left)) (cond (eqb r 0) (option_map (λ samples. get_or samples (4 * c - 1) 0) edges.top) (Some (own m (4 * c - 1) (4 * r - 1)))))) [
      | true ↦ refl
      | false ↦ elim (eqb r 0) as (λ t. is_some (cond t (option_map (λ samples. get_or samples (4 * c - 1) 0) edges.top) (Some (own l (4 * c - 1) (4 * r - 1)))) ≡ is_some (cond t (option_map (λ samples. get_or samples (4 * c - 1) 0) edges.top) (Some (own m (4 * c - 1) (4 * r - 1))))) [ true ↦ refl | false ↦ refl ]
    ]

-- what a mode needs is there, by the sides themselves
pub there_by_sides : (edges : Edges) (modes l : List ℕ) (block : ℕ) (sides : Sides) → sides ≡ sides_of edges l block → is_available4 (get_or modes block 0) sides.left sides.top sides.corner ≡ has_sides edges modes block
unfolding sides_of
there_by_sides edges modes l block sides is =
    let c : ℕ = block_column block in
    let r : ℕ = block_row block in
    let a = side_there edges l [] c r in
    let b = top_there edges l [] c r in
    let d = corner_there edges l [] c r in
    ap (λ (s : Sides). is_available4 (get_or modes block 0) s.left s.top s.corner) is ∙ ap3 (λ x y z. is_available 9 (1 ∷ 4 ∷ 5 ∷ 6 ∷ 8 ∷ []) (0 ∷ 3 ∷ 4 ∷ 5 ∷ 6 ∷ 7 ∷ []) (4 ∷ 5 ∷ 6 ∷ []) (get_or modes block 0) x y z) _ _ _ _ _ _ a b d
