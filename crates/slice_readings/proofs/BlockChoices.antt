-- The blocks that have a spelling are few.
use Rattle.std.proofs.Common.{◌≡◌, ℕ, ◌+◌, ◌<◌, Bool, true, false, List, [], ◌∷◌, ◌++◌, length, map, get_or, take, replicate, refl, sym, subst, arith, ℤ, pos, unsigned_abs}
use Rattle.std.specs.List.{All, flat_map}
use Rattle.std.proofs.lemmas.List.{get_or-append-add, get_or-map, get_or_append_left, get_or_default, length-append, length-map}
use Rattle.std.proofs.lemmas.List.Elements.{All-cons, All-nil, All-replicate}
use Rattle.cavlc.proofs.SizeLemmas.{coefficients_small}
use Rattle.cavlc.proofs.TurnLemmas.{is_at}
use Rattle.cavlc.specs.Blocks.{HasSpelling}
use Rattle.cavlc.specs.Turns.{state_behind}
use Rattle.cb_types.specs.declared.macroblock.Macroblock.{Macroblock}
use Rattle.cb_types.specs.declared.macroblock.MbKind.{MbKind}
use Rattle.finite.specs.Decided.{Decided}
use Rattle.finite.specs.Finite.{Finite}
use Rattle.finite.proofs.Deciding.{both, decided_as, implies}
use Rattle.finite.proofs.Equal.{equal_booleans, equal_integers, equal_lists}
use Rattle.finite.proofs.Lists.{lists_of}
use Rattle.finite.proofs.Numbers.{integers_below}
use Rattle.finite.proofs.Sets.{narrower}
use Rattle.mb_syntax.specs.Blocks.{AreBlocks, IsNextBlock, block_behind, is_coded, most_levels, next_block_bits}
use Rattle.mb_syntax.specs.Counts.{nc_at}
use Rattle.mb_syntax.specs.declared.slice.Slice.{Slice}
use Rattle.slice_readings.proofs.SpellingDecided.{each_in_turn, spelling_decided}

-- a level that can be spelled
pub IsLevel : ℤ → Type 0
IsLevel level = unsigned_abs level < 2529

pub levels_few : Finite IsLevel
unfolding IsLevel
levels_few = integers_below 2529

zero_level : IsLevel (pos 0)
unfolding IsLevel
zero_level = omega arith

pub IsBlock : List ℤ → Type 0
IsBlock block = (length block ≡ 16) × All IsLevel block

pub block_parts : (block : List ℤ) → IsBlock block → (length block ≡ 16) × All IsLevel block
unfolding IsBlock
block_parts block h = h

pub blocks_few : Finite IsBlock
unfolding IsBlock
blocks_few = lists_of IsLevel levels_few 16

pub spelled_block : (nc : ℤ) (most : ℕ) (block : List ℤ) → HasSpelling nc most block → IsBlock block
unfolding IsBlock IsLevel
spelled_block nc most block h =
    (h.size, λ k d below. let small = coefficients_small nc most block h k in subst IsLevel (get_or_default block k (pos 0) d below) (omega (arith, small)))

zero_block : IsBlock (replicate 16 (pos 0))
unfolding IsBlock
zero_block = (refl, All-replicate IsLevel 16 (pos 0) zero_level)

-- the blocks that are spelled with an nC
pub spelled_blocks_few : (nc : ℤ) (most : ℕ) → Finite (HasSpelling nc most)
spelled_blocks_few nc most = narrower (HasSpelling nc most) blocks_few (λ block h. spelling_decided nc most block) (λ block h. spelled_block nc most block h)

-- ---- the blocks of a macroblock

one_block : (coded : Bool) (nc : ℤ) (most : ℕ) (block : List ℤ) → (coded ≡ true → HasSpelling nc most block)
    → (coded ≡ false → block ≡ replicate 16 (pos 0)) → IsBlock block
one_block true nc most block h k = spelled_block nc most block (h refl)
one_block false nc most block h k = subst IsBlock (sym (k refl)) zero_block

pub blocks_are : (slice : Slice) (before : List Macroblock) (kind : MbKind) (blocks : List (List ℤ)) → AreBlocks slice before kind blocks
    → All IsBlock blocks
blocks_are slice before kind blocks h k d below =
    let behind = state_behind block_behind [] (take k blocks) in
    let next : IsNextBlock slice before kind behind (get_or blocks k d) =
    is_at (IsNextBlock slice before kind) (next_block_bits slice before kind) block_behind [] blocks k d below h in
    one_block (is_coded kind (length behind)) (nc_at slice before behind (length behind)) (most_levels kind (length behind)) (get_or blocks k d)
    next.coded next.not_coded

next_decided : (slice : Slice) (before : List Macroblock) (kind : MbKind) (blocks : List (List ℤ)) (block : List ℤ)
    → Decided (IsNextBlock slice before kind blocks block)
next_decided slice before kind blocks block =
    let place = length blocks in
    decided_as (λ h. record { coded = h.0; not_coded = h.1 }) (λ h. (h.coded, h.not_coded))
    (both (implies (equal_booleans (is_coded kind place) true) (λ h. spelling_decided (nc_at slice before blocks place) (most_levels kind place) block))
    (λ h. implies (equal_booleans (is_coded kind place) false) (λ h. equal_lists equal_integers block (replicate 16 (pos 0)))))

pub blocks_decided : (slice : Slice) (before : List Macroblock) (kind : MbKind) (blocks : List (List ℤ)) → Decided (AreBlocks slice before kind blocks)
blocks_decided slice before kind blocks = each_in_turn (IsNextBlock slice before kind) block_behind [] blocks (next_decided slice before kind)

-- ---- of parts of a list

pub All-front : {A : Type 0} (P : A → Type 0) (xs ys : List A) → All P (xs ++ ys) → All P xs
All-front P xs ys h k d below = subst P (get_or_append_left xs ys d k below) (h k d (omega (arith, below, length-append xs ys)))

pub All-back : {A : Type 0} (P : A → Type 0) (xs ys : List A) → All P (xs ++ ys) → All P ys
All-back P xs ys h k d below = subst P (get_or-append-add xs ys k d) (h (length xs + k) d (omega (arith, below, length-append xs ys)))

pub All-mapped : {A B : Type 0} (P : B → Type 0) (f : A → B) (xs : List A) → All P (map f xs) → All (λ x. P (f x)) xs
All-mapped P f xs h k d below = subst P (get_or-map f xs k d (f d) below) (h k (f d) (omega (arith, below, length-map xs f)))

pub All-flat : {A B : Type 0} (P : B → Type 0) (f : A → List B) (xs : List A) → All P (flat_map f xs) → All (λ x. All P (f x)) xs
All-flat P f [] h = All-nil (λ x. All P (f x))
All-flat P f (x ∷ xs) h = All-cons (λ x. All P (f x)) x xs (All-front P (f x) (flat_map f xs) h) (All-flat P f xs (All-back P (f x) (flat_map f xs) h))
