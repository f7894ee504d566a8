-- A part of the marks and tiles of a picture, as it comes back from the construction of its slice.
use Rattle.std.proofs.Common.{◌≡◌, ℕ, ◌+◌, ◌-◌, ◌≤◌, Bool, List, ◌++◌, length, take, drop, sym, ap, ◌∙◌, subst, arith}
use Rattle.std.specs.Prelude.{MatchBool}
use Rattle.std.proofs.lemmas.List.{drop-drop, length-drop, length-take-le}
use Rattle.cb_types.specs.declared.macroblock.Macroblock.{Macroblock}
use Rattle.cb_types.specs.declared.mark.MbMark.{MbMark}
use Rattle.recon.specs.Conditions.{IsSlice}
use Rattle.recon.specs.Laws.{AreWhole}
use Rattle.recon.specs.Rebuilt.{AreRebuilt, StopsWithin}
use Rattle.recon.specs.Slice.{Slice}
use Rattle.vd_plane.specs.declared.tile.Tile.{Tile}
use Rattle.decoder_render.specs.Constructed.{IsConstructed}

-- a list with a part of it in other elements
abbrev with_part : {A : Type 0} → ℕ → ℕ → List A → List A → List A
with_part first count xs part = take first xs ++ (part ++ drop count (drop first xs))

part_length : {A : Type 0} (xs : List A) (first count : ℕ) → first + count ≤ length xs → length (take count (drop first xs)) ≡ count
part_length xs first count within = length-take-le count (drop first xs) (omega (arith, within, length-drop first xs))

abbrev Comes : (List Macroblock → Slice) → List Macroblock → ℕ → ℕ → List MbMark → List MbMark → List Tile → List Tile → Bool → ℕ → Type 0
Comes f mbs first count marks own_marks tiles own_tiles is_whole k =
    length own_marks ≡ length (take k (drop first marks)) → length own_tiles ≡ length (take k (drop first tiles))
    → MatchBool is_whole (AreRebuilt (f (take k (drop first mbs))) own_marks own_tiles count) (StopsWithin (f (take k (drop first mbs))) own_marks own_tiles count)
    → (AreWhole (take k (drop first marks)) (take k (drop first tiles)) count → AreWhole own_marks own_tiles count)
    → IsConstructed (f (take count (drop first mbs))) first count marks (with_part first k marks own_marks) tiles (with_part first k tiles own_tiles) is_whole

comes_back : (f : List Macroblock → Slice) (mbs : List Macroblock) (first count : ℕ) (marks own_marks : List MbMark) (tiles own_tiles : List Tile) (is_whole : Bool)
    → first + count ≤ length marks → first + count ≤ length tiles → Comes f mbs first count marks own_marks tiles own_tiles is_whole count
comes_back f mbs first count marks own_marks tiles own_tiles is_whole room room' of_marks of_tiles rebuilt whole = record {
  own_marks = own_marks;
  own_tiles = own_tiles;
  of_marks = of_marks ∙ part_length marks first count room;
  of_tiles = of_tiles ∙ part_length tiles first count room';
  in_marks = ap (λ s. take first marks ++ (own_marks ++ s)) (drop-drop count first marks);
  in_tiles = ap (λ s. take first tiles ++ (own_tiles ++ s)) (drop-drop count first tiles);
  whole = whole;
  rebuilt = rebuilt;
}

pub constructed : (f : List Macroblock → Slice) (mbs : List Macroblock) (first count k : ℕ) (marks own_marks : List MbMark) (tiles own_tiles : List Tile) (is_whole : Bool)
    → k ≡ count → first + count ≤ length marks → first + count ≤ length tiles → Comes f mbs first count marks own_marks tiles own_tiles is_whole k
constructed f mbs first count k marks own_marks tiles own_tiles is_whole same room room' =
    subst (Comes f mbs first count marks own_marks tiles own_tiles is_whole) (sym same) (comes_back f mbs first count marks own_marks tiles own_tiles is_whole room room')

-- the same of marks and tiles that begin at another slice
pub constructed_behind : (f : List Macroblock → Slice) (mbs : List Macroblock) (first base start front count mbs_count k : ℕ) (marks own_marks : List MbMark) (tiles own_tiles : List Tile) (is_whole : Bool)
    → mbs_count ≡ count → k ≡ count → first ≡ start → base ≡ front → first - base + count ≤ length marks → first - base + count ≤ length tiles
    → length own_marks ≡ length (take k (drop (first - base) marks)) → length own_tiles ≡ length (take k (drop (first - base) tiles))
    → MatchBool is_whole (AreRebuilt (f (take mbs_count (drop first mbs))) own_marks own_tiles count) (StopsWithin (f (take mbs_count (drop first mbs))) own_marks own_tiles count)
    → (AreWhole (take k (drop (first - base) marks)) (take k (drop (first - base) tiles)) count → AreWhole own_marks own_tiles count)
    → IsConstructed (f (take count (drop start mbs))) (start - front) count marks (with_part (first - base) k marks own_marks) tiles (with_part (first - base) k tiles own_tiles) is_whole
constructed_behind f mbs first base start front count mbs_count k marks own_marks tiles own_tiles is_whole all same at from room room' of_marks of_tiles rebuilt whole =
    let new_marks : List MbMark = with_part (first - base) k marks own_marks in
    let new_tiles : List Tile = with_part (first - base) k tiles own_tiles in
    let made : IsConstructed (f (take mbs_count (drop first mbs))) (first - base) count marks new_marks tiles new_tiles is_whole =
    constructed (λ (others : List Macroblock). f (take mbs_count (drop first mbs))) mbs (first - base) count k marks own_marks tiles own_tiles is_whole same room room' of_marks of_tiles rebuilt whole in
    let a = subst (λ (n : ℕ). IsConstructed (f (take n (drop first mbs))) (first - base) count marks new_marks tiles new_tiles is_whole) all made in
    let b = subst (λ (n : ℕ). IsConstructed (f (take count (drop n mbs))) (n - base) count marks new_marks tiles new_tiles is_whole) at a in
    subst (λ (n : ℕ). IsConstructed (f (take count (drop start mbs))) (start - n) count marks new_marks tiles new_tiles is_whole) from b

-- a part has room for its slice
pub part_room : {A : Type 0} (xs : List A) (first count k : ℕ) → k ≡ count → first + count ≤ length xs → count ≤ length (take k (drop first xs))
part_room xs first count k same within =
    let long : length (take count (drop first xs)) ≡ count = part_length xs first count within in
    subst (λ (n : ℕ). count ≤ length (take n (drop first xs))) (sym same) (omega (arith, long))

-- a slice that can be constructed, where its macroblocks are taken from the same place
pub slice_behind : (f : List Macroblock → Slice) (mbs : List Macroblock) (first start count k : ℕ) → k ≡ count → first ≡ start
    → IsSlice (f (take count (drop start mbs))) count → IsSlice (f (take k (drop first mbs))) count
slice_behind f mbs first start count k same at is =
    let here = subst (λ (n : ℕ). IsSlice (f (take count (drop n mbs))) count) (sym at) is in
    subst (λ (n : ℕ). IsSlice (f (take n (drop first mbs))) count) (sym same) here
