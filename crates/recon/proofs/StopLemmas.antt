-- A macroblock that stops has no mark and no tile that meet its equations.
use Rattle.std.proofs.Common.{◌≡◌, ◌∙◌, ℕ, ◌<◌, ◌≤◌, Bool, true, false, List, inl, inr, sym, subst, arith}
use Rattle.std.proofs.lemmas.Bool.{true≢false}
use Rattle.cb_types.specs.declared.macroblock.MbKind.{MbKind}
use Rattle.cb_types.specs.declared.macroblock.MbKind.TheVariants.{Skip, Pcm, Intra4, Intra16, Whole, Wide, Tall, Four, FourFirst}
use Rattle.cb_types.specs.declared.macroblock.Vector.{Vector}
use Rattle.cb_types.specs.declared.mark.MbMark.{MbMark}
use Rattle.motion.specs.Border.{mark_at}
use Rattle.motion.specs.Vectors.{AreVectors, IsWithinBounds, LeavesBounds, vector_of}
use Rattle.motion.specs.declared.border.Border.{Border}
use Rattle.motion.proofs.VectorLemmas.{vector_same}
use Rattle.vd_plane.specs.Tiles.{tile_at}
use Rattle.vd_plane.specs.declared.tile.Tile.{Tile}
use Rattle.recon.specs.Laws.{AreWhole}
use Rattle.recon.specs.Rebuilt.{AreRebuilt, HasPictures, HasSamples, IsRebuilt, LacksPicture, LacksSamples, Stops, StopsWithin, border_at}
use Rattle.recon.specs.Slice.{Slice, kind_at}
use Rattle.recon.proofs.KeptLemmas.{has_kept}
use Rattle.recon.proofs.OneSolution.{one_solution, vectors_agree}
use Rattle.recon.proofs.SamePrefix.{border_at_kept}

vectors_leave : (border : Border) (kind : MbKind) (w : List Vector) → LeavesBounds border kind → AreVectors border kind 16 w → ⊥
vectors_leave border kind w leaves of_w =
    let v : List Vector = leaves.vectors in
    let block : ℕ = leaves.block in
    let inside = leaves.inside in
    let agree = vectors_agree border kind v w block (omega arith) leaves.before (λ k lt. of_w k (omega arith)) in
    let here = of_w block inside in
    let same : vector_of border kind v block ≡ vector_of border kind w block = vector_same border kind v w block inside agree in
    leaves.outside (subst IsWithinBounds (here.value ∙ sym same) here.bounds)

both : (b : Bool) → b ≡ true → b ≡ false → ⊥
both b is other = true≢false (sym is ∙ other)

lacks_not : (slice : Slice) (number : ℕ) (tiles : List Tile) (kind : MbKind) → LacksSamples slice number tiles kind → HasSamples slice number tiles kind → ⊥
lacks_not slice number tiles Skip lacks has = lacks
lacks_not slice number tiles (Pcm samples) lacks has = lacks
lacks_not slice number tiles (Intra4 modes chroma pattern) (inl lacks) has = both _ (has.0 lacks.0 lacks.1) lacks.2
lacks_not slice number tiles (Intra4 modes chroma pattern) (inr lacks) has = both _ has.1 lacks
lacks_not slice number tiles (Intra16 mode chroma pattern) (inl lacks) has = both _ has.0 lacks
lacks_not slice number tiles (Intra16 mode chroma pattern) (inr lacks) has = both _ has.1 lacks
lacks_not slice number tiles (Whole part pattern) lacks has = lacks
lacks_not slice number tiles (Wide parts pattern) lacks has = lacks
lacks_not slice number tiles (Tall parts pattern) lacks has = lacks
lacks_not slice number tiles (Four subs pattern) lacks has = lacks
lacks_not slice number tiles (FourFirst subs pattern) lacks has = lacks

picture_lacks : (slice : Slice) (kind : MbKind) → LacksPicture slice kind → HasPictures slice kind → ⊥
picture_lacks slice kind lacks has = both _ lacks.lacking (has lacks.is_inter lacks.block lacks.inside)

stops_not : (slice : Slice) (m n : List MbMark) (s t : List Tile) (number : ℕ) → 1 ≤ slice.size.width
    → ((k : ℕ) → k < number → mark_at m k ≡ mark_at n k) → ((k : ℕ) → k < number → tile_at s k ≡ tile_at t k)
    → Stops slice m s number → IsRebuilt slice n t number → ⊥
stops_not slice m n s t number wide same_marks same_tiles (inl leaves) is =
    let same = border_at_kept slice m n number wide (record { same = same_marks }) in
    vectors_leave (border_at slice n number) (kind_at slice number) (mark_at n number).vectors (subst (λ (b : Border). LeavesBounds b (kind_at slice number)) same leaves) is.vectors
stops_not slice m n s t number wide same_marks same_tiles (inr (inl lacks)) is = picture_lacks slice (kind_at slice number) lacks is.pictures
stops_not slice m n s t number wide same_marks same_tiles (inr (inr lacks)) is =
    lacks_not slice number s (kind_at slice number) lacks (has_kept slice number t s wide (λ k less. sym (same_tiles k less)) is.samples)

-- A slice that stops has no solution.
pub stopped_has_none : (slice : Slice) (count : ℕ) (m n : List MbMark) (s t : List Tile) → 1 ≤ slice.size.width → AreWhole m s count → AreWhole n t count
    → StopsWithin slice m s count → AreRebuilt slice n t count → ⊥
stopped_has_none slice count m n s t wide whole other stops are =
    let number : ℕ = stops.number in
    let inside = stops.inside in
    let same = one_solution slice number m n s t wide
    (record { of_marks = λ k lt. whole.of_marks k (omega arith); of_tiles = λ k lt. whole.of_tiles k (omega arith) })
    (record { of_marks = λ k lt. other.of_marks k (omega arith); of_tiles = λ k lt. other.of_tiles k (omega arith) })
    stops.before (λ k lt. are k (omega arith)) number (omega arith) in
    stops_not slice m n s t number wide same.of_marks.same same.of_tiles.same stops.stops (are number inside)
