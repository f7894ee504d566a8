-- A slice is constructed macroblock by macroblock, or it stops at one.
use Rattle.std.proofs.Common.{◌≡◌, ℕ, zero, suc, ◌+◌, ◌<◌, ◌≤◌, ◌⊎◌, false, inl, inr, List, length, replicate, sym, ◌∙◌, subst, arith}
use Rattle.std.specs.Prelude.{pos}
use Rattle.std.proofs.lemmas.List.{get_or-replicate, length-replicate, length-set}
use Rattle.cb_types.specs.declared.mark.MbMark.{MbMark}
use Rattle.mv_pred.specs.Neighbours.{no_motion}
use Rattle.motion.specs.Border.{no_mark}
use Rattle.vd_plane.specs.declared.tile.Tile.{Tile}
use Rattle.recon.specs.Laws.{AreWhole, IsWholeMark, IsWholeTile}
use Rattle.recon.specs.Rebuilt.{AreRebuilt}
use Rattle.recon.specs.Slice.{Slice}
use Rattle.recon.proofs.KeptLemmas.{rebuilt_more, whole_set}
use Rattle.render_outcomes.specs.Constructions.{Construction, SlicesAreConstructedOrStop, Stop}
use Rattle.render_outcomes.proofs.MacroblocksExist.{next_or_stops}

-- whole marks and tiles to begin with
blank_mark : MbMark
blank_mark = record { slice = 0; intra = false; pcm = false; qp = 0; idc = 0; alpha = pos 0; beta = pos 0; coded = replicate 16 false; pictures = replicate 16 0; vectors = replicate 16 no_motion }

blank_tile : Tile
blank_tile = record { y = replicate 256 0; cb = replicate 64 0; cr = replicate 64 0 }

is_blank_mark : IsWholeMark blank_mark
unfolding blank_mark
is_blank_mark = record { coded = length-replicate 16 false; pictures = length-replicate {A = ℕ} 16 0; vectors = length-replicate 16 no_motion }

is_blank_tile : IsWholeTile blank_tile
unfolding blank_tile
is_blank_tile = record { y = length-replicate {A = ℕ} 256 0; cb = length-replicate {A = ℕ} 64 0; cr = length-replicate {A = ℕ} 64 0 }

blanks : (count : ℕ) → AreWhole (replicate count blank_mark) (replicate count blank_tile) count
blanks count = record {
  of_marks = λ number lt. subst IsWholeMark (sym (get_or-replicate count number blank_mark no_mark lt)) is_blank_mark;
  of_tiles = λ number lt. subst IsWholeTile (sym (get_or-replicate count number blank_tile _ lt)) is_blank_tile;
}

module _ (slice : Slice) (count : ℕ) (wide : 1 ≤ slice.size.width) where
  -- room for all marks and tiles, in which the first ones are constructed
  record SoFar (end : ℕ) : Type 0 where
    marks : List MbMark
    tiles : List Tile
    of_marks : length marks ≡ count
    of_tiles : length tiles ≡ count
    whole : AreWhole marks tiles count
    rebuilt : AreRebuilt slice marks tiles end

  one_more : (end : ℕ) → end < count → SoFar end → SoFar (suc end) ⊎ Stop slice count
  one_more end lt so_far =
      let marks : List MbMark = so_far.marks in
      let tiles : List Tile = so_far.tiles in
      elim (next_or_stops slice end marks tiles) [
        | inr stops ↦ inr (record { marks = marks; tiles = tiles; whole = so_far.whole; stops = record { number = end; inside = lt; before = so_far.rebuilt; stops = stops } })
        | inl next ↦
            let room : end < length marks = omega (arith, lt, so_far.of_marks) in
            let room' : end < length tiles = omega (arith, lt, so_far.of_tiles) in
            let step : end + 1 ≡ suc end = omega arith in
            inl (record {
              marks = _;
              tiles = _;
              of_marks = length-set marks end next.0 ∙ so_far.of_marks;
              of_tiles = length-set tiles end next.1 ∙ so_far.of_tiles;
              whole = whole_set marks tiles count end next.0 next.1 room room' next.2.of_mark next.2.of_tile so_far.whole;
              rebuilt = subst (AreRebuilt slice _ _) step (rebuilt_more slice marks tiles end next.0 next.1 wide room room' so_far.rebuilt next.2.new);
            })
      ]

  so_far_or_stop : (end : ℕ) → end ≤ count → SoFar end ⊎ Stop slice count
  so_far_or_stop zero within = inl (record {
    marks = replicate count blank_mark;
    tiles = replicate count blank_tile;
    of_marks = length-replicate count blank_mark;
    of_tiles = length-replicate count blank_tile;
    whole = blanks count;
    rebuilt = λ number lt. absurd (omega arith);
  })
  so_far_or_stop (suc end) within = elim (so_far_or_stop end (omega arith)) [
    | inl so_far ↦ one_more end within so_far
    | inr stop ↦ inr stop
  ]

  constructed_or_stops : Construction slice count ⊎ Stop slice count
  constructed_or_stops = elim (so_far_or_stop count (omega arith)) [
    | inl all ↦ inl (record { marks = all.marks; tiles = all.tiles; of_marks = all.of_marks; of_tiles = all.of_tiles; whole = all.whole; rebuilt = all.rebuilt })
    | inr stop ↦ inr stop
  ]

pub slices_are_constructed_or_stop : SlicesAreConstructedOrStop
slices_are_constructed_or_stop slice count wide = constructed_or_stops slice count wide
