-- Memory that is filled with one mark and one tile.
use Rattle.std.proofs.Common.{◌≡◌, ℕ, List, replicate, sym, subst}
use Rattle.std.proofs.lemmas.List.{get_or-replicate}
use Rattle.cb_types.specs.declared.mark.MbMark.{MbMark}
use Rattle.recon.specs.Laws.{AreWhole, IsWholeMark, IsWholeTile}
use Rattle.vd_plane.specs.declared.tile.Tile.{Tile}

pub whole_memory : (mark : MbMark) (tile : Tile) (count : ℕ) (marks : List MbMark) (tiles : List Tile) → IsWholeMark mark → IsWholeTile tile → marks ≡ replicate count mark → tiles ≡ replicate count tile → AreWhole marks tiles count
whole_memory mark tile count marks tiles of_mark of_tile same_marks same_tiles =
    subst (λ (m : List MbMark). AreWhole m tiles count) (sym same_marks)
    (subst (λ (t : List Tile). AreWhole (replicate count mark) t count) (sym same_tiles)
    (record {
      of_marks = λ k lt. subst IsWholeMark (sym (get_or-replicate count k mark _ lt)) of_mark;
      of_tiles = λ k lt. subst IsWholeTile (sym (get_or-replicate count k tile _ lt)) of_tile;
    }))
