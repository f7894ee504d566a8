use Rattle.std.proofs.Common.{ℕ, ◌≡◌, ◌+◌, ◌-◌, ◌*◌, ◌/◌, ◌%◌, ◌<◌, ◌∙◌, ap, get_or, sym, arith, rules}
use Rattle.vd_plane.specs.SampleArray.{IsInside, SameSides, sample}
use Rattle.vd_plane.specs.Tiles.{macroblock_at, tile_at, tile_cb}
use Rattle.vd_plane.proofs.TilePlaces.{chroma_more, in_chroma_tile}
use Rattle.vd_plane.proofs.tile.place_cb.Goals as goal

pub loop-m-preserved : goal.loop-m-preserved
loop-m-preserved c =
    let width : ℕ = c.args.width in
    let m : ℕ = c.loop-m.m in
    let tiles = c.args.tiles.now in
    let sides : SameSides c.args.plane.now c.put_rect.new.self = search rules in
    record {
      sides = sides;
      samples = λ x y inside lt.
          let across : x < 8 * width = omega (arith, inside.column, sides.width) in
          let here : macroblock_at 8 width x y ≡ m → get_or (tile_at tiles m).cb ((y - 8 * (m / width)) * 8 + (x - 8 * (m % width))) 0 ≡ tile_cb (tile_at tiles (macroblock_at 8 width x y)) (x % 8) (y % 8) =
          λ same. ap (λ k. get_or (tile_at tiles m).cb k 0) (in_chroma_tile m width x y c.requires.some_column across same) ∙ ap (λ n. tile_cb (tile_at tiles n) (x % 8) (y % 8)) (sym same) in
          let before : macroblock_at 8 width x y < m → sample c.loop-m.plane x y ≡ tile_cb (tile_at tiles (macroblock_at 8 width x y)) (x % 8) (y % 8) =
          c.loop-m.invariant.samples x y (record { column = omega (arith, inside.column, c.put_rect.ensures.sides.width); row = omega (arith, inside.row, c.put_rect.ensures.sides.height) }) in
          c.put_rect.ensures.samples x y ∙ chroma_more m width x y _ _ _ c.requires.some_column across here before lt;
    }
