-- Behind those before it a macroblock has a mark and a tile that meet its equations, or it can't be constructed.
use Rattle.std.proofs.Common.{◌≡◌, ℕ, ◌⊎◌, false, not, inl, inr, List, length, refl}
use Rattle.std.specs.Prelude.{pos, ◌*ℤ◌}
use Rattle.std.proofs.lemmas.Bool.{both_ways, cases_Bool, not-false, not-true}
use Rattle.cb_types.specs.declared.macroblock.MbKind.{MbKind}
use Rattle.cb_types.specs.declared.macroblock.MbKind.TheVariants.{Skip, Pcm, Intra4, Intra16, Whole, Wide, Tall, Four, FourFirst}
use Rattle.cb_types.specs.declared.macroblock.Vector.{Vector}
use Rattle.cb_types.specs.declared.mark.MbMark.{MbMark}
use Rattle.motion.specs.Kinds.{is_intra}
use Rattle.motion.specs.Partitions.{partition_of}
use Rattle.motion.specs.Vectors.{AreVectors}
use Rattle.motion.specs.declared.border.Border.{Border}
use Rattle.vd_plane.specs.declared.tile.Tile.{Tile}
use Rattle.recon.specs.Edges.{cb_edges, cr_edges, luma_edges}
use Rattle.recon.specs.Intra.{has_chroma_edges, has_edges, has_sides}
use Rattle.recon.specs.Laws.{IsWholeMark, IsWholeTile}
use Rattle.recon.specs.Marks.{IsMarkOf, has_levels, is_pcm, place_in}
use Rattle.recon.specs.Rebuilt.{HasPictures, HasSamples, IsTile, LacksPicture, LacksSamples, Stops, border_at, cb_sample, cr_sample, luma_qp_at, modes_at, usable_at}
use Rattle.recon.specs.References.{is_lacking}
use Rattle.recon.specs.Residuals.{levels_at}
use Rattle.recon.specs.Slice.{Slice, kind_at, macroblock}
use Rattle.recon.proofs.KeptLemmas.{IsNew}
use Rattle.render_outcomes.proofs.LumaExists.{luma_exists}
use Rattle.render_outcomes.proofs.Settled.{all_or_first}
use Rattle.render_outcomes.proofs.Tables.{length-table, length-values, table, table_in_rows, values, values_at}
use Rattle.render_outcomes.proofs.VectorsExist.{length-solved, solved, vectors_or_leave}

module _ (slice : Slice) (number : ℕ) where
  -- the mark with given vectors
  mark_with : List Vector → MbMark
  mark_with vectors = record {
    slice = slice.header.first_mb;
    intra = is_intra (kind_at slice number);
    pcm = is_pcm (kind_at slice number);
    qp = luma_qp_at slice number;
    idc = slice.header.deblock_idc;
    alpha = pos 2 *ℤ slice.header.alpha_half;
    beta = pos 2 *ℤ slice.header.beta_half;
    coded = values (λ block. has_levels (levels_at (macroblock slice number).luma block)) 16;
    pictures = values (λ block. place_in slice.list (kind_at slice number) block) 16;
    vectors = vectors;
  }

  is_mark : (vectors : List Vector) → IsMarkOf slice.header slice.list (macroblock slice number) (luma_qp_at slice number) (mark_with vectors)
  unfolding mark_with
  is_mark vectors = record {
    of_slice = refl;
    of_intra = refl;
    of_pcm = refl;
    of_qp = refl;
    of_idc = refl;
    of_alpha = refl;
    of_beta = refl;
    of_coded = λ block lt. values_at (λ b. has_levels (levels_at (macroblock slice number).luma b)) 16 block false lt;
    of_pictures = λ block lt. values_at (λ b. place_in slice.list (kind_at slice number) b) 16 block 0 lt;
  }

  is_whole_mark : (vectors : List Vector) → length vectors ≡ 16 → IsWholeMark (mark_with vectors)
  unfolding mark_with
  is_whole_mark vectors count = record {
    coded = length-values (λ block. has_levels (levels_at (macroblock slice number).luma block)) 16;
    pictures = length-values (λ block. place_in slice.list (kind_at slice number) block) 16;
    vectors = count;
  }

  -- the tile with given vectors, beside earlier tiles
  record HasTile (vectors : List Vector) (tiles : List Tile) (tile : Tile) : Type 0 where
    whole : IsWholeTile tile
    is : IsTile slice number vectors tiles tile

  tile_exists : (vectors : List Vector) (tiles : List Tile) → (tile : Tile) × HasTile vectors tiles tile
  tile_exists vectors tiles =
      let usable = usable_at slice number in
      let kind : MbKind = kind_at slice number in
      let luma = luma_exists slice number vectors (luma_edges tiles usable) kind in
      let cb = λ (x y : ℕ). cb_sample slice number vectors (cb_edges tiles usable) kind x y in
      let cr = λ (x y : ℕ). cr_sample slice number vectors (cr_edges tiles usable) kind x y in (
        record { y = luma.0; cb = table cb 8 8; cr = table cr 8 8 },
        record {
          whole = record { y = luma.1.count; cb = length-table cb 8 8; cr = length-table cr 8 8 };
          is = record {
            y = luma.1.each;
            cb = λ x y across down. table_in_rows cb 8 8 x y across down;
            cr = λ x y across down. table_in_rows cr 8 8 x y across down;
          };
        },
      )

  pictures_or_lack : (kind : MbKind) → HasPictures slice kind ⊎ LacksPicture slice kind
  pictures_or_lack kind = elim (cases_Bool (is_intra kind)) [
    | inl intra ↦ inl (λ inter. absurd (both_ways (is_intra kind) inter intra))
    | inr inter ↦ elim (all_or_first (λ block. not (is_lacking slice.info slice.list slice.pictures (partition_of kind block).reference)) 16) [
      | inl all ↦ inl (λ inter block lt. not-true _ (all block lt))
      | inr first ↦ inr (record { is_inter = inter; block = first.0; inside = first.1.within; lacking = not-false _ first.1.failed })
    ]
  ]

  samples_or_lack : (tiles : List Tile) (kind : MbKind) → HasSamples slice number tiles kind ⊎ LacksSamples slice number tiles kind
  samples_or_lack tiles Skip = inl tt
  samples_or_lack tiles (Pcm samples) = inl tt
  samples_or_lack tiles (Intra4 modes chroma pattern) = elim (all_or_first (λ block. has_sides (luma_edges tiles (usable_at slice number)) (modes_at slice number) block) 16) [
    | inl all ↦ elim (cases_Bool (has_chroma_edges (cb_edges tiles (usable_at slice number)) chroma)) [
      | inl has ↦ inl (all, has)
      | inr lacks ↦ inr (inr lacks)
    ]
    | inr first ↦ inr (inl (first.0, first.1.within, first.1.failed))
  ]
  samples_or_lack tiles (Intra16 mode chroma pattern) = elim (cases_Bool (has_edges (luma_edges tiles (usable_at slice number)) mode)) [
    | inl has ↦ elim (cases_Bool (has_chroma_edges (cb_edges tiles (usable_at slice number)) chroma)) [
      | inl also ↦ inl (has, also)
      | inr lacks ↦ inr (inr lacks)
    ]
    | inr lacks ↦ inr (inl lacks)
  ]
  samples_or_lack tiles (Whole part pattern) = inl tt
  samples_or_lack tiles (Wide parts pattern) = inl tt
  samples_or_lack tiles (Tall parts pattern) = inl tt
  samples_or_lack tiles (Four subs pattern) = inl tt
  samples_or_lack tiles (FourFirst subs pattern) = inl tt

  -- a mark and a tile behind those before
  pub record IsNext (marks : List MbMark) (tiles : List Tile) (mark : MbMark) (tile : Tile) : Type 0 where
    pub of_mark : IsWholeMark mark
    pub of_tile : IsWholeTile tile
    pub new : IsNew slice marks tiles number mark tile

  next_with : (marks : List MbMark) (tiles : List Tile) (vectors : List Vector) → length vectors ≡ 16 → AreVectors (border_at slice marks number) (kind_at slice number) 16 vectors
      → HasPictures slice (kind_at slice number) → HasSamples slice number tiles (kind_at slice number) → (mark : MbMark) × (tile : Tile) × IsNext marks tiles mark tile
  unfolding mark_with
  next_with marks tiles vectors count are pictures samples =
      let tile = tile_exists vectors tiles in (
        mark_with vectors,
        tile.0,
        record {
          of_mark = is_whole_mark vectors count;
          of_tile = tile.1.whole;
          new = record { of_mark = is_mark vectors; vectors = are; pictures = pictures; samples = samples; of_tile = tile.1.is };
        },
      )

  pub next_or_stops : (marks : List MbMark) (tiles : List Tile) → ((mark : MbMark) × (tile : Tile) × IsNext marks tiles mark tile) ⊎ Stops slice marks tiles number
  next_or_stops marks tiles =
      let border : Border = border_at slice marks number in
      let kind : MbKind = kind_at slice number in
      elim (vectors_or_leave border kind) [
        | inr leaves ↦ inr (inl leaves)
        | inl are ↦ elim (pictures_or_lack kind) [
          | inr lacks ↦ inr (inr (inl lacks))
          | inl pictures ↦ elim (samples_or_lack tiles kind) [
            | inr lacks ↦ inr (inr (inr lacks))
            | inl samples ↦ inl (next_with marks tiles (solved border kind) (length-solved border kind) are pictures samples)
          ]
        ]
      ]
