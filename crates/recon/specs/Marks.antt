-- What a macroblock tells the deblocking filter. H.264, 8.7 and 8.7.2.1.
use Rattle.std.specs.Prelude.{◌≡◌, ℕ, ◌<◌, not, Bool, true, false, if◌then◌else◌, List, slice_index, slice_index_or, unwrap_or, Option, ℤ, pos, ◌*ℤ◌}
use Rattle.std.specs.List.{list_any}
use Rattle.std.specs.Ordering.{int_eq}
use Rattle.cb_types.specs.declared.header.Header.{Header}
use Rattle.cb_types.specs.declared.mark.MbMark.{MbMark}
use Rattle.cb_types.specs.declared.macroblock.Macroblock.{Macroblock}
use Rattle.cb_types.specs.declared.macroblock.MbKind.{MbKind}
use Rattle.cb_types.specs.declared.macroblock.MbKind.TheVariants.{Skip, Pcm, Intra4, Intra16, Whole, Wide, Tall, Four, FourFirst}
use Rattle.motion.specs.Kinds.{is_intra}
use Rattle.motion.specs.Partitions.{partition_of}
use Rattle.recon.specs.References.{place_of}
use Rattle.recon.specs.Residuals.{levels_at}

abbrev pub is_pcm : MbKind → Bool
is_pcm Skip = false
is_pcm (Pcm samples) = true
is_pcm (Intra4 modes chroma pattern) = false
is_pcm (Intra16 mode chroma pattern) = false
is_pcm (Whole part pattern) = false
is_pcm (Wide parts pattern) = false
is_pcm (Tall parts pattern) = false
is_pcm (Four subs pattern) = false
is_pcm (FourFirst subs pattern) = false

-- a level other than 0
abbrev pub has_levels : List ℤ → Bool
has_levels levels = list_any (λ level. not (int_eq level (pos 0))) levels

-- The place of the reference that a block is predicted from, 0 of an intra macroblock.
abbrev pub place_in : List (Option ℕ) → MbKind → ℕ → ℕ
place_in list kind block = if is_intra kind then 0 else unwrap_or (place_of list (partition_of kind block).reference) 0

-- The mark of a macroblock with this QP, but for its vectors. A slice's number is the address of its first macroblock, which no other
-- slice of the picture has. The QP is the one that is kept through I_PCM; the filter takes 0 for I_PCM by the mark's own flag.
pub record IsMarkOf (header : Header) (list : List (Option ℕ)) (mb : Macroblock) (qp : ℕ) (mark : MbMark) : Type 0 where
  pub of_slice : mark.slice ≡ header.first_mb
  pub of_intra : mark.intra ≡ is_intra mb.kind
  pub of_pcm : mark.pcm ≡ is_pcm mb.kind
  pub of_qp : mark.qp ≡ qp
  pub of_idc : mark.idc ≡ header.deblock_idc
  pub of_alpha : mark.alpha ≡ pos 2 *ℤ header.alpha_half
  pub of_beta : mark.beta ≡ pos 2 *ℤ header.beta_half
  pub of_coded : (block : ℕ) → block < 16 → slice_index_or mark.coded block false ≡ has_levels (levels_at mb.luma block)
  pub of_pictures : (block : ℕ) → block < 16 → slice_index mark.pictures block ≡ place_in list mb.kind block
