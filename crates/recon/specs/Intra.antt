-- Intra predicted samples, from the constructed samples beside a macroblock and its own earlier ones. H.264, 8.3.
use Rattle.std.specs.Prelude.{ℕ, ◌/◌, ◌%◌, Bool, List, [], slice_index}
use Rattle.cb_types.specs.Blocks.{block_at}
use Rattle.intra_pred.specs.Available.{is_available16, is_available4, is_available_chroma}
use Rattle.intra_pred.specs.Chroma.{sample_chroma}
use Rattle.intra_pred.specs.Luma16.{sample16}
use Rattle.intra_pred.specs.Luma4.{sample4}
use Rattle.recon.specs.Sides.{sides_of}
use Rattle.recon.specs.declared.edges.ChromaEdges.{ChromaEdges}
use Rattle.recon.specs.declared.edges.Edges.{Edges}

-- the sample of an Intra4x4 macroblock in column x of row y, from the modes of its blocks, its edges and its own samples
unfoldable pub intra4_sample : Edges → List ℕ → List ℕ → ℕ → ℕ → ℕ
intra4_sample edges modes luma x y =
    let block = block_at (x / 4) (y / 4) in
    let sides = sides_of edges luma block in
    sample4 (slice_index modes block) sides.left sides.top sides.right sides.corner (x % 4) (y % 4)

-- What the mode of a block needs is there. Which samples the macroblock itself has is no matter for that.
abbrev pub has_sides : Edges → List ℕ → ℕ → Bool
has_sides edges modes block =
    let sides = sides_of edges [] block in
    is_available4 (slice_index modes block) sides.left sides.top sides.corner

-- the same of Intra16x16
abbrev pub intra16_sample : Edges → ℕ → ℕ → ℕ → ℕ
intra16_sample edges mode x y = sample16 mode edges.left edges.top edges.corner x y

abbrev pub has_edges : Edges → ℕ → Bool
has_edges edges mode = is_available16 mode edges.left edges.top edges.corner

-- and of chroma
abbrev pub intra_chroma_sample : ChromaEdges → ℕ → ℕ → ℕ → ℕ
intra_chroma_sample edges mode x y = sample_chroma mode edges.left edges.top edges.corner x y

abbrev pub has_chroma_edges : ChromaEdges → ℕ → Bool
has_chroma_edges edges mode = is_available_chroma mode edges.left edges.top edges.corner
