-- Boundary filtering strength, bS (H.264, 8.7.2.1), for frames without fields.
use Rattle.std.specs.Prelude.{ℕ, ◌-ℤ◌, unsigned_abs, Bool, false, not, ◌||◌, ◌==◌, nat_le, if◌then◌else◌, pos, slice_index}
use Rattle.std.specs.List.{slice_index_or}
use Rattle.cb_types.specs.declared.macroblock.Vector.{Vector}
use Rattle.cb_types.specs.declared.mark.MbMark.{MbMark}

abbrev pub no_motion : Vector
no_motion = record { x = pos 0; y = pos 0 }

-- the 4x4 luma block of this number has levels
abbrev pub is_coded : MbMark → ℕ → Bool
is_coded mark block = slice_index_or mark.coded block false

abbrev pub picture_of : MbMark → ℕ → ℕ
picture_of mark block = slice_index mark.pictures block

abbrev pub vector_of : MbMark → ℕ → Vector
vector_of mark block = slice_index_or mark.vectors block no_motion

-- a component differs by a whole luma sample or more
abbrev pub are_vectors_apart : Vector → Vector → Bool
are_vectors_apart a b = nat_le 4 (unsigned_abs (a.x -ℤ b.x)) || nat_le 4 (unsigned_abs (a.y -ℤ b.y))

-- the blocks are predicted from different pictures, or from different places
abbrev pub is_moved_apart : MbMark → ℕ → MbMark → ℕ → Bool
is_moved_apart p p_block q q_block =
    not (picture_of p p_block == picture_of q q_block) || are_vectors_apart (vector_of p p_block) (vector_of q q_block)

-- the strength between block p_block of macroblock p and block q_block of macroblock q, at an edge of a macroblock or inside one
unfoldable pub strength : Bool → MbMark → ℕ → MbMark → ℕ → ℕ
strength is_macroblock_edge p p_block q q_block =
    if p.intra || q.intra then (if is_macroblock_edge then 4 else 3)
    else (if is_coded p p_block || is_coded q q_block then 2
    else (if is_moved_apart p p_block q q_block then 1 else 0))
