-- H.264, 8.4.1.3.2: what neighbouring partitions tell. One that isn't available or is intra has no reference, and vector 0.
use Rattle.std.specs.Prelude.{ℕ, ◌==◌, Bool, true, false, ◌&&◌, pos}
use Rattle.std.specs.Ordering.{int_eq}
use Rattle.cb_types.specs.declared.macroblock.Vector.{Vector}
use Rattle.mv_pred.specs.declared.near.Near.{Near}
use Rattle.mv_pred.specs.declared.near.Near.TheVariants.{Missing, Intra, Inter}

abbrev pub is_missing : Near → Bool
is_missing Missing = true
is_missing Intra = false
is_missing (Inter reference vector) = false

-- it refers to this entry of the list
abbrev pub has_reference : Near → ℕ → Bool
has_reference Missing entry = false
has_reference Intra entry = false
has_reference (Inter reference vector) entry = reference == entry

abbrev pub no_motion : Vector
no_motion = record { x = pos 0; y = pos 0 }

abbrev pub vector_of : Near → Vector
vector_of Missing = no_motion
vector_of Intra = no_motion
vector_of (Inter reference vector) = vector

-- it refers to the first entry, and its vector is 0
abbrev pub is_still : Near → Bool
is_still near = has_reference near 0 && int_eq (vector_of near).x (pos 0) && int_eq (vector_of near).y (pos 0)
