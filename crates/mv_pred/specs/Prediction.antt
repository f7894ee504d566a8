-- H.264, 8.4.1.1 and 8.4.1.3: the prediction of a motion vector from the neighbours A (left), B (above), C (above right) and D
-- (above left) of the partition.
use Rattle.std.specs.Prelude.{ℕ, ◌&&◌, ◌||◌, not, ◌==◌, if◌then◌else◌, ℤ}
use Rattle.std.specs.Int.{int_max, int_min}
use Rattle.cb_types.specs.declared.macroblock.Vector.{Vector}
use Rattle.mv_pred.specs.declared.near.Near.{Near}
use Rattle.mv_pred.specs.Neighbours.{has_reference, is_missing, is_still, no_motion, vector_of}

-- C, or D where C isn't available
abbrev pub corner : Near → Near → Near
corner c d = if is_missing c then d else c

-- the one between the others
abbrev pub median : ℤ → ℤ → ℤ → ℤ
median x y z = int_max (int_min x y) (int_min (int_max x y) z)

abbrev pub median_vector : Vector → Vector → Vector → Vector
median_vector a b c = record { x = median a.x b.x c.x; y = median a.y b.y c.y }

-- the vector of the one neighbour that alone has the reference, else the median of all three
abbrev pub by_reference : ℕ → Near → Near → Near → Vector
by_reference entry a b c =
    if has_reference a entry && not (has_reference b entry) && not (has_reference c entry) then vector_of a
    else (if has_reference b entry && not (has_reference a entry) && not (has_reference c entry) then vector_of b
    else (if has_reference c entry && not (has_reference a entry) && not (has_reference b entry) then vector_of c
    else median_vector (vector_of a) (vector_of b) (vector_of c)))

-- 8.4.1.3.1, median luma motion vector prediction: where B and C aren't available and A is, both are as A
abbrev pub median_prediction : ℕ → Near → Near → Near → Vector
median_prediction entry a b c =
    if is_missing b && is_missing c && not (is_missing a) then by_reference entry a a a else by_reference entry a b c

-- 8.4.1.3, 16x8 and 8x16: the vector of the neighbour on the partition's own side, where that has the reference
abbrev pub directional : ℕ → Near → Vector → Vector
directional entry side other = if has_reference side entry then vector_of side else other

-- The shapes are 0 for the median alone, 1 for 16x8 and 2 for 8x16, whose parts are 0 and 1: the upper one looks above and the
-- lower one left, the left one left and the right one above right.
unfoldable pub predicted : ℕ → ℕ → ℕ → Near → Near → Near → Near → Vector
predicted shape index entry a b c d =
    let median = median_prediction entry a b (corner c d) in
    if shape == 1 then (if index == 0 then directional entry b median else directional entry a median)
    else (if shape == 2 then (if index == 0 then directional entry a median else directional entry (corner c d) median)
    else median)

-- 8.4.1.1, P_Skip: 0 where A or B isn't available or stands still, else the median prediction for the first entry
unfoldable pub skipped : Near → Near → Near → Near → Vector
skipped a b c d =
    if is_missing a || is_missing b || is_still a || is_still b then no_motion else median_prediction 0 a b (corner c d)
