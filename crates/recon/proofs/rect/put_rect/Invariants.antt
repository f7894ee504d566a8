use Rattle.std.proofs.Common.{◌≡◌, ℕ, cond, get_or}
use Rattle.vd_plane.specs.SampleArray.{array_of, covers, number_in, rect_at, sample}
use Rattle.recon.proofs.rect.put_rect.Given as goal

abbrev pub invariant-loop-row : goal.invariant-loop-row
invariant-loop-row l =
    let rect = rect_at l.x l.y l.width l.row in
    (h x' y' : ℕ) → sample (array_of l.stride h l.into) x' y' ≡ cond (covers rect x' y') (get_or l.from (number_in rect x' y') 0) (sample (array_of l.stride h l.initial.into) x' y')
