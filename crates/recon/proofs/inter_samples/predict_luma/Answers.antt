use Rattle.std.proofs.Common.{◌∙◌, ap, pos, ◌+ℤ◌, ◌+◌, ◌*◌, FitsSigned, w32, w64, arith, rules}
use Rattle.std.proofs.lemmas.Int.{to_z-of_z}
use Rattle.std.proofs.lemmas.Nat.{mul-add-lt}
use Rattle.recon.proofs.Parts.{front_of}
use Rattle.recon.proofs.InterPlaces.{luma_laid}
use Rattle.recon.proofs.inter_samples.predict_luma.Goals as goal

pub returns : goal.returns
returns c =
    let fits_x : FitsSigned w32 c.args.vector.x = search rules in
    let fits_y : FitsSigned w32 c.args.vector.y = search rules in
    let is_x = c.start-x.ensures.start ∙ ap (λ z. pos (64 * c.args.place.column + 16 * c.args.partition.now.column) +ℤ z) (to_z-of_z w32 c.args.vector.x fits_x) in
    let is_y = c.start-y.ensures.start ∙ ap (λ z. pos (64 * c.args.place.row + 16 * c.args.partition.now.row) +ℤ z) (to_z-of_z w32 c.args.vector.y fits_y) in
    let fits_start_x : FitsSigned w64 c.start-x.result = search rules in
    let fits_start_y : FitsSigned w64 c.start-y.result = search rules in
    let count = c.fill_luma.ensures.count in
    λ x y across down.
    c.put_rect.ensures x y across ∙ luma_laid c.args.plane.now c.args.denom c.args.weight c.args.vector c.args.place.column c.args.place.row c.args.partition.now.column c.args.partition.now.row c.args.partition.now.width c.args.partition.now.height
    c.start-x.result c.start-y.result _ _ x y is_x is_y
    (λ i j p q.
    let lt = mul-add-lt j (4 * c.args.partition.now.width) i (4 * c.args.partition.now.height) q p in
    front_of _ (j * (4 * c.args.partition.now.width) + i) c.fill_luma.new.out _ (omega (arith, lt)) (omega (arith, lt))
    ∙ rw (to_z-of_z w64 c.start-x.result fits_start_x, to_z-of_z w64 c.start-y.result fits_start_y) at (c.fill_luma.ensures.samples i j p q))
