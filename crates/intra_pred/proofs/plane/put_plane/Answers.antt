use Rattle.std.proofs.Common.{◌≡◌, ℕ, ℤ, ◌+◌, ◌-◌, ◌*◌, ◌^◌, ◌<◌, ◌≤◌, List, length, take, get_or, pos, to_z, w32, rules, subst, sym, ◌∙◌, arith}
use Rattle.std.proofs.lemmas.Int.{ints}
use Rattle.std.proofs.lemmas.List.{get_or-take, length-take-le}
use Rattle.std.proofs.lemmas.Nat.{mul-le}
use Rattle.intra_pred.specs.Plane.{plane_at, step}
use Rattle.intra_pred.proofs.Places.{PutsRow, row_more}
use Rattle.intra_pred.proofs.Slopes.{IsWithin, first_more, first_within, next_fits, plane_sample, within_step}
use Rattle.intra_pred.proofs.plane.put_plane.Goals as goal

pub slope-row-requires-clause-first_low : goal.slope-row-requires-clause-first_low
slope-row-requires-clause-first_low c =
    let inv = c.loop-y.invariant in
    let first : IsWithin (2 ^ 18 + 2 ^ 14 * c.loop-y.y) (to_z w32 c.loop-y.first-bits) = record { least = inv.1; most = inv.2 } in
    omega (arith, ints)

pub put_row-requires : goal.put_row-requires
put_row-requires c =
    let width = 2 * c.args.half in
    let count : length c.slope-row.result ≡ 16 = search rules in
    let row : length (take width c.slope-row.result) ≡ width = length-take-le width c.slope-row.result (omega arith) in
    subst (λ (n : ℕ). (c.loop-y.y + 1) * n ≤ length c.loop-y.block) (sym row) (omega (arith, mul-le (c.loop-y.y + 1) width width width (omega arith) (omega arith)))

pub overflow_add-first : goal.overflow_add-first
overflow_add-first c =
    let inv = c.loop-y.invariant in
    let first : IsWithin (2 ^ 18 + 2 ^ 14 * c.loop-y.y) (to_z w32 c.loop-y.first-bits) = record { least = inv.1; most = inv.2 } in
    next_fits _ _ record { least = omega (arith, ints); most = omega (arith, ints) } (within_step _ c.step-down.ensures.small)

pub loop-y-preserved : goal.loop-y-preserved
loop-y-preserved c =
    let inv = c.loop-y.invariant in
    let half = c.args.half in
    let width = 2 * half in
    let y = c.loop-y.y in
    let v : ℤ = to_z w32 c.loop-y.first-bits in
    let ends : ℤ = pos (16 * (get_or c.args.left.now (2 * half - 1) 0 + get_or c.args.top.now (2 * half - 1) 0)) in
    let below : y < 16 = omega arith in
    let first : IsWithin (2 ^ 18 + 2 ^ 14 * y) v = record { least = inv.1; most = inv.2 } in
    let wide : IsWithin (2 ^ 20) v = record { least = omega (arith, ints); most = omega (arith, ints) } in
    let across = within_step _ c.step-across.ensures.small in
    let down = within_step _ c.step-down.ensures.small in
    let more = first_within y v c.step-down.result below first down in
    let count : length c.slope-row.result ≡ 16 = search rules in
    let row : List ℕ = take width c.slope-row.result in
    let long : length row ≡ width = length-take-le width c.slope-row.result (omega arith) in
    let put : PutsRow width y c.put_row.new.block c.loop-y.block row = subst (λ (n : ℕ). PutsRow n y c.put_row.new.block c.loop-y.block row) long c.put_row.ensures in
    let value : ℕ → ℕ → ℕ = plane_at half c.args.factor c.args.left.now c.args.top.now c.args.corner in
    let now : (x : ℕ) → x < width → get_or row x 0 ≡ value x y =
    λ x h.
    get_or-take width c.slope-row.result x 0 h ∙ (c.slope-row.ensures x (omega arith) ∙ plane_sample half c.args.factor c.args.left.now c.args.top.now c.args.corner v c.step-across.result x y across c.step-across.ensures.value inv.0) in
    let rows = row_more width y 0 value c.put_row.new.block c.loop-y.block row put (λ x y' hx low hy. inv.3 x y' hx hy) now in (
      first_more half ends (step half c.args.factor c.args.top.now c.args.corner) (step half c.args.factor c.args.left.now c.args.corner) v c.step-down.result y wide down inv.0 c.step-down.ensures.value,
      more.least,
      more.most,
      λ x y' hx hy. rows x y' hx (omega arith) hy,
    )

pub returns : goal.returns
returns c = λ x y hx hy. c.loop-y.invariant.3 x y hx (omega arith)
