use Rattle.std.proofs.Common.{◌≡◌, ℕ, ◌+◌, ◌-◌, ◌*◌, ◌<◌, ◌≤◌, length, take, drop, refl, ap, ap₂, List, ◌∙◌, arith}
use Rattle.std.proofs.lemmas.List.{length-take-le, length-drop}
use Rattle.mixer.specs.Mixed.{pixel_at}
use Rattle.overlay_files.specs.Blended.{over}
use Rattle.overlay_files.proofs.Rows.{all_blended, blended_more, part_fits, row_inside}
use Rattle.overlay_files.proofs.blending.blend.Goals as goal

pub slice_bounds-blend_row-end-in-loop-row : goal.slice_bounds-blend_row-end-in-loop-row
slice_bounds-blend_row-end-in-loop-row c =
    let within : c.args.x + c.common-columns.result ≤ c.args.width = c.common-columns.ensures.within (omega (arith, c.if-x-width.false)) in
    let inside : c.args.y + c.loop-row.row < c.args.height = row_inside _ _ _ _ c.loop-row-test.true c.common-rows.ensures.within c.common-rows.ensures.empty in
    part_fits c.args.width c.args.height c.args.y c.loop-row.row c.args.x c.common-columns.result (length c.loop-row.pixels) (omega (arith, c.requires.count)) within inside

pub loop-row-preserved : goal.loop-row-preserved
loop-row-preserved c =
    let bitmap = c.args.bitmap.now in
    let w = c.args.width in
    let row : ℕ = c.loop-row.row in
    let columns : ℕ = c.common-columns.result in
    let start : ℕ = 4 * ((c.args.y + row) * w + c.args.x) in
    let from : ℕ = row * (4 * c.width.result) in
    let k : ℕ = start + 4 * columns - start in
    let cut : from + 4 * columns - from ≡ k = omega arith in
    let bw : c.width.result ≡ bitmap.width = c.width.ensures.width in
    let within : c.args.x + columns ≤ w = c.common-columns.ensures.within (omega (arith, c.if-x-width.false)) in
    let inside : c.args.y + row < c.args.height = row_inside _ _ _ _ c.loop-row-test.true c.common-rows.ensures.within c.common-rows.ensures.empty in
    let fits : start + 4 * columns ≤ length c.args.pixels.now = part_fits w c.args.height c.args.y row c.args.x columns (length c.args.pixels.now) c.requires.count within inside in
    let room : start + 4 * columns ≤ length c.loop-row.pixels = omega (arith, fits) in
    blended_more w c.args.height bitmap.width c.args.x c.args.y row columns start k from bitmap.bytes c.args.pixels.now c.loop-row.pixels c.blend_row.new.lower
    (omega arith) (omega arith)
    (record {
      start_is = refl;
      within = within;
      few = omega (arith, c.common-columns.ensures.few, c.width-2.ensures.width);
      all = λ i lt column. c.common-columns.ensures.all i (omega (arith, lt, c.width-2.ensures.width)) column;
      room = room;
    })
    (ap (λ v. row * (4 * v)) bw)
    (length-take-le k (drop start c.loop-row.pixels) (omega (arith, room, length-drop start c.loop-row.pixels)))
    (λ n lt. c.blend_row.ensures n lt ∙ ap (λ (u : List ℕ). over (pixel_at u n) (pixel_at (take k (drop start c.loop-row.pixels)) n)) (ap₂ (λ (v : ℕ) (l : List ℕ). take v (drop from l)) cut c.bytes.ensures.bytes))
    c.loop-row.invariant

pub returns : goal.returns
returns c =
    let bitmap = c.args.bitmap.now in
    let same : c.loop-row.row ≡ c.common-rows.result = omega (arith, c.loop-row-test.false, c.loop-row.auto.row-end) in
    all_blended c.args.width c.args.height bitmap.width bitmap.height c.loop-row.row c.args.x c.args.y bitmap.bytes c.args.pixels.now c.loop-row.pixels
    (omega (arith, same, c.common-rows.ensures.few, c.height.ensures.height))
    (λ j lt inside. omega (arith, same, c.common-rows.ensures.all j (omega (arith, lt, c.height.ensures.height)) inside))
    c.loop-row.invariant
