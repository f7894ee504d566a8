use Rattle.std.proofs.Common.{◌≡◌, ◌∙◌, [], ap, arith, false, length, take}
use Rattle.std.proofs.Math.Seq.{take-length}
use Rattle.std.proofs.lemmas.List.{length-set}
use Rattle.std.proofs.lemmas.Result.{err_from_is_err_and}
use Rattle.cb_types.specs.declared.picture_info.Reference.{Reference}
use Rattle.plain_driver.specs.States.{state_of}
use Rattle.plain_driver.proofs.RenderLooks.{looked_all, looked_err, looked_more}
use Rattle.plain_driver.proofs.driver.Plain.references.Goals as goal

abbrev none : Reference
none = record { surface = 0; is_long_term = false; top_is_reference = false; bottom_is_reference = false; field_order_cnt = []; frame_idx = 0 }

pub loop-place-preserved : goal.loop-place-preserved
loop-place-preserved c = (
  looked_more (state_of c.args.self.now) c.args.device c.args.entries.now c.loop-place.place none (omega arith) c.loop-place.found c.loop-place.invariant.0 c.in_ok-one.one (omega (arith, c.loop-place.invariant.1)) c.in_ok-one.ensures,
  omega (arith, c.loop-place.invariant.1, length-set c.loop-place.found c.loop-place.place c.in_ok-one.one),
)

pub returns-in_err-one : goal.returns-in_err-one
returns-in_err-one c =
    let p = err_from_is_err_and c.from_residual.result c.from_residual.ensures.1 in
    rw (p.1, p.2) (looked_err (state_of c.args.self.now) c.args.device c.args.entries.now c.loop-place.place none (omega arith) c.loop-place.found c.loop-place.invariant.0 c.in_err-one.field-0.0 c.in_err-one.ensures)

pub returns : goal.returns
returns c = looked_all (state_of c.args.self.now) c.args.device c.args.entries.now c.loop-place.place c.loop-place.found (omega arith) c.loop-place.invariant.0 (let all : c.loop-place.place ≡ length c.loop-place.found = omega (arith, c.loop-place.invariant.1) in ap (λ n. take n c.loop-place.found) all ∙ take-length c.loop-place.found)
