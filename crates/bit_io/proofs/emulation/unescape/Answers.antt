use Rattle.std.proofs.Common.{◌≡◌, ◌+◌, ◌-◌, ◌<◌, arith, length, inl, inr, ap, sym, subst, ◌∙◌}
use Rattle.std.proofs.Common.{Err}
use Rattle.std.proofs.lemmas.Result.{err_from_is_err_and}
use Rattle.bit_io.specs.declared.emulation.UnescapeFault.TheVariants.{Forbidden}
use Rattle.bit_io.specs.Payload.{IsAllowedBefore, IsFirstForbidden}
use Rattle.bit_io.proofs.Allowed.{allowed_prevention, allowed_run, first_here, first_next}
use Rattle.bit_io.proofs.Kept.{copied_run, kept, kept_less}
use Rattle.bit_io.proofs.Zeros.{before_end, below_end}
use Rattle.bit_io.proofs.emulation.unescape.Goals as goal

pub returns-then-at-unit-clause-payload : goal.returns-then-at-unit-clause-payload
returns-then-at-unit-clause-payload c =
    copied_run c.args.unit.now c.loop-rbsp.start c.next_suspect-at.result _ _ c.loop-rbsp.invariant.1 c.in_ok-extend_from_slice.ensures.items c.next_suspect-at.ensures.bounds c.next_suspect-at.ensures.clear
    ∙ ap (kept c.args.unit.now) c.if-at-unit.true

pub returns-then-at-unit-clause-allowed : goal.returns-then-at-unit-clause-allowed
returns-then-at-unit-clause-allowed c =
    let at = c.next_suspect-at in
    subst (IsAllowedBefore c.args.unit.now) c.if-at-unit.true
    (allowed_run c.args.unit.now c.loop-rbsp.start at.result c.loop-rbsp.invariant.2 at.ensures.clear c.loop-rbsp.invariant.3 at.ensures.bounds.1)

pub returns-in_err-check_suspect-clause-forbidden : goal.returns-in_err-check_suspect-clause-forbidden
returns-in_err-check_suspect-clause-forbidden c = λ bad h.
    let p = err_from_is_err_and c.from_residual-in_err-check_suspect.result c.from_residual-in_err-check_suspect.ensures.1 in
    let told : c.in_err-check_suspect.field-0.0 ≡ Forbidden bad = cc in
    let at = c.next_suspect-at in
    let unit = c.args.unit.now in
    let allowed = allowed_run unit c.loop-rbsp.start at.result c.loop-rbsp.invariant.2 at.ensures.clear c.loop-rbsp.invariant.3 at.ensures.bounds.1 in
    let within : at.result < length unit = before_end at.result (length unit) at.ensures.bounds.1 c.if-at-unit.false in
    let zeros = (at.ensures.found within).0 in
    elim (c.in_err-check_suspect.ensures.forbidden bad (ap Err told)) [
      | inl w ↦ subst (IsFirstForbidden unit) (sym w.0) (first_here unit at.result allowed within zeros w.1)
      | inr w ↦ subst (IsFirstForbidden unit) (sym w.0) (first_next unit at.result allowed w.1 w.2 w.3)
    ]

pub loop-rbsp-preserved : goal.loop-rbsp-preserved
loop-rbsp-preserved c =
    let at = c.next_suspect-at in
    let unit = c.args.unit.now in
    let allowed = allowed_run unit c.loop-rbsp.start at.result c.loop-rbsp.invariant.2 at.ensures.clear c.loop-rbsp.invariant.3 at.ensures.bounds.1 in
    let copied = copied_run unit c.loop-rbsp.start at.result _ _ c.loop-rbsp.invariant.1 c.in_ok-extend_from_slice.ensures.items at.ensures.bounds at.ensures.clear in
    let ok = c.in_ok-check_suspect.ensures.ok in
    let back : (at.result + 1) - 1 ≡ at.result = omega arith in
    (below_end at.result (length unit) at.ensures.bounds.1 c.if-at-unit.false, copied ∙ sym (kept_less unit at.result ok.0), allowed_prevention unit at.result allowed ok.0, λ _ within _. ok.1 within)
