use Rattle.std.proofs.Common.{rules, ◌≡◌, Bool, not, Ok, Err, subst, sym, ◌∙◌}
use Rattle.driver_model.specs.Objects as model
use Rattle.driver_model.specs.Presented.{is_idle_at}
use Rattle.driver_model.specs.States.{is_out}
use Rattle.driver_model.specs.Wishes.{wish_holds}
use Rattle.driver_model.specs.declared.numbers.TheConstants as number
use Rattle.driver_core.proofs.Handles.{called_within}
use Rattle.driver_core.proofs.ModelKinds.{output_kind, output_other, video_kind, video_other}
use Rattle.driver_core.proofs.Standing.{output_called}
use Rattle.driver_core.proofs.Wishing.{asked_err, asked_ok, number_below}
use Rattle.driver_core.proofs.driver.Core.wish_holds.Goals as goal

-- OutputIdle
pub returns-in_err-index-in-OutputIdle : goal.returns-in_err-index-in-OutputIdle
returns-in_err-index-in-OutputIdle c d stands =
    let result : c.from_residual.result ≡ Err c.in_err-index-in-OutputIdle.field-0.0 = search rules in
    subst (λ w. c.from_residual.result ≡ wish_holds d c.args.arg w) (sym c.in-OutputIdle.is)
    (result ∙ asked_err model.as_output number.OUTPUT_SURFACE output_kind output_other c.args.self.now c.args.arg c.in-OutputIdle.surface is_idle_at c.in_err-index-in-OutputIdle.field-0.0 c.in_err-index-in-OutputIdle.ensures d stands)

pub is_idle-requires : goal.is_idle-requires
is_idle-requires c = output_called c.args.self.now c.in-OutputIdle.surface c.in_ok-index-in-OutputIdle.index c.in_ok-index-in-OutputIdle.ensures.0

pub returns-in_ok-index-in-OutputIdle : goal.returns-in_ok-index-in-OutputIdle
returns-in_ok-index-in-OutputIdle c d stands =
    let holds : Bool = c.is_idle.result in
    subst (λ w. Ok holds ≡ wish_holds d c.args.arg w) (sym c.in-OutputIdle.is)
    (asked_ok model.as_output number.OUTPUT_SURFACE output_kind output_other c.args.self.now c.args.arg c.in-OutputIdle.surface is_idle_at c.in_ok-index-in-OutputIdle.index c.in_ok-index-in-OutputIdle.ensures holds c.is_idle.ensures d stands)

-- VideoHome
pub returns-in_err-index-in-VideoHome : goal.returns-in_err-index-in-VideoHome
returns-in_err-index-in-VideoHome c d stands =
    let result : c.from_residual-in_err-index-in-VideoHome.result ≡ Err c.in_err-index-in-VideoHome.field-0.0 = search rules in
    subst (λ w. c.from_residual-in_err-index-in-VideoHome.result ≡ wish_holds d c.args.arg w) (sym c.in-VideoHome.is)
    (result ∙ asked_err model.as_video number.VIDEO_SURFACE video_kind video_other c.args.self.now c.args.arg c.in-VideoHome.surface (λ d place. not (is_out d place)) c.in_err-index-in-VideoHome.field-0.0 c.in_err-index-in-VideoHome.ensures d stands)

pub is_home-requires : goal.is_home-requires
is_home-requires c = called_within c.args.self.now number.VIDEO_SURFACE c.in-VideoHome.surface c.in_ok-index-in-VideoHome.index c.in_ok-index-in-VideoHome.ensures.0

pub returns-in_ok-index-in-VideoHome : goal.returns-in_ok-index-in-VideoHome
returns-in_ok-index-in-VideoHome c d stands =
    let holds : Bool = c.is_home.result in
    subst (λ w. Ok holds ≡ wish_holds d c.args.arg w) (sym c.in-VideoHome.is)
    (asked_ok model.as_video number.VIDEO_SURFACE video_kind video_other c.args.self.now c.args.arg c.in-VideoHome.surface (λ d place. not (is_out d place)) c.in_ok-index-in-VideoHome.index c.in_ok-index-in-VideoHome.ensures holds c.is_home.ensures d stands)

-- OutputHome
pub returns-in_err-index-in-OutputHome : goal.returns-in_err-index-in-OutputHome
returns-in_err-index-in-OutputHome c d stands =
    let result : c.from_residual-in_err-index-in-OutputHome.result ≡ Err c.in_err-index-in-OutputHome.field-0.0 = search rules in
    subst (λ w. c.from_residual-in_err-index-in-OutputHome.result ≡ wish_holds d c.args.arg w) (sym c.in-OutputHome.is)
    (result ∙ asked_err model.as_output number.OUTPUT_SURFACE output_kind output_other c.args.self.now c.args.arg c.in-OutputHome.surface (λ d place. not (is_out d place)) c.in_err-index-in-OutputHome.field-0.0 c.in_err-index-in-OutputHome.ensures d stands)

pub is_home-requires-in-OutputHome : goal.is_home-requires-in-OutputHome
is_home-requires-in-OutputHome c = called_within c.args.self.now number.OUTPUT_SURFACE c.in-OutputHome.surface c.in_ok-index-in-OutputHome.index c.in_ok-index-in-OutputHome.ensures.0

pub returns-in_ok-index-in-OutputHome : goal.returns-in_ok-index-in-OutputHome
returns-in_ok-index-in-OutputHome c d stands =
    let holds : Bool = c.is_home-in-OutputHome.result in
    subst (λ w. Ok holds ≡ wish_holds d c.args.arg w) (sym c.in-OutputHome.is)
    (asked_ok model.as_output number.OUTPUT_SURFACE output_kind output_other c.args.self.now c.args.arg c.in-OutputHome.surface (λ d place. not (is_out d place)) c.in_ok-index-in-OutputHome.index c.in_ok-index-in-OutputHome.ensures holds c.is_home-in-OutputHome.ensures d stands)

-- PromisePast
pub promised-requires : goal.promised-requires
promised-requires c = number_below c.args.self.now c.in_ok-queue-in-PromisePast.field-0-0 c.in_ok-queue-in-PromisePast.queue c.in_ok-queue-in-PromisePast.ensures.has
