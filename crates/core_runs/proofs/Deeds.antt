-- What a core answers is a deed of a run.
use Rattle.std.proofs.Common.{refl, sym, subst}
use Rattle.std.proofs.lemmas.Bool.{false≢true}
use Rattle.driver_core.specs.Answered.{Takes}
use Rattle.driver_model.specs.Answers.{reply_with}
use Rattle.driver_model.specs.Jobs.{reply_of}
use Rattle.driver_model.specs.declared.calls.Call.TheVariants.{Mix, Render}
use Rattle.driver_jobs.specs.Renders as renders
use Rattle.render_outcomes.proofs.OutcomesExist.{outcomes_exist}
use Rattle.core_runs.proofs.Jobs.{limits, ready}
use Rattle.core_runs.proofs.Runs.{told}
use Rattle.core_runs.specs.Histories.{AnswersAreReplies, BegunRendersComeToReplies}

pub begun_renders_come_to_replies : BegunRendersComeToReplies
begun_renders_come_to_replies old new decoder target info bytes job begins =
    let o = outcomes_exist (renders.given_of job) (renders.payloads_of job) (ready job) (limits job) in
    (reply_of o.0, (o.0, o.1, o.2, begins, refl))

pub answers_are_replies : (A : Type 0) → AnswersAreReplies A
answers_are_replies A old new (Render decoder target info bytes) answer result plain calls = absurd (false≢true (sym plain))
answers_are_replies A old new (Mix mixer structure video output) answer result plain calls = absurd (false≢true (sym plain))
answers_are_replies A old new call answer result plain calls = λ d caller stands. subst (Takes new d caller call) (sym (told (reply_with answer result))) (calls d caller stands)
