-- A step acts until something is answered.
use Rattle.std.proofs.Common.{◌≡◌, Option, Some, None, sym, subst, ◌∙◌}
use Rattle.std.specs.Prelude.{IfSome}
use Rattle.device_lock.specs.declared.view.View.{View}
use Rattle.driver_model.specs.declared.items.Item.{Item}
use Rattle.stream_calls.specs.StreamCalls.{Fed, Stream}
use Rattle.stream_task.specs.Keeping.{Ready}
use Rattle.stream_task.specs.Leaving.{Acted, Went}
use Rattle.stream_task.specs.declared.answers.Stepped.{Stepped}
use Rattle.stream_task.specs.declared.answers.Stepped.TheVariants as stepped
use Rattle.stream_task.specs.declared.answers.Verdict.{Verdict}
use Rattle.stream_task.specs.declared.task.StreamTask.{StreamTask}

pub answered : (new : StreamTask) (of : Stream) (fed : Fed) (v u w : View Item) (told : Option Stepped) (answer : Stepped)
    → told ≡ Some answer → u ≡ v → Acted new of fed u w told → Went new of fed v w answer
answered new of fed v u w told answer is same acted =
    subst (λ (b : View Item). Went new of fed b w answer) same (subst (λ (t : Option Stepped). Acted new of fed u w t) is acted)

pub goes_on : (new : StreamTask) (of : Stream) (fed : Fed) (u w : View Item) (told : Option Stepped)
    → told ≡ None → Acted new of fed u w told → Ready new of fed w × (w ≡ u)
goes_on new of fed u w told is acted = subst (λ (t : Option Stepped). Acted new of fed u w t) is acted

-- One that has ended answers.
pub ended_answers : (X : Type 0) (first now new : Option Verdict) (told : Option Stepped)
    → IfSome first (λ verdict. now ≡ Some verdict) → IfSome now (λ verdict. (told ≡ Some (stepped.Done verdict)) × X) → told ≡ None
    → IfSome first (λ verdict. new ≡ Some verdict)
ended_answers X None now new told still ended is = tt
ended_answers X (Some verdict) now new told still ended is =
    let both : (told ≡ Some (stepped.Done verdict)) × X = subst (λ (o : Option Verdict). IfSome o (λ v. (told ≡ Some (stepped.Done v)) × X)) still ended in
    absurd (let k : (let o : Option Stepped = None in o ≡ Some (stepped.Done verdict)) = sym is ∙ both.0 in cc)
