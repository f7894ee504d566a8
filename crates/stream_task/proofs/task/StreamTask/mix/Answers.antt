use Rattle.std.proofs.Common.{◌≡◌, ◌+◌, ℕ, [], ◌∷◌, Result, Option, Some, None, inl, inr, refl, ap, sym, subst, ◌∙◌}
use Rattle.driver.specs.Made.{entry_of}
use Rattle.driver.specs.Passes.{view}
use Rattle.driver_model.specs.Answers.{reply_with}
use Rattle.driver_model.specs.Passes.{Adds}
use Rattle.driver_model.specs.declared.calls.Call.TheVariants as call
use Rattle.driver_model.specs.declared.replies.Answer.TheVariants as answer
use Rattle.vd_status.specs.declared.refusal.Refusal.{Refusal}
use Rattle.driver_model.specs.declared.calls.Wish.TheVariants as wish
use Rattle.stream_task.specs.Keeping.{IsSized, names_held}
use Rattle.stream_task.specs.Leaving.{Went, behind_refusal, with_phase}
use Rattle.stream_task.specs.Places.{fits}
use Rattle.stream_task.specs.declared.answers.Stepped.{Stepped}
use Rattle.stream_task.specs.declared.objects.Made.{Made}
use Rattle.stream_task.specs.declared.phase.Phase.TheVariants as phase
use Rattle.stream_task.specs.declared.task.StreamTask.{StreamTask}
use Rattle.stream_task.proofs.Mixed.{may_poll, polled_found, went_behind}
use Rattle.stream_task.proofs.Going.{adds_one}
use Rattle.stream_task.proofs.Names.{got, got_all, place_held}
use Rattle.stream_task.proofs.Refused.{refused_went}
use Rattle.stream_task.proofs.task.StreamTask.mix.Goals as goal

pub unreachable-requires-in_default-at : goal.unreachable-requires-in_default-at
unreachable-requires-in_default-at g c =
    let ready = c.requires.ready.1.1 in
    let about = ready.stands.about in
    let there = about.wait.made c.args.surface about.mixes.number about.mixes.is_in in
    let is = got c.args.self.now.objects.made (2 + c.args.surface) c.at.result None c.at.ensures ∙ c.in_default-at.is in
    (let k : (let o : Option Made = Some there.0 in o ≡ None) = sym there.1 ∙ is in cc)

pub fit-requires-clause-queue : goal.fit-requires-clause-queue
fit-requires-clause-queue g c =
    let ready = c.requires.ready.1.1 in
    ready.stands.made.opened (2 + c.args.surface) c.in-Some-at.video (got c.args.self.now.objects.made (2 + c.args.surface) c.at.result None c.at.ensures ∙ c.in-Some-at.is)

pub fit-requires-clause-wanted : goal.fit-requires-clause-wanted
fit-requires-clause-wanted g c = record {
  is_place = tt;
  wants = ((c.in-Some-at.video, got c.args.self.now.objects.made (2 + c.args.surface) c.at.result None c.at.ensures ∙ c.in-Some-at.is, refl), inl refl);
  unfit = c.fitting.ensures.none c.in_default-fitting.is;
}

pub fit-requires-clause-limits : goal.fit-requires-clause-limits
fit-requires-clause-limits g c =
    let ready = c.requires.ready.1.1 in
    got_all IsSized c.args.self.now.objects.made (2 + c.args.surface) (Some c.in-Some-at.video) ready.stands.made.sized (c.at.ensures ∙ ap Some c.in-Some-at.is)

pub fit-requires-in_default-at-2-clause-queue : goal.fit-requires-in_default-at-2-clause-queue
fit-requires-in_default-at-2-clause-queue g c =
    let ready = c.requires.ready.1.1 in
    ready.stands.made.opened (2 + c.args.surface) c.in-Some-at.video (got c.args.self.now.objects.made (2 + c.args.surface) c.at.result None c.at.ensures ∙ c.in-Some-at.is)

pub fit-requires-in_default-at-2-clause-wanted : goal.fit-requires-in_default-at-2-clause-wanted
fit-requires-in_default-at-2-clause-wanted g c =
    let none = got c.args.self.now.objects.made (36 + c.args.self.now.turn) c.at-2.result None c.at-2.ensures ∙ c.in_default-at-2.is in
    record {
      is_place = c.requires.ready.1.1.stands.turn;
      wants = ((c.in-Some-at.video, got c.args.self.now.objects.made (2 + c.args.surface) c.at.result None c.at.ensures ∙ c.in-Some-at.is, refl), inr refl);
      unfit = ap (λ (o : Option Made). fits c.in-Some-at.video.size o) none;
    }

pub begin_mix-requires-clause-ready : goal.begin_mix-requires-clause-ready
begin_mix-requires-clause-ready g c =
    let ready = c.requires.ready.1.1 in
    let start = c.args.self.now in
    let there = got start.objects.made (36 + start.turn) c.at-2.result None c.at-2.ensures ∙ c.in-Some-at-2.is in (
      c.requires.ready.0,
      (
        c.requires.ready.1.0,
        polled_found (with_phase start (phase.Mixing c.args.surface c.args.time)) c.requires.ready.0 c.requires.ready.1.0 (view c.args.pass) (view c.poll-pass.result.pass) c.poll-pass.result.place c.in-Some-at-2.output.name _ c.poll-pass.result.result ready tt
            (place_held start.objects (36 + start.turn) c.in-Some-at-2.output there) c.in-Ok-Some.is c.poll-pass.ensures.adds,
      ),
    )

pub begin_mix-requires-clause-video : goal.begin_mix-requires-clause-video
begin_mix-requires-clause-video g c = got c.args.self.now.objects.made (2 + c.args.surface) c.at.result None c.at.ensures ∙ c.in-Some-at.is

pub begin_mix-requires-clause-output : goal.begin_mix-requires-clause-output
begin_mix-requires-clause-output g c = got c.args.self.now.objects.made (36 + c.args.self.now.turn) c.at-2.result None c.at-2.ensures ∙ c.in-Some-at-2.is

pub fit-requires-in-Ok-Some-2-clause-ready : goal.fit-requires-in-Ok-Some-2-clause-ready
fit-requires-in-Ok-Some-2-clause-ready g c =
    let ready = c.requires.ready.1.1 in
    let start = c.args.self.now in
    let there = got start.objects.made (36 + start.turn) c.at-2.result None c.at-2.ensures ∙ c.in-Some-at-2.is in (
      c.requires.ready.0,
      (
        c.requires.ready.1.0,
        polled_found (with_phase start (phase.Mixing c.args.surface c.args.time)) c.requires.ready.0 c.requires.ready.1.0 (view c.args.pass) (view c.poll-pass.result.pass) c.poll-pass.result.place c.in-Some-at-2.output.name _ c.poll-pass.result.result ready tt
            (place_held start.objects (36 + start.turn) c.in-Some-at-2.output there) c.in-Ok-Some-2.is c.poll-pass.ensures.adds,
      ),
    )

pub fit-requires-in-Ok-Some-2-clause-queue : goal.fit-requires-in-Ok-Some-2-clause-queue
fit-requires-in-Ok-Some-2-clause-queue g c =
    let ready = c.requires.ready.1.1 in
    ready.stands.made.opened (2 + c.args.surface) c.in-Some-at.video (got c.args.self.now.objects.made (2 + c.args.surface) c.at.result None c.at.ensures ∙ c.in-Some-at.is)

pub returns-in-Ok-Some-clause-went : goal.returns-in-Ok-Some-clause-went
returns-in-Ok-Some-clause-went g c = λ of fed ready.
    let start = c.args.self.now in
    let there = got start.objects.made (36 + start.turn) c.at-2.result None c.at-2.ensures ∙ c.in-Some-at-2.is in
    let behind = polled_found (with_phase start (phase.Mixing c.args.surface c.args.time)) of fed (view c.args.pass) (view c.poll-pass.result.pass) c.poll-pass.result.place c.in-Some-at-2.output.name _ c.poll-pass.result.result ready tt
    (place_held start.objects (36 + start.turn) c.in-Some-at-2.output there) c.in-Ok-Some.is c.poll-pass.ensures.adds in
    went_behind c.begin_mix.new.self of fed (view c.args.pass) (view c.poll-pass.result.pass) (view c.begin_mix.result.0) _ c.poll-pass.result.place c.begin_mix.result.1 c.poll-pass.ensures.adds (c.begin_mix.ensures.went of fed behind)

pub returns-in-Ok-Some-2-clause-went : goal.returns-in-Ok-Some-2-clause-went
returns-in-Ok-Some-2-clause-went g c = λ of fed ready.
    let start = c.args.self.now in
    let there = got start.objects.made (36 + start.turn) c.at-2.result None c.at-2.ensures ∙ c.in-Some-at-2.is in
    let behind = polled_found (with_phase start (phase.Mixing c.args.surface c.args.time)) of fed (view c.args.pass) (view c.poll-pass.result.pass) c.poll-pass.result.place c.in-Some-at-2.output.name _ c.poll-pass.result.result ready tt
    (place_held start.objects (36 + start.turn) c.in-Some-at-2.output there) c.in-Ok-Some-2.is c.poll-pass.ensures.adds in
    went_behind c.fit-in-Ok-Some-2.new.self of fed (view c.args.pass) (view c.poll-pass.result.pass) (view c.fit-in-Ok-Some-2.result.0) _ c.poll-pass.result.place c.fit-in-Ok-Some-2.result.1 c.poll-pass.ensures.adds (c.fit-in-Ok-Some-2.ensures.went of fed behind)

pub returns-in-Ok-None-clause-went : goal.returns-in-Ok-None-clause-went
returns-in-Ok-None-clause-went g c = λ of fed ready.
    let start = c.args.self.now in
    let there = got start.objects.made (36 + start.turn) c.at-2.result None c.at-2.ensures ∙ c.in-Some-at-2.is in
    let behind = polled_found (with_phase start (phase.Mixing c.args.surface c.args.time)) of fed (view c.args.pass) (view c.poll-pass.result.pass) c.poll-pass.result.place c.in-Some-at-2.output.name _ c.poll-pass.result.result ready tt
    (place_held start.objects (36 + start.turn) c.in-Some-at-2.output there) c.in-Ok-None.is c.poll-pass.ensures.adds in
    record { ready = behind; steps = record { items = _; adds = adds_one (view c.args.pass) (view c.poll-pass.result.pass) _ c.poll-pass.result.place c.poll-pass.ensures.adds; answers = tt } }

pub returns-in-Err-clause-went : goal.returns-in-Err-clause-went
returns-in-Err-clause-went g c = λ of fed ready.
    let start = c.args.self.now in
    let task = with_phase start (phase.Mixing c.args.surface c.args.time) in
    let there = got start.objects.made (36 + start.turn) c.at-2.result None c.at-2.ensures ∙ c.in-Some-at-2.is in
    let v = view c.args.pass in
    let w = view c.poll-pass.result.pass in
    let name = c.in-Some-at-2.output.name in
    let adds = subst (λ (r : Result (Option ℕ) Refusal). Adds v (entry_of v (call.Poll (wish.OutputIdle name ∷ [])) (reply_with answer.Holds r)) c.poll-pass.result.place w) c.in-Err.is c.poll-pass.ensures.adds in
    let may = may_poll v.own of.number (names_held start.objects) name (place_held start.objects (36 + start.turn) c.in-Some-at-2.output there) in
    let went = refused_went task of fed v w c.poll-pass.result.place (call.Poll (wish.OutputIdle name ∷ [])) c.in-Err.refusal ready tt adds may in
    subst (λ (t : StreamTask). Went t of fed v w c.refused-answer.result) (sym c.refused-answer.ensures.task)
    (subst (λ (a : Stepped). Went (behind_refusal task c.in-Err.refusal) of fed v w a) (sym c.refused-answer.ensures.answer) went)
