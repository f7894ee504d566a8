use Rattle.std.proofs.Common.{Some, Err, refl, sym, subst, ◌∙◌}
use mathlib.Core.List.{IsPrefix}
use Rattle.device_lock.specs.Passes.{held_view}
use Rattle.device_lock.specs.Views.{IsSamePass}
use Rattle.device_lock.specs.declared.view.View.{View}
use Rattle.driver_core.specs.Begun.{BeginRender, BeginsRender}
use Rattle.driver_model.proofs.NoteLists.{some_is}
use Rattle.driver_model.specs.Jobs.{reply_of}
use Rattle.driver_model.specs.declared.calls.Call.TheVariants.{Render}
use Rattle.driver_model.specs.declared.items.Item.{Item}
use Rattle.driver.specs.InHand.{KnowsRender}
use Rattle.driver.specs.Passes.{view}
use Rattle.driver.specs.Standing.{StandsAt}
use Rattle.driver.specs.declared.kernel.Kernel.{Kernel}
use Rattle.driver.proofs.Jobs.{begin_put_off, begin_refused, begun_by, is_begun, job_begins, of_seen}
use Rattle.driver.proofs.Made.{makes, same_pass_trans, seen_trans}
use Rattle.driver.proofs.RenderJobs.{begun_as, render_begun, the_outcome}
use Rattle.driver.proofs.driver.Driver.begin_counted.Goals as goal

pub log_item-pass-requires-clause-stands : goal.log_item-pass-requires-clause-stands
log_item-pass-requires-clause-stands g c =
    let now = held_view c.take-held.result in
    (render_begun c.value.result.now.core c.begin_counted.new.self now.seen now.number c.args.decoder c.args.target c.args.info.now g.bytes c.begin_counted.result c.in-Job.job c.in-Job.is
    (subst (λ b. BeginRender c.value.result.now.core c.begin_counted.new.self c.args.decoder c.args.target c.args.info.now b c.begin_counted.result) c.loop.invariant.5 c.begin_counted.ensures)
    (subst (λ (k : Kernel). StandsAt k.core now.seen) (sym c.value.ensures.value) c.take-held.ensures.value)).0

pub invariant_of-result : goal.invariant_of-result
invariant_of-result g c =
    let now = held_view c.take-held.result in
    let outcome = the_outcome c.in-Job.job in
    let item = begun_as now.number c.args.decoder c.args.target c.args.info.now g.bytes outcome in
    let begun = render_begun c.value.result.now.core c.begin_counted.new.self now.seen now.number c.args.decoder c.args.target c.args.info.now g.bytes c.begin_counted.result c.in-Job.job c.in-Job.is
    (subst (λ b. BeginRender c.value.result.now.core c.begin_counted.new.self c.args.decoder c.args.target c.args.info.now b c.begin_counted.result) c.loop.invariant.5 c.begin_counted.ensures)
    (subst (λ (k : Kernel). StandsAt k.core now.seen) (sym c.value.ensures.value) c.take-held.ensures.value)
    in
    record {
      begun = is_begun _ now item c.log_item-pass.result.0 c.log_item-pass.result.1 c.log_item-pass.ensures
          (begun_by now.number (record { caller = now.number; call = Render c.args.decoder c.args.target c.args.info.now g.bytes; reply = reply_of outcome }) refl
          (job_begins (Render c.args.decoder c.args.target c.args.info.now g.bytes) outcome now.number refl));
      knows = of_seen _ now item c.log_item-pass.result.0 c.log_item-pass.result.1 (λ seen place. KnowsRender seen place c.in-Job.job) c.log_item-pass.ensures begun.1;
    }

pub returns-in-Job : goal.returns-in-Job
returns-in-Job g c =
    let held = c.take-held.ensures in
    let waited = c.loop.invariant in
    let before = view c.args.pass in
    let now = held_view c.take-held.result in
    let outcome = the_outcome c.in-Job.job in
    record {
      same_driver = c.log_item-pass.ensures.same_driver ∙ (held.lock ∙ sym c.requires.1.0);
      outcome = outcome;
      adds = makes before now (Render c.args.decoder c.args.target c.args.info.now g.bytes) (reply_of outcome) _ c.log_item-pass.result.0 c.log_item-pass.result.1 c.begin_counted.new.self
          (seen_trans before (view c.loop.pass) now waited.3 held.seen)
          (same_pass_trans before (view c.loop.pass) now waited.4 held.same)
          (render_begun c.value.result.now.core c.begin_counted.new.self now.seen now.number c.args.decoder c.args.target c.args.info.now g.bytes c.begin_counted.result c.in-Job.job c.in-Job.is
          (subst (λ b. BeginRender c.value.result.now.core c.begin_counted.new.self c.args.decoder c.args.target c.args.info.now b c.begin_counted.result) waited.5 c.begin_counted.ensures)
          (subst (λ (k : Kernel). StandsAt k.core now.seen) (sym c.value.ensures.value) c.take-held.ensures.value)).0
          c.log_item-pass.ensures;
    }

pub unreachable-requires : goal.unreachable-requires
unreachable-requires g c =
    let now = held_view c.take-held.result in
    c.in_default.not-Some g.bytes
    (begin_refused c.value.result.now.core c.begin_counted.new.self now.seen now.number (Render c.args.decoder c.args.target c.args.info.now g.bytes) (Some g.bytes)
    (λ d of. BeginsRender c.begin_counted.new.self d now.number c.args.decoder c.args.target c.args.info.now g.bytes of) c.begin_counted.result
    (λ d stands. subst (λ b. BeginRender c.value.result.now.core c.begin_counted.new.self c.args.decoder c.args.target c.args.info.now b c.begin_counted.result) c.loop.invariant.5 c.begin_counted.ensures d now.number stands)
    (subst (λ (k : Kernel). StandsAt k.core now.seen) (sym c.value.ensures.value) c.take-held.ensures.value)
    c.in-Refused.back c.in-Refused.refusal c.in-Refused.is).0

pub log_item-pass-requires-in-Refused-clause-stands : goal.log_item-pass-requires-in-Refused-clause-stands
log_item-pass-requires-in-Refused-clause-stands g c =
    let now = held_view c.take-held.result in
    (begin_refused c.value.result.now.core c.begin_counted.new.self now.seen now.number (Render c.args.decoder c.args.target c.args.info.now g.bytes) (Some g.bytes)
    (λ d of. BeginsRender c.begin_counted.new.self d now.number c.args.decoder c.args.target c.args.info.now g.bytes of) c.begin_counted.result
    (λ d stands. subst (λ b. BeginRender c.value.result.now.core c.begin_counted.new.self c.args.decoder c.args.target c.args.info.now b c.begin_counted.result) c.loop.invariant.5 c.begin_counted.ensures d now.number stands)
    (subst (λ (k : Kernel). StandsAt k.core now.seen) (sym c.value.ensures.value) c.take-held.ensures.value)
    c.in-Refused.back c.in-Refused.refusal c.in-Refused.is).1

pub returns-in-Refused : goal.returns-in-Refused
returns-in-Refused g c =
    let held = c.take-held.ensures in
    let waited = c.loop.invariant in
    let before = view c.args.pass in
    let now = held_view c.take-held.result in
    let call = Render c.args.decoder c.args.target c.args.info.now g.bytes in
    let refused = begin_refused c.value.result.now.core c.begin_counted.new.self now.seen now.number call (Some g.bytes)
    (λ d of. BeginsRender c.begin_counted.new.self d now.number c.args.decoder c.args.target c.args.info.now g.bytes of) c.begin_counted.result
    (λ d stands. subst (λ b. BeginRender c.value.result.now.core c.begin_counted.new.self c.args.decoder c.args.target c.args.info.now b c.begin_counted.result) waited.5 c.begin_counted.ensures d now.number stands)
    (subst (λ (k : Kernel). StandsAt k.core now.seen) (sym c.value.ensures.value) c.take-held.ensures.value)
    c.in-Refused.back c.in-Refused.refusal c.in-Refused.is
    in (
      some_is c.in-Some-back.submission g.bytes (sym c.in-Some-back.is ∙ refused.0),
      record {
        same_driver = c.log_item-pass-in-Refused.ensures.same_driver ∙ (held.lock ∙ sym c.requires.1.0);
        adds = makes before now call (Err c.in-Refused.refusal) _ c.log_item-pass-in-Refused.result.0 c.log_item-pass-in-Refused.result.1 c.begin_counted.new.self
            (seen_trans before (view c.loop.pass) now waited.3 held.seen)
            (same_pass_trans before (view c.loop.pass) now waited.4 held.same)
            refused.1
            c.log_item-pass-in-Refused.ensures;
        no_job = refused.2;
      },
    )

pub unreachable-requires-in_default-back : goal.unreachable-requires-in_default-back
unreachable-requires-in_default-back g c =
    let now = held_view c.take-held.result in
    c.in_default-back.not-Some g.bytes
    (begin_put_off c.value.result.now.core c.begin_counted.new.self now.seen now.number (Render c.args.decoder c.args.target c.args.info.now g.bytes) (Some g.bytes)
    (λ d of. BeginsRender c.begin_counted.new.self d now.number c.args.decoder c.args.target c.args.info.now g.bytes of) c.begin_counted.result
    (λ d stands. subst (λ b. BeginRender c.value.result.now.core c.begin_counted.new.self c.args.decoder c.args.target c.args.info.now b c.begin_counted.result) c.loop.invariant.5 c.begin_counted.ensures d now.number stands)
    (subst (λ (k : Kernel). StandsAt k.core now.seen) (sym c.value.ensures.value) c.take-held.ensures.value)
    c.in-Later.back c.in-Later.is).0

pub give_back-token-requires-clause-value : goal.give_back-token-requires-clause-value
give_back-token-requires-clause-value g c =
    let now = held_view c.take-held.result in
    (begin_put_off c.value.result.now.core c.begin_counted.new.self now.seen now.number (Render c.args.decoder c.args.target c.args.info.now g.bytes) (Some g.bytes)
    (λ d of. BeginsRender c.begin_counted.new.self d now.number c.args.decoder c.args.target c.args.info.now g.bytes of) c.begin_counted.result
    (λ d stands. subst (λ b. BeginRender c.value.result.now.core c.begin_counted.new.self c.args.decoder c.args.target c.args.info.now b c.begin_counted.result) c.loop.invariant.5 c.begin_counted.ensures d now.number stands)
    (subst (λ (k : Kernel). StandsAt k.core now.seen) (sym c.value.ensures.value) c.take-held.ensures.value)
    c.in-Later.back c.in-Later.is).1

pub loop-preserved : goal.loop-preserved
loop-preserved g c =
    let held = c.take-held.ensures in
    let waited = c.loop.invariant in
    let before = view c.args.pass in
    let now = held_view c.take-held.result in
    let back = c.give_back-token.ensures.view in
    let later = begin_put_off c.value.result.now.core c.begin_counted.new.self now.seen now.number (Render c.args.decoder c.args.target c.args.info.now g.bytes) (Some g.bytes)
    (λ d of. BeginsRender c.begin_counted.new.self d now.number c.args.decoder c.args.target c.args.info.now g.bytes of) c.begin_counted.result
    (λ d stands. subst (λ b. BeginRender c.value.result.now.core c.begin_counted.new.self c.args.decoder c.args.target c.args.info.now b c.begin_counted.result) waited.5 c.begin_counted.ensures d now.number stands)
    (subst (λ (k : Kernel). StandsAt k.core now.seen) (sym c.value.ensures.value) held.value)
    c.in-Later.back c.in-Later.is
    in (
      tt,
      tt,
      c.give_back-token.ensures.lock ∙ sym c.requires.1.0,
      subst (λ (v : View Item). IsPrefix before.seen v.seen) (sym back) (seen_trans before (view c.loop.pass) now waited.3 held.seen),
      subst (λ (v : View Item). IsSamePass before v) (sym back) (same_pass_trans before (view c.loop.pass) now waited.4 held.same),
      some_is c.in-Some-back-2.again g.bytes (sym c.in-Some-back-2.is ∙ later.0),
    )
