use Rattle.std.proofs.Common.{None, Ok, Err, refl, sym, subst, ◌∙◌}
use Rattle.decoder_render.specs.declared.outcome.Outcome.TheVariants as outcome
use Rattle.device_lock.specs.Passes.{held_view}
use Rattle.driver_core.specs.Begun.{BeginsMix}
use Rattle.driver_model.specs.declared.calls.Call.TheVariants.{Mix}
use Rattle.driver_model.specs.declared.replies.Answer.TheVariants.{Done}
use Rattle.driver.specs.InHand.{KnowsMix}
use Rattle.driver.specs.Passes.{view}
use Rattle.driver.specs.Standing.{StandsAt}
use Rattle.driver.specs.declared.kernel.Kernel.{Kernel}
use Rattle.driver.proofs.Jobs.{begin_put_off, begin_refused, begun_by, is_begun, of_seen}
use Rattle.driver.proofs.Made.{makes, same_pass_trans, seen_trans}
use Rattle.driver.proofs.MixJobs.{begun_as, mix_begun}
use Rattle.driver.proofs.driver.Driver.begin_mix.Goals as goal

pub log_item-pass-requires-clause-stands : goal.log_item-pass-requires-clause-stands
log_item-pass-requires-clause-stands g c =
    (mix_begun c.value.result.now.core c.begin_mix.new.self (held_view c.take-held.result).seen (held_view c.take-held.result).number c.args.mixer c.args.structure c.args.video c.args.output c.begin_mix.result c.in-Job.job c.in-Job.is c.begin_mix.ensures
    (subst (λ (k : Kernel). StandsAt k.core (held_view c.take-held.result).seen) (sym c.value.ensures.value) c.take-held.ensures.value)).0

pub invariant_of-result : goal.invariant_of-result
invariant_of-result g c =
    let now = held_view c.take-held.result in
    let item = begun_as now.number c.args.mixer c.args.structure c.args.video c.args.output in
    let begun = mix_begun c.value.result.now.core c.begin_mix.new.self now.seen now.number c.args.mixer c.args.structure c.args.video c.args.output c.begin_mix.result c.in-Job.job c.in-Job.is c.begin_mix.ensures
    (subst (λ (k : Kernel). StandsAt k.core now.seen) (sym c.value.ensures.value) c.take-held.ensures.value)
    in
    record {
      begun = is_begun _ now item c.log_item-pass.result.0 c.log_item-pass.result.1 c.log_item-pass.ensures (begun_by now.number (record { caller = now.number; call = Mix c.args.mixer c.args.structure c.args.video c.args.output; reply = Ok Done }) refl refl);
      knows = of_seen _ now item c.log_item-pass.result.0 c.log_item-pass.result.1 (λ seen place. KnowsMix seen place c.in-Job.job) c.log_item-pass.ensures begun.1;
    }

pub returns-in-Job : goal.returns-in-Job
returns-in-Job g c =
    let held = c.take-held.ensures in
    let waited = c.loop.invariant in
    let before = view c.args.pass in
    let now = held_view c.take-held.result in
    record {
      same_driver = c.log_item-pass.ensures.same_driver ∙ (held.lock ∙ sym c.requires);
      outcome = outcome.Ok;
      adds = makes before now (Mix c.args.mixer c.args.structure c.args.video c.args.output) (Ok Done) _ c.log_item-pass.result.0 c.log_item-pass.result.1 c.begin_mix.new.self
          (seen_trans before (view c.loop.pass) now waited.3 held.seen)
          (same_pass_trans before (view c.loop.pass) now waited.4 held.same)
          (mix_begun c.value.result.now.core c.begin_mix.new.self now.seen now.number c.args.mixer c.args.structure c.args.video c.args.output c.begin_mix.result c.in-Job.job c.in-Job.is c.begin_mix.ensures
          (subst (λ (k : Kernel). StandsAt k.core now.seen) (sym c.value.ensures.value) c.take-held.ensures.value)).0
          c.log_item-pass.ensures;
    }

pub log_item-pass-requires-in-Refused-clause-stands : goal.log_item-pass-requires-in-Refused-clause-stands
log_item-pass-requires-in-Refused-clause-stands g c =
    let now = held_view c.take-held.result in
    (begin_refused c.value.result.now.core c.begin_mix.new.self now.seen now.number (Mix c.args.mixer c.args.structure c.args.video c.args.output) None (λ d of. BeginsMix c.begin_mix.new.self d now.number c.args.mixer c.args.structure c.args.video c.args.output of) c.begin_mix.result
    (λ d stands. c.begin_mix.ensures d now.number stands)
    (subst (λ (k : Kernel). StandsAt k.core now.seen) (sym c.value.ensures.value) c.take-held.ensures.value)
    c.in-Refused._nothing c.in-Refused.refusal c.in-Refused.is).1

pub returns-in-Refused : goal.returns-in-Refused
returns-in-Refused g c =
    let held = c.take-held.ensures in
    let waited = c.loop.invariant in
    let before = view c.args.pass in
    let now = held_view c.take-held.result in
    let call = Mix c.args.mixer c.args.structure c.args.video c.args.output in
    let refused = begin_refused c.value.result.now.core c.begin_mix.new.self now.seen now.number call None (λ d of. BeginsMix c.begin_mix.new.self d now.number c.args.mixer c.args.structure c.args.video c.args.output of) c.begin_mix.result
    (λ d stands. c.begin_mix.ensures d now.number stands)
    (subst (λ (k : Kernel). StandsAt k.core now.seen) (sym c.value.ensures.value) c.take-held.ensures.value)
    c.in-Refused._nothing c.in-Refused.refusal c.in-Refused.is
    in
    record {
      same_driver = c.log_item-pass-in-Refused.ensures.same_driver ∙ (held.lock ∙ sym c.requires);
      adds = makes before now call (Err c.in-Refused.refusal) _ c.log_item-pass-in-Refused.result.0 c.log_item-pass-in-Refused.result.1 c.begin_mix.new.self
          (seen_trans before (view c.loop.pass) now waited.3 held.seen)
          (same_pass_trans before (view c.loop.pass) now waited.4 held.same)
          refused.1
          c.log_item-pass-in-Refused.ensures;
      no_job = refused.2;
    }

pub give_back-token-requires-clause-value : goal.give_back-token-requires-clause-value
give_back-token-requires-clause-value g c =
    let now = held_view c.take-held.result in
    (begin_put_off c.value.result.now.core c.begin_mix.new.self now.seen now.number (Mix c.args.mixer c.args.structure c.args.video c.args.output) None (λ d of. BeginsMix c.begin_mix.new.self d now.number c.args.mixer c.args.structure c.args.video c.args.output of) c.begin_mix.result
    (λ d stands. c.begin_mix.ensures d now.number stands)
    (subst (λ (k : Kernel). StandsAt k.core now.seen) (sym c.value.ensures.value) c.take-held.ensures.value)
    c.in-Later._nothing c.in-Later.is).1
