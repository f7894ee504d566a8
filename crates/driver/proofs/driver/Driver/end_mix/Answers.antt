use Rattle.std.proofs.Common.{refl, sym, subst, ◌∙◌}
use Rattle.decoder_render.specs.declared.outcome.Outcome.TheVariants as outcome
use Rattle.device_lock.specs.Passes.{held_view}
use Rattle.driver.specs.Passes.{view}
use Rattle.driver.specs.Standing.{StandsAt}
use Rattle.driver.specs.declared.kernel.Kernel.{Kernel}
use Rattle.driver.proofs.Jobs.{ends_job}
use Rattle.driver.proofs.MixJobs.{mix_ends}
use Rattle.driver.proofs.driver.Driver.end_mix.Goals as goal

pub log_item-pass-requires-clause-stands : goal.log_item-pass-requires-clause-stands
log_item-pass-requires-clause-stands g c =
    let done = c.args.done in
    let held = c.take-held.ensures in
    (mix_ends c.value.result.now.core c.end_mix.new.self (view done.pass) (held_view c.take-held.result) done.place done.done c.end_mix.result done.begun done.knows held.seen held.same held.knows
    (subst (λ (k : Kernel). StandsAt k.core (held_view c.take-held.result).seen) (sym c.value.ensures.value) held.value) c.end_mix.ensures).0

pub returns : goal.returns
returns g c =
    let done = c.args.done in
    let held = c.take-held.ensures in
    let ends = mix_ends c.value.result.now.core c.end_mix.new.self (view done.pass) (held_view c.take-held.result) done.place done.done c.end_mix.result done.begun done.knows held.seen held.same held.knows
    (subst (λ (k : Kernel). StandsAt k.core (held_view c.take-held.result).seen) (sym c.value.ensures.value) held.value) c.end_mix.ensures
    in
    record {
      same_driver = c.log_item-pass.ensures.same_driver ∙ (held.lock ∙ sym c.requires);
      at_beginning = refl;
      mark = c.log_item-pass.result.1;
      ends = ends_job (view done.pass) (held_view c.take-held.result) done.place c.log_item-pass.result.1 _ c.log_item-pass.result.0 c.end_mix.new.self outcome.Ok c.end_mix.result c.in-Now.result
          held.seen held.same ends.0 c.log_item-pass.ensures c.end_mix.ensures.0 c.in-Now.is ends.1;
    }
