use Rattle.std.proofs.Common.{sym, subst, ◌∙◌}
use Rattle.device_lock.specs.Passes.{held_view}
use Rattle.driver_model.specs.Answers.{reply_with}
use Rattle.driver_model.specs.Passes.{Adds}
use Rattle.driver.specs.Made.{entry_of}
use Rattle.driver.specs.Standing.{StandsAt}
use Rattle.driver.specs.declared.kernel.Kernel.{Kernel}
use Rattle.driver.specs.Passes.{view}
use Rattle.driver.proofs.Made.{answered, makes, put_off, same_pass_trans, seen_trans}
use Rattle.driver.proofs.driver.Driver.make.Goals as goal

pub log-requires-clause-stands : goal.log-requires-clause-stands
log-requires-clause-stands g c =
    answered _ _ _ _ _ _ _ _ c.in-Now.is c.ask.ensures
    (subst (λ (k : Kernel). StandsAt k.core (held_view c.take-held.result).seen) (sym c.value.ensures.value) c.take-held.ensures.value)

pub returns-in-Now : goal.returns-in-Now
returns-in-Now g c =
    let held = c.take-held.ensures in
    let waited = c.loop.invariant in
    let before = view c.args.pass in
    let now = held_view c.take-held.result in
    let call = g.A.Ask.call c.args.ask.now in
    let reply = reply_with g.A.Ask.answer c.in-Now.reply in
    let adds = makes before now call reply _ c.log.result.pass c.log.result.place c.ask.new.core
    (seen_trans before (view c.loop.pass) now waited.3 held.seen)
    (same_pass_trans before (view c.loop.pass) now waited.4 held.same)
    (answered _ _ _ _ _ _ _ _ c.in-Now.is c.ask.ensures
    (subst (λ (k : Kernel). StandsAt k.core (held_view c.take-held.result).seen) (sym c.value.ensures.value) c.take-held.ensures.value))
    c.log.ensures.logs in
    record {
      same_driver = c.log.ensures.logs.same_driver ∙ (held.lock ∙ sym c.requires);
      adds = subst (λ r. Adds before (entry_of before call (reply_with g.A.Ask.answer r)) c.log.result.place (view c.log.result.pass)) (sym c.log.ensures.result) adds;
    }

pub give_back-token-requires-clause-value : goal.give_back-token-requires-clause-value
give_back-token-requires-clause-value g c =
    put_off _ _ _ _ _ _ c.in-Later.is c.ask.ensures
    (subst (λ (k : Kernel). StandsAt k.core (held_view c.take-held.result).seen) (sym c.value.ensures.value) c.take-held.ensures.value)
