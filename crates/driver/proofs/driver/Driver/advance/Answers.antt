use Rattle.std.proofs.Common.{sym, subst, ◌∙◌}
use Rattle.device_lock.specs.Passes.{held_view}
use Rattle.driver_model.specs.Answers.{reply_with}
use Rattle.driver_model.specs.Passes.{Adds}
use Rattle.driver_model.specs.declared.calls.Call.TheVariants.{Advance}
use Rattle.driver_model.specs.declared.replies.Answer.TheVariants.{Flips}
use Rattle.driver_objects.specs.Flips.{flipped}
use Rattle.driver.specs.Made.{entry_of}
use Rattle.driver.specs.Passes.{view}
use Rattle.driver.specs.Standing.{StandsAt}
use Rattle.driver.specs.declared.kernel.Kernel.{Kernel}
use Rattle.driver.proofs.Made.{answered, kept_where_refused, makes, put_off, refused_after, same_pass_trans, seen_trans}
use Rattle.driver.proofs.driver.Driver.advance.Goals as goal

pub log_flips-requires-clause-stands : goal.log_flips-requires-clause-stands
log_flips-requires-clause-stands g c =
    answered c.value.result.now.core c.advance.new.self (held_view c.take-held.result).seen (held_view c.take-held.result).number (Advance c.args.device c.args.time) (λ _. Flips (flipped c.advance.new.flips)) c.advance.result c.in-Now.reply c.in-Now.is
    c.advance.ensures.calls
    (subst (λ (k : Kernel). StandsAt k.core (held_view c.take-held.result).seen) (sym c.value.ensures.value) c.take-held.ensures.value)

pub returns-in-Now-clause-makes : goal.returns-in-Now-clause-makes
returns-in-Now-clause-makes g c =
    let held = c.take-held.ensures in
    let waited = c.loop.invariant in
    let before = view c.args.pass in
    let now = held_view c.take-held.result in
    let call = Advance c.args.device c.args.time in
    let adds = makes before now call (reply_with (λ _. Flips (flipped c.advance.new.flips)) c.in-Now.reply) _ c.log_flips.result.pass c.log_flips.result.place c.advance.new.self
    (seen_trans before (view c.loop.pass) now waited.3 held.seen)
    (same_pass_trans before (view c.loop.pass) now waited.4 held.same)
    (answered c.value.result.now.core c.advance.new.self (held_view c.take-held.result).seen (held_view c.take-held.result).number (Advance c.args.device c.args.time) (λ _. Flips (flipped c.advance.new.flips)) c.advance.result c.in-Now.reply c.in-Now.is
    c.advance.ensures.calls
    (subst (λ (k : Kernel). StandsAt k.core (held_view c.take-held.result).seen) (sym c.value.ensures.value) c.take-held.ensures.value))
    c.log_flips.ensures.logs in
    record {
      same_driver = c.log_flips.ensures.logs.same_driver ∙ (held.lock ∙ sym c.requires);
      adds = subst (λ r. Adds before (entry_of before call (reply_with (λ _. Flips (flipped c.advance.new.flips)) r)) c.log_flips.result.place (view c.log_flips.result.pass)) (sym c.log_flips.ensures.result) adds;
    }

pub returns-in-Now-clause-stays : goal.returns-in-Now-clause-stays
returns-in-Now-clause-stays g c =
    refused_after c.in-Now.reply c.log_flips.result.result c.advance.new.flips c.loop.flips c.args.flips.now c.log_flips.ensures.result c.loop.invariant.5
    (kept_where_refused c.advance.result c.in-Now.reply c.advance.new.flips c.loop.flips c.in-Now.is c.advance.ensures.stays)

pub give_back-token-requires-clause-value : goal.give_back-token-requires-clause-value
give_back-token-requires-clause-value g c =
    put_off _ _ _ _ _ _ c.in-Later.is c.advance.ensures.calls
    (subst (λ (k : Kernel). StandsAt k.core (held_view c.take-held.result).seen) (sym c.value.ensures.value) c.take-held.ensures.value)
