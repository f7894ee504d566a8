use Rattle.std.proofs.Common.{sym, subst, ◌∙◌, ℕ, List, length}
use Rattle.device_lock.specs.Passes.{held_view}
use Rattle.driver_core.specs.Answered.{Calls}
use Rattle.driver_model.specs.Answers.{reply_with}
use Rattle.driver_model.specs.Passes.{Adds}
use Rattle.driver_model.specs.declared.replies.Answer.TheVariants.{Bytes}
use Rattle.driver.specs.Made.{entry_of}
use Rattle.driver.specs.Passes.{view}
use Rattle.driver.specs.Standing.{StandsAt}
use Rattle.driver.specs.declared.kernel.Kernel.{Kernel}
use Rattle.driver.proofs.Made.{answered, kept_where_refused, makes, put_off, refused_after, same_pass_trans, seen_trans}
use Rattle.driver.proofs.driver.Driver.fill.Goals as goal

pub log_bytes-requires-clause-stands : goal.log_bytes-requires-clause-stands
log_bytes-requires-clause-stands g c =
    answered c.value.result.now.core c.fill.new.core (held_view c.take-held.result).seen (held_view c.take-held.result).number (g.F.Fill.call c.args.fill.now (length c.args.out.now)) (λ _. Bytes c.fill.new.out) c.fill.result c.in-Now.reply c.in-Now.is
    (subst (λ (o : List ℕ). Calls c.value.result.now.core c.fill.new.core (g.F.Fill.call c.args.fill.now (length o)) (λ _. Bytes c.fill.new.out) c.fill.result) c.loop.invariant.5 c.fill.ensures.calls)
    (subst (λ (k : Kernel). StandsAt k.core (held_view c.take-held.result).seen) (sym c.value.ensures.value) c.take-held.ensures.value)

pub returns-in-Now-clause-makes : goal.returns-in-Now-clause-makes
returns-in-Now-clause-makes g c =
    let held = c.take-held.ensures in
    let waited = c.loop.invariant in
    let before = view c.args.pass in
    let now = held_view c.take-held.result in
    let call = g.F.Fill.call c.args.fill.now (length c.args.out.now) in
    let adds = makes before now call (reply_with (λ _. Bytes c.fill.new.out) c.in-Now.reply) _ c.log_bytes.result.pass c.log_bytes.result.place c.fill.new.core
    (seen_trans before (view c.loop.pass) now waited.3 held.seen)
    (same_pass_trans before (view c.loop.pass) now waited.4 held.same)
    (answered c.value.result.now.core c.fill.new.core (held_view c.take-held.result).seen (held_view c.take-held.result).number (g.F.Fill.call c.args.fill.now (length c.args.out.now)) (λ _. Bytes c.fill.new.out) c.fill.result c.in-Now.reply c.in-Now.is
    (subst (λ (o : List ℕ). Calls c.value.result.now.core c.fill.new.core (g.F.Fill.call c.args.fill.now (length o)) (λ _. Bytes c.fill.new.out) c.fill.result) c.loop.invariant.5 c.fill.ensures.calls)
    (subst (λ (k : Kernel). StandsAt k.core (held_view c.take-held.result).seen) (sym c.value.ensures.value) c.take-held.ensures.value))
    c.log_bytes.ensures.logs in
    record {
      same_driver = c.log_bytes.ensures.logs.same_driver ∙ (held.lock ∙ sym c.requires);
      adds = subst (λ r. Adds before (entry_of before call (reply_with (λ _. Bytes c.fill.new.out) r)) c.log_bytes.result.place (view c.log_bytes.result.pass)) (sym c.log_bytes.ensures.result) adds;
    }

pub returns-in-Now-clause-stays : goal.returns-in-Now-clause-stays
returns-in-Now-clause-stays g c =
    refused_after c.in-Now.reply c.log_bytes.result.result c.fill.new.out c.loop.out c.args.out.now c.log_bytes.ensures.result c.loop.invariant.5
    (kept_where_refused c.fill.result c.in-Now.reply c.fill.new.out c.loop.out c.in-Now.is c.fill.ensures.stays)

pub give_back-token-requires-clause-value : goal.give_back-token-requires-clause-value
give_back-token-requires-clause-value g c =
    put_off _ _ _ _ _ _ c.in-Later.is c.fill.ensures.calls
    (subst (λ (k : Kernel). StandsAt k.core (held_view c.take-held.result).seen) (sym c.value.ensures.value) c.take-held.ensures.value)
