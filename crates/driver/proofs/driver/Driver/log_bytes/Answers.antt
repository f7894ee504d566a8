use Rattle.std.proofs.Common.{ap, sym, ◌∙◌, ◌≡◌}
use Rattle.device_lock.specs.Passes.{held_view, logged_view}
use Rattle.device_lock.specs.Views.{with_item, without_turn}
use Rattle.driver_model.specs.Answers.{reply_with}
use Rattle.driver_model.specs.declared.items.Item.{Item}
use Rattle.driver_model.specs.declared.replies.Answer.TheVariants.{Bytes}
use Rattle.driver.specs.Made.{entry_of}
use Rattle.driver.proofs.Made.{of_named, still_knows}
use Rattle.driver.proofs.driver.Driver.log_bytes.Goals as goal

pub returns-clause-logs : goal.returns-clause-logs
returns-clause-logs g c =
    let item = entry_of (held_view c.args.held) (g.F.Fill.call c.args._fill.now c.args._count) (reply_with (λ _. Bytes c.args._out.now) c.args.reply) in
    let logged = of_named g.W.Names.item item (λ (x : Item). logged_view c.log-logged.result.0 ≡ with_item (held_view c.args.held) x) c.requires.item c.log-logged.ensures.view in
    record {
      same_driver = c.give_back-token.ensures.lock ∙ sym c.requires.lock;
      leaves = c.give_back-token.ensures.view ∙ ap without_turn logged;
      at_place = c.log-logged.ensures.place;
      knows = still_knows (logged_view c.log-logged.result.0) _ c.give_back-token.ensures.view c.log-logged.ensures.knows;
    }
