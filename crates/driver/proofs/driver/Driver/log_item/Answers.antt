use Rattle.std.proofs.Common.{ap, sym, ◌∙◌, ◌≡◌}
use Rattle.device_lock.specs.Passes.{held_lock, held_view, logged_view}
use Rattle.device_lock.specs.Views.{with_item, without_turn}
use Rattle.driver_model.specs.declared.items.Item.{Item}
use Rattle.driver.specs.Made.{Logs}
use Rattle.driver.proofs.Jobs.{if_some}
use Rattle.driver.proofs.Made.{still_knows}
use Rattle.driver.proofs.driver.Driver.log_item.Goals as goal

pub returns : goal.returns
returns g c =
    if_some g.W.Names.item (λ (x : Item). logged_view c.log-logged.result.0 ≡ with_item (held_view c.args.held) x)
    (λ x. Logs (held_lock c.args.held) (held_view c.args.held) x (record { token = c.give_back-token.result }) c.log-logged.result.1)
    (λ x logged. record {
      same_driver = c.give_back-token.ensures.lock ∙ sym c.requires.lock;
      leaves = c.give_back-token.ensures.view ∙ ap without_turn logged;
      at_place = c.log-logged.ensures.place;
      knows = still_knows (logged_view c.log-logged.result.0) _ c.give_back-token.ensures.view c.log-logged.ensures.knows;
    })
    c.log-logged.ensures.view
