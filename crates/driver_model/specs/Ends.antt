-- The ends of jobs: what a job's end answers, and what it adds to its caller's pass.
use Rattle.std.specs.Prelude.{◌≡◌, ℕ, true, List, slice_get, Some}
use Rattle.device_lock.specs.declared.view.View.{View}
use Rattle.driver_model.specs.Answers.{Reply}
use Rattle.driver_model.specs.Passes.{Adds, begins_job}
use Rattle.driver_model.specs.declared.items.Entry.{Entry}
use Rattle.driver_model.specs.declared.items.Item.{Item}
use Rattle.driver_model.specs.declared.items.Item.TheVariants.{Called, Ended}

-- The item at this place of the history is an entry of this caller that began a job, and this is its reply.
pub record IsReplyOfJob (history : List Item) (place : ℕ) (caller : List ℕ) (reply : Reply) : Type 0 where
  pub entry : Entry
  pub at_place : slice_get history place ≡ Some (Called entry)
  pub of_caller : entry.caller ≡ caller
  pub begins : begins_job (Called entry) ≡ true
  pub replies : entry.reply ≡ reply

-- the mark that this pass sets behind its job, which it began at this place
abbrev pub mark_of : View Item → ℕ → Item
mark_of pass job = Ended (record { caller = pass.number; place = job })

-- What the end of a job adds to its caller's pass: the mark, at this place of the one history. Its answer is the reply that the pass has
-- seen where the job was begun.
pub record Ends (before : View Item) (job : ℕ) (reply : Reply) (place : ℕ) (after : View Item) : Type 0 where
  pub adds : Adds before (mark_of before job) place after
  pub answers : IsReplyOfJob before.seen job before.number reply
