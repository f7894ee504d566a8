-- What a call may answer, and the state behind it.
use Rattle.std.specs.Prelude.{◌≡◌, Result, Ok, Err, MatchResult}
use Rattle.vd_status.specs.declared.refusal.Refusal.{Refusal}
use Rattle.driver_model.specs.Refusals.{Looked}
use Rattle.driver_model.specs.States.{State}
use Rattle.driver_model.specs.declared.replies.Answer.{Answer}
use Rattle.driver_model.specs.declared.replies.Answer.TheVariants.{Done}

-- a call's answer, or why it was refused
abbrev pub Reply : Type 0
Reply = Result Answer Refusal

-- the reply that stands for what a call of the driver answers, where its values are such answers
abbrev pub reply_with : {A : Type 0} → (A → Answer) → Result A Refusal → Reply
reply_with answer (Ok value) = Ok (answer value)
reply_with answer (Err refusal) = Err refusal

-- The state before a call, its reply, and the state behind it.
module _ (old : State) (reply : Reply) (new : State) where
  -- The call is refused, and the state stays.
  abbrev pub IsRefused : Refusal → Type 0
  IsRefused refusal = (reply ≡ Err refusal) × (new ≡ old)

  -- The call answers this, and the state stays.
  abbrev pub Tells : Answer → Type 0
  Tells answer = (reply ≡ Ok answer) × (new ≡ old)

  -- The call is done, and leaves this state.
  abbrev pub Leaves : State → Type 0
  Leaves after = (reply ≡ Ok Done) × (new ≡ after)

  -- A call that finds a fault in its arguments is refused; what one does that finds none is Does.
  abbrev pub Goes : {A : Type 0} → Looked A → (A → Type 0) → Type 0
  Goes looked Does = MatchResult looked Does IsRefused
