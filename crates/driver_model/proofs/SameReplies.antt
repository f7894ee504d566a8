-- Two steps of one call from one state, and how a row of the step says what both have in common.
use Rattle.std.proofs.Common.{◌≡◌, Ok, Err, sym, ◌∙◌}
use Rattle.vd_status.specs.declared.refusal.Refusal.{Refusal}
use Rattle.driver_model.specs.Answers.{Goes, IsRefused, Reply}
use Rattle.driver_model.specs.Refusals.{Looked}
use Rattle.driver_model.specs.States.{State}
use Rattle.driver_model.specs.declared.replies.Answer.{Answer}

pub ok_not_err : (x : Answer) (e : Refusal) → (let r : Reply = Ok x in r ≡ Err e) → ⊥
ok_not_err x e h = cc

pub err_one : (a b : Refusal) → (let r : Reply = Err a in r ≡ Err b) → a ≡ b
err_one a b h = cc

pub ok_one : (x y : Answer) → (let r : Reply = Ok x in r ≡ Ok y) → x ≡ y
ok_one x y h = cc

-- With one reply they leave one state, and their refusals are one.
pub record TwoSteps (new other : State) (reply again : Reply) : Type 0 where
  pub one_state : reply ≡ again → new ≡ other
  pub one_refusal : (a b : Refusal) → reply ≡ Err a → again ≡ Err b → a ≡ b

module _ (old new other : State) (reply again : Reply) where
  -- both are done
  pub both_ok : (x y : Answer) → reply ≡ Ok x → again ≡ Ok y → (reply ≡ again → new ≡ other) → TwoSteps new other reply again
  both_ok x y p q one = record { one_state = one; one_refusal = λ a b ea eb. absurd (ok_not_err x a (sym p ∙ ea)) }

  -- one is done, and the other isn't
  pub ok_and_err : (x : Answer) (b : Refusal) → reply ≡ Ok x → again ≡ Err b → TwoSteps new other reply again
  ok_and_err x b p q = record {
    one_state = λ e. absurd (ok_not_err x b (sym p ∙ (e ∙ q)));
    one_refusal = λ a c ea ec. absurd (ok_not_err x a (sym p ∙ ea));
  }

  pub err_and_ok : (a : Refusal) (y : Answer) → reply ≡ Err a → again ≡ Ok y → TwoSteps new other reply again
  err_and_ok a y p q = record {
    one_state = λ e. absurd (ok_not_err y a (sym q ∙ (sym e ∙ p)));
    one_refusal = λ c b ec eb. absurd (ok_not_err y b (sym q ∙ eb));
  }

  -- both are refused, and for one reason
  pub both_refused : (r : Refusal) → IsRefused old reply new r → IsRefused old again other r → TwoSteps new other reply again
  both_refused r p q = record {
    one_state = λ e. p.1 ∙ sym q.1;
    one_refusal = λ a b ea eb. err_one a b (sym ea ∙ (p.0 ∙ (sym q.0 ∙ eb)));
  }

  pub goes_two : {A : Type 0} (looked : Looked A) (D E : A → Type 0)
      → ((on : A) → D on → E on → TwoSteps new other reply again)
      → Goes old reply new looked D → Goes old again other looked E → TwoSteps new other reply again
  goes_two (Ok on) D E two p q = two on p q
  goes_two (Err r) D E two p q = both_refused r p q
