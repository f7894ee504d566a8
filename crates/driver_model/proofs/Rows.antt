-- How a row of the step is made: of what the call has found, or of its refusal.
use Rattle.std.proofs.Common.{◌≡◌, ℕ, Bool, true, false, if◌then◌else◌, Option, Some, None, Ok, Err, ap, sym, ◌∙◌, subst}
use Rattle.vd_status.specs.declared.refusal.Refusal.{Refusal}
use Rattle.vd_status.specs.declared.refusal.Refusal.TheVariants.{InvalidHandle, Preempted}
use Rattle.driver_model.specs.Answers.{Goes, IsRefused, Reply}
use Rattle.driver_model.specs.Refusals.{Looked, ◌>>=◌, ◌>>◌, in_use, refused_if}
use Rattle.driver_model.specs.States.{State, Found, is_preempted}

module _ (old : State) (reply : Reply) (new : State) where
  pub goes_on : {A : Type 0} (looked : Looked A) (Does : A → Type 0) (on : A) → looked ≡ Ok on → Does on → Goes old reply new looked Does
  goes_on looked Does on is row = subst (λ l. Goes old reply new l Does) (sym is) row

  pub goes_not : {A : Type 0} (looked : Looked A) (Does : A → Type 0) (refusal : Refusal) → looked ≡ Err refusal → IsRefused old reply new refusal → Goes old reply new looked Does
  goes_not looked Does refusal is row = subst (λ l. Goes old reply new l Does) (sym is) row

-- ---- one look after the other

pub next-Ok : {A B : Type 0} (m : Looked A) (next : A → Looked B) (a : A) → m ≡ Ok a → (m >>= next) ≡ next a
next-Ok m next a is = ap (λ l. l >>= next) is

pub next-Err : {A B : Type 0} (m : Looked A) (next : A → Looked B) (refusal : Refusal) → m ≡ Err refusal → (m >>= next) ≡ Err refusal
next-Err m next refusal is = ap (λ l. l >>= next) is

pub then-Ok : {B : Type 0} (m : Looked (Unit {0})) (next : Looked B) → m ≡ Ok tt → (m >> next) ≡ next
then-Ok m next is = ap (λ l. l >> next) is

pub then-Err : {B : Type 0} (m : Looked (Unit {0})) (next : Looked B) (refusal : Refusal) → m ≡ Err refusal → (m >> next) ≡ Err refusal
then-Err m next refusal is = ap (λ l. l >> next) is

pub refused_if-false : (test : Bool) (refusal : Refusal) → test ≡ false → refused_if test refusal ≡ Ok tt
refused_if-false test refusal is = ap (λ t. refused_if t refusal) is

pub refused_if-true : (test : Bool) (refusal : Refusal) → test ≡ true → refused_if test refusal ≡ Err refusal
refused_if-true test refusal is = ap (λ t. refused_if t refusal) is

-- ---- handles

module _ {T : Type 0} (s : State) (arg : ℕ) where
  pub in_use-invalid : (found : Option (Found T)) → found ≡ None → in_use s arg found ≡ Err (InvalidHandle arg)
  in_use-invalid found is = ap (in_use s arg) is

  pub in_use-preempted : (found : Option (Found T)) (on : Found T) → found ≡ Some on → is_preempted s on.device ≡ true → in_use s arg found ≡ Err Preempted
  in_use-preempted found on is preempted = ap (in_use s arg) is ∙ ap (λ b. if b then Err Preempted else Ok on) preempted

  pub in_use-is : (found : Option (Found T)) (on : Found T) → found ≡ Some on → is_preempted s on.device ≡ false → in_use s arg found ≡ Ok on
  in_use-is found on is preempted = ap (in_use s arg) is ∙ ap (λ b. if b then Err Preempted else Ok on) preempted
