-- How a call's step follows from what its looks found.
use Rattle.std.proofs.Common.{◌≡◌, ◌⊎◌, inl, inr, ℕ, ◌<◌, length, arith, true, Option, Some, Ok, Err, MatchResult, refl, ap, sym, ◌∙◌, subst}
use Rattle.vd_status.specs.declared.refusal.Refusal.{Refusal}
use Rattle.vd_status.specs.declared.refusal.Refusal.TheVariants.{OutOfMemory}
use Rattle.driver_model.specs.Answers.{Goes, IsRefused, Reply}
use Rattle.driver_model.specs.Creates.{Creates, Makes, MayBeFull}
use Rattle.driver_model.specs.Objects.{Content, Object}
use Rattle.driver_model.specs.Refusals.{Looked, ◌>>=◌, ◌>>◌, first_handle}
use Rattle.driver_model.specs.States.{State, Found, content_at, named}
use Rattle.driver_model.proofs.Looks.{err_not_ok, first_handle-Ok, ok_is}
use Rattle.driver_model.proofs.Named.{named-Some}
use Rattle.plain_driver.specs.Added.{IsAdded}
use Rattle.plain_driver.specs.Looks.{device_at, placed}
use Rattle.plain_driver.specs.States.{state_of}
use Rattle.plain_driver.specs.declared.driver.Plain.{Plain}
use Rattle.plain_driver.proofs.Changed.{length-objects_of}
use Rattle.std.proofs.lemmas.Option.{slice_get_within}
use Rattle.std.specs.Option.{is_some, option_and_then, option_map_or}

ok_not_err : {A : Type 0} (a : A) (refusal : Refusal) → (let m : Looked A = Ok a in m ≡ Err refusal) → ⊥
ok_not_err a refusal h = cc

err_is : {A : Type 0} (a b : Refusal) → (let m : Looked A = Err a in m ≡ Err b) → a ≡ b
err_is a b h = cc

-- what was found at a place that a look told
pub placed-Ok : {T : Type 0} (looked : Looked (Found T)) (place : ℕ) → Ok place ≡ placed looked → (found : Found T) × (looked ≡ Ok found) × (found.place ≡ place)
placed-Ok (Ok found) place e = (found, refl, ok_is found.place place (sym e))
placed-Ok (Err refusal) place e = absurd (err_not_ok refusal place (sym e))

pub placed-Err : {T : Type 0} (looked : Looked (Found T)) (refusal : Refusal) → Err refusal ≡ placed looked → looked ≡ Err refusal
placed-Err (Ok found) refusal e = absurd (ok_not_err found.place refusal (sym e))
placed-Err (Err other) refusal e = ap Err (err_is other refusal (sym e))

-- one look behind another
pub then_ok : {A B : Type 0} (m : Looked A) (next : A → Looked B) (a : A) (r : Looked B) → m ≡ Ok a → r ≡ next a → r ≡ (m >>= next)
then_ok m next a r e h = h ∙ ap (λ l. l >>= next) (sym e)

pub then_err : {A B : Type 0} (m : Looked A) (next : A → Looked B) (refusal : Refusal) → m ≡ Err refusal → Err refusal ≡ (m >>= next)
then_err m next refusal e = ap (λ l. l >>= next) (sym e)

pub next_ok : {B : Type 0} (m : Looked (Unit {0})) (next r : Looked B) → Ok tt ≡ m → r ≡ next → r ≡ (m >> next)
next_ok m next r e h = h ∙ ap (λ l. l >> next) e

pub next_err : {B : Type 0} (m : Looked (Unit {0})) (next : Looked B) (refusal : Refusal) → Err refusal ≡ m → Err refusal ≡ (m >> next)
next_err m next refusal e = ap (λ l. l >> next) e

module _ (old : State) (reply : Reply) (new : State) where
  pub goes_ok : {A : Type 0} (looked : Looked A) (Does : A → Type 0) (a : A) → looked ≡ Ok a → Does a → Goes old reply new looked Does
  goes_ok looked Does a e does = subst (λ l. MatchResult l Does (IsRefused old reply new)) (sym e) does

  pub goes_err : {A : Type 0} (looked : Looked A) (Does : A → Type 0) (refusal : Refusal) → looked ≡ Err refusal → reply ≡ Err refusal → new ≡ old → Goes old reply new looked Does
  goes_err looked Does refusal e r n = subst (λ l. MatchResult l Does (IsRefused old reply new)) (sym e) (r, n)

  -- a create whose looks found no fault
  pub creates_ok : (looked : Looked ℕ) (IsContent : Content → Type 0) (device : ℕ) (content : Content) → looked ≡ Ok device → IsContent content → IsAdded old reply new device content
      → ((true ≡ true) × IsRefused old reply new OutOfMemory) ⊎ Creates old reply new looked IsContent
  creates_ok looked IsContent device content e is added = elim added [
    | inl makes ↦ inr (goes_ok looked (λ on. Makes old reply new on IsContent ⊎ MayBeFull old reply new) device e (inl (record {
      name = makes.name;
      content = makes.content;
      is_content = subst IsContent (sym makes.is_content) is;
      kind = makes.kind;
      fresh = makes.fresh;
      tells = makes.tells;
      after = makes.after;
    })))
    | inr other ↦ elim other [
      | inl full ↦ inr (goes_ok looked (λ on. Makes old reply new on IsContent ⊎ MayBeFull old reply new) device e (inr full))
      | inr none ↦ inl (refl, none)
    ]
  ]

-- What a first handle names stands at the place that a look told.
pub record IsAt {T : Type 0} (as_kind : Content → Option T) (name : ℕ) (s : State) (place : ℕ) : Type 0 where
  pub found : Found T
  pub is : first_handle s (named s as_kind name) ≡ Ok found
  pub at : found.place ≡ place
  pub content : content_at s as_kind place ≡ Some found.value
  pub device : device_at s place ≡ found.device
  pub below : place < length s.objects

module _ {T : Type 0} (as_kind : Content → Option T) (name : ℕ) (s : State) where
  -- what a name finds stands at its place
  pub content_at-named : (found : Found T) → named s as_kind name ≡ Some found → content_at s as_kind found.place ≡ Some found.value
  content_at-named found e =
      let is = named-Some as_kind name s found e in
      ap (option_and_then (λ (object : Object). as_kind object.content)) is.1 ∙ is.2.is_kind

  pub device_at-named : (found : Found T) → named s as_kind name ≡ Some found → device_at s found.place ≡ found.device
  device_at-named found e =
      let is = named-Some as_kind name s found e in
      ap (λ o. option_map_or (λ (object : Object). object.device) o 0) is.1 ∙ sym is.2.of_device

  pub below-named : (found : Found T) → named s as_kind name ≡ Some found → found.place < length s.objects
  below-named found e = let is = named-Some as_kind name s found e in slice_get_within s.objects found.place is.0 is.1

  pub at_place : (place : ℕ) → Ok place ≡ placed (first_handle s (named s as_kind name)) → IsAt as_kind name s place
  at_place place e =
      let on = placed-Ok (first_handle s (named s as_kind name)) place e in
      let is = first_handle-Ok s (named s as_kind name) on.0 on.1 in
      record {
        found = on.0;
        is = on.1;
        at = on.2;
        content = subst (λ p. content_at s as_kind p ≡ Some on.0.value) on.2 (content_at-named on.0 is);
        device = subst (λ p. device_at s p ≡ on.0.device) on.2 (device_at-named on.0 is);
        below = subst (λ p. p < length s.objects) on.2 (below-named on.0 is);
      }

pub some_one : {T : Type 0} (a b : T) → (let o : Option T = Some a in o ≡ Some b) → a ≡ b
some_one a b e = cc

-- for the program: the place is in its list
pub at_below : {T : Type 0} (as_kind : Content → Option T) (name : ℕ) (s : Plain) (place : ℕ) → Ok place ≡ placed (first_handle (state_of s) (named (state_of s) as_kind name)) → place < length s.objects.items
at_below as_kind name s place e = omega (arith, (at_place as_kind name (state_of s) place e).below, length-objects_of s.objects.items)

pub at_some : {T : Type 0} (as_kind : Content → Option T) (name : ℕ) (s : State) (place : ℕ) → Ok place ≡ placed (first_handle s (named s as_kind name)) → is_some (content_at s as_kind place) ≡ true
at_some as_kind name s place e = ap is_some (at_place as_kind name s place e).content
