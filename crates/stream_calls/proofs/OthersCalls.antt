-- What a player's calls do.
use Rattle.std.proofs.Common.{◌≡◌, inl, inr, ℕ, Bool, true, false, List, Option, Some, None, Ok, Err, MatchOption, refl, ap, sym, ◌∙◌, subst}
use Rattle.vd_status.specs.declared.refusal.Refusal.{Refusal}
use Rattle.vd_status.specs.declared.refusal.Refusal.TheVariants.{OutOfMemory}
use Rattle.driver_model.specs.Answers.{Goes, IsRefused, Reply, Tells}
use Rattle.driver_model.specs.Clock as clock
use Rattle.driver_model.specs.Objects.{Content, Device, DeviceObject, Object, as_device}
use Rattle.driver_model.specs.Parts.{name_given}
use Rattle.driver_model.specs.Refusals.{Looked}
use Rattle.driver_model.specs.States.{Found, State, named, with_content}
use Rattle.driver_model.specs.Steps.{Does, Step}
use Rattle.driver_model.specs.Wishes.{first_wish}
use Rattle.driver_model.specs.declared.calls.Call.{Call}
use Rattle.driver_model.specs.declared.calls.Call.TheVariants as call
use Rattle.driver_model.specs.declared.replies.Answer.TheVariants.{Holds}
use Rattle.driver_model.proofs.Looks.{first_handle-Ok}
use Rattle.driver_model.proofs.Named.{named-Some, object_is}
use Rattle.driver_model.proofs.PartFirsts.{advance_named}
use Rattle.stream_calls.specs.OthersLeave.{IsContentLeft}
use Rattle.stream_calls.specs.Strangers.{is_players}
use Rattle.stream_calls.proofs.OthersLeft.{AreLeft, all_changed, all_same, all_shown_left, all_then}

-- No name is given, the objects are left, and no job begins.
pub record IsMild (may_preempt : Bool) (old new : State) (reply : Reply) : Type 0 where
  pub gives : name_given reply ≡ None
  pub objects : AreLeft may_preempt old.objects new.objects
  pub notes : new.notes ≡ old.notes

no_other : {A : Type 0} → (let b : Bool = false in b ≡ true) → A
no_other e = absurd (let k : (let b : Bool = false in b ≡ true) = e in cc)

device_left : (may_preempt : Bool) (content : Content) (on now : Device) → as_device content ≡ Some on
    → (may_preempt ≡ false → now.is_preempted ≡ on.is_preempted) → IsContentLeft may_preempt content (DeviceObject now)
device_left may_preempt (DeviceObject of) on now e same = (now, refl, λ k. same k ∙ let w : of ≡ on = cc (e) in ap (λ (d : Device). d.is_preempted) (sym w))
device_left may_preempt content on now e same = absurd (let k : (let o : Option Device = None in o ≡ Some on) = e in cc)

module _ (may_preempt : Bool) (old new : State) (caller : List ℕ) (reply : Reply) where
  abbrev Mild : Type 0
  Mild = IsMild may_preempt old new reply

  same_mild : name_given reply ≡ None → new ≡ old → Mild
  same_mild gives same = record {
    gives = gives;
    objects = subst (λ (u : State). AreLeft may_preempt old.objects u.objects) (sym same) (all_same may_preempt old.objects);
    notes = ap (λ (u : State). u.notes) same;
  }

  refused_mild : (r : Refusal) → IsRefused old reply new r → Mild
  refused_mild r p = same_mild (ap name_given p.0) p.1

  goes_mild : {A : Type 0} (looked : Looked A) (D : A → Type 0) → ((on : A) → looked ≡ Ok on → D on → Mild) → Goes old reply new looked D → Mild
  goes_mild (Ok on) D row p = row on refl p
  goes_mild (Err r) D row p = refused_mild r p

  wish_mild : (place : Option ℕ) → MatchOption place ⊥ (λ found. Tells old reply new (Holds (Some found))) → Mild
  wish_mild None p = absurd p
  wish_mild (Some found) p = same_mild (ap name_given p.0) p.1

  -- the device that a name finds has this now
  device_mild : (handle : ℕ) (on : Found Device) (now : Device) → named old as_device handle ≡ Some on
      → (may_preempt ≡ false → now.is_preempted ≡ on.value.is_preempted)
      → AreLeft may_preempt old.objects (with_content old on.place (DeviceObject now)).objects
  device_mild handle on now e same =
      let is = named-Some as_device handle old on e in
      all_changed may_preempt (λ object. record object { content = DeviceObject now }) on.place old.objects (λ a at.
      let one : is.0 ≡ a = object_is is.0 a (sym is.1 ∙ at) in
      record { name = refl; device = refl; is_live = refl; content = device_left may_preempt a.content on.value now (ap (λ (o : Object). as_device o.content) (sym one) ∙ is.2.is_kind) same })

  advance_mild : (device time : ℕ) → clock.Advance old reply new device time → Mild
  advance_mild device time p =
      goes_mild (clock.advance old device time) _ (λ on h a.
      let e = advance_named old device time on h in
      let content : Content = DeviceObject (record on.value { time = time }) in
      let timed : State = with_content old on.place content in
      record {
        gives = ap name_given a.1;
        objects = subst (λ (u : State). AreLeft may_preempt old.objects u.objects) (sym a.2) (all_then may_preempt old.objects timed.objects (clock.ticked_at old on time).objects
            (device_mild device on (record on.value { time = time }) e (λ k. refl))
            (all_shown_left may_preempt time (clock.all_due old on.place time) timed.objects));
        notes = ap (λ (u : State). u.notes) a.2;
      }) p

  preempt_mild : (device : ℕ) → may_preempt ≡ true → clock.Preempt old reply new device → Mild
  preempt_mild device may p =
      goes_mild (clock.device old device) _ (λ on h a.
      let e = first_handle-Ok old (named old as_device device) on h in
      record {
        gives = ap name_given a.0;
        objects = subst (λ (u : State). AreLeft may_preempt old.objects u.objects) (sym a.1) (device_mild device on (record on.value { is_preempted = true }) e (λ k. no_other (sym k ∙ may)));
        notes = ap (λ (u : State). u.notes) a.1;
      }) p

  does_mild : (asked : Call) → is_players may_preempt asked ≡ true → Does old caller asked reply new → Mild
  does_mild (call.Advance device time) is p = advance_mild device time p
  does_mild (call.Preempt device) is p = preempt_mild device is p
  does_mild (call.Poll wishes) is p = goes_mild (first_wish old wishes) _ (λ on h a. same_mild (ap name_given a.0) a.1) p
  does_mild (call.WaitUntil wishes) is p = goes_mild (first_wish old wishes) _ (λ on h a. wish_mild on a) p
  does_mild asked is p = no_other is

  pub players_mild : (asked : Call) → is_players may_preempt asked ≡ true → Step old caller asked reply new → Mild
  players_mild asked is (inl lacks) = refused_mild OutOfMemory lacks.1
  players_mild asked is (inr does) = does_mild asked is does
