-- Calls leave the objects of devices that they aren't about.
use Rattle.std.proofs.Common.{◌≡◌, ◌≢◌, inl, inr, ℕ, suc, ◌==◌, ◌||◌, Bool, true, false, List, [], ◌∷◌, ◌++◌, slice_get, Option, Some, refl, ap, sym, ◌∙◌, subst}
use Rattle.std.proofs.lemmas.Bool.{eq-eqb, eqb-true, false≢true, ne_eqb, or_parts}
use Rattle.std.specs.List.{list_any}
use Rattle.std.specs.Option.{option_map_or}
use Rattle.driver_model.specs.Answers.{Reply}
use Rattle.driver_model.specs.Histories.{Happens, IsStateOf, Leads}
use Rattle.driver_model.specs.Objects.{Object}
use Rattle.driver_model.specs.Parts.{is_among, is_first, names_of}
use Rattle.driver_model.specs.States.{State}
use Rattle.driver_model.specs.Steps.{Step}
use Rattle.driver_model.specs.declared.calls.Call.{Call}
use Rattle.driver_model.specs.declared.items.Entry.{Entry}
use Rattle.driver_model.specs.declared.items.Item.{Item}
use Rattle.driver_model.specs.declared.items.Item.TheVariants.{Called, Ended}
use Rattle.driver_model.proofs.PartCalls.{step_effect}
use Rattle.driver_model.proofs.PartEffects.{Effect, IsOn}
use Rattle.driver_model.proofs.PartOwned.{Extends, IsSane, get_still, happens_extends, happens_sane, leads_extends}
use Rattle.driver_model.proofs.PartStill.{still_get}
use Rattle.player_laws.specs.Devices.{IsAboutOthers, IsElsewhere, NamesAreOfTheDevice, ObjectsStay, OthersLeaveTheDevice, StepsStayOnOneDevice}
use Rattle.player_laws.proofs.States.{device_place, leads_on, leads_stays, state_sane}

-- the object that a call names first has its first name
named_first : (s : State) (call : Call) (device : ℕ) (on : IsOn s call device) → is_first on.object.name call ≡ true
named_first s call device on = ap (λ (o : Option ℕ). option_map_or (λ first. first == on.object.name) o false) on.first ∙ eq-eqb on.name on.object.name (sym on.has_name)

pub elsewhere_leaves : (old new : State) (caller : List ℕ) (call : Call) (reply : Reply) (place : ℕ) (object : Object) → IsSane old → Step old caller call reply new → slice_get old.objects place ≡ Some object
    → IsElsewhere old object.device call → slice_get new.objects place ≡ Some object
elsewhere_leaves old new caller call reply place object sane step e elsewhere = by_effect (step_effect old new caller reply sane.rooted sane.sound call step) where
  by_effect : Effect old new caller call reply → slice_get new.objects place ≡ Some object
  by_effect (inl (none, inl same)) = ap (λ (u : State). slice_get u.objects place) same ∙ e
  by_effect (inl (none, inr changed)) =
      let on = changed.on in
      let apart : on.object.device ≢ object.device = elsewhere on.place on.object on.stands (named_first old call changed.device on) in
      let other : (object.device == changed.device) ≡ false = ne_eqb object.device changed.device (λ same. apart (on.of_device ∙ sym same)) in
      let r = still_get changed.device old.objects new.objects changed.still place object e in
      r.1 ∙ ap (λ (o : Object). Some o) (r.2.other other)
  by_effect (inr grown) = ap (λ (u : State). slice_get u.objects place) grown.grows ∙ get_still old.objects grown.one place object e

pub steps_stay_on_one_device : StepsStayOnOneDevice
steps_stay_on_one_device history old new caller call reply place object leads step e elsewhere = elsewhere_leaves old new caller call reply place object (state_sane history old leads) step e elsewhere

-- ---- a whole history

-- what is first of a call isn't among the names
not_first : (call : Call) (names : List ℕ) (name : ℕ) → list_any (λ own. is_first own call) names ≡ false → is_among names name ≡ true → is_first name call ≡ true → ⊥
not_first call [] name none among first = false≢true among
not_first call (own ∷ names) name none among first =
    let parts = or_parts (is_first own call) (list_any (λ o. is_first o call) names) none in
    by_test (own == name) refl among parts.0 (λ k. not_first call names name parts.1 k first)
  where
    by_test : (b : Bool) → (own == name) ≡ b → (b || is_among names name) ≡ true → is_first own call ≡ false → (is_among names name ≡ true → ⊥) → ⊥
    by_test true same k off rest = false≢true (sym off ∙ (ap (λ n. is_first n call) (eqb-true own name same) ∙ first))
    by_test false same k off rest = rest k

module _ (names : List ℕ) (final : State) (device : ℕ) (own : (place : ℕ) (a : Object) → slice_get final.objects place ≡ Some a → is_among names a.name ≡ (a.device == device)) where
  -- an entry that names none of the device's objects first is elsewhere
  other_entry : (s : State) → Extends s final → (entry : Entry) → list_any (λ name. is_first name entry.call) names ≡ false → IsElsewhere s device entry.call
  other_entry s extends entry none place a e first = λ same.
      let r = extends place a e in
      let among : is_among names a.name ≡ true = ap (is_among names) (sym r.2) ∙ (own place r.0 r.1 ∙ eq-eqb r.0.device device (r.3 ∙ same)) in
      not_first entry.call names a.name none among first

  leads_leave : (s : State) (later : List Item) → IsSane s → Leads s later final → IsAboutOthers names later → (place : ℕ) (object : Object) → slice_get s.objects place ≡ Some object → object.device ≡ device → slice_get final.objects place ≡ Some object
  unfolding Leads
  leads_leave s [] sane leads others place object e of = ap (λ (u : State). slice_get u.objects place) leads ∙ e
  leads_leave s (item ∷ later) sane leads others place object e of =
      let then_sane : IsSane leads.0 = happens_sane s leads.0 item sane leads.1 in
      let extends : Extends s final = extends_both s leads.0 final (happens_extends s leads.0 item sane leads.1) (leads_extends leads.0 final later then_sane leads.2) in
      leads_leave leads.0 later then_sane leads.2 (λ k entry at. others (suc k) entry at) place object (by_item item leads.1 extends (others 0)) of
    where
      extends_both : (a b c : State) → Extends a b → Extends b c → Extends a c
      extends_both a b c one two k x at =
          let r = one k x at in
          let t = two k r.0 r.1 in
          (t.0, t.1, t.2 ∙ r.2, t.3 ∙ r.3)

      by_item : (one : Item) → Happens s one leads.0 → Extends s final → ((entry : Entry) → slice_get (one ∷ later) 0 ≡ Some (Called entry) → list_any (λ name. is_first name entry.call) names ≡ false) → slice_get leads.0.objects place ≡ Some object
      by_item (Called entry) h extends first =
          let elsewhere : IsElsewhere s object.device entry.call = subst (λ d. IsElsewhere s d entry.call) (sym of) (other_entry s extends entry (first entry refl)) in
          ap (λ (u : State). slice_get u.objects place) h.2 ∙ elsewhere_leaves s h.0 entry.caller entry.call entry.reply place object sane h.1 e elsewhere
      by_item (Ended mark) h extends first = ap (λ (u : State). slice_get u.objects place) h.1 ∙ e

pub others_leave_the_device : OthersLeaveTheDevice
others_leave_the_device front later device s t place object kind leads more others e among =
    let whole : IsStateOf (front ++ later) t = leads_on _ s t front later leads more in
    let there = device_place (front ++ later) t device kind whole in
    let sane = state_sane front s leads in
    let r = leads_extends s t later sane more place object e in
    let of : object.device ≡ there.on = sym r.3 ∙ eqb-true r.0.device there.on (sym (there.are.own place r.0 r.1) ∙ (ap (is_among (names_of (front ++ later) device)) r.2 ∙ among)) in
    leads_leave (names_of (front ++ later) device) t there.on there.are.own s later sane more others place object e of

pub names_are_of_the_device : NamesAreOfTheDevice
names_are_of_the_device history device s place other a b kind leads at there a_is b_is =
    let p = device_place history s device kind leads in
    let one : a.device ≡ p.on = eqb-true a.device p.on (sym (p.are.own place a at) ∙ a_is) in
    let two : b.device ≡ p.on = eqb-true b.device p.on (sym (p.are.own other b there) ∙ b_is) in
    one ∙ sym two

pub objects_stay : ObjectsStay
objects_stay history later s t place object leads more e = leads_stays s t later (state_sane history s leads) more place object e
