-- What holds of the whole's state at each moment of a legal history, and which objects are a device's own: those that have one of its
-- names.
use Rattle.std.proofs.Common.{◌≡◌, ◌⊎◌, inl, inr, ℕ, zero, suc, ◌+◌, ◌≤◌, ◌==◌, Bool, true, false, ◌&&◌, if◌then◌else◌, List, [], ◌∷◌, ◌++◌, length, slice_get, Some, refl, ap, sym, ◌∙◌, subst, arith}
use Rattle.std.proofs.lemmas.Bool.{and_parts, cases_lt, eqb-false, false≢true}
use Rattle.std.proofs.lemmas.List.Sums.{sum_by_push}
use Rattle.std.specs.List.{count_by}
use Rattle.std.specs.Option.{is_some}
use Rattle.driver_model.specs.Answers.{Reply}
use Rattle.driver_model.specs.Histories.{Happens, Leads}
use Rattle.driver_model.specs.Objects.{Object, as_device, as_queue, kind_number}
use Rattle.driver_model.specs.Sound.{AreSound}
use Rattle.driver_model.specs.States.{State, counted}
use Rattle.driver_model.specs.Steps.{Step}
use Rattle.driver_model.specs.declared.calls.Call.{Call}
use Rattle.driver_model.specs.declared.items.Item.{Item}
use Rattle.driver_model.specs.declared.items.Item.TheVariants.{Called, Ended}
use Rattle.driver_model.specs.declared.numbers.TheConstants.{DEVICE, MAX_DEVICES, MAX_OBJECTS, MAX_QUEUES, PRESENTATION_QUEUE}
use Rattle.driver_model.proofs.Named.{object_is}
use Rattle.driver_model.proofs.PartCreates.{IsWithinRoom, get-last}
use Rattle.driver_model.proofs.PartCalls.{step_effect}
use Rattle.driver_model.proofs.PartEffects.{Changed, Effect, Grown, IsMade, IsNewRoot}
use Rattle.driver_model.proofs.PartLooks.{AreRooted, IsRooted}
use Rattle.driver_model.proofs.PartStill.{is_device-kind, is_queue-kind, still_back, still_count, still_get}
use Rattle.driver_model.proofs.SoundChanges.{nothing_there}
use Rattle.driver_model.proofs.SoundSteps.{step_sound}

-- ---- one object more

pub get_more : (objects : List Object) (one : Object) (place : ℕ) (b : Object) → slice_get (objects ++ one ∷ []) place ≡ Some b → (slice_get objects place ≡ Some b) ⊎ ((place ≡ length objects) × (one ≡ b))
get_more [] one zero b e = inr (refl, object_is one b e)
get_more [] one (suc place) b e = nothing_there b e
get_more (object ∷ later) one zero b e = inl e
get_more (object ∷ later) one (suc place) b e = elim (get_more later one place b e) [
  | inl before ↦ inl before
  | inr last ↦ inr (ap (λ n. suc n) last.0, last.1)
]

pub get_still : (objects : List Object) (one : Object) (place : ℕ) (a : Object) → slice_get objects place ≡ Some a → slice_get (objects ++ one ∷ []) place ≡ Some a
get_still [] one place a e = nothing_there a e
get_still (object ∷ later) one zero a e = e
get_still (object ∷ later) one (suc place) a e = get_still later one place a e

-- ---- what holds at each moment

pub record IsSane (s : State) : Type 0 where
  pub rooted : AreRooted s.objects
  pub sound : AreSound s.objects
  pub within : IsWithinRoom s

-- Each object is still there, of its name and device.
abbrev pub Extends : State → State → Type 0
Extends s t = (place : ℕ) (a : Object) → slice_get s.objects place ≡ Some a → (b : Object) × (slice_get t.objects place ≡ Some b) × (b.name ≡ a.name) × (b.device ≡ a.device)

module _ (old new : State) (caller : List ℕ) (call : Call) (reply : Reply) where
  extends_same : new ≡ old → Extends old new
  extends_same same place a e = (a, ap (λ (u : State). slice_get u.objects place) same ∙ e, refl, refl)

  extends_changed : Changed old new caller call → Extends old new
  extends_changed p place a e = let r = still_get p.device old.objects new.objects p.still place a e in (r.0, r.1, r.2.name, r.2.device)

  extends_grown : Grown old new call reply → Extends old new
  extends_grown p place a e = (a, ap (λ (u : State). slice_get u.objects place) p.grows ∙ get_still old.objects p.one place a e, refl, refl)

  pub step_extends : Effect old new caller call reply → Extends old new
  step_extends (inl (none, inl same)) = extends_same same
  step_extends (inl (none, inr changed)) = extends_changed changed
  step_extends (inr grown) = extends_grown grown

  -- ---- devices

  rooted_changed : AreRooted old.objects → Changed old new caller call → AreRooted new.objects
  rooted_changed rooted p place b e =
      let was = still_back p.device old.objects new.objects p.still place b e in
      let is = rooted place was.0 was.1 in
      let root = still_get p.device old.objects new.objects p.still was.0.device is.root is.stands in
      record {
        root = root.0;
        stands = ap (λ n. slice_get new.objects n) was.2.device ∙ root.1;
        itself = root.2.device ∙ (is.itself ∙ sym was.2.device);
        is_device = λ d.
            was.2.device ∙ is.is_device (is_device-kind was.0.content ∙ (ap (λ k. k == DEVICE) (sym was.2.kind) ∙ (sym (is_device-kind b.content) ∙ d)));
      }

  -- where the new object's device is
  root_new : AreRooted old.objects → (p : Grown old new call reply) → (root : Object) × (slice_get (old.objects ++ p.one ∷ []) p.one.device ≡ Some root) × (root.device ≡ p.one.device)
  root_new rooted p = by_origin p.origin where
    by_origin : IsNewRoot old call p.one ⊎ IsMade old call p.one → (root : Object) × (slice_get (old.objects ++ p.one ∷ []) p.one.device ≡ Some root) × (root.device ≡ p.one.device)
    by_origin (inl is) = (p.one, ap (λ n. slice_get (old.objects ++ p.one ∷ []) n) is.1 ∙ get-last old.objects p.one, refl)
    by_origin (inr is) = (is.root, get_still old.objects p.one p.one.device is.root is.stands, (rooted p.one.device is.root is.stands).is_device is.is_device)

  device_new : (p : Grown old new call reply) → is_some (as_device p.one.content) ≡ true → p.one.device ≡ length old.objects
  device_new p d = by_origin p.origin where
    by_origin : IsNewRoot old call p.one ⊎ IsMade old call p.one → p.one.device ≡ length old.objects
    by_origin (inl is) = is.1
    by_origin (inr is) = absurd (false≢true (sym is.no_device ∙ d))

  rooted_grown : AreRooted old.objects → Grown old new call reply → AreRooted new.objects
  rooted_grown rooted p = subst (λ (u : State). AreRooted u.objects) (sym p.grows) all where
    all : AreRooted (old.objects ++ p.one ∷ [])
    all place b e = elim (get_more old.objects p.one place b e) [
      | inl before ↦
          let is = rooted place b before in
          record { root = is.root; stands = get_still old.objects p.one b.device is.root is.stands; itself = is.itself; is_device = is.is_device }
      | inr last ↦
          let root = root_new rooted p in
          let new_one : IsRooted (old.objects ++ p.one ∷ []) (length old.objects) p.one = record { root = root.0; stands = root.1; itself = root.2; is_device = device_new p } in
          subst (λ n. IsRooted (old.objects ++ p.one ∷ []) n b) (sym last.0) (subst (IsRooted (old.objects ++ p.one ∷ []) (length old.objects)) last.1 new_one)
    ]

  -- ---- room

  by_device : (objects : List Object) → count_by (λ object. object.is_live && is_some (as_device object.content)) objects ≡ count_by (λ object. object.is_live && (kind_number object.content == DEVICE)) objects
  by_device objects = λ i. count_by (λ object. object.is_live && is_device-kind object.content i) objects

  by_queue : (objects : List Object) → count_by (λ object. object.is_live && is_some (as_queue object.content)) objects ≡ count_by (λ object. object.is_live && (kind_number object.content == PRESENTATION_QUEUE)) objects
  by_queue objects = λ i. count_by (λ object. object.is_live && is_queue-kind object.content i) objects

  within_changed : IsWithinRoom old → Changed old new caller call → IsWithinRoom new
  within_changed within p = record {
    objects = let few = still_count p.device (λ k. true) old.objects new.objects p.still in let most = within.objects in omega (arith, few, most);
    devices =
        let few = still_count p.device (λ k. k == DEVICE) old.objects new.objects p.still in
        let most = within.devices in
        omega (arith, few, most, by_device old.objects, by_device new.objects);
    queues =
        let few = still_count p.device (λ k. k == PRESENTATION_QUEUE) old.objects new.objects p.still in
        let most = within.queues in
        omega (arith, few, most, by_queue old.objects, by_queue new.objects);
  }

  abbrev one_if : Bool → ℕ
  one_if b = if b then 1 else 0

  -- one more fits where there is room, if it counts
  one_more : (test : Object → Bool) (objects : List Object) (one : Object) (most : ℕ) → count_by test objects ≤ most → (test one ≡ true → (count_by test objects == most) ≡ false) → count_by test (objects ++ one ∷ []) ≤ most
  one_more test objects one most within free = by_test (test one) refl where
    count : count_by test (objects ++ one ∷ []) ≡ count_by test objects + one_if (test one)
    count = sum_by_push (λ object. one_if (test object)) objects one

    by_test : (b : Bool) → test one ≡ b → count_by test (objects ++ one ∷ []) ≤ most
    by_test false e = let none : one_if (test one) ≡ 0 = ap one_if e in omega (arith, count, none, within)
    by_test true e =
        let some : one_if (test one) ≡ 1 = ap one_if e in
        let apart = eqb-false (count_by test objects) most (free e) in
        elim (cases_lt (count_by test objects) most) [
          | inl less ↦ omega (arith, count, some, less)
          | inr not_less ↦ absurd (apart (omega (arith, not_less, within)))
        ]

  within_grown : IsWithinRoom old → Grown old new call reply → IsWithinRoom new
  within_grown within p = subst IsWithinRoom (sym p.grows) (record {
    objects = one_more (λ object. object.is_live && true) old.objects p.one MAX_OBJECTS within.objects (λ e. p.free);
    devices = one_more (λ object. object.is_live && is_some (as_device object.content)) old.objects p.one MAX_DEVICES within.devices (λ e. p.devices (and_parts p.one.is_live (is_some (as_device p.one.content)) e).1);
    queues = one_more (λ object. object.is_live && is_some (as_queue object.content)) old.objects p.one MAX_QUEUES within.queues (λ e. p.queues (and_parts p.one.is_live (is_some (as_queue p.one.content)) e).1);
  })

  pub step_sane : IsSane old → Step old caller call reply new → IsSane new
  step_sane sane step = by_effect (step_effect old new caller reply sane.rooted sane.sound call step) where
    sound : AreSound new.objects
    sound = step_sound old new caller call reply sane.sound step

    by_effect : Effect old new caller call reply → IsSane new
    by_effect (inl (none, inl same)) = subst IsSane (sym same) sane
    by_effect (inl (none, inr changed)) = record { rooted = rooted_changed sane.rooted changed; sound = sound; within = within_changed sane.within changed }
    by_effect (inr grown) = record { rooted = rooted_grown sane.rooted grown; sound = sound; within = within_grown sane.within grown }

-- ---- an item, and a history

pub happens_sane : (s t : State) (item : Item) → IsSane s → Happens s item t → IsSane t
happens_sane s t (Called entry) sane h = subst IsSane (sym h.2) (counted_sane h.0 (step_sane s h.0 entry.caller entry.call entry.reply sane h.1)) where
  counted_sane : (u : State) → IsSane u → IsSane (counted u)
  counted_sane u is = record { rooted = is.rooted; sound = is.sound; within = record { objects = is.within.objects; devices = is.within.devices; queues = is.within.queues } }
happens_sane s t (Ended mark) sane h = subst IsSane (sym h.1) (record { rooted = sane.rooted; sound = sane.sound; within = record { objects = sane.within.objects; devices = sane.within.devices; queues = sane.within.queues } })

pub extends_all : (s : State) → Extends s s
extends_all s place a e = (a, e, refl, refl)

pub happens_extends : (s t : State) (item : Item) → IsSane s → Happens s item t → Extends s t
happens_extends s t (Called entry) sane h =
    subst (λ (u : State). Extends s u) (sym h.2) (step_extends s h.0 entry.caller entry.call entry.reply (step_effect s h.0 entry.caller entry.reply sane.rooted sane.sound entry.call h.1))
happens_extends s t (Ended mark) sane h = subst (λ (u : State). Extends s u) (sym h.1) (extends_all s)

pub extends_then : (s t u : State) → Extends s t → Extends t u → Extends s u
extends_then s t u one two place a e =
    let r = one place a e in
    let k = two place r.0 r.1 in
    (k.0, k.1, k.2 ∙ r.2, k.3 ∙ r.3)

pub leads_extends : (s t : State) (history : List Item) → IsSane s → Leads s history t → Extends s t
unfolding Leads
leads_extends s t [] sane leads = subst (λ (u : State). Extends s u) (sym leads) (extends_all s)
leads_extends s t (item ∷ later) sane leads =
    extends_then s leads.0 t (happens_extends s leads.0 item sane leads.1) (leads_extends leads.0 t later (happens_sane s leads.0 item sane leads.1) leads.2)
