-- What every state of a legal history has, and how its objects stay through a history.
use Rattle.std.proofs.Common.{◌≡◌, ◌≢◌, inl, inr, ℕ, ◌==◌, ◌||◌, Bool, true, false, List, [], ◌∷◌, ◌++◌, AllPairs, slice_get, Some, refl, ap, sym, ◌∙◌, subst, arith}
use Rattle.std.proofs.lemmas.Bool.{eq-eqb, eqb-true}
use Rattle.handle_table.specs.Name.{kind_of}
use Rattle.driver_model.specs.Answers.{Reply}
use Rattle.driver_model.specs.Histories.{Happens, IsStateOf, Leads}
use Rattle.driver_model.specs.Objects.{Object}
use Rattle.driver_model.specs.Parts.{names_of}
use Rattle.driver_model.specs.States.{State, empty_state}
use Rattle.driver_model.specs.Steps.{Step}
use Rattle.driver_model.specs.declared.calls.Call.{Call}
use Rattle.driver_model.specs.declared.items.Item.{Item}
use Rattle.driver_model.specs.declared.items.Item.TheVariants.{Called, Ended}
use Rattle.driver_model.specs.declared.numbers.TheConstants.{DEVICE}
use Rattle.driver_model.proofs.Changes.{names}
use Rattle.driver_model.proofs.Leading.{names_are_given, names_are_given_once}
use Rattle.driver_model.proofs.PartCalls.{step_effect}
use Rattle.driver_model.proofs.PartEffects.{Effect}
use Rattle.driver_model.proofs.PartNames.{AreNames, IsAt, leads_names, place_of_name}
use Rattle.driver_model.proofs.PartOwned.{IsSane, get_still, happens_sane}
use Rattle.driver_model.proofs.PartStill.{still_get}
use Rattle.driver_model.proofs.SoundChanges.{nothing_there}
use Rattle.player_laws.specs.Devices.{IsStill}

-- ---- one moment

empty_sane : IsSane empty_state
empty_sane = record { rooted = λ place a e. nothing_there a e; sound = λ place a e. nothing_there a e; within = record { objects = omega arith; devices = omega arith; queues = omega arith } }

leads_sane : (s t : State) (history : List Item) → IsSane s → Leads s history t → IsSane t
unfolding Leads
leads_sane s t [] sane leads = subst IsSane (sym leads) sane
leads_sane s t (item ∷ later) sane leads = leads_sane leads.0 t later (happens_sane s leads.0 item sane leads.1) leads.2

pub state_sane : (history : List Item) (s : State) → IsStateOf history s → IsSane s
state_sane history s leads = leads_sane empty_state s history empty_sane leads

pub names_apart : (history : List Item) (s : State) → IsStateOf history s → AllPairs (λ a b. a ≢ b) (names s.objects)
names_apart history s leads = subst (AllPairs (λ a b. a ≢ b)) (sym (names_are_given history s leads)) (names_are_given_once history (s, leads))

-- ---- two histories, one behind the other

pub leads_on : (s m t : State) (front later : List Item) → Leads s front m → Leads m later t → Leads s (front ++ later) t
unfolding Leads
leads_on s m t [] later one other = subst (λ (u : State). Leads u later t) one other
leads_on s m t (item ∷ front) later one other = (one.0, one.1, leads_on one.0 m t front later one.2 other)

-- ---- objects stay

still_object : (a : Object) → IsStill a a
still_object a = record { name = refl; device = refl; dead = λ is. is }

still_again : (a b c : Object) → IsStill a b → IsStill b c → IsStill a c
still_again a b c one two = record { name = two.name ∙ one.name; device = two.device ∙ one.device; dead = λ is. two.dead (one.dead is) }

abbrev pub Stay : State → State → Type 0
Stay s t = (place : ℕ) (object : Object) → slice_get s.objects place ≡ Some object → (now : Object) × (slice_get t.objects place ≡ Some now) × IsStill object now

not_live : (a b : Bool) → (b ≡ true → a ≡ true) → a ≡ false → b ≡ false
not_live a false back is = refl
not_live a true back is = absurd (let k : true ≡ false = sym (back refl) ∙ is in cc)

pub step_stays : (old new : State) (caller : List ℕ) (call : Call) (reply : Reply) → IsSane old → Step old caller call reply new → Stay old new
step_stays old new caller call reply sane step = by_effect (step_effect old new caller reply sane.rooted sane.sound call step) where
  by_effect : Effect old new caller call reply → Stay old new
  by_effect (inl (none, inl same)) place object e = (object, ap (λ (u : State). slice_get u.objects place) same ∙ e, still_object object)
  by_effect (inl (none, inr changed)) place object e =
      let r = still_get changed.device old.objects new.objects changed.still place object e in
      (r.0, r.1, record { name = r.2.name; device = r.2.device; dead = not_live object.is_live r.0.is_live r.2.live })
  by_effect (inr grown) place object e =
      (object, ap (λ (u : State). slice_get u.objects place) grown.grows ∙ get_still old.objects grown.one place object e, still_object object)

pub happens_stays : (s t : State) (item : Item) → IsSane s → Happens s item t → Stay s t
happens_stays s t (Called entry) sane h = subst (λ (u : State). Stay s u) (sym h.2) (step_stays s h.0 entry.caller entry.call entry.reply sane h.1)
happens_stays s t (Ended mark) sane h = subst (λ (u : State). Stay s u) (sym h.1) (λ place object e. (object, e, still_object object))

pub leads_stays : (s t : State) (later : List Item) → IsSane s → Leads s later t → Stay s t
unfolding Leads
leads_stays s t [] sane leads = subst (λ (u : State). Stay s u) (sym leads) (λ place object e. (object, e, still_object object))
leads_stays s t (item ∷ later) sane leads = λ place object e.
    let one = happens_stays s leads.0 item sane leads.1 place object e in
    let two = leads_stays leads.0 t later (happens_sane s leads.0 item sane leads.1) leads.2 place one.0 one.1 in
    (two.0, two.1, still_again object one.0 two.0 one.2 two.2)

-- ---- a device's names

empty_names : (v on : ℕ) → AreNames v on (v ∷ []) []
empty_names v on = record {
  own = λ place a e. nothing_there a e;
  given = λ name is. inl (sym (eqb-true v name (or_false (v == name) is)));
  first = ap (λ b. b || false) (eq-eqb v v refl);
}
  where
    or_false : (b : Bool) → (b || false) ≡ true → b ≡ true
    or_false true k = refl
    or_false false k = k

-- where the device stands, and that its names are those of the objects with that place as their device
pub record HasPlace (names : List ℕ) (device : ℕ) (s : State) : Type 0 where
  pub on : ℕ
  pub is_at : IsAt device on s.objects
  pub are : AreNames device on names s.objects

pub device_place : (history : List Item) (s : State) (device : ℕ) → kind_of device ≡ DEVICE → IsStateOf history s → HasPlace (names_of history device) device s
device_place history s device kind leads =
    let at = place_of_name device s.objects (names_apart history s leads) in
    record { on = at.0; is_at = at.1; are = leads_names device at.0 kind empty_state s history (device ∷ []) empty_sane at.1 (empty_names device at.0) leads }
