-- The part of a legal history that is about a device is legal.
use Rattle.std.proofs.Common.{◌≡◌, ◌≢◌, ◌⊎◌, inl, inr, ℕ, zero, suc, ◌+◌, ◌<◌, ◌==◌, Bool, true, false, ◌||◌, if◌then◌else◌, List, [], ◌∷◌, ◌++◌, AllPairs, filter_map, length, slice_get, Option, Some, None, refl, ap, sym, ◌∙◌, subst, arith}
use Rattle.std.proofs.lemmas.Bool.{eq-eqb, eqb-true, false≢true, or_left, or_right}
use Rattle.std.specs.List.{list_any}
use Rattle.std.specs.Option.{option_map_or}
use Rattle.handle_table.specs.Name.{kind_of}
use Rattle.driver_model.specs.Histories.{Happens, IsLegal, IsStateOf, Leads}
use Rattle.driver_model.specs.Laws.{CallsNameOneDevice, DevicesHaveTheirKind, PartsAreLegal, PartsBeginAlike}
use Rattle.driver_model.specs.Objects.{Object, kind_number}
use Rattle.driver_model.specs.Parts.{first_name, given_by, is_about, is_among, is_creation, is_first, name_given, names_in, names_of, part_from, part_of_front}
use Rattle.driver_model.specs.States.{State, empty_state}
use Rattle.driver_model.specs.declared.calls.Call.TheVariants as call
use Rattle.driver_model.specs.declared.items.Entry.{Entry}
use Rattle.driver_model.specs.declared.items.Item.{Item}
use Rattle.driver_model.specs.declared.items.Item.TheVariants.{Called, Ended}
use Rattle.driver_model.specs.declared.numbers.TheConstants.{DEVICE}
use Rattle.driver_model.proofs.Changes.{names}
use Rattle.driver_model.proofs.Leading.{histories_lead_to_one, leads_front, names_are_given, names_are_given_once}
use Rattle.driver_model.proofs.Named.{object_is}
use Rattle.driver_model.proofs.PartCalls.{step_effect}
use Rattle.driver_model.proofs.PartEffects.{Effect, IsMade, IsNewRoot}
use Rattle.driver_model.proofs.PartStill.{is_device-kind}
use Rattle.driver_model.proofs.PartItems.{item_in}
use Rattle.driver_model.proofs.PartItemSteps.{no_name, same_name}
use Rattle.driver_model.proofs.PartLeads.{part_leads}
use Rattle.driver_model.proofs.PartNames.{AreNames, IsAt, at_before, get_within, leads_names, place_of_name}
use Rattle.driver_model.proofs.PartOwned.{Extends, IsSane, extends_all, happens_sane, leads_extends}
use Rattle.driver_model.proofs.PartPlaces.{Cut, kept}
use Rattle.driver_model.proofs.PartStages.{Fits, Stage, creation_is}
use Rattle.driver_model.proofs.SoundChanges.{nothing_there}

-- ---- the law

empty_sane : IsSane empty_state
empty_sane = record { rooted = λ place a e. nothing_there a e; sound = λ place a e. nothing_there a e; within = record { objects = omega arith; devices = omega arith; queues = omega arith } }

empty_names : (v on : ℕ) → AreNames v on (v ∷ []) []
empty_names v on = record {
  own = λ place a e. nothing_there a e;
  given = λ name is. inl (sym (one_name v name is));
  first = ap (λ b. b || false) (eq-eqb v v refl);
}
  where
    one_name : (a b : ℕ) → ((a == b) || false) ≡ true → a ≡ b
    one_name a b e = eqb-true a b (or_false (a == b) e) where
      or_false : (b : Bool) → (b || false) ≡ true → b ≡ true
      or_false true k = refl
      or_false false k = k

module _ (final : State) (on : ℕ) where
  own_in : ℕ → Bool
  own_in place = option_map_or (λ (object : Object). object.device == on) (slice_get final.objects place) false

  own_below : (place : ℕ) → own_in place ≡ true → place < length final.objects
  unfolding own_in
  own_below place e = by_object (slice_get final.objects place) refl e where
    by_object : (o : Option Object) → slice_get final.objects place ≡ o → option_map_or (λ (object : Object). object.device == on) o false ≡ true → place < length final.objects
    by_object None is k = absurd (false≢true k)
    by_object (Some object) is k = get_within final.objects place object is

  cut_of : Cut
  cut_of = record { own = own_in; bound = length final.objects; below = own_below }

  fits_of : (v : ℕ) (all : List ℕ) → AreNames v on all final.objects → IsAt v on final.objects → (s : State) → Extends s final → Fits cut_of v on all s
  unfolding own_in cut_of
  fits_of v all are at s extends = record {
    are_of = own_device;
    own_name = λ place a e.
        let r = extends place a e in
        own_device place a e ∙ (ap (λ d. d == on) (sym r.3) ∙ (sym (are.own place r.0 r.1) ∙ ap (is_among all) r.2));
    is_at = at_before v on s final extends at;
  }
    where
      own_device : (place : ℕ) (a : Object) → slice_get s.objects place ≡ Some a → own_in place ≡ (a.device == on)
      own_device place a e =
          let r = extends place a e in
          ap (λ (o : Option Object). option_map_or (λ object. object.device == on) o false) r.1 ∙ ap (λ d. d == on) r.3

  start : Stage cut_of [] 0 empty_state empty_state
  unfolding kept
  start = record { objects = refl; notes = refl; items = refl; part_items = refl; below = tt; note_places = tt; targets = tt; sane = empty_sane }

-- a name of an object is one that was given
among_names : (objects : List Object) (name place : ℕ) (a : Object) → slice_get objects place ≡ Some a → a.name ≡ name → is_among (names objects) name ≡ true
among_names [] name place a e is = nothing_there a e
among_names (object ∷ later) name zero a e is = or_left (object.name == name) (is_among (names later) name) (eq-eqb object.name name (ap (λ (o : Object). o.name) (object_is object a e) ∙ is))
among_names (object ∷ later) name (suc place) a e is = or_right (object.name == name) (is_among (names later) name) (among_names later name place a e is)

leads_sane : (s t : State) (history : List Item) → IsSane s → Leads s history t → IsSane t
unfolding Leads
leads_sane s t [] sane leads = subst IsSane (sym leads) sane
leads_sane s t (item ∷ later) sane leads = leads_sane leads.0 t later (happens_sane s leads.0 item sane leads.1) leads.2

-- A front of the history, and what the part has of it, lead to two such states.
pub record Meets (history front : List Item) (v : ℕ) (s : State) : Type 0 where
  pub cut : Cut
  pub on : ℕ
  pub fits : Fits cut v on (names_of history v) s
  pub first : is_among (names_of history v) v ≡ true
  pub state : State
  pub leads : IsStateOf (part_of_front history v front) state
  pub places : List ℕ
  pub here : ℕ
  pub stage : Stage cut places here s state

meets : (history : List Item) (v : ℕ) (legal : IsLegal history) → kind_of v ≡ DEVICE → CallsNameOneDevice history v
    → (front : List Item) → ((k : ℕ) (entry : Entry) → slice_get front k ≡ Some (Called entry) → slice_get history k ≡ Some (Called entry))
    → (s : State) → IsStateOf front s → Extends s legal.0 → Meets history front v s
meets history v legal device named front begins s leads extends =
    let final : State = legal.0 in
    let given : names final.objects ≡ filter_map given_by history = names_are_given history final legal.1 in
    let apart : AllPairs (λ a b. a ≢ b) (names final.objects) = subst (AllPairs (λ a b. a ≢ b)) (sym given) (names_are_given_once history legal) in
    let at = place_of_name v final.objects apart in
    let are : AreNames v at.0 (names_of history v) final.objects = leads_names v at.0 device empty_state final history (v ∷ []) empty_sane at.1 (empty_names v at.0) legal.1 in
    let fit = fits_of final at.0 v (names_of history v) are at.1 in
    let own = λ (k : ℕ) (entry : Entry) (stands : slice_get front k ≡ Some (Called entry)) (first : list_any (λ name. is_first name entry.call) (names_of history v) ≡ true) (n : ℕ) (among : is_among (names_in entry.call) n ≡ true) (place : ℕ) (a : Object) (e : slice_get final.objects place ≡ Some a) (is : a.name ≡ n).
    named k entry (begins k entry stands) first n among (subst (λ l. is_among l n ≡ true) given (among_names final.objects n place a e is)) in
    let r = part_leads (cut_of final at.0) v at.0 (names_of history v) are.first final fit front 0 empty_state s empty_sane leads extends own [] empty_state (start final at.0) in
    record { cut = cut_of final at.0; on = at.0; fits = fit s extends; first = are.first; state = r.0; leads = r.1; places = r.2; here = r.3; stage = r.4 }

pub parts_are_legal : PartsAreLegal
parts_are_legal history v legal device named =
    let m = meets history v legal device named history (λ k entry e. e) legal.0 legal.1 (extends_all legal.0) in
    (m.state, m.leads)

-- ---- fronts

get-front : (front rest : List Item) (k : ℕ) (item : Item) → slice_get front k ≡ Some item → slice_get (front ++ rest) k ≡ Some item
get-front [] rest k item e = absurd (let z : (let o : Option Item = None in o ≡ Some item) = e in cc)
get-front (one ∷ front) rest zero item e = e
get-front (one ∷ front) rest (suc k) item e = get-front front rest k item e

-- the state of a front, and of what the part has of it
pub front_meets : (front rest : List Item) (v : ℕ) (s : State) → IsLegal (front ++ rest) → kind_of v ≡ DEVICE → CallsNameOneDevice (front ++ rest) v → IsStateOf front s → Meets (front ++ rest) front v s
front_meets front rest v s legal device named leads =
    let parts = leads_front empty_state legal.0 front rest legal.1 in
    let same : parts.0 ≡ s = histories_lead_to_one front parts.0 s parts.1 leads in
    let extends : Extends parts.0 legal.0 = leads_extends parts.0 legal.0 rest (leads_sane empty_state parts.0 front empty_sane parts.1) parts.2 in
    meets (front ++ rest) v legal device named front (λ k entry e. get-front front rest k (Called entry) e) s leads (subst (λ (u : State). Extends u legal.0) same extends)

front_from : (v : ℕ) (all places : List ℕ) (here : ℕ) (front rest : List Item) → (others : List Item) × (part_from v all places here (front ++ rest) ≡ part_from v all places here front ++ others)
unfolding part_from
front_from v all places here [] rest = (part_from v all places here rest, refl)
front_from v all places here (Called entry ∷ front) rest =
    by_about (is_about v all entry) (front_from v all (places ++ here ∷ []) (here + 1) front rest) (front_from v all places (here + 1) front rest)
  where
    by_about : (b : Bool) → ((others : List Item) × (part_from v all (places ++ here ∷ []) (here + 1) (front ++ rest) ≡ part_from v all (places ++ here ∷ []) (here + 1) front ++ others))
        → ((others : List Item) × (part_from v all places (here + 1) (front ++ rest) ≡ part_from v all places (here + 1) front ++ others))
        → (others : List Item)
        × ((if b then Called entry ∷ part_from v all (places ++ here ∷ []) (here + 1) (front ++ rest) else part_from v all places (here + 1) (front ++ rest))
        ≡ (if b then Called entry ∷ part_from v all (places ++ here ∷ []) (here + 1) front else part_from v all places (here + 1) front) ++ others)
    by_about true own other = (own.0, ap (λ l. Called entry ∷ l) own.1)
    by_about false own other = other
front_from v all places here (Ended mark ∷ front) rest =
    by_place (item_in places mark.place) (front_from v all (places ++ here ∷ []) (here + 1) front rest) (front_from v all places (here + 1) front rest)
  where
    by_place : (o : Option ℕ) → ((others : List Item) × (part_from v all (places ++ here ∷ []) (here + 1) (front ++ rest) ≡ part_from v all (places ++ here ∷ []) (here + 1) front ++ others))
        → ((others : List Item) × (part_from v all places (here + 1) (front ++ rest) ≡ part_from v all places (here + 1) front ++ others))
        → (others : List Item)
        × ((elim o as (λ found. List Item) [
          | None ↦ part_from v all places (here + 1) (front ++ rest)
          | Some place ↦ Ended (record mark { place = place }) ∷ part_from v all (places ++ here ∷ []) (here + 1) (front ++ rest)
        ])
        ≡ (elim o as (λ found. List Item) [
          | None ↦ part_from v all places (here + 1) front
          | Some place ↦ Ended (record mark { place = place }) ∷ part_from v all (places ++ here ∷ []) (here + 1) front
        ]) ++ others)
    by_place None own other = other
    by_place (Some k) own other = (own.0, ap (λ l. Ended (record mark { place = k }) ∷ l) own.1)

pub parts_begin_alike : PartsBeginAlike
parts_begin_alike front rest v = front_from v (names_of (front ++ rest) v) [] 0 front rest

-- ---- the kind of devices

item_is : (a b : Item) → (let o : Option Item = Some a in o ≡ Some b) → a ≡ b
item_is a b e = cc

made_kind : (s t : State) (v : ℕ) (entry : Entry) → IsSane s → Happens s (Called entry) t → is_creation v entry.call entry.reply ≡ true → kind_of v ≡ DEVICE
made_kind s t v entry sane h creation = by_effect (step_effect s h.0 entry.caller entry.reply sane.rooted sane.sound entry.call h.1) where
  is : (entry.call ≡ call.DeviceCreate) × (name_given entry.reply ≡ Some v)
  is = creation_is v entry.call entry.reply creation

  by_effect : Effect s h.0 entry.caller entry.call entry.reply → kind_of v ≡ DEVICE
  by_effect (inl (none, other)) = absurd (no_name v (sym none ∙ is.1))
  by_effect (inr grown) = by_origin grown.origin where
    named : grown.one.name ≡ v
    named = same_name grown.one.name v (sym (ap name_given grown.tells) ∙ is.1)

    by_origin : IsNewRoot s entry.call grown.one ⊎ IsMade s entry.call grown.one → kind_of v ≡ DEVICE
    by_origin (inl root) = ap kind_of (sym named) ∙ (grown.kind ∙ eqb-true (kind_number grown.one.content) DEVICE (sym (is_device-kind grown.one.content) ∙ root.2))
    by_origin (inr made) = absurd (no_name made.name (sym (ap first_name is.0) ∙ made.first))

kinds_lead : (s t : State) (history : List Item) → IsSane s → Leads s history t → (place v : ℕ) (entry : Entry) → slice_get history place ≡ Some (Called entry) → is_creation v entry.call entry.reply ≡ true → kind_of v ≡ DEVICE
unfolding Leads
kinds_lead s t [] sane leads place v entry e creation = absurd (let k : (let o : Option Item = None in o ≡ Some (Called entry)) = e in cc)
kinds_lead s t (item ∷ later) sane leads zero v entry e creation =
    let same : item ≡ Called entry = item_is item (Called entry) e in
    made_kind s leads.0 v entry sane (subst (λ (i : Item). Happens s i leads.0) same leads.1) creation
kinds_lead s t (item ∷ later) sane leads (suc place) v entry e creation = kinds_lead leads.0 t later (happens_sane s leads.0 item sane leads.1) leads.2 place v entry e creation

pub devices_have_their_kind : DevicesHaveTheirKind
devices_have_their_kind history place v entry legal e creation = kinds_lead empty_state legal.0 history empty_sane legal.1 place v entry e creation
