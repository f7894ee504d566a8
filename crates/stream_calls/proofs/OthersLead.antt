-- What the items of others leave of the objects of a caller's device.
use Rattle.std.proofs.Common.{◌≡◌, ◌≢◌, ◌⊎◌, inl, inr, ℕ, zero, suc, ◌==◌, ◌||◌, ◌&&◌, Bool, true, false, not, if◌then◌else◌, List, [], ◌∷◌, ◌++◌, filter, filter_map, map, slice_get, length, Contains, Option, Some, None, MatchOption, refl, ap, sym, ◌∙◌, subst, arith}
use Rattle.std.proofs.lemmas.Bool.{eq-eqb, eqb-true, false≢true, ne_eqb, or_parts}
use Rattle.std.proofs.lemmas.List.{append-nil, map-append}
use Rattle.std.proofs.lemmas.List.Elements.{Contains-append_left, Contains-append_right, filter_map-append}
use Rattle.std.proofs.lemmas.List.Folds.{list_any-append}
use Rattle.std.specs.List.{cons_option, list_any}
use Rattle.std.specs.Option.{option_map, option_map_or}
use Rattle.device_lock.specs.Lists.{same}
use Rattle.device_lock.specs.Numbers.{items_of}
use Rattle.present_queue.specs.Queue.{Names, Queue, Queued}
use Rattle.driver_model.specs.Answers.{Reply}
use Rattle.driver_model.specs.Histories.{Happens, IsStateOf, Leads}
use Rattle.driver_model.specs.Objects.{Content, DecoderObject, DeviceObject, MixerObject, Object, OutputObject, PresentationQueue, QueueObject, VideoObject, as_queue}
use Rattle.driver_model.specs.Parts.{is_among, is_first, made_on, name_given, names_of}
use Rattle.driver_model.specs.Passes.{caller_of}
use Rattle.driver_model.specs.Presented.{queue_in, queues_of}
use Rattle.driver_model.specs.Sound.{IsSoundQueue}
use Rattle.driver_model.specs.States.{Note, State, empty_state, is_out, without_note}
use Rattle.driver_model.specs.Steps.{Step}
use Rattle.driver_model.specs.declared.calls.Call.{Call}
use Rattle.driver_model.specs.declared.items.Item.{Item}
use Rattle.driver_model.specs.declared.items.Item.TheVariants.{Called, Ended}
use Rattle.driver_model.proofs.Leading.{idle_surfaces_are_not_named}
use Rattle.driver_model.proofs.Named.{object_is}
use Rattle.driver_model.proofs.PartCalls.{step_effect}
use Rattle.driver_model.proofs.PartEffects.{Changed, Effect, Grown, IsMade, IsNewRoot, IsNoted}
use Rattle.driver_model.proofs.PartNames.{get_within}
use Rattle.driver_model.proofs.PartOwned.{Extends, IsSane, extends_then, get_more, get_still, happens_extends, happens_sane, leads_extends}
use Rattle.driver_model.proofs.PartStill.{still_back, still_get}
use Rattle.player_laws.specs.Devices.{IsElsewhere}
use Rattle.player_laws.proofs.States.{device_place, leads_on, state_sane}
use Rattle.stream_calls.specs.OthersLeave.{IsContentLeft, IsLeft, IsQueueLeft, OthersAddNoNames, OthersGoOn, OthersLeaveHome, OthersLeaveIdle, OthersLeaveObjects, shown_last}
use Rattle.stream_calls.specs.Strangers.{is_players, is_strangers}
use Rattle.stream_calls.proofs.OthersCalls.{players_mild}
use Rattle.stream_calls.proofs.OthersLeft.{AreLeft, left_back, left_get, left_same, left_then}

-- ---- names

-- what is first of a call isn't among the names
not_first : (call : Call) (names : List ℕ) (name : ℕ) → list_any (λ own. is_first own call) names ≡ false → is_among names name ≡ true
    → is_first name call ≡ true → ⊥
not_first call [] name none among first = false≢true among
not_first call (own ∷ names) name none among first =
    let parts = or_parts (is_first own call) (list_any (λ o. is_first o call) names) none in
    by_test (own == name) refl among parts.0 (λ k. not_first call names name parts.1 k first)
  where
    by_test : (b : Bool) → (own == name) ≡ b → (b || is_among names name) ≡ true → is_first own call ≡ false → (is_among names name ≡ true → ⊥) → ⊥
    by_test true same k off rest = false≢true (sym off ∙ (ap (λ n. is_first n call) (eqb-true own name same) ∙ first))
    by_test false same k off rest = rest k

-- ---- premises, item by item

module _ (caller : List ℕ) (may_preempt : Bool) (names : List ℕ) where
  -- the entry names none of the names first, or is a player's
  abbrev IsMildCall : Call → Type 0
  IsMildCall asked = (list_any (λ name. is_first name asked) names ≡ false) ⊎ (is_players may_preempt asked ≡ true)

  abbrev IsMildItem : Item → Type 0
  IsMildItem (Called entry) = IsMildCall entry.call
  IsMildItem (Ended mark) = Unit {0}

  abbrev AreMild : List Item → Type 0
  AreMild [] = Unit {0}
  AreMild (item ∷ later) = IsMildItem item × AreMild later

  mild_call : (asked : Call) (own : Bool) → own ≡ false
      → (not own && (list_any (λ name. is_first name asked) names && not (is_players may_preempt asked))) ≡ false → IsMildCall asked
  mild_call asked true is none = absurd (false≢true (sym is))
  mild_call asked false is none = by_tests (list_any (λ name. is_first name asked) names) (is_players may_preempt asked) refl refl none where
    by_tests : (a b : Bool) → list_any (λ name. is_first name asked) names ≡ a → is_players may_preempt asked ≡ b → (a && not b) ≡ false → IsMildCall asked
    by_tests false b e k n = inl e
    by_tests true true e k n = inr k
    by_tests true false e k n = absurd (false≢true (sym n))

  mild_item : (item : Item) → same caller (caller_of item) ≡ false → is_strangers caller may_preempt names item ≡ false → IsMildItem item
  mild_item (Called entry) other none = mild_call entry.call (same caller entry.caller) other none
  mild_item (Ended mark) other none = tt

  abbrev own : List Item → List Item
  own items = items_of caller_of caller items

  not_own : (item : Item) (later : List Item) → own (item ∷ later) ≡ [] → (same caller (caller_of item) ≡ false) × (own later ≡ [])
  not_own item later none = by_test (same caller (caller_of item)) refl none where
    by_test : (b : Bool) → same caller (caller_of item) ≡ b → (if b then item ∷ own later else own later) ≡ []
        → (same caller (caller_of item) ≡ false) × (own later ≡ [])
    by_test true e k = absurd (let z : (let l : List Item = [] in item ∷ own later ≡ l) = k in cc)
    by_test false e k = (e, k)

  all_mild : (items : List Item) → own items ≡ [] → list_any (is_strangers caller may_preempt names) items ≡ false → AreMild items
  all_mild [] none strangers = tt
  all_mild (item ∷ later) none strangers =
      let others = not_own item later none in
      let parts = or_parts (is_strangers caller may_preempt names item) (list_any (is_strangers caller may_preempt names) later) strangers in
      (mild_item item others.0 parts.0, all_mild later others.1 parts.1)

-- ---- one step

-- The objects of the device are left, none is new, and no job begins on one.
pub record IsSteady (may_preempt : Bool) (on : ℕ) (old new : State) : Type 0 where
  pub left : (place : ℕ) (a : Object) → slice_get old.objects place ≡ Some a → a.device ≡ on
      → (b : Object) × (slice_get new.objects place ≡ Some b) × IsLeft may_preempt a b
  pub back : (place : ℕ) (b : Object) → slice_get new.objects place ≡ Some b → b.device ≡ on
      → (a : Object) × (slice_get old.objects place ≡ Some a) × (a.device ≡ on)
  pub home : (place : ℕ) (a : Object) → slice_get old.objects place ≡ Some a → a.device ≡ on → is_out old place ≡ false → is_out new place ≡ false

module _ (may_preempt : Bool) (on : ℕ) where
  abbrev Steady : State → State → Type 0
  Steady old new = IsSteady may_preempt on old new

  steady_same : (old new : State) → new.objects ≡ old.objects → new.notes ≡ old.notes → Steady old new
  steady_same old new objects notes = record {
    left = λ place a e of. (a, ap (λ (l : List Object). slice_get l place) objects ∙ e, left_same may_preempt a);
    back = λ place b e of. (b, sym (ap (λ (l : List Object). slice_get l place) objects) ∙ e, of);
    home = λ place a e of home. ap (λ (l : List Note). list_any (λ note. note.target == place) l) notes ∙ home;
  }

  steady_then : (a b c : State) → Steady a b → Steady b c → Steady a c
  steady_then a b c one two = record {
    left = λ place x e of.
        let r = one.left place x e of in
        let q = two.left place r.0 r.1 (r.2.device ∙ of) in
        (q.0, q.1, left_then may_preempt x r.0 q.0 r.2 q.2);
    back = λ place x e of.
        let r = two.back place x e of in
        one.back place r.0 r.1 r.2;
    home = λ place x e of home.
        let r = one.left place x e of in
        two.home place r.0 r.1 (r.2.device ∙ of) (one.home place x e of home);
  }

  -- a call that names nothing of the device first
  module _ (old new : State) (caller : List ℕ) (asked : Call) (reply : Reply) (sane : IsSane old) (root : Object) (stands : slice_get old.objects on ≡ Some root) (elsewhere : IsElsewhere old on asked) where
    abbrev first_is : ℕ → Option ℕ → Bool
    first_is name o = option_map_or (λ first. first == name) o false

    steady_changed : Changed old new caller asked → Steady old new
    steady_changed p =
        let apart : p.device ≢ on = λ is. elsewhere p.on.place p.on.object p.on.stands (ap (first_is p.on.object.name) p.on.first ∙ eq-eqb p.on.name p.on.object.name (sym p.on.has_name)) (p.on.of_device ∙ is) in
        let other : (a : Object) → a.device ≡ on → (a.device == p.device) ≡ false = λ a of. ne_eqb a.device p.device (λ is. apart (sym is ∙ of)) in
        record {
          left = λ place a e of.
              let r = still_get p.device old.objects new.objects p.still place a e in
              (a, r.1 ∙ ap (λ (o : Object). Some o) (r.2.other (other a of)), left_same may_preempt a);
          back = λ place b e of.
              let r = still_back p.device old.objects new.objects p.still place b e in
              (r.0, r.1, sym r.2.device ∙ of);
          home = λ place a e of home. by_notes apart place a e of home p.notes;
        }
      where
        by_notes : p.device ≢ on → (place : ℕ) (a : Object) → slice_get old.objects place ≡ Some a → a.device ≡ on → is_out old place ≡ false
            → (new.notes ≡ old.notes) ⊎ IsNoted old new caller p.device → is_out new place ≡ false
        by_notes apart place a e of home (inl same) = ap (λ (l : List Note). list_any (λ note. note.target == place) l) same ∙ home
        by_notes apart place a e of home (inr noted) =
            let elsewhere_target : (noted.target == place) ≡ false =
            ne_eqb noted.target place (λ is. apart (sym noted.of_device ∙ (ap (λ (o : Object). o.device) (object_is noted.object a (sym noted.stands ∙ (ap (slice_get old.objects) is ∙ e))) ∙ of))) in
            ap (λ (l : List Note). list_any (λ note. note.target == place) l) noted.notes
            ∙ (list_any-append (λ (note : Note). note.target == place) old.notes _
            ∙ (λ i. home i || (elsewhere_target i || false)))

    not_new : Grown old new asked reply → (p : Grown old new asked reply) → p.one.device ≡ on → ⊥
    not_new q p of = by_origin p.origin where
      by_origin : IsNewRoot old asked p.one ⊎ IsMade old asked p.one → ⊥
      by_origin (inl is) =
          let within = get_within old.objects on root stands in
          let last : on ≡ length old.objects = sym of ∙ is.1 in
          omega (arith, within, last)
      by_origin (inr is) =
          elsewhere p.one.device is.root is.stands (ap (first_is is.root.name) is.first ∙ eq-eqb is.name is.root.name (sym is.has_name))
          ((sane.rooted p.one.device is.root is.stands).is_device is.is_device ∙ of)

    steady_grown : Grown old new asked reply → Steady old new
    steady_grown p = record {
      left = λ place a e of. (a, ap (λ (u : State). slice_get u.objects place) p.grows ∙ get_still old.objects p.one place a e, left_same may_preempt a);
      back = λ place b e of. elim (get_more old.objects p.one place b (sym (ap (λ (u : State). slice_get u.objects place) p.grows) ∙ e)) [
        | inl before ↦ (b, before, of)
        | inr last ↦ absurd (not_new p p (ap (λ (o : Object). o.device) last.1 ∙ of))
      ];
      home = λ place a e of home. ap (λ (u : State). is_out u place) p.grows ∙ home;
    }

    steady_elsewhere : Effect old new caller asked reply → Steady old new
    steady_elsewhere (inl (none, inl is)) = steady_same old new (ap (λ (u : State). u.objects) is) (ap (λ (u : State). u.notes) is)
    steady_elsewhere (inl (none, inr changed)) = steady_changed changed
    steady_elsewhere (inr grown) = steady_grown grown

  -- a player's
  steady_left : (old new : State) → AreLeft may_preempt old.objects new.objects → new.notes ≡ old.notes → Steady old new
  steady_left old new are notes = record {
    left = λ place a e of. left_get may_preempt old.objects new.objects are place a e;
    back = λ place b e of.
        let r = left_back may_preempt old.objects new.objects are place b e in
        (r.0, r.1, sym r.2.device ∙ of);
    home = λ place a e of home. ap (λ (l : List Note). list_any (λ note. note.target == place) l) notes ∙ home;
  }

  -- an end
  fewer_out : (test : Note → Bool) (place : ℕ) (notes : List Note) → list_any (λ note. note.target == place) notes ≡ false
      → list_any (λ note. note.target == place) (filter test notes) ≡ false
  fewer_out test place [] home = refl
  fewer_out test place (note ∷ later) home =
      let parts = or_parts (note.target == place) (list_any (λ other. other.target == place) later) home in
      let rest = fewer_out test place later parts.1 in
      by_test (test note) parts.0 rest
    where
      by_test : (b : Bool) → (note.target == place) ≡ false → list_any (λ other. other.target == place) (filter test later) ≡ false
          → list_any (λ other. other.target == place) (if b then note ∷ filter test later else filter test later) ≡ false
      by_test true one rest = λ i. one i || rest i
      by_test false one rest = rest

  steady_ended : (old : State) (caller : List ℕ) (place : ℕ) → Steady old (without_note old caller place)
  steady_ended old caller at = record {
    left = λ place a e of. (a, e, left_same may_preempt a);
    back = λ place b e of. (b, e, of);
    home = λ place a e of home. fewer_out _ place old.notes home;
  }

  -- ---- a whole history

  module _ (caller : List ℕ) (names : List ℕ) (final : State) (are : (place : ℕ) (a : Object) → slice_get final.objects place ≡ Some a → is_among names a.name ≡ (a.device == on)) where
    is_elsewhere : (s : State) → Extends s final → (asked : Call) → list_any (λ name. is_first name asked) names ≡ false → IsElsewhere s on asked
    is_elsewhere s extends asked none place a e first = λ is.
        let r = extends place a e in
        let among : is_among names a.name ≡ true = ap (is_among names) (sym r.2) ∙ (are place r.0 r.1 ∙ eq-eqb r.0.device on (r.3 ∙ is)) in
        not_first asked names a.name none among first

    steady_call : (s t : State) (who : List ℕ) (asked : Call) (reply : Reply) → IsSane s → Extends s final → (root : Object)
        → slice_get s.objects on ≡ Some root → Step s who asked reply t → IsMildCall caller may_preempt names asked → Steady s t
    steady_call s t who asked reply sane extends root stands step (inl none) =
        steady_elsewhere s t who asked reply sane root stands (is_elsewhere s extends asked none) (step_effect s t who reply sane.rooted sane.sound asked step)
    steady_call s t who asked reply sane extends root stands step (inr is) =
        let mild = players_mild may_preempt s t who reply asked is step in
        steady_left s t mild.objects mild.notes

    steady_item : (s t : State) (item : Item) → IsSane s → Extends s final → (root : Object) → slice_get s.objects on ≡ Some root → Happens s item t
        → IsMildItem caller may_preempt names item → Steady s t
    steady_item s t (Called entry) sane extends root stands h mild =
        steady_then s h.0 t (steady_call s h.0 entry.caller entry.call entry.reply sane extends root stands h.1 mild)
        (steady_same h.0 t (ap (λ (u : State). u.objects) h.2) (ap (λ (u : State). u.notes) h.2))
    steady_item s t (Ended mark) sane extends root stands h mild =
        let ended : State = without_note s mark.caller mark.place in
        steady_then s ended t (steady_ended s mark.caller mark.place) (steady_same ended t (ap (λ (u : State). u.objects) h.1) (ap (λ (u : State). u.notes) h.1))

    steady_all : (s : State) (items : List Item) → IsSane s → (root : Object) → slice_get s.objects on ≡ Some root → Leads s items final
        → AreMild caller may_preempt names items → Steady s final
    unfolding Leads
    steady_all s [] sane root stands leads mild = steady_same s final (ap (λ (u : State). u.objects) leads) (ap (λ (u : State). u.notes) leads)
    steady_all s (item ∷ later) sane root stands leads mild =
        let then_sane : IsSane leads.0 = happens_sane s leads.0 item sane leads.1 in
        let first : Extends s leads.0 = happens_extends s leads.0 item sane leads.1 in
        let rest : Extends leads.0 final = leads_extends leads.0 final later then_sane leads.2 in
        let now = first on root stands in
        steady_then s leads.0 final (steady_item s leads.0 item sane (extends_then s leads.0 final first rest) root stands leads.1 mild.0)
        (steady_all leads.0 later then_sane now.0 now.1 leads.2 mild.1)

-- ---- no names

no_names : (caller : List ℕ) (device : ℕ) (may_preempt : Bool) (names : List ℕ) (s t : State) (items : List Item) → Leads s items t
    → AreMild caller may_preempt (device ∷ names) items → filter_map (made_on device) items ≡ []
unfolding Leads
no_names caller device may_preempt names s t [] leads mild = refl
no_names caller device may_preempt names s t (Called entry ∷ later) leads mild =
    ap (λ (o : Option ℕ). cons_option o (filter_map (made_on device) later)) (by_first (is_first device entry.call) refl mild.0) ∙ no_names caller device may_preempt names leads.0 t later leads.2 mild.1
  where
    by_first : (b : Bool) → is_first device entry.call ≡ b → IsMildCall caller may_preempt (device ∷ names) entry.call
        → (if b then name_given entry.reply else None) ≡ None
    by_first false e is = refl
    by_first true e (inl none) = absurd (false≢true (sym (or_parts (is_first device entry.call) (list_any (λ name. is_first name entry.call) names) none).0 ∙ e))
    by_first true e (inr is) = (players_mild may_preempt s leads.1.0 entry.caller entry.reply entry.call is leads.1.1).gives
no_names caller device may_preempt names s t (Ended mark ∷ later) leads mild = no_names caller device may_preempt names leads.0 t later leads.2 mild.1

pub others_add_no_names : OthersAddNoNames
others_add_no_names front others caller device may_preempt s t state leads go =
    let mild = all_mild caller may_preempt (names_of (front ++ others) device) others go.none_own go.no_strangers in
    let none = no_names caller device may_preempt (filter_map (made_on device) (front ++ others)) s t others leads mild in
    ap (λ l. device ∷ l) (filter_map-append (made_on device) front others ∙ (ap (λ l. filter_map (made_on device) front ++ l) none ∙ append-nil (filter_map (made_on device) front)))

-- ---- the device's objects

-- what is known of an object of the device, and of both states
pub record Known (front others : List Item) (device : ℕ) (may_preempt : Bool) (s t : State) (object : Object) : Type 0 where
  pub on : ℕ
  pub of : object.device ≡ on
  pub steady : IsSteady may_preempt on s t
  pub sane : IsSane t

known : (front others : List Item) (caller : List ℕ) (device : ℕ) (may_preempt : Bool) (s t : State) (place : ℕ) (object : Object) → IsStateOf front s
    → Leads s others t → OthersGoOn front others caller device may_preempt → slice_get s.objects place ≡ Some object
    → is_among (names_of front device) object.name ≡ true → Known front others device may_preempt s t object
known front others caller device may_preempt s t place object state leads go e among =
    let names = names_of (front ++ others) device in
    let whole : IsStateOf (front ++ others) t = leads_on empty_state s t front others state leads in
    let there = device_place (front ++ others) t device go.kind whole in
    let sane = state_sane front s state in
    let r = leads_extends s t others sane leads place object e in
    let is : is_among names object.name ≡ true = ap (λ l. is_among l object.name) (others_add_no_names front others caller device may_preempt s t state leads go) ∙ among in
    let of : object.device ≡ there.on = sym r.3 ∙ eqb-true r.0.device there.on (sym (there.are.own place r.0 r.1) ∙ (ap (is_among names) r.2 ∙ is)) in
    let root = sane.rooted place object e in
    let stands : slice_get s.objects there.on ≡ Some root.root = sym (ap (slice_get s.objects) of) ∙ root.stands in
    record {
      on = there.on;
      of = of;
      steady = steady_all may_preempt there.on caller names t there.are.own s others sane root.root stands leads (all_mild caller may_preempt names others go.none_own go.no_strangers);
      sane = state_sane (front ++ others) t whole;
    }

pub others_leave_objects : OthersLeaveObjects
others_leave_objects front others caller device may_preempt s t place object state leads go e among =
    let k = known front others caller device may_preempt s t place object state leads go e among in
    k.steady.left place object e k.of

pub others_leave_home : OthersLeaveHome
others_leave_home front others caller device may_preempt s t place object state leads go e among home =
    let k = known front others caller device may_preempt s t place object state leads go e among in
    k.steady.home place object e k.of home

-- ---- idle surfaces

-- An object of the list that has this queue.
abbrev HasQueue : List Object → Queue ℕ → Type 0
HasQueue objects queue = (place : ℕ) × (object : Object) × (slice_get objects place ≡ Some object) × (queue_in object ≡ Some queue)

-- what stands in the list of queues is some object's
queue_object : (objects : List Object) (k : ℕ) (queue : Queue ℕ) → slice_get (filter_map queue_in objects) k ≡ Some queue → HasQueue objects queue
queue_object [] k queue e = absurd (let z : (let o : Option (Queue ℕ) = None in o ≡ Some queue) = e in cc)
queue_object (object ∷ later) k queue e = by_value (λ j at. queue_object later j queue at) (queue_in object) refl k e where
  after : HasQueue later queue → HasQueue (object ∷ later) queue
  after r = (suc r.0, r.1, r.2, r.3)

  by_value : ((j : ℕ) → slice_get (filter_map queue_in later) j ≡ Some queue → HasQueue later queue) → (o : Option (Queue ℕ)) → queue_in object ≡ o → (j : ℕ)
      → slice_get (cons_option o (filter_map queue_in later)) j ≡ Some queue → HasQueue (object ∷ later) queue
  by_value behind None is j at = after (behind j at)
  by_value behind (Some one) is zero at = (zero, object, refl, is ∙ at)
  by_value behind (Some one) is (suc j) at = after (behind j at)

-- and the other way round
object_queue : (objects : List Object) (place : ℕ) (object : Object) (queue : Queue ℕ) → slice_get objects place ≡ Some object → queue_in object ≡ Some queue
    → (k : ℕ) × (slice_get (filter_map queue_in objects) k ≡ Some queue)
object_queue [] place object queue e is = absurd (let z : (let o : Option Object = None in o ≡ Some object) = e in cc)
object_queue (first ∷ later) zero object queue e is =
    (zero, ap (λ (o : Option (Queue ℕ)). slice_get (cons_option o (filter_map queue_in later)) 0) (ap queue_in (object_is first object e) ∙ is))
object_queue (first ∷ later) (suc place) object queue e is =
    let r = object_queue later place object queue e is in
    by_value (queue_in first) r
  where
    by_value : (o : Option (Queue ℕ)) → (k : ℕ) × (slice_get (filter_map queue_in later) k ≡ Some queue)
        → (k : ℕ) × (slice_get (cons_option o (filter_map queue_in later)) k ≡ Some queue)
    by_value None r = r
    by_value (Some one) r = (suc r.0, r.1)

-- what a queue shows after its entries is of one of these, or what it showed
last_is : (shown : List (Queued ℕ)) (visible : Option ℕ) (place : ℕ) → shown_last shown visible ≡ Some place
    → Contains (map (λ entry. entry.surface) shown) place ⊎ (visible ≡ Some place)
unfolding shown_last
last_is [] visible place e = inr e
last_is (entry ∷ later) visible place e = elim (last_is later (Some entry.surface) place e) [
  | inl there ↦ inl (suc there.0, let r = there.1 in omega (arith, r), there.2)
  | inr here ↦ inl (0, omega arith, let k : (let o : Option ℕ = Some entry.surface in o ≡ Some place) = here in cc)
]

abbrev surfaces : List (Queued ℕ) → List ℕ
surfaces entries = map (λ (entry : Queued ℕ). entry.surface) entries

names_back : (old new : Queue ℕ) (place : ℕ) → IsQueueLeft old new → Names new place → Names old place
names_back old new place left names = by_name names where
  among : Contains (surfaces left.shown ++ surfaces new.entries) place → Names old place
  among there = inl (subst (λ (l : List (Queued ℕ)). Contains (surfaces l) place) (sym left.entries) (subst (λ (l : List ℕ). Contains l place) (sym (map-append (λ (entry : Queued ℕ). entry.surface) left.shown new.entries)) there))

  by_name : Names new place → Names old place
  by_name (inl there) = among (Contains-append_right (surfaces left.shown) (surfaces new.entries) place there)
  by_name (inr seen) = elim (last_is left.shown old.visible place (sym left.visible ∙ seen)) [
    | inl there ↦ among (Contains-append_left (surfaces left.shown) (surfaces new.entries) place there)
    | inr here ↦ inr here
  ]

abbrev queue_of : Content → Option (Queue ℕ)
queue_of content = option_map (λ (of : PresentationQueue). of.queue) (as_queue content)

queue_back : (may_preempt : Bool) (old new : Content) → IsContentLeft may_preempt old new → (now : Queue ℕ) → queue_of new ≡ Some now
    → (was : Queue ℕ) × (queue_of old ≡ Some was) × IsQueueLeft was now
queue_back may_preempt old new left now e = by_content old left where
  none : {A : Type 0} (content : Content) → queue_of content ≡ None → new ≡ content → A
  none content plain is = absurd (let k : (let o : Option (Queue ℕ) = None in o ≡ Some now) = sym plain ∙ (sym (ap queue_of is) ∙ e) in cc)

  by_content : (content : Content) → IsContentLeft may_preempt content new → (was : Queue ℕ) × (queue_of content ≡ Some was) × IsQueueLeft was now
  by_content (QueueObject of) l =
      let k : (let o : Option (Queue ℕ) = Some l.0 in o ≡ Some now) = sym (ap queue_of l.1) ∙ e in
      let is : l.0 ≡ now = cc (k) in
      (of.queue, refl, subst (IsQueueLeft of.queue) is l.2)
  by_content (DeviceObject of) l = none (DeviceObject l.0) refl l.1
  by_content (OutputObject of) l = none (OutputObject (record of { last_flip = l.0 })) refl l.1
  by_content (VideoObject of) l = none (VideoObject of) refl l
  by_content (DecoderObject of) l = none (DecoderObject of) refl l
  by_content (MixerObject of) l = none (MixerObject of) refl l

same_device : (objects : List Object) (place : ℕ) (one other : Object) → slice_get objects place ≡ Some one → slice_get objects place ≡ Some other
    → one.device ≡ other.device
same_device objects place one other a b = ap (λ (o : Object). o.device) (object_is one other (sym a ∙ b))

left_at : (may_preempt : Bool) (objects : List Object) (place : ℕ) (was one other : Object) → slice_get objects place ≡ Some one
    → slice_get objects place ≡ Some other
    → IsLeft may_preempt was one → IsLeft may_preempt was other
left_at may_preempt objects place was one other a b = subst (IsLeft may_preempt was) (object_is one other (sym a ∙ b))

-- what a queue in the later state names, one of the device's queues names before
module _ (may_preempt : Bool) (on : ℕ) (s t : State) (steady : IsSteady may_preempt on s t) (sane : IsSane t) (place : ℕ) (object : Object) (stands : slice_get s.objects place ≡ Some object) (of : object.device ≡ on) where
  IsSound : Object → Option (Queue ℕ) → Type 0
  IsSound holder o = MatchOption o (Unit {0}) (IsSoundQueue t.objects holder.device holder.is_live)

  on_device : (at : ℕ) (holder : Object) (queue : Queue ℕ) → slice_get t.objects at ≡ Some holder → queue_in holder ≡ Some queue → Names queue place
      → holder.device ≡ on
  unfolding IsSound
  on_device at holder queue there is names =
      let sound : IsSoundQueue t.objects holder.device holder.is_live queue = subst (IsSound holder) is (sane.sound at holder there) in
      let out = sound.surfaces place names in
      let now = steady.left place object stands of in
      sym out.of_device ∙ (same_device t.objects place out.object now.0 out.stands now.1 ∙ (now.2.device ∙ of))

  named_before : (at : ℕ) (holder : Object) (queue : Queue ℕ) → slice_get t.objects at ≡ Some holder → queue_in holder ≡ Some queue → Names queue place
      → (k : ℕ) × (old : Queue ℕ) × (slice_get (queues_of s) k ≡ Some old) × Names old place
  named_before at holder queue there is names =
      let was = steady.back at holder there (on_device at holder queue there is names) in
      let later = steady.left at was.0 was.1 was.2 in
      let left = left_at may_preempt t.objects at was.0 later.0 holder later.1 there later.2 in
      let old = queue_back may_preempt was.0.content holder.content left.content queue is in
      let k = object_queue s.objects at was.0 old.0 was.1 old.1 in
      (k.0, old.0, k.1, names_back old.0 queue place old.2 names)

pub others_leave_idle : OthersLeaveIdle
others_leave_idle front others caller device may_preempt s t place object state leads go e among idle =
    let k = known front others caller device may_preempt s t place object state leads go e among in
    (idle_surfaces_are_not_named t place).1 (λ number queue at names.
    let q = queue_object t.objects number queue at in
    let before = named_before may_preempt k.on s t k.steady k.sane place object e k.of q.0 q.1 queue q.2 q.3 names in
    (idle_surfaces_are_not_named s place).0 idle before.0 before.1 before.2 before.3)
