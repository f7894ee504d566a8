-- How many objects live, and how many names were given.
use Rattle.std.proofs.Common.{◌≡◌, inl, inr, ℕ, zero, suc, ◌+◌, ◌≤◌, ◌<◌, ◌==◌, ◌&&◌, ◌||◌, Bool, true, false, cond, List, [], ◌∷◌, ◌++◌, filter_map, length, slice_get, Option, Some, None, refl, ap, sym, ◌∙◌, subst, arith}
use Rattle.std.proofs.lemmas.Bool.{and_parts, eq-eqb, eqb-true, false≢true}
use Rattle.std.proofs.lemmas.List.{length-map}
use Rattle.std.proofs.lemmas.List.Sums.{sum_by-cons, sum_by_push}
use Rattle.std.specs.List.{AllByRecursion, count_by, list_any, sum_by}
use Rattle.std.specs.Option.{option_map_or}
use Rattle.device_lock.specs.Lists.{same}
use Rattle.device_lock.specs.Numbers.{items_of}
use Rattle.handle_table.specs.Name.{kind_of}
use Rattle.driver_model.specs.Answers.{Reply}
use Rattle.driver_model.specs.Creates.{live_devices, live_objects, live_queues}
use Rattle.driver_model.specs.Histories.{Happens, IsStateOf, Leads}
use Rattle.driver_model.specs.Objects.{Object, kind_number}
use Rattle.driver_model.specs.Parts.{given_by, is_among, name_given}
use Rattle.driver_model.specs.Passes.{caller_of}
use Rattle.driver_model.specs.States.{State, empty_state}
use Rattle.driver_model.specs.Steps.{Step}
use Rattle.driver_model.specs.declared.items.Entry.{Entry}
use Rattle.driver_model.specs.declared.items.Item.{Item}
use Rattle.driver_model.specs.declared.items.Item.TheVariants.{Called, Ended}
use Rattle.driver_model.specs.declared.numbers.TheConstants.{DEVICE, MANY_NAMES, MAX_OBJECTS, MAX_QUEUES, PRESENTATION_QUEUE}
use Rattle.driver_model.proofs.Changes.{names}
use Rattle.driver_model.proofs.Leading.{names_are_given}
use Rattle.driver_model.proofs.Named.{object_is}
use Rattle.driver_model.proofs.PartCalls.{step_effect}
use Rattle.driver_model.proofs.PartEffects.{Effect}
use Rattle.driver_model.proofs.PartNames.{place_of_name}
use Rattle.driver_model.proofs.PartOwned.{IsSane, happens_sane}
use Rattle.driver_model.proofs.PartStill.{is_device-kind, is_queue-kind, still_count}
use Rattle.driver_model.proofs.SoundChanges.{nothing_there}
use Rattle.player_laws.specs.Room.{AreMadeBy, CallersAddUp, LiveObjectsOnlyDie, MakesLittle, SixteenCallersFindRoom, added_up, devices_in, given_in, is_live_name, live_made, makes_kind, queues_in}
use Rattle.player_laws.proofs.Counts.{all_counted, counted_names, no_more_names, own_among, spread, sum_at_most, sum_below, weigh, weigh-none}
use Rattle.player_laws.proofs.Fullness.{creates_find_room}
use Rattle.player_laws.proofs.States.{leads_on, leads_stays, names_apart, state_sane}

-- ---- live objects by their names

live_name : (objects : List Object) (place : ℕ) (one : Object) → slice_get objects place ≡ Some one → one.is_live ≡ true → list_any (λ object. object.is_live && object.name == one.name) objects ≡ true
live_name [] place one at live = nothing_there one at
live_name (first ∷ later) zero one at live =
    let is : first ≡ one = object_is first one at in
    let test : (first.is_live && first.name == one.name) ≡ true = ap (λ (o : Object). o.is_live && o.name == one.name) is ∙ both one.is_live (one.name == one.name) live (eq-eqb one.name one.name refl) in
    ap (λ b. b || list_any (λ object. object.is_live && object.name == one.name) later) test
  where
    both : (a b : Bool) → a ≡ true → b ≡ true → (a && b) ≡ true
    both true b p q = q
    both false b p q = p
live_name (first ∷ later) (suc place) one at live = by_first (first.is_live && first.name == one.name) (live_name later place one at live) where
  by_first : (b : Bool) → list_any (λ object. object.is_live && object.name == one.name) later ≡ true → (b || list_any (λ object. object.is_live && object.name == one.name) later) ≡ true
  by_first true rest = refl
  by_first false rest = rest

-- no more objects live than names are live
live_by_name : (P : ℕ → Bool) (objects : List Object) → ((place : ℕ) (one : Object) → slice_get objects place ≡ Some one → one.is_live ≡ true → P one.name ≡ true)
    → count_by (λ (object : Object). object.is_live && true) objects ≤ count_by P (names objects)
live_by_name P [] all = omega arith
live_by_name P (first ∷ later) all =
    let rest = live_by_name P later (λ place one at live. all (suc place) one at live) in
    let here = at_most first.is_live (P first.name) (λ live. all 0 first refl live) in
    omega (arith, rest, here, sum_by-cons (λ (object : Object). cond (object.is_live && true) 1 0) first later, sum_by-cons (λ n. cond (P n) 1 0) first.name (names later))
  where
    at_most : (a b : Bool) → (a ≡ true → b ≡ true) → cond (a && true) 1 0 ≤ cond b 1 0
    at_most false b is = omega arith
    at_most true b is = let e : b ≡ true = is refl in subst (λ t. 1 ≤ cond t 1 0) (sym e) (omega arith)

-- ---- live objects of a kind

abbrev live_kind : ℕ → State → ℕ
live_kind kind s = count_by (λ (object : Object). object.is_live && (kind_number object.content == kind)) s.objects

kind_steps : (kind : ℕ) (old new : State) (entry : Entry) → IsSane old → Step old entry.caller entry.call entry.reply new → live_kind kind new ≤ live_kind kind old + cond (makes_kind kind (Called entry)) 1 0
kind_steps kind old new entry sane step = by_effect (step_effect old new entry.caller entry.reply sane.rooted sane.sound entry.call step) where
  by_effect : Effect old new entry.caller entry.call entry.reply → live_kind kind new ≤ live_kind kind old + cond (makes_kind kind (Called entry)) 1 0
  by_effect (inl (none, inl same)) = let e : live_kind kind new ≡ live_kind kind old = ap (live_kind kind) same in omega (arith, e)
  by_effect (inl (none, inr changed)) = let few = still_count changed.device (λ k. k == kind) old.objects new.objects changed.still in omega (arith, few)
  by_effect (inr grown) =
      let test : Object → Bool = λ object. object.is_live && (kind_number object.content == kind) in
      let e : live_kind kind new ≡ live_kind kind old + cond (test grown.one) 1 0 = ap (live_kind kind) grown.grows ∙ sum_by_push (λ object. cond (test object) 1 0) old.objects grown.one in
      let gives : makes_kind kind (Called entry) ≡ (kind_of grown.one.name == kind) = ap (λ (r : Reply). option_map_or (λ name. kind_of name == kind) (name_given r) false) grown.tells in
      let made : makes_kind kind (Called entry) ≡ (kind_number grown.one.content == kind) = gives ∙ ap (λ n. n == kind) grown.kind in
      let less : cond (test grown.one) 1 0 ≤ cond (makes_kind kind (Called entry)) 1 0 = subst (λ b. cond (test grown.one) 1 0 ≤ cond b 1 0) (sym made) (at_most grown.one.is_live (kind_number grown.one.content == kind)) in
      omega (arith, e, less)
    where
      at_most : (a b : Bool) → cond (a && b) 1 0 ≤ cond b 1 0
      at_most true b = omega arith
      at_most false true = omega arith
      at_most false false = omega arith

kind_happens : (kind : ℕ) (s t : State) (item : Item) → IsSane s → Happens s item t → live_kind kind t ≤ live_kind kind s + cond (makes_kind kind item) 1 0
kind_happens kind s t (Called entry) sane h = let e : live_kind kind t ≡ live_kind kind h.0 = ap (live_kind kind) h.2 in let one = kind_steps kind s h.0 entry sane h.1 in omega (arith, e, one)
kind_happens kind s t (Ended mark) sane h = let e : live_kind kind t ≡ live_kind kind s = ap (live_kind kind) h.1 in omega (arith, e)

kind_leads : (kind : ℕ) (s t : State) (history : List Item) → IsSane s → Leads s history t → live_kind kind t ≤ live_kind kind s + count_by (makes_kind kind) history
unfolding Leads
kind_leads kind s t [] sane leads = let e : live_kind kind t ≡ live_kind kind s = ap (live_kind kind) leads in omega (arith, e)
kind_leads kind s t (item ∷ later) sane leads =
    let one = kind_happens kind s leads.0 item sane leads.1 in
    let rest = kind_leads kind leads.0 t later (happens_sane s leads.0 item sane leads.1) leads.2 in
    omega (arith, one, rest, sum_by-cons (λ i. cond (makes_kind kind i) 1 0) item later)

kind_made : (kind : ℕ) (callers : List (List ℕ)) (history : List Item) (s : State) → IsStateOf history s → AreMadeBy callers history → live_kind kind s ≤ added_up (λ items. count_by (makes_kind kind) items) callers history
unfolding Leads
kind_made kind callers history s leads made =
    let most = kind_leads kind empty_state s history (state_sane [] empty_state start) leads in
    let light : (item : Item) → given_by item ≡ None → cond (makes_kind kind item) 1 0 ≡ 0 = λ item none. ap (λ (o : Option ℕ). cond (option_map_or (λ name. kind_of name == kind) o false) 1 0) none in
    let all = spread (λ item. cond (makes_kind kind item) 1 0) light callers history made in
    omega (arith, most, all)
  where
    start : IsStateOf [] empty_state
    start = refl

-- ---- sums

pub callers_add_up : CallersAddUp
callers_add_up callers history s leads made = record {
  objects =
      let given = names_are_given history s leads in
      let live = live_by_name (is_live_name s) s.objects (λ place one at is. live_name s.objects place one at is) in
      let same_count : count_by (is_live_name s) (names s.objects) ≡ live_made s history = ap (λ l. count_by (is_live_name s) l) given in
      let all = spread (weigh (is_live_name s)) (weigh-none (is_live_name s)) callers history made in
      let each : sum_by (λ caller. sum_by (weigh (is_live_name s)) (items_of caller_of caller history)) callers ≡ added_up (live_made s) callers history = each_same (weigh (is_live_name s)) (live_made s) (λ items. sym (counted_names (is_live_name s) items)) callers in
      omega (arith, live, same_count, counted_names (is_live_name s) history, all, each);
  names =
      let given = names_are_given history s leads in
      let long : length s.objects ≡ given_in history = sym (length-map s.objects (λ (object : Object). object.name)) ∙ ap length given in
      let all = spread (weigh (λ name. true)) (weigh-none (λ name. true)) callers history made in
      let each : sum_by (λ caller. sum_by (weigh (λ name. true)) (items_of caller_of caller history)) callers ≡ added_up given_in callers history =
      each_same (weigh (λ name. true)) given_in (λ items. sym (counted_names (λ name. true) items) ∙ all_counted (filter_map given_by items)) callers in
      omega (arith, long, all_counted (filter_map given_by history), counted_names (λ name. true) history, all, each);
  devices =
      let one = kind_made DEVICE callers history s leads made in
      let e : live_devices s ≡ live_kind DEVICE s = λ i. count_by (λ (object : Object). object.is_live && is_device-kind object.content i) s.objects in
      omega (arith, one, e);
  queues =
      let one = kind_made PRESENTATION_QUEUE callers history s leads made in
      let e : live_queues s ≡ live_kind PRESENTATION_QUEUE s = λ i. count_by (λ (object : Object). object.is_live && is_queue-kind object.content i) s.objects in
      omega (arith, one, e);
} where
  each_same : (weight : Item → ℕ) (count : List Item → ℕ) → ((items : List Item) → sum_by weight items ≡ count items) → (some : List (List ℕ)) → sum_by (λ caller. sum_by weight (items_of caller_of caller history)) some ≡ added_up count some history
  each_same weight count is [] = refl
  each_same weight count is (caller ∷ some) =
      omega (
        arith,
        each_same weight count is some,
        is (items_of caller_of caller history),
        sum_by-cons (λ one. sum_by weight (items_of caller_of one history)) caller some,
        sum_by-cons (λ one. count (items_of caller_of one history)) caller some,
      )

-- ---- nothing comes to live again

among_found : (objects : List Object) (name : ℕ) → is_among (names objects) name ≡ true → (place : ℕ) × (one : Object) × (slice_get objects place ≡ Some one) × (one.name ≡ name)
among_found [] name is = absurd (false≢true is)
among_found (first ∷ later) name is = by_test (first.name == name) refl is (among_found later name) where
  by_test : (b : Bool) → (first.name == name) ≡ b → (b || is_among (names later) name) ≡ true → (is_among (names later) name ≡ true → (place : ℕ) × (one : Object) × (slice_get later place ≡ Some one) × (one.name ≡ name))
      → (place : ℕ) × (one : Object) × (slice_get (first ∷ later) place ≡ Some one) × (one.name ≡ name)
  by_test true e k rest = (0, first, refl, eqb-true first.name name e)
  by_test false e k rest = let r = rest k in (suc r.0, r.1, r.2, r.3)

live_found : (objects : List Object) (name : ℕ) → list_any (λ object. object.is_live && object.name == name) objects ≡ true → (place : ℕ) × (one : Object) × (slice_get objects place ≡ Some one) × (one.is_live ≡ true) × (one.name ≡ name)
live_found [] name is = absurd (false≢true is)
live_found (first ∷ later) name is = by_test (first.is_live && first.name == name) refl is (live_found later name) where
  by_test : (b : Bool) → (first.is_live && first.name == name) ≡ b → (b || list_any (λ object. object.is_live && object.name == name) later) ≡ true
      → (list_any (λ object. object.is_live && object.name == name) later ≡ true → (place : ℕ) × (one : Object) × (slice_get later place ≡ Some one) × (one.is_live ≡ true) × (one.name ≡ name))
      → (place : ℕ) × (one : Object) × (slice_get (first ∷ later) place ≡ Some one) × (one.is_live ≡ true) × (one.name ≡ name)
  by_test true e k rest = let parts = and_parts first.is_live (first.name == name) e in (0, first, refl, parts.0, eqb-true first.name name parts.1)
  by_test false e k rest = let r = rest k in (suc r.0, r.1, r.2, r.3, r.4)

pub live_objects_only_die : LiveObjectsOnlyDie
live_objects_only_die front later s t caller leads more =
    no_more_names (is_live_name t) (is_live_name s) (filter_map given_by (items_of caller_of caller front)) (λ name among live. was_live name (own_among caller front name among) live)
  where
    was_live : (name : ℕ) → is_among (filter_map given_by front) name ≡ true → is_live_name t name ≡ true → is_live_name s name ≡ true
    was_live name among live =
        let there = among_found s.objects name (ap (λ l. is_among l name) (names_are_given front s leads) ∙ among) in
        let now = leads_stays s t later (state_sane front s leads) more there.0 there.1 there.2 in
        let found = live_found t.objects name live in
        let at = place_of_name name t.objects (names_apart (front ++ later) t (leads_on empty_state s t front later leads more)) in
        let one : there.0 ≡ at.0 = eqb-true there.0 at.0 (at.1 there.0 now.0 now.1 ∙ eq-eqb now.0.name name (now.2.name ∙ there.3)) in
        let other : found.0 ≡ at.0 = eqb-true found.0 at.0 (at.1 found.0 found.1 found.2 ∙ eq-eqb found.1.name name found.4) in
        let same_object : now.0 ≡ found.1 = object_is now.0 found.1 (sym now.1 ∙ (ap (slice_get t.objects) (one ∙ sym other) ∙ found.2)) in
        by_live there.1.is_live name there.0 there.1 refl there.2 there.3 (λ dead. absurd (false≢true (sym (now.2.dead dead) ∙ (ap (λ (o : Object). o.is_live) same_object ∙ found.3))))
      where
        by_live : (b : Bool) (name place : ℕ) (one : Object) → one.is_live ≡ b → slice_get s.objects place ≡ Some one → one.name ≡ name → (one.is_live ≡ false → is_live_name s name ≡ true) → is_live_name s name ≡ true
        by_live true name place one is at named dead = ap (λ n. is_live_name s n) (sym named) ∙ live_name s.objects place one at is
        by_live false name place one is at named dead = dead is

-- ---- sixteen callers

pub sixteen_callers_find_room : SixteenCallersFindRoom
sixteen_callers_find_room callers history s new caller asked reply leads few made little device step =
    let sums = callers_add_up callers history s leads made in
    let objects = sum_at_most (λ c. live_made s (items_of caller_of c history)) 63 callers (each (λ c is. is.live) callers little) in
    let given = sum_at_most (λ c. given_in (items_of caller_of c history)) 28000006 callers (each (λ c is. is.given) callers little) in
    let queues = sum_at_most (λ c. queues_in (items_of caller_of c history)) 1 callers (each (λ c is. is.queues) callers little) in
    let live : live_objects s < MAX_OBJECTS = let a = sums.objects in omega (arith, a, objects, few) in
    let live_queue : live_queues s < MAX_QUEUES = let a = sums.queues in omega (arith, a, queues, few) in
    let names_few : length s.objects < MANY_NAMES = let a = sums.names in omega (arith, a, given, few) in
    creates_find_room s new caller asked reply step live (λ is.
    let its = device is in
    let less = sum_below (λ c. devices_in (items_of caller_of c history)) callers caller (each (λ c k. k.devices) callers little) its.0 its.1 in
    let a = sums.devices in
    omega (arith, a, less, few)) live_queue names_few
  where
    each : {Q : List ℕ → Type 0} → ((c : List ℕ) → MakesLittle history s c → Q c) → (some : List (List ℕ)) → AllByRecursion (MakesLittle history s) some → AllByRecursion Q some
    each follows [] all = tt
    each follows (c ∷ some) all = (follows c all.0, each follows some all.1)
