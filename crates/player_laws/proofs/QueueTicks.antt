-- What a tick does to one queue, and which flips it makes on it.
use Rattle.std.proofs.Common.{◌≡◌, ◌≢◌, ◌⊎◌, inl, inr, ℕ, zero, suc, ◌+◌, ◌==◌, ◌≤◌, Bool, true, false, ◌&&◌, if◌then◌else◌, List, [], ◌∷◌, ◌++◌, filter, filter_map, map, slice_get, Option, Some, None, refl, ap, sym, ◌∙◌, subst, arith}
use Rattle.std.proofs.lemmas.Bool.{cases_eq, eq-eqb, ne_eqb}
use Rattle.std.proofs.lemmas.List.{append_assoc, map-append}
use Rattle.std.proofs.lemmas.List.Elements.{filter-append}
use Rattle.std.specs.List.{AllByRecursion, cons_option, enumerate_from}
use Rattle.std.specs.Option.{option_and_then, option_map, option_map_or, option_to_list}
use Rattle.present_queue.specs.Queue.{Queued, due, ticked_by}
use Rattle.driver_model.specs.Clock.{Due, all_due, all_shown, due_at, due_in, flip_of, shown, with_flip, with_tick}
use Rattle.driver_model.specs.Objects.{OutputObject, QueueObject, OutputSurface, PresentationQueue, Object, as_queue}
use Rattle.driver_model.specs.States.{State, changed_at, name_at}
use Rattle.driver_model.specs.declared.replies.Flipped.{Flipped}
use Rattle.driver_model.proofs.Named.{object_is}
use Rattle.driver_model.proofs.OwedPlaces.{changed_here}
use Rattle.driver_model.proofs.PartNames.{IsAt}
use Rattle.driver_model.proofs.SoundChanges.{nothing_there}
use Rattle.player_laws.specs.Displays.{is_on}
use Rattle.player_laws.proofs.QueueSteps.{changed_other}

-- ---- lists

pub all_parts : {A : Type 0} (P : A → Type 0) (xs ys : List A) → AllByRecursion P (xs ++ ys) → AllByRecursion P xs × AllByRecursion P ys
all_parts P [] ys all = (tt, all)
all_parts P (x ∷ xs) ys all = let r = all_parts P xs ys all.1 in ((all.0, r.0), r.1)

pub all_both : {A : Type 0} (P Q R : A → Type 0) → ((a : A) → P a → Q a → R a) → (xs : List A) → AllByRecursion P xs → AllByRecursion Q xs → AllByRecursion R xs
all_both P Q R follows [] p q = tt
all_both P Q R follows (x ∷ xs) p q = (follows x p.0 q.0, all_both P Q R follows xs p.1 q.1)

pub all_weaker : {A : Type 0} (P Q : A → Type 0) → ((a : A) → P a → Q a) → (xs : List A) → AllByRecursion P xs → AllByRecursion Q xs
all_weaker P Q follows [] p = tt
all_weaker P Q follows (x ∷ xs) p = (follows x p.0, all_weaker P Q follows xs p.1)

cons-list : {A : Type 0} (o : Option A) (xs : List A) → cons_option o xs ≡ option_to_list o ++ xs
cons-list None xs = refl
cons-list (Some x) xs = refl

no_due : {A : Type 0} (one : Due) → (let o : Option Due = None in o ≡ Some one) → A
no_due one e = absurd (let k : (let o : Option Due = None in o ≡ Some one) = e in cc)

some_due : (a b : Due) → Some a ≡ Some b → a ≡ b
some_due a b e = cc

-- ---- which queues are due

module _ (on time : ℕ) where
  -- what is due is a queue at its place
  is_due : (place : ℕ) (object : Object) (one : Due) → due_at on time (place, object) ≡ Some one → (one.queue ≡ place) × ((of : PresentationQueue) × (as_queue object.content ≡ Some of))
  is_due place object one e = by_test (object.is_live && object.device == on) e where
    by_entry : (entry : Option (Queued ℕ)) → option_map {U = Due} (λ x. record { queue = place; surface = x.surface }) entry ≡ Some one → one.queue ≡ place
    by_entry None k = no_due one k
    by_entry (Some entry) k = sym (ap (λ (d : Due). d.queue) (some_due (record { queue = place; surface = entry.surface }) one k))

    by_queue : (o : Option PresentationQueue) → as_queue object.content ≡ o → option_and_then (due_in time place) o ≡ Some one → (one.queue ≡ place) × ((of : PresentationQueue) × (as_queue object.content ≡ Some of))
    by_queue None is k = no_due one k
    by_queue (Some of) is k = (by_entry (due of.queue time) k, (of, is))

    by_test : (b : Bool) → (if b then option_and_then (due_in time place) (as_queue object.content) else None) ≡ Some one → (one.queue ≡ place) × ((of : PresentationQueue) × (as_queue object.content ≡ Some of))
    by_test true k = by_queue (as_queue object.content) refl k
    by_test false k = no_due one k

  abbrev dues_from : ℕ → List Object → List Due
  dues_from i objects = filter_map (due_at on time) (enumerate_from i objects)

  all_cons : (P : Due → Type 0) (o : Option Due) (rest : List Due) → ((one : Due) → o ≡ Some one → P one) → AllByRecursion P rest → AllByRecursion P (cons_option o rest)
  all_cons P None rest is all = all
  all_cons P (Some one) rest is all = (is one refl, all)

  all_list : (P : Due → Type 0) (o : Option Due) → ((one : Due) → o ≡ Some one → P one) → AllByRecursion P (option_to_list o)
  all_list P None is = tt
  all_list P (Some one) is = (is one refl, tt)

  -- they stand no earlier than the list begins
  not_before : (i : ℕ) (objects : List Object) → AllByRecursion (λ one. i ≤ one.queue) (dues_from i objects)
  not_before i [] = tt
  not_before i (object ∷ later) =
      let rest = all_weaker (λ (one : Due). i + 1 ≤ one.queue) (λ one. i ≤ one.queue) (λ one le. omega (arith, le)) (dues_from (i + 1) later) (not_before (i + 1) later) in
      all_cons (λ one. i ≤ one.queue) (due_at on time (i, object)) (dues_from (i + 1) later) (λ one e. let at = (is_due i object one e).0 in omega (arith, at)) rest

  -- each is one of the state's queues
  pub record IsQueueAt (all : List Object) (one : Due) : Type 0 where
    pub object : Object
    pub stands : slice_get all one.queue ≡ Some object
    pub of : PresentationQueue
    pub is_queue : as_queue object.content ≡ Some of

  queues_from : (all : List Object) (i : ℕ) (objects : List Object) → ((k : ℕ) (object : Object) → slice_get objects k ≡ Some object → slice_get all (i + k) ≡ Some object) → AllByRecursion (IsQueueAt all) (dues_from i objects)
  queues_from all i [] stand = tt
  queues_from all i (object ∷ later) stand =
      let rest = queues_from all (i + 1) later (λ k o e. let next : i + suc k ≡ i + 1 + k = omega arith in subst (λ n. slice_get all n ≡ Some o) next (stand (suc k) o e)) in
      all_cons (IsQueueAt all) (due_at on time (i, object)) (dues_from (i + 1) later) (λ one e.
      let is = is_due i object one e in
      let here : i + 0 ≡ one.queue = let at = is.0 in omega (arith, at) in
      record { object = object; stands = subst (λ n. slice_get all n ≡ Some object) here (stand 0 object refl); of = is.1.0; is_queue = is.1.1 }) rest

  pub are_queues : (objects : List Object) → AllByRecursion (IsQueueAt objects) (dues_from 0 objects)
  are_queues objects = queues_from objects 0 objects (λ k object e. let zeroth : k ≡ 0 + k = omega arith in subst (λ n. slice_get objects n ≡ Some object) zeroth e)

  -- those before this place, that at the place, and those behind
  pub record Split (i : ℕ) (objects : List Object) (place : ℕ) (object : Object) : Type 0 where
    pub before : List Due
    pub after : List Due
    pub splits : dues_from i objects ≡ before ++ (option_to_list (due_at on time (i + place, object)) ++ after)
    pub others_before : AllByRecursion (λ one. one.queue ≢ i + place) before
    pub others_after : AllByRecursion (λ one. one.queue ≢ i + place) after

  pub split : (i : ℕ) (objects : List Object) (place : ℕ) (object : Object) → slice_get objects place ≡ Some object → Split i objects place object
  split i [] place object e = nothing_there object e
  split i (first ∷ later) zero object e =
      let is : first ≡ object = object_is first object e in
      let zeroth : i ≡ i + 0 = omega arith in
      record {
        before = [];
        after = dues_from (i + 1) later;
        splits = cons-list (due_at on time (i, first)) (dues_from (i + 1) later) ∙ (ap (λ o. option_to_list (due_at on time (i, o)) ++ dues_from (i + 1) later) is ∙ ap (λ n. option_to_list (due_at on time (n, object)) ++ dues_from (i + 1) later) zeroth);
        others_before = tt;
        others_after = all_weaker (λ (one : Due). i + 1 ≤ one.queue) (λ one. one.queue ≢ i + 0) (λ one le same. omega (arith, le, same)) (dues_from (i + 1) later) (not_before (i + 1) later);
      }
  split i (first ∷ later) (suc place) object e =
      let r = split (i + 1) later place object e in
      let next : i + 1 + place ≡ i + suc place = omega arith in
      record {
        before = option_to_list (due_at on time (i, first)) ++ r.before;
        after = r.after;
        splits =
            cons-list (due_at on time (i, first)) (dues_from (i + 1) later)
            ∙ (ap (λ l. option_to_list (due_at on time (i, first)) ++ l) (r.splits ∙ ap (λ n. r.before ++ (option_to_list (due_at on time (n, object)) ++ r.after)) next)
            ∙ sym (append_assoc (option_to_list (due_at on time (i, first))) r.before (option_to_list (due_at on time (i + suc place, object)) ++ r.after)));
        others_before = all_joined (λ one. one.queue ≢ i + suc place) (option_to_list (due_at on time (i, first))) r.before
            (all_list (λ one. one.queue ≢ i + suc place) (due_at on time (i, first)) (λ one d same. let at = (is_due i first one d).0 in omega (arith, at, same)))
            (all_weaker (λ (one : Due). one.queue ≢ i + 1 + place) (λ one. one.queue ≢ i + suc place) (λ one apart same. apart (same ∙ sym next)) r.before r.others_before);
        others_after = all_weaker (λ (one : Due). one.queue ≢ i + 1 + place) (λ one. one.queue ≢ i + suc place) (λ one apart same. apart (same ∙ sym next)) r.after r.others_after;
      }
    where
      all_joined : (P : Due → Type 0) (xs ys : List Due) → AllByRecursion P xs → AllByRecursion P ys → AllByRecursion P (xs ++ ys)
      all_joined P [] ys p q = q
      all_joined P (x ∷ xs) ys p q = (p.0, all_joined P xs ys p.1 q)

-- ---- objects through a tick

-- The object keeps its name, its device and its life, and its pixels if it is a surface.
pub record Stays (a b : Object) : Type 0 where
  pub name : b.name ≡ a.name
  pub device : b.device ≡ a.device
  pub live : b.is_live ≡ a.is_live
  pub output : (of : OutputSurface) → a.content ≡ OutputObject of → (now : OutputSurface) × (b.content ≡ OutputObject now) × (now.format ≡ of.format) × (now.size ≡ of.size) × (now.bytes ≡ of.bytes)

stays_same : (a : Object) → Stays a a
stays_same a = record { name = refl; device = refl; live = refl; output = λ of e. (of, e, refl, refl, refl) }

stays_then : (a b c : Object) → Stays a b → Stays b c → Stays a c
stays_then a b c one two = record {
  name = two.name ∙ one.name;
  device = two.device ∙ one.device;
  live = two.live ∙ one.live;
  output = λ of e.
      let p = one.output of e in
      let r = two.output p.0 p.1 in
      (r.0, r.1, r.2 ∙ p.2, r.3 ∙ p.3, r.4 ∙ p.4);
}

abbrev tick_of : ℕ → Object → Object
tick_of time object = record object { content = with_tick time object.content }

abbrev flips_of : ℕ → ℕ → Object → Object
flips_of queue time object = record object { content = with_flip queue time object.content }

tick_stays : (time : ℕ) (a : Object) → Stays a (tick_of time a)
tick_stays time a = record { name = refl; device = refl; live = refl; output = λ of e. (of, ap (with_tick time) e, refl, refl, refl) }

flip_stays : (queue time : ℕ) (a : Object) → Stays a (flips_of queue time a)
flip_stays queue time a = record { name = refl; device = refl; live = refl; output = λ of e. (record of { last_flip = Some (record { queue = queue; time = time }) }, ap (with_flip queue time) e, refl, refl, refl) }

-- the queue that the object is, if it is this one
abbrev IsQueue : Object → PresentationQueue → Type 0
IsQueue a of = a.content ≡ QueueObject of

changed_stays : (change : Object → Object) → ((a : Object) → Stays a (change a)) → (other place : ℕ) (objects : List Object) (a : Object) → slice_get objects place ≡ Some a → (b : Object) × (slice_get (changed_at other change objects) place ≡ Some b) × Stays a b
changed_stays change stays other place objects a e = elim (cases_eq other place) [
  | inl same ↦ (change a, changed_here change other place objects a same e, stays a)
  | inr apart ↦ (a, changed_other change other place objects apart ∙ e, stays_same a)
]

-- so does a change that leaves queues what they have
changed_queue : (change : Object → Object) → ((a : Object) → Stays a (change a)) → ((a : Object) (of : PresentationQueue) → IsQueue a of → IsQueue (change a) of) → (other place : ℕ) (objects : List Object) (a : Object) (of : PresentationQueue) → slice_get objects place ≡ Some a → IsQueue a of
    → (b : Object) × (slice_get (changed_at other change objects) place ≡ Some b) × Stays a b × IsQueue b of
changed_queue change stays keeps other place objects a of e is = elim (cases_eq other place) [
  | inl same ↦ (change a, changed_here change other place objects a same e, stays a, keeps a of is)
  | inr apart ↦ (a, changed_other change other place objects apart ∙ e, stays_same a, is)
]

module _ (time : ℕ) where
  one_stays : (one : Due) (place : ℕ) (objects : List Object) (a : Object) → slice_get objects place ≡ Some a → (b : Object) × (slice_get (shown time one objects) place ≡ Some b) × Stays a b
  one_stays one place objects a e =
      let f = changed_stays (tick_of time) (tick_stays time) one.queue place objects a e in
      let s = changed_stays (flips_of one.queue time) (flip_stays one.queue time) one.surface place (changed_at one.queue (tick_of time) objects) f.0 f.1 in
      (s.0, s.1, stays_then a f.0 s.0 f.2 s.2)

  pub all_stays : (dues : List Due) (place : ℕ) (objects : List Object) (a : Object) → slice_get objects place ≡ Some a → (b : Object) × (slice_get (all_shown time dues objects) place ≡ Some b) × Stays a b
  unfolding all_shown
  all_stays [] place objects a e = (a, e, stays_same a)
  all_stays (one ∷ later) place objects a e =
      let f = one_stays one place objects a e in
      let s = all_stays later place (shown time one objects) f.0 f.1 in
      (s.0, s.1, stays_then a f.0 s.0 f.2 s.2)

  -- a queue that isn't due
  one_other : (one : Due) (place : ℕ) (objects : List Object) (a : Object) (of : PresentationQueue) → one.queue ≢ place → slice_get objects place ≡ Some a → IsQueue a of → (b : Object) × (slice_get (shown time one objects) place ≡ Some b) × Stays a b × IsQueue b of
  one_other one place objects a of apart e is =
      changed_queue (flips_of one.queue time) (flip_stays one.queue time) (λ x o k. ap (with_flip one.queue time) k) one.surface place (changed_at one.queue (tick_of time) objects) a of (changed_other (tick_of time) one.queue place objects apart ∙ e) is

  others_stay : (dues : List Due) (place : ℕ) (objects : List Object) (a : Object) (of : PresentationQueue) → AllByRecursion (λ one. one.queue ≢ place) dues → slice_get objects place ≡ Some a → IsQueue a of
      → (b : Object) × (slice_get (all_shown time dues objects) place ≡ Some b) × Stays a b × IsQueue b of
  unfolding all_shown
  others_stay [] place objects a of apart e is = (a, e, stays_same a, is)
  others_stay (one ∷ later) place objects a of apart e is =
      let f = one_other one place objects a of apart.0 e is in
      let s = others_stay later place (shown time one objects) f.0 of apart.1 f.1 f.3 in
      (s.0, s.1, stays_then a f.0 s.0 f.2 s.2, s.3)

  -- one that is
  one_own : (one : Due) (place : ℕ) (objects : List Object) (a : Object) (of : PresentationQueue) → one.queue ≡ place → slice_get objects place ≡ Some a → IsQueue a of
      → (b : Object) × (slice_get (shown time one objects) place ≡ Some b) × Stays a b × IsQueue b (record of { queue = ticked_by (due of.queue time) of.queue })
  one_own one place objects a of same e is =
      let middle = changed_here (tick_of time) one.queue place objects a same e in
      let r = changed_queue (flips_of one.queue time) (flip_stays one.queue time) (λ x o k. ap (with_flip one.queue time) k) one.surface place (changed_at one.queue (tick_of time) objects) (tick_of time a) (record of { queue = ticked_by (due of.queue time) of.queue }) middle (ap (with_tick time) is) in
      (r.0, r.1, stays_then a (tick_of time a) r.0 (tick_stays time a) r.2, r.3)

  shown-append : (xs ys : List Due) (objects : List Object) → all_shown time (xs ++ ys) objects ≡ all_shown time ys (all_shown time xs objects)
  unfolding all_shown
  shown-append [] ys objects = refl
  shown-append (one ∷ xs) ys objects = shown-append xs ys (shown time one objects)

  own_list : (place : ℕ) (entry : Option (Queued ℕ)) (objects : List Object) (a : Object) (of : PresentationQueue) → (entry ≡ due of.queue time) ⊎ (entry ≡ None) → slice_get objects place ≡ Some a → IsQueue a of
      → (b : Object) × (slice_get (all_shown time (option_to_list (option_map {U = Due} (λ x. record { queue = place; surface = x.surface }) entry)) objects) place ≡ Some b) × Stays a b × IsQueue b (record of { queue = ticked_by entry of.queue })
  unfolding all_shown
  own_list place None objects a of mine e is = (a, e, stays_same a, is)
  own_list place (Some entry) objects a of mine e is =
      let r = one_own (record { queue = place; surface = entry.surface }) place objects a of refl e is in
      (r.0, r.1, r.2, r.3 ∙ ap (λ o. QueueObject (record of { queue = ticked_by o of.queue })) (sym (is_due_entry mine)))
    where
      is_due_entry : (Some entry ≡ due of.queue time) ⊎ (Some entry ≡ None) → Some entry ≡ due of.queue time
      is_due_entry (inl k) = k
      is_due_entry (inr k) = absurd (let z : (let o : Option (Queued ℕ) = None in Some entry ≡ o) = k in cc)

-- ---- the queue at a place

-- the entry that a tick of the device takes of the queue that the object is
abbrev pub entry_due : ℕ → ℕ → Object → PresentationQueue → Option (Queued ℕ)
entry_due on time object of = if object.is_live && object.device == on then due of.queue time else None

due_of_queue : (on time place : ℕ) (object : Object) (of : PresentationQueue) → IsQueue object of → due_at on time (place, object) ≡ option_map {U = Due} (λ x. record { queue = place; surface = x.surface }) (entry_due on time object of)
due_of_queue on time place object of is = ap (λ c. if object.is_live && object.device == on then option_and_then (due_in time place) (as_queue c) else None) is ∙ by_test (object.is_live && object.device == on) where
  by_test : (b : Bool) → (if b then option_map {U = Due} (λ x. record { queue = place; surface = x.surface }) (due of.queue time) else None) ≡ option_map {U = Due} (λ x. record { queue = place; surface = x.surface }) (if b then due of.queue time else None)
  by_test true = refl
  by_test false = refl

due_or_none : (on time : ℕ) (object : Object) (of : PresentationQueue) → (entry_due on time object of ≡ due of.queue time) ⊎ (entry_due on time object of ≡ None)
due_or_none on time object of = by_test (object.is_live && object.device == on) where
  by_test : (b : Bool) → ((if b then due of.queue time else None) ≡ due of.queue time) ⊎ ((if b then due of.queue time else None) ≡ None)
  by_test true = inl refl
  by_test false = inr refl

-- what becomes of the queue at a place, where it was the same before the tick but for what doesn't concern it
pub queue_ticks : (on time place : ℕ) (old objects : List Object) (a b : Object) (of : PresentationQueue) → slice_get old place ≡ Some a → IsQueue a of → slice_get objects place ≡ Some b → IsQueue b of
    → (now : Object) × (slice_get (all_shown time (filter_map (due_at on time) (enumerate_from 0 old)) objects) place ≡ Some now) × Stays b now × IsQueue now (record of { queue = ticked_by (entry_due on time a of) of.queue })
queue_ticks on time place old objects a b of e is there same =
    let parts = split on time 0 old place a e in
    let zeroth : 0 + place ≡ place = omega arith in
    let mine : due_at on time (0 + place, a) ≡ option_map {U = Due} (λ x. record { queue = place; surface = x.surface }) (entry_due on time a of) = ap (λ n. due_at on time (n, a)) zeroth ∙ due_of_queue on time place a of is in
    let own = option_to_list (option_map {U = Due} (λ x. record { queue = place; surface = x.surface }) (entry_due on time a of)) in
    let dues : filter_map (due_at on time) (enumerate_from 0 old) ≡ parts.before ++ (own ++ parts.after) = parts.splits ∙ ap (λ o. parts.before ++ (option_to_list o ++ parts.after)) mine in
    let first = others_stay time parts.before place objects b of (subst (λ n. AllByRecursion (λ (one : Due). one.queue ≢ n) parts.before) zeroth parts.others_before) there same in
    let second = own_list time place (entry_due on time a of) (all_shown time parts.before objects) first.0 of (due_or_none on time a of) first.1 first.3 in
    let third = others_stay time parts.after place (all_shown time own (all_shown time parts.before objects)) second.0 (record of { queue = ticked_by (entry_due on time a of) of.queue })
    (subst (λ n. AllByRecursion (λ (one : Due). one.queue ≢ n) parts.after) zeroth parts.others_after) second.1 second.3 in
    let lists : all_shown time (filter_map (due_at on time) (enumerate_from 0 old)) objects ≡ all_shown time parts.after (all_shown time own (all_shown time parts.before objects)) =
    ap (λ l. all_shown time l objects) dues ∙ (shown-append time parts.before (own ++ parts.after) objects ∙ shown-append time own parts.after (all_shown time parts.before objects)) in
    (third.0, ap (λ l. slice_get l place) lists ∙ third.1, stays_then b first.0 third.0 first.2 (stays_then first.0 second.0 third.0 second.2 third.2), third.3)

-- ---- the flips on it

module _ (queue : ℕ) (s : State) (on time : ℕ) where
  none_on : (dues : List Due) → AllByRecursion (λ (one : Due). (name_at s one.queue == queue) ≡ false) dues → filter (is_on queue) (map (flip_of s time) dues) ≡ []
  none_on [] all = refl
  none_on (one ∷ later) all = ap (λ b. if b then flip_of s time one ∷ filter (is_on queue) (map (flip_of s time) later) else filter (is_on queue) (map (flip_of s time) later)) all.0 ∙ none_on later all.1

  abbrev NotNamed : Due → Type 0
  NotNamed one = (name_at s one.queue == queue) ≡ false

  name_of : (one : Due) (is : IsQueueAt on time s.objects one) → name_at s one.queue ≡ is.object.name
  name_of one is = ap (λ (o : Option Object). option_map_or (λ (x : Object). x.name) o 0) is.stands

  -- where no queue has the name
  pub no_flips : ((place : ℕ) (a : Object) → slice_get s.objects place ≡ Some a → a.name ≡ queue → as_queue a.content ≡ None) → filter (is_on queue) (map (flip_of s time) (all_due s on time)) ≡ []
  no_flips none =
      none_on (all_due s on time)
      (all_weaker (IsQueueAt on time s.objects) NotNamed (λ one is.
      ne_eqb (name_at s one.queue) queue (λ same.
      absurd (let k : (let o : Option PresentationQueue = None in o ≡ Some is.of) = sym (none one.queue is.object is.stands (sym (name_of one is) ∙ same)) ∙ is.is_queue in cc))) (all_due s on time) (are_queues on time s.objects))

  -- of the queue at this place, which alone has the name
  pub flips_of_queue : (place : ℕ) (a : Object) (of : PresentationQueue) → IsAt queue place s.objects → slice_get s.objects place ≡ Some a → a.name ≡ queue → IsQueue a of
      → filter (is_on queue) (map (flip_of s time) (all_due s on time)) ≡ map (flip_of s time) (option_to_list (option_map {U = Due} (λ x. record { queue = place; surface = x.surface }) (entry_due on time a of)))
  flips_of_queue place a of at e named is =
      let parts = split on time 0 s.objects place a e in
      let zeroth : 0 + place ≡ place = omega arith in
      let mine : due_at on time (0 + place, a) ≡ option_map {U = Due} (λ x. record { queue = place; surface = x.surface }) (entry_due on time a of) = ap (λ n. due_at on time (n, a)) zeroth ∙ due_of_queue on time place a of is in
      let own = option_to_list (option_map {U = Due} (λ x. record { queue = place; surface = x.surface }) (entry_due on time a of)) in
      let dues : all_due s on time ≡ parts.before ++ (own ++ parts.after) = parts.splits ∙ ap (λ o. parts.before ++ (option_to_list o ++ parts.after)) mine in
      let all : AllByRecursion (IsQueueAt on time s.objects) (parts.before ++ (own ++ parts.after)) = subst (AllByRecursion (IsQueueAt on time s.objects)) dues (are_queues on time s.objects) in
      let front = all_parts (IsQueueAt on time s.objects) parts.before (own ++ parts.after) all in
      let back = all_parts (IsQueueAt on time s.objects) own parts.after front.1 in
      let other : (one : Due) → IsQueueAt on time s.objects one → one.queue ≢ 0 + place → NotNamed one = λ one q apart.
      ap (λ n. n == queue) (name_of one q) ∙ (sym (at one.queue q.object q.stands) ∙ ne_eqb one.queue place (λ same. apart (same ∙ sym zeroth))) in
      let before_none = none_on parts.before (all_both (IsQueueAt on time s.objects) (λ one. one.queue ≢ 0 + place) NotNamed other parts.before front.0 parts.others_before) in
      let after_none = none_on parts.after (all_both (IsQueueAt on time s.objects) (λ one. one.queue ≢ 0 + place) NotNamed other parts.after back.1 parts.others_after) in
      ap (λ l. filter (is_on queue) (map (flip_of s time) l)) dues
      ∙ (spread parts.before own parts.after
      ∙ (ap (λ l. l ++ (filter (is_on queue) (map (flip_of s time) own) ++ filter (is_on queue) (map (flip_of s time) parts.after))) before_none
      ∙ (ap (λ l. filter (is_on queue) (map (flip_of s time) own) ++ l) after_none
      ∙ (append_none (filter (is_on queue) (map (flip_of s time) own)) ∙ own_flips (entry_due on time a of)))))
    where
      spread : (xs ys zs : List Due) → filter (is_on queue) (map (flip_of s time) (xs ++ (ys ++ zs)))
          ≡ filter (is_on queue) (map (flip_of s time) xs) ++ (filter (is_on queue) (map (flip_of s time) ys) ++ filter (is_on queue) (map (flip_of s time) zs))
      spread xs ys zs =
          ap (filter (is_on queue)) (map-append (flip_of s time) xs (ys ++ zs) ∙ ap (λ l. map (flip_of s time) xs ++ l) (map-append (flip_of s time) ys zs))
          ∙ (filter-append (is_on queue) (map (flip_of s time) xs) (map (flip_of s time) ys ++ map (flip_of s time) zs)
          ∙ ap (λ l. filter (is_on queue) (map (flip_of s time) xs) ++ l) (filter-append (is_on queue) (map (flip_of s time) ys) (map (flip_of s time) zs)))

      append_none : (flips : List Flipped) → flips ++ [] ≡ flips
      append_none [] = refl
      append_none (flip ∷ flips) = ap (λ l. flip ∷ l) (append_none flips)

      own_name : (name_at s place == queue) ≡ true
      own_name = ap (λ (o : Option Object). option_map_or (λ (x : Object). x.name) o 0 == queue) e ∙ eq-eqb a.name queue named

      own_flips : (entry : Option (Queued ℕ)) → filter (is_on queue) (map (flip_of s time) (option_to_list (option_map {U = Due} (λ x. record { queue = place; surface = x.surface }) entry)))
          ≡ map (flip_of s time) (option_to_list (option_map {U = Due} (λ x. record { queue = place; surface = x.surface }) entry))
      own_flips None = refl
      own_flips (Some entry) = ap (λ b. if b then flip_of s time (record { queue = place; surface = entry.surface }) ∷ [] else []) own_name
