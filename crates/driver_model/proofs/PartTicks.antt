-- Changes of one object, and the ticks of the device's clock, in the part about the device.
use Rattle.std.proofs.Common.{◌≡◌, ℕ, zero, suc, ◌+◌, ◌==◌, Bool, true, false, ◌&&◌, if◌then◌else◌, List, [], ◌∷◌, map, filter_map, slice_get, Option, Some, None, refl, ap, sym, ◌∙◌, subst, arith}
use Rattle.std.proofs.lemmas.Bool.{and_right}
use Rattle.std.specs.List.{AllByRecursion, cons_option, enumerate_from}
use Rattle.std.specs.Option.{option_and_then, option_map}
use Rattle.present_queue.specs.Queue.{Queued, due}
use Rattle.driver_model.specs.Clock.{Due, all_shown, due_at, due_in, shown, with_flip, with_tick}
use Rattle.driver_model.specs.Objects.{Content, DeviceObject, VideoObject, OutputObject, DecoderObject, MixerObject, QueueObject, Object, as_queue}
use Rattle.driver_model.specs.States.{changed_at}
use Rattle.driver_model.proofs.PartContents.{due-moved, moved_content, moved_entry, moved_object, part_of, with_flip-moved, with_tick-moved}
use Rattle.driver_model.proofs.PartPlaces.{Cut, kept, next, place_in, place_in-one, place_in-own, rank}

module _ {A B : Type 0} where
  pub cons-map : (f : A → B) (o : Option A) (xs : List A) → cons_option (option_map f o) (map f xs) ≡ map f (cons_option o xs)
  cons-map f None xs = refl
  cons-map f (Some x) xs = refl

-- The places are those of the objects of the device at a place.
abbrev pub AreOf : (ℕ → Bool) → ℕ → List Object → Type 0
AreOf own on objects = (k : ℕ) (object : Object) → slice_get objects k ≡ Some object → own k ≡ (object.device == on)

module _ (c : Cut) where
  -- ---- one object is changed

  module _ (change moved_change : Object → Object) where
    kept-changed : ((a : Object) → moved_object c (change a) ≡ moved_change (moved_object c a)) → (own : ℕ → Bool) (place : ℕ) (objects : List Object) → own place ≡ true
        → kept (moved_object c) own (changed_at place change objects) ≡ changed_at (rank own place) moved_change (kept (moved_object c) own objects)
    unfolding kept rank changed_at
    kept-changed moves own place [] is = refl
    kept-changed moves own zero (object ∷ later) is =
        let rest : List Object = kept (moved_object c) (next own) later in
        subst (λ t. (if t then moved_object c (change object) ∷ rest else rest) ≡ changed_at 0 moved_change (if t then moved_object c object ∷ rest else rest)) (sym is)
        (ap (λ o. o ∷ rest) (moves object))
    kept-changed moves own (suc place) (object ∷ later) is = by_first (own 0) (kept-changed moves (next own) place later is) where
      by_first : (t : Bool) → kept (moved_object c) (next own) (changed_at place change later) ≡ changed_at (rank (next own) place) moved_change (kept (moved_object c) (next own) later)
          → (if t then moved_object c object ∷ kept (moved_object c) (next own) (changed_at place change later) else kept (moved_object c) (next own) (changed_at place change later))
          ≡ changed_at (if t then suc (rank (next own) place) else rank (next own) place) moved_change (if t then moved_object c object ∷ kept (moved_object c) (next own) later else kept (moved_object c) (next own) later)
      by_first true rest = ap (λ l. moved_object c object ∷ l) rest
      by_first false rest = rest

    pub part-changed : ((a : Object) → moved_object c (change a) ≡ moved_change (moved_object c a)) → (place : ℕ) (objects : List Object) → c.own place ≡ true
        → part_of c (changed_at place change objects) ≡ changed_at (place_in c place) moved_change (part_of c objects)
    part-changed moves place objects is =
        kept-changed moves c.own place objects is ∙ ap (λ k. changed_at k moved_change (part_of c objects)) (sym (place_in-own c place is))

  -- ---- places counted from the front

  -- The places of a list that begins at i stand where those of its part do, which begins at j.
  abbrev pub Stand : (i j : ℕ) → (ℕ → Bool) → Type 0
  Stand i j own = (k : ℕ) → own k ≡ true → place_in c (i + k) ≡ j + rank own k

  pub stand_all : Stand 0 0 c.own
  stand_all k is =
      let here : 0 + k ≡ k = omega arith in
      let there : rank c.own k ≡ 0 + rank c.own k = omega arith in
      ap (place_in c) here ∙ (place_in-own c k is ∙ there)

  pub stand_here : (i j : ℕ) (own : ℕ → Bool) → Stand i j own → own 0 ≡ true → place_in c i ≡ j
  unfolding rank
  stand_here i j own stand is =
      let here : i ≡ i + 0 = omega arith in
      let there : j + 0 ≡ j = omega arith in
      ap (place_in c) here ∙ (stand 0 is ∙ there)

  pub stand_own : (i j : ℕ) (own : ℕ → Bool) → Stand i j own → own 0 ≡ true → Stand (i + 1) (j + 1) (next own)
  unfolding rank
  stand_own i j own stand first k is =
      let here : i + 1 + k ≡ i + suc k = omega arith in
      let more : rank own (suc k) ≡ suc (rank (next own) k) = ap (λ t. if t then suc (rank (next own) k) else rank (next own) k) first in
      let there : j + suc (rank (next own) k) ≡ j + 1 + rank (next own) k = omega arith in
      ap (place_in c) here ∙ (stand (suc k) is ∙ (ap (λ n. j + n) more ∙ there))

  pub stand_other : (i j : ℕ) (own : ℕ → Bool) → Stand i j own → own 0 ≡ false → Stand (i + 1) j (next own)
  unfolding rank
  stand_other i j own stand first k is =
      let here : i + 1 + k ≡ i + suc k = omega arith in
      let same : rank own (suc k) ≡ rank (next own) k = ap (λ t. if t then suc (rank (next own) k) else rank (next own) k) first in
      ap (place_in c) here ∙ (stand (suc k) is ∙ ap (λ n. j + n) same)

  -- ---- what is due

  abbrev pub moved_due : Due → Due
  moved_due due = record { queue = place_in c due.queue; surface = place_in c due.surface }

  due_in-queue : (i j time : ℕ) (entry : Option (Queued ℕ)) → place_in c i ≡ j
      → option_map {U = Due} (λ e. record { queue = j; surface = e.surface }) (option_map (moved_entry c) entry) ≡ option_map moved_due (option_map (λ e. record { queue = i; surface = e.surface }) entry)
  due_in-queue i j time None here = refl
  due_in-queue i j time (Some entry) here = ap (λ k. Some (record { queue = k; surface = place_in c entry.surface })) (sym here)

  due_in-content : (i j time : ℕ) (content : Content) → place_in c i ≡ j
      → option_and_then (due_in time j) (as_queue (moved_content c content)) ≡ option_map moved_due (option_and_then (due_in time i) (as_queue content))
  due_in-content i j time (DeviceObject of) here = refl
  due_in-content i j time (VideoObject of) here = refl
  due_in-content i j time (OutputObject of) here = refl
  due_in-content i j time (DecoderObject of) here = refl
  due_in-content i j time (MixerObject of) here = refl
  due_in-content i j time (QueueObject of) here =
      ap (λ o. option_map {U = Due} (λ e. record { queue = j; surface = e.surface }) o) (due-moved c of.queue time) ∙ due_in-queue i j time (due of.queue time) here

  due_at-own : (on i j time : ℕ) (object : Object) → place_in c i ≡ j → due_at (place_in c on) time (j, moved_object c object) ≡ option_map moved_due (due_at on time (i, object))
  due_at-own on i j time object here =
      ap (λ t. if object.is_live && t then option_and_then (due_in time j) (as_queue (moved_content c object.content)) else None) (place_in-one c object.device on)
      ∙ by_test (object.is_live && object.device == on)
    where
      by_test : (t : Bool) → (if t then option_and_then (due_in time j) (as_queue (moved_content c object.content)) else None) ≡ option_map moved_due (if t then option_and_then (due_in time i) (as_queue object.content) else None)
      by_test true = due_in-content i j time object.content here
      by_test false = refl

  due_at-other : (on i time : ℕ) (object : Object) → (object.device == on) ≡ false → due_at on time (i, object) ≡ None
  due_at-other on i time object other =
      ap (λ t. if t then option_and_then (due_in time i) (as_queue object.content) else None) (and_right object.is_live (object.device == on) other)

  due-kept : (on time i j : ℕ) (own : ℕ → Bool) (objects : List Object) → Stand i j own → AreOf own on objects
      → filter_map (due_at (place_in c on) time) (enumerate_from j (kept (moved_object c) own objects)) ≡ map moved_due (filter_map (due_at on time) (enumerate_from i objects))
  unfolding kept
  due-kept on time i j own [] stand are = refl
  due-kept on time i j own (object ∷ later) stand are =
      by_first (own 0) refl
      (λ is. due-kept on time (i + 1) (j + 1) (next own) later (stand_own i j own stand is) (λ n o e. are (suc n) o e))
      (λ is. due-kept on time (i + 1) j (next own) later (stand_other i j own stand is) (λ n o e. are (suc n) o e))
    where
      by_first : (t : Bool) → own 0 ≡ t → (own 0 ≡ true → filter_map (due_at (place_in c on) time) (enumerate_from (j + 1) (kept (moved_object c) (next own) later)) ≡ map moved_due (filter_map (due_at on time) (enumerate_from (i + 1) later))) → (own 0 ≡ false → filter_map (due_at (place_in c on) time) (enumerate_from j (kept (moved_object c) (next own) later)) ≡ map moved_due (filter_map (due_at on time) (enumerate_from (i + 1) later)))
          → filter_map (due_at (place_in c on) time) (enumerate_from j (if t then moved_object c object ∷ kept (moved_object c) (next own) later else kept (moved_object c) (next own) later))
          ≡ map moved_due (cons_option (due_at on time (i, object)) (filter_map (due_at on time) (enumerate_from (i + 1) later)))
      by_first true is rest other =
          (λ k. cons_option (due_at-own on i j time object (stand_here i j own stand is) k) (rest is k))
          ∙ cons-map moved_due (due_at on time (i, object)) (filter_map (due_at on time) (enumerate_from (i + 1) later))
      by_first false is rest other =
          other is
          ∙ ap (λ o. map moved_due (cons_option o (filter_map (due_at on time) (enumerate_from (i + 1) later)))) (sym (due_at-other on i time object (sym (are 0 object refl) ∙ is)))

  -- the device's queues that are due are so in the part
  pub part-due : (on time : ℕ) (objects : List Object) → AreOf c.own on objects
      → filter_map (due_at (place_in c on) time) (enumerate_from 0 (part_of c objects)) ≡ map moved_due (filter_map (due_at on time) (enumerate_from 0 objects))
  part-due on time objects are = due-kept on time 0 0 c.own objects stand_all are

  -- ---- what is shown

  abbrev pub IsOwnDue : Due → Type 0
  IsOwnDue due = (c.own due.queue ≡ true) × (c.own due.surface ≡ true)

  part-shown : (time : ℕ) (due : Due) (objects : List Object) → IsOwnDue due → part_of c (shown time due objects) ≡ shown time (moved_due due) (part_of c objects)
  part-shown time due objects own =
      let ticks : Object → Object = λ object. record object { content = with_tick time object.content } in
      let flips : Object → Object = λ object. record object { content = with_flip due.queue time object.content } in
      let moved_flips : Object → Object = λ object. record object { content = with_flip (place_in c due.queue) time object.content } in
      part-changed flips moved_flips (λ a. ap (λ o. record { name = a.name; device = place_in c a.device; is_live = a.is_live; content = o }) (with_flip-moved c due.queue time a.content)) due.surface (changed_at due.queue ticks objects) own.1
      ∙ ap (changed_at (place_in c due.surface) moved_flips)
      (part-changed ticks ticks (λ a. ap (λ o. record { name = a.name; device = place_in c a.device; is_live = a.is_live; content = o }) (with_tick-moved c time a.content)) due.queue objects own.0)

  pub part-all_shown : (time : ℕ) (dues : List Due) (objects : List Object) → AllByRecursion IsOwnDue dues → part_of c (all_shown time dues objects) ≡ all_shown time (map moved_due dues) (part_of c objects)
  unfolding all_shown
  part-all_shown time [] objects own = refl
  part-all_shown time (due ∷ later) objects own = part-all_shown time later (shown time due objects) own.1 ∙ ap (all_shown time (map moved_due later)) (part-shown time due objects own.0)
