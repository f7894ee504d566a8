-- Loops that change each object, or one after the other.
use Rattle.std.proofs.Common.{◌≡◌, ℕ, zero, suc, ◌+◌, ◌<◌, ◌≤◌, ◌==◌, ◌&&◌, Bool, true, false, if◌then◌else◌, List, [], ◌∷◌, ◌++◌, length, take, drop, map, Vec, Global, get_or, slice_get, Option, Some, None, refl, ap, sym, ◌∙◌, subst, arith}
use Rattle.std.specs.List.{cons_option, enumerate_from, filter_map}
use Rattle.std.specs.Option.{option_and_then, option_map}
use Rattle.std.proofs.Math.ListN.{set}
use Rattle.std.proofs.lemmas.List.{append-nil, length-take, map-append, take_more}
use Rattle.std.proofs.Math.Seq.{take-append_seam}
use Rattle.std.proofs.lemmas.Option.{slice_get_read}
use Rattle.present_queue.specs.Queue.{Queued, due}
use Rattle.driver_model.specs.Clock.{Due, all_shown, due_at, due_in, shown, with_flip, with_tick}
use Rattle.driver_model.specs.States.{State}
use Rattle.driver_model.specs.Objects.{Object, PresentationQueue, as_queue}
use Rattle.plain_driver.specs.States.{content_of, object_of, objects_of}
use Rattle.plain_driver.specs.Presenting.{with_changed}
use Rattle.plain_driver.specs.Ticking as ticking
use Rattle.plain_driver.specs.Ticking.{due_surface}
use Rattle.plain_driver.specs.declared.objects.PlainObject.{PlainObject}
use Rattle.plain_driver.specs.declared.queues.Places.{Places}

some_is : (a b : PlainObject) → (let o : Option PlainObject = Some a in o ≡ Some b) → a ≡ b
some_is a b e = cc

module _ (f : Object → Object) where
  -- the first so many objects of the list are changed, and the others are as they were
  unfoldable pub IsUpTo : ℕ → List PlainObject → List PlainObject → Type 0
  IsUpTo i [] [] = Unit {0}
  IsUpTo i [] (y ∷ ys) = ⊥
  IsUpTo i (x ∷ xs) [] = ⊥
  IsUpTo zero (x ∷ xs) (y ∷ ys) = (y ≡ x) × IsUpTo zero xs ys
  IsUpTo (suc i) (x ∷ xs) (y ∷ ys) = (object_of y ≡ f (object_of x)) × IsUpTo i xs ys

  pub up_to_none : (xs : List PlainObject) → IsUpTo 0 xs xs
  unfolding IsUpTo
  up_to_none [] = tt
  up_to_none (x ∷ xs) = (refl, up_to_none xs)

  up_to_set : (i : ℕ) (xs ys : List PlainObject) (old new : PlainObject) → IsUpTo i xs ys → slice_get ys i ≡ Some old → object_of new ≡ f (object_of old) → IsUpTo (suc i) xs (set ys i new)
  unfolding IsUpTo
  up_to_set i [] [] old new is stands changed = tt
  up_to_set i [] (y ∷ ys) old new is stands changed = absurd is
  up_to_set i (x ∷ xs) [] old new is stands changed = absurd is
  up_to_set zero (x ∷ xs) (y ∷ ys) old new is stands changed =
      (changed ∙ ap (λ o. f (object_of o)) (sym (some_is y old stands) ∙ is.0), is.1)
  up_to_set (suc i) (x ∷ xs) (y ∷ ys) old new is stands changed = (is.0, up_to_set i xs ys old new is.1 stands changed)

  -- one more is changed
  pub up_to_more : (i n : ℕ) (xs ys : List PlainObject) (old new : PlainObject) → n ≡ length ys → i < n → IsUpTo i xs ys → old ≡ get_or ys i old → object_of new ≡ f (object_of old) → IsUpTo (i + 1) xs (set ys i new)
  up_to_more i n xs ys old new is_length below is at changed =
      subst (λ k. IsUpTo k xs (set ys i new)) (omega arith) (up_to_set i xs ys old new is (slice_get_read ys n i old is_length below at) changed)

  pub up_to_all : (i : ℕ) (xs ys : List PlainObject) → IsUpTo i xs ys → length xs ≤ i → objects_of ys ≡ map f (objects_of xs)
  unfolding IsUpTo
  up_to_all i [] [] is past = refl
  up_to_all i [] (y ∷ ys) is past = absurd is
  up_to_all i (x ∷ xs) [] is past = absurd is
  up_to_all zero (x ∷ xs) (y ∷ ys) is past = absurd (omega arith)
  up_to_all (suc i) (x ∷ xs) (y ∷ ys) is past = λ t. is.0 t ∷ up_to_all i xs ys is.1 (omega arith) t

-- ---- what is due

module _ (on time : ℕ) where
  due_of : (place : ℕ) (entry : Option (Queued ℕ)) → option_map {U = Due} (λ e. record { queue = place; surface = e.surface }) entry ≡ option_map (λ s. record { queue = place; surface = s }) (option_map (λ e. e.surface) entry)
  due_of place None = refl
  due_of place (Some entry) = refl

  due_in_queue : (place : ℕ) (queue : Option PresentationQueue) → option_and_then (due_in time place) queue ≡ option_map (λ s. record { queue = place; surface = s }) (option_and_then (λ of. option_map (λ e. e.surface) (due of.queue time)) queue)
  due_in_queue place None = refl
  due_in_queue place (Some of) = due_of place (due of.queue time)

  due_if : (test : Bool) (place : ℕ) (queue : Option PresentationQueue)
      → (if test then option_and_then (due_in time place) queue else None) ≡ option_map (λ s. record { queue = place; surface = s }) (if test then option_and_then (λ of. option_map (λ e. e.surface) (due of.queue time)) queue else None)
  due_if true place queue = due_in_queue place queue
  due_if false place queue = refl

  pub due_at-object_of : (place : ℕ) (object : PlainObject) → due_at on time (place, object_of object) ≡ option_map (λ s. record { queue = place; surface = s }) (due_surface on time object)
  due_at-object_of place object = due_if (object.is_live && object.device == on) place (as_queue (content_of object.content))

  abbrev pub dues_from : ℕ → List PlainObject → List Due
  dues_from from objects = filter_map (due_at on time) (enumerate_from from (objects_of objects))

  cons_first : (o : Option Due) (xs ys : List Due) → cons_option o (xs ++ ys) ≡ cons_option o xs ++ ys
  cons_first None xs ys = refl
  cons_first (Some x) xs ys = refl

  pub dues_from-push : (from : ℕ) (objects : List PlainObject) (object : PlainObject)
      → dues_from from (objects ++ object ∷ []) ≡ dues_from from objects ++ cons_option (option_map (λ s. record { queue = from + length objects; surface = s }) (due_surface on time object)) []
  dues_from-push from [] object = ap (λ o. cons_option o []) (due_at-object_of from object) ∙ ap (λ n. cons_option (option_map (λ s. record { queue = n; surface = s }) (due_surface on time object)) []) (omega arith)
  dues_from-push from (first ∷ later) object =
      ap (cons_option (due_at on time (from, object_of first))) (dues_from-push (from + 1) later object)
      ∙ (cons_first (due_at on time (from, object_of first)) (dues_from (from + 1) later) _
      ∙ ap (λ n. dues_from from (first ∷ later) ++ cons_option (option_map (λ s. record { queue = n; surface = s }) (due_surface on time object)) []) (omega arith))

-- the places of those that are due, with one more, if it is
abbrev pub dues_with : List Places → ℕ → Option ℕ → List Places
dues_with dues place None = dues
dues_with dues place (Some surface) = dues ++ record { queue = place; surface = surface } ∷ []

map-dues_with : (dues : List Places) (place : ℕ) (surface : Option ℕ) → map ticking.due_of (dues_with dues place surface) ≡ map ticking.due_of dues ++ cons_option (option_map (λ s. record { queue = place; surface = s }) surface) []
map-dues_with dues place None = sym (append-nil (map ticking.due_of dues))
map-dues_with dues place (Some surface) = map-append ticking.due_of dues (record { queue = place; surface = surface } ∷ [])

pub dues_more : (on time : ℕ) (objects : List PlainObject) (i : ℕ) (object : PlainObject) (dues new : List Places) (surface : Option ℕ)
    → i < length objects
    → object ≡ get_or objects i object
    → map ticking.due_of dues ≡ dues_from on time 0 (take i objects)
    → surface ≡ due_surface on time object
    → new ≡ dues_with dues i surface
    → map ticking.due_of new ≡ dues_from on time 0 (take (i + 1) objects)
dues_more on time objects i object dues new surface below at so_far is all =
    let front : take (i + 1) objects ≡ take i objects ++ object ∷ [] = take_more objects i object below ∙ ap (λ o. take i objects ++ o ∷ []) (sym at) in
    let so_many : length (take i objects) ≡ i = omega (arith, length-take i objects) in
    let one : ℕ → Option ℕ → List Due = λ n o. cons_option (option_map (λ s. record { queue = n; surface = s }) o) [] in
    ap (map ticking.due_of) all
    ∙ (map-dues_with dues i surface
    ∙ (ap (λ xs. xs ++ one i surface) so_far
    ∙ (ap (λ o. dues_from on time 0 (take i objects) ++ one i o) is
    ∙ (ap (λ n. dues_from on time 0 (take i objects) ++ one n (due_surface on time object)) (sym so_many ∙ omega arith)
    ∙ (sym (dues_from-push on time 0 (take i objects) object) ∙ ap (dues_from on time 0) (sym front))))))

-- ---- what is shown

pub all_shown-push : (time : ℕ) (dues : List Due) (due : Due) (objects : List Object) → all_shown time (dues ++ due ∷ []) objects ≡ shown time due (all_shown time dues objects)
unfolding all_shown
all_shown-push time [] due objects = refl
all_shown-push time (first ∷ later) due objects = all_shown-push time later due (shown time first objects)

-- one more is shown
pub show_more : (time : ℕ) (dues : List Places) (i : ℕ) (d due : Places) (before s t u : State)
    → i < length dues
    → due ≡ get_or dues i d
    → s ≡ ticking.with_all_shown before time (map ticking.due_of (take i dues))
    → t ≡ with_changed s due.queue (with_tick time)
    → u ≡ with_changed t due.surface (with_flip due.queue time)
    → u ≡ ticking.with_all_shown before time (map ticking.due_of (take (i + 1) dues))
show_more time dues i d due before s t u below at so_far ticks flips =
    let front : take (i + 1) dues ≡ take i dues ++ due ∷ [] = take_more dues i d below ∙ ap (λ x. take i dues ++ x ∷ []) (sym at) in
    let told : map ticking.due_of (take (i + 1) dues) ≡ map ticking.due_of (take i dues) ++ ticking.due_of due ∷ [] = ap (map ticking.due_of) front ∙ map-append ticking.due_of (take i dues) (due ∷ []) in
    flips
    ∙ (ap (λ x. with_changed x due.surface (with_flip due.queue time)) (ticks ∙ ap (λ x. with_changed x due.queue (with_tick time)) so_far)
    ∙ (ap (λ o. let v : State = record before { objects = o } in v) (sym (all_shown-push time (map ticking.due_of (take i dues)) (ticking.due_of due) before.objects))
    ∙ ap (λ ds. ticking.with_all_shown before time ds) (sym told)))

-- what is written over all of a vector's elements
pub items_are : (v : Vec ℕ Global) (xs : List ℕ) → length xs ≡ length v.items → take v.len (xs ++ drop (length xs) v.items) ≡ xs
items_are v xs same = ap (λ n. take n (xs ++ drop (length xs) v.items)) (omega (arith, same, v.ok.0)) ∙ take-append_seam xs (drop (length xs) v.items)
