-- What a driver keeps, counted from the front.
use Rattle.std.proofs.Common.{◌≡◌, ℕ, suc, ◌+◌, ◌<◌, ◌==◌, Bool, true, false, ◌&&◌, ◌||◌, if◌then◌else◌, List, [], ◌∷◌, ◌++◌, length, take, get_or, Option, Some, None, refl, ap, sym, ◌∙◌, arith}
use Rattle.std.specs.Option.{option_map_or}
use Rattle.std.proofs.lemmas.List.{length-take, take_more}
use Rattle.std.proofs.lemmas.List.Recursion.{is_sum_by}
use Rattle.std.proofs.lemmas.List.Sums.{sum_by_push}
use Rattle.std.specs.List.{cons_option, count_by, enumerate_from, filter_map, list_any, sum_by}
use Rattle.present_queue.specs.Queue.{Queue, holds, shows}
use Rattle.driver_model.specs.Kept.{live_queue}
use Rattle.driver_model.specs.Objects.{Object}
use Rattle.plain_driver.specs.Keeping.{some_live_holds, some_live_shows, waiting_in}
use Rattle.plain_driver.specs.Presenting.{holds_in, shows_in}
use Rattle.plain_driver.specs.States.{object_of, objects_of}
use Rattle.plain_driver.specs.declared.objects.PlainContent.{PlainContent}
use Rattle.plain_driver.specs.declared.objects.PlainContent.TheVariants as plain
use Rattle.plain_driver.specs.declared.objects.PlainObject.{PlainObject}

abbrev queues : List PlainObject → List (Queue ℕ)
queues objects = filter_map live_queue (objects_of objects)

abbrev made_of : PlainObject → Bool → PlainContent → PlainObject
made_of object live content = record object { is_live = live; content = content }

module _ (surface : ℕ) where
  holds_first : (object : PlainObject) (live : Bool) (content : PlainContent) (later : List PlainObject)
      → ((live && holds_in surface content) || list_any (holds (λ place. place == surface)) (queues later)) ≡ list_any (holds (λ place. place == surface)) (queues (made_of object live content ∷ later))
  holds_first object true (plain.Device of) later = refl
  holds_first object true (plain.Video of) later = refl
  holds_first object true (plain.Output of) later = refl
  holds_first object true (plain.Decoder of) later = refl
  holds_first object true (plain.Mixer of) later = refl
  holds_first object true (plain.Queue of) later = refl
  holds_first object false content later = refl

  pub some_live_holds-is : (objects : List PlainObject) → some_live_holds surface objects ≡ list_any (holds (λ place. place == surface)) (queues objects)
  some_live_holds-is [] = refl
  some_live_holds-is (object ∷ later) = ap (λ b. (object.is_live && holds_in surface object.content) || b) (some_live_holds-is later) ∙ holds_first object object.is_live object.content later

  shows_first : (object : PlainObject) (live : Bool) (content : PlainContent) (later : List PlainObject)
      → ((live && shows_in surface content) || list_any (shows (λ place. place == surface)) (queues later)) ≡ list_any (shows (λ place. place == surface)) (queues (made_of object live content ∷ later))
  shows_first object true (plain.Device of) later = refl
  shows_first object true (plain.Video of) later = refl
  shows_first object true (plain.Output of) later = refl
  shows_first object true (plain.Decoder of) later = refl
  shows_first object true (plain.Mixer of) later = refl
  shows_first object true (plain.Queue of) later = refl
  shows_first object false content later = refl

  pub some_live_shows-is : (objects : List PlainObject) → some_live_shows surface objects ≡ list_any (shows (λ place. place == surface)) (queues objects)
  some_live_shows-is [] = refl
  some_live_shows-is (object ∷ later) = ap (λ b. (object.is_live && shows_in surface object.content) || b) (some_live_shows-is later) ∙ shows_first object object.is_live object.content later

-- ---- entries

sums : {X : Type 0} → (X → ℕ) → List X → ℕ
sums f [] = 0
sums f (x ∷ xs) = f x + sums f xs

sums_is : {X : Type 0} (f : X → ℕ) (xs : List X) → sums f xs ≡ sum_by f xs
unfolding sums
sums_is f xs = is_sum_by (sums f) f refl (λ x ys. refl) xs

sums_first : (queue : Option (Queue ℕ)) (rest : List (Queue ℕ)) → option_map_or (λ of. length of.entries) queue 0 + sums (λ of. length of.entries) rest ≡ sums (λ of. length of.entries) (cons_option queue rest)
unfolding sums
sums_first None rest = omega arith
sums_first (Some of) rest = refl

sums_waiting : (objects : List PlainObject) → sums waiting_in objects ≡ sums (λ of. length of.entries) (queues objects)
unfolding sums
sums_waiting [] = refl
sums_waiting (object ∷ later) = ap (λ n. waiting_in object + n) (sums_waiting later) ∙ sums_first (live_queue (object_of object)) (queues later)

pub sum_by-waiting : (objects : List PlainObject) → sum_by waiting_in objects ≡ sum_by (λ of. length of.entries) (queues objects)
sum_by-waiting objects = sym (sums_is waiting_in objects) ∙ (sums_waiting objects ∙ sums_is (λ of. length of.entries) (queues objects))

-- ---- surfaces

enumerate_from-push : (from : ℕ) (objects : List PlainObject) (object : PlainObject) → enumerate_from from (objects_of (objects ++ object ∷ [])) ≡ enumerate_from from (objects_of objects) ++ (from + length objects, object_of object) ∷ []
enumerate_from-push from [] object = ap (λ n. (n, object_of object) ∷ []) (let e : from ≡ from + 0 = omega arith in e)
enumerate_from-push from (first ∷ later) object =
    ap (λ rest. (from, object_of first) ∷ rest) (enumerate_from-push (from + 1) later object)
    ∙ ap (λ n. enumerate_from from (objects_of (first ∷ later)) ++ (n, object_of object) ∷ []) (let e : from + 1 + length later ≡ from + suc (length later) = omega arith in e)

pub counted_more : (test : ℕ × Object → Bool) (objects : List PlainObject) (i : ℕ) (object : PlainObject) → i < length objects → object ≡ get_or objects i object
    → count_by test (enumerate_from 0 (objects_of (take (i + 1) objects))) ≡ count_by test (enumerate_from 0 (objects_of (take i objects))) + (if test (i, object_of object) then 1 else 0)
counted_more test objects i object below at =
    let front : take (i + 1) objects ≡ take i objects ++ object ∷ [] = take_more objects i object below ∙ ap (λ o. take i objects ++ o ∷ []) (sym at) in
    let so_many : 0 + length (take i objects) ≡ i = omega (arith, length-take i objects) in
    ap (λ xs. count_by test (enumerate_from 0 (objects_of xs))) front
    ∙ (ap (count_by test) (enumerate_from-push 0 (take i objects) object ∙ ap (λ n. enumerate_from 0 (objects_of (take i objects)) ++ (n, object_of object) ∷ []) so_many)
    ∙ sum_by_push (λ x. if test x then 1 else 0) (enumerate_from 0 (objects_of (take i objects))) (i, object_of object))
