-- Changes of what is kept of one object are changes of that object in the state.
use Rattle.std.proofs.Common.{◌≡◌, ℕ, zero, suc, ◌+◌, ◌<◌, ◌≤◌, get_or, Bool, ◌||◌, if◌then◌else◌, List, [], ◌∷◌, ◌++◌, length, map, slice_get, Option, Some, None, refl, ap, sym, ◌∙◌, arith}
use Rattle.std.specs.List.{count_by, list_any}
use Rattle.std.proofs.lemmas.List.Recursion.{is_count_by}
use Rattle.std.proofs.Math.ListN.{set}
use Rattle.driver_model.specs.Objects.{Object}
use Rattle.std.proofs.lemmas.Option.{slice_get_read}
use Rattle.driver_model.specs.States.{State, changed_at}
use Rattle.plain_driver.specs.Presenting.{with_object_changed}
use Rattle.plain_driver.specs.States.{object_of, objects_of, state_of}
use Rattle.plain_driver.specs.declared.driver.Plain.{Plain}
use Rattle.plain_driver.specs.declared.objects.PlainObject.{PlainObject}

some_is : (a b : PlainObject) → (let o : Option PlainObject = Some a in o ≡ Some b) → a ≡ b
some_is a b e = cc

pub length-objects_of : (objects : List PlainObject) → length (objects_of objects) ≡ length objects
length-objects_of [] = refl
length-objects_of (object ∷ later) = ap suc (length-objects_of later)

-- one of them is another now
pub objects_of-set : (change : Object → Object) (objects : List PlainObject) (place : ℕ) (old new : PlainObject) → slice_get objects place ≡ Some old → object_of new ≡ change (object_of old)
    → objects_of (set objects place new) ≡ changed_at place change (objects_of objects)
unfolding changed_at
objects_of-set change [] place old new stands is = absurd (let k : (let o : Option PlainObject = None in o ≡ Some old) = stands in cc)
objects_of-set change (object ∷ later) zero old new stands is =
    ap (λ o. o ∷ objects_of later) (is ∙ ap (λ o. change (object_of o)) (sym (some_is object old stands)))
objects_of-set change (object ∷ later) (suc place) old new stands is = ap (λ rest. object_of object ∷ rest) (objects_of-set change later place old new stands is)

-- the same of the state, where the object was read at its place
pub state_changed : (s : Plain) (place : ℕ) (old new : PlainObject) (change : Object → Object) → place < length s.objects.items → old ≡ get_or s.objects.items place old → object_of new ≡ change (object_of old)
    → (let t : State = record (state_of s) { objects = objects_of (set s.objects.items place new) } in t) ≡ with_object_changed (state_of s) place change
state_changed s place old new change below is changes =
    ap (λ o. let t : State = record (state_of s) { objects = o } in t) (objects_of-set change s.objects.items place old new (slice_get_read s.objects.items _ place old refl below is) changes)

-- nothing changes past the end
changed_at_past : (change : Object → Object) (place : ℕ) (objects : List Object) → length objects ≤ place → changed_at place change objects ≡ objects
unfolding changed_at
changed_at_past change place [] past = refl
changed_at_past change zero (object ∷ later) past = absurd (omega arith)
changed_at_past change (suc place) (object ∷ later) past = ap (λ rest. object ∷ rest) (changed_at_past change place later (omega arith))

pub state_unchanged : (s : Plain) (place : ℕ) (change : Object → Object) → length s.objects.items ≤ place → state_of s ≡ with_object_changed (state_of s) place change
state_unchanged s place change past =
    ap (λ o. let t : State = record (state_of s) { objects = o } in t) (sym (changed_at_past change place (objects_of s.objects.items) (omega (arith, past, length-objects_of s.objects.items))))

-- one more
pub objects_of-push : (objects : List PlainObject) (one : PlainObject) → objects_of (objects ++ one ∷ []) ≡ objects_of objects ++ object_of one ∷ []
objects_of-push [] one = refl
objects_of-push (object ∷ later) one = ap (λ rest. object_of object ∷ rest) (objects_of-push later one)

-- counts and tests of what stands for something
counts : {X : Type 0} → (X → Bool) → List X → ℕ
counts p [] = 0
counts p (x ∷ xs) = if p x then 1 + counts p xs else counts p xs

counts_is : {X : Type 0} (p : X → Bool) (xs : List X) → counts p xs ≡ count_by p xs
unfolding counts
counts_is p xs = is_count_by (counts p) p refl (λ x ys. refl) xs

counts-map : {X Y : Type 0} (f : X → Y) (p : Y → Bool) (xs : List X) → counts p (map f xs) ≡ counts (λ x. p (f x)) xs
unfolding counts
counts-map f p [] = refl
counts-map f p (x ∷ xs) = ap (λ n. if p (f x) then 1 + n else n) (counts-map f p xs)

pub count_by-map : {X Y : Type 0} (f : X → Y) (p : Y → Bool) (xs : List X) → count_by p (map f xs) ≡ count_by (λ x. p (f x)) xs
count_by-map f p xs = sym (counts_is p (map f xs)) ∙ (counts-map f p xs ∙ counts_is (λ x. p (f x)) xs)

pub list_any-map : {X Y : Type 0} (f : X → Y) (p : Y → Bool) (xs : List X) → list_any p (map f xs) ≡ list_any (λ x. p (f x)) xs
list_any-map f p [] = refl
list_any-map f p (x ∷ xs) = ap (λ b. p (f x) || b) (list_any-map f p xs)

-- two tests that are the same at each element
counts-same : {X : Type 0} (p q : X → Bool) → ((x : X) → p x ≡ q x) → (xs : List X) → counts p xs ≡ counts q xs
unfolding counts
counts-same p q same [] = refl
counts-same p q same (y ∷ ys) = ap (λ b. if b then 1 + counts p ys else counts p ys) (same y) ∙ ap (λ n. if q y then 1 + n else n) (counts-same p q same ys)

pub count_by-same : {X : Type 0} (p q : X → Bool) → ((x : X) → p x ≡ q x) → (xs : List X) → count_by p xs ≡ count_by q xs
count_by-same p q same xs = sym (counts_is p xs) ∙ (counts-same p q same xs ∙ counts_is q xs)
