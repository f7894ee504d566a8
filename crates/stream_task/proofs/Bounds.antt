-- How many creates and calls are left in each phase.
use Rattle.std.proofs.Common.{◌≡◌, inl, inr, ℕ, zero, suc, ◌+◌, ◌*◌, ◌≤◌, cond, List, [], ◌∷◌, count_by, length, slice_get, Option, Some, None, ap, arith}
use Rattle.std.specs.Option.{is_some}
use Rattle.std.proofs.lemmas.Bool.{cases_Bool}
use Rattle.std.proofs.lemmas.List.Sums.{sum_by-cons}
use Rattle.cb_types.specs.declared.size.SizeMbs.{SizeMbs}
use Rattle.stream_course.specs.Way.{Way}
use Rattle.stream_task.specs.Keeping.{AreWithin, IsAbout, base_calls, base_creates, calls_at, creates_at, failed_calls, failed_creates, made_at, one_if, opened}
use Rattle.stream_task.specs.Places.{fits}
use Rattle.stream_task.specs.declared.objects.Made.{Made}
use Rattle.stream_task.specs.declared.objects.Objects.{Objects}
use Rattle.stream_task.specs.declared.phase.Phase.{Phase}
use Rattle.stream_task.specs.declared.phase.Phase.TheVariants as phase
use Rattle.stream_task.specs.declared.task.StreamTask.{StreamTask}

-- ---- small numbers

pub one_if_most : {A : Type 0} (o : Option A) → one_if o ≤ 1
one_if_most None = omega (arith)
one_if_most (Some x) = omega (arith)

pub opened_most : (objects : Objects) → opened objects ≤ 2
opened_most objects = let d = one_if_most objects.device in let q = one_if_most objects.queue in omega (arith, d, q)

pub creates_most : (object : Option Made) (size : SizeMbs) → creates_at object size ≤ 1
creates_most object size = elim (cases_Bool (fits size object)) [
  | inl t ↦ let e : creates_at object size ≡ 1 = ap (λ b. cond b 1 0) t in omega (arith, e)
  | inr f ↦ let e : creates_at object size ≡ 0 = ap (λ b. cond b 1 0) f in omega (arith, e)
]

pub calls_most : (object : Option Made) (size : SizeMbs) → calls_at object size ≤ 2
calls_most None size = omega (arith)
calls_most (Some made) size = elim (cases_Bool (fits size (Some made))) [
  | inl t ↦ let e : calls_at (Some made) size ≡ 2 = ap (λ b. cond b 2 0) t in omega (arith, e)
  | inr f ↦ let e : calls_at (Some made) size ≡ 0 = ap (λ b. cond b 2 0) f in omega (arith, e)
]

failed_creates_most : (way : Way) → failed_creates way ≤ 2
failed_creates_most way = elim (cases_Bool (is_some way.failed)) [
  | inl t ↦ let e : failed_creates way ≡ 2 = ap (λ b. cond b 2 0) t in omega (arith, e)
  | inr f ↦ let e : failed_creates way ≡ 0 = ap (λ b. cond b 2 0) f in omega (arith, e)
]

failed_calls_most : (way : Way) → failed_calls way ≤ 6
failed_calls_most way = elim (cases_Bool (is_some way.failed)) [
  | inl t ↦ let e : failed_calls way ≡ 6 = ap (λ b. cond b 6 0) t in omega (arith, e)
  | inr f ↦ let e : failed_calls way ≡ 0 = ap (λ b. cond b 6 0) f in omega (arith, e)
]

-- ---- how many were told

some_waits : (waits : List (Option ℕ)) (surface picture : ℕ) → slice_get waits surface ≡ Some (Some picture) → 1 ≤ count_by is_some waits
some_waits [] surface picture is = absurd (let k : (let o : Option (Option ℕ) = None in o ≡ Some (Some picture)) = is in cc)
some_waits (one ∷ later) zero picture is =
    let c : count_by is_some (one ∷ later) ≡ cond (is_some one) 1 0 + count_by is_some later = sum_by-cons (λ y. cond (is_some y) 1 0) one later in
    let e : one ≡ Some picture = (let k : (let o : Option (Option ℕ) = Some one in o ≡ Some (Some picture)) = is in cc) in
    let here : (let n : ℕ = cond (is_some one) 1 0 in n ≡ 1) = ap (λ o. cond (is_some o) 1 0) e in
    omega (arith, c, here)
some_waits (one ∷ later) (suc surface) picture is =
    let c : count_by is_some (one ∷ later) ≡ cond (is_some one) 1 0 + count_by is_some later = sum_by-cons (λ y. cond (is_some y) 1 0) one later in
    let there = some_waits later surface picture is in
    omega (arith, c, there)

abbrev pub IsGoing : Phase → Type 0
IsGoing (phase.Done verdict) = ⊥
IsGoing _ = Unit {0}

pub told_most : (p : Phase) (task : StreamTask) (way : Way) → IsGoing p → IsAbout p task way → length way.told ≤ length way.fed.decoded
told_most phase.Asking task way going about = let few = about.wait.few in omega (arith, few)
told_most (phase.Rendering picture surface) task way going about = let few = about.wait.few in omega (arith, few)
told_most (phase.Mixing surface time) task way going about =
    let few = about.wait.few in
    let some = some_waits task.slots.waits surface about.mixes.number about.mixes.is_in in
    omega (arith, few, some)
told_most (phase.Displaying time) task way going about = let few = about.wait.few in omega (arith, few)
told_most (phase.Promising time) task way going about = let few = about.wait.few in omega (arith, few)
told_most (phase.Done verdict) task way going about = absurd going

-- ---- what is left

pub record Left (creates calls decoded : ℕ) : Type 0 where
  pub creates_left : creates + 1 ≤ 4 * decoded + 6
  pub calls_left : calls + 2 ≤ 40 * (decoded + 1)

module _ (task : StreamTask) (way : Way) (creates calls : ℕ) (told : length way.told ≤ length way.fed.decoded) (promises : way.promises ≤ length way.told + 2) where
  left_by : (more fewer : ℕ) → fewer ≤ 2 → more ≤ 4 → creates ≤ base_creates task.objects way + fewer → calls ≤ base_calls task.objects way + more
      → failed_creates way + fewer ≤ 3 → Left creates calls (length way.fed.decoded)
  left_by more fewer few many c k failed =
      let o = opened_most task.objects in
      let fk = failed_calls_most way in
      record {
        creates_left = omega (arith, c, o, told, failed, few);
        calls_left = omega (arith, k, o, fk, told, promises, many);
      }

pub what_is_left : (p : Phase) (task : StreamTask) (way : Way) (creates calls : ℕ) → IsGoing p → IsAbout p task way → way.promises ≤ length way.told + 2 → AreWithin p task way creates calls
    → Left creates calls (length way.fed.decoded)
what_is_left phase.Asking task way creates calls going about promises within =
    let f = failed_creates_most way in
    left_by task way creates calls (told_most phase.Asking task way going about) promises 0 0 (omega (arith)) (omega (arith)) (let c = within.0 in omega (arith, c)) (let k = within.1 in omega (arith, k)) (omega (arith, f))
what_is_left (phase.Rendering picture surface) task way creates calls going about promises within =
    let none : failed_creates way ≡ 0 = ap (λ o. cond (is_some o) 2 0) about.renders.going in
    let a = creates_most (made_at task.objects 0) picture.size in
    let b = creates_most (made_at task.objects (2 + surface)) picture.size in
    let x = calls_most (made_at task.objects 0) picture.size in
    let y = calls_most (made_at task.objects (2 + surface)) picture.size in
    left_by task way creates calls (told_most (phase.Rendering picture surface) task way going about) promises
    (calls_at (made_at task.objects 0) picture.size + calls_at (made_at task.objects (2 + surface)) picture.size)
    (creates_at (made_at task.objects 0) picture.size + creates_at (made_at task.objects (2 + surface)) picture.size)
    (omega (arith, a, b)) (omega (arith, x, y)) (let c = within.0 in omega (arith, c)) (let k = within.1 in omega (arith, k)) (omega (arith, none, a, b))
what_is_left (phase.Mixing surface time) task way creates calls going about promises within =
    let there = about.wait.made surface about.mixes.number about.mixes.is_in in
    let bound = within there.0 there.1 in
    let a = creates_most (made_at task.objects 1) there.0.size in
    let b = creates_most (made_at task.objects (36 + task.turn)) there.0.size in
    let x = calls_most (made_at task.objects 1) there.0.size in
    let y = calls_most (made_at task.objects (36 + task.turn)) there.0.size in
    let f = failed_creates_most way in
    left_by task way creates calls (told_most (phase.Mixing surface time) task way going about) promises 0 0 (omega (arith)) (omega (arith)) (let c = bound.0 in omega (arith, c, a, b)) (let k = bound.1 in omega (arith, k, x, y)) (omega (arith, f))
what_is_left (phase.Displaying time) task way creates calls going about promises within =
    let f = failed_creates_most way in
    left_by task way creates calls (told_most (phase.Displaying time) task way going about) promises 0 0 (omega (arith)) (omega (arith)) (let c = within.0 in omega (arith, c)) (let k = within.1 in omega (arith, k)) (omega (arith, f))
what_is_left (phase.Promising time) task way creates calls going about promises within =
    let f = failed_creates_most way in
    left_by task way creates calls (told_most (phase.Promising time) task way going about) promises 0 0 (omega (arith)) (omega (arith)) (let c = within.0 in omega (arith, c)) (let k = within.1 in omega (arith, k)) (omega (arith, f))
what_is_left (phase.Done verdict) task way creates calls going about promises within = absurd going
