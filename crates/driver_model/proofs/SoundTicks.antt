-- Displays, new objects, the end of a device and ticks leave the queues sound.
use Rattle.std.proofs.Common.{◌≡◌, ◌⊎◌, inl, inr, ℕ, zero, suc, ◌==◌, ◌≤◌, ◌<◌, nat_le, nat_lt, Bool, true, false, if◌then◌else◌, List, [], ◌∷◌, ◌++◌, length, map, slice_get, Option, Some, None, Ok, Err, IsSome, refl, ap, sym, ◌∙◌, subst, arith}
use Rattle.std.proofs.Math.ListN.{length-append}
use Rattle.std.proofs.lemmas.Bool.{cases_lt, eq-eqb}
use Rattle.present_queue.proofs.NameLemmas.{Names-displayed, Names-empty, Names-promised, Names-ticked}
use Rattle.present_queue.specs.Queue.{Names, Queue, Queued, answer_to_display, displayed, empty_queue, promised, ticked, ticked_by}
use Rattle.vd_status.specs.declared.refusal.Refusal.TheVariants.{EarlierThanPromise, QueueFull}
use Rattle.driver_model.specs.Clock.{Due, all_shown, destroyed_on, let_go, shown, with_flip, with_tick}
use Rattle.driver_model.specs.Objects.{Content, DeviceObject, VideoObject, OutputObject, DecoderObject, MixerObject, QueueObject, Object, as_output}
use Rattle.driver_model.specs.Sound.{AreSound, IsOutputOf, IsSoundObject, IsSoundQueue}
use Rattle.driver_model.specs.States.{State, changed_at, with_object}
use Rattle.driver_model.proofs.Looks.{err_not_ok}
use Rattle.driver_model.proofs.Named.{object_is}
use Rattle.driver_model.proofs.SoundChanges.{Follows, nothing_there, sound_changed_at, sound_follows}

-- ---- a display and a promise

not_full : (queue : Queue ℕ) (earliest : ℕ) → answer_to_display queue earliest ≡ Ok tt → length queue.entries ≡ 64 → ⊥
not_full queue earliest answer full =
    let test : (length queue.entries == 64) ≡ true = eq-eqb (length queue.entries) 64 full in
    let is : Err QueueFull ≡ answer_to_display queue earliest = ap (λ b. if b then Err QueueFull else if nat_lt earliest queue.promise then Err (EarlierThanPromise queue.promise) else Ok tt) (sym test) in
    err_not_ok QueueFull tt (is ∙ answer)

at_most : (n : ℕ) → n ≤ 64 → (n < 64) ⊎ (n ≡ 64)
at_most n few = elim (cases_lt n 64) [
  | inl less ↦ inl less
  | inr most ↦ inr (omega arith)
]

pub displayed_is_sound : (objects : List Object) (device : ℕ) (queue : Queue ℕ) (entry : Queued ℕ) → answer_to_display queue entry.earliest ≡ Ok tt → IsOutputOf objects device entry.surface
    → IsSoundQueue objects device true queue → IsSoundQueue objects device true (displayed queue entry)
displayed_is_sound objects device queue entry answer output is = record {
  surfaces = λ place n. elim (Names-displayed place queue entry n) [
    | inl before ↦ is.surfaces place before
    | inr last ↦ subst (IsOutputOf objects device) last output
  ];
  empty = λ dead place n. let z : true ≡ false = dead in absurd cc;
  few =
      let few = is.few in
      let other = not_full queue entry.earliest answer in
      let count = length-append queue.entries (entry ∷ []) in
      elim (at_most (length queue.entries) few) [
        | inl less ↦ omega arith
        | inr full ↦ absurd (other full)
      ];
}

pub promised_is_sound : (objects : List Object) (device : ℕ) (queue : Queue ℕ) (time : ℕ) → IsSoundQueue objects device true queue → IsSoundQueue objects device true (promised queue time)
promised_is_sound objects device queue time is = record {
  surfaces = λ place n. is.surfaces place (Names-promised place queue time n);
  empty = λ dead place n. is.empty dead place (Names-promised place queue time n);
  few = is.few;
}

-- ---- a new object

get-append : (objects : List Object) (one : Object) (place : ℕ) (b : Object) → slice_get (objects ++ one ∷ []) place ≡ Some b → (slice_get objects place ≡ Some b) ⊎ (one ≡ b)
get-append [] one zero b e = inr (object_is one b e)
get-append [] one (suc place) b e = nothing_there b e
get-append (object ∷ later) one zero b e = inl e
get-append (object ∷ later) one (suc place) b e = get-append later one place b e

Follows-append : (objects : List Object) (one : Object) → Follows objects (objects ++ one ∷ [])
Follows-append [] one place a e = nothing_there a e
Follows-append (object ∷ later) one zero a e = (a, e, refl, λ is. is)
Follows-append (object ∷ later) one (suc place) a e = Follows-append later one place a e

pub sound_more : (s : State) (one : Object) → IsSoundObject (s.objects ++ one ∷ []) one → AreSound s.objects → AreSound (with_object s one).objects
sound_more s one is sound place b e = elim (get-append s.objects one place b e) [
  | inl before ↦ sound_follows s.objects (s.objects ++ one ∷ []) (Follows-append s.objects one) b.device b.is_live _ (sound place b before)
  | inr last ↦ subst (IsSoundObject (s.objects ++ one ∷ [])) last is
]

pub empty_is_sound : (objects : List Object) (device : ℕ) (is_live : Bool) → IsSoundQueue objects device is_live empty_queue
empty_is_sound objects device is_live = record {
  surfaces = λ place n. absurd (Names-empty place n);
  empty = λ dead place n. Names-empty place n;
  few = omega arith;
}

-- ---- all objects are changed

module _ (change : Object → Object) where
  get-map : (objects : List Object) (place : ℕ) (b : Object) → slice_get (map change objects) place ≡ Some b → (a : Object) × (slice_get objects place ≡ Some a) × (change a ≡ b)
  get-map [] place b e = nothing_there b e
  get-map (object ∷ later) zero b e = (object, refl, object_is (change object) b e)
  get-map (object ∷ later) (suc place) b e = get-map later place b e

  Follows-map : ((a : Object) → (change a).device ≡ a.device) → ((a : Object) → IsSome (as_output a.content) → IsSome (as_output (change a).content)) → (objects : List Object) → Follows objects (map change objects)
  Follows-map devices outputs [] place a e = nothing_there a e
  Follows-map devices outputs (object ∷ later) zero a e = (change a, ap (λ o. Some (change o)) (object_is object a e), devices a, outputs a)
  Follows-map devices outputs (object ∷ later) (suc place) a e = Follows-map devices outputs later place a e

  sound_map : ((a : Object) → (change a).device ≡ a.device) → ((a : Object) → IsSome (as_output a.content) → IsSome (as_output (change a).content)) → (objects : List Object)
      → ((a : Object) → IsSoundObject objects a → IsSoundObject objects (change a)) → AreSound objects → AreSound (map change objects)
  sound_map devices outputs objects keeps sound place b e =
      let from = get-map objects place b e in
      sound_follows objects (map change objects) (Follows-map devices outputs objects) b.device b.is_live _ (subst (IsSoundObject objects) from.2 (keeps from.0 (sound place from.0 from.1)))

output-let_go : (content : Content) → IsSome (as_output content) → IsSome (as_output (let_go content))
output-let_go (DeviceObject of) is = is
output-let_go (VideoObject of) is = is
output-let_go (OutputObject of) is = is
output-let_go (DecoderObject of) is = is
output-let_go (MixerObject of) is = is
output-let_go (QueueObject of) is = is

let_go_is_sound : (objects : List Object) (name device : ℕ) (content : Content) → IsSoundObject objects (record { name = name; device = device; is_live = false; content = let_go content })
let_go_is_sound objects name device (DeviceObject of) = tt
let_go_is_sound objects name device (VideoObject of) = tt
let_go_is_sound objects name device (OutputObject of) = tt
let_go_is_sound objects name device (DecoderObject of) = tt
let_go_is_sound objects name device (MixerObject of) = tt
let_go_is_sound objects name device (QueueObject of) = record {
  surfaces = λ k n. absurd (names_none k n);
  empty = λ dead k n. names_none k n;
  few = omega arith;
} where
  names_none : (k : ℕ) → (let q : Queue ℕ = record { entries = []; visible = None; promise = of.queue.promise } in Names q k) → ⊥
  names_none k (inl e) = absurd (omega (arith, e.1))
  names_none k (inr e) = absurd (cc)

pub sound_end : (on : ℕ) (objects : List Object) → AreSound objects → AreSound (map (destroyed_on on) objects)
sound_end on objects = sound_map (destroyed_on on) (λ a. device_is (a.device == on) a) (λ a is. output_is (a.device == on) a is) objects (λ a is. is_sound (a.device == on) a is) where
  device_is : (is_its : Bool) (a : Object) → (if is_its then record a { is_live = false; content = let_go a.content } else a).device ≡ a.device
  device_is true a = refl
  device_is false a = refl

  output_is : (is_its : Bool) (a : Object) → IsSome (as_output a.content) → IsSome (as_output (if is_its then record a { is_live = false; content = let_go a.content } else a).content)
  output_is true a is = output-let_go a.content is
  output_is false a is = is

  is_sound : (is_its : Bool) (a : Object) → IsSoundObject objects a → IsSoundObject objects (if is_its then record a { is_live = false; content = let_go a.content } else a)
  is_sound true a is = let_go_is_sound objects a.name a.device a.content
  is_sound false a is = is

-- ---- ticks

output-with_tick : (time : ℕ) (content : Content) → IsSome (as_output content) → IsSome (as_output (with_tick time content))
output-with_tick time (DeviceObject of) is = is
output-with_tick time (VideoObject of) is = is
output-with_tick time (OutputObject of) is = is
output-with_tick time (DecoderObject of) is = is
output-with_tick time (MixerObject of) is = is
output-with_tick time (QueueObject of) is = is

output-with_flip : (queue time : ℕ) (content : Content) → IsSome (as_output content) → IsSome (as_output (with_flip queue time content))
output-with_flip queue time (DeviceObject of) is = is
output-with_flip queue time (VideoObject of) is = is
output-with_flip queue time (OutputObject of) is = refl
output-with_flip queue time (DecoderObject of) is = is
output-with_flip queue time (MixerObject of) is = is
output-with_flip queue time (QueueObject of) is = is

fewer : (entries : List (Queued ℕ)) (visible : Option ℕ) (promise time : ℕ) → length (ticked (record { entries = entries; visible = visible; promise = promise }) time).entries ≤ length entries
fewer [] visible promise time = omega arith
fewer (entry ∷ rest) visible promise time = by_time (nat_le entry.earliest time) where
  by_time : (is_due : Bool) → length (ticked_by (if is_due then Some entry else None) (record { entries = entry ∷ rest; visible = visible; promise = promise })).entries ≤ length (entry ∷ rest)
  by_time true = omega arith
  by_time false = omega arith

ticked_is_sound : (objects : List Object) (device : ℕ) (is_live : Bool) (queue : Queue ℕ) (time : ℕ) → IsSoundQueue objects device is_live queue → IsSoundQueue objects device is_live (ticked queue time)
ticked_is_sound objects device is_live queue time is = record {
  surfaces = λ place n. is.surfaces place (Names-ticked place queue time n);
  empty = λ dead place n. is.empty dead place (Names-ticked place queue time n);
  few = let few = is.few in omega (arith, fewer queue.entries queue.visible queue.promise time);
}

with_tick_is_sound : (objects : List Object) (name device time : ℕ) (is_live : Bool) (content : Content) → IsSoundObject objects (record { name = name; device = device; is_live = is_live; content = content })
    → IsSoundObject objects (record { name = name; device = device; is_live = is_live; content = with_tick time content })
with_tick_is_sound objects name device time is_live (DeviceObject of) is = tt
with_tick_is_sound objects name device time is_live (VideoObject of) is = tt
with_tick_is_sound objects name device time is_live (OutputObject of) is = tt
with_tick_is_sound objects name device time is_live (DecoderObject of) is = tt
with_tick_is_sound objects name device time is_live (MixerObject of) is = tt
with_tick_is_sound objects name device time is_live (QueueObject of) is = ticked_is_sound objects device is_live of.queue time is

with_flip_is_sound : (objects : List Object) (name device queue time : ℕ) (is_live : Bool) (content : Content) → IsSoundObject objects (record { name = name; device = device; is_live = is_live; content = content })
    → IsSoundObject objects (record { name = name; device = device; is_live = is_live; content = with_flip queue time content })
with_flip_is_sound objects name device queue time is_live (DeviceObject of) is = tt
with_flip_is_sound objects name device queue time is_live (VideoObject of) is = tt
with_flip_is_sound objects name device queue time is_live (OutputObject of) is = tt
with_flip_is_sound objects name device queue time is_live (DecoderObject of) is = tt
with_flip_is_sound objects name device queue time is_live (MixerObject of) is = tt
with_flip_is_sound objects name device queue time is_live (QueueObject of) is = is

sound_shown : (time : ℕ) (due : Due) (objects : List Object) → AreSound objects → AreSound (shown time due objects)
sound_shown time due objects sound =
    let tick : Object → Object = λ object. record object { content = with_tick time object.content } in
    let flip : Object → Object = λ object. record object { content = with_flip due.queue time object.content } in
    let middle : AreSound (changed_at due.queue tick objects) =
    sound_changed_at tick (λ a. refl) due.queue objects (λ a e is. output-with_tick time a.content is) (λ a e is. with_tick_is_sound objects a.name a.device time a.is_live a.content is) sound in
    sound_changed_at flip (λ a. refl) due.surface (changed_at due.queue tick objects) (λ a e is. output-with_flip due.queue time a.content is)
    (λ a e is. with_flip_is_sound (changed_at due.queue tick objects) a.name a.device due.queue time a.is_live a.content is) middle

pub sound_all_shown : (time : ℕ) (dues : List Due) (objects : List Object) → AreSound objects → AreSound (all_shown time dues objects)
unfolding all_shown
sound_all_shown time [] objects sound = sound
sound_all_shown time (due ∷ later) objects sound = sound_all_shown time later (shown time due objects) (sound_shown time due objects sound)
