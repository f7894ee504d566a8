-- Changes that leave each object its name, its device and its kind, bring none to life, and change only those of one device.
use Rattle.std.proofs.Common.{◌≡◌, ℕ, zero, suc, ◌≤◌, ◌==◌, Bool, true, false, ◌&&◌, if◌then◌else◌, List, [], ◌∷◌, map, slice_get, Option, Some, None, refl, ap, sym, ◌∙◌, subst, arith}
use Rattle.std.proofs.lemmas.Bool.{and_from, and_parts, eqb-false, false≢true}
use Rattle.std.proofs.lemmas.List.Sums.{sum_by-cons}
use Rattle.std.specs.List.{AllByRecursion, count_by}
use Rattle.std.specs.Option.{is_some}
use Rattle.driver_model.specs.Clock.{Due, all_shown, destroyed_on, let_go, shown, with_flip, with_tick}
use Rattle.driver_model.specs.Objects.{Content, DeviceObject, VideoObject, OutputObject, DecoderObject, MixerObject, QueueObject, Device, VideoSurface, OutputSurface, VideoMixer, PresentationQueue, Object, as_device, as_mixer, as_output, as_queue, as_video, kind_number}
use Rattle.driver_model.specs.States.{State, changed_at, destroyed, destroyed_with, with_content}
use Rattle.driver_model.specs.declared.numbers.TheConstants.{DEVICE, OUTPUT_SURFACE, PRESENTATION_QUEUE, VIDEO_MIXER, VIDEO_SURFACE}
use Rattle.driver_model.proofs.Named.{object_is}
use Rattle.driver_model.proofs.PartClock.{IsDueOn}
use Rattle.driver_model.proofs.PartPlaces.{AreSame, next}
use Rattle.driver_model.proofs.SoundChanges.{nothing_there}

-- ---- kinds

not_there : {T A : Type 0} (value : T) → (let o : Option T = None in o ≡ Some value) → A
not_there {T} value e = absurd (let k : (let o : Option T = None in o ≡ Some value) = e in cc)

pub device_kind : (content : Content) (of : Device) → as_device content ≡ Some of → kind_number content ≡ DEVICE
device_kind (DeviceObject is) of e = refl
device_kind (VideoObject is) of e = not_there of e
device_kind (OutputObject is) of e = not_there of e
device_kind (DecoderObject is) of e = not_there of e
device_kind (MixerObject is) of e = not_there of e
device_kind (QueueObject is) of e = not_there of e

pub video_kind : (content : Content) (of : VideoSurface) → as_video content ≡ Some of → kind_number content ≡ VIDEO_SURFACE
video_kind (DeviceObject is) of e = not_there of e
video_kind (VideoObject is) of e = refl
video_kind (OutputObject is) of e = not_there of e
video_kind (DecoderObject is) of e = not_there of e
video_kind (MixerObject is) of e = not_there of e
video_kind (QueueObject is) of e = not_there of e

pub output_kind : (content : Content) (of : OutputSurface) → as_output content ≡ Some of → kind_number content ≡ OUTPUT_SURFACE
output_kind (DeviceObject is) of e = not_there of e
output_kind (VideoObject is) of e = not_there of e
output_kind (OutputObject is) of e = refl
output_kind (DecoderObject is) of e = not_there of e
output_kind (MixerObject is) of e = not_there of e
output_kind (QueueObject is) of e = not_there of e

pub mixer_kind : (content : Content) (of : VideoMixer) → as_mixer content ≡ Some of → kind_number content ≡ VIDEO_MIXER
mixer_kind (DeviceObject is) of e = not_there of e
mixer_kind (VideoObject is) of e = not_there of e
mixer_kind (OutputObject is) of e = not_there of e
mixer_kind (DecoderObject is) of e = not_there of e
mixer_kind (MixerObject is) of e = refl
mixer_kind (QueueObject is) of e = not_there of e

pub queue_kind : (content : Content) (of : PresentationQueue) → as_queue content ≡ Some of → kind_number content ≡ PRESENTATION_QUEUE
queue_kind (DeviceObject is) of e = not_there of e
queue_kind (VideoObject is) of e = not_there of e
queue_kind (OutputObject is) of e = not_there of e
queue_kind (DecoderObject is) of e = not_there of e
queue_kind (MixerObject is) of e = not_there of e
queue_kind (QueueObject is) of e = refl

-- whether an object is a device, or a queue, by its kind's number
pub is_device-kind : (content : Content) → is_some (as_device content) ≡ (kind_number content == DEVICE)
is_device-kind (DeviceObject is) = refl
is_device-kind (VideoObject is) = refl
is_device-kind (OutputObject is) = refl
is_device-kind (DecoderObject is) = refl
is_device-kind (MixerObject is) = refl
is_device-kind (QueueObject is) = refl

pub is_queue-kind : (content : Content) → is_some (as_queue content) ≡ (kind_number content == PRESENTATION_QUEUE)
is_queue-kind (DeviceObject is) = refl
is_queue-kind (VideoObject is) = refl
is_queue-kind (OutputObject is) = refl
is_queue-kind (DecoderObject is) = refl
is_queue-kind (MixerObject is) = refl
is_queue-kind (QueueObject is) = refl

tick-kind : (time : ℕ) (content : Content) → kind_number (with_tick time content) ≡ kind_number content
tick-kind time (DeviceObject is) = refl
tick-kind time (VideoObject is) = refl
tick-kind time (OutputObject is) = refl
tick-kind time (DecoderObject is) = refl
tick-kind time (MixerObject is) = refl
tick-kind time (QueueObject is) = refl

flip-kind : (queue time : ℕ) (content : Content) → kind_number (with_flip queue time content) ≡ kind_number content
flip-kind queue time (DeviceObject is) = refl
flip-kind queue time (VideoObject is) = refl
flip-kind queue time (OutputObject is) = refl
flip-kind queue time (DecoderObject is) = refl
flip-kind queue time (MixerObject is) = refl
flip-kind queue time (QueueObject is) = refl

let_go-kind : (content : Content) → kind_number (let_go content) ≡ kind_number content
let_go-kind (DeviceObject is) = refl
let_go-kind (VideoObject is) = refl
let_go-kind (OutputObject is) = refl
let_go-kind (DecoderObject is) = refl
let_go-kind (MixerObject is) = refl
let_go-kind (QueueObject is) = refl

-- ---- one object, and all

pub record IsStill (on : ℕ) (a b : Object) : Type 0 where
  pub name : b.name ≡ a.name
  pub device : b.device ≡ a.device
  pub kind : kind_number b.content ≡ kind_number a.content
  pub live : b.is_live ≡ true → a.is_live ≡ true
  pub other : (a.device == on) ≡ false → b ≡ a

module _ (on : ℕ) where
  abbrev pub AreStill : List Object → List Object → Type 0
  AreStill [] [] = Unit {0}
  AreStill [] (b ∷ bs) = ⊥
  AreStill (a ∷ others) [] = ⊥
  AreStill (a ∷ others) (b ∷ bs) = IsStill on a b × AreStill others bs

  still_one : (a : Object) → IsStill on a a
  still_one a = record { name = refl; device = refl; kind = refl; live = λ is. is; other = λ is. refl }

  pub still_all : (objects : List Object) → AreStill objects objects
  still_all [] = tt
  still_all (a ∷ later) = (still_one a, still_all later)

  pub still_get : (old new : List Object) → AreStill old new → (place : ℕ) (a : Object) → slice_get old place ≡ Some a → (b : Object) × (slice_get new place ≡ Some b) × IsStill on a b
  still_get [] new still place a e = nothing_there a e
  still_get (x ∷ xs) [] still place a e = absurd still
  still_get (x ∷ xs) (y ∷ ys) still zero a e = (y, refl, subst (λ (o : Object). IsStill on o y) (object_is x a e) still.0)
  still_get (x ∷ xs) (y ∷ ys) still (suc place) a e = still_get xs ys still.1 place a e

  pub still_back : (old new : List Object) → AreStill old new → (place : ℕ) (b : Object) → slice_get new place ≡ Some b → (a : Object) × (slice_get old place ≡ Some a) × IsStill on a b
  still_back old [] still place b e = nothing_there b e
  still_back [] (y ∷ ys) still place b e = absurd still
  still_back (x ∷ xs) (y ∷ ys) still zero b e = (x, refl, subst (λ (o : Object). IsStill on x o) (object_is y b e) still.0)
  still_back (x ∷ xs) (y ∷ ys) still (suc place) b e = still_back xs ys still.1 place b e

  -- what isn't on the device is the same
  pub still_same : (own : ℕ → Bool) (old new : List Object) → AreStill old new → ((place : ℕ) (a : Object) → slice_get old place ≡ Some a → own place ≡ true → (a.device == on) ≡ false) → AreSame own old new
  still_same own [] [] still others = tt
  still_same own [] (y ∷ ys) still others = absurd still
  still_same own (x ∷ xs) [] still others = absurd still
  still_same own (x ∷ xs) (y ∷ ys) still others = (λ is. still.0.other (others 0 x refl is), still_same (next own) xs ys still.1 (λ place a e is. others (suc place) a e is))

  abbrev one_if : Bool → ℕ
  one_if b = if b then 1 else 0

  -- no more live
  pub still_count : (test : ℕ → Bool) (old new : List Object) → AreStill old new
      → count_by (λ object. object.is_live && test (kind_number object.content)) new ≤ count_by (λ object. object.is_live && test (kind_number object.content)) old
  still_count test [] [] still = omega arith
  still_count test [] (y ∷ ys) still = absurd still
  still_count test (x ∷ xs) [] still = absurd still
  still_count test (x ∷ xs) (y ∷ ys) still =
      let passes : Object → Bool = λ object. object.is_live && test (kind_number object.content) in
      let many = sum_by-cons (λ object. one_if (passes object)) x xs in
      let few = sum_by-cons (λ object. one_if (passes object)) y ys in
      let rest = still_count test xs ys still.1 in
      let here : one_if (passes y) ≤ one_if (passes x) = at_most (passes y) (passes x) (λ is.
      let parts = and_parts y.is_live (test (kind_number y.content)) is in
      and_from x.is_live (test (kind_number x.content)) (still.0.live parts.0) (ap test (sym still.0.kind) ∙ parts.1)) in
      omega (arith, many, few, rest, here)
    where
      at_most : (b d : Bool) → (b ≡ true → d ≡ true) → one_if b ≤ one_if d
      at_most false d is = omega arith
      at_most true d is = let e : d ≡ true = is refl in subst (λ t. 1 ≤ one_if t) (sym e) (omega arith)

  -- ---- changes

  still_change : (change : Object → Object) (place : ℕ) (objects : List Object) → ((a : Object) → slice_get objects place ≡ Some a → IsStill on a (change a)) → AreStill objects (changed_at place change objects)
  unfolding changed_at
  still_change change place [] is = tt
  still_change change zero (a ∷ later) is = (is a refl, still_all later)
  still_change change (suc place) (a ∷ later) is = (still_one a, still_change change place later is)

  still_map : (change : Object → Object) → ((a : Object) → IsStill on a (change a)) → (objects : List Object) → AreStill objects (map change objects)
  still_map change is [] = tt
  still_map change is (a ∷ later) = (is a, still_map change is later)

  not_other : {A : Type 0} (device : ℕ) → device ≡ on → (device == on) ≡ false → A
  not_other device is other = absurd (eqb-false device on other is)

  module _ (s : State) (place : ℕ) (there : Object) (stands : slice_get s.objects place ≡ Some there) (device : there.device ≡ on) where
    here : (a : Object) → slice_get s.objects place ≡ Some a → a.device ≡ on
    here a e = ap (λ (o : Object). o.device) (sym (object_is there a (sym stands ∙ e))) ∙ device

    pub content_still : (content : Content) → kind_number content ≡ kind_number there.content → AreStill s.objects (with_content s place content).objects
    content_still content kind =
        still_change (λ object. record object { content = content }) place s.objects (λ a e. record {
          name = refl;
          device = refl;
          kind = kind ∙ ap (λ (o : Object). kind_number o.content) (object_is there a (sym stands ∙ e));
          live = λ is. is;
          other = λ o. not_other a.device (here a e) o;
        })

    pub destroyed_still : AreStill s.objects (destroyed s place).objects
    destroyed_still =
        still_change (λ object. record object { is_live = false }) place s.objects
        (λ a e. record { name = refl; device = refl; kind = refl; live = λ is. absurd (false≢true is); other = λ o. not_other a.device (here a e) o })

    pub destroyed_with_still : (content : Content) → kind_number content ≡ kind_number there.content → AreStill s.objects (destroyed_with s place content).objects
    destroyed_with_still content kind =
        still_change (λ object. record object { is_live = false; content = content }) place s.objects (λ a e. record {
          name = refl;
          device = refl;
          kind = kind ∙ ap (λ (o : Object). kind_number o.content) (object_is there a (sym stands ∙ e));
          live = λ is. absurd (false≢true is);
          other = λ o. not_other a.device (here a e) o;
        })

  end_one : (a : Object) (b : Bool) → (a.device == on) ≡ b → IsStill on a (if b then record a { is_live = false; content = let_go a.content } else a)
  end_one a true e = record { name = refl; device = refl; kind = let_go-kind a.content; live = λ is. absurd (false≢true is); other = λ o. absurd (false≢true (sym o ∙ e)) }
  end_one a false e = still_one a

  pub end_still : (objects : List Object) → AreStill objects (map (destroyed_on on) objects)
  end_still = still_map (destroyed_on on) (λ a. end_one a (a.device == on) refl)

  -- ---- ticks

  still_then : (a b d : Object) → IsStill on a b → IsStill on b d → IsStill on a d
  still_then a b d one two = record {
    name = two.name ∙ one.name;
    device = two.device ∙ one.device;
    kind = two.kind ∙ one.kind;
    live = λ is. one.live (two.live is);
    other = λ o. two.other (ap (λ k. k == on) one.device ∙ o) ∙ one.other o;
  }

  still_twice : (old middle new : List Object) → AreStill old middle → AreStill middle new → AreStill old new
  still_twice [] [] new one two = two
  still_twice [] (y ∷ ys) new one two = absurd one
  still_twice (x ∷ xs) [] new one two = absurd one
  still_twice (x ∷ xs) (y ∷ ys) [] one two = absurd two
  still_twice (x ∷ xs) (y ∷ ys) (z ∷ zs) one two = (still_then x y z one.0 two.0, still_twice xs ys zs one.1 two.1)

  -- an object of the device, changed behind other changes
  change_again : (first objects : List Object) → AreStill first objects → (change : Object → Object) → ((a : Object) → ((a.device == on) ≡ false → ⊥) → IsStill on a (change a))
      → (place : ℕ) (there : Object) → slice_get first place ≡ Some there → there.device ≡ on → AreStill first (changed_at place change objects)
  change_again first objects still change is place there stands device =
      still_twice first objects (changed_at place change objects) still
      (still_change change place objects (λ a e.
      let was = still_back first objects still place a e in
      let of : a.device ≡ on = was.2.device ∙ (ap (λ (o : Object). o.device) (object_is was.0 there (sym was.1 ∙ stands)) ∙ device) in
      is a (λ o. eqb-false a.device on o of)))

  shown_still : (first objects : List Object) → AreStill first objects → (time : ℕ) (due : Due) → IsDueOn first on due → AreStill first (shown time due objects)
  shown_still first objects still time due is =
      let ticks : Object → Object = λ object. record object { content = with_tick time object.content } in
      let flips : Object → Object = λ object. record object { content = with_flip due.queue time object.content } in
      let middle = change_again first objects still ticks (λ a here. record { name = refl; device = refl; kind = tick-kind time a.content; live = λ l. l; other = λ o. absurd (here o) }) due.queue is.queue is.queue_stands is.queue_device in
      change_again first (changed_at due.queue ticks objects) middle flips (λ a here. record { name = refl; device = refl; kind = flip-kind due.queue time a.content; live = λ l. l; other = λ o. absurd (here o) })
      due.surface is.surface.object is.surface.stands is.surface.of_device

  pub all_shown_still : (first objects : List Object) → AreStill first objects → (time : ℕ) (dues : List Due) → AllByRecursion (IsDueOn first on) dues → AreStill first (all_shown time dues objects)
  unfolding all_shown
  all_shown_still first objects still time [] are = still
  all_shown_still first objects still time (due ∷ later) are = all_shown_still first (shown time due objects) (shown_still first objects still time due are.0) time later are.1
