-- Changes of a list of objects that leave the surface at a place what it has.
use Rattle.std.proofs.Common.{◌≡◌, ◌≢◌, ◌⊎◌, inl, inr, ℕ, zero, suc, ◌==◌, Bool, true, false, true≢false, if◌then◌else◌, List, [], ◌∷◌, map, slice_get, Some, refl, ap, sym, ◌∙◌, arith}
use Rattle.std.specs.List.{list_any}
use Rattle.driver_model.specs.Clock.{Due, all_shown, destroyed_on, let_go, shown, with_flip, with_tick}
use Rattle.driver_model.specs.Objects.{Content, DeviceObject, VideoObject, OutputObject, DecoderObject, MixerObject, QueueObject, Object, as_device, as_mixer, as_output, as_queue, as_video}
use Rattle.driver_model.specs.States.{changed_at}
use Rattle.driver_model.proofs.NoteLists.{nothing_at, some_is}

either : (m n : ℕ) → (m ≡ n) ⊎ (m ≢ n)
either m n = grind arith

-- ---- surfaces

abbrev pub is_surface : Content → Bool
is_surface (VideoObject of) = true
is_surface (OutputObject of) = true
is_surface _ = false

pub video_surface : (content : Content) (of : _) → as_video content ≡ Some of → is_surface content ≡ true
video_surface (DeviceObject is) of e = nothing_at of e
video_surface (VideoObject is) of e = refl
video_surface (OutputObject is) of e = refl
video_surface (DecoderObject is) of e = nothing_at of e
video_surface (MixerObject is) of e = nothing_at of e
video_surface (QueueObject is) of e = nothing_at of e

pub output_surface : (content : Content) (of : _) → as_output content ≡ Some of → is_surface content ≡ true
output_surface (DeviceObject is) of e = nothing_at of e
output_surface (VideoObject is) of e = refl
output_surface (OutputObject is) of e = refl
output_surface (DecoderObject is) of e = nothing_at of e
output_surface (MixerObject is) of e = nothing_at of e
output_surface (QueueObject is) of e = nothing_at of e

pub no_device : (content : Content) (of : _) → as_device content ≡ Some of → is_surface content ≡ false
no_device (DeviceObject is) of e = refl
no_device (VideoObject is) of e = nothing_at of e
no_device (OutputObject is) of e = nothing_at of e
no_device (DecoderObject is) of e = refl
no_device (MixerObject is) of e = refl
no_device (QueueObject is) of e = refl

pub no_mixer : (content : Content) (of : _) → as_mixer content ≡ Some of → is_surface content ≡ false
no_mixer (DeviceObject is) of e = refl
no_mixer (VideoObject is) of e = nothing_at of e
no_mixer (OutputObject is) of e = nothing_at of e
no_mixer (DecoderObject is) of e = refl
no_mixer (MixerObject is) of e = refl
no_mixer (QueueObject is) of e = refl

pub no_queue : (content : Content) (of : _) → as_queue content ≡ Some of → is_surface content ≡ false
no_queue (DeviceObject is) of e = refl
no_queue (VideoObject is) of e = nothing_at of e
no_queue (OutputObject is) of e = nothing_at of e
no_queue (DecoderObject is) of e = refl
no_queue (MixerObject is) of e = refl
no_queue (QueueObject is) of e = refl

let_go_keeps : (content : Content) → is_surface content ≡ true → let_go content ≡ content
let_go_keeps (DeviceObject of) is = refl
let_go_keeps (VideoObject of) is = refl
let_go_keeps (OutputObject of) is = refl
let_go_keeps (DecoderObject of) is = refl
let_go_keeps (MixerObject of) is = refl
let_go_keeps (QueueObject of) is = absurd (true≢false (sym is))

with_tick_keeps : (time : ℕ) (content : Content) → is_surface content ≡ true → with_tick time content ≡ content
with_tick_keeps time (DeviceObject of) is = refl
with_tick_keeps time (VideoObject of) is = refl
with_tick_keeps time (OutputObject of) is = refl
with_tick_keeps time (DecoderObject of) is = refl
with_tick_keeps time (MixerObject of) is = refl
with_tick_keeps time (QueueObject of) is = absurd (true≢false (sym is))

-- ---- one place in a list of objects

pub changed_here : (change : Object → Object) (other place : ℕ) (objects : List Object) (one : Object) → other ≡ place → slice_get objects place ≡ Some one → slice_get (changed_at other change objects) place ≡ Some (change one)
unfolding changed_at
changed_here change other place [] one e at = nothing_at one at
changed_here change zero zero (first ∷ later) one e at = ap (λ o. Some (change o)) (some_is first one at)
changed_here change zero (suc place) (first ∷ later) one e at = absurd (omega (arith, e))
changed_here change (suc other) zero (first ∷ later) one e at = absurd (omega (arith, e))
changed_here change (suc other) (suc place) (first ∷ later) one e at = changed_here change other place later one (omega (arith, e)) at

changed_else : (change : Object → Object) (other place : ℕ) (objects : List Object) → other ≢ place → slice_get (changed_at other change objects) place ≡ slice_get objects place
unfolding changed_at
changed_else change other place [] apart = refl
changed_else change zero zero (first ∷ later) apart = absurd (apart refl)
changed_else change zero (suc place) (first ∷ later) apart = refl
changed_else change (suc other) zero (first ∷ later) apart = refl
changed_else change (suc other) (suc place) (first ∷ later) apart = changed_else change other place later (λ e. apart (ap suc e))

module _ (place : ℕ) where
  -- a surface that stands at the place has there what it had
  abbrev pub Keeps : List Object → List Object → Type 0
  Keeps old new = (one : Object) → slice_get old place ≡ Some one → is_surface one.content ≡ true → (now : Object) × (slice_get new place ≡ Some now) × (now.content ≡ one.content)

  pub keeps_same : (objects : List Object) → Keeps objects objects
  keeps_same objects one at is = (one, at, refl)

  pub keeps_then : (a b c : List Object) → Keeps a b → Keeps b c → Keeps a c
  keeps_then a b c first second one at is =
      let f = first one at is in
      let s = second f.0 f.1 (ap is_surface f.2 ∙ is) in
      (s.0, s.1, s.2 ∙ f.2)

  pub keeps_changed : (change : Object → Object) (other : ℕ) (objects : List Object) → ((one : Object) → other ≡ place → slice_get objects place ≡ Some one → is_surface one.content ≡ true → (change one).content ≡ one.content) → Keeps objects (changed_at other change objects)
  keeps_changed change other objects same one at is = elim (either other place) [
    | inl e ↦ (change one, changed_here change other place objects one e at, same one e at is)
    | inr apart ↦ (one, changed_else change other place objects apart ∙ at, refl)
  ]

  keeps_map : (change : Object → Object) (objects : List Object) → ((one : Object) → is_surface one.content ≡ true → (change one).content ≡ one.content) → Keeps objects (map change objects)
  keeps_map change objects same one at is = (change one, mapped objects place at, same one is) where
    mapped : (objects : List Object) (place : ℕ) → slice_get objects place ≡ Some one → slice_get (map change objects) place ≡ Some (change one)
    mapped [] place at = nothing_at one at
    mapped (first ∷ later) zero at = ap (λ o. Some (change o)) (some_is first one at)
    mapped (first ∷ later) (suc place) at = mapped later place at

  pub keeps_ended : (on : ℕ) (objects : List Object) → Keeps objects (map (destroyed_on on) objects)
  keeps_ended on objects = keeps_map (destroyed_on on) objects (λ one is. by_device (one.device == on) one is) where
    by_device : (is_its : Bool) (one : Object) → is_surface one.content ≡ true → (if is_its then record one { is_live = false; content = let_go one.content } else one).content ≡ one.content
    by_device true one is = let_go_keeps one.content is
    by_device false one is = refl

  keeps_shown : (time : ℕ) (due : Due) (objects : List Object) → due.surface ≢ place → Keeps objects (shown time due objects)
  keeps_shown time due objects apart =
      let tick : Object → Object = λ object. record object { content = with_tick time object.content } in
      let flip : Object → Object = λ object. record object { content = with_flip due.queue time object.content } in
      keeps_then objects (changed_at due.queue tick objects) (shown time due objects)
      (keeps_changed tick due.queue objects (λ one e at is. with_tick_keeps time one.content is))
      (keeps_changed flip due.surface (changed_at due.queue tick objects) (λ one e at is. absurd (apart e)))

  pub keeps_all_shown : (time : ℕ) (dues : List Due) (objects : List Object) (is_taken : ℕ → Bool) → is_taken place ≡ true → list_any (λ (due : Due). is_taken due.surface) dues ≡ false → Keeps objects (all_shown time dues objects)
  unfolding all_shown
  keeps_all_shown time [] objects is_taken out none = keeps_same objects
  keeps_all_shown time (due ∷ later) objects is_taken out none =
      let apart : due.surface ≢ place = λ e. let taken : is_taken due.surface ≡ true = ap is_taken e ∙ out in absurd (grind (arith, taken, none)) in
      let rest : list_any (λ (other : Due). is_taken other.surface) later ≡ false = grind (arith, none) in
      keeps_then objects (shown time due objects) (all_shown time later (shown time due objects)) (keeps_shown time due objects apart) (keeps_all_shown time later (shown time due objects) is_taken out rest)
