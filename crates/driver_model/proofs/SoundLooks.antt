-- Each step leaves the queues sound.
use Rattle.std.proofs.Common.{◌≡◌, ℕ, ◌==◌, nat_le, Bool, true, false, not, if◌then◌else◌, slice_get, Option, Some, None, Ok, Err, refl, ap, subst}
use Rattle.std.proofs.lemmas.Bool.{eqb-true}
use Rattle.present_queue.specs.Queue.{answer_to_display}
use Rattle.vd_status.specs.declared.refusal.Refusal.TheVariants.{BadSize, BadYCbCr, DeviceMismatch, InvalidHandle, TimeNotAfter}
use Rattle.driver_model.specs.Clock as clock
use Rattle.driver_model.specs.Objects.{Content, Device, VideoSurface, OutputSurface, Object, PresentationQueue, as_device, as_output, as_queue, as_video}
use Rattle.driver_model.specs.Queues as queues
use Rattle.driver_model.specs.Queues.{QueueAndSurface, presented, queue_display}
use Rattle.driver_model.specs.Refusals.{Looked, ◌>>=◌, ◌>>◌, first_handle, further_handle, refused_if}
use Rattle.driver_model.specs.Sizes.{is_ycbcr_format, pixel_bytes, sample_bytes}
use Rattle.driver_model.specs.States.{State, Found, named}
use Rattle.driver_model.specs.Surfaces as surfaces
use Rattle.driver_model.proofs.Looks.{err_not_ok, first_handle-Ok, ok_is, then_ok, unless_ok}
use Rattle.driver_model.proofs.Named.{named-Some}

-- ---- what the looks have found

-- the object of a handle
abbrev pub Stands : {T : Type 0} → State → (Content → Option T) → Found T → Type 0
Stands s as_kind on = (object : Object) × (slice_get s.objects on.place ≡ Some object) × (object.is_live ≡ true) × (on.device ≡ object.device) × (as_kind object.content ≡ Some on.value)

pub named_stands : {T : Type 0} (s : State) (as_kind : Content → Option T) (name : ℕ) (on : Found T) → named s as_kind name ≡ Some on → Stands s as_kind on
named_stands s as_kind name on e =
    let is = named-Some as_kind name s on e in
    (is.0, is.1, is.2.is_live, is.2.of_device, is.2.is_kind)

pub first_stands : {T : Type 0} (s : State) (as_kind : Content → Option T) (name : ℕ) (on : Found T) → first_handle s (named s as_kind name) ≡ Ok on → Stands s as_kind on
first_stands s as_kind name on e = named_stands s as_kind name on (first_handle-Ok s (named s as_kind name) on e)

pub further-Ok : {T : Type 0} (arg device : ℕ) (found : Option (Found T)) (on : Found T) → further_handle arg device found ≡ Ok on → (found ≡ Some on) × (on.device ≡ device)
further-Ok arg device None on e = absurd (err_not_ok (InvalidHandle arg) on e)
further-Ok arg device (Some found) on e = by_test (found.device == device) refl e where
  by_test : (test : Bool) → (found.device == device) ≡ test → (if test then Ok found else Err (DeviceMismatch arg)) ≡ Ok on → (Some found ≡ Some on) × (on.device ≡ device)
  by_test true t k =
      let same : found ≡ on = ok_is found on k in
      (ap (λ f. Some f) same, subst (λ (f : Found _). f.device ≡ device) same (eqb-true found.device device t))
  by_test false t k = absurd (err_not_ok (DeviceMismatch arg) on k)

module _ (s : State) where
  pub video_bits_stands : (surface format count : ℕ) (on : Found VideoSurface) → surfaces.video_bits s surface format count ≡ Ok on → Stands s as_video on
  video_bits_stands surface format count on h =
      let behind : Found VideoSurface → Looked (Found VideoSurface) = λ at. refused_if (not (is_ycbcr_format format)) BadYCbCr >> (refused_if (not (count == sample_bytes at.value.size)) BadSize >> Ok at) in
      let first = then_ok (surfaces.video s surface) behind on h in
      let second = unless_ok (refused_if (not (is_ycbcr_format format)) BadYCbCr) (refused_if (not (count == sample_bytes first.0.value.size)) BadSize >> Ok first.0) on first.2 in
      let third = unless_ok (refused_if (not (count == sample_bytes first.0.value.size)) BadSize) (Ok first.0) on second.1 in
      subst (Stands s as_video) (ok_is first.0 on third.1) (first_stands s as_video surface first.0 first.1)

  pub output_bits_stands : (surface count : ℕ) (on : Found OutputSurface) → surfaces.output_bits s surface count ≡ Ok on → Stands s as_output on
  output_bits_stands surface count on h =
      let behind : Found OutputSurface → Looked (Found OutputSurface) = λ at. refused_if (not (count == pixel_bytes at.value.size)) BadSize >> Ok at in
      let first = then_ok (surfaces.output s surface) behind on h in
      let second = unless_ok (refused_if (not (count == pixel_bytes first.0.value.size)) BadSize) (Ok first.0) on first.2 in
      subst (Stands s as_output) (ok_is first.0 on second.1) (first_stands s as_output surface first.0 first.1)

  pub advance_stands : (device time : ℕ) (on : Found Device) → clock.advance s device time ≡ Ok on → Stands s as_device on
  advance_stands device time on h =
      let behind : Found Device → Looked (Found Device) = λ at. refused_if (nat_le time at.value.time) (TimeNotAfter at.value.time) >> Ok at in
      let first = then_ok (clock.device s device) behind on h in
      let second = unless_ok (refused_if (nat_le time first.0.value.time) (TimeNotAfter first.0.value.time)) (Ok first.0) on first.2 in
      subst (Stands s as_device) (ok_is first.0 on second.1) (first_stands s as_device device first.0 first.1)

  -- a queue and a surface of its device
  abbrev pub ArePresented : QueueAndSurface → Type 0
  ArePresented on = Stands s as_queue on.queue × Stands s as_output on.surface × (on.surface.device ≡ on.queue.device)

  abbrev pub pair_of : Found PresentationQueue → Found OutputSurface → QueueAndSurface
  pair_of one other = record { queue = one; surface = other }

  pub presented_stand : (queue surface : ℕ) (on : QueueAndSurface) → presented s queue surface ≡ Ok on → ArePresented on
  presented_stand queue surface on h =
      let inner : Found PresentationQueue → Found OutputSurface → Looked QueueAndSurface = λ one other. Ok (pair_of one other) in
      let behind : Found PresentationQueue → Looked QueueAndSurface = λ one. further_handle 1 one.device (named s as_output surface) >>= inner one in
      let first = then_ok (queues.queue s queue) behind on h in
      let second = then_ok (further_handle 1 first.0.device (named s as_output surface)) (inner first.0) on first.2 in
      let other = further-Ok 1 first.0.device (named s as_output surface) second.0 second.1 in
      subst ArePresented (ok_is (pair_of first.0 second.0) on second.2)
      (first_stands s as_queue queue first.0 first.1, named_stands s as_output surface second.0 other.0, other.1)

  pub display_stands : (queue surface earliest : ℕ) (on : QueueAndSurface) → queue_display s queue surface earliest ≡ Ok on → ArePresented on × (answer_to_display on.queue.value.queue earliest ≡ Ok tt)
  display_stands queue surface earliest on h =
      let behind : QueueAndSurface → Looked QueueAndSurface = λ at. answer_to_display at.queue.value.queue earliest >> Ok at in
      let first = then_ok (presented s queue surface) behind on h in
      let second = unless_ok (answer_to_display first.0.queue.value.queue earliest) (Ok first.0) on first.2 in
      let same : first.0 ≡ on = ok_is first.0 on second.1 in
      (subst ArePresented same (presented_stand queue surface first.0 first.1), subst (λ (p : QueueAndSurface). answer_to_display p.queue.value.queue earliest ≡ Ok tt) same second.0)
