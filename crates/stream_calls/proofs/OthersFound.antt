-- What the names of a device find, which others leave.
use Rattle.std.proofs.Common.{◌≡◌, ℕ, Bool, true, false, List, ◌++◌, Option, Some, None, slice_get, ap, sym, ◌∙◌, subst}
use Rattle.std.proofs.lemmas.Bool.{eq-eqb, eqb-true}
use Rattle.std.specs.Option.{option_map}
use Rattle.present_queue.specs.Queue.{Queue}
use Rattle.driver_model.specs.Histories.{IsStateOf, Leads}
use Rattle.driver_model.specs.Objects.{Content, Decoder, DecoderObject, Device, DeviceObject, LastFlip, MixerObject, Object, OutputObject, OutputSurface, PresentationQueue, QueueObject, VideoMixer, VideoObject, VideoSurface, as_decoder, as_device, as_mixer, as_output, as_queue, as_video}
use Rattle.driver_model.specs.Parts.{is_among, names_of}
use Rattle.driver_model.specs.States.{Found, State, empty_state, named}
use Rattle.driver_model.specs.declared.items.Item.{Item}
use Rattle.driver_model.proofs.Named.{IsNamed, found_of, named-Some, named-is}
use Rattle.driver_model.proofs.PartNames.{place_of_name}
use Rattle.player_laws.proofs.States.{leads_on, names_apart}
use Rattle.stream_calls.specs.OthersLeave.{IsContentLeft, IsFoundLeft, IsLeft, IsQueueLeft, OthersGoOn, OthersLeaveNames}
use Rattle.stream_calls.proofs.OthersLead.{others_leave_objects}

none_some : {T A : Type 0} (value : T) → (let o : Option T = None in o ≡ Some value) → A
none_some {T} value e = absurd (let k : (let o : Option T = None in o ≡ Some value) = e in cc)

some_same : {T : Type 0} (a b : T) → (let o : Option T = Some a in o ≡ Some b) → a ≡ b
some_same a b e = cc

-- ---- contents by their kinds

module _ (may_preempt : Bool) where
  video_left : (a b : Content) → IsContentLeft may_preempt a b → (value : VideoSurface) → as_video a ≡ Some value → as_video b ≡ Some value
  video_left (VideoObject of) b left value e = ap as_video left ∙ e
  video_left a b left value e = none_some value e

  decoder_left : (a b : Content) → IsContentLeft may_preempt a b → (value : Decoder) → as_decoder a ≡ Some value → as_decoder b ≡ Some value
  decoder_left (DecoderObject of) b left value e = ap as_decoder left ∙ e
  decoder_left a b left value e = none_some value e

  mixer_left : (a b : Content) → IsContentLeft may_preempt a b → (value : VideoMixer) → as_mixer a ≡ Some value → as_mixer b ≡ Some value
  mixer_left (MixerObject of) b left value e = ap as_mixer left ∙ e
  mixer_left a b left value e = none_some value e

  output_left : (a b : Content) → IsContentLeft may_preempt a b → (value : OutputSurface) → as_output a ≡ Some value
      → (flip : Option LastFlip) × (as_output b ≡ Some (record value { last_flip = flip }))
  output_left (OutputObject of) b left value e = (left.0, ap as_output left.1 ∙ ap (option_map (λ (x : OutputSurface). record x { last_flip = left.0 })) e)
  output_left a b left value e = none_some value e

  queue_left : (a b : Content) → IsContentLeft may_preempt a b → (value : PresentationQueue) → as_queue a ≡ Some value
      → (now : Queue ℕ) × (as_queue b ≡ Some (record value { queue = now })) × IsQueueLeft value.queue now
  queue_left (QueueObject of) b left value e =
      (left.0, ap as_queue left.1 ∙ ap (option_map (λ (x : PresentationQueue). record x { queue = left.0 })) e, subst (λ (x : PresentationQueue). IsQueueLeft x.queue left.0) (some_same of value e) left.2)
  queue_left a b left value e = none_some value e

  device_left : (a b : Content) → IsContentLeft may_preempt a b → (value : Device) → as_device a ≡ Some value
      → (now : Device) × (as_device b ≡ Some now) × (may_preempt ≡ false → now.is_preempted ≡ value.is_preempted)
  device_left (DeviceObject of) b left value e = (left.0, ap as_device left.1, λ k. left.2 k ∙ ap (λ (x : Device). x.is_preempted) (some_same of value e))
  device_left a b left value e = none_some value e

-- ---- names

module _ (front others : List Item) (caller : List ℕ) (device : ℕ) (may_preempt : Bool) (s t : State) (state : IsStateOf front s) (leads : Leads s others t) (go : OthersGoOn front others caller device may_preempt)
    (name : ℕ) (among : is_among (names_of front device) name ≡ true) where
  -- an object that a name found, and what it is now
  pub record Both {T : Type 0} (as_kind : Content → Option T) (on : Found T) : Type 0 where
    pub was : Object
    pub now : Object
    pub is_named : IsNamed as_kind name on was
    pub stands : slice_get t.objects on.place ≡ Some now
    pub left : IsLeft may_preempt was now

  both : {T : Type 0} (as_kind : Content → Option T) (on : Found T) → named s as_kind name ≡ Some on → Both as_kind on
  both as_kind on e =
      let is = named-Some as_kind name s on e in
      let own : is_among (names_of front device) is.0.name ≡ true = ap (is_among (names_of front device)) is.2.has_name ∙ among in
      let r = others_leave_objects front others caller device may_preempt s t on.place is.0 state leads go is.1 own in
      record { was = is.0; now = r.0; is_named = is.2; stands = r.1; left = r.2 }

  finds : {T : Type 0} (as_kind : Content → Option T) (on : Found T) → (b : Both as_kind on) → (value : T) → as_kind b.now.content ≡ Some value
      → named t as_kind name ≡ Some (record on { value = value })
  finds as_kind on b value kind =
      let apart = names_apart (front ++ others) t (leads_on empty_state s t front others state leads) in
      let p = place_of_name name t.objects apart in
      let has : b.now.name ≡ name = b.left.name ∙ b.is_named.has_name in
      let here : on.place ≡ p.0 = eqb-true on.place p.0 (p.1 on.place b.now b.stands ∙ eq-eqb b.now.name name has) in
      let of : b.now.device ≡ on.device = b.left.device ∙ sym b.is_named.of_device in
      named-is as_kind name t on.place b.now value b.stands (b.left.is_live ∙ b.is_named.is_live) has kind
      (λ other object at live called. eqb-true other p.0 (p.1 other object at ∙ eq-eqb object.name name called) ∙ sym here)
      ∙ ap (λ d. Some (found_of on.place d value)) of

  found_left : IsFoundLeft may_preempt s t name
  found_left = record {
    video = λ on e.
        let b = both as_video on e in
        finds as_video on b on.value (video_left may_preempt b.was.content b.now.content b.left.content on.value b.is_named.is_kind);
    decoder = λ on e.
        let b = both as_decoder on e in
        finds as_decoder on b on.value (decoder_left may_preempt b.was.content b.now.content b.left.content on.value b.is_named.is_kind);
    mixer = λ on e.
        let b = both as_mixer on e in
        finds as_mixer on b on.value (mixer_left may_preempt b.was.content b.now.content b.left.content on.value b.is_named.is_kind);
    output = λ on e.
        let b = both as_output on e in
        let r = output_left may_preempt b.was.content b.now.content b.left.content on.value b.is_named.is_kind in
        (r.0, finds as_output on b (record on.value { last_flip = r.0 }) r.1);
    queue = λ on e.
        let b = both as_queue on e in
        let r = queue_left may_preempt b.was.content b.now.content b.left.content on.value b.is_named.is_kind in
        (r.0, finds as_queue on b (record on.value { queue = r.0 }) r.1, r.2);
    device = λ on e.
        let b = both as_device on e in
        let r = device_left may_preempt b.was.content b.now.content b.left.content on.value b.is_named.is_kind in
        (r.0, finds as_device on b r.0 r.1, r.2);
  }

pub others_leave_names : OthersLeaveNames
others_leave_names front others caller device may_preempt s t name state leads go among = found_left front others caller device may_preempt s t state leads go name among
