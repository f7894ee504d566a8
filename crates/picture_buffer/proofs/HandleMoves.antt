-- The numbers' surfaces are found still, where one of them has another picture.
use Rattle.std.proofs.Common.{◌≡◌, ◌≢◌, inl, inr, ℕ, ◌+◌, ◌<◌, ◌==◌, Bool, true, false, if◌then◌else◌, List, slice_get, Option, Some, None, refl, sym, ap, ◌∙◌, arith}
use Rattle.std.specs.Option.{option_and_then, option_map}
use Rattle.std.proofs.lemmas.Bool.{cases_eq, eq-eqb}
use Rattle.std.proofs.lemmas.Bool.Decides.{eqb_tells, nat_tests}
use Rattle.cb_types.specs.declared.size.SizeMbs.{SizeMbs}
use Rattle.vd_plane.specs.Picture.{HasSize}
use Rattle.vd_plane.specs.declared.picture.Picture.{Picture}
use Rattle.driver_model.specs.Objects.{Content, VideoObject, DeviceObject, DecoderObject, MixerObject, Device, Object, OutputObject, QueueObject, VideoSurface, as_decoder, as_device, as_video}
use Rattle.driver_model.specs.States.{State, changed_at, content_at, found_from, named, with_content}
use Rattle.driver_model.proofs.Named.{named-Some}
use Rattle.driver_core.proofs.ContentStands.{get_changed_other}
use Rattle.picture_buffer.specs.Buffers.{with_picture}
use Rattle.picture_buffer.specs.Renaming.{handle_of}
use Rattle.picture_buffer.specs.Handles.{FindsPictures}
use Rattle.picture_buffer.specs.Rest.{surface_at}
use Rattle.picture_buffer.proofs.FoundAfter.{found_moved, found_unchanged, moved}

-- a video surface is no decoder
no_decoder : (content : Content) (value : VideoSurface) → as_video content ≡ Some value → as_decoder content ≡ None
no_decoder (DeviceObject of) value is = refl
no_decoder (VideoObject of) value is = refl
no_decoder (OutputObject of) value is = refl
no_decoder (DecoderObject of) value is = absurd (cc (is))
no_decoder (MixerObject of) value is = refl
no_decoder (QueueObject of) value is = refl

-- the device that an object is
abbrev slice_device : Option Object → Option Device
slice_device o = option_and_then (λ (object : Object). as_device object.content) o

-- nor a device
no_device : (content : Content) (value : VideoSurface) → as_video content ≡ Some value → as_device content ≡ None
no_device (DeviceObject of) value is = absurd (cc (is))
no_device (VideoObject of) value is = refl
no_device (OutputObject of) value is = refl
no_device (DecoderObject of) value is = refl
no_device (MixerObject of) value is = refl
no_device (QueueObject of) value is = refl

-- A device stays where another object is given other content.
device_stands : (d : State) (place device : ℕ) (content : Content) (root : Device) (one : Object) → slice_get d.objects place ≡ Some one → as_device one.content ≡ None
    → content_at d as_device device ≡ Some root → content_at (with_content d place content) as_device device ≡ Some root
device_stands d place device content root one at none stands = elim (cases_eq device place) [
  | inl same ↦ absurd (let k : (let o : Option Device = None in o ≡ Some root) = sym (ap (slice_device) (ap (slice_get d.objects) same ∙ at) ∙ none) ∙ stands in cc (k))
  | inr other ↦ ap slice_device (get_changed_other (λ (o : Object). record o { content = content }) place device d.objects other) ∙ stands
]

module _ (decoder : ℕ) (surfaces : List ℕ) (size : SizeMbs) (pictures : ℕ → Picture) (d : State) (finds : FindsPictures decoder surfaces size pictures d)
    (number : ℕ) (small : number < 17) (after : State) where
  -- where all objects stay
  pub finds_still : after.objects ≡ d.objects → FindsPictures decoder surfaces size pictures after
  finds_still same = record {
    device = finds.device;
    root = finds.root;
    stands = ap (λ objects. content_at (record d { objects = objects }) as_device finds.device) same ∙ finds.stands;
    awake = finds.awake;
    decoder_place = finds.decoder_place;
    decodes = ap (found_from as_decoder decoder 0) same ∙ finds.decodes;
    place_of = finds.place_of;
    apart = finds.apart;
    each = λ other below. let each = finds.each other below in record {
      names = ap (found_from as_video (handle_of surfaces other) 0) same ∙ each.names;
      kind = each.kind;
      sized = each.sized;
    };
  }

  module _ (picture : Picture) (sized : HasSize picture size) where
    abbrev place : ℕ
    place = finds.place_of number

    abbrev value : VideoSurface
    value = record { size = size; picture = picture }

    abbrev pub content_of : Content
    content_of = VideoObject value

    abbrev there : (object : Object) × (slice_get d.objects place ≡ Some object) × (as_video object.content ≡ Some (surface_at place finds.device size (pictures number)).value)
    there = let is = named-Some as_video (handle_of surfaces number) d (surface_at place finds.device size (pictures number)) (finds.each number small).names in (is.0, is.1, is.2.is_kind)

    surface_by : (other : ℕ) (b : Bool) → (finds.place_of other == place) ≡ b → (other == number) ≡ b
        → (if (finds.place_of other == place) then record (surface_at (finds.place_of other) finds.device size (pictures other)) { value = value } else surface_at (finds.place_of other) finds.device size (pictures other))
        ≡ surface_at (finds.place_of other) finds.device size (with_picture pictures number picture other)
    surface_by other true at is =
        ap (λ b. if b then record (surface_at (finds.place_of other) finds.device size (pictures other)) { value = value } else surface_at (finds.place_of other) finds.device size (pictures other)) at
        ∙ ap (λ b. surface_at (finds.place_of other) finds.device size (if b then picture else pictures other)) (sym is)
    surface_by other false at is =
        ap (λ b. if b then record (surface_at (finds.place_of other) finds.device size (pictures other)) { value = value } else surface_at (finds.place_of other) finds.device size (pictures other)) at
        ∙ ap (λ b. surface_at (finds.place_of other) finds.device size (if b then picture else pictures other)) (sym is)

    surface_is : (other : ℕ) → other < 17 → moved as_video (handle_of surfaces other) content_of value refl place (surface_at (finds.place_of other) finds.device size (pictures other))
        ≡ surface_at (finds.place_of other) finds.device size (with_picture pictures number picture other)
    surface_is other below = elim (eqb_tells other number) [
      | inl w ↦ surface_by other true (eq-eqb (finds.place_of other) place (ap finds.place_of w.1)) w.0
      | inr w ↦
          let apart : finds.place_of other ≢ place = λ same. w.1 (finds.apart other number below small same) in
          surface_by other false (grind (arith, nat_tests, apart)) w.0
    ]

    size_by : (other : ℕ) (b : Bool) → HasSize (pictures other) size → HasSize (if b then picture else pictures other) size
    size_by other true was = sized
    size_by other false was = was

    pub finds_moved : after.objects ≡ changed_at place (λ object. record object { content = content_of }) d.objects → FindsPictures decoder surfaces size (with_picture pictures number picture) after
    finds_moved same =
        let is = there in record {
          device = finds.device;
          root = finds.root;
          stands = ap (λ objects. content_at (record d { objects = objects }) as_device finds.device) same ∙ device_stands d place finds.device content_of finds.root is.0 is.1 (no_device is.0.content _ is.2) finds.stands;
          awake = finds.awake;
          decoder_place = finds.decoder_place;
          decodes = ap (found_from as_decoder decoder 0) same ∙ (found_unchanged as_decoder decoder content_of 0 place d.objects is.0 is.1 (sym (no_decoder is.0.content _ is.2)) ∙ finds.decodes);
          place_of = finds.place_of;
          apart = finds.apart;
          each = λ other below.
              let each = finds.each other below in
              let handle = handle_of surfaces other in
              let zero_more : 0 + place ≡ place = omega arith in
              record {
                names =
                    ap (found_from as_video handle 0) same
                    ∙ (found_moved as_video handle content_of value refl 0 place d.objects is.0 _ is.1 is.2
                    ∙ (ap (λ p. option_map (moved as_video handle content_of value refl p) (named d as_video handle)) zero_more
                    ∙ (ap (option_map (moved as_video handle content_of value refl place)) each.names
                    ∙ ap Some (surface_is other below))));
                kind = each.kind;
                sized = size_by other (other == number) each.sized;
              };
        }
