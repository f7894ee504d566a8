-- What is known of pictures by their handles is kept by a step that doesn't touch their surfaces.
use Rattle.std.proofs.Common.{◌≡◌, ◌≢◌, ℕ, ◌<◌, true, false, List, [], ◌∷◌, ◌++◌, map, slice_get, Option, Some, None, refl, ap, sym, ◌∙◌, subst, arith}
use Rattle.std.specs.List.{AllPairs}
use Rattle.std.specs.Option.{option_and_then}
use Rattle.cb_types.specs.declared.size.SizeMbs.{SizeMbs}
use Rattle.vd_plane.specs.declared.picture.Picture.{Picture}
use Rattle.driver_model.specs.Answers.{Reply}
use Rattle.driver_model.specs.Histories.{IsStateOf}
use Rattle.driver_model.specs.Objects.{Content, Decoder, Device, DecoderObject, DeviceObject, MixerObject, Object, OutputObject, QueueObject, VideoObject, VideoSurface, as_decoder, as_device, as_video}
use Rattle.driver_model.specs.States.{Found, State, content_at, counted, named}
use Rattle.driver_model.specs.Steps.{Step}
use Rattle.driver_model.specs.declared.calls.Call.{Call}
use Rattle.driver_model.specs.declared.calls.Call.TheVariants as call
use Rattle.driver_model.specs.declared.items.Item.{Item}
use Rattle.driver_model.specs.declared.items.Item.TheVariants.{Called, Ended}
use Rattle.driver_model.proofs.Leading.{histories_go_on, names_are_given, names_are_given_once}
use Rattle.driver_model.proofs.Named.{named-Some, named-is}
use Rattle.driver_model.proofs.NoteLists.{nothing_at, some_is}
use Rattle.driver_objects.proofs.JobLists.{one_index}
use Rattle.picture_buffer.specs.Handles.{FindsPictures, ItemsLeavePictures, LeavesPictures, StepsLeavePictures}
use Rattle.picture_buffer.specs.Renaming.{handle_of}
use Rattle.picture_buffer.specs.Rest.{decoder_at, surface_at}
use Rattle.picture_buffer.proofs.HandleMoves.{finds_still}
use Rattle.picture_buffer.proofs.HandleSteps.{LeavesPlace, is_kept, still, step_stays}

-- ---- objects that are kept

plain_still : (one : Object) (content : Content) → as_device content ≡ None → still one content ≡ record one { content = content }
plain_still one (DeviceObject of) none = absurd (let k : (let o : Option Device = None in o ≡ Some of) = sym none in cc (k))
plain_still one (VideoObject of) none = refl
plain_still one (OutputObject of) none = refl
plain_still one (DecoderObject of) none = refl
plain_still one (MixerObject of) none = refl
plain_still one (QueueObject of) none = refl

device_kind : (one : Object) (content : Content) → as_device content ≡ None → as_device (still one content).content ≡ None
device_kind one content none = ap (λ (o : Object). as_device o.content) (plain_still one content none) ∙ none

-- what is no device stays whole
whole : (one now : Object) (a b : Content) → as_device a ≡ None → still now b ≡ still one a → record now { content = b } ≡ record one { content = a }
whole one now a (DeviceObject of) none same =
    nothing_at {X = Device} (record of { time = 0 }) (sym (ap (λ (o : Object). as_device o.content) same ∙ device_kind one a none))
whole one now a (VideoObject of) none same = same ∙ plain_still one a none
whole one now a (OutputObject of) none same = same ∙ plain_still one a none
whole one now a (DecoderObject of) none same = same ∙ plain_still one a none
whole one now a (MixerObject of) none same = same ∙ plain_still one a none
whole one now a (QueueObject of) none same = same ∙ plain_still one a none

pub video_plain : (content : Content) (of : VideoSurface) → as_video content ≡ Some of → (as_device content ≡ None) × (is_kept content ≡ true)
video_plain (DeviceObject is) of e = nothing_at of e
video_plain (VideoObject is) of e = (refl, refl)
video_plain (OutputObject is) of e = nothing_at of e
video_plain (DecoderObject is) of e = nothing_at of e
video_plain (MixerObject is) of e = nothing_at of e
video_plain (QueueObject is) of e = nothing_at of e

pub decoder_plain : (content : Content) (of : Decoder) → as_decoder content ≡ Some of → (as_device content ≡ None) × (is_kept content ≡ true)
decoder_plain (DeviceObject is) of e = nothing_at of e
decoder_plain (VideoObject is) of e = nothing_at of e
decoder_plain (OutputObject is) of e = nothing_at of e
decoder_plain (DecoderObject is) of e = (refl, refl)
decoder_plain (MixerObject is) of e = nothing_at of e
decoder_plain (QueueObject is) of e = nothing_at of e

device_kept : (content : Content) (of : Device) → as_device content ≡ Some of → is_kept content ≡ true
device_kept (DeviceObject is) of e = refl
device_kept (VideoObject is) of e = nothing_at of e
device_kept (OutputObject is) of e = nothing_at of e
device_kept (DecoderObject is) of e = nothing_at of e
device_kept (MixerObject is) of e = nothing_at of e
device_kept (QueueObject is) of e = nothing_at of e

-- what is a device is one still, and is preempted where it was
device_of : (one : Object) (content : Content) (of : Device) → as_device content ≡ Some of → as_device (still one content).content ≡ Some (record of { time = 0 })
device_of one (DeviceObject is) of e = ap (λ (d : Device). Some (record d { time = 0 })) (some_is is of e)
device_of one (VideoObject is) of e = nothing_at of e
device_of one (OutputObject is) of e = nothing_at of e
device_of one (DecoderObject is) of e = nothing_at of e
device_of one (MixerObject is) of e = nothing_at of e
device_of one (QueueObject is) of e = nothing_at of e

device_now : (one now : Object) (a b : Content) (root : Device) → as_device a ≡ Some root → still now b ≡ still one a → (of : Device) × (as_device b ≡ Some of) × (of.is_preempted ≡ root.is_preempted)
device_now one now a b root is same = by b (ap (λ (o : Object). as_device o.content) same ∙ device_of one a root is) where
  by : (b : Content) → as_device (still now b).content ≡ Some (record root { time = 0 }) → (of : Device) × (as_device b ≡ Some of) × (of.is_preempted ≡ root.is_preempted)
  by (DeviceObject of) e = (of, refl, ap (λ (d : Device). d.is_preempted) (some_is (record of { time = 0 }) (record root { time = 0 }) e))
  by (VideoObject of) e = nothing_at (record root { time = 0 }) e
  by (OutputObject of) e = nothing_at (record root { time = 0 }) e
  by (DecoderObject of) e = nothing_at (record root { time = 0 }) e
  by (MixerObject of) e = nothing_at (record root { time = 0 }) e
  by (QueueObject of) e = nothing_at (record root { time = 0 }) e

-- ---- one object

-- a name that no two objects have
apart_in : (history : List Item) (s : State) → IsStateOf history s → AllPairs (λ a b. a ≢ b) (map (λ object. object.name) s.objects)
apart_in history s leads = subst (AllPairs (λ a b. a ≢ b)) (sym (names_are_given history s leads)) (names_are_given_once history (s, leads))

module _ (history : List Item) (old new : State) (caller : List ℕ) (asked : Call) (reply : Reply) (leads : IsStateOf history old) (step : Step old caller asked reply new) where
  apart : AllPairs (λ a b. a ≢ b) (map (λ (object : Object). object.name) new.objects)
  apart =
      let item = Called (record { caller = caller; call = asked; reply = reply }) in
      apart_in (history ++ item ∷ []) (counted new) (histories_go_on history old (counted new) item leads (new, step, refl))

  -- what a name finds that is no device is found still
  pub found_still : {T : Type 0} (as_kind : Content → Option T) (plain : (content : Content) (of : T) → as_kind content ≡ Some of → (as_device content ≡ None) × (is_kept content ≡ true))
      → (name : ℕ) (on : Found T) → LeavesPlace old on.place asked → named old as_kind name ≡ Some on → named new as_kind name ≡ Some on
  found_still as_kind plain name on leaves found =
      let is = named-Some as_kind name old on found in
      let one = is.0 in
      let kind = plain one.content on.value is.2.is_kind in
      let stays = step_stays on.place old new caller reply asked leaves step one is.1 kind.1 in
      let same : stays.0 ≡ one = whole one stays.0 one.content stays.0.content kind.0 stays.2 in
      let at : slice_get new.objects on.place ≡ Some one = stays.1 ∙ ap (λ (o : Object). Some o) same in
      named-is as_kind name new on.place one on.value at is.2.is_live is.2.has_name is.2.is_kind
      (λ other object there live called. one_index (λ (o : Object). o.name) new.objects apart other on.place object one there at (called ∙ sym is.2.has_name))
      ∙ ap (λ d. Some (record { place = on.place; device = d; value = on.value })) (sym is.2.of_device)

  -- a device that isn't preempted
  pub device_still : (device : ℕ) (root : Device) → LeavesPlace old device asked → content_at old as_device device ≡ Some root → root.is_preempted ≡ false
      → (now : Device) × (content_at new as_device device ≡ Some now) × (now.is_preempted ≡ false)
  device_still device root leaves stands awake = by_object (slice_get old.objects device) refl stands where
    by_object : (o : Option Object) → slice_get old.objects device ≡ o → option_and_then (λ (object : Object). as_device object.content) o ≡ Some root
        → (now : Device) × (content_at new as_device device ≡ Some now) × (now.is_preempted ≡ false)
    by_object None at is = nothing_at root is
    by_object (Some one) at is =
        let stays = step_stays device old new caller reply asked leaves step one at (device_kept one.content root is) in
        let now = device_now one stays.0 one.content stays.0.content root is stays.2 in
        (now.0, ap (option_and_then (λ (object : Object). as_device object.content)) stays.1 ∙ now.1, now.2 ∙ awake)

-- ---- the law

-- the object that a name of another handle finds stands elsewhere
pub elsewhere : {T U : Type 0} (as_kind : Content → Option T) (as_other : Content → Option U) (s : State) (name other : ℕ) (on : Found T) (found : Found U)
    → named s as_kind name ≡ Some on → named s as_other other ≡ Some found → name ≢ other → found.place ≢ on.place
elsewhere as_kind as_other s name other on found is also differs same =
    let a = named-Some as_kind name s on is in
    let b = named-Some as_other other s found also in
    let one : b.0 ≡ a.0 = some_is b.0 a.0 (sym b.1 ∙ (ap (slice_get s.objects) same ∙ a.1)) in
    differs (sym a.2.has_name ∙ (sym (ap (λ (o : Object). o.name) one) ∙ b.2.has_name))

-- objects of different kinds stand at different places
pub kinds_apart : {T U : Type 0} (as_kind : Content → Option T) (as_other : Content → Option U) (disjoint : (content : Content) (a : T) (b : U) → as_kind content ≡ Some a → as_other content ≡ Some b → ⊥)
    → (s : State) (one other : ℕ) (a : T) (b : U) → content_at s as_kind one ≡ Some a → content_at s as_other other ≡ Some b → one ≢ other
kinds_apart as_kind as_other disjoint s one other a b is also same =
    by_object (slice_get s.objects other) (ap (λ p. option_and_then (λ (object : Object). as_kind object.content) (slice_get s.objects p)) (sym same) ∙ is) also where
      by_object : (o : Option Object) → option_and_then (λ (object : Object). as_kind object.content) o ≡ Some a → option_and_then (λ (object : Object). as_other object.content) o ≡ Some b → ⊥
      by_object None e k = nothing_at a e
      by_object (Some object) e k = disjoint object.content a b e k

pub found_content : {T : Type 0} (as_kind : Content → Option T) (s : State) (name : ℕ) (on : Found T) → named s as_kind name ≡ Some on → content_at s as_kind on.place ≡ Some on.value
found_content as_kind s name on found =
    let is = named-Some as_kind name s on found in
    ap (option_and_then (λ (object : Object). as_kind object.content)) is.1 ∙ is.2.is_kind

pub no_device : (content : Content) (of : Device) → as_device content ≡ None → as_device content ≡ Some of → ⊥
no_device content of none is = nothing_at of (sym none ∙ is)

pub video_device : (content : Content) (a : VideoSurface) (b : Device) → as_video content ≡ Some a → as_device content ≡ Some b → ⊥
video_device content a b is also = no_device content b (video_plain content a is).0 also

pub decoder_device : (content : Content) (a : Decoder) (b : Device) → as_decoder content ≡ Some a → as_device content ≡ Some b → ⊥
decoder_device content a b is also = no_device content b (decoder_plain content a is).0 also

pub video_decoder : (content : Content) (a : VideoSurface) (b : Decoder) → as_video content ≡ Some a → as_decoder content ≡ Some b → ⊥
video_decoder (DeviceObject of) a b is also = nothing_at a is
video_decoder (VideoObject of) a b is also = nothing_at b also
video_decoder (OutputObject of) a b is also = nothing_at a is
video_decoder (DecoderObject of) a b is also = nothing_at a is
video_decoder (MixerObject of) a b is also = nothing_at a is
video_decoder (QueueObject of) a b is also = nothing_at a is

module _ (decoder : ℕ) (handles : List ℕ) (size : SizeMbs) (pictures : ℕ → Picture) (s : State) (finds : FindsPictures decoder handles size pictures s) where
  video_apart : (name : ℕ) (on : Found VideoSurface) → named s as_video name ≡ Some on → on.place ≢ finds.device
  video_apart name on found = kinds_apart as_video as_device video_device s on.place finds.device on.value finds.root (found_content as_video s name on found) finds.stands

  leaves_device : (asked : Call) → LeavesPictures decoder handles s finds.device asked → LeavesPlace s finds.device asked
  leaves_device (call.DeviceDestroy name) leaves = λ on found one at none. absurd (no_device one.content finds.root none (ap (option_and_then (λ (object : Object). as_device object.content)) (sym at) ∙ finds.stands))
  leaves_device (call.Preempt name) leaves = λ on found. leaves on found
  leaves_device (call.DecoderDestroy name) leaves = λ on found. kinds_apart as_decoder as_device decoder_device s on.place finds.device on.value finds.root (found_content as_decoder s name on found) finds.stands
  leaves_device (call.VideoPutBits name format bytes) leaves = λ on found. video_apart name on found
  leaves_device (call.VideoDestroy name) leaves = λ on found. video_apart name on found
  leaves_device (call.Render other name info bytes) leaves = λ on found. video_apart name on found
  leaves_device asked leaves = tt

  -- what stands on the device that isn't destroyed
  not_on : {T : Type 0} (as_kind : Content → Option T) (name : ℕ) (on : Found T) → named s as_kind name ≡ Some on → on.device ≡ finds.device
      → (device : Found Device) → device.place ≢ finds.device → (one : Object) → slice_get s.objects on.place ≡ Some one → one.device ≢ device.place
  not_on as_kind name on found its device differs one at same =
      let is = named-Some as_kind name s on found in
      let here : is.0 ≡ one = some_is is.0 one (sym is.1 ∙ at) in
      differs (sym same ∙ (ap (λ (o : Object). o.device) (sym here) ∙ (sym is.2.of_device ∙ its)))

  leaves_decoder : (asked : Call) → LeavesPictures decoder handles s finds.device asked → LeavesPlace s finds.decoder_place asked
  leaves_decoder (call.DeviceDestroy name) leaves = λ on found one at none. not_on as_decoder decoder (decoder_at finds.decoder_place finds.device size) finds.decodes refl on (leaves on found) one at
  leaves_decoder (call.Preempt name) leaves = λ on found same.
      kinds_apart as_decoder as_device decoder_device s finds.decoder_place on.place _ on.value (found_content as_decoder s decoder (decoder_at finds.decoder_place finds.device size) finds.decodes) (found_content as_device s name on found) (sym same)
  leaves_decoder (call.DecoderDestroy name) leaves = λ on found. elsewhere as_decoder as_decoder s decoder name (decoder_at finds.decoder_place finds.device size) on finds.decodes found leaves
  leaves_decoder (call.VideoPutBits name format bytes) leaves = λ on found. kinds_apart as_video as_decoder video_decoder s on.place finds.decoder_place on.value _ (found_content as_video s name on found) (found_content as_decoder s decoder (decoder_at finds.decoder_place finds.device size) finds.decodes)
  leaves_decoder (call.VideoDestroy name) leaves = λ on found. kinds_apart as_video as_decoder video_decoder s on.place finds.decoder_place on.value _ (found_content as_video s name on found) (found_content as_decoder s decoder (decoder_at finds.decoder_place finds.device size) finds.decodes)
  leaves_decoder (call.Render other name info bytes) leaves = λ on found. kinds_apart as_video as_decoder video_decoder s on.place finds.decoder_place on.value _ (found_content as_video s name on found) (found_content as_decoder s decoder (decoder_at finds.decoder_place finds.device size) finds.decodes)
  leaves_decoder asked leaves = tt

  module _ (number : ℕ) (small : number < 17) where
    abbrev surface : Found VideoSurface
    surface = surface_at (finds.place_of number) finds.device size (pictures number)

    there : named s as_video (handle_of handles number) ≡ Some surface
    there = (finds.each number small).names

    leaves_surface : (asked : Call) → LeavesPictures decoder handles s finds.device asked → LeavesPlace s (finds.place_of number) asked
    leaves_surface (call.DeviceDestroy name) leaves = λ on found one at none. not_on as_video (handle_of handles number) surface there refl on (leaves on found) one at
    leaves_surface (call.Preempt name) leaves = λ on found same.
        kinds_apart as_video as_device video_device s (finds.place_of number) on.place surface.value on.value (found_content as_video s (handle_of handles number) surface there) (found_content as_device s name on found) (sym same)
    leaves_surface (call.DecoderDestroy name) leaves = λ on found same.
        kinds_apart as_video as_decoder video_decoder s (finds.place_of number) on.place surface.value on.value (found_content as_video s (handle_of handles number) surface there) (found_content as_decoder s name on found) (sym same)
    leaves_surface (call.VideoPutBits name format bytes) leaves = λ on found. elsewhere as_video as_video s (handle_of handles number) name surface on there found (leaves number small)
    leaves_surface (call.VideoDestroy name) leaves = λ on found. elsewhere as_video as_video s (handle_of handles number) name surface on there found (leaves number small)
    leaves_surface (call.Render other name info bytes) leaves = λ on found. elsewhere as_video as_video s (handle_of handles number) name surface on there found (leaves number small)
    leaves_surface asked leaves = tt

pub steps_leave_pictures : StepsLeavePictures
steps_leave_pictures history decoder handles size pictures old new caller asked reply leads finds leaves step =
    let device = device_still history old new caller asked reply leads step finds.device finds.root (leaves_device decoder handles size pictures old finds asked leaves) finds.stands finds.awake in
    record {
      device = finds.device;
      root = device.0;
      stands = device.1;
      awake = device.2;
      decoder_place = finds.decoder_place;
      decodes = found_still history old new caller asked reply leads step as_decoder decoder_plain decoder (decoder_at finds.decoder_place finds.device size) (leaves_decoder decoder handles size pictures old finds asked leaves) finds.decodes;
      place_of = finds.place_of;
      apart = finds.apart;
      each = λ number small.
          let each = finds.each number small in
          record {
            names = found_still history old new caller asked reply leads step as_video video_plain (handle_of handles number) (surface_at (finds.place_of number) finds.device size (pictures number))
                (leaves_surface decoder handles size pictures old finds number small asked leaves) each.names;
            kind = each.kind;
            sized = each.sized;
          };
    }

-- how many items there were, and which jobs run, says nothing of the pictures
pub items_leave_pictures : ItemsLeavePictures
items_leave_pictures history decoder handles size pictures old new (Called entry) leads finds leaves happens =
    let between = steps_leave_pictures history decoder handles size pictures old happens.0 entry.caller entry.call entry.reply leads finds leaves happens.1 in
    finds_still decoder handles size pictures happens.0 between 0 (omega arith) new (ap (λ (s : State). s.objects) happens.2)
items_leave_pictures history decoder handles size pictures old new (Ended mark) leads finds leaves happens =
    finds_still decoder handles size pictures old finds 0 (omega arith) new (ap (λ (s : State). s.objects) happens.1)
