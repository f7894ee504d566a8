-- Pictures by their numbers, in a state of the driver: each has a surface, and a table has the surfaces' handles.
use Rattle.std.specs.Prelude.{◌≡◌, ◌≢◌, ◌⊎◌, ℕ, ◌<◌, false, All, Contains, List, map, Option, Some, ⊤}
use Rattle.cb_types.specs.AcceptedInfo.{IsAccepted}
use Rattle.cb_types.specs.References.{is_absent, is_unused}
use Rattle.cb_types.specs.declared.picture_info.PictureInfo.{PictureInfo}
use Rattle.cb_types.specs.declared.picture_info.Reference.{Reference}
use Rattle.cb_types.specs.declared.size.SizeMbs.{SizeMbs}
use Rattle.decoder_render.specs.Coverage.{given}
use Rattle.decoder_render.specs.Outcomes.{IsOutcome}
use Rattle.decoder_render.specs.Submission.{ArePayloads}
use Rattle.decoder_render.specs.declared.outcome.Outcome.{Outcome}
use Rattle.decoder_render.specs.declared.outcome.Outcome.TheVariants as outcome
use Rattle.vd_plane.specs.declared.picture.Picture.{Picture}
use Rattle.vd_status.specs.declared.refusal.Refusal.TheVariants.{OutOfMemory}
use Rattle.driver_model.specs.Answers.{IsRefused, Reply}
use Rattle.driver_model.specs.Histories.{Happens, IsStateOf}
use Rattle.driver_model.specs.Jobs.{reply_of}
use Rattle.driver_model.specs.Objects.{Decoder, Device, as_decoder, as_device}
use Rattle.driver_model.specs.States.{Found, State, content_at, named}
use Rattle.driver_model.specs.Steps.{Step}
use Rattle.driver_model.specs.declared.calls.Call.{Call}
use Rattle.driver_model.specs.declared.calls.Call.TheVariants as call
use Rattle.driver_model.specs.declared.items.Item.{Item}
use Rattle.driver_model.specs.declared.items.Item.TheVariants.{Called, Ended}
use Rattle.picture_buffer.specs.Buffers.{HasUnits, pictures_after}
use Rattle.picture_buffer.specs.Renaming.{IsOther, handle_of, picture_of, renamed}
use Rattle.picture_buffer.specs.Rest.{NamesSurface, decoder_at}

-- A device that isn't preempted has a decoder with this handle, and for each of these numbers a surface of its own, with the
-- number's picture. The table has the surface's handle in the number's place.
pub record FindsNumbers (IsNumber : ℕ → Type 0) (decoder : ℕ) (handles : List ℕ) (size : SizeMbs) (pictures : ℕ → Picture) (s : State)
    : Type 0 where
  pub device : ℕ
  pub root : Device
  pub stands : content_at s as_device device ≡ Some root
  pub awake : root.is_preempted ≡ false
  pub decoder_place : ℕ
  pub decodes : named s as_decoder decoder ≡ Some (decoder_at decoder_place device size)
  pub place_of : ℕ → ℕ
  pub apart : (one other : ℕ) → IsNumber one → IsNumber other → place_of one ≡ place_of other → one ≡ other
  pub each : (number : ℕ) → IsNumber number
      → NamesSurface s (handle_of handles number) (place_of number) device size (pictures number)

-- so for each number from 0 to 16
abbrev pub FindsPictures : (decoder : ℕ) (handles : List ℕ) → SizeMbs → (ℕ → Picture) → State → Type 0
FindsPictures decoder handles size pictures s = FindsNumbers (λ number. number < 17) decoder handles size pictures s

-- an entry of the info that is used, and isn't an absent frame, names the number
abbrev pub IsNamedBy : PictureInfo → ℕ → Type 0
IsNamedBy info number =
    (entry : Reference)
    × Contains info.references entry
    × (is_unused entry ≡ false)
    × (is_absent entry ≡ false)
    × (entry.surface ≡ number)

-- so for the numbers that the info names
abbrev pub FindsReferences : (decoder : ℕ) (handles : List ℕ) → SizeMbs → (ℕ → Picture) → PictureInfo → State → Type 0
FindsReferences decoder handles size pictures info s = FindsNumbers (IsNamedBy info) decoder handles size pictures s

-- The units come to this outcome and picture with the pictures of the numbers that the info names, and that is the reply.
pub record RendersPicture (size : SizeMbs) (pictures : ℕ → Picture) (info : PictureInfo) (bytes : List ℕ) (reply : Reply)
    : Type 0 where
  pub payloads : List (Option (List ℕ))
  pub units : ArePayloads bytes payloads
  pub outcome : Outcome
  pub picture : Picture
  pub comes_to : IsOutcome (given info size (map (picture_of pictures) info.references)) payloads outcome picture
  pub replies : reply ≡ reply_of outcome

-- A render into a number's surface, of an info that names other numbers as references, whose handles it is given: it
-- decodes the picture with the pictures of these numbers, or there is no memory. A whole picture is its number's from then
-- on.
abbrev pub RendersFindPictures : Type 0
RendersFindPictures =
    (decoder : ℕ) (handles : List ℕ) (size : SizeMbs) (pictures : ℕ → Picture) (old new : State) (caller : List ℕ)
    (number : ℕ) (info : PictureInfo) (bytes : List ℕ) (reply : Reply)
    → FindsPictures decoder handles size pictures old
    → number < 17
    → All (IsOther number) info.references
    → IsAccepted 0 16 info
    → HasUnits bytes info
    → Step old caller (call.Render decoder (handle_of handles number) (renamed handles info) bytes) reply new
    → IsRefused old reply new OutOfMemory
    ⊎ ((r : RendersPicture size pictures info bytes reply)
    × FindsPictures decoder handles size (pictures_after pictures number r.outcome r.picture) new)

-- Only where the units come to the whole picture a surface has it.
abbrev pub picture_after : Picture → Outcome → Picture → Picture
picture_after before outcome.Ok picture = picture
picture_after before (outcome.Bitstream slice) picture = before
picture_after before (outcome.Incomplete macroblocks) picture = before

-- Each surface of another name stays as it is.
abbrev pub KeepsOtherSurfaces : (old new : State) → ℕ → Type 0
KeepsOtherSurfaces old new target =
    (name place device : ℕ) (size : SizeMbs) (picture : Picture)
    → name ≢ target
    → NamesSurface old name place device size picture
    → NamesSurface new name place device size picture

-- A render into a surface of the decoder's size, of an info that is given the handles of the numbers that it names, where
-- each of these has a surface, and another one: it decodes the picture with the pictures of these numbers, or there is no
-- memory. A whole picture is the surface's from then on.
abbrev pub RendersFindReferences : Type 0
RendersFindReferences =
    (decoder : ℕ) (handles : List ℕ) (size : SizeMbs) (pictures : ℕ → Picture) (old new : State) (caller : List ℕ)
    (target place : ℕ) (before : Picture) (info : PictureInfo) (bytes : List ℕ) (reply : Reply)
    → (finds : FindsReferences decoder handles size pictures info old)
    → NamesSurface old target place finds.device size before
    → ((number : ℕ) → IsNamedBy info number → finds.place_of number ≢ place)
    → IsAccepted 0 16 info
    → HasUnits bytes info
    → Step old caller (call.Render decoder target (renamed handles info) bytes) reply new
    → IsRefused old reply new OutOfMemory
    ⊎ ((r : RendersPicture size pictures info bytes reply)
    × NamesSurface new target place finds.device size (picture_after before r.outcome r.picture)
    × KeepsOtherSurfaces old new target)

-- ---- while other things are done

-- no number's surface has this handle
abbrev pub IsNoHandle : List ℕ → ℕ → Type 0
IsNoHandle handles name = (number : ℕ) → number < 17 → handle_of handles number ≢ name

-- The call doesn't destroy or preempt the device at this place, nor destroys the decoder or a number's surface, nor gives
-- such a surface other samples.
abbrev pub LeavesPictures : (decoder : ℕ) (handles : List ℕ) → State → (device : ℕ) → Call → Type 0
LeavesPictures decoder handles s device (call.DeviceDestroy name) =
    (on : Found Device) → named s as_device name ≡ Some on → on.place ≢ device
LeavesPictures decoder handles s device (call.Preempt name) =
    (on : Found Device) → named s as_device name ≡ Some on → on.place ≢ device
LeavesPictures decoder handles s device (call.DecoderDestroy name) = decoder ≢ name
LeavesPictures decoder handles s device (call.VideoDestroy name) = IsNoHandle handles name
LeavesPictures decoder handles s device (call.VideoPutBits name format bytes) = IsNoHandle handles name
LeavesPictures decoder handles s device (call.Render other name info bytes) = IsNoHandle handles name
LeavesPictures decoder handles s device _ = ⊤

-- Then the step of the call keeps all that is known.
abbrev pub StepsLeavePictures : Type 0
StepsLeavePictures =
    (history : List Item) (decoder : ℕ) (handles : List ℕ) (size : SizeMbs) (pictures : ℕ → Picture) (old new : State)
    (caller : List ℕ) (asked : Call) (reply : Reply)
    → IsStateOf history old
    → (finds : FindsPictures decoder handles size pictures old)
    → LeavesPictures decoder handles old finds.device asked
    → Step old caller asked reply new
    → FindsPictures decoder handles size pictures new

-- So with an item of a history, that is such a call or the end of a job.
abbrev pub ItemLeavesPictures : (decoder : ℕ) (handles : List ℕ) → State → (device : ℕ) → Item → Type 0
ItemLeavesPictures decoder handles s device (Called entry) = LeavesPictures decoder handles s device entry.call
ItemLeavesPictures decoder handles s device (Ended mark) = ⊤

abbrev pub ItemsLeavePictures : Type 0
ItemsLeavePictures =
    (history : List Item) (decoder : ℕ) (handles : List ℕ) (size : SizeMbs) (pictures : ℕ → Picture) (old new : State)
    (item : Item)
    → IsStateOf history old
    → (finds : FindsPictures decoder handles size pictures old)
    → ItemLeavesPictures decoder handles old finds.device item
    → Happens old item new
    → FindsPictures decoder handles size pictures new

-- ---- one surface

-- The call doesn't destroy the device at this place nor the surface of this name, nor gives it other samples.
abbrev pub LeavesSurface : State → (name device : ℕ) → Call → Type 0
LeavesSurface s name device (call.DeviceDestroy other) =
    (on : Found Device) → named s as_device other ≡ Some on → on.place ≢ device
LeavesSurface s name device (call.VideoDestroy other) = name ≢ other
LeavesSurface s name device (call.VideoPutBits other format bytes) = name ≢ other
LeavesSurface s name device (call.Render decoder other info bytes) = name ≢ other
LeavesSurface s name device _ = ⊤

abbrev pub ItemLeavesSurface : State → (name device : ℕ) → Item → Type 0
ItemLeavesSurface s name device (Called entry) = LeavesSurface s name device entry.call
ItemLeavesSurface s name device (Ended mark) = ⊤

-- Such an item keeps the surface and its picture.
abbrev pub ItemsLeaveSurfaces : Type 0
ItemsLeaveSurfaces =
    (history : List Item) (name place device : ℕ) (size : SizeMbs) (picture : Picture) (old new : State) (item : Item)
    → IsStateOf history old
    → NamesSurface old name place device size picture
    → ItemLeavesSurface old name device item
    → Happens old item new
    → NamesSurface new name place device size picture

-- ---- the decoder and the device

-- The call doesn't destroy the device at this place nor the decoder of this name.
abbrev pub LeavesDecoder : State → (name device : ℕ) → Call → Type 0
LeavesDecoder s name device (call.DeviceDestroy other) =
    (on : Found Device) → named s as_device other ≡ Some on → on.place ≢ device
LeavesDecoder s name device (call.DecoderDestroy other) = name ≢ other
LeavesDecoder s name device _ = ⊤

abbrev pub ItemLeavesDecoder : State → (name device : ℕ) → Item → Type 0
ItemLeavesDecoder s name device (Called entry) = LeavesDecoder s name device entry.call
ItemLeavesDecoder s name device (Ended mark) = ⊤

-- Such an item keeps the decoder.
abbrev pub ItemsLeaveDecoders : Type 0
ItemsLeaveDecoders =
    (history : List Item) (name : ℕ) (decoder : Found Decoder) (old new : State) (item : Item)
    → IsStateOf history old
    → named old as_decoder name ≡ Some decoder
    → ItemLeavesDecoder old name decoder.device item
    → Happens old item new
    → named new as_decoder name ≡ Some decoder

-- The call doesn't preempt the device at this place.
abbrev pub LeavesAwake : State → (device : ℕ) → Call → Type 0
LeavesAwake s device (call.Preempt name) = (on : Found Device) → named s as_device name ≡ Some on → on.place ≢ device
LeavesAwake s device _ = ⊤

abbrev pub ItemLeavesAwake : State → (device : ℕ) → Item → Type 0
ItemLeavesAwake s device (Called entry) = LeavesAwake s device entry.call
ItemLeavesAwake s device (Ended mark) = ⊤

-- Such an item leaves the device there, and not preempted.
abbrev pub ItemsLeaveAwake : Type 0
ItemsLeaveAwake =
    (history : List Item) (device : ℕ) (root : Device) (old new : State) (item : Item)
    → IsStateOf history old
    → content_at old as_device device ≡ Some root
    → root.is_preempted ≡ false
    → ItemLeavesAwake old device item
    → Happens old item new
    → (now : Device) × (content_at new as_device device ≡ Some now) × (now.is_preempted ≡ false)
