-- What callers can tell of the driver's objects (vdpau.h, the opaque handle types). Samples and bytes are plain lists.
use Rattle.std.specs.Prelude.{ℕ, Bool, List, ℤ, Option, Some, None}
use Rattle.cb_types.specs.declared.size.SizeMbs.{SizeMbs}
use Rattle.present_queue.specs.Queue.{Queue}
use Rattle.vd_plane.specs.declared.picture.Picture.{Picture}
use Rattle.driver_model.specs.declared.numbers.TheConstants as number

-- VdpDevice: what its clock stands at, and whether the display is preempted
pub record Device : Type 0 where
  pub time : ℕ
  pub is_preempted : Bool

-- VdpVideoSurface: its size in macroblocks, and its samples, which are a picture's
pub record VideoSurface : Type 0 where
  pub size : SizeMbs
  pub picture : Picture

-- On which queue, by its place among all objects ever made, and when a surface was shown.
pub record LastFlip : Type 0 where
  pub queue : ℕ
  pub time : ℕ

-- VdpOutputSurface: its format, its size in macroblocks, its pixels row by row, four bytes each, and its latest flip
pub record OutputSurface : Type 0 where
  pub format : ℕ
  pub size : SizeMbs
  pub bytes : List ℕ
  pub last_flip : Option LastFlip

-- VdpDecoder
pub record Decoder : Type 0 where
  pub profile : ℕ
  pub size : SizeMbs
  pub max_references : ℕ

-- VdpVideoMixer: the size of its pictures, and the matrix from Y, Cb and Cr to red, green and blue
pub record VideoMixer : Type 0 where
  pub size : SizeMbs
  pub matrix : List ℤ

-- VdpPresentationQueue: the window in which it shows, and its entries, its visible surface and its promise, where a surface is
-- known by its place among all objects ever made
pub record PresentationQueue : Type 0 where
  pub window : ℕ
  pub queue : Queue ℕ

-- what an object has, by its kind
pub data Content : Type 0 where
  DeviceObject : Device → Content
  VideoObject : VideoSurface → Content
  OutputObject : OutputSurface → Content
  DecoderObject : Decoder → Content
  MixerObject : VideoMixer → Content
  QueueObject : PresentationQueue → Content

-- An object: its name, which no other has; the place of its device among all objects ever made, which of a device is its own
-- place; whether it is live, that is, wasn't destroyed; and what it has.
pub record Object : Type 0 where
  pub name : ℕ
  pub device : ℕ
  pub is_live : Bool
  pub content : Content

-- the number of an object's kind
abbrev pub kind_number : Content → ℕ
kind_number (DeviceObject device) = number.DEVICE
kind_number (VideoObject surface) = number.VIDEO_SURFACE
kind_number (OutputObject surface) = number.OUTPUT_SURFACE
kind_number (DecoderObject decoder) = number.DECODER
kind_number (MixerObject mixer) = number.VIDEO_MIXER
kind_number (QueueObject queue) = number.PRESENTATION_QUEUE

-- what an object has, if it is of the kind
abbrev pub as_device : Content → Option Device
as_device (DeviceObject device) = Some device
as_device _ = None

abbrev pub as_video : Content → Option VideoSurface
as_video (VideoObject surface) = Some surface
as_video _ = None

abbrev pub as_output : Content → Option OutputSurface
as_output (OutputObject surface) = Some surface
as_output _ = None

abbrev pub as_decoder : Content → Option Decoder
as_decoder (DecoderObject decoder) = Some decoder
as_decoder _ = None

abbrev pub as_mixer : Content → Option VideoMixer
as_mixer (MixerObject mixer) = Some mixer
as_mixer _ = None

abbrev pub as_queue : Content → Option PresentationQueue
as_queue (QueueObject queue) = Some queue
as_queue _ = None
