-- The calls that make objects (vdpau.h, Vdp..Create; vdpau_x11.h, VdpDeviceCreateX11).
use Rattle.std.specs.Prelude.{◌≡◌, ◌⊎◌, ℕ, ◌≤◌, ◌==◌, Bool, true, false, not, ◌||◌, nat_lt, length, replicate, None, Ok}
use Rattle.std.specs.Option.{is_some}
use Rattle.handle_table.specs.Name.{kind_of}
use Rattle.mixer.specs.declared.TheConstants.{DEFAULT_MATRIX}
use Rattle.present_queue.specs.Queue.{empty_queue}
use Rattle.vd_plane.specs.Picture.{IsZeros}
use Rattle.vd_plane.specs.declared.picture.Picture.{Picture}
use Rattle.vd_status.specs.declared.refusal.Refusal.{Refusal}
use Rattle.vd_status.specs.declared.refusal.Refusal.TheVariants.{BadChroma, BadInfo, BadProfile, BadRgba, HandlesFull}
use Rattle.driver_model.specs.Answers.{Goes, IsRefused, Reply}
use Rattle.driver_model.specs.Objects.{Content, DeviceObject, VideoObject, OutputObject, DecoderObject, MixerObject, QueueObject, as_device, as_queue, kind_number}
use Rattle.driver_model.specs.Refusals.{Looked, ◌>>=◌, ◌>>◌, first_handle, refused_if}
use Rattle.driver_model.specs.Sizes.{is_profile, is_rgba_format, pixel_bytes, size_for, size_of_sides}
use Rattle.driver_model.specs.States.{State, is_given, live_count, named, with_object}
use Rattle.driver_model.specs.declared.numbers.TheConstants.{CHROMA_420, MANY_NAMES, MAX_DEVICES, MAX_OBJECTS, MAX_QUEUES, MAX_REFERENCES}
use Rattle.driver_model.specs.declared.replies.Answer.TheVariants.{Name}

-- ---- room for another object

-- so many objects are live
abbrev pub live_objects : State → ℕ
live_objects s = live_count s (λ content. true)

abbrev pub live_devices : State → ℕ
live_devices s = live_count s (λ content. is_some (as_device content))

abbrev pub live_queues : State → ℕ
live_queues s = live_count s (λ content. is_some (as_queue content))

-- The refusal carries how many objects live, and how many names were given.
abbrev pub handles_full : State → Refusal
handles_full s = HandlesFull (live_objects s) (length s.objects)

-- no further object can be made
abbrev pub is_full : State → Bool
is_full s = live_objects s == MAX_OBJECTS

-- There is room for one more, also of a kind that has a limit of its own.
abbrev pub room : State → Bool → Looked (Unit {0})
room s is_full_of_kind = refused_if (is_full s || is_full_of_kind) (handles_full s)

-- ---- what each create looks at: the place of the device that the new object will belong to

-- VdpDeviceCreateX11 (vdpau_x11.h): a device belongs to itself
abbrev pub device_create : State → Looked ℕ
device_create s = do
  room s (live_devices s == MAX_DEVICES)
  Ok (length s.objects)

-- VdpVideoSurfaceCreate
abbrev pub video_create : State → (device chroma width height : ℕ) → Looked ℕ
video_create s device chroma width height = do
  on ← first_handle s (named s as_device device)
  refused_if (not (chroma == CHROMA_420)) BadChroma
  _ ← size_for width height
  room s false
  Ok on.place

-- VdpOutputSurfaceCreate
abbrev pub output_create : State → (device format width height : ℕ) → Looked ℕ
output_create s device format width height = do
  on ← first_handle s (named s as_device device)
  refused_if (not (is_rgba_format format)) BadRgba
  _ ← size_for width height
  room s false
  Ok on.place

-- VdpDecoderCreate
abbrev pub decoder_create : State → (device profile width height max_references : ℕ) → Looked ℕ
decoder_create s device profile width height max_references = do
  on ← first_handle s (named s as_device device)
  refused_if (not (is_profile profile)) BadProfile
  _ ← size_for width height
  refused_if (nat_lt MAX_REFERENCES max_references) (BadInfo 0)
  room s false
  Ok on.place

-- VdpVideoMixerCreate
abbrev pub mixer_create : State → (device width height : ℕ) → Looked ℕ
mixer_create s device width height = do
  on ← first_handle s (named s as_device device)
  _ ← size_for width height
  room s false
  Ok on.place

-- VdpPresentationQueueCreate
abbrev pub queue_create : State → ℕ → Looked ℕ
queue_create s device = do
  on ← first_handle s (named s as_device device)
  room s (live_queues s == MAX_QUEUES)
  Ok on.place

-- ---- what each new object has

abbrev pub new_device : Content
new_device = DeviceObject (record { time = 0; is_preempted = false })

-- each sample is 0
abbrev pub IsNewVideo : (width height : ℕ) → Content → Type 0
IsNewVideo width height content =
    (picture : Picture)
    × IsZeros picture (size_of_sides width height).width (size_of_sides width height).height
    × (content ≡ VideoObject (record { size = size_of_sides width height; picture = picture }))

-- each byte is 0
abbrev pub new_output : (format width height : ℕ) → Content
new_output format width height = OutputObject (record {
  format = format;
  size = size_of_sides width height;
  bytes = replicate (pixel_bytes (size_of_sides width height)) 0;
  last_flip = None;
})

abbrev pub new_decoder : (profile width height max_references : ℕ) → Content
new_decoder profile width height max_references =
    DecoderObject (record { profile = profile; size = size_of_sides width height; max_references = max_references })

abbrev pub new_mixer : (width height : ℕ) → Content
new_mixer width height = MixerObject (record { size = size_of_sides width height; matrix = DEFAULT_MATRIX })

abbrev pub new_queue : ℕ → Content
new_queue window = QueueObject (record { window = window; queue = empty_queue })

-- ---- the step of a create

module _ (old : State) (reply : Reply) (new : State) where
  -- A live object with this content is added. Its name says its kind, and no object has it.
  pub record Makes (device : ℕ) (IsContent : Content → Type 0) : Type 0 where
    pub name : ℕ
    pub content : Content
    pub is_content : IsContent content
    pub kind : kind_of name ≡ kind_number content
    pub fresh : is_given old name ≡ false
    pub tells : reply ≡ Ok (Name name)
    pub after : new ≡ with_object old (record { name = name; device = device; is_live = true; content = content })

  -- Once so many names were given, a create may find none to give.
  abbrev pub MayBeFull : Type 0
  MayBeFull = (MANY_NAMES ≤ length old.objects) × IsRefused old reply new (handles_full old)

  abbrev pub Creates : Looked ℕ → (Content → Type 0) → Type 0
  Creates looked IsContent = Goes old reply new looked (λ device. Makes device IsContent ⊎ MayBeFull)
