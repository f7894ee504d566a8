-- What is said of statuses and refusals.
use Rattle.std.specs.Prelude.{ℕ, List, ◌++◌, codes, decimal}
use Rattle.vd_status.specs.declared.status.VdpStatus.{VdpStatus}
use Rattle.vd_status.specs.declared.status.VdpStatus.TheVariants as vdp
use Rattle.vd_status.specs.declared.refusal.Refusal.{Refusal}
use Rattle.vd_status.specs.declared.refusal.Refusal.TheVariants as refusal

-- vdpau.h, VdpGetErrorString: one text for each status
abbrev pub status_text : VdpStatus → List ℕ
status_text vdp.Ok = codes "no error"
status_text vdp.DisplayPreempted = codes "the display was preempted"
status_text vdp.InvalidHandle = codes "no object of this kind has this handle"
status_text vdp.InvalidChromaType = codes "unknown chroma type"
status_text vdp.InvalidYCbCrFormat = codes "unknown YCbCr format"
status_text vdp.InvalidRgbaFormat = codes "unknown RGBA format"
status_text vdp.InvalidDecoderProfile = codes "unknown decoder profile"
status_text vdp.InvalidMixerPictureStructure = codes "unknown picture structure"
status_text vdp.InvalidSize = codes "size out of range"
status_text vdp.InvalidValue = codes "value out of range"
status_text vdp.Resources = codes "not enough memory"
status_text vdp.HandleDeviceMismatch = codes "objects of different devices"
status_text vdp.Error = codes "another error"

-- how many handles are live, and how many were given
abbrev pub counts_text : ℕ → ℕ → List ℕ
counts_text live given = (decimal live ++ codes " handles are live, ") ++ (decimal given ++ codes " were given")

-- the refusal in words, its numbers in decimal
abbrev pub refusal_text : Refusal → List ℕ
refusal_text (refusal.InvalidHandle arg) = codes "handle " ++ decimal arg ++ codes " names no such object"
refusal_text (refusal.DeviceMismatch arg) = codes "handle " ++ decimal arg ++ codes " is of another device"
refusal_text refusal.Preempted = codes "the device is preempted"
refusal_text refusal.BadChroma = codes "no such chroma type"
refusal_text refusal.BadYCbCr = codes "no such YCbCr format"
refusal_text refusal.BadRgba = codes "no such RGBA format"
refusal_text refusal.BadProfile = codes "no such decoder profile"
refusal_text refusal.BadStructure = codes "no such picture structure"
refusal_text refusal.BadSize = codes "bad size"
refusal_text (refusal.BadInfo field) = codes "bad picture information in field " ++ decimal field
refusal_text refusal.TargetIsReference = codes "the target is one of the references"
refusal_text (refusal.SliceCount found) = decimal found ++ codes " slices are not as many as told"
refusal_text (refusal.EarlierThanPromise promise) = codes "earlier than the promised time " ++ decimal promise
refusal_text (refusal.TimeNotAfter last) = codes "not after the time " ++ decimal last
refusal_text (refusal.Bitstream slice) = codes "slice " ++ decimal slice ++ codes " is damaged"
refusal_text (refusal.Incomplete macroblocks) = decimal macroblocks ++ codes " macroblocks are missing"
refusal_text (refusal.HandlesFull live given) = counts_text live given
refusal_text refusal.QueueFull = codes "the queue is full"
refusal_text refusal.OutOfMemory = codes "no memory"
