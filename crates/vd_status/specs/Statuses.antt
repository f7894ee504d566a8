-- The status that a caller sees for each refusal. The statuses are those of vdpau.h, VdpStatus.
use Rattle.vd_status.specs.declared.status.VdpStatus.{VdpStatus}
use Rattle.vd_status.specs.declared.status.VdpStatus.TheVariants as vdp
use Rattle.vd_status.specs.declared.refusal.Refusal.{Refusal}
use Rattle.vd_status.specs.declared.refusal.Refusal.TheVariants as refusal

abbrev pub status_of : Refusal → VdpStatus
status_of (refusal.InvalidHandle arg) = vdp.InvalidHandle
status_of (refusal.DeviceMismatch arg) = vdp.HandleDeviceMismatch
status_of refusal.Preempted = vdp.DisplayPreempted
status_of refusal.BadChroma = vdp.InvalidChromaType
status_of refusal.BadYCbCr = vdp.InvalidYCbCrFormat
status_of refusal.BadRgba = vdp.InvalidRgbaFormat
status_of refusal.BadProfile = vdp.InvalidDecoderProfile
status_of refusal.BadStructure = vdp.InvalidMixerPictureStructure
status_of refusal.BadSize = vdp.InvalidSize
status_of (refusal.BadInfo field) = vdp.InvalidValue
status_of refusal.TargetIsReference = vdp.InvalidValue
status_of (refusal.SliceCount found) = vdp.InvalidValue
status_of (refusal.EarlierThanPromise promise) = vdp.InvalidValue
status_of (refusal.TimeNotAfter last) = vdp.InvalidValue
status_of (refusal.Bitstream slice) = vdp.Error
status_of (refusal.Incomplete macroblocks) = vdp.Error
status_of (refusal.HandlesFull live given) = vdp.Error
status_of refusal.QueueFull = vdp.Error
status_of refusal.OutOfMemory = vdp.Resources
