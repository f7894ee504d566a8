-- Content of sizes within the limits.
use Rattle.std.proofs.Common.{rules}
use Rattle.cb_types.specs.SizeMbs.{IsWithinLimits}
use Rattle.vd_plane.specs.Picture.{HasSize}
use Rattle.driver_objects.specs.Stored.{value_of}
use Rattle.driver_objects.specs.declared.content.Content.TheVariants as content
use Rattle.driver_objects.specs.declared.content.VideoMixer.{VideoMixer}
use Rattle.driver_objects.specs.declared.content.VideoSurface.{VideoSurface}
use Rattle.driver_core.specs.Roles.{Fits}

pub mixer_fits : (mixer : VideoMixer) → IsWithinLimits mixer.size → Fits (content.Mixer mixer)
mixer_fits mixer size = search rules

pub video_fits : (surface : VideoSurface) → IsWithinLimits surface.size → HasSize (value_of surface.samples) surface.size → Fits (content.Video surface)
video_fits surface size samples = search rules
