-- What is counted of the kept objects.
use Rattle.std.specs.Prelude.{Bool, true, false}
use Rattle.driver_objects.specs.declared.content.Content.{Content}
use Rattle.driver_objects.specs.declared.content.Content.TheVariants as content

-- a video or an output surface
abbrev pub has_picture : Content → Bool
has_picture (content.Video surface) = true
has_picture (content.Output surface) = true
has_picture _ = false
