-- The entries for references of a picture info.
use Rattle.std.specs.Prelude.{Bool, ◌==◌}
use Rattle.cb_types.specs.declared.picture_info.Reference.{Reference}
use Rattle.cb_types.specs.declared.picture_info.TheConstants.{ABSENT_SURFACE, UNUSED_SURFACE}

-- the entry names nothing
abbrev pub is_unused : Reference → Bool
is_unused entry = entry.surface == UNUSED_SURFACE

-- the entry is a frame that was left out (H.264, 8.2.5.2), which has no samples
abbrev pub is_absent : Reference → Bool
is_absent entry = entry.surface == ABSENT_SURFACE
