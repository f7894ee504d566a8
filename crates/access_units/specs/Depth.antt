-- How many pictures of a period may wait for their turn to come out. H.264, A.3.1 and Table A-1, C.4.5.3.
use Rattle.std.specs.Prelude.{ℕ, ◌/◌, ◌%◌, max, min, ◌==◌, Bool, ◌||◌, ◌&&◌, if◌then◌else◌}
use Rattle.cb_types.specs.SizeMbs.{macroblocks}
use Rattle.param_sets.specs.Sps.{size_of}
use Rattle.param_sets.specs.declared.sps.Sps.{Sps}

-- constraint_set3_flag, the fourth of the flags from the highest bit on
abbrev pub has_fourth_constraint : Sps → Bool
has_fourth_constraint sps = sps.constraints.0 / 16 % 2 == 1

-- MaxDpbMbs by level_idc, which is ten times the level; level 1b is level_idc 11 with constraint_set3_flag. A number that isn't
-- in the table counts as level 5.1.
abbrev pub max_dpb_mbs : Sps → ℕ
max_dpb_mbs sps =
    let level = sps.level_idc in
    if level == 10 || (level == 11 && has_fourth_constraint sps) then 396
    else if level == 11 then 900
    else if level == 12 || level == 13 || level == 20 then 2376
    else if level == 21 then 4752
    else if level == 22 || level == 30 then 8100
    else if level == 31 then 18000
    else if level == 32 then 20480
    else if level == 40 || level == 41 then 32768
    else if level == 42 then 34816
    else if level == 50 then 110400
    else if level == 60 || level == 61 || level == 62 then 696320
    else 184320

-- as many frames as the buffer holds, up to 16, and as many as are references at least
abbrev pub depth_of : Sps → ℕ
depth_of sps = max sps.max_num_ref_frames (min 16 (max_dpb_mbs sps / macroblocks (size_of sps)))
