-- The filter of one line of samples across an edge (H.264, 8.7.2.2 to 8.7.2.4). p0 to p3 stand on one side of the edge and q0 to q3
-- on the other, each counted from the edge.
use Rattle.std.specs.Prelude.{ℕ, ◌+◌, ◌*◌, ◌/◌, ℤ, pos, ◌+ℤ◌, ◌-ℤ◌, ◌*ℤ◌, Bool, ◌&&◌, ◌==◌, nat_lt, if◌then◌else◌}
use Rattle.std.specs.Int.{abs_diff, int_max, int_min, int_shr}
use Rattle.vd_plane.specs.SampleArray.{nearest}
use Rattle.deblock.specs.declared.line.Edge.{Edge}
use Rattle.deblock.specs.declared.line.Filter.{Filter}
use Rattle.deblock.specs.declared.line.Samples.{Samples}
use Rattle.deblock.specs.declared.line.Side.{Side}

abbrev pub side_of : ℕ → ℕ → ℕ → ℕ → Side
side_of s0 s1 s2 s3 = record { s0 = s0; s1 = s1; s2 = s2; s3 = s3 }

-- Clip1, for 8 bits (5.7)
abbrev pub clip1 : ℤ → ℕ
clip1 z = nearest 256 z

-- Clip3( -c, c, z ) (5.7)
abbrev pub within : ℕ → ℤ → ℤ
within c z = int_max (pos 0 -ℤ pos c) (int_min z (pos c))

-- 8.7.2.2: filterSamplesFlag
unfoldable pub is_filtered : Filter → ℕ → ℕ → ℕ → ℕ → Bool
is_filtered f p1 p0 q0 q1 = nat_lt 0 f.strength && nat_lt (abs_diff p0 q0) f.alpha && nat_lt (abs_diff p1 p0) f.beta && nat_lt (abs_diff q1 q0) f.beta

-- 8.7.2.3, strengths 1 to 3: what p0 gains and q0 loses, tC at most
unfoldable pub delta : ℕ → ℕ → ℕ → ℕ → ℕ → ℤ
delta tc p1 p0 q0 q1 = within tc (int_shr (((pos 4 *ℤ (pos q0 -ℤ pos p0)) +ℤ (pos p1 -ℤ pos q1)) +ℤ pos 4) 3)

-- 8.7.2.4: a chroma sample beside the edge at strength 4, and a luma sample whose side isn't smooth
unfoldable pub short : ℕ → ℕ → ℕ → ℕ
short own1 own0 other1 = (2 * own1 + own0 + other1 + 2) / 4

-- ap < β on p's side, aq < β on q's
unfoldable pub is_smooth : Filter → Side → Bool
is_smooth f own = nat_lt (abs_diff own.s2 own.s0) f.beta

-- tC of luma: tC0, and one more for each smooth side
abbrev pub luma_tc : Filter → Side → Side → ℕ
luma_tc f p q = f.tc0 + (if is_smooth f p then 1 else 0) + (if is_smooth f q then 1 else 0)

-- p1 of a smooth side, from that side and the other one, and q1 with both exchanged. Nothing is left to clip
unfoldable pub second : Filter → Side → Side → ℕ
second f own other = clip1 (pos own.s1 +ℤ within f.tc0 (int_shr ((pos own.s2 +ℤ pos ((own.s0 + other.s0 + 1) / 2)) -ℤ pos (2 * own.s1)) 1))

abbrev pub second_or_own : Filter → Side → Side → ℕ
second_or_own f own other = if is_smooth f own then second f own other else own.s1

abbrev pub luma_delta : Filter → Side → Side → ℤ
luma_delta f p q = delta (luma_tc f p q) p.s1 p.s0 q.s0 q.s1

unfoldable pub normal_luma : Filter → Side → Side → Samples
normal_luma f p q = record {
  p = side_of (clip1 (pos p.s0 +ℤ luma_delta f p q)) (second_or_own f p q) p.s2 p.s3;
  q = side_of (clip1 (pos q.s0 -ℤ luma_delta f p q)) (second_or_own f q p) q.s2 q.s3;
}

-- strength 4 in luma: three samples of a smooth side of a low step, from that side and the other one
unfoldable pub long : Side → Side → Side
long own other =
    side_of ((own.s2 + 2 * own.s1 + 2 * own.s0 + 2 * other.s0 + other.s1 + 4) / 8)
    ((own.s2 + own.s1 + own.s0 + other.s0 + 2) / 4)
    ((2 * own.s3 + 3 * own.s2 + own.s1 + own.s0 + other.s0 + 4) / 8)
    own.s3

unfoldable pub strong_side : Filter → Side → Side → Side
strong_side f own other =
    if is_smooth f own && nat_lt (abs_diff own.s0 other.s0) (f.alpha / 4 + 2) then long own other
    else side_of (short own.s1 own.s0 other.s1) own.s1 own.s2 own.s3

abbrev pub strong_luma : Filter → Side → Side → Samples
strong_luma f p q = record { p = strong_side f p q; q = strong_side f q p }

unfoldable pub luma_changed : Filter → Side → Side → Samples
luma_changed f p q = if f.strength == 4 then strong_luma f p q else normal_luma f p q

-- a line of luma after the filter
unfoldable pub luma_filtered : Filter → Side → Side → Samples
luma_filtered f p q = if is_filtered f p.s1 p.s0 q.s0 q.s1 then luma_changed f p q else record { p = p; q = q }

abbrev pub normal_chroma : Filter → ℕ → ℕ → ℕ → ℕ → Edge
normal_chroma f p1 p0 q0 q1 = record { p0 = clip1 (pos p0 +ℤ delta (f.tc0 + 1) p1 p0 q0 q1); q0 = clip1 (pos q0 -ℤ delta (f.tc0 + 1) p1 p0 q0 q1) }

abbrev pub strong_chroma : ℕ → ℕ → ℕ → ℕ → Edge
strong_chroma p1 p0 q0 q1 = record { p0 = short p1 p0 q1; q0 = short q1 q0 p1 }

unfoldable pub chroma_changed : Filter → ℕ → ℕ → ℕ → ℕ → Edge
chroma_changed f p1 p0 q0 q1 = if f.strength == 4 then strong_chroma p1 p0 q0 q1 else normal_chroma f p1 p0 q0 q1

-- the two samples of a line of chroma beside the edge, after the filter
unfoldable pub chroma_filtered : Filter → ℕ → ℕ → ℕ → ℕ → Edge
chroma_filtered f p1 p0 q0 q1 = if is_filtered f p1 p0 q0 q1 then chroma_changed f p1 p0 q0 q1 else record { p0 = p0; q0 = q0 }
