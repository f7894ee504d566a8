-- What follows from a macroblock's kind. H.264, Tables 7-11, 7-13 and 7-15.
use Rattle.std.specs.Prelude.{ℕ, ◌+◌, ◌*◌, ◌/◌, ◌%◌, ◌==◌, nat_lt, Bool, true, false, if◌then◌else◌}
use Rattle.cb_types.specs.declared.macroblock.MbKind.{MbKind}
use Rattle.cb_types.specs.declared.macroblock.MbKind.TheVariants.{Skip, Pcm, Intra4, Intra16, Whole, Wide, Tall, Four, FourFirst}

abbrev pub is_skip : MbKind → Bool
is_skip Skip = true
is_skip (Pcm samples) = false
is_skip (Intra4 modes chroma pattern) = false
is_skip (Intra16 mode chroma pattern) = false
is_skip (Whole part pattern) = false
is_skip (Wide parts pattern) = false
is_skip (Tall parts pattern) = false
is_skip (Four subs pattern) = false
is_skip (FourFirst subs pattern) = false

abbrev pub is_pcm : MbKind → Bool
is_pcm Skip = false
is_pcm (Pcm samples) = true
is_pcm (Intra4 modes chroma pattern) = false
is_pcm (Intra16 mode chroma pattern) = false
is_pcm (Whole part pattern) = false
is_pcm (Wide parts pattern) = false
is_pcm (Tall parts pattern) = false
is_pcm (Four subs pattern) = false
is_pcm (FourFirst subs pattern) = false

abbrev pub is_intra16 : MbKind → Bool
is_intra16 Skip = false
is_intra16 (Pcm samples) = false
is_intra16 (Intra4 modes chroma pattern) = false
is_intra16 (Intra16 mode chroma pattern) = true
is_intra16 (Whole part pattern) = false
is_intra16 (Wide parts pattern) = false
is_intra16 (Tall parts pattern) = false
is_intra16 (Four subs pattern) = false
is_intra16 (FourFirst subs pattern) = false

-- CodedBlockPatternLuma plus 16 times CodedBlockPatternChroma
abbrev pub pattern_of : MbKind → ℕ
pattern_of Skip = 0
pattern_of (Pcm samples) = 0
pattern_of (Intra4 modes chroma pattern) = pattern
pattern_of (Intra16 mode chroma pattern) = pattern
pattern_of (Whole part pattern) = pattern
pattern_of (Wide parts pattern) = pattern
pattern_of (Tall parts pattern) = pattern
pattern_of (Four subs pattern) = pattern
pattern_of (FourFirst subs pattern) = pattern

-- mb_type of Intra_16x16: all luma is coded, or none
abbrev pub intra16_type : ℕ → ℕ → ℕ
intra16_type mode pattern = 1 + mode + 4 * (pattern / 16) + (if pattern % 16 == 15 then 12 else 0)

-- mb_type of the kinds of I slices, which come behind the five of P in P slices
abbrev pub intra_type : Bool → ℕ → ℕ
intra_type is_p number = if is_p then 5 + number else number

-- mb_type; a skipped macroblock has none
abbrev pub mb_type : Bool → MbKind → ℕ
mb_type is_p Skip = 0
mb_type is_p (Pcm samples) = intra_type is_p 25
mb_type is_p (Intra4 modes chroma pattern) = intra_type is_p 0
mb_type is_p (Intra16 mode chroma pattern) = intra_type is_p (intra16_type mode pattern)
mb_type is_p (Whole part pattern) = 0
mb_type is_p (Wide parts pattern) = 1
mb_type is_p (Tall parts pattern) = 2
mb_type is_p (Four subs pattern) = 3
mb_type is_p (FourFirst subs pattern) = 4

-- mb_qp_delta is spelled where blocks may be coded
abbrev pub has_qp_delta : MbKind → Bool
has_qp_delta kind = if is_intra16 kind then true else nat_lt 0 (pattern_of kind)

-- NumSubMbPart of sub_mb_type: 8x8, 8x4, 4x8, 4x4
abbrev pub sub_parts : ℕ → ℕ
sub_parts kind = if kind == 0 then 1 else (if kind == 3 then 4 else 2)
