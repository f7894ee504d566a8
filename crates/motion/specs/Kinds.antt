-- What follows from a macroblock's kind. H.264, Tables 7-11 and 7-13.
use Rattle.std.specs.Prelude.{Bool, true, false}
use Rattle.cb_types.specs.declared.macroblock.MbKind.{MbKind}
use Rattle.cb_types.specs.declared.macroblock.MbKind.TheVariants.{Skip, Pcm, Intra4, Intra16, Whole, Wide, Tall, Four, FourFirst}

-- an Intra kind, I_PCM among them
abbrev pub is_intra : MbKind → Bool
is_intra Skip = false
is_intra (Pcm samples) = true
is_intra (Intra4 modes chroma pattern) = true
is_intra (Intra16 mode chroma pattern) = true
is_intra (Whole part pattern) = false
is_intra (Wide parts pattern) = false
is_intra (Tall parts pattern) = false
is_intra (Four subs pattern) = false
is_intra (FourFirst subs pattern) = false

abbrev pub is_skip : MbKind → Bool
is_skip Skip = true
is_skip (Pcm samples) = false
is_skip (Intra4 modes chroma pattern) = false
is_skip (Intra16 mode chroma pattern) = false
is_skip (Whole part pattern) = false
is_skip (Wide parts pattern) = false
is_skip (Tall parts pattern) = false
is_skip (Four subs pattern) = false
is_skip (FourFirst subs pattern) = false
