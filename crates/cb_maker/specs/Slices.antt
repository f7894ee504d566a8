-- The slices of a made stream, in their order: 60 pictures of three slices each, six rows of macroblocks a slice.
use Rattle.std.specs.Prelude.{ℕ, ◌+◌, ◌-◌, ◌*◌, ◌/◌, ◌%◌, ◌==◌, min, Bool, false, if◌then◌else◌, List, [], ◌∷◌, replicate, Option, Some, None, ℤ, pos}
use Rattle.cb_types.specs.declared.header.Header.{Header}
use Rattle.cb_types.specs.declared.header.ListEdit.TheVariants.{Subtract}
use Rattle.cb_types.specs.declared.header.Marking.{Marking}
use Rattle.cb_types.specs.declared.header.Marking.TheVariants.{Idr, Sliding}
use Rattle.cb_types.specs.declared.header.UnitHead.{UnitHead}
use Rattle.cb_types.specs.declared.macroblock.Macroblock.{Macroblock}
use Rattle.mb_syntax.specs.Slice.{slice_of}
use Rattle.slice_header.specs.Spelling.{no_weights}
use Rattle.cb_maker.specs.Draws.{Drawn, Made, ◌>>=◌, draw_around, each_below}
use Rattle.cb_maker.specs.Macroblocks.{drawn_macroblock}
use Rattle.cb_maker.specs.declared.stream.TheConstants.{INFO, PICTURES, PICTURE_SLICES, SIZE, SLICE_MBS}

-- every thirtieth picture is an IDR picture, which begins a period; the others are P
abbrev pub in_period : ℕ → ℕ
in_period picture = picture % 30

abbrev pub begins_period : ℕ → Bool
begins_period picture = in_period picture == 0

-- nal_ref_idc and nal_unit_type: the first bytes are 65 and 41
abbrev pub head_of : ℕ → UnitHead
head_of picture =
    if begins_period picture then record { ref_idc = 3; unit_type = 5 } else record { ref_idc = 2; unit_type = 1 }

-- how many entries a P slice's reference list has: the pictures before it in its period, three at most
abbrev pub active_in : ℕ → ℕ
active_in picture = min (in_period picture) 3

-- I, or P
abbrev pub slice_type : ℕ → ℕ
slice_type picture = if begins_period picture then 7 else 5

-- IDR pictures behind one another have other numbers
abbrev pub idr_pic_id : ℕ → ℕ
idr_pic_id picture = if begins_period picture then picture / 30 % 2 else 0

-- num_ref_idx_l0_active_minus1, which a P slice spells
abbrev pub active_override : ℕ → Option ℕ
active_override picture = if begins_period picture then None else Some (active_in picture - 1)

abbrev pub marking : ℕ → Marking
marking picture = if begins_period picture then Idr false false else Sliding

-- the header of a picture's slice with this number, and with these values of the quantizer and of the deblocking filter
abbrev pub header_of : (picture number : ℕ) → (qp_delta alpha_half beta_half : ℤ) → Header
header_of picture number qp_delta alpha_half beta_half = record {
  head = head_of picture;
  first_mb = SLICE_MBS * number;
  slice_type = slice_type picture;
  pps = 0;
  frame_num = in_period picture % 16;
  idr_pic_id = idr_pic_id picture;
  poc_lsb = 0;
  delta_bottom = pos 0;
  delta_poc = pos 0 ∷ pos 0 ∷ [];
  active_override = active_override picture;
  edited = false;
  edit_count = 0;
  edits = replicate 16 (Subtract 0);
  weights = no_weights;
  marking = marking picture;
  qp_delta = qp_delta;
  deblock_idc = 0;
  alpha_half = alpha_half;
  beta_half = beta_half;
}

unfoldable pub drawn_header : (picture number : ℕ) → Drawn Header
drawn_header picture number = do
  qp_delta ← draw_around 10
  alpha_half ← draw_around 2
  beta_half ← draw_around 2
  Made (header_of picture number qp_delta alpha_half beta_half)

pub record MadeSlice : Type 0 where
  pub header : Header
  pub mbs : List Macroblock

-- the macroblocks of a slice with this header
unfoldable pub drawn_mbs : Header → Drawn (List Macroblock)
drawn_mbs header =
    each_below SLICE_MBS (λ behind. drawn_macroblock (slice_of INFO header SIZE) (header.first_mb + behind))

unfoldable pub drawn_slice : (picture number : ℕ) → Drawn MadeSlice
drawn_slice picture number = do
  header ← drawn_header picture number
  mbs ← drawn_mbs header
  Made (record { header = header; mbs = mbs })

-- the stream's slices, picture by picture
unfoldable pub drawn_slices : Drawn (List MadeSlice)
drawn_slices =
    each_below (PICTURES * PICTURE_SLICES) (λ slice. drawn_slice (slice / PICTURE_SLICES) (slice % PICTURE_SLICES))

-- those of the stream with this number, from which the draws start
abbrev pub slices_of : ℕ → List MadeSlice
slices_of number = (drawn_slices number).0
