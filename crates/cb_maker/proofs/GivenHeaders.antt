-- Which headers can be drawn: those that a slice of the stream can have.
use Rattle.std.proofs.Common.{◌≡◌, ℕ, ◌+◌, ◌-◌, ◌*◌, ◌/◌, ◌%◌, ◌^◌, ◌<◌, ◌≤◌, Bool, true, false, if◌then◌else◌, List, [], ◌∷◌, ◌++◌, length, take, replicate, Option, Some, None, ℤ, pos, unsigned_abs, refl, ap, ◌∙◌, arith}
use Rattle.std.proofs.lemmas.Int.{ints}
use Rattle.std.proofs.lemmas.List.{replicate-append-replicate, take-replicate, length-replicate}
use Rattle.cb_types.specs.Slices.{active_entries}
use Rattle.cb_types.specs.declared.header.EntryWeights.{EntryWeights}
use Rattle.cb_types.specs.declared.header.Header.{Header}
use Rattle.cb_types.specs.declared.header.ListEdit.TheVariants.{Subtract}
use Rattle.cb_types.specs.declared.header.Marking.{Marking}
use Rattle.cb_types.specs.declared.header.Marking.TheVariants.{Idr, Sliding}
use Rattle.cb_types.specs.declared.header.UnitHead.{UnitHead}
use Rattle.slice_header.specs.Headers.{AreDeltas, AreFirst, IsEdit, IsHeader, as_read}
use Rattle.slice_header.specs.Lists.{padded}
use Rattle.slice_header.specs.Spelling.{no_entry, no_weights}
use Rattle.cb_maker.specs.Draws.{draw_around}
use Rattle.cb_maker.specs.Slices.{active_in, active_override, begins_period, drawn_header, head_of, header_of, idr_pic_id, in_period, marking, slice_type}
use Rattle.cb_maker.specs.Stream.{first_byte}
use Rattle.cb_maker.specs.declared.stream.TheConstants.{INFO, SLICE_MBS}
use Rattle.cb_maker.proofs.Giving.{Gives, gives_made, gives_then}
use Rattle.cb_maker.proofs.GivenKinds.{IsAround, gives_around}

-- a header of an IDR picture's slice or of a P slice
abbrev general : (begins : Bool) (first_mb frame_num idr_pic_id minus1 : ℕ) (qp_delta alpha_half beta_half : ℤ) → Header
general begins first_mb frame_num idr_pic_id minus1 qp_delta alpha_half beta_half = record {
  head = if begins then record { ref_idc = 3; unit_type = 5 } else record { ref_idc = 2; unit_type = 1 };
  first_mb = first_mb;
  slice_type = if begins then 7 else 5;
  pps = 0;
  frame_num = frame_num;
  idr_pic_id = if begins then idr_pic_id else 0;
  poc_lsb = 0;
  delta_bottom = pos 0;
  delta_poc = pos 0 ∷ pos 0 ∷ [];
  active_override = if begins then None else Some minus1;
  edited = false;
  edit_count = 0;
  edits = replicate 16 (Subtract 0);
  weights = no_weights;
  marking = if begins then Idr false false else Sliding;
  qp_delta = qp_delta;
  deblock_idc = 0;
  alpha_half = alpha_half;
  beta_half = beta_half;
}

-- what every header of the stream is
pub record IsGiven (header : Header) : Type 0 where
  pub spelled : IsHeader INFO header
  pub same : as_read INFO header ≡ header
  pub first : first_byte header.head < 2 ^ 8
  pub some : 1 ≤ active_entries INFO header
  pub few : active_entries INFO header ≤ 3

-- places of the weights that aren't spelled are as they are read back
same_entries : (active : ℕ) → active ≤ 16 → padded 16 no_entry (take active (replicate 16 no_entry)) ≡ replicate 16 no_entry
same_entries active few =
    let first : take active (replicate 16 no_entry) ≡ replicate active no_entry = take-replicate active 16 no_entry few in
    let end : active + (16 - active) ≡ 16 = omega (arith, few) in
    ap (λ (s : List EntryWeights). s ++ replicate (16 - length s) no_entry) first
    ∙ ap (λ (n : ℕ). replicate active no_entry ++ replicate (16 - n) no_entry) (length-replicate active no_entry)
    ∙ replicate-append-replicate active (16 - active) no_entry
    ∙ ap (λ (n : ℕ). replicate n no_entry) end

module _ (first_mb frame_num idr_pic_id minus1 : ℕ) (qp_delta alpha_half beta_half : ℤ) where
  abbrev of : Bool → Header
  of begins = general begins first_mb frame_num idr_pic_id minus1 qp_delta alpha_half beta_half

  same_read : (begins : Bool) → minus1 < 16 → as_read INFO (of begins) ≡ of begins
  same_read true few = refl
  same_read false few = ap (λ (entries : List EntryWeights). record (of false) { weights = record { luma_denom = 0; chroma_denom = 0; entries = entries } }) (same_entries (minus1 + 1) (omega (arith, few)))

  no_edits : AreFirst 16 (IsEdit INFO) 0 (replicate 16 (Subtract 0))
  no_edits = record { most = omega arith; long = refl; values = λ i d below. absurd (omega (arith, below)) }

  no_deltas : AreDeltas INFO (pos 0 ∷ pos 0 ∷ [])
  no_deltas = record {
    first = pos 0;
    second = pos 0;
    both = refl;
    first_value = omega arith;
    second_value = omega arith;
    first_absent = λ _. refl;
    second_absent = λ _. refl;
  }

  module _ (first : first_mb ≤ 396) (number : frame_num < 16) (id : idr_pic_id ≤ 1) (few : minus1 ≤ 2) (q : unsigned_abs qp_delta ≤ 10) (a : unsigned_abs alpha_half ≤ 2) (b : unsigned_abs beta_half ≤ 2) where
    is_header : (begins : Bool) → IsHeader INFO (of begins)
    is_header true = record {
      first_mb = omega (arith, first);
      slice_type = refl;
      pps = omega arith;
      frame_num = number;
      idr_pic_id = omega (arith, id);
      idr_pic_id_absent = λ wrong. absurd cc;
      poc_lsb = omega arith;
      poc_lsb_absent = λ _. refl;
      delta_bottom = omega arith;
      delta_bottom_absent = λ _. refl;
      delta_poc = no_deltas;
      active_override = tt;
      active = omega arith;
      active_override_absent = λ _. refl;
      edited_absent = λ _. refl;
      edit_count = omega arith;
      edits = no_edits;
      edits_absent = λ _. refl;
      weights = λ wrong. absurd cc;
      weights_absent = λ _. refl;
      marking = (λ wrong. absurd cc, refl);
      qp_least = omega (arith, ints, q);
      qp_most = omega (arith, ints, q);
      deblock_idc = omega arith;
      deblock_idc_absent = λ _. refl;
      alpha_least = omega (arith, ints, a);
      alpha_most = omega (arith, ints, a);
      alpha_absent = λ wrong. absurd cc;
      beta_least = omega (arith, ints, b);
      beta_most = omega (arith, ints, b);
      beta_absent = λ wrong. absurd cc;
    }
    is_header false = record {
      first_mb = omega (arith, first);
      slice_type = refl;
      pps = omega arith;
      frame_num = number;
      idr_pic_id = omega arith;
      idr_pic_id_absent = λ _. refl;
      poc_lsb = omega arith;
      poc_lsb_absent = λ _. refl;
      delta_bottom = omega arith;
      delta_bottom_absent = λ _. refl;
      delta_poc = no_deltas;
      active_override = omega (arith, few);
      active = omega (arith, few);
      active_override_absent = λ wrong. absurd cc;
      edited_absent = λ _. refl;
      edit_count = omega arith;
      edits = no_edits;
      edits_absent = λ _. refl;
      weights = λ wrong. absurd cc;
      weights_absent = λ _. refl;
      marking = (λ wrong. absurd cc, refl);
      qp_least = omega (arith, ints, q);
      qp_most = omega (arith, ints, q);
      deblock_idc = omega arith;
      deblock_idc_absent = λ _. refl;
      alpha_least = omega (arith, ints, a);
      alpha_most = omega (arith, ints, a);
      alpha_absent = λ wrong. absurd cc;
      beta_least = omega (arith, ints, b);
      beta_most = omega (arith, ints, b);
      beta_absent = λ wrong. absurd cc;
    }

    one_byte : (begins : Bool) → first_byte (of begins).head < 2 ^ 8
    one_byte true = omega arith
    one_byte false = omega arith

    some_active : (begins : Bool) → 1 ≤ active_entries INFO (of begins)
    some_active true = omega arith
    some_active false = omega arith

    few_active : (begins : Bool) → active_entries INFO (of begins) ≤ 3
    few_active true = omega arith
    few_active false = omega (arith, few)

    general_given : (begins : Bool) → IsGiven (of begins)
    general_given begins = record { spelled = is_header begins; same = same_read begins (omega (arith, few)); first = one_byte begins; some = some_active begins; few = few_active begins }

module _ (picture number : ℕ) (within : number < 3) where
  given : (qp_delta alpha_half beta_half : ℤ) → unsigned_abs qp_delta ≤ 10 → unsigned_abs alpha_half ≤ 2 → unsigned_abs beta_half ≤ 2 → IsGiven (header_of picture number qp_delta alpha_half beta_half)
  given qp_delta alpha_half beta_half q a b =
      general_given (SLICE_MBS * number) (in_period picture % 16) (picture / 30 % 2) (active_in picture - 1) qp_delta alpha_half beta_half
      (omega (arith, within)) (omega arith) (omega arith) (omega arith) q a b (begins_period picture)

  -- a header of the stream, and the address of its first macroblock
  abbrev pub IsOfSlice : Header → Type 0
  IsOfSlice header = IsGiven header × (header.first_mb ≡ SLICE_MBS * number)

  pub gives_header : Gives (drawn_header picture number) IsOfSlice
  unfolding drawn_header
  gives_header = gives_then (draw_around 10) _ (IsAround 10) IsOfSlice (gives_around 10)
      (λ qp_delta q. gives_then (draw_around 2) _ (IsAround 2) IsOfSlice (gives_around 2)
      (λ alpha_half a. gives_then (draw_around 2) _ (IsAround 2) IsOfSlice (gives_around 2)
      (λ beta_half b. gives_made (header_of picture number qp_delta alpha_half beta_half) IsOfSlice (given qp_delta alpha_half beta_half q a b, refl))))

-- A header whose fields are as the stream's are is that header.
pub same_header : (picture number : ℕ) (head : UnitHead) (type idr : ℕ) (override : Option ℕ) (mark : Marking) (q a b q_2 a_2 b_2 : ℤ) → head ≡ head_of picture → type ≡ slice_type picture
    → idr ≡ idr_pic_id picture → override ≡ active_override picture → mark ≡ marking picture → q_2 ≡ q → a_2 ≡ a → b_2 ≡ b
    → header_of picture number q a b ≡ record (header_of picture number q_2 a_2 b_2) { head = head; slice_type = type; idr_pic_id = idr; active_override = override; marking = mark }
same_header picture number head type idr override mark q a b q_2 a_2 b_2 e f g h i j k l = cc
