-- The blocks of a macroblock from their parts: the DC block, the luma blocks, the DC blocks of chroma, and the AC blocks of Cb and Cr.
use Rattle.std.proofs.Common.{◌≡◌, ℕ, zero, suc, ◌+◌, ◌<◌, ◌≤◌, Bool, false, List, [], ◌∷◌, ◌++◌, length, get_or, map, set, refl, sym, ap, ◌∙◌, subst, arith, append_assoc, append-nil, ℤ}
use Rattle.std.specs.List.{All, flat_map}
use Rattle.std.proofs.lemmas.Bool.{cond-false}
use Rattle.std.proofs.lemmas.List.{get_or-append-add, get_or_append_left, length-append, length-map}
use Rattle.bit_io.specs.Reads.{BeginsNone}
use Rattle.cavlc.specs.Coefficients.{total_coeff}
use Rattle.cavlc.specs.Parts.{IsLonger}
use Rattle.cavlc.specs.Turns.{AreInTurn}
use Rattle.cb_types.specs.declared.macroblock.ChromaLevels.{ChromaLevels}
use Rattle.cb_types.specs.declared.macroblock.Macroblock.{Macroblock}
use Rattle.cb_types.specs.declared.macroblock.MbKind.{MbKind}
use Rattle.mb_syntax.proofs.BlockLemmas.{behind_is, both_bits, both_next, both_read, none_first, none_second, single, single_bits}
use Rattle.mb_syntax.proofs.StretchLemmas.{AreInTurn-back, AreInTurn-front}
use Rattle.mb_syntax.specs.Around.{IsCountOf}
use Rattle.mb_syntax.specs.declared.counts.Around.{Around}
use Rattle.mb_syntax.specs.Blocks.{AreBlocks, IsNextBlock, block_behind, next_block_bits, residual_bits}
use Rattle.mb_syntax.specs.Counts.{block_of, blocks_of, chroma_blocks, count_in, dc_block, total_at}
use Rattle.mb_syntax.specs.Kinds.{is_pcm}
use Rattle.mb_syntax.specs.Stretches.{AreNext, AreTotals, IsSpelled, bits_behind}
use Rattle.mb_syntax.specs.declared.counts.Counts.{Counts}
use Rattle.mb_syntax.specs.declared.slice.Slice.{Slice}

-- so many blocks are read
pub record IsRead (slice : Slice) (before : List Macroblock) (kind : MbKind) (old : List Bool) (count : ℕ) (blocks : List (List ℤ)) (left : List Bool) : Type 0 where
  pub are : AreNext slice before kind [] count blocks
  pub bits : old ≡ bits_behind slice before kind [] blocks ++ left

abbrev pub BeginsNoBlocks : Slice → List Macroblock → MbKind → List Bool → Type 0
BeginsNoBlocks slice before kind = BeginsNone (λ (blocks : List (List ℤ)). (length blocks ≡ 27) × AreBlocks slice before kind blocks) (residual_bits slice before kind)

module _ (slice : Slice) (before : List Macroblock) (kind : MbKind) (old : List Bool) where
  pub first_part : (block : List ℤ) (left : List Bool) → IsNextBlock slice before kind [] block × (old ≡ next_block_bits slice before kind [] block ++ left) → IsRead slice before kind old 1 (block ∷ []) left
  first_part block left h = record {
    are = single slice before kind [] block h.0;
    bits = h.1 ∙ ap (λ (x : List Bool). x ++ left) (single_bits slice before kind [] block);
  }

  pub no_first : BeginsNone (IsNextBlock slice before kind []) (next_block_bits slice before kind []) old → BeginsNoBlocks slice before kind old
  no_first none blocks rest is e = none_first slice before kind [] 27 (omega arith) old none blocks rest (record { size = is.0; each = is.1 }) e

  module _ (count : ℕ) (blocks : List (List ℤ)) (left : List Bool) (read : IsRead slice before kind old count blocks left) (more : ℕ) where
    pub next_part : (part : List (List ℤ)) (new : List Bool) → AreNext slice before kind blocks more part × (left ≡ bits_behind slice before kind blocks part ++ new)
        → IsRead slice before kind old (count + more) (blocks ++ part) new
    next_part part new h = record {
      are = both_next slice before kind [] blocks part count more read.are h.0;
      bits = both_read slice before kind [] blocks part old left new read.bits h.1;
    }

    pub no_part : count + more ≤ 27 → BeginsNone (AreNext slice before kind blocks more) (bits_behind slice before kind blocks) left → BeginsNoBlocks slice before kind old
    no_part few none all rest is e =
        none_second slice before kind [] blocks count more 27 old left few read.are read.bits none all rest (record { size = is.0; each = is.1 }) e

-- all parts
abbrev pub whole : List ℤ → List (List ℤ) → List (List ℤ) → List (List ℤ) → List (List ℤ) → List (List ℤ)
whole dc luma dcs cb cr = dc ∷ ((luma ++ dcs) ++ (cb ++ (cr ++ [])))

pub whole_is : (dc : List ℤ) (luma dcs cb cr : List (List ℤ)) → ((((dc ∷ []) ++ luma) ++ dcs) ++ cb) ++ cr ≡ whole dc luma dcs cb cr
whole_is dc luma dcs cb cr =
    ap (λ (x : List (List ℤ)). dc ∷ x) (append_assoc (luma ++ dcs) cb cr ∙ ap (λ (x : List (List ℤ)). (luma ++ dcs) ++ (cb ++ x)) (sym (append-nil cr)))

-- the planes of chroma
pub two_planes : (planes : List ChromaLevels) (cb cr : ChromaLevels) → length planes ≡ 2 → set (set planes 0 cb) 1 cr ≡ cb ∷ cr ∷ []
two_planes [] cb cr l = absurd (omega (arith, l))
two_planes (x ∷ []) cb cr l = absurd (omega (arith, l))
two_planes (x ∷ y ∷ []) cb cr l = refl
two_planes (x ∷ y ∷ z ∷ planes) cb cr l = absurd (omega (arith, l))

pub both_fours : (cb cr : ChromaLevels) → length cb.0 ≡ 4 → length cr.0 ≡ 4 → All (λ (levels : ChromaLevels). length levels.0 ≡ 4) (cb ∷ cr ∷ [])
both_fours cb cr four_cb four_cr zero d h = four_cb
both_fours cb cr four_cb four_cr (suc zero) d h = four_cr
both_fours cb cr four_cb four_cr (suc (suc k)) d h = absurd (omega (arith, h))

pub blocks_are : (dc : List ℤ) (luma dcs : List (List ℤ)) (planes : List ChromaLevels) (cb cr : ChromaLevels) → length planes ≡ 2
    → dc ∷ ((luma ++ dcs) ++ flat_map chroma_blocks (set (set planes 0 cb) 1 cr)) ≡ whole dc luma dcs (chroma_blocks cb) (chroma_blocks cr)
blocks_are dc luma dcs planes cb cr two = ap (λ (x : List ChromaLevels). dc ∷ ((luma ++ dcs) ++ flat_map chroma_blocks x)) (two_planes planes cb cr two)

pub all_read : (slice : Slice) (before : List Macroblock) (kind : MbKind) (old : List Bool) (dc : List ℤ) (luma dcs cb cr : List (List ℤ)) (left : List Bool) (blocks : List (List ℤ)) → blocks ≡ whole dc luma dcs cb cr
    → IsRead slice before kind old 27 (((((dc ∷ []) ++ luma) ++ dcs) ++ cb) ++ cr) left
    → ((length blocks ≡ 27) × AreBlocks slice before kind blocks) × (old ≡ residual_bits slice before kind blocks ++ left)
all_read slice before kind old dc luma dcs cb cr left blocks are read =
    let same = whole_is dc luma dcs cb cr ∙ sym are in (
      (ap length (sym same) ∙ read.are.size, subst (λ (x : List (List ℤ)). AreBlocks slice before kind x) same read.are.each),
      read.bits ∙ ap (λ (x : List (List ℤ)). residual_bits slice before kind x ++ left) same,
    )

-- counts

counted : (mb : Macroblock) (place : ℕ) → is_pcm mb.kind ≡ false → total_at (blocks_of mb) place ≡ count_in mb place
counted mb place other = sym (cond-false (is_pcm mb.kind) 16 (total_at (blocks_of mb) place) other)

total_in : (front part back : List (List ℤ)) (counts : List ℕ) (place count block : ℕ) → length front ≡ place → length part ≡ count → AreTotals part counts count → block < count
    → get_or counts block 0 ≡ total_at (front ++ (part ++ back)) (place + block)
total_in front part back counts place count block at long are below =
    are block below
    ∙ ap total_coeff (sym (get_or_append_left part back [] block (omega (arith, long))) ∙ sym (get_or-append-add front (part ++ back) block []) ∙ ap (λ (n : ℕ). get_or (front ++ (part ++ back)) (n + block) []) at)

module _ (dc : List ℤ) (luma dcs cb cr : List (List ℤ)) (long_luma : length luma ≡ 16) (long_dcs : length dcs ≡ 2) (long_cb : length cb ≡ 4) (long_cr : length cr ≡ 4) where
  pub luma_total : (counts : List ℕ) (block : ℕ) → AreTotals luma counts 16 → block < 16 → get_or counts block 0 ≡ total_at (whole dc luma dcs cb cr) (1 + block)
  luma_total counts block are below =
      total_in (dc ∷ []) luma (dcs ++ (cb ++ (cr ++ []))) counts 1 16 block refl long_luma are below
      ∙ ap (λ (x : List (List ℤ)). total_at (dc ∷ x) (1 + block)) (sym (append_assoc luma dcs (cb ++ (cr ++ []))))

  pub cb_total : (counts : List ℕ) (block : ℕ) → AreTotals cb counts 4 → block < 4 → get_or counts block 0 ≡ total_at (whole dc luma dcs cb cr) (19 + block)
  cb_total counts block are below = total_in (dc ∷ (luma ++ dcs)) cb (cr ++ []) counts 19 4 block (ap suc (length-append luma dcs) ∙ omega (arith, long_luma, long_dcs)) long_cb are below

  pub cr_total : (counts : List ℕ) (block : ℕ) → AreTotals cr counts 4 → block < 4 → get_or counts block 0 ≡ total_at (whole dc luma dcs cb cr) (23 + block)
  cr_total counts block are below =
      total_in (dc ∷ ((luma ++ dcs) ++ cb)) cr [] counts 23 4 block (ap suc (length-append (luma ++ dcs) cb) ∙ omega (arith, length-append luma dcs, long_luma, long_dcs, long_cb)) long_cr are below
      ∙ ap (λ (x : List (List ℤ)). total_at (dc ∷ x) (23 + block)) (append_assoc (luma ++ dcs) cb (cr ++ []))

  pub its_counts : (counts : Counts) (mb : Macroblock) → is_pcm mb.kind ≡ false → blocks_of mb ≡ whole dc luma dcs cb cr → AreTotals luma counts.luma 16 → AreTotals cb counts.cb 4 → AreTotals cr counts.cr 4 → IsCountOf counts mb
  its_counts counts mb other are luma_are cb_are cr_are = record {
    luma = λ block below. luma_total counts.luma block luma_are below ∙ ap (λ (x : List (List ℤ)). total_at x (1 + block)) (sym are) ∙ counted mb (1 + block) other;
    cb = λ block below. cb_total counts.cb block cb_are below ∙ ap (λ (x : List (List ℤ)). total_at x (19 + block)) (sym are) ∙ counted mb (19 + block) other;
    cr = λ block below. cr_total counts.cr block cr_are below ∙ ap (λ (x : List (List ℤ)). total_at x (23 + block)) (sym are) ∙ counted mb (23 + block) other;
  }

-- the parts are written

pub record ArePartsOf (slice : Slice) (before : List Macroblock) (kind : MbKind) (dc : List ℤ) (luma dcs cb cr : List (List ℤ)) : Type 0 where
  pub first_next : IsNextBlock slice before kind [] dc
  pub luma_next : AreNext slice before kind (dc ∷ []) 16 luma
  pub dcs_next : AreNext slice before kind ((dc ∷ []) ++ luma) 2 dcs
  pub cb_next : AreNext slice before kind (((dc ∷ []) ++ luma) ++ dcs) 4 cb
  pub cr_next : AreNext slice before kind ((((dc ∷ []) ++ luma) ++ dcs) ++ cb) 4 cr

module _ (slice : Slice) (before : List Macroblock) (kind : MbKind) where
  abbrev InTurn : List (List ℤ) → List (List ℤ) → Type 0
  InTurn behind blocks = AreInTurn (IsNextBlock slice before kind) block_behind behind blocks

  front_of : (blocks part : List (List ℤ)) → InTurn [] (blocks ++ part) → InTurn [] blocks
  front_of blocks part h = AreInTurn-front (IsNextBlock slice before kind) (next_block_bits slice before kind) block_behind [] blocks part h

  back_of : (blocks part : List (List ℤ)) (count : ℕ) → length part ≡ count → InTurn [] (blocks ++ part) → AreNext slice before kind blocks count part
  back_of blocks part count long h = record {
    size = long;
    each = subst (λ (s : List (List ℤ)). InTurn s part) (behind_is [] blocks) (AreInTurn-back (IsNextBlock slice before kind) (next_block_bits slice before kind) block_behind [] blocks part h);
  }

  only : (block : List ℤ) → InTurn [] (block ∷ []) → IsNextBlock slice before kind [] block
  unfolding AreInTurn
  only block h = h.0

  pub parts_of : (dc : List ℤ) (luma dcs cb cr : List (List ℤ)) → length luma ≡ 16 → length dcs ≡ 2 → length cb ≡ 4 → length cr ≡ 4 → AreBlocks slice before kind (whole dc luma dcs cb cr)
      → ArePartsOf slice before kind dc luma dcs cb cr
  parts_of dc luma dcs cb cr long_luma long_dcs long_cb long_cr are =
      let first = dc ∷ [] in
      let second = first ++ luma in
      let third = second ++ dcs in
      let fourth = third ++ cb in
      let all = subst (λ (x : List (List ℤ)). InTurn [] x) (sym (whole_is dc luma dcs cb cr)) are in
      let to_fourth = front_of fourth cr all in
      let to_third = front_of third cb to_fourth in
      let to_second = front_of second dcs to_third in
      record {
        first_next = only dc (front_of first luma to_second);
        luma_next = back_of first luma 16 long_luma to_second;
        dcs_next = back_of second dcs 2 long_dcs to_third;
        cb_next = back_of third cb 4 long_cb to_fourth;
        cr_next = back_of fourth cr 4 long_cr all;
      }

  part_written : (blocks part : List (List ℤ)) (old mid new : List Bool) → mid ≡ old ++ bits_behind slice before kind [] blocks → new ≡ mid ++ bits_behind slice before kind blocks part
      → new ≡ old ++ bits_behind slice before kind [] (blocks ++ part)
  part_written blocks part old mid new e f =
      f ∙ ap (λ (x : List Bool). x ++ bits_behind slice before kind blocks part) e
      ∙ append_assoc old (bits_behind slice before kind [] blocks) (bits_behind slice before kind blocks part)
      ∙ ap (λ (x : List Bool). old ++ x) (sym (both_bits slice before kind [] blocks part))

  pub all_written : (dc : List ℤ) (luma dcs cb cr : List (List ℤ)) (old out_1 out_2 out_3 out_4 new : List Bool) → out_1 ≡ old ++ next_block_bits slice before kind [] dc → out_2 ≡ out_1 ++ bits_behind slice before kind (dc ∷ []) luma
      → out_3 ≡ out_2 ++ bits_behind slice before kind ((dc ∷ []) ++ luma) dcs → out_4 ≡ out_3 ++ bits_behind slice before kind (((dc ∷ []) ++ luma) ++ dcs) cb
      → new ≡ out_4 ++ bits_behind slice before kind ((((dc ∷ []) ++ luma) ++ dcs) ++ cb) cr → new ≡ old ++ residual_bits slice before kind (whole dc luma dcs cb cr)
  all_written dc luma dcs cb cr old out_1 out_2 out_3 out_4 new e_1 e_2 e_3 e_4 e_5 =
      let first = dc ∷ [] in
      let second = first ++ luma in
      let third = second ++ dcs in
      let fourth = third ++ cb in
      let w_1 = e_1 ∙ ap (λ (x : List Bool). old ++ x) (single_bits slice before kind [] dc) in
      let w_2 = part_written first luma old out_1 out_2 w_1 e_2 in
      let w_3 = part_written second dcs old out_2 out_3 w_2 e_3 in
      let w_4 = part_written third cb old out_3 out_4 w_3 e_4 in
      part_written fourth cr old out_4 new w_4 e_5 ∙ ap (λ (x : List (List ℤ)). old ++ residual_bits slice before kind x) (whole_is dc luma dcs cb cr)

pub two_of : {X : Type 0} (xs : List X) (d : X) → length xs ≡ 2 → xs ≡ get_or xs 0 d ∷ get_or xs 1 d ∷ []
two_of [] d l = absurd (omega (arith, l))
two_of (x ∷ []) d l = absurd (omega (arith, l))
two_of (x ∷ y ∷ []) d l = refl
two_of (x ∷ y ∷ z ∷ xs) d l = absurd (omega (arith, l))

abbrev pub plane_of : Macroblock → ℕ → ChromaLevels
plane_of mb plane = get_or mb.chroma plane (record { 0 = [] })

pub mb_whole : (mb : Macroblock) → length mb.chroma ≡ 2 → blocks_of mb ≡ whole mb.luma_dc (map block_of mb.luma) (map dc_block mb.chroma_dc) (chroma_blocks (plane_of mb 0)) (chroma_blocks (plane_of mb 1))
mb_whole mb two =
    let missing : ChromaLevels = record { 0 = [] } in
    ap (λ (x : List ChromaLevels). mb.luma_dc ∷ ((map block_of mb.luma ++ map dc_block mb.chroma_dc) ++ flat_map chroma_blocks x)) (two_of mb.chroma missing two)

pub mb_parts : (slice : Slice) (before : List Macroblock) (around : Around) (mb : Macroblock) → IsSpelled slice before around mb
    → ArePartsOf slice before mb.kind mb.luma_dc (map block_of mb.luma) (map dc_block mb.chroma_dc) (chroma_blocks (plane_of mb 0)) (chroma_blocks (plane_of mb 1))
mb_parts slice before around mb is =
    let missing : ChromaLevels = record { 0 = [] } in
    parts_of slice before mb.kind mb.luma_dc (map block_of mb.luma) (map dc_block mb.chroma_dc) (chroma_blocks (plane_of mb 0)) (chroma_blocks (plane_of mb 1))
    (length-map mb.luma block_of ∙ is.sizes.luma) (length-map mb.chroma_dc dc_block ∙ is.sizes.chroma_dc)
    (length-map (plane_of mb 0).0 block_of ∙ is.sizes.chroma_blocks 0 missing (omega (arith, is.sizes.chroma))) (length-map (plane_of mb 1).0 block_of ∙ is.sizes.chroma_blocks 1 missing (omega (arith, is.sizes.chroma)))
    (subst (λ (x : List (List ℤ)). AreBlocks slice before mb.kind x) (mb_whole mb is.sizes.chroma) is.blocks)

pub further : (old mid new : List Bool) → IsLonger old mid → IsLonger mid new → IsLonger old new
further old mid new h k = (h.0 ++ k.0, k.1 ∙ ap (λ (x : List Bool). x ++ k.0) h.1 ∙ append_assoc old h.0 k.0)
