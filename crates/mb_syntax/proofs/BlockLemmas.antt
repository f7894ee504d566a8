-- The blocks of a macroblock, as they are read and written one after the other.
use Rattle.std.proofs.Common.{◌≡◌, ◌≢◌, ℕ, zero, suc, ◌+◌, ◌-◌, ◌*◌, ◌/◌, ◌%◌, ◌^◌, ◌<◌, ◌≤◌, Bool, true, false, inl, inr, List, [], ◌∷◌, ◌++◌, length, get_or, map, replicate, set, take, drop, refl, sym, ap, ap₂, ◌∙◌, subst, arith, append_assoc, append-nil, eq-eqb, ne_eqb, lt-ltb, le-ltb, ◌==◌, nat_le, ℤ, pos, negsuc}
use Rattle.std.proofs.lemmas.Bool.{cases_Bool, cases_lt, le-leb, lt-leb}
use Rattle.std.proofs.lemmas.List.{get_or-append-add, get_or-set_other, get_or-set_same, get_or_append_left, length-append, length-map, length-take-le, map-set, take_all, take_more, take_more_set, drop_all, drop_more}
use Rattle.std.proofs.Math.Seq.{get_or-append_seam}
use Rattle.bit_io.specs.Reads.{BeginsNone, IsPrefixFree}
use Rattle.cavlc.proofs.SameLemmas.{blocks_free}
use Rattle.cavlc.proofs.TurnLemmas.{AreInTurn-push, is_at, none_in_turn, read_more, turns_prefix_free, written_more}
use Rattle.cavlc.proofs.CoefficientLemmas.{length-levels, nonzero-zero}
use Rattle.cavlc.proofs.PartLemmas.{nonzero_at}
use Rattle.cavlc.specs.Blocks.{HasSpelling, block_bits}
use Rattle.cavlc.specs.Coefficients.{nonzero, total_coeff}
use Rattle.cavlc.specs.Turns.{AreInTurn, in_turn, state_behind}
use Rattle.cb_types.specs.declared.macroblock.DcLevels.{DcLevels}
use Rattle.cb_types.specs.declared.macroblock.Levels.{Levels}
use Rattle.cb_types.specs.declared.macroblock.Macroblock.{Macroblock}
use Rattle.cb_types.specs.declared.macroblock.MbKind.{MbKind}
use Rattle.mb_syntax.proofs.StretchLemmas.{AreInTurn-append, in_turn-append, no_stretch}
use Rattle.mb_syntax.specs.Around.{IsChromaSoFar, IsLumaSoFar}
use Rattle.mb_syntax.specs.Blocks.{AreBlocks, IsNextBlock, block_behind, is_coded, most_levels, next_block_bits, residual_bits}
use Rattle.mb_syntax.specs.Counts.{block_of, chroma_nc, chroma_place, dc_block, luma_nc, nc_at, total_at}
use Rattle.mb_syntax.specs.Kinds.{is_intra16, pattern_of}
use Rattle.mb_syntax.specs.Stretches.{AreNext, AreTotals, bits_behind, most_luma}
use Rattle.mb_syntax.specs.declared.slice.Slice.{Slice}

pub behind_is : (s vs : List (List ℤ)) → state_behind block_behind s vs ≡ s ++ vs
unfolding state_behind
behind_is s [] = sym (append-nil s)
behind_is s (v ∷ vs) = behind_is (s ++ v ∷ []) vs ∙ append_assoc s (v ∷ []) vs

module _ (slice : Slice) (before : List Macroblock) (kind : MbKind) where
  module _ (blocks : List (List ℤ)) (block : List ℤ) where
    coded_bits : is_coded kind (length blocks) ≡ true → next_block_bits slice before kind blocks block ≡ block_bits (nc_at slice before blocks (length blocks)) (most_levels kind (length blocks)) block
    unfolding next_block_bits
    coded_bits e = rw e refl

    pub uncoded_bits : is_coded kind (length blocks) ≡ false → next_block_bits slice before kind blocks block ≡ []
    unfolding next_block_bits
    uncoded_bits e = rw e refl

  pub next_free : (blocks : List (List ℤ)) → IsPrefixFree (IsNextBlock slice before kind blocks) (next_block_bits slice before kind blocks)
  next_free blocks v w after_v after_w h k e =
      elim (cases_Bool (is_coded kind (length blocks))) [
        | inl c ↦
            blocks_free (nc_at slice before blocks (length blocks)) (most_levels kind (length blocks)) v w after_v after_w (h.coded c) (k.coded c)
            (ap (λ (x : List Bool). x ++ after_v) (sym (coded_bits blocks v c)) ∙ e ∙ ap (λ (x : List Bool). x ++ after_w) (coded_bits blocks w c))
        | inr n ↦ (
          h.not_coded n ∙ sym (k.not_coded n),
          ap (λ (x : List Bool). x ++ after_v) (sym (uncoded_bits blocks v n)) ∙ e ∙ ap (λ (x : List Bool). x ++ after_w) (uncoded_bits blocks w n),
        )
      ]

  -- No macroblock's blocks begin another's of the same kind.
  pub residual_free : IsPrefixFree (λ (blocks : List (List ℤ)). (length blocks ≡ 27) × AreBlocks slice before kind blocks) (residual_bits slice before kind)
  residual_free v w after_v after_w h k e =
      turns_prefix_free (IsNextBlock slice before kind) (next_block_bits slice before kind) block_behind next_free [] v w after_v after_w (h.0 ∙ sym k.0) h.1 k.1 e

  -- One more block is read.
  pub more_read : (behind read : List (List ℤ)) (block : List ℤ) (old mid new : List Bool) → AreInTurn (IsNextBlock slice before kind) block_behind behind read
      → old ≡ bits_behind slice before kind behind read ++ mid → IsNextBlock slice before kind (behind ++ read) block → mid ≡ next_block_bits slice before kind (behind ++ read) block ++ new
      → AreInTurn (IsNextBlock slice before kind) block_behind behind (read ++ block ∷ []) × (old ≡ bits_behind slice before kind behind (read ++ block ∷ []) ++ new)
  more_read behind read block old mid new are e is f =
      let state = sym (behind_is behind read) in (
        AreInTurn-push (IsNextBlock slice before kind) (next_block_bits slice before kind) block_behind behind read block are (subst (λ (s : List (List ℤ)). IsNextBlock slice before kind s block) state is),
        read_more (IsNextBlock slice before kind) (next_block_bits slice before kind) block_behind behind read block old mid new e (f ∙ ap (λ (s : List (List ℤ)). next_block_bits slice before kind s block ++ new) state),
      )

  -- Nothing that could be the next block begins what is left, so no stretch of blocks does.
  pub none_more : (behind read : List (List ℤ)) (count : ℕ) (old mid : List Bool) → length read < count → AreInTurn (IsNextBlock slice before kind) block_behind behind read
      → old ≡ bits_behind slice before kind behind read ++ mid → BeginsNone (IsNextBlock slice before kind (behind ++ read)) (next_block_bits slice before kind (behind ++ read)) mid
      → BeginsNone (AreNext slice before kind behind count) (bits_behind slice before kind behind) old
  none_more behind read count old mid few are e none ws rest is f =
      none_in_turn (IsNextBlock slice before kind) (next_block_bits slice before kind) block_behind next_free behind read ws old mid rest (omega (arith, is.size)) are e
      (subst (λ (s : List (List ℤ)). BeginsNone (IsNextBlock slice before kind s) (next_block_bits slice before kind s) mid) (sym (behind_is behind read)) none) is.each f

  -- two stretches
  pub both_next : (behind vs ws : List (List ℤ)) (a b : ℕ) → AreNext slice before kind behind a vs → AreNext slice before kind (behind ++ vs) b ws → AreNext slice before kind behind (a + b) (vs ++ ws)
  both_next behind vs ws a b h k = record {
    size = length-append vs ws ∙ ap₂ (λ (x y : ℕ). x + y) h.size k.size;
    each = AreInTurn-append (IsNextBlock slice before kind) (next_block_bits slice before kind) block_behind behind vs ws h.each
        (subst (λ (s : List (List ℤ)). AreInTurn (IsNextBlock slice before kind) block_behind s ws) (sym (behind_is behind vs)) k.each);
  }

  pub both_bits : (behind vs ws : List (List ℤ)) → bits_behind slice before kind behind (vs ++ ws) ≡ bits_behind slice before kind behind vs ++ bits_behind slice before kind (behind ++ vs) ws
  both_bits behind vs ws =
      in_turn-append (IsNextBlock slice before kind) (next_block_bits slice before kind) block_behind behind vs ws
      ∙ ap (λ (s : List (List ℤ)). bits_behind slice before kind behind vs ++ bits_behind slice before kind s ws) (behind_is behind vs)

  pub both_read : (behind vs ws : List (List ℤ)) (old mid new : List Bool) → old ≡ bits_behind slice before kind behind vs ++ mid → mid ≡ bits_behind slice before kind (behind ++ vs) ws ++ new
      → old ≡ bits_behind slice before kind behind (vs ++ ws) ++ new
  both_read behind vs ws old mid new e f =
      e ∙ ap (λ (x : List Bool). bits_behind slice before kind behind vs ++ x) f
      ∙ sym (append_assoc (bits_behind slice before kind behind vs) (bits_behind slice before kind (behind ++ vs) ws) new)
      ∙ ap (λ (x : List Bool). x ++ new) (sym (both_bits behind vs ws))

  -- No second stretch begins what a first left.
  pub none_second : (behind vs : List (List ℤ)) (a b count : ℕ) (old mid : List Bool) → a + b ≤ count → AreNext slice before kind behind a vs → old ≡ bits_behind slice before kind behind vs ++ mid
      → BeginsNone (AreNext slice before kind (behind ++ vs) b) (bits_behind slice before kind (behind ++ vs)) mid
      → BeginsNone (AreNext slice before kind behind count) (bits_behind slice before kind behind) old
  none_second behind vs a b count old mid few h e none ws rest is f =
      let at = subst (λ (s : List (List ℤ)). BeginsNone (AreNext slice before kind s b) (bits_behind slice before kind s) mid) (sym (behind_is behind vs)) none in
      no_stretch (IsNextBlock slice before kind) (next_block_bits slice before kind) block_behind next_free behind vs ws b old mid rest (omega (arith, h.size, is.size)) h.each e
      (λ xs after k. at xs after (record { size = k.0; each = k.1 })) is.each f

  -- a block behind these
  module _ (blocks : List (List ℤ)) where
    module _ (nc : ℤ) (most : ℕ) (coded : is_coded kind (length blocks) ≡ true) (same_nc : nc ≡ nc_at slice before blocks (length blocks)) (same_most : most ≡ most_levels kind (length blocks)) where
      pub its_bits : (block : List ℤ) → block_bits nc most block ≡ next_block_bits slice before kind blocks block
      its_bits block = ap₂ (λ (x : ℤ) (y : ℕ). block_bits x y block) same_nc same_most ∙ sym (coded_bits blocks block coded)

      pub its_spelling : (block : List ℤ) → IsNextBlock slice before kind blocks block → HasSpelling nc most block
      its_spelling block is = subst (λ (x : ℤ). HasSpelling x most block) (sym same_nc) (subst (λ (y : ℕ). HasSpelling (nc_at slice before blocks (length blocks)) y block) (sym same_most) (is.coded coded))

      pub coded_is : (block : List ℤ) (old new : List Bool) → HasSpelling nc most block × (old ≡ block_bits nc most block ++ new)
          → IsNextBlock slice before kind blocks block × (old ≡ next_block_bits slice before kind blocks block ++ new)
      coded_is block old new h = (
        record {
          coded = λ _. subst (λ (x : ℤ). HasSpelling x (most_levels kind (length blocks)) block) same_nc (subst (λ (y : ℕ). HasSpelling nc y block) same_most h.0);
          not_coded = λ n. let wrong : true ≡ false = sym coded ∙ n in cc;
        },
        h.1 ∙ ap (λ (x : List Bool). x ++ new) (its_bits block),
      )

      pub coded_none : (old : List Bool) → BeginsNone (HasSpelling nc most) (block_bits nc most) old → BeginsNone (IsNextBlock slice before kind blocks) (next_block_bits slice before kind blocks) old
      coded_none old none block rest is e = none block rest (its_spelling block is) (e ∙ ap (λ (x : List Bool). x ++ rest) (sym (its_bits block)))

    pub uncoded_is : is_coded kind (length blocks) ≡ false → (block : List ℤ) → block ≡ replicate 16 (pos 0) → (old : List Bool)
        → IsNextBlock slice before kind blocks block × (old ≡ next_block_bits slice before kind blocks block ++ old)
    uncoded_is n block zeros old = (
      record { coded = λ c. let wrong : true ≡ false = sym c ∙ n in cc; not_coded = λ _. zeros },
      ap (λ (x : List Bool). x ++ old) (sym (uncoded_bits blocks block n)),
    )

-- the first block of a stretch

module _ (slice : Slice) (before : List Macroblock) (kind : MbKind) (behind : List (List ℤ)) where
  pub nothing_read : (old : List Bool) → AreInTurn (IsNextBlock slice before kind) block_behind behind [] × (old ≡ bits_behind slice before kind behind [] ++ old)
  unfolding AreInTurn in_turn
  nothing_read old = (tt, refl)

  pub single : (block : List ℤ) → IsNextBlock slice before kind behind block → AreNext slice before kind behind 1 (block ∷ [])
  unfolding AreInTurn
  single block is = record { size = refl; each = (is, tt) }

  pub single_bits : (block : List ℤ) → next_block_bits slice before kind behind block ≡ bits_behind slice before kind behind (block ∷ [])
  unfolding in_turn
  single_bits block = sym (append-nil (next_block_bits slice before kind behind block))

  pub none_first : (count : ℕ) → 1 ≤ count → (old : List Bool) → BeginsNone (IsNextBlock slice before kind behind) (next_block_bits slice before kind behind) old
      → BeginsNone (AreNext slice before kind behind count) (bits_behind slice before kind behind) old
  unfolding AreInTurn in_turn
  none_first count some old none [] rest is e = let none_there : 0 ≡ count = is.size in omega arith
  none_first count some old none (w ∷ ws) rest is e =
      let others = in_turn (next_block_bits slice before kind) block_behind (behind ++ w ∷ []) ws in
      none w (others ++ rest) is.each.0 (e ∙ append_assoc (next_block_bits slice before kind behind w) others rest)

-- what holds of the places

module _ (slice : Slice) (before : List Macroblock) (kind : MbKind) (blocks : List (List ℤ)) (k : ℕ) where
  pub first_coded : is_coded kind 0 ≡ is_intra16 kind
  unfolding is_coded
  first_coded = refl

  pub first_nc : nc_at slice before [] 0 ≡ luma_nc slice before [] 0
  unfolding nc_at
  first_nc = refl

  pub first_most : most_levels kind 0 ≡ 16
  unfolding most_levels
  first_most = refl

  module _ (few : k < 16) where
    back : 1 + k - 1 ≡ k
    back = omega arith

    pub luma_coded : is_coded kind (1 + k) ≡ (pattern_of kind / 2 ^ (k / 4) % 2 == 1)
    unfolding is_coded
    luma_coded = rw (ne_eqb (1 + k) 0 (λ e. omega (arith, e)), lt-ltb (1 + k) 17 (omega arith), back) refl

    pub luma_nc_at : nc_at slice before blocks (1 + k) ≡ luma_nc slice before blocks k
    unfolding nc_at
    luma_nc_at = rw (ne_eqb (1 + k) 0 (λ e. omega (arith, e)), lt-ltb (1 + k) 17 (omega arith), back) refl

    pub luma_most : most_levels kind (1 + k) ≡ most_luma kind
    unfolding most_levels
    luma_most = rw (ne_eqb (1 + k) 0 (λ e. omega (arith, e)), lt-ltb (1 + k) 17 (omega arith)) refl

  module _ (two : k < 2) where
    pub dc_coded : is_coded kind (17 + k) ≡ nat_le 1 (pattern_of kind / 16)
    unfolding is_coded
    dc_coded = rw (ne_eqb (17 + k) 0 (λ e. omega (arith, e)), le-ltb (17 + k) 17 (omega arith), lt-ltb (17 + k) 19 (omega arith)) refl

    pub dc_nc_at : nc_at slice before blocks (17 + k) ≡ negsuc 0
    unfolding nc_at
    dc_nc_at = rw (ne_eqb (17 + k) 0 (λ e. omega (arith, e)), le-ltb (17 + k) 17 (omega arith), lt-ltb (17 + k) 19 (omega arith)) refl

    pub dc_most : most_levels kind (17 + k) ≡ 4
    unfolding most_levels
    dc_most = rw (ne_eqb (17 + k) 0 (λ e. omega (arith, e)), le-ltb (17 + k) 17 (omega arith), lt-ltb (17 + k) 19 (omega arith)) refl

  module _ (plane : ℕ) (four : k < 4) where
    plane_back : (chroma_place plane k - 19) / 4 ≡ plane
    plane_back = omega arith

    block_back : (chroma_place plane k - 19) % 4 ≡ k
    block_back = omega arith

    pub chroma_coded : is_coded kind (chroma_place plane k) ≡ (pattern_of kind / 16 == 2)
    unfolding is_coded
    chroma_coded = rw (ne_eqb (chroma_place plane k) 0 (λ e. omega (arith, e)), le-ltb (chroma_place plane k) 17 (omega arith), le-ltb (chroma_place plane k) 19 (omega arith)) refl

    pub chroma_nc_at : nc_at slice before blocks (chroma_place plane k) ≡ chroma_nc slice before blocks plane k
    unfolding nc_at
    chroma_nc_at =
        rw (ne_eqb (chroma_place plane k) 0 (λ e. omega (arith, e)), le-ltb (chroma_place plane k) 17 (omega arith), le-ltb (chroma_place plane k) 19 (omega arith))
        (ap₂ (λ (x y : ℕ). chroma_nc slice before blocks x y) plane_back block_back)

    pub chroma_most : most_levels kind (chroma_place plane k) ≡ 15
    unfolding most_levels
    chroma_most = rw (ne_eqb (chroma_place plane k) 0 (λ e. omega (arith, e)), le-ltb (chroma_place plane k) 17 (omega arith), le-ltb (chroma_place plane k) 19 (omega arith)) refl

-- counts

pub luma_so_far : (behind read : List (List ℤ)) (counts : List ℕ) (end : ℕ) → length behind ≡ 1 → AreTotals read counts end → IsLumaSoFar (behind ++ read) counts end
luma_so_far behind read counts end one are block below =
    are block below ∙ ap total_coeff (sym (get_or-append-add behind read block []) ∙ ap (λ (n : ℕ). get_or (behind ++ read) (n + block) []) one)

pub chroma_so_far : (behind read : List (List ℤ)) (plane : ℕ) (counts : List ℕ) (end : ℕ) → length behind ≡ 19 + 4 * plane → AreTotals read counts end → IsChromaSoFar (behind ++ read) plane counts end
chroma_so_far behind read plane counts end at are block below =
    are block below ∙ ap total_coeff (sym (get_or-append-add behind read block []) ∙ ap (λ (n : ℕ). get_or (behind ++ read) (n + block) []) at)

module _ (slice : Slice) (before : List Macroblock) (kind : MbKind) (behind : List (List ℤ)) (k : ℕ) where
  module _ (few : k < 16) (at : length behind ≡ 1 + k) where
    pub luma_coded_at : pattern_of kind / 2 ^ (k / 4) % 2 ≡ 1 → is_coded kind (length behind) ≡ true
    luma_coded_at e = ap (is_coded kind) at ∙ luma_coded slice before kind behind k few ∙ eq-eqb (pattern_of kind / 2 ^ (k / 4) % 2) 1 e

    pub luma_uncoded_at : pattern_of kind / 2 ^ (k / 4) % 2 ≢ 1 → is_coded kind (length behind) ≡ false
    luma_uncoded_at n = ap (is_coded kind) at ∙ luma_coded slice before kind behind k few ∙ ne_eqb (pattern_of kind / 2 ^ (k / 4) % 2) 1 n

    pub luma_nc_is : luma_nc slice before behind k ≡ nc_at slice before behind (length behind)
    luma_nc_is = sym (ap (nc_at slice before behind) at ∙ luma_nc_at slice before kind behind k few)

    pub luma_most_is : most_luma kind ≡ most_levels kind (length behind)
    luma_most_is = sym (ap (most_levels kind) at ∙ luma_most slice before kind behind k few)

  module _ (plane : ℕ) (few : k < 4) (at : length behind ≡ chroma_place plane k) where
    pub chroma_coded_at : pattern_of kind / 16 ≡ 2 → is_coded kind (length behind) ≡ true
    chroma_coded_at e = ap (is_coded kind) at ∙ chroma_coded slice before kind behind k plane few ∙ eq-eqb (pattern_of kind / 16) 2 e

    pub chroma_uncoded_at : pattern_of kind / 16 ≢ 2 → is_coded kind (length behind) ≡ false
    chroma_uncoded_at n = ap (is_coded kind) at ∙ chroma_coded slice before kind behind k plane few ∙ ne_eqb (pattern_of kind / 16) 2 n

    pub chroma_nc_is : chroma_nc slice before behind plane k ≡ nc_at slice before behind (length behind)
    chroma_nc_is = sym (ap (nc_at slice before behind) at ∙ chroma_nc_at slice before kind behind k plane few)

    pub chroma_most_is : 15 ≡ most_levels kind (length behind)
    chroma_most_is = sym (ap (most_levels kind) at ∙ chroma_most slice before kind behind k plane few)

-- no level
pub none_of_zeros : 0 ≡ total_coeff (replicate 16 (pos 0))
unfolding nonzero
none_of_zeros = refl

-- the DC blocks of Cb and Cr

module _ (slice : Slice) (before : List Macroblock) (kind : MbKind) (behind : List (List ℤ)) (at : length behind ≡ 17) where
  abbrev IsDc : List ℤ → Type 0
  IsDc = HasSpelling (negsuc 0) 4

  abbrev dc_bits : List ℤ → List Bool
  dc_bits = block_bits (negsuc 0) 4

  longer : (v : List ℤ) → length (behind ++ v ∷ []) ≡ 18
  longer v = length-append behind (v ∷ []) ∙ ap (λ (n : ℕ). n + 1) at

  module _ (some : 16 ≤ pattern_of kind) where
    coded_at : (k : ℕ) (blocks : List (List ℤ)) → k < 2 → length blocks ≡ 17 + k → is_coded kind (length blocks) ≡ true
    coded_at k blocks two e = ap (is_coded kind) e ∙ dc_coded slice before kind blocks k two ∙ le-leb 1 (pattern_of kind / 16) (omega arith)

    nc_is : (k : ℕ) (blocks : List (List ℤ)) → k < 2 → length blocks ≡ 17 + k → negsuc 0 ≡ nc_at slice before blocks (length blocks)
    nc_is k blocks two e = sym (ap (nc_at slice before blocks) e ∙ dc_nc_at slice before kind blocks k two)

    most_is : (k : ℕ) (blocks : List (List ℤ)) → k < 2 → length blocks ≡ 17 + k → 4 ≡ most_levels kind (length blocks)
    most_is k blocks two e = sym (ap (most_levels kind) e ∙ dc_most slice before kind blocks k two)

    dc_is : (k : ℕ) (blocks : List (List ℤ)) → k < 2 → length blocks ≡ 17 + k → (block : List ℤ) (old new : List Bool) → IsDc block × (old ≡ dc_bits block ++ new)
        → IsNextBlock slice before kind blocks block × (old ≡ next_block_bits slice before kind blocks block ++ new)
    dc_is k blocks two e = coded_is slice before kind blocks (negsuc 0) 4 (coded_at k blocks two e) (nc_is k blocks two e) (most_is k blocks two e)

    dc_none : (k : ℕ) (blocks : List (List ℤ)) → k < 2 → length blocks ≡ 17 + k → (old : List Bool) → BeginsNone IsDc dc_bits old → BeginsNone (IsNextBlock slice before kind blocks) (next_block_bits slice before kind blocks) old
    dc_none k blocks two e = coded_none slice before kind blocks (negsuc 0) 4 (coded_at k blocks two e) (nc_is k blocks two e) (most_is k blocks two e)

    pub dc_first_none : (old : List Bool) → BeginsNone IsDc dc_bits old → BeginsNone (AreNext slice before kind behind 2) (bits_behind slice before kind behind) old
    dc_first_none old none = none_first slice before kind behind 2 (omega arith) old (dc_none 0 behind (omega arith) at old none)

    module _ (v : List ℤ) (old mid : List Bool) (h : IsDc v × (old ≡ dc_bits v ++ mid)) where
      first_is : IsNextBlock slice before kind behind v × (old ≡ next_block_bits slice before kind behind v ++ mid)
      first_is = dc_is 0 behind (omega arith) at v old mid h

      first_read : old ≡ bits_behind slice before kind behind (v ∷ []) ++ mid
      first_read = first_is.1 ∙ ap (λ (x : List Bool). x ++ mid) (single_bits slice before kind behind v)

      pub dc_second_none : BeginsNone IsDc dc_bits mid → BeginsNone (AreNext slice before kind behind 2) (bits_behind slice before kind behind) old
      dc_second_none none =
          none_second slice before kind behind (v ∷ []) 1 1 2 old mid (omega arith) (single slice before kind behind v first_is.0) first_read
          (none_first slice before kind (behind ++ v ∷ []) 1 (omega arith) mid (dc_none 1 (behind ++ v ∷ []) (omega arith) (longer v) mid none))

      pub dc_both : (w : List ℤ) (new : List Bool) → IsDc w × (mid ≡ dc_bits w ++ new)
          → AreNext slice before kind behind 2 (v ∷ w ∷ []) × (old ≡ bits_behind slice before kind behind (v ∷ w ∷ []) ++ new)
      dc_both w new k =
          let second = dc_is 1 (behind ++ v ∷ []) (omega arith) (longer v) w mid new k in (
            both_next slice before kind behind (v ∷ []) (w ∷ []) 1 1 (single slice before kind behind v first_is.0) (single slice before kind (behind ++ v ∷ []) w second.0),
            both_read slice before kind behind (v ∷ []) (w ∷ []) old mid new first_read (second.1 ∙ ap (λ (x : List Bool). x ++ new) (single_bits slice before kind (behind ++ v ∷ []) w)),
          )

  pub dc_neither : pattern_of kind < 16 → (z : List ℤ) → z ≡ replicate 16 (pos 0) → (old : List Bool) → AreNext slice before kind behind 2 (z ∷ z ∷ []) × (old ≡ bits_behind slice before kind behind (z ∷ z ∷ []) ++ old)
  dc_neither few z zeros old =
      let uncoded_at : (k : ℕ) (blocks : List (List ℤ)) → k < 2 → length blocks ≡ 17 + k → is_coded kind (length blocks) ≡ false =
      λ k blocks two e. ap (is_coded kind) e ∙ dc_coded slice before kind blocks k two ∙ lt-leb 1 (pattern_of kind / 16) (omega arith) in
      let first = uncoded_is slice before kind behind (uncoded_at 0 behind (omega arith) at) z zeros old in
      let second = uncoded_is slice before kind (behind ++ z ∷ []) (uncoded_at 1 (behind ++ z ∷ []) (omega arith) (longer z)) z zeros old in (
        both_next slice before kind behind (z ∷ []) (z ∷ []) 1 1 (single slice before kind behind z first.0) (single slice before kind (behind ++ z ∷ []) z second.0),
        both_read slice before kind behind (z ∷ []) (z ∷ []) old old old (first.1 ∙ ap (λ (x : List Bool). x ++ old) (single_bits slice before kind behind z))
            (second.1 ∙ ap (λ (x : List Bool). x ++ old) (single_bits slice before kind (behind ++ z ∷ []) z)),
      )

-- they are written

module _ (slice : Slice) (before : List Macroblock) (kind : MbKind) (behind : List (List ℤ)) (at : length behind ≡ 17) (v w : List ℤ) (are : AreNext slice before kind behind 2 (v ∷ w ∷ [])) where
  first_next : IsNextBlock slice before kind behind v
  unfolding AreInTurn
  first_next = are.each.0

  second_next : IsNextBlock slice before kind (behind ++ v ∷ []) w
  unfolding AreInTurn
  second_next = are.each.1.0

  pair_bits : bits_behind slice before kind behind (v ∷ w ∷ []) ≡ next_block_bits slice before kind behind v ++ next_block_bits slice before kind (behind ++ v ∷ []) w
  unfolding in_turn
  pair_bits = ap (λ (x : List Bool). next_block_bits slice before kind behind v ++ x) (append-nil (next_block_bits slice before kind (behind ++ v ∷ []) w))

  its_place : length (behind ++ v ∷ []) ≡ 18
  its_place = length-append behind (v ∷ []) ∙ ap (λ (n : ℕ). n + 1) at

  module _ (some : 16 ≤ pattern_of kind) where
    coded_1 : is_coded kind (length behind) ≡ true
    coded_1 = ap (is_coded kind) at ∙ dc_coded slice before kind behind 0 (omega arith) ∙ le-leb 1 (pattern_of kind / 16) (omega arith)

    coded_2 : is_coded kind (length (behind ++ v ∷ [])) ≡ true
    coded_2 = ap (is_coded kind) its_place ∙ dc_coded slice before kind behind 1 (omega arith) ∙ le-leb 1 (pattern_of kind / 16) (omega arith)

    nc_1 : negsuc 0 ≡ nc_at slice before behind (length behind)
    nc_1 = sym (ap (nc_at slice before behind) at ∙ dc_nc_at slice before kind behind 0 (omega arith))

    nc_2 : negsuc 0 ≡ nc_at slice before (behind ++ v ∷ []) (length (behind ++ v ∷ []))
    nc_2 = sym (ap (nc_at slice before (behind ++ v ∷ [])) its_place ∙ dc_nc_at slice before kind (behind ++ v ∷ []) 1 (omega arith))

    most_1 : 4 ≡ most_levels kind (length behind)
    most_1 = sym (ap (most_levels kind) at ∙ dc_most slice before kind behind 0 (omega arith))

    most_2 : 4 ≡ most_levels kind (length (behind ++ v ∷ []))
    most_2 = sym (ap (most_levels kind) its_place ∙ dc_most slice before kind behind 1 (omega arith))

    pub dc_first_spelling : HasSpelling (negsuc 0) 4 v
    dc_first_spelling = its_spelling slice before kind behind (negsuc 0) 4 coded_1 nc_1 most_1 v first_next

    pub dc_second_spelling : HasSpelling (negsuc 0) 4 w
    dc_second_spelling = its_spelling slice before kind (behind ++ v ∷ []) (negsuc 0) 4 coded_2 nc_2 most_2 w second_next

    pub dc_bits_are : block_bits (negsuc 0) 4 v ++ block_bits (negsuc 0) 4 w ≡ bits_behind slice before kind behind (v ∷ w ∷ [])
    dc_bits_are = ap₂ (λ (x y : List Bool). x ++ y) (its_bits slice before kind behind (negsuc 0) 4 coded_1 nc_1 most_1 v) (its_bits slice before kind (behind ++ v ∷ []) (negsuc 0) 4 coded_2 nc_2 most_2 w) ∙ sym pair_bits

  pub dc_unwritten : pattern_of kind < 16 → [] ≡ bits_behind slice before kind behind (v ∷ w ∷ [])
  dc_unwritten few =
      let none : is_coded kind (length behind) ≡ false = ap (is_coded kind) at ∙ dc_coded slice before kind behind 0 (omega arith) ∙ lt-leb 1 (pattern_of kind / 16) (omega arith) in
      let none_2 : is_coded kind (length (behind ++ v ∷ [])) ≡ false = ap (is_coded kind) its_place ∙ dc_coded slice before kind behind 1 (omega arith) ∙ lt-leb 1 (pattern_of kind / 16) (omega arith) in
      sym (pair_bits ∙ ap₂ (λ (x y : List Bool). x ++ y) (uncoded_bits slice before kind behind v none) (uncoded_bits slice before kind (behind ++ v ∷ []) w none_2))

-- A block of four levels at most is its first four, and zeros.

all_zeros : (n : ℕ) (c : List ℤ) → length c ≡ n → ((place : ℕ) → get_or c place (pos 0) ≡ pos 0) → c ≡ replicate n (pos 0)
all_zeros zero [] l h = refl
all_zeros zero (x ∷ c) l h = absurd (omega (arith, l))
all_zeros (suc n) [] l h = absurd (omega (arith, l))
all_zeros (suc n) (x ∷ c) l h = ap₂ (λ (y : ℤ) (ys : List ℤ). y ∷ ys) (h 0) (all_zeros n c (omega (arith, l)) (λ place. h (suc place)))

four_levels : (c : List ℤ) → length c ≡ 16 → ((place : ℕ) → 4 ≤ place → get_or c place (pos 0) ≡ pos 0)
    → get_or c 0 (pos 0) ∷ get_or c 1 (pos 0) ∷ get_or c 2 (pos 0) ∷ get_or c 3 (pos 0) ∷ replicate 12 (pos 0) ≡ c
four_levels [] l h = absurd (omega (arith, l))
four_levels (a ∷ []) l h = absurd (omega (arith, l))
four_levels (a ∷ b ∷ []) l h = absurd (omega (arith, l))
four_levels (a ∷ b ∷ d ∷ []) l h = absurd (omega (arith, l))
four_levels (a ∷ b ∷ d ∷ e ∷ rest) l h = ap (λ (r : List ℤ). a ∷ b ∷ d ∷ e ∷ r) (sym (all_zeros 12 rest (omega (arith, l)) (λ place. h (suc (suc (suc (suc place)))) (omega arith))))

pub dc_whole : (nc : ℤ) (c : List ℤ) → HasSpelling nc 4 c → get_or c 0 (pos 0) ∷ get_or c 1 (pos 0) ∷ get_or c 2 (pos 0) ∷ get_or c 3 (pos 0) ∷ replicate 12 (pos 0) ≡ c
dc_whole nc c h = four_levels c h.size h.beyond

-- One more block of a list is read, and its levels are counted.

pub taken : (items : List Levels) (k : ℕ) (block : Levels) → k < length items → take (k + 1) (map block_of (set items k block)) ≡ take k (map block_of items) ++ block_of block ∷ []
taken items k block inside =
    ap (λ (xs : List (List ℤ)). take (k + 1) xs) (map-set block_of items k block)
    ∙ take_more_set (map block_of items) k (block_of block) (omega (arith, length-map items block_of))

pub length-taken : (items : List Levels) (k : ℕ) → k < length items → length (take k (map block_of items)) ≡ k
length-taken items k inside = length-take-le k (map block_of items) (omega (arith, length-map items block_of))

pub all_taken : (items : List Levels) (k : ℕ) → length items ≤ k → take k (map block_of items) ≡ map block_of items
all_taken items k all = take_all k (map block_of items) (omega (arith, length-map items block_of))

pub totals_more : (read : List (List ℤ)) (counts : List ℕ) (k total : ℕ) (block : List ℤ) → AreTotals read counts k → length read ≡ k → k < length counts → total ≡ total_coeff block
    → AreTotals (read ++ block ∷ []) (set counts k total) (k + 1)
totals_more read counts k total block are long inside is b below =
    elim (cases_lt b k) [
      | inl h ↦ get_or-set_other counts k b total 0 (λ e. omega (arith, e)) ∙ are b h ∙ ap total_coeff (sym (get_or_append_left read (block ∷ []) [] b (omega (arith, long))))
      | inr h ↦
          let here : k ≡ b = omega arith in
          subst (λ (x : ℕ). get_or (set counts k total) x 0 ≡ total_at (read ++ block ∷ []) x) here
          (get_or-set_same counts k total 0 inside ∙ is ∙ ap total_coeff (sym (get_or-append_seam read block [] []) ∙ ap (λ (n : ℕ). get_or (read ++ block ∷ []) n []) long))
    ]

pub counted_all : (items : List Levels) (counts : List ℕ) (k count : ℕ) → length items ≡ count → count ≤ k → AreTotals (take k (map block_of items)) counts k → AreTotals (map block_of items) counts count
counted_all items counts k count long all are block below =
    subst (λ (xs : List (List ℤ)). get_or counts block 0 ≡ total_at xs block) (all_taken items k (omega arith)) (are block (omega arith))

first_four : (c : List ℤ) → length c ≡ 4 → get_or c 0 (pos 0) ∷ get_or c 1 (pos 0) ∷ get_or c 2 (pos 0) ∷ get_or c 3 (pos 0) ∷ replicate 12 (pos 0) ≡ c ++ replicate 12 (pos 0)
first_four [] l = absurd (omega (arith, l))
first_four (a ∷ []) l = absurd (omega (arith, l))
first_four (a ∷ b ∷ []) l = absurd (omega (arith, l))
first_four (a ∷ b ∷ d ∷ []) l = absurd (omega (arith, l))
first_four (a ∷ b ∷ d ∷ e ∷ []) l = refl
first_four (a ∷ b ∷ d ∷ e ∷ f ∷ rest) l = absurd (omega (arith, l))

pub dc_levels : (c : List ℤ) → length (c ++ replicate 12 (pos 0)) ≡ 16 → get_or c 0 (pos 0) ∷ get_or c 1 (pos 0) ∷ get_or c 2 (pos 0) ∷ get_or c 3 (pos 0) ∷ replicate 12 (pos 0) ≡ c ++ replicate 12 (pos 0)
dc_levels c l = first_four c (omega (arith, l, length-append c (replicate 12 (pos 0))))

pub two_dcs : (levels : List DcLevels) (d : DcLevels) → length levels ≡ 2 → map dc_block levels ≡ dc_block (get_or levels 0 d) ∷ dc_block (get_or levels 1 d) ∷ []
two_dcs [] d l = absurd (omega (arith, l))
two_dcs (x ∷ []) d l = absurd (omega (arith, l))
two_dcs (x ∷ y ∷ []) d l = refl
two_dcs (x ∷ y ∷ z ∷ levels) d l = absurd (omega (arith, l))

-- going over the blocks of a stretch

module _ (slice : Slice) (before : List Macroblock) (kind : MbKind) (behind vs : List (List ℤ)) (count k : ℕ) (are : AreNext slice before kind behind count vs) (below : k < count) where
  pub next_at : IsNextBlock slice before kind (behind ++ take k vs) (get_or vs k [])
  next_at =
      subst (λ (s : List (List ℤ)). IsNextBlock slice before kind s (get_or vs k [])) (behind_is behind (take k vs))
      (is_at (IsNextBlock slice before kind) (next_block_bits slice before kind) block_behind behind vs k [] (omega (arith, are.size)) are.each)

  pub written_at : (start old new : List Bool) → old ≡ start ++ bits_behind slice before kind behind (take k vs) → new ≡ old ++ next_block_bits slice before kind (behind ++ take k vs) (get_or vs k [])
      → new ≡ start ++ bits_behind slice before kind behind (take (k + 1) vs)
  written_at start old new e f =
      written_more (IsNextBlock slice before kind) (next_block_bits slice before kind) block_behind behind vs k [] start old new (omega (arith, are.size)) e
      (f ∙ ap (λ (s : List (List ℤ)). old ++ next_block_bits slice before kind s (get_or vs k [])) (sym (behind_is behind (take k vs))))

pub nothing_written : (slice : Slice) (before : List Macroblock) (kind : MbKind) (behind : List (List ℤ)) (old : List Bool) → old ≡ old ++ bits_behind slice before kind behind []
unfolding in_turn
nothing_written slice before kind behind old = sym (append-nil old)

pub totals_next : (vs : List (List ℤ)) (counts : List ℕ) (k total : ℕ) → AreTotals (take k vs) counts k → k < length vs → k < length counts → total ≡ total_coeff (get_or vs k []) → AreTotals (take (k + 1) vs) (set counts k total) (k + 1)
totals_next vs counts k total are inside room is =
    subst (λ (xs : List (List ℤ)). AreTotals xs (set counts k total) (k + 1)) (sym (take_more vs k [] inside))
    (totals_more (take k vs) counts k total (get_or vs k []) are (length-take-le k vs (omega (arith, inside))) room is)

-- counting

module _ (block : List ℤ) (i : ℕ) (inside : i < length block) where
  pub count_zero : get_or block i (pos 0) ≡ pos 0 → length (nonzero (drop i block)) ≡ length (nonzero (drop (i + 1) block))
  count_zero e = ap (λ (x : List ℤ). length (nonzero x)) (drop_more block i (pos 0) inside ∙ ap (λ (x : ℤ). x ∷ drop (i + 1) block) e) ∙ ap length (nonzero-zero (drop (i + 1) block))

  pub count_level : get_or block i (pos 0) ≢ pos 0 → length (nonzero (drop i block)) ≡ suc (length (nonzero (drop (i + 1) block)))
  count_level n = ap length (nonzero_at block i inside n)

pub count_all : (block : List ℤ) (i total : ℕ) → length block ≤ i → length (nonzero block) ≡ total + length (nonzero (drop i block)) → total ≡ total_coeff block
unfolding nonzero
count_all block i total all e =
    let none : length (nonzero (drop i block)) ≡ 0 = ap (λ (x : List ℤ). length (nonzero x)) (drop_all i block all) in
    let same : total_coeff block ≡ length (nonzero block) = length-levels block in
    omega (arith, none, same, e)
