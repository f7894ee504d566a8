-- Which blocks can be drawn: such as have a spelling at their place.
use Rattle.std.proofs.Common.{◌≡◌, ℕ, zero, suc, ◌+◌, ◌-◌, ◌<◌, ◌≤◌, ◌==◌, nat_lt, if◌then◌else◌, Bool, true, false, List, [], ◌∷◌, ◌++◌, length, get_or, map, take, replicate, ℤ, pos, negsuc, refl, sym, ap, ◌∙◌, subst, arith}
use Rattle.std.proofs.lemmas.Bool.Decides.{nat_tests}
use Rattle.std.proofs.lemmas.List.{append-nil, length-append, length-map, take_at}
use Rattle.std.specs.List.{flat_map}
use Rattle.cb_tables.specs.CoeffToken as tokens
use Rattle.cavlc.specs.Blocks.{token_list}
use Rattle.cavlc.specs.Turns.{AreInTurn}
use Rattle.cb_types.specs.declared.macroblock.ChromaLevels.{ChromaLevels}
use Rattle.cb_types.specs.declared.macroblock.DcLevels.{DcLevels}
use Rattle.cb_types.specs.declared.macroblock.Levels.{Levels}
use Rattle.cb_types.specs.declared.macroblock.Macroblock.{Macroblock}
use Rattle.cb_types.specs.declared.macroblock.MbKind.{MbKind}
use Rattle.mb_syntax.specs.Blocks.{AreBlocks, IsNextBlock, block_behind, is_coded, most_levels}
use Rattle.mb_syntax.specs.Counts.{block_of, blocks_of, chroma_blocks, chroma_place, dc_block, luma_place, nc_at}
use Rattle.mb_syntax.specs.Kinds.{is_intra16}
use Rattle.mb_syntax.specs.declared.slice.Slice.{Slice}
use Rattle.slice_header.specs.Lists.{padded}
use Rattle.cb_maker.specs.Blocks.{drawn_4x4, drawn_block, drawn_chroma, drawn_dc, drawn_level, drawn_levels, drawn_luma}
use Rattle.cb_maker.specs.Draws.{draw, each_below}
use Rattle.cb_maker.proofs.Giving.{AreAll, AreBelow, Gives, gives_all, gives_below, gives_either, gives_made, gives_then}
use Rattle.cb_maker.proofs.GivenKinds.{IsBelow, gives_around, gives_draw}
use Rattle.cb_maker.proofs.Small.{IsFew, IsSmall, small_spelled}

gives_level : Gives drawn_level IsFew
unfolding drawn_level
gives_level = gives_then (draw 4) _ (IsBelow 4) IsFew (gives_draw 4 (omega arith))
    (λ zeros _. gives_either (zeros == 0) _ _ IsFew (λ _. gives_around 3) (λ _. gives_made (pos 0) IsFew (omega arith)))

gives_levels : (count : ℕ) → Gives (drawn_levels count) (IsSmall count)
unfolding drawn_levels
gives_levels count = gives_then (each_below count _) _ (AreAll IsFew count) (IsSmall count) (gives_all count _ IsFew (λ place. gives_level))
    (λ levels are. gives_made (padded 16 (pos 0) levels) (IsSmall count) (record { front = levels; size = are.0; few = are.1; parts = refl }))

-- lists of Table 9-5 for blocks of 16
sixteen : (b c d : Bool) → 16 ≤ tokens.most_levels (if b then 0 else (if c then 1 else (if d then 2 else 3)))
sixteen true c d = omega arith
sixteen false true d = omega arith
sixteen false false true = omega arith
sixteen false false false = omega arith

sixteen_of : (n : ℕ) → 16 ≤ tokens.most_levels (token_list (pos n))
sixteen_of n = sixteen (nat_lt n 2) (nat_lt n 4) (nat_lt n 8)

few_of : (b : Bool) → (if b then 15 else 16) ≤ 16
few_of true = omega arith
few_of false = omega arith

room_of : (first luma dc sixteens : Bool) (n m k : ℕ) → (if first then 16 else (if luma then (if sixteens then 15 else 16) else (if dc then 4 else 15)))
    ≤ tokens.most_levels (token_list (if first then pos n else (if luma then pos m else (if dc then negsuc 0 else pos k))))
room_of true luma dc sixteens n m k = sixteen_of n
room_of false true dc sixteens n m k = omega (arith, few_of sixteens, sixteen_of m)
room_of false false true sixteens n m k = omega arith
room_of false false false sixteens n m k = omega (arith, sixteen_of k)

-- The block can stand at this place of a macroblock of the kind.
pub record Fits (kind : MbKind) (place : ℕ) (block : List ℤ) : Type 0 where
  pub coded : is_coded kind place ≡ true → IsSmall (most_levels kind place) block
  pub not_coded : is_coded kind place ≡ false → block ≡ replicate 16 (pos 0)

module _ (kind : MbKind) where
  pub gives_block : (place : ℕ) → Gives (drawn_block kind place) (Fits kind place)
  unfolding drawn_block
  gives_block place = gives_either (is_coded kind place) _ _ (Fits kind place)
      (λ c x. record { coded = λ _. gives_levels (most_levels kind place) x; not_coded = λ n. let wrong : true ≡ false = sym c ∙ n in cc })
      (λ n. gives_made (replicate 16 (pos 0)) (Fits kind place) (record { coded = λ c. let wrong : true ≡ false = sym c ∙ n in cc; not_coded = λ _. refl }))

  abbrev pub FitLevels : ℕ → Levels → Type 0
  FitLevels place levels = Fits kind place levels.0

  gives_4x4 : (place : ℕ) → Gives (drawn_4x4 kind place) (FitLevels place)
  gives_4x4 place = gives_then (drawn_block kind place) _ (Fits kind place) (FitLevels place) (gives_block place)
      (λ block fits. gives_made (record { 0 = block }) (FitLevels place) fits)

  pub gives_luma : Gives (each_below 16 (drawn_luma kind)) (AreBelow (λ block. FitLevels (luma_place block)) 16)
  gives_luma = gives_below 16 (drawn_luma kind) (λ block. FitLevels (luma_place block)) (λ block below. gives_4x4 (luma_place block))

  -- the DC levels of Cb or Cr
  pub record FitsDc (plane : ℕ) (dc : DcLevels) : Type 0 where
    pub size : length dc.0 ≡ 4
    pub fits : Fits kind (17 + plane) (dc_block dc)

  four_of : (block : List ℤ) → IsSmall 4 block → (length (take 4 block) ≡ 4) × (take 4 block ++ replicate 12 (pos 0) ≡ block)
  four_of block small =
      let zeros = replicate (16 - length small.front) (pos 0) in
      let front : take 4 block ≡ small.front = ap (take 4) small.parts ∙ take_at small.front zeros 4 small.size in
      (ap length front ∙ small.size, ap (λ (s : List ℤ). s ++ replicate 12 (pos 0)) front ∙ ap (λ (n : ℕ). small.front ++ replicate (16 - n) (pos 0)) (sym small.size) ∙ sym small.parts)

  four_zeros : (block : List ℤ) → block ≡ replicate 16 (pos 0) → (length (take 4 block) ≡ 4) × (take 4 block ++ replicate 12 (pos 0) ≡ block)
  four_zeros block e = (ap (λ (s : List ℤ). length (take 4 s)) e, ap (λ (s : List ℤ). take 4 s ++ replicate 12 (pos 0)) e ∙ sym e)

  four_levels : (plane : ℕ) → plane < 2 → most_levels kind (17 + plane) ≡ 4
  unfolding most_levels
  four_levels zero below = refl
  four_levels (suc zero) below = refl
  four_levels (suc (suc plane)) below = absurd (omega (arith, below))

  dc_fits : (plane : ℕ) (block : List ℤ) (coded : Bool) → plane < 2 → is_coded kind (17 + plane) ≡ coded → Fits kind (17 + plane) block → FitsDc plane (record { 0 = take 4 block })
  dc_fits plane block true below e fits =
      let small = subst (λ (n : ℕ). IsSmall n block) (four_levels plane below) (fits.coded e) in
      let four = four_of block small in
      record { size = four.0; fits = subst (Fits kind (17 + plane)) (sym four.1) fits }
  dc_fits plane block false below e fits =
      let four = four_zeros block (fits.not_coded e) in
      record { size = four.0; fits = subst (Fits kind (17 + plane)) (sym four.1) fits }

  gives_dc : (plane : ℕ) → plane < 2 → Gives (drawn_dc kind plane) (FitsDc plane)
  unfolding drawn_dc
  gives_dc plane below = gives_then (drawn_block kind (17 + plane)) _ (Fits kind (17 + plane)) (FitsDc plane) (gives_block (17 + plane))
      (λ block fits. gives_made (record { 0 = take 4 block }) (FitsDc plane) (dc_fits plane block (is_coded kind (17 + plane)) below refl fits))

  pub gives_dcs : Gives (each_below 2 (drawn_dc kind)) (AreBelow FitsDc 2)
  gives_dcs = gives_below 2 (drawn_dc kind) FitsDc gives_dc

  abbrev pub FitChroma : ℕ → ChromaLevels → Type 0
  FitChroma plane levels = AreBelow (λ block. FitLevels (chroma_place plane block)) 4 levels.0

  gives_plane : (plane : ℕ) → Gives (drawn_chroma kind plane) (FitChroma plane)
  unfolding drawn_chroma
  gives_plane plane = gives_then (each_below 4 _) _ (AreBelow (λ block. FitLevels (chroma_place plane block)) 4) (FitChroma plane)
      (gives_below 4 _ (λ block. FitLevels (chroma_place plane block)) (λ block below. gives_4x4 (chroma_place plane block)))
      (λ blocks are. gives_made (record { 0 = blocks }) (FitChroma plane) are)

  pub gives_chroma : Gives (each_below 2 (drawn_chroma kind)) (AreBelow FitChroma 2)
  gives_chroma = gives_below 2 (drawn_chroma kind) FitChroma (λ plane below. gives_plane plane)

  -- ---- blocks one behind the other

  -- these from a place on
  unfoldable AreFrom : ℕ → List (List ℤ) → Type 0
  AreFrom place [] = Unit {0}
  AreFrom place (block ∷ blocks) = Fits kind place block × AreFrom (suc place) blocks

  from-append : (place : ℕ) (xs ys : List (List ℤ)) → AreFrom place xs → AreFrom (place + length xs) ys → AreFrom place (xs ++ ys)
  unfolding AreFrom
  from-append place [] ys h k = subst (λ (n : ℕ). AreFrom n ys) (omega arith) k
  from-append place (x ∷ xs) ys h k = (h.0, from-append (suc place) xs ys h.1 (subst (λ (n : ℕ). AreFrom n ys) (omega arith) k))

  from_map : {A : Type 0} (f : A → List ℤ) (place : ℕ) (xs : List A) → ((k : ℕ) (d : A) → k < length xs → Fits kind (place + k) (f (get_or xs k d))) → AreFrom place (map f xs)
  unfolding AreFrom
  from_map f place [] h = tt
  from_map f place (x ∷ xs) h = (
    subst (λ (n : ℕ). Fits kind n (f x)) (omega arith) (h 0 x (omega arith)),
    from_map f (suc place) xs (λ k d below. subst (λ (n : ℕ). Fits kind n (f (get_or xs k d))) (omega arith) (h (suc k) d (omega (arith, below)))),
  )

  module _ (slice : Slice) (before : List Macroblock) where
    -- nC of chroma DC is -1, and those blocks alone are of four
    room : (blocks : List (List ℤ)) (place : ℕ) → most_levels kind place ≤ tokens.most_levels (token_list (nc_at slice before blocks place))
    unfolding most_levels nc_at
    room blocks place = room_of (place == 0) (nat_lt place 17) (nat_lt place 19) (is_intra16 kind) _ _ _

    few : (place : ℕ) → most_levels kind place ≤ 16
    unfolding most_levels
    few place = grind (arith, nat_tests)

    next_is : (blocks : List (List ℤ)) (block : List ℤ) → Fits kind (length blocks) block → IsNextBlock slice before kind blocks block
    next_is blocks block fits = record {
      coded = λ c. small_spelled (nc_at slice before blocks (length blocks)) (most_levels kind (length blocks)) block (few (length blocks)) (room blocks (length blocks)) (fits.coded c);
      not_coded = fits.not_coded;
    }

    in_turn : (behind blocks : List (List ℤ)) → AreFrom (length behind) blocks → AreInTurn (IsNextBlock slice before kind) block_behind behind blocks
    unfolding AreFrom AreInTurn
    in_turn behind [] h = tt
    in_turn behind (block ∷ blocks) h =
        (next_is behind block h.0, in_turn (behind ++ block ∷ []) blocks (subst (λ (n : ℕ). AreFrom n blocks) (sym (length-append behind (block ∷ []) ∙ omega arith)) h.1))

    two_planes : (chroma : List ChromaLevels) → AreBelow FitChroma 2 chroma → AreFrom 19 (flat_map chroma_blocks chroma)
    two_planes [] h = absurd (omega (arith, h.size))
    two_planes (cb ∷ []) h = absurd (omega (arith, h.size))
    two_planes (cb ∷ cr ∷ []) h =
        let first = h.each 0 cb (omega arith) in
        let second = h.each 1 cb (omega arith) in
        let of_cb : AreFrom 19 (chroma_blocks cb) = from_map block_of 19 cb.0 (λ k d below. first.each k d (omega (arith, below, first.size))) in
        let of_cr : AreFrom 23 (chroma_blocks cr) = from_map block_of 23 cr.0 (λ k d below. second.each k d (omega (arith, below, second.size))) in
        let end : 19 + length (chroma_blocks cb) ≡ 23 = omega (arith, length-map cb.0 block_of, first.size) in
        let both = from-append 19 (chroma_blocks cb) (chroma_blocks cr) of_cb (subst (λ (n : ℕ). AreFrom n (chroma_blocks cr)) (sym end) of_cr) in
        subst (λ (x : List (List ℤ)). AreFrom 19 (chroma_blocks cb ++ x)) (sym (append-nil (chroma_blocks cr))) both
    two_planes (cb ∷ cr ∷ other ∷ chroma) h = absurd (omega (arith, h.size))

    pub are_blocks : (mb : Macroblock) → mb.kind ≡ kind → Fits kind 0 mb.luma_dc → AreBelow (λ block. FitLevels (luma_place block)) 16 mb.luma → AreBelow FitsDc 2 mb.chroma_dc
        → AreBelow FitChroma 2 mb.chroma → AreBlocks slice before kind (blocks_of mb)
    unfolding AreFrom
    are_blocks mb same dc luma dcs chroma =
        let first : AreFrom 1 (map block_of mb.luma) = from_map block_of 1 mb.luma (λ k d below. luma.each k d (omega (arith, below, luma.size))) in
        let second : AreFrom 17 (map dc_block mb.chroma_dc) = from_map dc_block 17 mb.chroma_dc (λ k d below. (dcs.each k d (omega (arith, below, dcs.size))).fits) in
        let third : AreFrom 19 (flat_map chroma_blocks mb.chroma) = two_planes mb.chroma chroma in
        let size_1 : 1 + length (map block_of mb.luma) ≡ 17 = omega (arith, length-map mb.luma block_of, luma.size) in
        let size_2 : 1 + length (map block_of mb.luma ++ map dc_block mb.chroma_dc) ≡ 19 =
        omega (arith, length-append (map block_of mb.luma) (map dc_block mb.chroma_dc), length-map mb.luma block_of, luma.size, length-map mb.chroma_dc dc_block, dcs.size) in
        let both = from-append 1 (map block_of mb.luma) (map dc_block mb.chroma_dc) first (subst (λ (n : ℕ). AreFrom n (map dc_block mb.chroma_dc)) (sym size_1) second) in
        let all = from-append 1 (map block_of mb.luma ++ map dc_block mb.chroma_dc) (flat_map chroma_blocks mb.chroma) both
        (subst (λ (n : ℕ). AreFrom n (flat_map chroma_blocks mb.chroma)) (sym size_2) third) in
        in_turn [] (blocks_of mb) (dc, all)
