-- Which kinds can be drawn: those that have a spelling in their slice.
use Rattle.std.proofs.Common.{◌≡◌, ℕ, zero, suc, ◌+◌, ◌-◌, ◌*◌, ◌/◌, ◌%◌, ◌^◌, ◌<◌, ◌≤◌, IsTrue, List, [], ◌∷◌, length, get_or, take, drop, replicate, ℤ, pos, unsigned_abs, ◌-ℤ◌, refl, sym, ap, ◌∙◌, subst, arith, inl, inr, ◌⊎◌, ◌==◌, nat_lt}
use Rattle.std.proofs.lemmas.Int.{ints}
use Rattle.std.proofs.lemmas.Bool.Decides.{nat_tests}
use Rattle.std.proofs.lemmas.List.{drop_at, get_or-replicate, length-append, length-replicate, take_at}
use Rattle.std.proofs.lemmas.List.Elements.{All-cons, All-nil}
use Rattle.std.specs.List.{All}
use Rattle.cb_types.specs.declared.macroblock.MbKind.{MbKind}
use Rattle.cb_types.specs.declared.macroblock.MbKind.TheVariants.{Skip, Pcm, Intra4, Intra16, Whole, Wide, Tall, Four, FourFirst}
use Rattle.cb_types.specs.declared.macroblock.Mode.TheVariants.{Predicted, Remaining}
use Rattle.cb_types.specs.declared.macroblock.Part.{Part}
use Rattle.cb_types.specs.declared.macroblock.Vector.{Vector}
use Rattle.mb_syntax.specs.Kinds.{sub_parts}
use Rattle.mb_syntax.specs.Prediction.{IsFirstSub, IsIntra16, IsKind, IsMode, IsPart, IsReference, IsSub, IsVector, IsZeroVector}
use Rattle.mb_syntax.specs.declared.slice.Slice.{Slice}
use Rattle.slice_header.specs.Lists.{padded}
use Rattle.cb_maker.specs.Draws.{Drawn, Made, draw, draw_around, each_below, next_state}
use Rattle.cb_maker.specs.Kinds.{drawn_chroma_mode, drawn_deltas, drawn_four, drawn_four_first, drawn_in_i, drawn_in_p, drawn_intra16, drawn_intra16_mode, drawn_intra4, drawn_kind, drawn_mode, drawn_parts, drawn_pcm, drawn_reference, drawn_sub, drawn_sub_kind, drawn_tall, drawn_vector, drawn_whole, drawn_wide, has_all, has_both}
use Rattle.cb_maker.proofs.Giving.{AreAll, AreBelow, Gives, gives_all, gives_below, gives_either, gives_made, gives_then}

abbrev pub IsBelow : ℕ → ℕ → Type 0
IsBelow n v = v < n

pub gives_draw : (n : ℕ) → 1 ≤ n → Gives (draw n) (IsBelow n)
unfolding draw
gives_draw n some x = let below : next_state x / 2 ^ 33 % n < n = omega (arith, some) in below

abbrev pub IsAround : ℕ → ℤ → Type 0
IsAround most v = unsigned_abs v ≤ most

around : (most v : ℕ) → v < 2 * most + 1 → unsigned_abs (pos v -ℤ pos most) ≤ most
around most v h = omega (arith, ints)

pub gives_around : (most : ℕ) → Gives (draw_around most) (IsAround most)
unfolding draw_around
gives_around most = gives_then (draw (2 * most + 1)) _ (IsBelow (2 * most + 1)) (IsAround most) (gives_draw (2 * most + 1) (omega arith))
    (λ v h. gives_made (pos v -ℤ pos most) (IsAround most) (around most v h))

-- ---- intra kinds

module _ (slice : Slice) (mb : ℕ) where
  gives_mode : (block : ℕ) → Gives (drawn_mode slice mb block) IsMode
  unfolding drawn_mode
  gives_mode block = gives_either (has_both slice mb block) _ _ IsMode
      (λ _. gives_then (draw 2) _ (IsBelow 2) IsMode (gives_draw 2 (omega arith))
      (λ remains _. gives_either (remains == 0) _ _ IsMode (λ _. gives_made Predicted IsMode tt)
      (λ _. gives_then (draw 8) _ (IsBelow 8) IsMode (gives_draw 8 (omega arith)) (λ mode h. gives_made (Remaining mode) IsMode h))))
      (λ _. gives_made Predicted IsMode tt)

  gives_chroma : Gives (drawn_chroma_mode slice mb) (IsBelow 4)
  unfolding drawn_chroma_mode
  gives_chroma = gives_either (has_all slice mb) _ _ (IsBelow 4) (λ _. gives_draw 4 (omega arith)) (λ _. gives_made 0 (IsBelow 4) (omega arith))

  gives_intra16_mode : Gives (drawn_intra16_mode slice mb) (IsBelow 4)
  unfolding drawn_intra16_mode
  gives_intra16_mode = gives_either (has_all slice mb) _ _ (IsBelow 4) (λ _. gives_draw 4 (omega arith)) (λ _. gives_made 2 (IsBelow 4) (omega arith))

  gives_intra4 : Gives (drawn_intra4 slice mb) (IsKind slice)
  unfolding drawn_intra4
  gives_intra4 = gives_then (each_below 16 _) _ (AreAll IsMode 16) (IsKind slice) (gives_all 16 _ IsMode gives_mode)
      (λ modes are. gives_then (drawn_chroma_mode slice mb) _ (IsBelow 4) (IsKind slice) gives_chroma
      (λ chroma few. gives_then (draw 48) _ (IsBelow 48) (IsKind slice) (gives_draw 48 (omega arith))
      (λ pattern less. gives_made (Intra4 modes chroma pattern) (IsKind slice) (are, omega (arith, few), omega (arith, less)))))

  intra16_is : (mode luma chroma_pattern chroma : ℕ) → mode < 4 → luma < 2 → chroma_pattern < 3 → chroma < 4 → IsIntra16 mode chroma (15 * luma + 16 * chroma_pattern)
  intra16_is mode zero chroma_pattern chroma m l p c =
      record { of_mode = omega (arith, m); of_chroma = omega (arith, c); luma = inl (omega arith); chroma_pattern = omega (arith, p) }
  intra16_is mode (suc zero) chroma_pattern chroma m l p c =
      record { of_mode = omega (arith, m); of_chroma = omega (arith, c); luma = inr (omega arith); chroma_pattern = omega (arith, p) }
  intra16_is mode (suc (suc luma)) chroma_pattern chroma m l p c = absurd (omega (arith, l))

  gives_intra16 : Gives (drawn_intra16 slice mb) (IsKind slice)
  unfolding drawn_intra16
  gives_intra16 = gives_then (drawn_intra16_mode slice mb) _ (IsBelow 4) (IsKind slice) gives_intra16_mode
      (λ mode m. gives_then (draw 2) _ (IsBelow 2) (IsKind slice) (gives_draw 2 (omega arith))
      (λ luma l. gives_then (draw 3) _ (IsBelow 3) (IsKind slice) (gives_draw 3 (omega arith))
      (λ chroma_pattern p. gives_then (drawn_chroma_mode slice mb) _ (IsBelow 4) (IsKind slice) gives_chroma
      (λ chroma c. gives_made (Intra16 mode chroma (15 * luma + 16 * chroma_pattern)) (IsKind slice) (intra16_is mode luma chroma_pattern chroma m l p c)))))

gives_pcm : (slice : Slice) → Gives drawn_pcm (IsKind slice)
unfolding drawn_pcm
gives_pcm slice = gives_then (each_below 384 _) _ (AreAll (IsBelow 256) 384) (IsKind slice) (gives_all 384 _ (IsBelow 256) (λ place. gives_draw 256 (omega arith)))
    (λ samples are. gives_made (Pcm samples) (IsKind slice) are)

-- ---- inter kinds

gives_vector : Gives drawn_vector IsVector
unfolding drawn_vector
gives_vector = gives_then (draw_around 4) _ (IsAround 4) IsVector (gives_around 4)
    (λ x few. gives_then (draw_around 1) _ (IsAround 1) IsVector (gives_around 1)
    (λ y less. gives_made (record { x = x; y = y }) IsVector (record { x = omega (arith, few); y = omega (arith, less) })))

fewer : (x : ℕ) → Gives (draw 3) (IsBelow 4)
fewer _ x = omega (arith, gives_draw 3 (omega arith) x)

gives_sub_kind : (quarter : ℕ) → Gives (drawn_sub_kind quarter) (IsBelow 4)
unfolding drawn_sub_kind
gives_sub_kind quarter = gives_either (quarter == 0) (draw 4) (draw 3) (IsBelow 4) (λ _. gives_draw 4 (omega arith)) (λ _. fewer 0)

-- a sub-macroblock's vectors
record AreDeltas (kind : ℕ) (deltas : List Vector) : Type 0 where
  size : length deltas ≡ 4
  spelled : All IsVector (take (sub_parts kind) deltas)
  others : All IsZeroVector (drop (sub_parts kind) deltas)

abbrev zero_vector : Vector
zero_vector = record { x = pos 0; y = pos 0 }

few_parts : (kind : ℕ) → sub_parts kind ≤ 4
few_parts kind = grind (arith, nat_tests)

padded_deltas : (n : ℕ) (kind : ℕ) (deltas : List Vector) → n ≡ sub_parts kind → length deltas ≡ n → All IsVector deltas → AreDeltas kind (padded 4 zero_vector deltas)
padded_deltas n kind deltas e l h =
    let zeros = replicate (4 - length deltas) zero_vector in
    let fits : length deltas ≤ 4 = omega (arith, few_parts kind, e, l) in
    record {
      size = length-append deltas zeros ∙ ap (λ (k : ℕ). length deltas + k) (length-replicate (4 - length deltas) zero_vector) ∙ omega (arith, fits);
      spelled = subst (λ (s : List Vector). All IsVector s) (sym (take_at deltas zeros (sub_parts kind) (l ∙ e))) h;
      others = subst (λ (s : List Vector). All IsZeroVector s) (sym (drop_at deltas zeros (sub_parts kind) (l ∙ e))) (all_zero (4 - length deltas));
    }
  where
    all_zero : (k : ℕ) → All IsZeroVector (replicate k zero_vector)
    all_zero k i d below =
        subst IsZeroVector (sym (get_or-replicate k i zero_vector d (omega (arith, below, length-replicate k zero_vector)))) (refl, refl)

gives_deltas : (kind : ℕ) → Gives (drawn_deltas kind) (AreDeltas kind)
unfolding drawn_deltas
gives_deltas kind = gives_then (each_below (sub_parts kind) _) _ (AreAll IsVector (sub_parts kind)) (AreDeltas kind) (gives_all (sub_parts kind) _ IsVector (λ part. gives_vector))
    (λ deltas are. gives_made (padded 4 zero_vector deltas) (AreDeltas kind) (padded_deltas (sub_parts kind) kind deltas refl are.0 are.1))

module _ (slice : Slice) (some : 1 ≤ slice.active) where
  gives_reference : Gives (drawn_reference slice) (IsReference slice)
  unfolding drawn_reference
  gives_reference = gives_draw slice.active some

  gives_sub : (kind reference : ℕ) → kind < 4 → reference < slice.active → Gives (drawn_sub kind reference) (λ sub. IsSub slice sub × (sub.reference ≡ reference))
  unfolding drawn_sub
  gives_sub kind reference k r = gives_then (drawn_deltas kind) _ (AreDeltas kind) (λ sub. IsSub slice sub × (sub.reference ≡ reference)) (gives_deltas kind)
      (λ deltas are. gives_made (record { reference = reference; kind = kind; deltas = deltas }) (λ sub. IsSub slice sub × (sub.reference ≡ reference))
      (record { kind = omega (arith, k); reference = r; size = are.size; spelled = are.spelled; others = are.others }, refl))

  gives_whole : IsTrue slice.is_p → Gives (drawn_whole slice) (IsKind slice)
  unfolding drawn_whole
  gives_whole p = gives_then (drawn_reference slice) _ (IsReference slice) (IsKind slice) gives_reference
      (λ reference r. gives_then drawn_vector _ IsVector (IsKind slice) gives_vector
      (λ delta v. gives_then (draw 48) _ (IsBelow 48) (IsKind slice) (gives_draw 48 (omega arith))
      (λ pattern less. gives_made (Whole (record { reference = reference; delta = delta }) pattern) (IsKind slice) (p, record { reference = r; delta = v }, omega (arith, less)))))

  abbrev ArePair : List Part → Type 0
  ArePair parts = AreAll (IsPart slice) 2 parts

  gives_parts : Gives (drawn_parts slice) ArePair
  unfolding drawn_parts
  gives_parts = gives_then (drawn_reference slice) _ (IsReference slice) ArePair gives_reference
      (λ reference r. gives_then (drawn_reference slice) _ (IsReference slice) ArePair gives_reference
      (λ other_reference s. gives_then drawn_vector _ IsVector ArePair gives_vector
      (λ delta v. gives_then drawn_vector _ IsVector ArePair gives_vector
      (λ other_delta w. let one : Part = record { reference = reference; delta = delta } in
      let other : Part = record { reference = other_reference; delta = other_delta } in
      gives_made (one ∷ other ∷ []) ArePair (
        refl,
        All-cons (IsPart slice) one (other ∷ []) (record { reference = r; delta = v })
            (All-cons (IsPart slice) other [] (record { reference = s; delta = w }) (All-nil (IsPart slice))),
      )))))

  gives_wide : IsTrue slice.is_p → Gives (drawn_wide slice) (IsKind slice)
  unfolding drawn_wide
  gives_wide p = gives_then (drawn_parts slice) _ ArePair (IsKind slice) gives_parts
      (λ parts are. gives_then (draw 48) _ (IsBelow 48) (IsKind slice) (gives_draw 48 (omega arith))
      (λ pattern less. gives_made (Wide parts pattern) (IsKind slice) (p, record { size = are.0; each = are.1; of_pattern = omega (arith, less) })))

  gives_tall : IsTrue slice.is_p → Gives (drawn_tall slice) (IsKind slice)
  unfolding drawn_tall
  gives_tall p = gives_then (drawn_parts slice) _ ArePair (IsKind slice) gives_parts
      (λ parts are. gives_then (draw 48) _ (IsBelow 48) (IsKind slice) (gives_draw 48 (omega arith))
      (λ pattern less. gives_made (Tall parts pattern) (IsKind slice) (p, record { size = are.0; each = are.1; of_pattern = omega (arith, less) })))

  each_all : {A : Type 0} (P Q : A → Type 0) (n : ℕ) (xs : List A) → AreBelow (λ k. P) n xs → ((x : A) → P x → Q x) → All Q xs
  each_all P Q n xs h weaker i d below = weaker (get_or xs i d) (h.each i d (omega (arith, below, h.size)))

  gives_four : IsTrue slice.is_p → Gives (drawn_four slice) (IsKind slice)
  unfolding drawn_four
  gives_four p = gives_then (each_below 4 drawn_sub_kind) _ (AreAll (IsBelow 4) 4) (IsKind slice) (gives_all 4 drawn_sub_kind (IsBelow 4) gives_sub_kind)
      (λ kinds k. gives_then (each_below 4 _) _ (AreAll (IsReference slice) 4) (IsKind slice) (gives_all 4 _ (IsReference slice) (λ quarter. gives_reference))
      (λ references r. gives_then (each_below 4 _) _ (AreBelow (λ quarter. IsSub slice) 4) (IsKind slice)
      (gives_below 4 _ (λ quarter. IsSub slice) (λ quarter below x.
      (gives_sub (get_or kinds quarter 0) (get_or references quarter 0) (k.1 quarter 0 (omega (arith, below, k.0))) (r.1 quarter 0 (omega (arith, below, r.0))) x).0))
      (λ subs s. gives_then (draw 48) _ (IsBelow 48) (IsKind slice) (gives_draw 48 (omega arith))
      (λ pattern less. gives_made (Four subs pattern) (IsKind slice) (p, s.size, each_all (IsSub slice) (IsSub slice) 4 subs s (λ sub is. is), omega (arith, less))))))

  gives_four_first : IsTrue slice.is_p → Gives drawn_four_first (IsKind slice)
  unfolding drawn_four_first
  gives_four_first p = gives_then (each_below 4 drawn_sub_kind) _ (AreAll (IsBelow 4) 4) (IsKind slice) (gives_all 4 drawn_sub_kind (IsBelow 4) gives_sub_kind)
      (λ kinds k. gives_then (each_below 4 _) _ (AreBelow (λ quarter. IsFirstSub slice) 4) (IsKind slice)
      (gives_below 4 _ (λ quarter. IsFirstSub slice) (λ quarter below x.
      let sub = gives_sub (get_or kinds quarter 0) 0 (k.1 quarter 0 (omega (arith, below, k.0))) some x in
      record { spelling = sub.0; first = sub.1 }))
      (λ subs s. gives_then (draw 48) _ (IsBelow 48) (IsKind slice) (gives_draw 48 (omega arith))
      (λ pattern less. gives_made (FourFirst subs pattern) (IsKind slice) (p, s.size, each_all (IsFirstSub slice) (IsFirstSub slice) 4 subs s (λ sub is. is), omega (arith, less)))))

-- ---- all kinds

-- a kind of the slice: a skipped macroblock in a P slice, or one that has a spelling
abbrev pub IsAnyKind : Slice → MbKind → Type 0
IsAnyKind slice kind = (IsTrue slice.is_p × (kind ≡ Skip)) ⊎ IsKind slice kind

coded : (slice : Slice) (one : Drawn MbKind) → Gives one (IsKind slice) → Gives one (IsAnyKind slice)
coded slice one h x = inr (h x)

module _ (slice : Slice) (some : 1 ≤ slice.active) (mb : ℕ) where
  gives_in_i : (number : ℕ) → Gives (drawn_in_i slice mb number) (IsAnyKind slice)
  unfolding drawn_in_i
  gives_in_i number = gives_either (number == 0) drawn_pcm _ (IsAnyKind slice) (λ _. coded slice drawn_pcm (gives_pcm slice))
      (λ _. gives_either (nat_lt number 10) (drawn_intra16 slice mb) (drawn_intra4 slice mb) (IsAnyKind slice)
      (λ _. coded slice (drawn_intra16 slice mb) (gives_intra16 slice mb)) (λ _. coded slice (drawn_intra4 slice mb) (gives_intra4 slice mb)))

  gives_in_p : IsTrue slice.is_p → (number : ℕ) → Gives (drawn_in_p slice mb number) (IsAnyKind slice)
  unfolding drawn_in_p
  gives_in_p p number =
      gives_either (nat_lt number 7) (Made Skip) _ (IsAnyKind slice) (λ _. gives_made Skip (IsAnyKind slice) (inl (p, refl)))
      (λ _. gives_either (nat_lt number 10) (drawn_whole slice) _ (IsAnyKind slice) (λ _. coded slice (drawn_whole slice) (gives_whole slice some p))
      (λ _. gives_either (nat_lt number 12) (drawn_wide slice) _ (IsAnyKind slice) (λ _. coded slice (drawn_wide slice) (gives_wide slice some p))
      (λ _. gives_either (nat_lt number 14) (drawn_tall slice) _ (IsAnyKind slice) (λ _. coded slice (drawn_tall slice) (gives_tall slice some p))
      (λ _. gives_either (nat_lt number 16) (drawn_four slice) _ (IsAnyKind slice) (λ _. coded slice (drawn_four slice) (gives_four slice some p))
      (λ _. gives_either (number == 16) drawn_four_first _ (IsAnyKind slice) (λ _. coded slice drawn_four_first (gives_four_first slice some p))
      (λ _. gives_either (number == 17) (drawn_intra4 slice mb) _ (IsAnyKind slice) (λ _. coded slice (drawn_intra4 slice mb) (gives_intra4 slice mb))
      (λ _. gives_either (number == 18) (drawn_intra16 slice mb) drawn_pcm (IsAnyKind slice) (λ _. coded slice (drawn_intra16 slice mb) (gives_intra16 slice mb))
      (λ _. coded slice drawn_pcm (gives_pcm slice)))))))))

  pub gives_kind : Gives (drawn_kind slice mb) (IsAnyKind slice)
  unfolding drawn_kind
  gives_kind = gives_then (draw 20) _ (IsBelow 20) (IsAnyKind slice) (gives_draw 20 (omega arith))
      (λ number h. gives_either slice.is_p _ _ (IsAnyKind slice) (λ p. gives_in_p p number) (λ _. gives_in_i number))
