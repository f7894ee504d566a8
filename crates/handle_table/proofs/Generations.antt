-- The names that a table has given, by its slots.
use Rattle.std.proofs.Common.{◌≡◌, ◌⊎◌, ℕ, ◌+◌, ◌<◌, ◌≤◌, List, [], ◌∷◌, ◌++◌, length, set, slice_index, sum, sum_by, map, refl, sym, ap, ◌∙◌, inl, inr, arith}
use Rattle.std.proofs.Math.ListN.{get_or-map}
use Rattle.std.proofs.Math.Seq.{map-set_same}
use Rattle.std.proofs.lemmas.Bool.{cases_eq}
use Rattle.std.proofs.lemmas.List.{get_or-set_same, get_or-set_other}
use Rattle.std.proofs.lemmas.List.Sums.{sum_by-cons, sum_by-set, sum_by-append}
use Rattle.handle_table.specs.Name.{generation_of, index_of}
use Rattle.handle_table.specs.Given.{AreNames}
use Rattle.handle_table.specs.Slots.{slot_at, used_of}
use Rattle.handle_table.proofs.GivenNames.{AreNames-more}
use Rattle.handle_table.proofs.SoundSlots.{slot_at-opened}
use Rattle.handle_table.specs.declared.slot.Slot.{Slot}
use Rattle.handle_table.specs.declared.slot.Slot.TheVariants.{Vacant, Live}

pub sum-map : {X : Type 0} (f : X → ℕ) (xs : List X) → sum (map f xs) ≡ sum_by f xs
sum-map f [] = refl
sum-map f (x ∷ xs) = omega (arith, sum_by-cons (λ n. n) (f x) (map f xs), sum_by-cons f x xs, sum-map f xs)

pub slice_index-map : (slots : List Slot) (i : ℕ) → slice_index (map used_of slots) i ≡ used_of (slot_at slots i)
slice_index-map slots i = get_or-map used_of slots i (Vacant 0)

-- the same slots, but for some at the end at which no name was given
pub record SameSlots (old new : List Slot) : Type 0 where
  pub at : (i : ℕ) → slot_at new i ≡ slot_at old i
  pub given : sum_by used_of new ≡ sum_by used_of old

pub SameSlots-opened : (old new : List Slot) → (new ≡ old) ⊎ (new ≡ old ++ Vacant 0 ∷ []) → SameSlots old new
SameSlots-opened old new opened =
    elim opened [
      | inl same ↦ rw same (record { at = λ i. refl; given = refl })
      | inr more ↦ rw more (record { at = slot_at-opened old; given = omega (arith, sum_by-append used_of old (Vacant 0 ∷ []), sum_by-cons used_of (Vacant 0) []) })
    ]

-- A name of the next generation is given at a slot.
pub AreNames-filled : (old slots : List Slot) (i generation name key : ℕ) → SameSlots old slots → i < length slots → slot_at slots i ≡ Vacant generation → index_of name ≡ i → generation_of name ≡ generation
    → (names : List ℕ) → AreNames (map used_of old) names → AreNames (map used_of (set slots i (Live name key))) (names ++ name ∷ [])
AreNames-filled old slots i generation name key same within vacant is_index is_generation names were =
    let old_is : used_of (slot_at old i) ≡ generation = ap used_of (sym (same.at i) ∙ vacant) in
    let slots_is : used_of (slot_at slots i) ≡ generation = ap used_of vacant in
    let next : slice_index (map used_of old) (index_of name) ≡ generation_of name =
    slice_index-map old (index_of name) ∙ ap (λ j. used_of (slot_at old j)) is_index ∙ old_is ∙ sym is_generation in
    let now : slice_index (map used_of (set slots i (Live name key))) (index_of name) ≡ generation_of name + 1 =
    slice_index-map (set slots i (Live name key)) (index_of name) ∙ ap (λ j. used_of (slot_at (set slots i (Live name key)) j)) is_index
    ∙ ap used_of (get_or-set_same slots i (Live name key) (Vacant 0) within) in
    let more : sum (map used_of (set slots i (Live name key))) ≡ sum (map used_of old) + 1 =
    omega (arith, sum-map used_of (set slots i (Live name key)), sum-map used_of old, same.given, sum_by-set used_of slots i (Live name key) (Vacant 0) within, slots_is, is_generation) in
    AreNames-more (map used_of old) names name next were (map used_of (set slots i (Live name key))) more now kept
  where
    kept : (j : ℕ) → slice_index (map used_of old) j ≤ slice_index (map used_of (set slots i (Live name key))) j
    kept j =
        elim (cases_eq j i) [
          | inl is ↦
              let before : used_of (slot_at old j) ≡ generation = ap (λ k. used_of (slot_at old k)) is ∙ ap used_of (sym (same.at i) ∙ vacant) in
              let after : used_of (slot_at (set slots i (Live name key)) j) ≡ generation_of name + 1 = ap (λ k. used_of (slot_at (set slots i (Live name key)) k)) is ∙ ap used_of (get_or-set_same slots i (Live name key) (Vacant 0) within) in
              omega (arith, slice_index-map old j, slice_index-map (set slots i (Live name key)) j, before, after, is_generation)
          | inr differs ↦
              let after : used_of (slot_at (set slots i (Live name key)) j) ≡ used_of (slot_at old j) = ap used_of (get_or-set_other slots i j (Live name key) (Vacant 0) differs ∙ same.at j) in
              omega (arith, slice_index-map old j, slice_index-map (set slots i (Live name key)) j, after)
        ]

-- A name that goes has been given all the same.
pub generations-emptied : (slots : List Slot) (i name key : ℕ) → slot_at slots i ≡ Live name key → map used_of (set slots i (Vacant (generation_of name + 1))) ≡ map used_of slots
generations-emptied slots i name key live = map-set_same used_of slots i (Vacant (generation_of name + 1)) (Vacant 0) (sym (ap used_of live))
