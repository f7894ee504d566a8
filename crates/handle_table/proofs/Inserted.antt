-- What an insert leaves: room was made for the value and for its slot, and then both were filled.
use Rattle.std.proofs.Common.{◌≡◌, ◌⊎◌, ℕ, ◌+◌, ◌^◌, ◌<◌, ◌≤◌, true, List, [], ◌∷◌, ◌++◌, length, set, map, Some, None, Contains, refl, sym, ap, subst, ◌∙◌, inl, inr, length-append, slice_index, arith}
use Rattle.std.proofs.lemmas.Bool.Decides.{nat_tests}
use Rattle.slab.specs.Slab.{Slab, get, slab_len, Updates}
use Rattle.handle_table.specs.Name.{name_of, kind_of, generation_of, index_of}
use Rattle.handle_table.specs.Handles.{Adds, lookup, Updates as Changes}
use Rattle.handle_table.specs.Given.{AreNames}
use Rattle.handle_table.specs.Slots.{slot_at, is_free, used_of, live_in}
use Rattle.handle_table.specs.Sound.{IsSound}
use Rattle.handle_table.proofs.Names.{index_of-name_of, generation_of-name_of, kind_of-name_of}
use Rattle.handle_table.proofs.GivenNames.{AreNames-fresh}
use Rattle.handle_table.proofs.Generations.{SameSlots, SameSlots-opened, AreNames-filled, slice_index-map}
use Rattle.handle_table.proofs.SoundSlots.{Adds-filled, IsSound-filled, IsSound-opened, live_in-opened}
use Rattle.handle_table.proofs.Changed.{not_live, Changes-filled}
use Rattle.handle_table.specs.declared.slot.Slot.{Slot}
use Rattle.handle_table.specs.declared.slot.Slot.TheVariants.{Vacant, Live}

generation_at : (s : Slot) → is_free s ≡ true → (generation : ℕ) × (s ≡ Vacant generation) × (generation < 2 ^ 16)
generation_at (Vacant generation) free = (generation, refl, (let below : generation < 2 ^ 16 = grind (arith, nat_tests) in below))
generation_at (Live name key) free = absurd (cc)

module _ {T : Type 0} where
  IsSound-capacity : (slots : List Slot) (values : Slab T) (capacity : ℕ) → IsSound slots values → IsSound slots (record values { capacity = capacity })
  IsSound-capacity slots values capacity sound = record {
    few = sound.few;
    each = sound.each;
    keys = sound.keys;
    counted = sound.counted;
    bounded = sound.bounded;
  }

  pub record IsInsertion (slots opened : List Slot) (values reserved new : Slab T) (i kind name key : ℕ) (value : T) : Type 0 where
    pub sound : IsSound slots values
    pub room : slab_len values < 1024
    pub free : is_free (slot_at slots i) ≡ true
    pub below : i < 8192
    pub is_opened : (opened ≡ slots) ⊎ (opened ≡ slots ++ Vacant 0 ∷ [])
    pub within : i < length opened
    pub few : length opened ≤ 8192
    pub is_reserved : reserved ≡ record values { capacity = reserved.capacity }
    pub is_name : name ≡ name_of kind (used_of (slot_at opened i)) i
    pub was : get reserved key ≡ None
    pub updates : Updates reserved new key (Some value)
    pub len : slab_len new ≡ slab_len reserved + 1

  module _ {slots opened : List Slot} {values reserved new : Slab T} {i kind name key : ℕ} {value : T} (h : IsInsertion slots opened values reserved new i kind name key value) where
    generation : (g : ℕ) × (slot_at slots i ≡ Vacant g) × (g < 2 ^ 16)
    generation = generation_at (slot_at slots i) h.free

    same : SameSlots slots opened
    same = SameSlots-opened slots opened h.is_opened

    vacant : slot_at opened i ≡ Vacant generation.0
    vacant = same.at i ∙ generation.1

    name_is : name ≡ name_of kind generation.0 i
    name_is = h.is_name ∙ ap (λ s. name_of kind (used_of s) i) vacant

    in_indices : i < 2 ^ 13
    in_indices = h.below

    index_is : index_of name ≡ i
    index_is = ap index_of name_is ∙ index_of-name_of kind generation.0 i generation.2 in_indices

    generation_is : generation_of name ≡ generation.0
    generation_is = ap generation_of name_is ∙ generation_of-name_of kind generation.0 i generation.2 in_indices

    kind_is : kind_of name ≡ kind
    kind_is = ap kind_of name_is ∙ kind_of-name_of kind generation.0 i generation.2 in_indices

    reserved_sound : IsSound slots reserved
    reserved_sound = subst (IsSound slots) (sym h.is_reserved) (IsSound-capacity slots values reserved.capacity h.sound)

    reserved_len : slab_len reserved ≡ slab_len values
    reserved_len = ap slab_len h.is_reserved

    reserved_live : live_in reserved slots ≡ live_in values slots
    reserved_live = ap (λ v. live_in v slots) h.is_reserved

    opened_sound : IsSound opened reserved
    opened_sound =
        elim h.is_opened [
          | inl is ↦ subst (λ s. IsSound s reserved) (sym is) reserved_sound
          | inr is ↦
              let more : length opened ≡ length slots + 1 = omega (arith, ap length is, length-append slots (Vacant 0 ∷ [])) in
              subst (λ s. IsSound s reserved) (sym is) (IsSound-opened slots reserved (omega (arith, h.few)) reserved_sound)
        ]

    opened_live : live_in reserved opened ≡ live_in values slots
    opened_live =
        elim h.is_opened [
          | inl is ↦ ap (live_in reserved) is ∙ reserved_live
          | inr is ↦ ap (live_in reserved) is ∙ live_in-opened slots reserved ∙ reserved_live
        ]

    room_left : slab_len reserved < 1024
    room_left = omega (arith, reserved_len, h.room)

    pub inserted_sound : IsSound (set opened i (Live name key)) new
    inserted_sound = IsSound-filled opened reserved new i generation.0 name key value opened_sound h.within vacant index_is h.was h.updates h.len room_left

    pub inserted_adds : Adds (live_in values slots) (live_in new (set opened i (Live name key))) (record { kind = kind; name = name; value = value })
    inserted_adds =
        subst (λ live. Adds live (live_in new (set opened i (Live name key))) (record { kind = kind; name = name; value = value })) opened_live
        (subst (λ k. Adds (live_in reserved opened) (live_in new (set opened i (Live name key))) (record { kind = k; name = name; value = value })) kind_is
        (Adds-filled opened reserved new i generation.0 name key value opened_sound h.within vacant index_is h.was h.updates h.len room_left))

    pub inserted_not_live : (k : ℕ) → lookup (live_in values slots) k name ≡ None
    inserted_not_live = subst (λ live. (k : ℕ) → lookup live k name ≡ None) opened_live
        (not_live opened reserved new i generation.0 kind name key value opened_sound h.within vacant index_is kind_is h.was h.updates inserted_sound)

    pub inserted_changes : Changes (live_in values slots) (live_in new (set opened i (Live name key))) kind name (Some value)
    inserted_changes = subst (λ live. Changes live (live_in new (set opened i (Live name key))) kind name (Some value)) opened_live
        (Changes-filled opened reserved new i generation.0 kind name key value opened_sound h.within vacant index_is kind_is h.was h.updates inserted_sound)

    pub inserted_few : length (live_in new (set opened i (Live name key))) ≤ 1024
    inserted_few = omega (arith, inserted_sound.counted, inserted_sound.bounded)

    pub inserted_fresh : (names : List ℕ) → AreNames (map used_of slots) names → ¬ Contains names name
    inserted_fresh names were =
        let next : slice_index (map used_of slots) (index_of name) ≡ generation_of name =
        slice_index-map slots (index_of name) ∙ ap (λ j. used_of (slot_at slots j)) index_is ∙ ap used_of generation.1 ∙ sym generation_is in
        AreNames-fresh (map used_of slots) names name next were

    pub inserted_given : (names : List ℕ) → AreNames (map used_of slots) names → AreNames (map used_of (set opened i (Live name key))) (names ++ name ∷ [])
    inserted_given = AreNames-filled slots opened i generation.0 name key same h.within vacant index_is generation_is
