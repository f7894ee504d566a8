-- What is true of each table's slots and values stays true.
use Rattle.std.proofs.Common.{◌≡◌, ◌≢◌, ◌⊎◌, ℕ, zero, suc, ◌+◌, ◌-◌, ◌<◌, ◌≤◌, ◌&&◌, Bool, true, false, List, [], ◌∷◌, ◌++◌, length, get_or, set, Some, None, option_map, refl, sym, ap, subst, ◌∙◌, inl, inr, length-append, cond, eqb, arith}
use Rattle.std.proofs.lemmas.Bool.{cases_eq}
use Rattle.std.proofs.lemmas.Bool.Decides.{nat_tests}
use Rattle.std.proofs.lemmas.List.{get_or-set_same, get_or-set_other, get_or_past, length-set, append-nil, get_or_append_left, get_or-append_right}
use Rattle.std.proofs.lemmas.List.Elements.{filter_map-append}
use Rattle.slab.specs.Slab.{Slab, get, slab_len, Updates}
use Rattle.handle_table.specs.Name.{kind_of, index_of}
use Rattle.handle_table.specs.Handles.{Adds}
use Rattle.handle_table.specs.Slots.{slot_at, key_in, key_of, handle_in, live_in}
use Rattle.handle_table.specs.Sound.{IsSound, IsSoundAt}
use Rattle.handle_table.proofs.Filtered.{Adds-filter_map, length-Adds}
use Rattle.handle_table.proofs.Found.{value_of-IsSome}
use Rattle.handle_table.specs.declared.slot.Slot.{Slot}
use Rattle.handle_table.specs.declared.slot.Slot.TheVariants.{Vacant, Live}

-- a slot that isn't the default is one of the list's
pub slot_at-within : (slots : List Slot) (i name key : ℕ) → slot_at slots i ≡ Live name key → i < length slots
slot_at-within slots i name key live = grind (arith, get_or_past)

-- what a key that was found says of its slot
pub slot_at-key_in : (s : Slot) (kind name key : ℕ) → key_in s kind name ≡ Some key → (s ≡ Live name key) × (kind_of name ≡ kind)
slot_at-key_in (Vacant generation) kind name key found = absurd (cc)
slot_at-key_in (Live held at) kind name key found = by_test (eqb held name) (eqb (kind_of held) kind) refl refl found
  where
    by_test : (same_name same_kind : Bool) → eqb held name ≡ same_name → eqb (kind_of held) kind ≡ same_kind → cond (same_name && same_kind) (Some at) None ≡ Some key → (Live held at ≡ Live name key) × (kind_of name ≡ kind)
    by_test true true is_name is_kind found =
        let name_is : held ≡ name = grind (arith, nat_tests) in
        let kind_is : kind_of held ≡ kind = grind (arith, nat_tests) in
        let key_is : at ≡ key = cc in
        (cc, ap kind_of (sym name_is) ∙ kind_is)
    by_test true false is_name is_kind found = absurd (cc)
    by_test false same_kind is_name is_kind found = absurd (cc)

pub slot_at-opened : (slots : List Slot) (i : ℕ) → slot_at (slots ++ Vacant 0 ∷ []) i ≡ slot_at slots i
slot_at-opened slots i =
    elim (le_or_lt (length slots) i) [
      | inl past ↦ get_or-append_right slots (Vacant 0 ∷ []) (length slots) i (Vacant 0) refl past ∙ get_or-one (i - length slots) ∙ sym (get_or_past slots i (Vacant 0) past)
      | inr within ↦ get_or_append_left slots (Vacant 0 ∷ []) (Vacant 0) i within
    ]
  where
    le_or_lt : (a b : ℕ) → (a ≤ b) ⊎ (b < a)
    le_or_lt a b = grind arith

    get_or-one : (j : ℕ) → get_or (Vacant 0 ∷ []) j (Vacant 0) ≡ Vacant 0
    get_or-one zero = refl
    get_or-one (suc j) = refl

module _ {T : Type 0} where
  -- A slot stays sound while its own key isn't touched.
  pub IsSoundAt-other : (old new : Slab T) (key : ℕ) → ((other : ℕ) → other ≢ key → get new other ≡ get old other) → (i : ℕ) (s : Slot) → IsSoundAt old i s → ((a : ℕ) → s ≢ Live a key) → IsSoundAt new i s
  IsSoundAt-other old new key others i (Vacant generation) sound untouched = sound
  IsSoundAt-other old new key others i (Live a at) sound untouched =
      let differs : at ≢ key = λ same. untouched a (ap (Live a) same) in
      (sound.0, rw (others at differs) sound.1)

  -- and gives what it gave
  pub handle_in-other : (old new : Slab T) (key : ℕ) → ((other : ℕ) → other ≢ key → get new other ≡ get old other) → (s : Slot) → ((a : ℕ) → s ≢ Live a key) → handle_in new s ≡ handle_in old s
  handle_in-other old new key others (Vacant generation) untouched = refl
  handle_in-other old new key others (Live a at) untouched =
      let differs : at ≢ key = λ same. untouched a (ap (Live a) same) in
      ap (option_map (λ value. record { kind = kind_of a; name = a; value = value })) (others at differs)

  -- One more slot, with no name given yet, changes nothing.
  module _ (slots : List Slot) (values : Slab T) where
    pub live_in-opened : live_in values (slots ++ Vacant 0 ∷ []) ≡ live_in values slots
    live_in-opened = filter_map-append (handle_in values) slots (Vacant 0 ∷ []) ∙ append-nil (live_in values slots)

    pub IsSound-opened : length slots < 8192 → IsSound slots values → IsSound (slots ++ Vacant 0 ∷ []) values
    IsSound-opened room sound = record {
      few = omega (arith, length-append slots (Vacant 0 ∷ []));
      each = λ i. rw (slot_at-opened slots i) (sound.each i);
      keys = λ i j a b key first second. sound.keys i j a b key (sym (slot_at-opened slots i) ∙ first) (sym (slot_at-opened slots j) ∙ second);
      counted = sound.counted ∙ ap length (sym live_in-opened);
      bounded = sound.bounded;
    }

  -- A key that holds nothing is no slot's.
  pub untouched_by_vacant : (values : Slab T) (slots : List Slot) (key : ℕ) → ((i : ℕ) → IsSoundAt values i (slot_at slots i)) → get values key ≡ None → (j a : ℕ) → slot_at slots j ≢ Live a key
  untouched_by_vacant values slots key sound none j a live =
      let P : Slot → Type 0 = λ s. IsSoundAt values j s in
      let there : IsSoundAt values j (Live a key) = subst P live (sound j) in
      let found = value_of-IsSome (get values key) there.1 in
      cc

  -- A name at a slot that had none.
  module _ (slots : List Slot) (old new : Slab T) (i generation name key : ℕ) (value : T)
      (sound : IsSound slots old) (within : i < length slots) (vacant : slot_at slots i ≡ Vacant generation)
      (is_index : index_of name ≡ i) (was : get old key ≡ None) (updates : Updates old new key (Some value))
      (len : slab_len new ≡ slab_len old + 1) (room : slab_len old < 1024) where
    untouched : (j a : ℕ) → slot_at slots j ≢ Live a key
    untouched = untouched_by_vacant old slots key sound.each was

    pub Adds-filled : Adds (live_in old slots) (live_in new (set slots i (Live name key))) (record { kind = kind_of name; name = name; value = value })
    Adds-filled =
        Adds-filter_map (handle_in old) (handle_in new) slots (set slots i (Live name key)) i (Vacant 0) _
        (sym (length-set slots i (Live name key))) within (ap (handle_in old) vacant)
        (rw (get_or-set_same slots i (Live name key) (Vacant 0) within, updates.changed) refl)
        (λ j below differs. rw (get_or-set_other slots i j (Live name key) (Vacant 0) differs) (sym (handle_in-other old new key updates.others (slot_at slots j) (untouched j))))

    pub slot_at-filled : (j : ℕ) → ((j ≡ i) × (slot_at (set slots i (Live name key)) j ≡ Live name key)) ⊎ ((j ≢ i) × (slot_at (set slots i (Live name key)) j ≡ slot_at slots j))
    slot_at-filled j =
        elim (cases_eq j i) [
          | inl same ↦ inl (same, rw same (get_or-set_same slots i (Live name key) (Vacant 0) within))
          | inr differs ↦ inr (differs, get_or-set_other slots i j (Live name key) (Vacant 0) differs)
        ]

    each : (j : ℕ) → IsSoundAt new j (slot_at (set slots i (Live name key)) j)
    each j =
        elim (slot_at-filled j) [
          | inl here ↦ rw here.1 (is_index ∙ sym here.0, rw updates.changed refl)
          | inr there ↦ rw there.1 (IsSoundAt-other old new key updates.others j (slot_at slots j) (sound.each j) (untouched j))
        ]

    keys : (j k a b at : ℕ) → slot_at (set slots i (Live name key)) j ≡ Live a at → slot_at (set slots i (Live name key)) k ≡ Live b at → j ≡ k
    keys j k a b at first second =
        elim (slot_at-filled j) [
          | inl here ↦ elim (slot_at-filled k) [
            | inl also ↦ here.0 ∙ sym also.0
            | inr there ↦
                let key_is : at ≡ key = cc in
                absurd (untouched k b (sym there.1 ∙ second ∙ ap (Live b) key_is))
          ]
          | inr there ↦ elim (slot_at-filled k) [
            | inl here ↦
                let key_is : at ≡ key = cc in
                absurd (untouched j a (sym there.1 ∙ first ∙ ap (Live a) key_is))
            | inr also ↦ sound.keys j k a b at (sym there.1 ∙ first) (sym also.1 ∙ second)
          ]
        ]

    pub IsSound-filled : IsSound (set slots i (Live name key)) new
    IsSound-filled = record {
      few = rw length-set sound.few;
      each = each;
      keys = keys;
      counted = let more = length-Adds T _ _ _ Adds-filled in omega (arith, sound.counted);
      bounded = omega arith;
    }

  -- A slot whose value goes.
  module _ (slots : List Slot) (old new : Slab T) (kind name key generation : ℕ) (value : T)
      (sound : IsSound slots old) (found : key_of slots kind name ≡ Some key) (small : generation ≤ 65536)
      (is_value : get old key ≡ Some value) (updates : Updates old new key None)
      (len : slab_len new + 1 ≡ slab_len old) where
    live : (slot_at slots (index_of name) ≡ Live name key) × (kind_of name ≡ kind)
    live = slot_at-key_in (slot_at slots (index_of name)) kind name key found

    within : index_of name < length slots
    within = slot_at-within slots (index_of name) name key live.0

    pub untouched_by_other : (j : ℕ) → j ≢ index_of name → (a : ℕ) → slot_at slots j ≢ Live a key
    untouched_by_other j differs a there = differs (sound.keys j (index_of name) a name key there live.0)

    pub Adds-emptied : Adds (live_in new (set slots (index_of name) (Vacant generation))) (live_in old slots) (record { kind = kind; name = name; value = value })
    Adds-emptied =
        Adds-filter_map (handle_in new) (handle_in old) (set slots (index_of name) (Vacant generation)) slots (index_of name) (Vacant 0) _
        (length-set slots (index_of name) (Vacant generation)) (rw length-set within)
        (ap (handle_in new) (get_or-set_same slots (index_of name) (Vacant generation) (Vacant 0) within))
        (ap (handle_in old) live.0 ∙ ap (option_map (λ v. record { kind = kind_of name; name = name; value = v })) is_value ∙ ap (λ k. Some (record { kind = k; name = name; value = value })) live.1)
        (λ j below differs. ap (handle_in new) (get_or-set_other slots (index_of name) j (Vacant generation) (Vacant 0) differs) ∙ handle_in-other old new key updates.others (slot_at slots j) (untouched_by_other j differs))

    slot_at-emptied : (j : ℕ) → ((j ≡ index_of name) × (slot_at (set slots (index_of name) (Vacant generation)) j ≡ Vacant generation)) ⊎ ((j ≢ index_of name) × (slot_at (set slots (index_of name) (Vacant generation)) j ≡ slot_at slots j))
    slot_at-emptied j =
        elim (cases_eq j (index_of name)) [
          | inl same ↦ inl (same, rw same (get_or-set_same slots (index_of name) (Vacant generation) (Vacant 0) within))
          | inr differs ↦ inr (differs, get_or-set_other slots (index_of name) j (Vacant generation) (Vacant 0) differs)
        ]

    emptied_each : (j : ℕ) → IsSoundAt new j (slot_at (set slots (index_of name) (Vacant generation)) j)
    emptied_each j =
        elim (slot_at-emptied j) [
          | inl here ↦ rw here.1 small
          | inr there ↦ rw there.1 (IsSoundAt-other old new key updates.others j (slot_at slots j) (sound.each j) (untouched_by_other j there.0))
        ]

    emptied_keys : (j k a b at : ℕ) → slot_at (set slots (index_of name) (Vacant generation)) j ≡ Live a at → slot_at (set slots (index_of name) (Vacant generation)) k ≡ Live b at → j ≡ k
    emptied_keys j k a b at first second =
        elim (slot_at-emptied j) [
          | inl here ↦ absurd (cc)
          | inr there ↦ elim (slot_at-emptied k) [
            | inl here ↦ absurd (cc)
            | inr also ↦ sound.keys j k a b at (sym there.1 ∙ first) (sym also.1 ∙ second)
          ]
        ]

    pub IsSound-emptied : IsSound (set slots (index_of name) (Vacant generation)) new
    IsSound-emptied = record {
      few = rw length-set sound.few;
      each = emptied_each;
      keys = emptied_keys;
      counted = let more = length-Adds T _ _ _ Adds-emptied in omega (arith, sound.counted);
      bounded = omega (arith, sound.bounded);
    }
