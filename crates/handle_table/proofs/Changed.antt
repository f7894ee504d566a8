-- What a table finds after a value came or went.
use Rattle.std.proofs.Common.{◌≡◌, ◌≢◌, ℕ, ◌<◌, ◌&&◌, Bool, true, false, List, length, set, map, Option, Some, None, IsSome, is_some, option_map, option_and_then, refl, sym, ap, subst, ◌∙◌, inl, inr, cond, eqb, arith}
use Rattle.std.proofs.lemmas.Bool.{cases_eq}
use Rattle.std.proofs.lemmas.Bool.Decides.{nat_tests}
use Rattle.std.proofs.lemmas.List.{get_or-set_same, get_or-set_other, length-map}
use Rattle.std.proofs.lemmas.List.Sums.{sum_by-set}
use Rattle.slab.specs.Slab.{Slab, get, slab_len, Updates, with_value}
use Rattle.slab.proofs.SlabLemmas.{Updates-with_value, ContainsKey-within}
use Rattle.handle_table.specs.Name.{kind_of, index_of}
use Rattle.handle_table.specs.Handles.{Handle, is_named, lookup, Updates as Changes}
use Rattle.handle_table.specs.Slots.{slot_at, key_in, key_of, handle_in, live_in}
use Rattle.handle_table.specs.Sound.{IsSound, IsSoundAt}
use Rattle.handle_table.proofs.Filtered.{filter_map-pointwise, map-filter_map}
use Rattle.handle_table.proofs.Found.{value_of-IsSome, lookup-live_in}
use Rattle.handle_table.proofs.SoundSlots.{slot_at-within, slot_at-key_in, handle_in-other, untouched_by_vacant}
use Rattle.handle_table.specs.declared.slot.Slot.{Slot}
use Rattle.handle_table.specs.declared.slot.Slot.TheVariants.{Vacant, Live}

-- Two names of different indices are two names.
other_name : (name n : ℕ) (test : Bool) → index_of n ≢ index_of name → (eqb name n && test) ≡ false
other_name name n test differs = let apart : name ≢ n = λ same. differs (sym (ap index_of same)) in grind (arith, nat_tests)

cond_of : {A : Type 0} (b c : Bool) (x y : A) → b ≡ c → cond b x y ≡ cond c x y
cond_of b c x y same = ap (λ t. cond t x y) same

module _ {T : Type 0} where
  -- A slot finds what it found while its own key isn't touched.
  found-other : (old new : Slab T) (key : ℕ) → ((other : ℕ) → other ≢ key → get new other ≡ get old other) → (s : Slot) → ((a : ℕ) → s ≢ Live a key) → (kind name : ℕ) → option_and_then (get new) (key_in s kind name) ≡ option_and_then (get old) (key_in s kind name)
  found-other old new key others (Vacant generation) untouched kind name = refl
  found-other old new key others (Live a at) untouched kind name =
      let differs : at ≢ key = λ same. untouched a (ap (Live a) same) in
      by_test (eqb a name && eqb (kind_of a) kind) at (others at differs)
    where
      by_test : (test : Bool) (at : ℕ) → get new at ≡ get old at → option_and_then (get new) (cond test (Some at) None) ≡ option_and_then (get old) (cond test (Some at) None)
      by_test true at same = same
      by_test false at same = refl

  module _ (slots : List Slot) (old new : Slab T) (i generation kind name key : ℕ) (value : T)
      (sound : IsSound slots old) (within : i < length slots) (vacant : slot_at slots i ≡ Vacant generation)
      (is_index : index_of name ≡ i) (is_kind : kind_of name ≡ kind) (was : get old key ≡ None) (updates : Updates old new key (Some value))
      (after : IsSound (set slots i (Live name key)) new) where
    vacant_there : slot_at slots (index_of name) ≡ Vacant generation
    vacant_there = ap (slot_at slots) is_index ∙ vacant

    pub not_live : (k : ℕ) → lookup (live_in old slots) k name ≡ None
    not_live k = lookup-live_in old k name slots sound.each ∙ ap (λ s. option_and_then (get old) (key_in s k name)) vacant_there

    filled_test : (test : Bool) (found : Option T) → found ≡ None → option_and_then (get new) (cond test (Some key) None) ≡ cond test (Some value) found
    filled_test true found none = updates.changed
    filled_test false found none = sym none

    pub Changes-filled : Changes (live_in old slots) (live_in new (set slots i (Live name key))) kind name (Some value)
    Changes-filled k n =
        elim (cases_eq (index_of n) i) [
          | inl same ↦
              let here : slot_at (set slots i (Live name key)) (index_of n) ≡ Live name key = ap (slot_at (set slots i (Live name key))) same ∙ get_or-set_same slots i (Live name key) (Vacant 0) within in
              let none : lookup (live_in old slots) k n ≡ None = lookup-live_in old k n slots sound.each ∙ ap (λ s. option_and_then (get old) (key_in s k n)) (ap (slot_at slots) same ∙ vacant) in
              lookup-live_in new k n (set slots i (Live name key)) after.each
              ∙ ap (λ s. option_and_then (get new) (key_in s k n)) here
              ∙ filled_test (eqb name n && eqb (kind_of name) k) (lookup (live_in old slots) k n) none
              ∙ cond_of _ _ _ _ (ap (λ m. eqb name n && eqb m k) is_kind)
          | inr differs ↦
              let there : slot_at (set slots i (Live name key)) (index_of n) ≡ slot_at slots (index_of n) = get_or-set_other slots i (index_of n) (Live name key) (Vacant 0) differs in
              let apart : index_of n ≢ index_of name = λ same. differs (same ∙ is_index) in
              lookup-live_in new k n (set slots i (Live name key)) after.each
              ∙ ap (λ s. option_and_then (get new) (key_in s k n)) there
              ∙ found-other old new key updates.others (slot_at slots (index_of n)) (untouched_by_vacant old slots key sound.each was (index_of n)) k n
              ∙ sym (lookup-live_in old k n slots sound.each)
              ∙ sym (cond_of _ _ _ _ (other_name name n (eqb kind k) apart))
        ]

  -- Where nothing was found, nothing goes.
  pub Changes-absent : (live : List (Handle T)) (kind name : ℕ) → lookup live kind name ≡ None → Changes live live kind name None
  Changes-absent live kind name absent k n = by_test (eqb name n) (eqb kind k) refl refl
    where
      by_test : (same_name same_kind : Bool) → eqb name n ≡ same_name → eqb kind k ≡ same_kind → lookup live k n ≡ cond (same_name && same_kind) None (lookup live k n)
      by_test true true is_name is_kind =
          let name_is : name ≡ n = grind (arith, nat_tests) in
          let kind_is : kind ≡ k = grind (arith, nat_tests) in
          sym (ap (λ m. lookup live k m) name_is) ∙ sym (ap (λ m. lookup live m name) kind_is) ∙ absent
      by_test true false is_name is_kind = refl
      by_test false same_kind is_name is_kind = refl

  module _ (slots : List Slot) (old new : Slab T) (kind name key generation : ℕ)
      (sound : IsSound slots old) (found : key_of slots kind name ≡ Some key) (updates : Updates old new key None)
      (after : IsSound (set slots (index_of name) (Vacant generation)) new) where
    live : (slot_at slots (index_of name) ≡ Live name key) × (kind_of name ≡ kind)
    live = slot_at-key_in (slot_at slots (index_of name)) kind name key found

    within : index_of name < length slots
    within = slot_at-within slots (index_of name) name key live.0

    emptied_test : (test other : Bool) → test ≡ other → None ≡ cond test None (option_and_then (get old) (cond other (Some key) None))
    emptied_test true other same = refl
    emptied_test false true same = absurd (cc)
    emptied_test false false same = refl

    pub Changes-emptied : Changes (live_in old slots) (live_in new (set slots (index_of name) (Vacant generation))) kind name None
    Changes-emptied k n =
        elim (cases_eq (index_of n) (index_of name)) [
          | inl same ↦
              let here : slot_at (set slots (index_of name) (Vacant generation)) (index_of n) ≡ Vacant generation = ap (slot_at (set slots (index_of name) (Vacant generation))) same ∙ get_or-set_same slots (index_of name) (Vacant generation) (Vacant 0) within in
              let there : slot_at slots (index_of n) ≡ Live name key = ap (slot_at slots) same ∙ live.0 in
              lookup-live_in new k n (set slots (index_of name) (Vacant generation)) after.each
              ∙ ap (λ s. option_and_then (get new) (key_in s k n)) here
              ∙ emptied_test (eqb name n && eqb kind k) (eqb name n && eqb (kind_of name) k) (ap (λ m. eqb name n && eqb m k) (sym live.1))
              ∙ ap (λ s. cond (eqb name n && eqb kind k) None (option_and_then (get old) (key_in s k n))) (sym there)
              ∙ ap (cond (eqb name n && eqb kind k) None) (sym (lookup-live_in old k n slots sound.each))
          | inr differs ↦
              let there : slot_at (set slots (index_of name) (Vacant generation)) (index_of n) ≡ slot_at slots (index_of n) = get_or-set_other slots (index_of name) (index_of n) (Vacant generation) (Vacant 0) differs in
              lookup-live_in new k n (set slots (index_of name) (Vacant generation)) after.each
              ∙ ap (λ s. option_and_then (get new) (key_in s k n)) there
              ∙ found-other old new key updates.others (slot_at slots (index_of n)) (λ a same. differs (sound.keys (index_of n) (index_of name) a name key same live.0)) k n
              ∙ sym (lookup-live_in old k n slots sound.each)
              ∙ sym (cond_of _ _ _ _ (other_name name n (eqb kind k) differs))
        ]

  -- A value is written over one that lives.
  module _ (slots : List Slot) (values : Slab T) (kind name key : ℕ) (sound : IsSound slots values) (found : key_of slots kind name ≡ Some key) where
    lent : (slot_at slots (index_of name) ≡ Live name key) × (kind_of name ≡ kind)
    lent = slot_at-key_in (slot_at slots (index_of name)) kind name key found

    present : IsSome (get values key)
    present =
        let P : Slot → Type 0 = λ s. IsSoundAt values (index_of name) s in
        let there : IsSoundAt values (index_of name) (Live name key) = subst P lent.0 (sound.each (index_of name)) in
        there.1

    module _ (value : T) where
      abbrev pub written : Handle T → Handle T
      written h = cond (is_named kind name h) (record h { value = value }) h

      updates : Updates values (with_value values key value) key (Some value)
      updates = Updates-with_value values key value present

      written-here : (v : T) → get values key ≡ Some v → option_map written (handle_in values (Live name key)) ≡ handle_in (with_value values key value) (Live name key)
      written-here v is =
          let named : is_named kind name (record { kind = kind_of name; name = name; value = v }) ≡ true = let k : kind_of name ≡ kind = lent.1 in grind (arith, nat_tests) in
          ap (λ o. option_map written (option_map (λ u. record { kind = kind_of name; name = name; value = u }) o)) is
          ∙ ap (λ test. Some (cond test (record { kind = kind_of name; name = name; value = value }) (record { kind = kind_of name; name = name; value = v }))) named
          ∙ sym (ap (option_map (λ u. record { kind = kind_of name; name = name; value = u })) updates.changed)

      written-other : (s : Slot) (j : ℕ) → IsSoundAt values j s → j ≢ index_of name → ((a : ℕ) → s ≢ Live a key) → option_map written (handle_in values s) ≡ handle_in (with_value values key value) s
      written-other (Vacant generation) j there differs untouched = refl
      written-other (Live a at) j there differs untouched =
          let v = value_of-IsSome (get values at) there.1 in
          let apart : a ≢ name = λ same. differs (sym there.0 ∙ ap index_of same) in
          let named : is_named kind name (record { kind = kind_of a; name = a; value = v.0 }) ≡ false = grind (arith, nat_tests) in
          ap (λ o. option_map written (option_map (λ u. record { kind = kind_of a; name = a; value = u }) o)) v.1
          ∙ ap (λ test. Some (cond test (record { kind = kind_of a; name = a; value = value }) (record { kind = kind_of a; name = a; value = v.0 }))) named
          ∙ sym (ap (option_map (λ u. record { kind = kind_of a; name = a; value = u })) v.1)
          ∙ sym (handle_in-other values (with_value values key value) key updates.others (Live a at) untouched)

      written_at : (j : ℕ) → option_map written (handle_in values (slot_at slots j)) ≡ handle_in (with_value values key value) (slot_at slots j)
      written_at j =
          elim (cases_eq j (index_of name)) [
            | inl same ↦
                let here : slot_at slots j ≡ Live name key = ap (slot_at slots) same ∙ lent.0 in
                let v = value_of-IsSome (get values key) present in
                rw here (written-here v.0 v.1)
            | inr differs ↦ written-other (slot_at slots j) j (sound.each j) differs (λ a same. differs (sound.keys j (index_of name) a name key same lent.0))
          ]

      -- The live ones are those of before, with the value written where the name is.
      pub live_in-written : live_in (with_value values key value) slots ≡ map written (live_in values slots)
      live_in-written = sym (map-filter_map written (handle_in values) slots ∙ filter_map-pointwise (λ s. option_map written (handle_in values s)) (handle_in (with_value values key value)) slots slots (Vacant 0) refl (λ j below. written_at j))

      each : (j : ℕ) (s : Slot) → IsSoundAt values j s → IsSoundAt (with_value values key value) j s
      each j (Vacant generation) there = there
      each j (Live a at) there =
          elim (cases_eq at key) [
            | inl same ↦ (there.0, rw (same, updates.changed) refl)
            | inr differs ↦ (there.0, rw (updates.others at differs) there.1)
          ]

      slab_len-written : slab_len (with_value values key value) ≡ slab_len values
      slab_len-written =
          let counted : Bool → ℕ = λ b. cond b 1 0 in
          let one : counted (is_some (get values key)) ≡ counted true = ap counted present in
          omega (arith, one, sum_by-set (λ o. cond (is_some o) 1 0) values.slots key (Some value) None (ContainsKey-within values key present))

      pub IsSound-written : IsSound slots (with_value values key value)
      IsSound-written = record {
        few = sound.few;
        each = λ j. each j (slot_at slots j) (sound.each j);
        keys = sound.keys;
        counted = slab_len-written ∙ sound.counted ∙ sym (length-map (live_in values slots) written) ∙ ap length (sym live_in-written);
        bounded = rw slab_len-written sound.bounded;
      }
