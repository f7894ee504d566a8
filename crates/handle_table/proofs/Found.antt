-- What lives at the slots is found by its name.
use Rattle.std.proofs.Common.{◌≡◌, ◌≢◌, ℕ, zero, suc, ◌+◌, ◌<◌, ◌&&◌, Bool, true, false, List, [], ◌∷◌, Option, Some, None, IsSome, option_map, option_and_then, refl, sym, ap, ◌∙◌, zero-add, cond, eqb, arith}
use Rattle.std.proofs.lemmas.Bool.Decides.{nat_tests}
use Rattle.std.specs.List.{cons_option}
use Rattle.slab.specs.Slab.{Slab, get}
use Rattle.handle_table.specs.Name.{kind_of, index_of}
use Rattle.handle_table.specs.Handles.{Handle, lookup}
use Rattle.handle_table.specs.Slots.{slot_at, key_in, key_of, handle_in, live_in}
use Rattle.handle_table.specs.Sound.{IsSoundAt}
use Rattle.handle_table.specs.declared.slot.Slot.{Slot}
use Rattle.handle_table.specs.declared.slot.Slot.TheVariants.{Vacant, Live}

-- a value that is there
pub value_of-IsSome : {T : Type 0} (o : Option T) → IsSome o → (v : T) × (o ≡ Some v)
value_of-IsSome None some = absurd (cc)
value_of-IsSome (Some v) some = (v, refl)

module _ {T : Type 0} (values : Slab T) (kind name : ℕ) where
  -- the first slot's value, if the key is there, and else what the rest finds
  abbrev found_first : Option ℕ → List (Handle T) → Option T
  found_first None rest = lookup rest kind name
  found_first (Some key) rest = get values key

  finds : (test : Bool) (key : ℕ) (v : T) (rest : List (Handle T)) → get values key ≡ Some v → cond test (Some v) (lookup rest kind name) ≡ found_first (cond test (Some key) None) rest
  finds true key v rest is = sym is
  finds false key v rest is = refl

  slot_finds : (s : Slot) (j : ℕ) (rest : List (Handle T)) → IsSoundAt values j s → lookup (cons_option (handle_in values s) rest) kind name ≡ found_first (key_in s kind name) rest
  slot_finds (Vacant generation) j rest sound = refl
  slot_finds (Live held key) j rest sound =
      let found = value_of-IsSome (get values key) sound.1 in
      ap (λ o. lookup (cons_option (option_map (λ value. record { kind = kind_of held; name = held; value = value }) o) rest) kind name) found.1
      ∙ finds (eqb held name && eqb (kind_of held) kind) key found.0 rest found.1

  -- The slot of another index doesn't have the name.
  pub key_in-other : (s : Slot) (j : ℕ) → IsSoundAt values j s → index_of name ≢ j → key_in s kind name ≡ None
  key_in-other (Vacant generation) j sound other = refl
  key_in-other (Live held key) j sound other = let differs : held ≢ name = λ same. other (ap index_of (sym same) ∙ sound.0) in grind (arith, nat_tests)

  absent_from : (first : ℕ) (slots : List Slot) → ((j : ℕ) → IsSoundAt values (first + j) (slot_at slots j)) → index_of name < first → lookup (live_in values slots) kind name ≡ None
  absent_from first [] sound before = refl
  absent_from first (s ∷ slots) sound before =
      slot_finds s (first + 0) (live_in values slots) (sound 0)
      ∙ ap (λ o. found_first o (live_in values slots)) (key_in-other s (first + 0) (sound 0) (omega arith))
      ∙ absent_from (first + 1) slots (λ j. let shift : first + 1 + j ≡ first + suc j = omega arith in rw shift (sound (suc j))) (omega arith)

  found_first-absent : (o : Option ℕ) (rest : List (Handle T)) → lookup rest kind name ≡ None → found_first o rest ≡ option_and_then (get values) o
  found_first-absent None rest absent = absent
  found_first-absent (Some key) rest absent = refl

  found_from : (first : ℕ) (slots : List Slot) (i : ℕ) → ((j : ℕ) → IsSoundAt values (first + j) (slot_at slots j)) → index_of name ≡ first + i → lookup (live_in values slots) kind name ≡ option_and_then (get values) (key_in (slot_at slots i) kind name)
  found_from first [] i sound is = refl
  found_from first (s ∷ slots) zero sound is =
      slot_finds s (first + 0) (live_in values slots) (sound 0)
      ∙ found_first-absent (key_in s kind name) (live_in values slots)
      (absent_from (first + 1) slots (λ j. let shift : first + 1 + j ≡ first + suc j = omega arith in rw shift (sound (suc j))) (omega arith))
  found_from first (s ∷ slots) (suc i) sound is =
      slot_finds s (first + 0) (live_in values slots) (sound 0)
      ∙ ap (λ o. found_first o (live_in values slots)) (key_in-other s (first + 0) (sound 0) (omega arith))
      ∙ found_from (first + 1) slots i (λ j. let shift : first + 1 + j ≡ first + suc j = omega arith in rw shift (sound (suc j))) (omega arith)

  -- A lookup is a look into the slot of the name's index.
  pub lookup-live_in : (slots : List Slot) → ((i : ℕ) → IsSoundAt values i (slot_at slots i)) → lookup (live_in values slots) kind name ≡ option_and_then (get values) (key_of slots kind name)
  lookup-live_in slots sound = found_from 0 slots (index_of name) (λ j. rw zero-add (sound j)) (sym (zero-add (index_of name)))
