-- A table that has no slot left, although few are live, has given many names.
use Rattle.std.proofs.Common.{◌≡◌, ℕ, suc, ◌+◌, ◌*◌, ◌^◌, ◌<◌, ◌≤◌, false, List, [], ◌∷◌, length, sum_by, Option, Some, None, zero-add, arith}
use Rattle.std.specs.List.{cons_option}
use Rattle.std.proofs.lemmas.Bool.Decides.{nat_tests}
use Rattle.std.proofs.lemmas.List.Sums.{sum_by-cons}
use Rattle.slab.specs.Slab.{Slab, get}
use Rattle.handle_table.specs.Slots.{slot_at, is_free, used_of, handle_in, live_in}
use Rattle.handle_table.specs.Sound.{IsSoundAt}
use Rattle.handle_table.proofs.Found.{value_of-IsSome}
use Rattle.handle_table.specs.declared.slot.Slot.{Slot}
use Rattle.handle_table.specs.declared.slot.Slot.TheVariants.{Vacant, Live}

length-cons_option : {X : Type 0} (o : Option X) (rest : List X) → length (cons_option o rest) ≡ length (cons_option o []) + length rest
length-cons_option None rest = omega arith
length-cons_option (Some x) rest = omega arith

module _ {T : Type 0} (values : Slab T) where
  -- A slot that isn't free is live, or all its generations were given.
  used_slot : (s : Slot) (j : ℕ) → IsSoundAt values j s → is_free s ≡ false → 65536 ≤ 65536 * length (cons_option (handle_in values s) []) + used_of s
  used_slot (Vacant generation) j sound used = let all : 2 ^ 16 ≤ generation = grind (arith, nat_tests) in omega arith
  used_slot (Live name key) j sound used =
      let found = value_of-IsSome (get values key) sound.1 in
      rw found.1 (omega arith)

  used_from : (first : ℕ) (slots : List Slot) → ((j : ℕ) → IsSoundAt values (first + j) (slot_at slots j)) → ((j : ℕ) → j < length slots → is_free (slot_at slots j) ≡ false) → 65536 * length slots ≤ 65536 * length (live_in values slots) + sum_by used_of slots
  used_from first [] sound used = omega arith
  used_from first (s ∷ slots) sound used =
      let here : 65536 ≤ 65536 * length (cons_option (handle_in values s) []) + used_of s = used_slot s (first + 0) (sound 0) (used 0 (omega arith)) in
      let rest : 65536 * length slots ≤ 65536 * length (live_in values slots) + sum_by used_of slots =
      used_from (first + 1) slots (λ j. let shift : first + 1 + j ≡ first + suc j = omega arith in rw shift (sound (suc j))) (λ j below. used (suc j) (omega arith)) in
      omega (arith, here, rest, length-cons_option (handle_in values s) (live_in values slots), sum_by-cons used_of s slots)

  pub used_up : (slots : List Slot) → ((j : ℕ) → IsSoundAt values j (slot_at slots j)) → length slots ≡ 8192 → ((j : ℕ) → j < length slots → is_free (slot_at slots j) ≡ false) → length (live_in values slots) ≤ 1024 → 7168 * 65536 ≤ sum_by used_of slots
  used_up slots sound whole used few =
      let all : 65536 * length slots ≤ 65536 * length (live_in values slots) + sum_by used_of slots = used_from 0 slots (λ j. rw zero-add (sound j)) used in
      omega arith
