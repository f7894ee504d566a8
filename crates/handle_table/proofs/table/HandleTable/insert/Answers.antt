-- Room is made first, and then the value and its slot are filled.
use Rattle.std.proofs.Common.{◌≡◌, ◌<◌, ◌≤◌, true, false, Result, Ok, Err, OnOk, is_err, length, refl, ap, subst, ◌∙◌, inl, inr, arith}
use Rattle.std.proofs.lemmas.Grind.{common_steps}
use Rattle.handle_table.specs.Name.{name_of}
use Rattle.handle_table.specs.Slots.{IsUsedUp, is_free, live_in, slot_at, used_of}
use Rattle.handle_table.proofs.Inserted.{IsInsertion, inserted_adds, inserted_changes, inserted_few, inserted_fresh, inserted_given, inserted_not_live, inserted_sound}
use Rattle.handle_table.proofs.UsedUp.{used_up}
use Rattle.handle_table.proofs.table.HandleTable.insert.Goals as goal
use Rattle.handle_table.proofs.table.HandleTable.insert.Goals.{then-is_err-via-then-is_err, then-is_err-via-else-is_err+then-is_err-2}
use Rattle.handle_table.proofs.table.HandleTable.insert.Given.{Over}

pub returns-in_default-clause-full_only : goal.returns-in_default-clause-full_only
returns-in_default-clause-full_only g c =
    elim (c.in_default.ensures.none) [
      | inl full ↦ inl (omega (arith, full, c.len-live.ensures, c.self.invariant.bounded))
      | inr used ↦
          let all : IsUsedUp c.self.inside.slots.items = subst IsUsedUp c.deref.ensures.value used in
          let few : length (live_in c.self.inside.values c.self.inside.slots.items) ≤ 1024 = omega (arith, c.self.invariant.counted, c.self.invariant.bounded) in
          let many = used_up c.self.inside.values c.self.inside.slots.items c.self.invariant.each all.0 all.1 few in
          inr (rw (c.given.ensures, c.deref-in_default.ensures.value) many)
    ]

pub returns-then-is_err-clause-err : goal.returns-then-is_err-clause-err
returns-then-is_err-clause-err g c =
    let slots = c.self.inside.slots.items in
    let live : live_in c.reserve.new.self slots ≡ live_in c.self.inside.values slots = ap (λ v. live_in v slots) c.reserve.ensures.rest_kept in
    elim c.then-is_err.branch [
      | then-is_err-via-then-is_err w ↦ w.self-is ∙ rw live refl ∙ c.self.view_is
      | then-is_err-via-else-is_err+then-is_err-2 w ↦
          let same : w.grow.new.slots.items ≡ slots = grind (arith, common_steps, w.if-is_err-2.ensures, w.grow.ensures.err) in
          w.self-is ∙ rw (same, live) refl ∙ c.self.view_is
    ]

held_of-OnOk : {A E : Type 0} (r : Result A E) (P : Type 0) → false ≡ is_err r → OnOk r P → P
held_of-OnOk (Ok x) P no_error held = held
held_of-OnOk (Err e) P no_error held = absurd (cc)

insertion : (g : Over) (c : goal.After-self-1 g) → IsInsertion c.self.inside.slots.items c.grow.new.slots.items c.self.inside.values c.reserve.new.self c.insert_reserved-key.new.self c.in-Some.index c.args.kind c.from_parts-name.result c.insert_reserved-key.result c.args.value
insertion g c =
    let used : c.used.result ≡ used_of (slot_at c.grow.new.slots.items c.in-Some.index) = grind (arith, common_steps) in
    let name : c.from_parts-name.result ≡ name_of c.args.kind (used_of (slot_at c.grow.new.slots.items c.in-Some.index)) c.in-Some.index = c.from_parts-name.ensures ∙ ap (λ n. name_of c.args.kind n c.in-Some.index) used in
    record {
      sound = c.self.invariant;
      room = omega (arith, c.in-Some.ensures.room, c.len-live.ensures);
      free = subst (λ s. is_free (slot_at s c.in-Some.index) ≡ true) c.deref.ensures.value c.in-Some.ensures.free;
      below = c.in-Some.ensures.within.0;
      is_opened = c.grow.ensures.grown;
      within = held_of-OnOk c.grow.result (c.in-Some.index < length c.grow.new.slots.items) c.if-is_err-2.ensures.value c.grow.ensures.room;
      few = c.grow.ensures.few c.in-Some.ensures.within.0 c.self.invariant.few;
      is_reserved = c.reserve.ensures.rest_kept;
      is_name = name;
      was = c.insert_reserved-key.ensures.was_vacant;
      updates = c.insert_reserved-key.ensures.updates;
      len = c.insert_reserved-key.ensures.len;
    }

pub invariant_of-self-2 : goal.invariant_of-self-2
invariant_of-self-2 g c = inserted_sound (insertion g c)

pub returns-clause-fresh : goal.returns-clause-fresh
returns-clause-fresh g c = rw (← c.self.view_is) (inserted_fresh (insertion g c))

pub returns-clause-given : goal.returns-clause-given
returns-clause-given g c = rw (← c.self.view_is) (inserted_given (insertion g c))

pub returns-clause-not_live : goal.returns-clause-not_live
returns-clause-not_live g c = rw (← c.self.view_is) (inserted_not_live (insertion g c))

pub returns-clause-added : goal.returns-clause-added
returns-clause-added g c = rw (← c.self.view_is) (inserted_adds (insertion g c))

pub returns-clause-updates : goal.returns-clause-updates
returns-clause-updates g c = rw (← c.self.view_is) (inserted_changes (insertion g c))

pub returns-clause-bounded : goal.returns-clause-bounded
returns-clause-bounded g c = inserted_few (insertion g c)
