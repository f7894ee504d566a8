-- The slot gives its name up, and then the value leaves under its key.
use Rattle.std.proofs.Common.{rules, ◌≡◌, ◌+◌, ◌≤◌, Some, None, refl, sym, ap, subst, ◌∙◌, arith}
use Rattle.handle_table.specs.Given.{AreNames}
use Rattle.handle_table.specs.Name.{index_of}
use Rattle.handle_table.specs.Slots.{key_of, live_in, slot_at}
use Rattle.handle_table.proofs.Found.{lookup-live_in}
use Rattle.handle_table.proofs.SoundSlots.{Adds-emptied, IsSound-emptied, slot_at-key_in}
use Rattle.handle_table.proofs.Changed.{Changes-absent, Changes-emptied}
use Rattle.handle_table.proofs.Generations.{generations-emptied}
use Rattle.handle_table.proofs.table.HandleTable.remove.Goals as goal

pub returns-in_err-key-clause-value : goal.returns-in_err-key-clause-value
returns-in_err-key-clause-value g c =
    let key : key_of c.self.inside.slots.items c.args.kind c.args.name ≡ None = ap (λ s. key_of s c.args.kind c.args.name) (sym c.deref.ensures.value) ∙ sym (c.in_err-key.ensures) in
    let found = lookup-live_in c.self.inside.values c.args.kind c.args.name c.self.inside.slots.items c.self.invariant.each in
    rw (← c.self.view_is, found, key) (search rules)

pub returns-in_err-key-clause-updates : goal.returns-in_err-key-clause-updates
returns-in_err-key-clause-updates g c =
    let key : key_of c.self.inside.slots.items c.args.kind c.args.name ≡ None = ap (λ s. key_of s c.args.kind c.args.name) (sym c.deref.ensures.value) ∙ sym (c.in_err-key.ensures) in
    let found = lookup-live_in c.self.inside.values c.args.kind c.args.name c.self.inside.slots.items c.self.invariant.each in
    rw (← c.self.view_is) (Changes-absent (live_in c.self.inside.values c.self.inside.slots.items) c.args.kind c.args.name (rw (found, key) refl))

pub invariant_of-self : goal.invariant_of-self
invariant_of-self g c =
    let slots = c.self.inside.slots.items in
    let key : key_of slots c.args.kind c.args.name ≡ Some c.in_ok-key.key = ap (λ s. key_of s c.args.kind c.args.name) (sym c.deref.ensures.value) ∙ sym (c.in_ok-key.ensures) in
    let small : c.generation.result + 1 ≤ 65536 = omega (arith, c.generation.ensures.range) in
    rw c.index.ensures.value (IsSound-emptied slots c.self.inside.values c.remove.new.self c.args.kind c.args.name c.in_ok-key.key (c.generation.result + 1) c.remove.result c.self.invariant key small c.remove.ensures.value c.remove.ensures.updates c.remove.ensures.len)

pub returns-clause-value : goal.returns-clause-value
returns-clause-value g c =
    let key : key_of c.self.inside.slots.items c.args.kind c.args.name ≡ Some c.in_ok-key.key = ap (λ s. key_of s c.args.kind c.args.name) (sym c.deref.ensures.value) ∙ sym (c.in_ok-key.ensures) in
    let found = lookup-live_in c.self.inside.values c.args.kind c.args.name c.self.inside.slots.items c.self.invariant.each in
    rw (← c.self.view_is, found, key) (sym c.remove.ensures.value)

pub returns-clause-removed : goal.returns-clause-removed
returns-clause-removed g c =
    let slots = c.self.inside.slots.items in
    let key : key_of slots c.args.kind c.args.name ≡ Some c.in_ok-key.key = ap (λ s. key_of s c.args.kind c.args.name) (sym c.deref.ensures.value) ∙ sym (c.in_ok-key.ensures) in
    let small : c.generation.result + 1 ≤ 65536 = omega (arith, c.generation.ensures.range) in
    rw (← c.self.view_is, c.index.ensures.value) (Adds-emptied slots c.self.inside.values c.remove.new.self c.args.kind c.args.name c.in_ok-key.key (c.generation.result + 1) c.remove.result c.self.invariant key small c.remove.ensures.value c.remove.ensures.updates c.remove.ensures.len)

pub returns-clause-updates : goal.returns-clause-updates
returns-clause-updates g c =
    let slots = c.self.inside.slots.items in
    let key : key_of slots c.args.kind c.args.name ≡ Some c.in_ok-key.key = ap (λ s. key_of s c.args.kind c.args.name) (sym c.deref.ensures.value) ∙ sym (c.in_ok-key.ensures) in
    let small : c.generation.result + 1 ≤ 65536 = omega (arith, c.generation.ensures.range) in
    let after = IsSound-emptied slots c.self.inside.values c.remove.new.self c.args.kind c.args.name c.in_ok-key.key (c.generation.result + 1) c.remove.result c.self.invariant key small c.remove.ensures.value c.remove.ensures.updates c.remove.ensures.len in
    rw (← c.self.view_is, c.index.ensures.value) (Changes-emptied slots c.self.inside.values c.remove.new.self c.args.kind c.args.name c.in_ok-key.key (c.generation.result + 1) c.self.invariant key c.remove.ensures.updates after)

pub returns-clause-given : goal.returns-clause-given
returns-clause-given g c =
    let slots = c.self.inside.slots.items in
    let key : key_of slots c.args.kind c.args.name ≡ Some c.in_ok-key.key = ap (λ s. key_of s c.args.kind c.args.name) (sym c.deref.ensures.value) ∙ sym (c.in_ok-key.ensures) in
    let live = slot_at-key_in (slot_at slots (index_of c.args.name)) c.args.kind c.args.name c.in_ok-key.key key in
    rw (← c.self.view_is, c.index.ensures.value, c.generation.ensures.value) (λ names were. subst (λ generations. AreNames generations names) (sym (generations-emptied slots (index_of c.args.name) c.args.name c.in_ok-key.key live.0)) were)
