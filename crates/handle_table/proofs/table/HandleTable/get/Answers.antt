use Rattle.std.proofs.Common.{rules, ◌≡◌, Some, None, sym, ap, ◌∙◌}
use Rattle.handle_table.specs.Slots.{key_of}
use Rattle.handle_table.proofs.Found.{lookup-live_in}
use Rattle.handle_table.proofs.table.HandleTable.get.Goals as goal

pub returns-in_err-key : goal.returns-in_err-key
returns-in_err-key g c =
    let key : key_of c.self.inside.slots.items c.args.kind c.args.name ≡ None = ap (λ s. key_of s c.args.kind c.args.name) (sym c.deref.ensures.value) ∙ sym (c.in_err-key.ensures) in
    let found = lookup-live_in c.self.inside.values c.args.kind c.args.name c.self.inside.slots.items c.self.invariant.each in
    rw (← c.self.view_is, found, key) (search rules)

pub returns : goal.returns
returns g c =
    let key : key_of c.self.inside.slots.items c.args.kind c.args.name ≡ Some c.in_ok-key.key = ap (λ s. key_of s c.args.kind c.args.name) (sym c.deref.ensures.value) ∙ sym (c.in_ok-key.ensures) in
    let found = lookup-live_in c.self.inside.values c.args.kind c.args.name c.self.inside.slots.items c.self.invariant.each in
    rw (← c.self.view_is, found, key) c.get.ensures
