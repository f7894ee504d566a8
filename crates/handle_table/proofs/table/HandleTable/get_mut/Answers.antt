use borrow.Follows.Closed.{read_of}
use Rattle.std.proofs.Common.{rules, ◌≡◌, Some, None, map, refl, sym, ap, ◌∙◌}
use Rattle.std.specs.Option.{ghost_name_of}
use Rattle.handle_table.specs.Slots.{key_of, live_in, used_of}
use Rattle.handle_table.proofs.Found.{lookup-live_in}
use Rattle.handle_table.proofs.Changed.{IsSound-written, live_in-written}
use Rattle.handle_table.proofs.table.HandleTable.get_mut.Goals as goal

pub returns-in_err-key : goal.returns-in_err-key
returns-in_err-key g c =
    let key : key_of c.self.inside.slots.items c.args.kind c.args.name ≡ None = ap (λ s. key_of s c.args.kind c.args.name) (sym c.deref.ensures.value) ∙ sym (c.in_err-key.ensures) in
    let found = lookup-live_in c.self.inside.values c.args.kind c.args.name c.self.inside.slots.items c.self.invariant.each in
    let none : c.from_residual.result ≡ None = search rules in
    rw (← c.self.view_is, none) (refl, record { writes_back = tt; value = rw (found, key) refl })

pub invariant_of-self-lent : goal.invariant_of-self-lent
invariant_of-self-lent g c =
    let key : key_of c.self.inside.slots.items c.args.kind c.args.name ≡ Some c.in_ok-key.key = ap (λ s. key_of s c.args.kind c.args.name) (sym c.deref.ensures.value) ∙ sym (c.in_ok-key.ensures) in
    λ o. (λ w. IsSound-written c.self.inside.slots.items c.self.inside.values c.args.kind c.args.name c.in_ok-key.key c.self.invariant key w, c.self.invariant)

pub returns : goal.returns
returns g c =
    let slots = c.self.inside.slots.items in
    let values = c.self.inside.values in
    let key : key_of slots c.args.kind c.args.name ≡ Some c.in_ok-key.key = ap (λ s. key_of s c.args.kind c.args.name) (sym c.deref.ensures.value) ∙ sym (c.in_ok-key.ensures) in
    let found = lookup-live_in values c.args.kind c.args.name slots c.self.invariant.each in
    rw (← c.self.view_is) (
      λ t. read_of (ghost_name_of c.get_mut.result)
          (λ (w : g.row.T.Denot). record { live = live_in-written slots values c.args.kind c.args.name c.in_ok-key.key c.self.invariant key w t; generations = map used_of slots })
          (record { live = live_in values slots; generations = map used_of slots }),
      record { writes_back = tt; value = rw (found, key) c.get_mut.ensures.value },
    )
