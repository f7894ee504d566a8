use Rattle.std.proofs.Common.{◌≤◌, ◌^◌, ◌∙◌, arith}
use Rattle.std.proofs.Math.Bridge.{le_prop}
use Rattle.std.proofs.Math.Nat.{ℕ_set}
use Rattle.std.proofs.Math.Logic.{∥∥₁_elim}
use Rattle.driver_objects.proofs.Made.{added_sound, few_names}
use Rattle.driver_objects.proofs.objects.Objects.add.Goals as goal

pub overflow_add-self : goal.overflow_add-self
overflow_add-self c =
    let o = c.args.self.now in
    let few = ∥∥₁_elim o.sound.given le_prop (λ all. let bound = few_names o.names all.0 all.1 in let small : o.made ≤ 2 ^ 29 = omega (arith, bound, all.2) in small) in
    omega (arith, few)

pub invariant_of-self-2 : goal.invariant_of-self-2
invariant_of-self-2 c =
    let o = c.args.self.now in
    rw (c.push_reserved.ensures, c.reserve.ensures.items, c.unwrap_or.ensures) (record { sound = added_sound o.names c.insert.new.self o.kept.items o.made o.sound c.args.kind c.in-Ok.name c.args.device c.args.content c.in-Ok.ensures.form c.in-Ok.ensures.not_live c.in-Ok.ensures.bounded c.in-Ok.ensures.updates c.in-Ok.ensures.added c.in-Ok.ensures.given })

pub returns-in-Err-Full-clause-told : goal.returns-in-Err-Full-clause-told
returns-in-Err-Full-clause-told c =
    let o = c.args.self.now in
    let live = rw c.in-Err-Full.field-0-is at c.in-Err-Full.ensures.told_live in
    let given = rw c.in-Err-Full.field-0-is at c.in-Err-Full.ensures.told_given in
    (c.in-Err-Full.live-is ∙ (live ∙ o.sound.counted), c.in-Err-Full.given-is ∙ ∥∥₁_elim o.sound.given (ℕ_set _ _) (λ all. given all.0 all.1 ∙ all.2))
