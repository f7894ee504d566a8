use Rattle.std.proofs.Common.{ℕ, pos, ◌+ℤ◌, Bool, if◌then◌else◌, refl, ap, ◌∙◌, rules}
use mir.Syntax.{w64}
use mir.Val.{SFits}
use Rattle.std.proofs.lemmas.Int.{to_z-of_z}
use Rattle.marking.specs.OrderCounts.{max_lsb, wrapped_msb}
use Rattle.marking.proofs.counts.top_by_lsb.Goals as goal

pub returns-then-is_idr-clause-value : goal.returns-then-is_idr-clause-value
returns-then-is_idr-clause-value c =
    let sps = c.args.sps.now in
    let orders = c.args.orders.now in
    let lsb = pos c.args.header.now.poc_lsb in
    let fits : SFits w64 c.wrapped_top.result = search rules in
    to_z-of_z w64 c.wrapped_top.result fits ∙ c.wrapped_top.ensures.value (pos 0) (pos 0) refl refl
    ∙ ap (λ (n : ℕ). wrapped_msb n (pos 0) (pos 0) lsb +ℤ lsb) c.max_lsb-range.ensures.value
    ∙ ap (λ (b : Bool). (if b then wrapped_msb (max_lsb sps) (pos 0) (pos 0) lsb else wrapped_msb (max_lsb sps) orders.msb orders.lsb lsb) +ℤ lsb) c.if-is_idr.ensures

pub returns-else-is_idr-clause-value : goal.returns-else-is_idr-clause-value
returns-else-is_idr-clause-value c =
    let sps = c.args.sps.now in
    let orders = c.args.orders.now in
    let lsb = pos c.args.header.now.poc_lsb in
    let fits : SFits w64 c.wrapped_top-else-is_idr.result = search rules in
    let msb : SFits w64 orders.msb = search rules in
    let last : SFits w64 orders.lsb = search rules in
    to_z-of_z w64 c.wrapped_top-else-is_idr.result fits ∙ c.wrapped_top-else-is_idr.ensures.value orders.msb orders.lsb (to_z-of_z w64 orders.msb msb) (to_z-of_z w64 orders.lsb last)
    ∙ ap (λ (n : ℕ). wrapped_msb n orders.msb orders.lsb lsb +ℤ lsb) c.max_lsb-range.ensures.value
    ∙ ap (λ (b : Bool). (if b then wrapped_msb (max_lsb sps) (pos 0) (pos 0) lsb else wrapped_msb (max_lsb sps) orders.msb orders.lsb lsb) +ℤ lsb) c.if-is_idr.ensures
