use Rattle.std.proofs.Common.{ap, rules}
use Rattle.std.proofs.lemmas.Int.{to_z-of_z}
use mir.Syntax.{w32}
use mir.Val.{SFits}
use Rattle.cb_maker.proofs.Drawing.{after}
use Rattle.cb_maker.proofs.GivenHeaders.{same_header}
use Rattle.cb_types.specs.declared.header.Header.{Header}
use Rattle.cb_maker.specs.Slices.{drawn_header}
use Rattle.cb_maker.proofs.slices.header.Goals as goal

pub returns : goal.returns
unfolding drawn_header
returns c =
    let q = c.draw_around-qp_delta.result in
    let a = c.draw_around-alpha_half.result in
    let b = c.draw_around-beta_half.result in
    let fits_q : SFits w32 q = search rules in
    let fits_a : SFits w32 a = search rules in
    let fits_b : SFits w32 b = search rules in
    after _ _ _ _ _ _ c.draw_around-qp_delta.ensures (after _ _ _ _ _ _ c.draw_around-alpha_half.ensures (after _ _ _ _ _ _ c.draw_around-beta_half.ensures
    (ap (λ (h : Header). (h, c.draw_around-beta_half.new.self.state)) (same_header c.args.picture c.args.number _ _ _ _ _ q a b _ _ _
    c.head.ensures c.slice_type.ensures c.idr_pic_id.ensures c.active_override.ensures c.marking.ensures (to_z-of_z w32 q fits_q) (to_z-of_z w32 a fits_a) (to_z-of_z w32 b fits_b)))))
