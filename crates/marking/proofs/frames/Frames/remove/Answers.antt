use Rattle.std.proofs.Common.{◌≡◌, ℕ, ◌+◌, ◌-◌, List, length, get_or, ap, ◌∙◌, sym, arith}
use Rattle.std.specs.Prelude.{remove}
use Rattle.std.proofs.lemmas.List.{length-take-le}
use Rattle.cb_types.specs.declared.picture_info.Reference.{Reference}
use Rattle.marking.specs.Operations.{no_frame}
use Rattle.marking.proofs.PlaceLemmas.{removed_one}
use Rattle.marking.proofs.frames.Frames.remove.Goals as goal

pub returns : goal.returns
returns c =
    let xs = c.self.inside.entries in
    let count = c.self.inside.count in
    let e = c.copy_within.ensures in
    let long = c.self.invariant.1 in
    let many : count ≡ length c.args.self.now =
    sym (ap (λ (ys : List Reference). length ys) (sym c.self.view_is) ∙ length-take-le count xs (omega (arith, c.self.invariant.0, long))) in
    removed_one no_frame xs c.copy_within.new.self c.args.place count (omega (arith, many, c.requires)) (omega (arith, c.self.invariant.0, long)) e.len
    (λ k d low high. let step : c.args.place + 1 + (k - c.args.place) ≡ k + 1 = omega arith in
    e.by_index.0 k d low (omega (arith, many, c.requires)) ∙ ap (λ (n : ℕ). get_or xs n d) step)
    e.by_index.1
    ∙ ap (λ (ys : List Reference). remove ys c.args.place) c.self.view_is
