use Rattle.std.proofs.Common.{◌≡◌, ℕ, ◌-◌, ◌++◌, List, length, drop, replicate, sym, ap, ◌∙◌, arith}
use Rattle.std.proofs.lemmas.List.{drop-replicate, length-take-le}
use Rattle.cb_types.specs.declared.picture_info.Reference.{Reference}
use Rattle.marking.specs.Begun.{unused}
use Rattle.marking.proofs.frames.Frames.entries.Goals as goal

pub returns : goal.returns
returns c =
    let count = c.self.inside.count in
    let long = c.self.invariant.1 in
    let many : count ≡ length c.args.self.now =
    sym (ap (λ (xs : List Reference). length xs) (sym c.self.view_is) ∙ length-take-le count c.self.inside.entries (omega (arith, c.self.invariant.0, long))) in
    let same : c.copy_from_slice.new.self ≡ c.args.self.now = c.copy_from_slice.ensures.after ∙ c.self.view_is in
    ap (λ (xs : List Reference). xs ++ drop count (replicate 16 unused)) same
    ∙ ap (λ (xs : List Reference). c.args.self.now ++ xs) (drop-replicate count 16 unused ∙ ap (λ (n : ℕ). replicate (16 - n) unused) many)
