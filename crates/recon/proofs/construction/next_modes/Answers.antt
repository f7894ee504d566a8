use Rattle.std.proofs.Common.{◌≡◌, ◌∙◌, ◌+◌, ◌≤◌, ◌++◌, ◌∷◌, [], ℕ, List, Option, length, sym, ap, subst, arith}
use Rattle.std.specs.Option.{ForSome, option_map}
use Rattle.recon.specs.declared.modes.Modes.{Modes}
use Rattle.motion.specs.Around.{around_of}
use Rattle.motion.specs.Border.{macroblock_at}
use Rattle.motion.specs.declared.around.Around.{Around}
use Rattle.recon.specs.Availability.{usable_around}
use Rattle.recon.specs.Columns.{AreColumns}
use Rattle.recon.specs.Modes.{modes_in, modes_of, slice_modes}
use Rattle.recon.proofs.AroundLemmas.{above_within, left_within, length-slice_modes, next_slice_modes, usable_some}
use Rattle.recon.proofs.construction.next_modes.Goals as goal

pub returns : goal.returns
returns c =
    let first : ℕ = c.args.first in
    let width : ℕ = c.args.width in
    let number : ℕ = c.args.number in
    let mbs = c.args.macroblocks.now in
    λ constrained is columns.
    let before : List (List ℕ) = slice_modes constrained first width mbs number in
    let count : length before ≡ number = length-slice_modes constrained first width mbs number in
    let u : Around = usable_around constrained mbs (around_of first width number) in
    let left_low : ForSome c.args.usable.now.left (λ k. length before ≤ k + width) =
    subst (λ (a : Around). ForSome a.left (λ k. length before ≤ k + width)) (sym is) (usable_some constrained mbs (λ k. length before ≤ k + width) (around_of first width number).left (λ k e. omega (arith, count, left_within first width number c.requires.some k e))) in
    let above_low : ForSome c.args.usable.now.above (λ k. length before ≤ k + width) =
    subst (λ (a : Around). ForSome a.above (λ k. length before ≤ k + width)) (sym is) (usable_some constrained mbs (λ k. length before ≤ k + width) (around_of first width number).above (λ k e. omega (arith, count, above_within first width number c.requires.some k e))) in
    let l = c.modes_beside-left.ensures before columns (λ k e. omega (arith, count, c.requires.before.left k e)) left_low ∙ ap (λ (a : Around). modes_in before a.left) is in
    let m = c.modes_beside-above.ensures before columns (λ k e. omega (arith, count, c.requires.before.above k e)) above_low ∙ ap (λ (a : Around). modes_in before a.above) is in
    let modes = c.modes_of-modes.ensures ∙ (ap (λ (o : Option (List ℕ)). modes_of (macroblock_at mbs number).kind o (option_map (λ (m : Modes). m.0) c.modes_beside-above.result)) l ∙ ap (λ (o : Option (List ℕ)). modes_of (macroblock_at mbs number).kind (modes_in before u.left) o) m) in
    let kept = c.keep.ensures first before columns (omega (arith, count)) in
    (modes, subst (λ (l : List (List ℕ)). AreColumns first width l c.keep.new.self) (ap (λ (x : List ℕ). before ++ x ∷ []) modes ∙ next_slice_modes constrained first width mbs number) kept)
