use Rattle.std.proofs.Common.{◌≡◌, None, Some, refl, arith}
use Rattle.inter_pred.specs.declared.parts.Part.TheVariants.{Whole, WholeRight, WholeBelow, Across, AcrossBelow, Down, DownRight, Centre}
use Rattle.inter_pred.specs.declared.parts.Parts.{Parts}
use Rattle.inter_pred.specs.Luma.{b, h, j, quarter}
use Rattle.inter_pred.specs.Parts.{part_at}
use Rattle.inter_pred.proofs.Table.{found, mean-swap}
use Rattle.inter_pred.proofs.parts.made_of.Goals as goal
use Rattle.inter_pred.proofs.parts.made_of.Goals.{in_default-via-in-0+in_default, in_default-via-in-1+in_default, in_default-via-in-2+in_default, in_default-via-in-3+in_default, in_default-via-in_default}

pub returns-in-0-eq0 : goal.returns-in-0-eq0
unfolding part_at quarter
returns-in-0-eq0 c =
    let p : Parts = record { first = Whole; second = None } in
    found p 0 0 (λ n. refl) c.alone.result c.args.right c.args.below c.alone.ensures c.in-0-eq0.is-0 c.in-0-eq0.is-1

pub returns-in-0-eq1 : goal.returns-in-0-eq1
unfolding part_at quarter
returns-in-0-eq1 c =
    let p : Parts = record { first = Down; second = Some Whole } in
    found p 0 1 (λ n. mean-swap (h n) (n 2 2)) c.both.result c.args.right c.args.below c.both.ensures c.in-0-eq1.is-0 c.in-0-eq1.is-1

pub returns-in-0-eq2 : goal.returns-in-0-eq2
unfolding part_at quarter
returns-in-0-eq2 c =
    let p : Parts = record { first = Down; second = None } in
    found p 0 2 (λ n. refl) c.alone-in-0-eq2.result c.args.right c.args.below c.alone-in-0-eq2.ensures c.in-0-eq2.is-0 c.in-0-eq2.is-1

pub returns-in-0-eq3 : goal.returns-in-0-eq3
unfolding part_at quarter
returns-in-0-eq3 c =
    let p : Parts = record { first = Down; second = Some WholeBelow } in
    found p 0 3 (λ n. mean-swap (h n) (n 2 3)) c.both-in-0-eq3.result c.args.right c.args.below c.both-in-0-eq3.ensures c.in-0-eq3.is-0 c.in-0-eq3.is-1

pub returns-in-1-eq0 : goal.returns-in-1-eq0
unfolding part_at quarter
returns-in-1-eq0 c =
    let p : Parts = record { first = Across; second = Some Whole } in
    found p 1 0 (λ n. mean-swap (b n) (n 2 2)) c.both-in-1-eq0.result c.args.right c.args.below c.both-in-1-eq0.ensures c.in-1-eq0.is-0 c.in-1-eq0.is-1

pub returns-in-1-eq1 : goal.returns-in-1-eq1
unfolding part_at quarter
returns-in-1-eq1 c =
    let p : Parts = record { first = Across; second = Some Down } in
    found p 1 1 (λ n. refl) c.both-in-1-eq1.result c.args.right c.args.below c.both-in-1-eq1.ensures c.in-1-eq1.is-0 c.in-1-eq1.is-1

pub returns-in-1-eq2 : goal.returns-in-1-eq2
unfolding part_at quarter
returns-in-1-eq2 c =
    let p : Parts = record { first = Centre; second = Some Down } in
    found p 1 2 (λ n. mean-swap (j n) (h n)) c.both-in-1-eq2.result c.args.right c.args.below c.both-in-1-eq2.ensures c.in-1-eq2.is-0 c.in-1-eq2.is-1

pub returns-in-1-eq3 : goal.returns-in-1-eq3
unfolding part_at quarter
returns-in-1-eq3 c =
    let p : Parts = record { first = Down; second = Some AcrossBelow } in
    found p 1 3 (λ n. refl) c.both-in-1-eq3.result c.args.right c.args.below c.both-in-1-eq3.ensures c.in-1-eq3.is-0 c.in-1-eq3.is-1

pub returns-in-2-eq0 : goal.returns-in-2-eq0
unfolding part_at quarter
returns-in-2-eq0 c =
    let p : Parts = record { first = Across; second = None } in
    found p 2 0 (λ n. refl) c.alone-in-2-eq0.result c.args.right c.args.below c.alone-in-2-eq0.ensures c.in-2-eq0.is-0 c.in-2-eq0.is-1

pub returns-in-2-eq1 : goal.returns-in-2-eq1
unfolding part_at quarter
returns-in-2-eq1 c =
    let p : Parts = record { first = Centre; second = Some Across } in
    found p 2 1 (λ n. mean-swap (j n) (b n)) c.both-in-2-eq1.result c.args.right c.args.below c.both-in-2-eq1.ensures c.in-2-eq1.is-0 c.in-2-eq1.is-1

pub returns-in-2-eq2 : goal.returns-in-2-eq2
unfolding part_at quarter
returns-in-2-eq2 c =
    let p : Parts = record { first = Centre; second = None } in
    found p 2 2 (λ n. refl) c.alone-in-2-eq2.result c.args.right c.args.below c.alone-in-2-eq2.ensures c.in-2-eq2.is-0 c.in-2-eq2.is-1

pub returns-in-2-eq3 : goal.returns-in-2-eq3
unfolding part_at quarter
returns-in-2-eq3 c =
    let p : Parts = record { first = Centre; second = Some AcrossBelow } in
    found p 2 3 (λ n. refl) c.both-in-2-eq3.result c.args.right c.args.below c.both-in-2-eq3.ensures c.in-2-eq3.is-0 c.in-2-eq3.is-1

pub returns-in-3-eq0 : goal.returns-in-3-eq0
unfolding part_at quarter
returns-in-3-eq0 c =
    let p : Parts = record { first = Across; second = Some WholeRight } in
    found p 3 0 (λ n. mean-swap (b n) (n 3 2)) c.both-in-3-eq0.result c.args.right c.args.below c.both-in-3-eq0.ensures c.in-3-eq0.is-0 c.in-3-eq0.is-1

pub returns-in-3-eq1 : goal.returns-in-3-eq1
unfolding part_at quarter
returns-in-3-eq1 c =
    let p : Parts = record { first = Across; second = Some DownRight } in
    found p 3 1 (λ n. refl) c.both-in-3-eq1.result c.args.right c.args.below c.both-in-3-eq1.ensures c.in-3-eq1.is-0 c.in-3-eq1.is-1

pub returns-in-3-eq2 : goal.returns-in-3-eq2
unfolding part_at quarter
returns-in-3-eq2 c =
    let p : Parts = record { first = Centre; second = Some DownRight } in
    found p 3 2 (λ n. refl) c.both-in-3-eq2.result c.args.right c.args.below c.both-in-3-eq2.ensures c.in-3-eq2.is-0 c.in-3-eq2.is-1

pub returns-in_default : goal.returns-in_default
unfolding part_at quarter
returns-in_default c =
    let p : Parts = record { first = DownRight; second = Some AcrossBelow } in
    let last : (c.args.right ≡ 3) × (c.args.below ≡ 3) = elim c.in_default.branch [
      | in_default-via-in-0+in_default w ↦ (omega arith, omega arith)
      | in_default-via-in-1+in_default w ↦ (omega arith, omega arith)
      | in_default-via-in-2+in_default w ↦ (omega arith, omega arith)
      | in_default-via-in-3+in_default w ↦ (omega arith, omega arith)
      | in_default-via-in_default w ↦ (omega arith, omega arith)
    ] in
    found p 3 3 (λ n. refl) c.both-in_default.result c.args.right c.args.below c.both-in_default.ensures last.0 last.1
