use Rattle.std.proofs.Common.{◌≤◌, ◌<◌, ◌++◌, length, rules, arith, sym, ap, inl, inr}
use Rattle.cavlc.proofs.ElementLemmas.{no_run, wrong_run, run_is, run_length, run_zero, run_unspelled}
use Rattle.cavlc.proofs.elements.read_run.Goals as goal
use Rattle.cavlc.proofs.elements.read_run.Goals.{then-found-left-via-then-found-left, then-found-left-via-else-found-left+then-not-holds}

pub returns-then-left-eq0 : goal.returns-then-left-eq0
returns-then-left-eq0 c =
    (run_zero c.args.left c.if-left-eq0.true, ap (λ x. x ++ c.args.reader.now) (sym (run_unspelled c.args.left 0 c.if-left-eq0.true)))

pub returns-in_err-found : goal.returns-in_err-found
returns-in_err-found c =
    rw c.from_residual.ensures (no_run c.args.left (omega arith) c.peek.result c.args.reader.now c.peek.ensures c.in_err-found.ensures.none)

pub holds-requires : goal.holds-requires
holds-requires c =
    let found = c.in_ok-found.found in
    run_length c.args.left found.value found.length c.in_ok-found.ensures.run c.in_ok-found.ensures.length

pub returns-then-found-left : goal.returns-then-found-left
returns-then-found-left c =
    let found = c.in_ok-found.found in
    let wrong = wrong_run c.args.left (omega arith) c.peek.result c.args.reader.now c.peek.ensures found.value c.in_ok-found.ensures.run c.in_ok-found.ensures.begins in
    elim c.then-found-left.branch [
      | then-found-left-via-then-found-left w ↦ wrong (inl w.if-found-left.true)
      | then-found-left-via-else-found-left+then-not-holds w ↦
          let short : length c.args.reader.now < found.length = search rules in
          wrong (inr (omega (arith, short, c.in_ok-found.ensures.length)))
    ]

pub skip-requires-clause-few : goal.skip-requires-clause-few
skip-requires-clause-few c =
    let found = c.in_ok-found.found in
    run_length c.args.left found.value found.length c.in_ok-found.ensures.run c.in_ok-found.ensures.length

pub returns : goal.returns
returns c =
    let found = c.in_ok-found.found in
    let held : found.length ≤ length c.args.reader.now = search rules in
    rw c.skip.ensures (run_is c.args.left (omega arith) c.peek.result c.args.reader.now c.peek.ensures found.value found.length
    c.in_ok-found.ensures.run c.in_ok-found.ensures.begins c.in_ok-found.ensures.length held (search rules))
