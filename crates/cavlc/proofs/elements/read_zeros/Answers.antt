use Rattle.std.proofs.Common.{◌≡◌, ◌≤◌, ◌<◌, ◌++◌, length, rules, arith, sym, ap, inl, inr, ◌⊎◌}
use Rattle.cavlc.proofs.ElementLemmas.{no_zeros, wrong_zeros, zeros_are, zeros_length, zeros_zero, zeros_unspelled}
use Rattle.cavlc.proofs.elements.read_zeros.Goals as goal
use Rattle.cavlc.proofs.elements.read_zeros.Goals.{then-found-most-via-then-found-most, then-found-most-via-else-found-most+then-not-holds}

pub returns-then-total-eq0 : goal.returns-then-total-eq0
returns-then-total-eq0 c =
    let none : (c.args.total ≡ 0) ⊎ (c.args.most ≤ c.args.total) = elim c.then-total-eq0.either [ inl e ↦ inl e | inr e ↦ inr (omega (arith, e.1)) ] in
    (zeros_zero c.args.most c.args.total none (omega arith), ap (λ x. x ++ c.args.reader.now) (sym (zeros_unspelled c.args.most c.args.total 0 none)))

pub returns-in_err-found : goal.returns-in_err-found
returns-in_err-found c =
    rw c.from_residual.ensures (no_zeros c.args.most c.args.total (omega arith) (omega arith) c.peek.result c.args.reader.now c.peek.ensures c.in_err-found.ensures.none)

pub holds-requires : goal.holds-requires
holds-requires c =
    let found = c.in_ok-found.found in
    zeros_length c.args.most c.args.total (omega arith) (omega arith) found.value found.length c.in_ok-found.ensures.zeros c.in_ok-found.ensures.length

pub returns-then-found-most : goal.returns-then-found-most
returns-then-found-most c =
    let found = c.in_ok-found.found in
    let wrong = wrong_zeros c.args.most c.args.total (omega arith) (omega arith) c.peek.result c.args.reader.now c.peek.ensures found.value c.in_ok-found.ensures.zeros c.in_ok-found.ensures.begins in
    elim c.then-found-most.branch [
      | then-found-most-via-then-found-most w ↦ wrong (inl w.if-found-most.true)
      | then-found-most-via-else-found-most+then-not-holds w ↦
          let short : length c.args.reader.now < found.length = search rules in
          wrong (inr (omega (arith, short, c.in_ok-found.ensures.length)))
    ]

pub skip-requires-clause-few : goal.skip-requires-clause-few
skip-requires-clause-few c =
    let found = c.in_ok-found.found in
    zeros_length c.args.most c.args.total (omega arith) (omega arith) found.value found.length c.in_ok-found.ensures.zeros c.in_ok-found.ensures.length

pub returns : goal.returns
returns c =
    let found = c.in_ok-found.found in
    let held : found.length ≤ length c.args.reader.now = search rules in
    rw c.skip.ensures (zeros_are c.args.most c.args.total (omega arith) (omega arith) c.peek.result c.args.reader.now c.peek.ensures found.value found.length
    c.in_ok-found.ensures.zeros c.in_ok-found.ensures.begins c.in_ok-found.ensures.length held (search rules))
