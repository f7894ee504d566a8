use Rattle.std.proofs.Common.{◌≡◌, ◌+◌, ◌*◌, ℕ, IfOk, List, vec_len, drop, arith, ap, subst, sym, ◌∙◌}
use Rattle.std.proofs.lemmas.Result.{IfOk-weaker}
use Rattle.cb_types.specs.declared.macroblock.Macroblock.{Macroblock}
use Rattle.cb_maker.specs.Slices.{MadeSlice, drawn_slice}
use Rattle.cb_maker.specs.Stream.{IsSliceUnit}
use Rattle.cb_maker.specs.declared.stream.TheConstants.{SLICE_MBS}
use Rattle.cb_maker.proofs.Units.{header_given, mbs_given, slice_drawn}
use Rattle.cb_maker.proofs.slices.slice_unit.Goals as goal

pub put_mbs-requires : goal.put_mbs-requires
put_mbs-requires c =
    let of = header_given c.args.picture c.args.number c.args.draws.now.state c.header-header.new.draws.state c.header-header.result c.requires.number c.header-header.ensures in
    record { before = omega (arith, of.1, c.requires.before); within = omega (arith, of.1); some = of.0.some; few = omega (arith, of.0.few) }

pub written-requires : goal.written-requires
written-requires c =
    let of = header_given c.args.picture c.args.number c.args.draws.now.state c.header-header.new.draws.state c.header-header.result c.requires.number c.header-header.ensures in
    let items = c.put_mbs.new.mbs.items in
    let same = c.deref.ensures.value in
    let drawn = c.in_ok-put_mbs.ensures.drawn ∙ ap (λ (s : List Macroblock). (drop c.header-header.result.first_mb s, c.put_mbs.new.draws.state)) (sym same) in
    record {
      first = of.0.first;
      header = of.0.spelled;
      same = of.0.same;
      length = c.deref.ensures.len ∙ c.in_ok-put_mbs.ensures.length;
      mbs = mbs_given c.header-header.result (drop c.header-header.result.first_mb c.deref.result.now) c.header-header.new.draws.state c.put_mbs.new.draws.state of.0 (omega (arith, of.1)) drawn;
    }

pub returns-clause-unit : goal.returns-clause-unit
returns-clause-unit c =
    let items = c.put_mbs.new.mbs.items in
    let same = c.deref.ensures.value in
    let drawn = c.in_ok-put_mbs.ensures.drawn ∙ ap (λ (s : List Macroblock). (drop c.header-header.result.first_mb s, c.put_mbs.new.draws.state)) (sym same) in
    let whole = slice_drawn c.args.picture c.args.number c.args.draws.now.state c.header-header.new.draws.state c.put_mbs.new.draws.state c.header-header.result
    (drop c.header-header.result.first_mb c.deref.result.now) c.header-header.ensures drawn in
    subst (λ (d : MadeSlice × ℕ). IfOk c.written.result (λ unit. IsSliceUnit d.0 unit.items)) (sym whole) c.written.ensures

pub returns-clause-state : goal.returns-clause-state
returns-clause-state c =
    let items = c.put_mbs.new.mbs.items in
    let same = c.deref.ensures.value in
    let drawn = c.in_ok-put_mbs.ensures.drawn ∙ ap (λ (s : List Macroblock). (drop c.header-header.result.first_mb s, c.put_mbs.new.draws.state)) (sym same) in
    let whole = slice_drawn c.args.picture c.args.number c.args.draws.now.state c.header-header.new.draws.state c.put_mbs.new.draws.state c.header-header.result
    (drop c.header-header.result.first_mb c.deref.result.now) c.header-header.ensures drawn in
    IfOk-weaker c.written.result (λ v. IsSliceUnit (record { header = c.header-header.result; mbs = drop c.header-header.result.first_mb c.deref.result.now }) v.items)
    (λ v. c.put_mbs.new.draws.state ≡ (drawn_slice c.args.picture c.args.number c.args.draws.now.state).1) (λ v is. sym (ap (λ (d : MadeSlice × ℕ). d.1) whole)) c.written.ensures

pub returns-clause-before : goal.returns-clause-before
returns-clause-before c =
    let of = header_given c.args.picture c.args.number c.args.draws.now.state c.header-header.new.draws.state c.header-header.result c.requires.number c.header-header.ensures in
    IfOk-weaker c.written.result (λ v. IsSliceUnit (record { header = c.header-header.result; mbs = drop c.header-header.result.first_mb c.deref.result.now }) v.items)
    (λ v. vec_len c.put_mbs.new.mbs ≡ SLICE_MBS * c.args.number + SLICE_MBS) (λ v is. c.in_ok-put_mbs.ensures.length ∙ ap (λ (n : ℕ). n + SLICE_MBS) of.1) c.written.ensures
