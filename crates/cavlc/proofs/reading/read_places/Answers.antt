use Rattle.std.proofs.Common.{◌≡◌, ◌≢◌, ◌+◌, ◌-◌, ◌≤◌, ◌<◌, ◌∷◌, [], ◌++◌, List, SFits, ap, arith, drop, get_or, length, replicate, reverse, rules, set, subst, sym, take, to_z-of_z, w32, ◌∙◌, ℕ, ℤ, pos}
use Rattle.std.proofs.lemmas.List.{get_or-take, length-reverse, length-take-le, take_more}
use Rattle.cavlc.proofs.CoefficientLemmas.{ArePlaced, last_placed, last_runs, length-gaps, length-levels, length-runs, more_placed, more_runs, no_runs_placed, none_is_placed, none_placed}
use Rattle.cavlc.proofs.RunLemmas.{RunsRead, more_runs_read, no_more_runs, no_runs_read, none_are_runs, are_runs}
use Rattle.cavlc.specs.Coefficients.{gaps, runs}
use Rattle.cavlc.proofs.reading.read_places.Goals as goal

pub returns-then-total-eq0-clause-placed : goal.returns-then-total-eq0-clause-placed
returns-then-total-eq0-clause-placed c = none_is_placed c.args.total c.args.zeros c.args.levels.now c.if-total-eq0.true (c.requires.none c.if-total-eq0.true)

pub returns-then-total-eq0-clause-reads : goal.returns-then-total-eq0-clause-reads
returns-then-total-eq0-clause-reads c = none_are_runs c.args.total c.args.zeros c.args.reader.now c.if-total-eq0.true

pub loop-i-init : goal.loop-i-init
loop-i-init c =
    let total = c.args.total in
    let zeros = c.args.zeros in
    let placed = none_placed total zeros (zeros + total - 0) (omega (arith, c.requires.within)) in
    let none : [] ≡ reverse (gaps 0 (drop (zeros + total - 0) (replicate 16 (pos 0)))) = no_runs_placed (zeros + total - 0) in
    record {
      few = omega arith;
      placed = placed;
      runs = subst (λ (x : List ℕ). RunsRead zeros zeros x c.args.reader.now c.args.reader.now) none (no_runs_read zeros c.args.reader.now);
    }

pub returns-in_err-left-clause-reads : goal.returns-in_err-left-clause-reads
returns-in_err-left-clause-reads c =
    let before = c.loop-i.invariant in
    let rest = drop (c.loop-i.left + c.args.total - c.loop-i.i) c.loop-i.into in
    let long : length (reverse (gaps 0 rest)) < c.args.total - 1 =
    omega (arith, length-reverse (gaps 0 rest), length-gaps 0 rest, length-levels rest, ap length before.placed.same_levels, length-take-le c.loop-i.i c.args.levels.now (omega (arith, c.told-levels, c.requires.within))) in
    rw c.from_residual.ensures (no_more_runs c.args.total c.args.zeros c.loop-i.left (reverse (gaps 0 rest)) c.args.reader.now c.loop-i.reader long before.runs c.in_err-left.ensures)

pub loop-i-preserved : goal.loop-i-preserved
loop-i-preserved c =
    let before = c.loop-i.invariant in
    let total = c.args.total in
    let zeros = c.args.zeros in
    let i = c.loop-i.i in
    let left = c.loop-i.left in
    let into = c.loop-i.into in
    let all = c.args.levels.now in
    let run = c.in_ok-left.field-0 in
    let level = get_or all i (pos 0) in
    let fits : SFits w32 level = search rules in
    let place = left + (total - 1) - i in
    let here : i < total - 1 = omega arith in
    let few : left ≤ zeros = before.few in
    let within : total + zeros ≤ 16 = c.requires.within in
    let read = c.in_ok-left.ensures in
    let short : run ≤ left = read.0.within in
    let start : left + total - i ≡ place + 1 = omega arith in
    let end : place - run ≡ left - run + total - (i + 1) = omega arith in
    let other : level ≢ pos 0 = λ e. c.requires.nonzero i (pos 0) (omega (arith, length-take-le total all (omega (arith, c.told-levels)))) (get_or-take total all i (pos 0) (omega arith) ∙ e) in
    let placed = subst (λ (x : ℕ). ArePlaced (take i all) total zeros left x into) start before.placed in
    let more = more_placed (take i all) total zeros left place run into level placed other (omega arith) within short (omega arith) in
    let read_before = subst (λ (x : ℕ). RunsRead zeros left (reverse (gaps 0 (drop x into))) c.args.reader.now c.loop-i.reader) start before.runs in
    let read_more = more_runs_read zeros left (reverse (gaps 0 (drop (place + 1) into))) c.args.reader.now c.loop-i.reader c.read_run.new.reader run read_before read.0 read.1 in
    let runs_more = sym (more_runs (take i all) total zeros left place run into level placed other (omega arith) within short (omega arith)) in
    rw (to_z-of_z fits) (record {
      few = omega arith;
      placed = subst (λ (x : ℕ). ArePlaced (take (i + 1) all) total zeros (left - run) x (set into place level)) end
          (subst (λ (x : List ℤ). ArePlaced x total zeros (left - run) (place - run) (set into place level)) (sym (take_more all i (pos 0) (omega (arith, c.told-levels)))) more);
      runs = subst (λ (x : ℕ). RunsRead zeros (left - run) (reverse (gaps 0 (drop x (set into place level)))) c.args.reader.now c.read_run.new.reader) end
          (subst (λ (x : List ℕ). RunsRead zeros (left - run) x c.args.reader.now c.read_run.new.reader) runs_more read_more);
    })

pub returns-clause-placed : goal.returns-clause-placed
returns-clause-placed c =
    let before = c.loop-i.invariant in
    let total = c.args.total in
    let zeros = c.args.zeros in
    let i = c.loop-i.i in
    let left = c.loop-i.left in
    let into = c.loop-i.into in
    let all = c.args.levels.now in
    let level = get_or all (total - 1) (pos 0) in
    let fits : SFits w32 level = search rules in
    let some : total ≢ 0 = c.if-total-eq0.false in
    let at : i ≡ total - 1 = omega arith in
    let few : left ≤ zeros = before.few in
    let within : total + zeros ≤ 16 = c.requires.within in
    let start : left + total - i ≡ left + 1 = omega arith in
    let size : length (take total all) ≡ total = length-take-le total all (omega (arith, c.told-levels)) in
    let other : level ≢ pos 0 = λ e. c.requires.nonzero (total - 1) (pos 0) (omega (arith, size)) (get_or-take total all (total - 1) (pos 0) (omega arith) ∙ e) in
    let placed = subst (λ (x : ℕ). ArePlaced (take i all) total zeros left x into) start before.placed in
    let more : total ≡ total - 1 + 1 = omega arith in
    let whole : take i all ++ level ∷ [] ≡ take total all =
    ap (λ (x : ℕ). take x all ++ level ∷ []) at ∙ sym (take_more all (total - 1) (pos 0) (omega (arith, c.told-levels))) ∙ sym (ap (λ (x : ℕ). take x all) more) in
    let is = last_placed (take i all) (take total all) total zeros left into level placed other whole size (omega arith) within in
    rw (to_z-of_z fits) is

pub returns-clause-reads : goal.returns-clause-reads
returns-clause-reads c =
    let before = c.loop-i.invariant in
    let total = c.args.total in
    let zeros = c.args.zeros in
    let i = c.loop-i.i in
    let left = c.loop-i.left in
    let into = c.loop-i.into in
    let all = c.args.levels.now in
    let level = get_or all (total - 1) (pos 0) in
    let fits : SFits w32 level = search rules in
    let some : total ≢ 0 = c.if-total-eq0.false in
    let at : i ≡ total - 1 = omega arith in
    let few : left ≤ zeros = before.few in
    let within : total + zeros ≤ 16 = c.requires.within in
    let start : left + total - i ≡ left + 1 = omega arith in
    let size : length (take total all) ≡ total = length-take-le total all (omega (arith, c.told-levels)) in
    let other : level ≢ pos 0 = λ e. c.requires.nonzero (total - 1) (pos 0) (omega (arith, size)) (get_or-take total all (total - 1) (pos 0) (omega arith) ∙ e) in
    let placed = subst (λ (x : ℕ). ArePlaced (take i all) total zeros left x into) start before.placed in
    let more : total ≡ total - 1 + 1 = omega arith in
    let whole : take i all ++ level ∷ [] ≡ take total all =
    ap (λ (x : ℕ). take x all ++ level ∷ []) at ∙ sym (take_more all (total - 1) (pos 0) (omega (arith, c.told-levels))) ∙ sym (ap (λ (x : ℕ). take x all) more) in
    let is = last_placed (take i all) (take total all) total zeros left into level placed other whole size (omega arith) within in
    let block = set into left level in
    let same = last_runs (take i all) (take total all) total zeros left into level placed other whole size (omega arith) within in
    let read = subst (λ (x : ℕ). RunsRead zeros left (reverse (gaps 0 (drop x into))) c.args.reader.now c.loop-i.reader) start before.runs in
    let long : length (runs block) ≡ total - 1 = length-runs block ∙ ap (λ (x : List ℤ). length x - 1) is.same_levels ∙ ap (λ (x : ℕ). x - 1) size in
    rw (to_z-of_z fits) (are_runs total zeros left (reverse (gaps 0 (drop (left + 1) into))) (runs block) c.args.reader.now c.loop-i.reader read long same)
