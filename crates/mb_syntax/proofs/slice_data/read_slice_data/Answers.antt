use Rattle.std.proofs.Common.{◌≡◌, ◌≤◌, ◌+◌, ◌-◌, ℕ, List, ◌++◌, arith, ap, length, refl, subst, take, drop, ◌∙◌}
use Rattle.std.proofs.lemmas.List.{length-drop, take_all}
use Rattle.cb_types.specs.declared.macroblock.Macroblock.{Macroblock}
use Rattle.mb_syntax.proofs.PlaceLemmas.{behind_part}
use Rattle.mb_syntax.proofs.ReadLemmas.{read_whole}
use Rattle.mb_syntax.specs.declared.slice.Slice.{Slice}
use Rattle.mb_syntax.proofs.slice_data.read_slice_data.Goals as goal

long_part : (xs : List Macroblock) (a : ℕ) → length (take (length xs - a) (drop a xs)) ≡ length xs - a
long_part xs a = ap length (take_all (length xs - a) (drop a xs) (omega (arith, length-drop a xs))) ∙ length-drop a xs

pub returns-clause-reads : goal.returns-clause-reads
returns-clause-reads c =
    let slice = c.new-slice.result in
    let first = ap (λ (s : Slice). s.first) c.new-slice.ensures in
    let left = ap (λ (s : Slice). s.left) c.new-slice.ensures in
    let few : slice.first ≤ length c.args.into.now = omega (arith, first, left, c.if-slice-eq0.false, c.requires.room) in
    let within : c.in_ok-count.count ≤ length c.read_all.new.into =
    omega (arith, first, left, c.requires.room, c.in_ok-count.ensures.within, c.read_all.auto.into, long_part c.args.into.now slice.first) in
    let behind_all = rw c.fork-ahead.ensures at c.in_ok-count.ensures.reads in
    read_whole c.args.info.now c.args.header.now c.args.size slice c.new-slice.ensures c.args.reader.now c.read_all.new.reader c.args.into.now c.read_all.new.into _ c.in_ok-count.count few within
    (omega (arith, c.if-count-eq0.false)) behind_all (c.if-not-ends_here.ensures.0 refl)

pub returns-clause-behind : goal.returns-clause-behind
returns-clause-behind c =
    let slice = c.new-slice.result in
    let into = c.args.into.now in
    let part = c.read_all.new.into in
    let first = ap (λ (s : Slice). s.first) c.new-slice.ensures in
    let left = ap (λ (s : Slice). s.left) c.new-slice.ensures in
    let few : slice.first ≤ length into = omega (arith, first, left, c.if-slice-eq0.false, c.requires.room) in
    let k = length into - slice.first in
    let kept = behind_part into part (take k (drop slice.first into)) slice.first c.in_ok-count.count k few (omega arith) refl c.in_ok-count.ensures.behind in
    subst (λ (n : ℕ). drop (n + c.in_ok-count.count) (take slice.first into ++ (part ++ drop k (drop slice.first into))) ≡ drop (n + c.in_ok-count.count) into) first kept

pub returns-clause-within : goal.returns-clause-within
returns-clause-within c =
    let first = ap (λ (s : Slice). s.first) c.new-slice.ensures in
    let left = ap (λ (s : Slice). s.left) c.new-slice.ensures in
    omega (arith, first, left, c.if-slice-eq0.false, c.in_ok-count.ensures.within)
