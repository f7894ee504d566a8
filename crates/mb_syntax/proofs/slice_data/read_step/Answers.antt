use Rattle.std.proofs.Common.{◌≡◌, ◌+◌, ◌-◌, ◌<◌, ◌≤◌, Bool, true, false, List, ap, arith, inl, inr, length, refl, replicate, subst, sym, ◌∙◌}
use Rattle.std.proofs.lemmas.List.{length-append, take-set-le}
use Rattle.bit_io.specs.Trailing.{HasMoreData}
use Rattle.cb_types.specs.declared.macroblock.Macroblock.{Macroblock}
use Rattle.mb_syntax.proofs.PlaceLemmas.{kept, one_put, put}
use Rattle.mb_syntax.proofs.ReadLemmas.{coded_step, end_read, no_coded, no_room}
use Rattle.mb_syntax.proofs.WholeMbs.{mb_some}
use Rattle.mb_syntax.specs.MacroblockLayer.{mb_bits, place_before}
use Rattle.mb_syntax.specs.Progress.{AreRead, IsEnd, IsBehindCoded}
use Rattle.mb_syntax.specs.SliceData.{SoFar, skipped}
use Rattle.mb_syntax.proofs.slice_data.read_step.Goals as goal

pub returns-then-not-more_data-clause-reads : goal.returns-then-not-more_data-clause-reads
returns-then-not-more_data-clause-reads c = λ at none stands.
    let slice = c.args.slice.now in
    let mbs = replicate (c.in_ok-next.next - c.args.count) skipped in
    let b = c.in_ok-next.ensures.reads at none stands in
    let no_more : HasMoreData c.read_run.new.reader → ⊥ = λ more. let e : false ≡ true = c.if-not-more_data.ensures.1 more in absurd cc in
    let at_place = put c.read_run.new.into c.args.into.now mbs c.args.count c.in_ok-next.next (omega arith) c.in_ok-next.ensures.into in
    inr (record {
      no_more = no_more;
      are = subst (λ (x : List Macroblock). AreRead slice at c.args.reader.now x (IsEnd c.read_run.new.reader)) (sym at_place) (end_read slice at b.to c.args.reader.now c.read_run.new.reader mbs b.are no_more);
    })

shorter : (is_p : Bool) (old new : List Bool) → (is_p ≡ true → length new < length old) → (is_p ≡ false → new ≡ old) → HasMoreData old → (HasMoreData new → ⊥) → length new < length old
shorter true old new less same more no_more = less refl
shorter false old new less same more no_more = absurd (no_more (subst (λ (x : List Bool). HasMoreData x) (sym (same refl)) more))

longest : (is_p : Bool) (old new : List Bool) → (is_p ≡ true → length new < length old) → (is_p ≡ false → new ≡ old) → length new ≤ length old
longest true old new less same = let h = less refl in omega (arith, h)
longest false old new less same = omega (arith, ap length (same refl))

pub returns-then-not-more_data-clause-shorter : goal.returns-then-not-more_data-clause-shorter
returns-then-not-more_data-clause-shorter c = λ before size columns.
    shorter c.args.slice.now.is_p c.args.reader.now c.read_run.new.reader c.in_ok-next.ensures.shorter c.in_ok-next.ensures.still c.requires.more
    (λ more. let e : false ≡ true = c.if-not-more_data.ensures.1 more in absurd cc)

pub returns-then-not-more_data-clause-before : goal.returns-then-not-more_data-clause-before
returns-then-not-more_data-clause-before c =
    kept c.read_run.new.into c.args.into.now _ c.args.count c.in_ok-next.next c.in_ok-next.ensures.next.0 (omega arith) c.in_ok-next.ensures.into

pub returns-then-next-slice-clause-reads : goal.returns-then-next-slice-clause-reads
returns-then-next-slice-clause-reads c = λ at none stands.
    let b = c.in_ok-next.ensures.reads at none stands in
    no_room c.args.slice.now at b.to c.args.reader.now c.read_run.new.reader _ b.are (c.if-not-more_data.ensures.0 refl) (omega (arith, b.stands.size))

pub returns-in_err-read_next-clause-reads : goal.returns-in_err-read_next-clause-reads
returns-in_err-read_next-clause-reads c = rw c.from_residual-in_err-read_next.ensures (λ at none stands.
    let b = c.in_ok-next.ensures.reads at none stands in
    no_coded c.args.slice.now at b.to c.args.reader.now c.read_run.new.reader _ b.are (c.if-not-more_data.ensures.0 refl) (c.in_err-read_next.ensures.reads b.to.before b.stands.size b.stands.counts))

pub returns-clause-reads : goal.returns-clause-reads
returns-clause-reads c = λ at none stands.
    let slice = c.args.slice.now in
    let next = c.in_ok-next.next in
    let mbs = replicate (next - c.args.count) skipped in
    let b = c.in_ok-next.ensures.reads at none stands in
    let more = c.if-not-more_data.ensures.0 refl in
    let read = c.in_ok-read_next.ensures.reads b.to.before b.stands.size b.stands.counts in
    let columns = c.in_ok-read_next.ensures.columns b.to.before b.stands.size b.stands.counts in
    let mb = c.read_next.new.mb in
    let at_place = one_put c.read_run.new.into c.args.into.now mbs c.args.count next mb (omega arith)
    (omega (arith, c.read_run.auto.into, c.if-next-slice.false, c.in_ok-next.ensures.next.1)) c.in_ok-next.ensures.into in
    inl (subst (λ (x : List Macroblock). IsBehindCoded slice at c.args.reader.now x c.read_next.new.reader c.read_next.new.columns (next + 1)) (sym at_place)
    (coded_step slice c.requires.few at c.args.reader.now c.read_run.new.reader c.read_next.new.reader mbs c.read_run.new.columns c.read_next.new.columns next b more mb read.0 read.1 columns))

pub returns-clause-shorter : goal.returns-clause-shorter
returns-clause-shorter c = λ before size columns.
    let slice = c.args.slice.now in
    let old = c.args.reader.now in
    let mid = c.read_run.new.reader in
    let at : SoFar = record { before = before; run = 0; place = place_before old } in
    let b = c.in_ok-next.ensures.reads at refl (record { size = size; whole = omega arith; counts = columns }) in
    let read = c.in_ok-read_next.ensures.reads b.to.before b.stands.size b.stands.counts in
    let mine = mb_bits slice (place_before mid) b.to.before c.read_next.new.mb in
    let some = mb_some slice (place_before mid) b.to.before c.read_next.new.mb read.0 in
    let long = longest slice.is_p old mid c.in_ok-next.ensures.shorter c.in_ok-next.ensures.still in
    omega (arith, some, long, ap length read.1, length-append mine c.read_next.new.reader)

pub returns-clause-before : goal.returns-clause-before
returns-clause-before c =
    take-set-le c.args.count c.read_run.new.into c.in_ok-next.next c.read_next.new.mb c.in_ok-next.ensures.next.0
    ∙ kept c.read_run.new.into c.args.into.now _ c.args.count c.in_ok-next.next c.in_ok-next.ensures.next.0 (omega arith) c.in_ok-next.ensures.into
