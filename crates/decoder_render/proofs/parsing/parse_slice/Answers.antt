-- What is read of the payload, step by step: where a step fails, no slice is spelled that goes on behind what was read.
use Rattle.std.proofs.Common.{◌≡◌, ℕ, length, take, drop, sym, ◌∙◌, subst, arith, rules}
use Rattle.std.proofs.lemmas.List.{length-drop, length-take-le}
use Rattle.std.proofs.lemmas.Bool.{false≢true}
use Rattle.cb_types.specs.declared.header.Header.{Header}
use Rattle.mb_syntax.specs.SliceData.{AreSliceData}
use Rattle.slice_header.specs.AcceptedSlices.{IsAcceptedSlice}
use Rattle.decoder_render.specs.Parsed.{header_in}
use Rattle.decoder_render.proofs.ParseSlice.{all_behind, can_parse, no_data, no_header, no_list, not_fitting, placed}
use Rattle.decoder_render.proofs.parsing.parse_slice.Goals as goal

pub returns-in_err-header-clause-reads : goal.returns-in_err-header-clause-reads
returns-in_err-header-clause-reads c =
    let bits = c.new-reader.ensures ∙ all_behind c.args.payload.now in
    rw c.from_residual-in_err-header.ensures
    (no_header c.args.info.now c.args.size (header_in c.args.before.now) c.args.covered c.args.payload.now c.in_ok-head.head c.new-reader.result bits c.in_ok-head.ensures c.in_err-header.ensures.reads.1)

pub returns-then-not-is_accepted-clause-reads : goal.returns-then-not-is_accepted-clause-reads
returns-then-not-is_accepted-clause-reads c =
    let bits = c.new-reader.ensures ∙ all_behind c.args.payload.now in
    let info = c.args.info.now in
    let header = c.in_ok-header.header in
    not_fitting info c.args.size (header_in c.args.before.now) c.args.covered c.args.payload.now c.in_ok-head.head header c.new-reader.result c.read_header.new.reader bits c.in_ok-head.ensures c.in_ok-header.ensures.reads
    (λ fits. false≢true (c.if-not-is_accepted.ensures.1 (subst (λ (h : Header). IsAcceptedSlice info h c.args.covered header) (sym c.first_of.ensures) fits)))

pub returns-in_err-list-clause-reads : goal.returns-in_err-list-clause-reads
returns-in_err-list-clause-reads c =
    let bits = c.new-reader.ensures ∙ all_behind c.args.payload.now in
    rw c.from_residual-in_err-list.ensures
    (no_list c.args.info.now c.args.size (header_in c.args.before.now) c.args.covered c.args.payload.now c.in_ok-head.head c.in_ok-header.header c.new-reader.result c.read_header.new.reader bits c.in_ok-head.ensures c.in_ok-header.ensures.reads c.in_err-list.ensures.list)

pub returns-in_err-count-clause-reads : goal.returns-in_err-count-clause-reads
returns-in_err-count-clause-reads c =
    let bits = c.new-reader.ensures ∙ all_behind c.args.payload.now in
    rw c.from_residual-in_err-count.ensures
    (no_data c.args.info.now c.args.size (header_in c.args.before.now) c.args.covered c.args.payload.now c.in_ok-head.head c.in_ok-header.header c.new-reader.result c.read_header.new.reader bits c.in_ok-head.ensures c.in_ok-header.ensures.reads c.in_err-count.ensures.reads)

pub returns-clause-reads : goal.returns-clause-reads
returns-clause-reads c =
    let bits = c.new-reader.ensures ∙ all_behind c.args.payload.now in
    let info = c.args.info.now in
    let header = c.in_ok-header.header in
    let list = c.in_ok-list.list in
    let count = c.in_ok-count.count in
    let into = c.read_slice_data.new.into in
    let fits = subst (λ (h : Header). IsAcceptedSlice info h c.args.covered header) c.first_of.ensures (c.if-not-is_accepted.ensures.0 (search rules)) in
    let mbs = subst (λ (n : ℕ). AreSliceData info header c.args.size c.read_header.new.reader (take count (drop n into))) fits.first_mb c.in_ok-count.ensures.reads in
    let sixteen : length list.entries ≡ 16 = search rules in
    record {
      list = take list.length list.entries;
      parse = can_parse info c.args.size (header_in c.args.before.now) c.args.covered c.args.payload.now c.in_ok-head.head header c.new-reader.result c.read_header.new.reader bits c.in_ok-head.ensures c.in_ok-header.ensures.reads
          (take list.length list.entries) (take count (drop c.args.covered into)) c.in_ok-header.ensures.head fits c.in_ok-list.ensures.list mbs;
      entries = placed list.entries list.length sixteen (omega (arith, c.in_ok-list.ensures.length, c.in_ok-header.ensures.header.active)) c.in_ok-list.ensures.beyond;
      count = length-take-le count (drop c.args.covered into) (omega (arith, length-drop c.args.covered into, c.read_slice_data.auto.into, c.in_ok-count.ensures.within, fits.first_mb, c.requires.macroblocks));
    }
