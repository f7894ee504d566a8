use Rattle.std.proofs.Common.{◌≡◌, ◌+◌, ◌*◌, ◌++◌, ◌≤◌, ℕ, List, length, drop, arith, ap, subst, sym, ◌∙◌}
use Rattle.std.proofs.lemmas.List.{length-drop, take_all}
use Rattle.std.proofs.lemmas.Result.{IfOk-weaker}
use Rattle.bit_io.specs.Bits.{u}
use Rattle.bit_io.specs.Escaped.{escaped}
use Rattle.cb_types.specs.declared.macroblock.Macroblock.{Macroblock}
use Rattle.mb_syntax.specs.Slice.{slice_of}
use Rattle.mb_syntax.specs.SliceData.{IsSliceData, slice_bits}
use Rattle.cb_maker.specs.Stream.{IsSliceUnit, first_byte}
use Rattle.cb_maker.specs.declared.stream.TheConstants.{INFO, SIZE}
use Rattle.cb_maker.proofs.MadeInfo.{info_accepted}
use Rattle.cb_maker.proofs.WrittenUnits.{unit_written}
use Rattle.cb_maker.proofs.slices.written.Goals as goal

pub write_header-requires-clause-info : goal.write_header-requires-clause-info
write_header-requires-clause-info c = info_accepted

pub write_slice_data-requires-clause-spelling : goal.write_slice_data-requires-clause-spelling
write_slice_data-requires-clause-spelling c =
    let mbs = drop c.args.header.now.first_mb c.args.mbs.now in
    let all : length mbs ≤ 132 = omega (arith, length-drop c.args.header.now.first_mb c.args.mbs.now, c.requires.length) in
    subst (λ (s : List Macroblock). IsSliceData (slice_of INFO c.args.header.now SIZE) s) (sym (take_all 132 mbs all)) c.requires.mbs

pub returns : goal.returns
returns c =
    let header = c.args.header.now in
    let mbs = drop header.first_mb c.args.mbs.now in
    let bytes = c.bytes.result.now in
    let two = c.write_header.new.out in
    let byte : 32 * c.from.result + c.from-2.result ≡ first_byte header.head = omega arith in
    let all : length mbs ≤ 132 = omega (arith, length-drop header.first_mb c.args.mbs.now, c.requires.length) in
    let three = c.in_ok-write_slice_data.ensures.ok ∙ ap (λ (s : List Macroblock). two ++ slice_bits (slice_of INFO header SIZE) (length two) s) (take_all 132 mbs all) in
    IfOk-weaker c.escape.result (λ v. v.items ≡ escaped bytes) (λ v. IsSliceUnit (record { header = header; mbs = mbs }) v.items)
    (λ v e. unit_written header mbs bytes v.items c.new-out.result c.put_u.new.self two c.write_slice_data.new.out c.new-out.ensures (c.in_ok-put_u.ensures.ok ∙ ap (λ (n : ℕ). c.new-out.result ++ u n 8) byte)
    c.in_ok-write_header.ensures.ok c.requires.same three c.bytes.ensures e) c.escape.ensures
