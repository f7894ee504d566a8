use Rattle.std.proofs.Common.{◌≡◌, ◌≤◌, ◌<◌, ◌-◌, ◌*◌, ◌/◌, ◌%◌, ◌^◌, length, get_or, take, set, ap, ◌∙◌, arith, rules}
use Rattle.std.proofs.lemmas.List.{get_or_read, length-take-le}
use Rattle.bit_io.proofs.WriteLemmas.{cut_within, cut_whole}
use Rattle.bit_io.specs.Bits.{bits_of}
use Rattle.bit_io.proofs.writer.cut.Goals as goal

pub returns-then-free-gt0 : goal.returns-then-free-gt0
returns-then-free-gt0 c =
    let items = c.args.bytes.now.items in
    let byte = c.index-last.result.now in
    let i = c.args.len - 1 in
    let within : c.args.len ≤ length items = search rules in
    let size : length (take c.args.len items) ≡ c.args.len = length-take-le c.args.len items within in
    let some : 1 ≤ c.args.len = omega (arith, c.requires.within) in
    let here : i < length (take c.args.len items) = omega (arith, size) in
    let there : byte ≡ get_or (take c.args.len items) i byte = c.index-last.ensures ∙ ap (λ x. get_or x i byte) c.truncate.ensures.items in
    let read = get_or_read (take c.args.len items) i byte here there 0 in
    record { bits = ap (λ x. bits_of (set x i (byte / 2 ^ c.args.free * 2 ^ c.args.free % 256))) c.truncate.ensures.items ∙ cut_within items c.args.len c.args.free byte within some c.requires.few read }

pub returns-else-free-gt0 : goal.returns-else-free-gt0
returns-else-free-gt0 c =
    let items = c.args.bytes.now.items in
    let within : c.args.len ≤ length items = search rules in
    record { bits = ap bits_of c.truncate.ensures.items ∙ cut_whole items c.args.len c.args.free within c.if-free-gt0.false }
