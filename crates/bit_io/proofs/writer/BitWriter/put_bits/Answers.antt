use Rattle.std.proofs.Common.{◌≡◌, ◌≤◌, ◌+◌, ◌-◌, ◌*◌, ◌/◌, ◌^◌, ◌++◌, length, take, drop, replicate, false, ap, ◌∙◌, subst, arith, rules}
use Rattle.bit_io.proofs.WriteLemmas.{all_but_is, has_free, shifted_fits, high_fits, put_within, put_behind}
use Rattle.bit_io.specs.Bits.{u, bits_of}
use Rattle.bit_io.specs.Written.{all_but}
use Rattle.bit_io.proofs.writer.BitWriter.put_bits.Goals as goal

pub fill-requires-clause-value : goal.fill-requires-clause-value
fill-requires-clause-value c =
    let fits = shifted_fits c.args.value c.args.n c.self.inside.free c.if-n-free.true c.self.invariant.few c.requires.value in
    rw fits.1 fits.0

pub invariant_of-self : goal.invariant_of-self
invariant_of-self c =
    let items = c.self.inside.bytes.items in
    let free = c.self.inside.free in
    let whole : c.len-len.result ≡ length items = search rules in
    has_free c.fill.new.bytes.items (free - c.args.n) (all_but free items ++ u c.args.value c.args.n) (omega (arith, c.self.invariant.few))
    (put_within items c.fill.new.bytes.items c.len-len.result free c.args.n c.args.value whole c.if-n-free.true c.self.invariant.few c.requires.value c.fill.ensures.bits)

pub returns-then-n-free-clause-ok : goal.returns-then-n-free-clause-ok
returns-then-n-free-clause-ok c =
    let items = c.self.inside.bytes.items in
    let free = c.self.inside.free in
    let whole : c.len-len.result ≡ length items = search rules in
    all_but_is c.fill.new.bytes.items (free - c.args.n) (all_but free items ++ u c.args.value c.args.n)
    (put_within items c.fill.new.bytes.items c.len-len.result free c.args.n c.args.value whole c.if-n-free.true c.self.invariant.few c.requires.value c.fill.ensures.bits)
    ∙ ap (λ x. x ++ u c.args.value c.args.n) c.self.view_is

pub fill-requires-2-clause-value : goal.fill-requires-2-clause-value
fill-requires-2-clause-value c = (high_fits c.args.value c.args.n c.self.inside.free c.if-n-free.false c.requires.value).0

-- what the bytes hold where the value passes the last byte
behind : (c : goal.After-self-2-1) → bits_of c.fill-2.new.bytes.items ≡ (all_but c.self.inside.free c.self.inside.bytes.items ++ u c.args.value c.args.n) ++ replicate (8 * ((c.args.n - c.self.inside.free + 7) / 8) - (c.args.n - c.self.inside.free)) false
behind c =
    let items = c.self.inside.bytes.items in
    let free = c.self.inside.free in
    let count = (c.args.n - free + 7) / 8 in
    let high = u (c.args.value / 2 / 2 ^ (c.args.n - free - 1)) free in
    let tail = take count c.to_be_bytes-behind.result in
    let whole : c.len-len.result ≡ length items = search rules in
    let extended : c.extend_from_slice.new.self.items ≡ items ++ tail = c.in_ok-extend_from_slice.ensures.items in
    let few : c.args.n ≤ 64 = c.requires.few in
    put_behind items tail c.fill-2.new.bytes.items c.len-len.result free c.args.n c.args.value count whole c.if-n-free.false few c.requires.value
    (omega arith) (omega arith) (ap (take count) c.to_be_bytes-behind.ensures)
    (subst (λ x. bits_of c.fill-2.new.bytes.items ≡ all_but free (take c.len-len.result x) ++ high ++ bits_of (drop c.len-len.result x)) extended c.fill-2.ensures.bits)

pub invariant_of-self-2 : goal.invariant_of-self-2
invariant_of-self-2 c =
    let free = c.self.inside.free in
    has_free c.fill-2.new.bytes.items (8 * ((c.args.n - free + 7) / 8) - (c.args.n - free)) (all_but free c.self.inside.bytes.items ++ u c.args.value c.args.n) (omega arith) (behind c)

pub returns-clause-ok : goal.returns-clause-ok
returns-clause-ok c =
    let free = c.self.inside.free in
    all_but_is c.fill-2.new.bytes.items (8 * ((c.args.n - free + 7) / 8) - (c.args.n - free)) (all_but free c.self.inside.bytes.items ++ u c.args.value c.args.n) (behind c)
    ∙ ap (λ x. x ++ u c.args.value c.args.n) c.self.view_is
