use Rattle.std.proofs.Common.{◌+◌, ◌*◌, ◌≤◌, length, refl, arith, rules}
use Rattle.std.specs.Int.Count.{count_leading_zeros}
use Rattle.bit_io.proofs.UeLemmas.{leading_is, leading_bound, ue_form, ue_within, ue_found}
use Rattle.bit_io.proofs.reader.BitReader.next_ue.Goals as goal

pub returns-then-zeros-gt31 : goal.returns-then-zeros-gt31
returns-then-zeros-gt31 c v rest h e =
    let w = c.window-window.result in
    let form = ue_form v h in
    omega (arith, form.1.below, leading_is v form.0 w c.args.self.now rest form.1 c.window-window.ensures e)

pub returns-then-not-holds : goal.returns-then-not-holds
returns-then-not-holds c v rest h e =
    let w = c.window-window.result in
    let form = ue_form v h in
    let short : 2 * count_leading_zeros 64 w + 1 ≤ length c.args.self.now =
    omega (arith, ue_within v form.0 c.args.self.now rest form.1 e, leading_is v form.0 w c.args.self.now rest form.1 c.window-window.ensures e) in
    search (rules, short)

pub code-code-requires-clause-leading : goal.code-code-requires-clause-leading
code-code-requires-clause-leading c = leading_bound c.window-window.result (count_leading_zeros 64 c.window-window.result) c.window-window.type_inv refl

pub overflow_sub-result : goal.overflow_sub-result
overflow_sub-result c =
    let w = c.window-window.result in
    let found = ue_found w (count_leading_zeros 64 w) c.code-code.result c.args.self.now c.window-window.type_inv refl (omega arith) c.window-window.ensures c.code-code.ensures (search rules) in
    found.0

pub overflow_cast-result : goal.overflow_cast-result
overflow_cast-result c =
    let w = c.window-window.result in
    let found = ue_found w (count_leading_zeros 64 w) c.code-code.result c.args.self.now c.window-window.type_inv refl (omega arith) c.window-window.ensures c.code-code.ensures (search rules) in
    omega (arith, found.1)

pub returns : goal.returns
returns c =
    let w = c.window-window.result in
    let held : 2 * count_leading_zeros 64 w + 1 ≤ length c.args.self.now = search rules in
    let found = ue_found w (count_leading_zeros 64 w) c.code-code.result c.args.self.now c.window-window.type_inv refl (omega arith) c.window-window.ensures c.code-code.ensures held in
    (omega (arith, found.1), found.2, held, omega arith)
