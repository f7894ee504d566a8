use Rattle.std.proofs.Common.{◌≤◌, ◌<◌, length, rules, arith, ap, ◌∙◌, SFits, w32, to_z-of_z}
use Rattle.cavlc.proofs.ElementLemmas.{no_token, short_token, token_is, token_length}
use Rattle.cavlc.specs.Blocks.{token_list}
use Rattle.cavlc.proofs.elements.read_token.Goals as goal

pub returns-in_err-found : goal.returns-in_err-found
returns-in_err-found c =
    let fits : SFits w32 c.args.nc = search rules in
    rw c.from_residual.ensures (no_token c.args.nc c.list_of.result c.peek.result c.args.reader.now (c.list_of.ensures ∙ ap token_list (to_z-of_z fits)) c.peek.ensures c.in_err-found.ensures.none)

pub holds-requires : goal.holds-requires
holds-requires c =
    let found = c.in_ok-found.found in
    token_length c.list_of.result found.total found.ones found.length c.in_ok-found.ensures.token c.in_ok-found.ensures.length

pub returns-then-not-holds : goal.returns-then-not-holds
returns-then-not-holds c =
    let found = c.in_ok-found.found in
    let fits : SFits w32 c.args.nc = search rules in
    let short : length c.args.reader.now < found.length = search rules in
    short_token c.args.nc c.list_of.result c.peek.result c.args.reader.now (c.list_of.ensures ∙ ap token_list (to_z-of_z fits)) c.peek.ensures found.total found.ones c.in_ok-found.ensures.token c.in_ok-found.ensures.begins
    (omega (arith, short, c.in_ok-found.ensures.length))

pub skip-requires-clause-few : goal.skip-requires-clause-few
skip-requires-clause-few c =
    let found = c.in_ok-found.found in
    token_length c.list_of.result found.total found.ones found.length c.in_ok-found.ensures.token c.in_ok-found.ensures.length

pub returns : goal.returns
returns c =
    let found = c.in_ok-found.found in
    let fits : SFits w32 c.args.nc = search rules in
    let held : found.length ≤ length c.args.reader.now = search rules in
    rw c.skip.ensures (token_is c.args.nc c.list_of.result c.peek.result c.args.reader.now (c.list_of.ensures ∙ ap token_list (to_z-of_z fits)) c.peek.ensures found.total found.ones found.length
    c.in_ok-found.ensures.token c.in_ok-found.ensures.begins c.in_ok-found.ensures.length held)
