use Rattle.std.proofs.Common.{◌≡◌, ◌++◌, ◌∙◌, Bool, List, SFits, ap, arith, of_z, refl, rules, subst, sym, take, to_z, to_z-of_z, w32, ℤ}
use Rattle.bit_io.specs.Reads.{BeginsNone}
use Rattle.cb_tables.specs.CoeffToken.{IsToken}
use Rattle.cavlc.proofs.BlockLemmas.{block_read, no_block_levels, no_block_room, no_block_runs, no_block_token, no_block_zeros}
use Rattle.cavlc.proofs.OnesLemmas.{levels_nonzero}
use Rattle.cavlc.specs.Blocks.{token_bits, token_list}
use Rattle.cavlc.specs.declared.elements.Token.{Token}
use Rattle.cavlc.proofs.reading.read_block_into.Goals as goal

abbrev IsTokenAt : ℤ → Token → Type 0
IsTokenAt nc token = IsToken (token_list nc) token.total token.ones

abbrev token_at : ℤ → Token → List Bool
token_at nc token = token_bits nc token.total token.ones

no_token : (found nc : ℤ) (ahead bits : List Bool) → found ≡ nc → ahead ≡ bits → BeginsNone (IsTokenAt found) (token_at found) ahead → BeginsNone (IsTokenAt nc) (token_at nc) bits
no_token found nc ahead bits e f none = subst (λ (x : ℤ). BeginsNone (IsTokenAt x) (token_at x) bits) e (subst (λ (x : List Bool). BeginsNone (IsTokenAt found) (token_at found) x) f none)

a_token : (found nc : ℤ) (token : Token) (ahead bits mid : List Bool) → found ≡ nc → ahead ≡ bits → IsTokenAt found token × (ahead ≡ token_at found token ++ mid) → IsTokenAt nc token × (bits ≡ token_at nc token ++ mid)
a_token found nc token ahead bits mid e f read = (subst (λ (x : ℤ). IsTokenAt x token) e read.0, sym f ∙ read.1 ∙ ap (λ (x : ℤ). token_at x token ++ mid) e)

pub returns-in_err-token-clause-reads : goal.returns-in_err-token-clause-reads
returns-in_err-token-clause-reads c =
    let nc = c.args.nc in
    let fits : SFits w32 nc = search rules in
    rw c.from_residual.ensures
    (refl, no_block_token nc c.args.most c.args.reader.now (no_token (to_z w32 (of_z w32 nc)) nc c.fork-ahead.result c.args.reader.now (to_z-of_z fits) c.fork-ahead.ensures c.in_err-token.ensures))

pub returns-then-token-most-clause-reads : goal.returns-then-token-most-clause-reads
returns-then-token-most-clause-reads c =
    let nc = c.args.nc in
    let old = c.args.reader.now in
    let fits : SFits w32 nc = search rules in
    let token = c.in_ok-token.token in
    let mid = c.read_token.new.reader in
    let read = a_token (to_z w32 (of_z w32 nc)) nc token c.fork-ahead.result old mid (to_z-of_z fits) c.fork-ahead.ensures c.in_ok-token.ensures in
    (refl, no_block_room nc c.args.most old token.total token.ones mid read.0 read.1 (omega arith))

pub returns-in_err-levels-clause-reads : goal.returns-in_err-levels-clause-reads
returns-in_err-levels-clause-reads c =
    let nc = c.args.nc in
    let old = c.args.reader.now in
    let fits : SFits w32 nc = search rules in
    let token = c.in_ok-token.token in
    let mid = c.read_token.new.reader in
    let read = a_token (to_z w32 (of_z w32 nc)) nc token c.fork-ahead.result old mid (to_z-of_z fits) c.fork-ahead.ensures c.in_ok-token.ensures in
    rw c.from_residual-in_err-levels.ensures (refl, no_block_levels nc c.args.most old token.total token.ones mid read.0 read.1 c.in_err-levels.ensures)

pub returns-in_err-zeros-clause-reads : goal.returns-in_err-zeros-clause-reads
returns-in_err-zeros-clause-reads c =
    let nc = c.args.nc in
    let old = c.args.reader.now in
    let fits : SFits w32 nc = search rules in
    let token = c.in_ok-token.token in
    let mid = c.read_token.new.reader in
    let read = a_token (to_z w32 (of_z w32 nc)) nc token c.fork-ahead.result old mid (to_z-of_z fits) c.fork-ahead.ensures c.in_ok-token.ensures in
    let levels = take token.total c.in_ok-levels.levels in
    rw c.from_residual-in_err-zeros.ensures
    (refl, no_block_zeros nc c.args.most old token.total token.ones mid read.0 read.1 levels c.read_levels.new.reader c.in_ok-levels.ensures.0 c.in_ok-levels.ensures.1 c.in_err-zeros.ensures)

pub read_places-requires-clause-nonzero : goal.read_places-requires-clause-nonzero
read_places-requires-clause-nonzero c =
    let token = c.in_ok-token.token in
    levels_nonzero token.total token.ones (take token.total c.in_ok-levels.levels) c.in_ok-levels.ensures.0

pub returns-in_err-read_places-clause-reads : goal.returns-in_err-read_places-clause-reads
returns-in_err-read_places-clause-reads c =
    let nc = c.args.nc in
    let old = c.args.reader.now in
    let fits : SFits w32 nc = search rules in
    let token = c.in_ok-token.token in
    let mid = c.read_token.new.reader in
    let read = a_token (to_z w32 (of_z w32 nc)) nc token c.fork-ahead.result old mid (to_z-of_z fits) c.fork-ahead.ensures c.in_ok-token.ensures in
    let levels = take token.total c.in_ok-levels.levels in
    rw c.from_residual-in_err-read_places.ensures (
      refl,
      no_block_runs nc c.args.most old token.total token.ones mid read.0 read.1 levels c.read_levels.new.reader c.in_ok-levels.ensures.0 c.in_ok-levels.ensures.1
          c.in_ok-zeros.zeros c.read_zeros.new.reader c.in_ok-zeros.ensures.0 c.in_ok-zeros.ensures.1 c.in_err-read_places.ensures.reads,
    )

pub returns-clause-reads : goal.returns-clause-reads
returns-clause-reads c =
    let nc = c.args.nc in
    let old = c.args.reader.now in
    let fits : SFits w32 nc = search rules in
    let token = c.in_ok-token.token in
    let mid = c.read_token.new.reader in
    let read = a_token (to_z w32 (of_z w32 nc)) nc token c.fork-ahead.result old mid (to_z-of_z fits) c.fork-ahead.ensures c.in_ok-token.ensures in
    let levels = take token.total c.in_ok-levels.levels in
    let runs = c.in_ok-read_places.ensures.reads in
    let block = block_read nc c.args.most old token.total token.ones mid read.0 read.1 levels c.read_levels.new.reader c.in_ok-levels.ensures.0 c.in_ok-levels.ensures.1
    c.in_ok-zeros.zeros c.read_zeros.new.reader c.read_places.new.reader c.read_places.new.into c.in_ok-zeros.ensures.0 c.in_ok-zeros.ensures.1 runs.0 runs.1 c.in_ok-read_places.ensures.placed in
    (block.0, block.1)
