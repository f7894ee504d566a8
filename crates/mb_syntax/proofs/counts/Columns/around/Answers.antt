use Rattle.std.proofs.Common.{[]}
use Rattle.mb_syntax.proofs.CountLemmas.{above_at, above_nowhere, left_at, left_nowhere}
use Rattle.mb_syntax.specs.declared.counts.Counts.{Counts}
use Rattle.mb_syntax.proofs.counts.Columns.around.Goals as goal
use Rattle.mb_syntax.proofs.counts.Columns.around.Goals.{then-column-gt0+then-behind-gt0, else-column-gt0}

pub returns-then-behind-slice : goal.returns-then-behind-slice
returns-then-behind-slice c before e are =
    let slice = c.args.slice.now in
    let columns = c.args.self.now in
    let some = c.requires.some in
    let n = c.args.behind in
    let missing : Counts = record { luma = []; cb = []; cr = [] } in
    record {
      left = elim c.if-column-gt0.branch [
        | then-column-gt0+then-behind-gt0 w ↦ left_at slice before columns some are n e missing c.if-column-gt0.result w.result-is w.if-column-gt0.true w.if-behind-gt0.true
        | else-column-gt0 w ↦ left_nowhere slice before n e c.if-column-gt0.result w.result-is w.else-column-gt0.either
      ];
      above = above_at slice before columns some are n e missing c.if-behind-slice.true;
    }

pub returns-else-behind-slice : goal.returns-else-behind-slice
returns-else-behind-slice c before e are =
    let slice = c.args.slice.now in
    let columns = c.args.self.now in
    let some = c.requires.some in
    let n = c.args.behind in
    let missing : Counts = record { luma = []; cb = []; cr = [] } in
    record {
      left = elim c.if-column-gt0.branch [
        | then-column-gt0+then-behind-gt0 w ↦ left_at slice before columns some are n e missing c.if-column-gt0.result w.result-is w.if-column-gt0.true w.if-behind-gt0.true
        | else-column-gt0 w ↦ left_nowhere slice before n e c.if-column-gt0.result w.result-is w.else-column-gt0.either
      ];
      above = above_nowhere slice before n e c.if-behind-slice.false;
    }
