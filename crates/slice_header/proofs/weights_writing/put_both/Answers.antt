use Rattle.std.proofs.Common.{List, subst}
use Rattle.std.proofs.lemmas.Result.{on_ok_weaker}
use Rattle.element_tables.specs.Syntax.{Appends}
use Rattle.element_tables.proofs.Tables.{appends_made, appends_then}
use Rattle.slice_header.specs.Spelling.{chroma_weights}
use Rattle.cb_types.specs.declared.header.Weight.{Weight}
use Rattle.slice_header.proofs.Written.{pair_whole}
use Rattle.slice_header.proofs.weights_writing.put_both.Goals as goal

pub returns-clause-ok : goal.returns-clause-ok
unfolding chroma_weights
returns-clause-ok c =
    let ws = c.args.weights in
    on_ok_weaker c.put_weight-2.result (λ e. subst (λ (x : List Weight). Appends chroma_weights x c.args.out.now c.put_weight-2.new.out) (pair_whole _ _ c.requires.both)
    (appends_then _ c.in_ok-put_weight.ensures.ok (appends_then _ e (appends_made _ _)))) c.put_weight-2.ensures.ok
