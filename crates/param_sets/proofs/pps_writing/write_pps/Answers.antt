use Rattle.std.proofs.Common.{List, subst, sym, ℕ, ◌≡◌}
use Rattle.std.proofs.lemmas.Result.{IfOk-weaker}
use Rattle.param_sets.specs.Pps.{IsPpsOf, IsWrittenPps, pic_parameter_set_data}
use Rattle.element_tables.specs.Syntax.{Appends}
use Rattle.param_sets.proofs.Grouped.{appends_pps, grouped_pps}
use Rattle.element_tables.proofs.Tables.{appends_made, appends_then}
use Rattle.param_sets.proofs.Finished.{pps_finished, pps_reads_back}
use Rattle.param_sets.proofs.pps_writing.write_pps.Goals as goal

pub returns : goal.returns
unfolding grouped_pps
returns c =
    let all : Appends pic_parameter_set_data c.args.pps.now c.new-out.result c.put_residuals.new.out = appends_pps _ _ _ (appends_then _ c.in_ok-put_references.ensures (appends_then _ c.in_ok-put_residuals.ensures (appends_made _ _))) in
    let written = pps_finished c.bytes.result.now c.args.pps.now c.new-out.result c.put_residuals.new.out c.finish.new.self c.new-out.ensures all c.in_ok-finish.ensures.ok c.bytes.ensures in
    let back = pps_reads_back c.bytes.result.now c.args.pps.now written in
    let bytes = c.bytes.result.now in
    let set = c.args.pps.now in
    record {
      written = IfOk-weaker c.from_slice.result (λ v. v.items ≡ bytes) (λ v. IsWrittenPps v.items set) (λ v e. subst (λ (x : List ℕ). IsWrittenPps x set) (sym e) written) c.from_slice.ensures.items;
      reads_back = IfOk-weaker c.from_slice.result (λ v. v.items ≡ bytes) (λ v. IsPpsOf v.items set) (λ v e. subst (λ (x : List ℕ). IsPpsOf x set) (sym e) back) c.from_slice.ensures.items;
    }
