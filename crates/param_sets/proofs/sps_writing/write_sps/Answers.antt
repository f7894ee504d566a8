use Rattle.std.proofs.Common.{List, subst, sym, ℕ, ◌≡◌}
use Rattle.std.proofs.lemmas.Result.{IfOk-weaker}
use Rattle.param_sets.specs.Sps.{IsSpsOf, IsWrittenSps}
use Rattle.param_sets.proofs.Finished.{sps_finished, sps_reads_back}
use Rattle.param_sets.proofs.sps_writing.write_sps.Goals as goal

pub returns : goal.returns
returns c =
    let written = sps_finished c.bytes.result.now c.args.sps.now c.new-out.result c.put_sequence.new.out c.finish.new.self c.new-out.ensures c.in_ok-put_sequence.ensures c.in_ok-finish.ensures.ok c.bytes.ensures in
    let back = sps_reads_back c.bytes.result.now c.args.sps.now c.requires.size written in
    let bytes = c.bytes.result.now in
    let set = c.args.sps.now in
    record {
      written = IfOk-weaker c.from_slice.result (λ v. v.items ≡ bytes) (λ v. IsWrittenSps v.items set) (λ v e. subst (λ (x : List ℕ). IsWrittenSps x set) (sym e) written) c.from_slice.ensures.items;
      reads_back = IfOk-weaker c.from_slice.result (λ v. v.items ≡ bytes) (λ v. IsSpsOf v.items set) (λ v e. subst (λ (x : List ℕ). IsSpsOf x set) (sym e) back) c.from_slice.ensures.items;
    }
