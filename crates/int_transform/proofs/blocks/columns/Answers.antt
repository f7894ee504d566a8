use Rattle.std.proofs.Common.{◌^◌, pos, List, ℕ, ℤ, rules, subst, sym, ap, ◌∙◌}
use Rattle.int_transform.specs.Bounds.{AreWithin}
use Rattle.int_transform.specs.Residual.{sample_from}
use Rattle.int_transform.specs.Scan.{value_at}
use Rattle.int_transform.proofs.Columns.{columns_are, columns_within}
use Rattle.int_transform.proofs.SampleColumns.{column_is}
use Rattle.int_transform.proofs.blocks.columns.Goals as goal

pub returns : goal.returns
returns c =
    let sample : ℕ → ℕ → ℤ = sample_from c.args.first c.args.second c.args.third c.args.fourth in
    let column_a = column_is c.args.first c.args.second c.args.third c.args.fourth 0 c.column.result (c.requires.first 0 (pos 0) (search rules)) (c.requires.second 0 (pos 0) (search rules)) (c.requires.third 0 (pos 0) (search rules)) (c.requires.fourth 0 (pos 0) (search rules)) c.column.ensures in
    let column_b = column_is c.args.first c.args.second c.args.third c.args.fourth 1 c.column-2.result (c.requires.first 1 (pos 0) (search rules)) (c.requires.second 1 (pos 0) (search rules)) (c.requires.third 1 (pos 0) (search rules)) (c.requires.fourth 1 (pos 0) (search rules)) c.column-2.ensures in
    let column_c = column_is c.args.first c.args.second c.args.third c.args.fourth 2 c.column-3.result (c.requires.first 2 (pos 0) (search rules)) (c.requires.second 2 (pos 0) (search rules)) (c.requires.third 2 (pos 0) (search rules)) (c.requires.fourth 2 (pos 0) (search rules)) c.column-3.ensures in
    let column_d = column_is c.args.first c.args.second c.args.third c.args.fourth 3 c.column-4.result (c.requires.first 3 (pos 0) (search rules)) (c.requires.second 3 (pos 0) (search rules)) (c.requires.third 3 (pos 0) (search rules)) (c.requires.fourth 3 (pos 0) (search rules)) c.column-4.ensures in
    record {
      samples = λ row column hr hc. ap (λ (x : List ℤ). value_at x _) c.by_rows.ensures ∙ columns_are (2 ^ 25) sample _ _ _ _ column_a column_b column_c column_d row column hr hc;
      within = subst (AreWithin (2 ^ 25)) (sym c.by_rows.ensures) (columns_within (2 ^ 25) sample _ _ _ _ column_a column_b column_c column_d);
    }
