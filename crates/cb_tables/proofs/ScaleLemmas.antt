-- The tables of scaling: the code's are those of the standard.
use Rattle.std.proofs.Common.{◌≡◌, ℕ, ◌≤◌, Bool, nat_eq, get_or, [], refl, arith}
use Rattle.std.proofs.lemmas.Bool.{eqb-true}
use Rattle.cb_tables.specs.declared.scaling.TheConstants.{CHROMA_QP, LEVEL_SCALE}
use Rattle.cb_tables.specs.ChromaQp.{chroma_qp_at, from_30}
use Rattle.cb_tables.specs.LevelScale.{level_scale_at, scale_rows}
use Rattle.cb_tables.proofs.Computed.{all_below, each_below}

scale_test : ℕ → ℕ → Bool
scale_test rem place = nat_eq (get_or (get_or LEVEL_SCALE rem []) place 0) (level_scale_at rem place)

pub scale_entry : (rem place : ℕ) → rem ≤ 5 → place ≤ 15 → get_or (get_or LEVEL_SCALE rem []) place 0 ≡ level_scale_at rem place
unfolding scale_test level_scale_at scale_rows
scale_entry rem place h k =
    eqb-true _ _ (each_below (scale_test rem) 16 place (each_below (λ r. all_below (scale_test r) 16) 6 rem refl (omega arith)) (omega arith))

qp_test : ℕ → Bool
qp_test index = nat_eq (get_or CHROMA_QP index 0) (chroma_qp_at index)

pub qp_entry : (index : ℕ) → index ≤ 51 → get_or CHROMA_QP index 0 ≡ chroma_qp_at index
unfolding qp_test chroma_qp_at from_30
qp_entry index h = eqb-true _ _ (each_below qp_test 52 index refl (omega arith))
