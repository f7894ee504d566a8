-- The runs of a block.
use Rattle.std.proofs.Common.{◌≡◌, ℕ, ◌-◌, ◌<◌, Bool, List, [], ◌∷◌, ◌++◌, length, replicate, refl, sym, ap, ◌∙◌, subst, arith, pos}
use Rattle.bit_io.specs.Reads.{BeginsNone, IsPrefixFree}
use Rattle.cavlc.proofs.CoefficientLemmas.{runs-all_zeros}
use Rattle.cavlc.proofs.ElementLemmas.{run_prefix_free}
use Rattle.cavlc.proofs.TurnLemmas.{AreInTurn-nil, AreInTurn-push, none_in_turn, read_more, state_behind-push, turns_prefix_free}
use Rattle.cavlc.specs.Blocks.{HasRunCode, left_behind, run_bits}
use Rattle.cavlc.specs.Coefficients.{runs}
use Rattle.cavlc.specs.Parts.{AreRuns}
use Rattle.cavlc.specs.Turns.{AreInTurn, in_turn, state_behind}

abbrev pub runs_bits : ℕ → List ℕ → List Bool
runs_bits zeros runs = in_turn run_bits left_behind zeros runs

-- So many of the zeros are left behind runs that have been read.
pub record RunsRead (zeros left : ℕ) (runs : List ℕ) (old now : List Bool) : Type 0 where
  pub codes : AreInTurn HasRunCode left_behind zeros runs
  pub behind : left ≡ state_behind left_behind zeros runs
  pub read : old ≡ runs_bits zeros runs ++ now

pub no_runs_read : (zeros : ℕ) (old : List Bool) → RunsRead zeros zeros [] old old
unfolding in_turn state_behind
no_runs_read zeros old = record { codes = AreInTurn-nil HasRunCode run_bits left_behind zeros; behind = refl; read = refl }

pub more_runs_read : (zeros left : ℕ) (runs : List ℕ) (old mid new : List Bool) (run : ℕ) → RunsRead zeros left runs old mid → HasRunCode left run → mid ≡ run_bits left run ++ new
    → RunsRead zeros (left - run) (runs ++ run ∷ []) old new
more_runs_read zeros left runs old mid new run h k e = record {
  codes = AreInTurn-push HasRunCode run_bits left_behind zeros runs run h.codes (subst (λ (x : ℕ). HasRunCode x run) h.behind k);
  behind = ap (λ (x : ℕ). x - run) h.behind ∙ sym (state_behind-push HasRunCode run_bits left_behind zeros runs run);
  read = read_more HasRunCode run_bits left_behind zeros runs run old mid new h.read (e ∙ ap (λ (x : ℕ). run_bits x run ++ new) h.behind);
}

pub runs_prefix_free : (total zeros : ℕ) → IsPrefixFree (AreRuns total zeros) (runs_bits zeros)
runs_prefix_free total zeros v w after_v after_w h k e =
    turns_prefix_free HasRunCode run_bits left_behind run_prefix_free zeros v w after_v after_w (h.size ∙ sym k.size) h.codes k.codes e

-- No run can be read behind these.
pub no_more_runs : (total zeros left : ℕ) (runs : List ℕ) (old now : List Bool) → length runs < total - 1 → RunsRead zeros left runs old now → BeginsNone (HasRunCode left) (run_bits left) now
    → BeginsNone (AreRuns total zeros) (runs_bits zeros) old
no_more_runs total zeros left runs old now fewer h none v rest k e =
    none_in_turn HasRunCode run_bits left_behind run_prefix_free zeros runs v old now rest (omega (arith, k.size)) h.codes h.read
    (subst (λ (x : ℕ). BeginsNone (HasRunCode x) (run_bits x) now) h.behind none) k.codes e

pub none_are_runs : (total zeros : ℕ) (bits : List Bool) → total ≡ 0 → AreRuns total zeros (runs (replicate 16 (pos 0))) × (bits ≡ runs_bits zeros (runs (replicate 16 (pos 0))) ++ bits)
none_are_runs total zeros bits none =
    subst (λ (x : List ℕ). AreRuns total zeros x × (bits ≡ runs_bits zeros x ++ bits)) (sym runs-all_zeros)
    (record { size = omega (arith, none); codes = AreInTurn-nil HasRunCode run_bits left_behind zeros }, (no_runs_read zeros bits).read)

-- The runs of the block are those that were read.
pub are_runs : (total zeros left : ℕ) (read of_block : List ℕ) (old now : List Bool) → RunsRead zeros left read old now → length of_block ≡ total - 1 → of_block ≡ read
    → AreRuns total zeros of_block × (old ≡ runs_bits zeros of_block ++ now)
are_runs total zeros left read of_block old now h size same = (
  record { size = size; codes = subst (λ (x : List ℕ). AreInTurn HasRunCode left_behind zeros x) (sym same) h.codes },
  h.read ∙ ap (λ (x : List ℕ). runs_bits zeros x ++ now) (sym same),
)
