-- The equations of vectors: they look only at earlier blocks, so a new one keeps the others.
use Rattle.std.proofs.Common.{◌≡◌, ℕ, ◌+◌, ◌-◌, ◌*◌, ◌<◌, ◌≤◌, Bool, true, false, cond, eqb, ltb, inl, inr, List, length, set, get_or, refl, sym, ap, ◌∙◌, subst, arith, rules}
use Rattle.std.proofs.lemmas.Bool.{cases_lt}
use Rattle.std.proofs.lemmas.Bool.Decides.{nat_tests}
use Rattle.std.proofs.lemmas.List.{get_or-set_same, get_or-set_other}
use Rattle.cb_types.specs.Blocks.{block_at}
use Rattle.cb_types.specs.declared.macroblock.MbKind.{MbKind}
use Rattle.cb_types.specs.declared.macroblock.Vector.{Vector}
use Rattle.mv_pred.specs.Neighbours.{no_motion}
use Rattle.mv_pred.specs.declared.near.Near.{Near}
use Rattle.mv_pred.specs.declared.near.Near.TheVariants.{Missing, Inter}
use Rattle.motion.specs.Border.{vector_at}
use Rattle.motion.specs.Kinds.{is_intra}
use Rattle.motion.specs.Partitions.{first_block, partition_of}
use Rattle.motion.specs.Vectors.{AreShared, AreVectors, IsVector, IsWithinBounds, above, near_at, own, prediction, sum_of, vector_of}
use Rattle.motion.specs.declared.border.Border.{Border}
use Rattle.motion.specs.declared.partition.Partition.{Partition}
use Rattle.motion.proofs.PartitionLemmas.{first_before, same_partition}

-- two lists with the same vectors before a block
pub record AgreeBefore (end : ℕ) (v w : List Vector) : Type 0 where
  pub same : (block : ℕ) → block < end → vector_at v block ≡ vector_at w block

chosen_same : (test : Bool) (a b c : Near) → (test ≡ true → a ≡ b) → cond test a c ≡ cond test b c
chosen_same true a b c h = h refl
chosen_same false a b c h = refl

lt_from_test : (a b : ℕ) → ltb a b ≡ true → a < b
lt_from_test a b e = grind (arith, nat_tests)

own_same : (kind : MbKind) (v w : List Vector) (first block : ℕ) → AgreeBefore first v w → own kind v first block ≡ own kind w first block
own_same kind v w first block agree =
    chosen_same (ltb block first) _ _ Missing (λ e. ap (λ x. Inter (partition_of kind block).reference x) (agree.same block (lt_from_test block first e)))

near_same : (border : Border) (kind : MbKind) (v w : List Vector) (first column row : ℕ) → AgreeBefore first v w → near_at border kind v first column row ≡ near_at border kind w first column row
unfolding near_at
near_same border kind v w first column row agree =
    ap (λ z. cond (eqb row 0) (above border column) (cond (eqb column 0) (get_or border.left (row - 1) Missing) (cond (eqb column 5) Missing z))) (own_same kind v w first (block_at (column - 1) (row - 1)) agree)

pub prediction_same : (border : Border) (kind : MbKind) (v w : List Vector) (partition : Partition) → AgreeBefore (first_block partition) v w → prediction border kind v partition ≡ prediction border kind w partition
unfolding prediction
prediction_same border kind v w partition agree =
    let first = first_block partition in
    let a = near_same border kind v w first partition.column (partition.row + 1) agree in
    let b = near_same border kind v w first (partition.column + 1) partition.row agree in
    let c = near_same border kind v w first (partition.column + partition.width + 1) partition.row agree in
    let d = near_same border kind v w first partition.column partition.row agree in
    cc

fewer : (a b : ℕ) (v w : List Vector) → a ≤ b → AgreeBefore b v w → AgreeBefore a v w
fewer a b v w le agree = record { same = λ block lt. agree.same block (omega arith) }

-- the equation of a block is the same in two lists that agree on the blocks before it
pub vector_same : (border : Border) (kind : MbKind) (v w : List Vector) (block : ℕ) → block < 16 → AgreeBefore block v w → vector_of border kind v block ≡ vector_of border kind w block
unfolding vector_of
vector_same border kind v w block lt agree =
    let p : Partition = partition_of kind block in
    ap (λ z. cond (is_intra kind) no_motion (sum_of z p.delta)) (prediction_same border kind v w p (fewer (first_block p) block v w (first_before kind block lt) agree))

-- and of the first block of its partition
pub vector_of_first : (border : Border) (kind : MbKind) (v : List Vector) (block : ℕ) → block < 16 → vector_of border kind v (first_block (partition_of kind block)) ≡ vector_of border kind v block
unfolding vector_of
vector_of_first border kind v block lt =
    ap (λ (p : Partition). cond (is_intra kind) no_motion (sum_of (prediction border kind v p) p.delta)) (same_partition kind block lt)

agree_set : (v : List Vector) (block end : ℕ) (x : Vector) → end ≤ block → AgreeBefore end v (set v block x)
agree_set v block end x le = record { same = λ b lt. sym (get_or-set_other v block b x no_motion (λ e. omega arith)) }

kept : (border : Border) (kind : MbKind) (v : List Vector) (block b : ℕ) (x : Vector) → block < 16 → b < block → IsVector border kind v b → IsVector border kind (set v block x) b
kept border kind v block b x lt before is =
    let stays : vector_at v b ≡ vector_at (set v block x) b = (agree_set v block block x (omega arith)).same b before in
    record {
      value = sym stays ∙ (is.value ∙ vector_same border kind v (set v block x) b (omega arith) (agree_set v block b x (omega arith)));
      bounds = subst IsWithinBounds stays is.bounds;
    }

added : (border : Border) (kind : MbKind) (v : List Vector) (block : ℕ) (x : Vector) → block < 16 → length v ≡ 16 → x ≡ vector_of border kind v block → IsWithinBounds x → IsVector border kind (set v block x) block
added border kind v block x lt count is bounds =
    let here : vector_at (set v block x) block ≡ x = get_or-set_same v block x no_motion (omega arith) in
    record {
      value = here ∙ (is ∙ vector_same border kind v (set v block x) block lt (agree_set v block block x (omega arith)));
      bounds = subst IsWithinBounds (sym here) bounds;
    }

-- one more vector
pub vectors_more : (border : Border) (kind : MbKind) (v : List Vector) (block : ℕ) (x : Vector) → block < 16 → length v ≡ 16 → AreVectors border kind block v
    → x ≡ vector_of border kind v block → IsWithinBounds x → AreVectors border kind (block + 1) (set v block x)
vectors_more border kind v block x lt count before is bounds b within = elim (cases_lt b block) [
  | inl less ↦ kept border kind v block b x lt less (before b less)
  | inr le ↦
      let same : block ≡ b = omega arith in
      subst (λ k. IsVector border kind (set v block x) k) same (added border kind v block x lt count is bounds)
]

-- the vector of a partition's first block serves another of its blocks
pub from_first : (border : Border) (kind : MbKind) (v : List Vector) (block : ℕ) (x : Vector) → block < 16 → first_block (partition_of kind block) < block → AreVectors border kind block v
    → x ≡ vector_at v (first_block (partition_of kind block)) → (x ≡ vector_of border kind v block) × IsWithinBounds x
from_first border kind v block x lt earlier before is =
    let first = before (first_block (partition_of kind block)) earlier in
    (is ∙ (first.value ∙ vector_of_first border kind v block lt), subst IsWithinBounds (sym is) first.bounds)

-- an intra macroblock has vectors of 0
no_motion_within : IsWithinBounds no_motion
no_motion_within = search rules

pub still_vectors : (border : Border) (kind : MbKind) (v : List Vector) → is_intra kind ≡ true → ((block : ℕ) → block < 16 → vector_at v block ≡ no_motion) → AreVectors border kind 16 v
unfolding vector_of
still_vectors border kind v intra still block lt =
    record {
      value = still block lt ∙ ap (λ t. cond t no_motion (sum_of (prediction border kind v (partition_of kind block)) (partition_of kind block).delta)) (sym intra);
      bounds = subst IsWithinBounds (sym (still block lt)) no_motion_within;
    }

-- the same, where that block has a name
pub from_named : (border : Border) (kind : MbKind) (v : List Vector) (block first : ℕ) (x : Vector) → first ≡ first_block (partition_of kind block) → block < 16 → first < block → AreVectors border kind block v
    → x ≡ vector_at v first → (x ≡ vector_of border kind v block) × IsWithinBounds x
from_named border kind v block first x named lt earlier before is =
    from_first border kind v block x lt (subst (λ k. k < block) named earlier) before (is ∙ ap (vector_at v) named)

-- the blocks of a partition have one vector
pub shared_vectors : (border : Border) (kind : MbKind) (v : List Vector) → AreVectors border kind 16 v → AreShared kind v
shared_vectors border kind v are block lt =
    let first : ℕ = first_block (partition_of kind block) in
    (are block lt).value ∙ (sym (vector_of_first border kind v block lt) ∙ sym (are first (omega (arith, first_before kind block lt))).value)
