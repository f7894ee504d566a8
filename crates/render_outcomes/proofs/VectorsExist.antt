-- A macroblock's blocks have vectors that meet their equations, or there is the first one that is outside the bounds.
use Rattle.std.proofs.Common.{◌≡◌, ℕ, suc, ◌<◌, ◌≤◌, ◌⊎◌, Bool, true, false, ◌&&◌, inl, inr, List, length, replicate, sym, ◌∙◌, subst, arith}
use Rattle.std.specs.Prelude.{ℤ, pos, neg_ℤ, int_le, int_lt}
use Rattle.std.proofs.lemmas.Bool.{and_parts}
use Rattle.std.proofs.lemmas.Int.{ints}
use Rattle.std.proofs.lemmas.List.{length-replicate}
use Rattle.cb_types.specs.declared.macroblock.MbKind.{MbKind}
use Rattle.cb_types.specs.declared.macroblock.Vector.{Vector}
use Rattle.mv_pred.specs.Neighbours.{no_motion}
use Rattle.motion.specs.Border.{vector_at}
use Rattle.motion.specs.Vectors.{AreVectors, IsBetween, IsWithinBounds, LeavesBounds, vector_of}
use Rattle.motion.specs.declared.border.Border.{Border}
use Rattle.motion.proofs.VectorLemmas.{vector_same}
use Rattle.render_outcomes.proofs.Settled.{IsFirstFailed, all_or_first, iterated, kept_by_turns, settled}
use Rattle.render_outcomes.proofs.Tables.{length-values, values, values_at}

-- the bounds, as a test
is_between : ℤ → ℤ → Bool
is_between bound z = int_le (neg_ℤ bound) z && int_lt z bound

between_from : (bound z : ℤ) → is_between bound z ≡ true → IsBetween bound z
unfolding is_between
between_from bound z passed =
    let both = and_parts (int_le (neg_ℤ bound) z) (int_lt z bound) passed in
    let low = both.0 in
    let high = both.1 in
    record { least = grind (arith, ints); most = grind (arith, ints) }

between_to : (bound z : ℤ) → IsBetween bound z → is_between bound z ≡ true
unfolding is_between
between_to bound z is =
    let low = is.least in
    let high = is.most in
    grind (arith, ints)

is_within : Vector → Bool
is_within vector = is_between (pos 8192) vector.x && is_between (pos 2048) vector.y

within_from : (vector : Vector) → is_within vector ≡ true → IsWithinBounds vector
unfolding is_within
within_from vector passed =
    let both = and_parts (is_between (pos 8192) vector.x) (is_between (pos 2048) vector.y) passed in
    record { across = between_from (pos 8192) vector.x both.0; down = between_from (pos 2048) vector.y both.1 }

within_to : (vector : Vector) → IsWithinBounds vector → is_within vector ≡ true
unfolding is_within
within_to vector is =
    let across = between_to (pos 8192) vector.x is.across in
    let down = between_to (pos 2048) vector.y is.down in
    cc

module _ (border : Border) (kind : MbKind) where
  -- each block's vector by its equation, from given ones
  next : List Vector → List Vector
  next vectors = values (λ block. vector_of border kind vectors block) 16

  record Agree (end : ℕ) (v w : List Vector) : Type 0 where
    same : (block : ℕ) → block < end → block < 16 → vector_at v block ≡ vector_at w block

  more : (end : ℕ) (v w : List Vector) → Agree end v w → Agree (suc end) (next v) (next w)
  unfolding next
  more end v w agree = record {
    same = λ block before inside.
        values_at (λ b. vector_of border kind v b) 16 block no_motion inside
        ∙ (vector_same border kind v w block inside (record { same = λ b lt. agree.same b (omega arith) (omega arith) })
        ∙ sym (values_at (λ b. vector_of border kind w b) 16 block no_motion inside));
  }

  pub solved : List Vector
  solved = iterated next (replicate 16 no_motion) 16

  pub length-solved : length solved ≡ 16
  unfolding solved next
  length-solved = kept_by_turns next (replicate 16 no_motion) (λ v. length v ≡ 16) (length-replicate 16 no_motion) (λ v. length-values (λ block. vector_of border kind v block) 16) 16

  solves : (block : ℕ) → block < 16 → vector_at solved block ≡ vector_of border kind solved block
  unfolding solved next
  solves block inside =
      (settled next (replicate 16 no_motion) Agree (λ v w. record { same = λ b lt small. absurd (omega arith) }) more 16).same block inside inside
      ∙ values_at (λ b. vector_of border kind solved b) 16 block no_motion inside

  within_before : (end : ℕ) → end ≤ 16 → ((block : ℕ) → block < end → is_within (vector_at solved block) ≡ true) → AreVectors border kind end solved
  within_before end few passed block lt = record { value = solves block (omega arith); bounds = within_from (vector_at solved block) (passed block lt) }

  leaves : (block : ℕ) → IsFirstFailed (λ b. is_within (vector_at solved b)) 16 block → LeavesBounds border kind
  leaves block first = record {
    vectors = solved;
    block = block;
    inside = first.within;
    before = within_before block (let lt = first.within in omega arith) first.before;
    outside = λ is. both_ways_of (vector_at solved block) first.failed (subst IsWithinBounds (sym (solves block first.within)) is);
  }
    where
      both_ways_of : (vector : Vector) → is_within vector ≡ false → IsWithinBounds vector → ⊥
      both_ways_of vector failed is = let passed = within_to vector is in cc

  pub vectors_or_leave : AreVectors border kind 16 solved ⊎ LeavesBounds border kind
  vectors_or_leave = elim (all_or_first (λ block. is_within (vector_at solved block)) 16) [
    | inl all ↦ inl (within_before 16 (omega arith) all)
    | inr first ↦ inr (leaves first.0 first.1)
  ]
