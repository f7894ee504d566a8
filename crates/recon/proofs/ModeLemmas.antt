-- The modes of the first blocks of an Intra4x4 macroblock, one after the other.
use Rattle.std.proofs.Common.{◌≡◌, ℕ, suc, ◌+◌, ◌-◌, ◌<◌, eqb, List, [], ◌∷◌, ◌++◌, length, take, set, get_or, Option, Some, refl, sym, ap, ◌∙◌, subst, arith}
use Rattle.std.proofs.Math.Seq.{take-suc-set}
use Rattle.std.proofs.lemmas.List.{get_or-take, take_all}
use Rattle.cb_types.specs.Blocks.{block_at, block_column, block_row}
use Rattle.cb_types.specs.declared.macroblock.Mode.{Mode}
use Rattle.recon.specs.Modes.{above_mode, chosen, first_modes, left_mode, predicted_mode, spelled_at}
use Rattle.recon.proofs.SidesLemmas.{by_cases, isnt_from}

-- two lists with the same modes before a block
pub record SameModes (end : ℕ) (m n : List ℕ) : Type 0 where
  pub same : (block : ℕ) → block < end → get_or m block 0 ≡ get_or n block 0

left_same : (left : Option (List ℕ)) (m n : List ℕ) (block : ℕ) → block < 16 → SameModes block m n → left_mode left m block ≡ left_mode left n block
left_same left m n block lt same =
    by_cases (eqb (block_column block) 0) _ _ _ _ (λ e. refl)
    (λ e. let some : block_column block ≡ 0 → ⊥ = isnt_from _ 0 e in ap Some (same.same (block_at (block_column block - 1) (block_row block)) (omega arith)))

above_same : (above : Option (List ℕ)) (m n : List ℕ) (block : ℕ) → block < 16 → SameModes block m n → above_mode above m block ≡ above_mode above n block
above_same above m n block lt same =
    by_cases (eqb (block_row block) 0) _ _ _ _ (λ e. refl)
    (λ e. let some : block_row block ≡ 0 → ⊥ = isnt_from _ 0 e in ap Some (same.same (block_at (block_column block) (block_row block - 1)) (omega arith)))

predicted_same : (left above : Option (List ℕ)) (m n : List ℕ) (block : ℕ) → block < 16 → SameModes block m n → predicted_mode left above m block ≡ predicted_mode left above n block
predicted_same left above m n block lt same =
    let a = left_same left m n block lt same in
    let b = above_same above m n block lt same in
    cc

-- one more mode
pub modes_more : (spelled : List Mode) (left above : Option (List ℕ)) (modes : List ℕ) (block x : ℕ) → block < 16 → length modes ≡ 16
    → take block modes ≡ first_modes spelled left above block
    → x ≡ chosen (spelled_at spelled block) (predicted_mode left above modes block)
    → take (suc block) (set modes block x) ≡ first_modes spelled left above (suc block)
unfolding first_modes
modes_more spelled left above modes block x lt count before is =
    let front : List ℕ = first_modes spelled left above block in
    let same : SameModes block modes front = record { same = λ b less. sym (get_or-take block modes b 0 less) ∙ ap (λ l. get_or l b 0) before } in
    let e : x ≡ chosen (spelled_at spelled block) (predicted_mode left above front block) = is ∙ ap (chosen (spelled_at spelled block)) (predicted_same left above modes front block lt same) in
    take-suc-set modes block x (omega arith) ∙ (ap (λ l. l ++ x ∷ []) before ∙ ap (λ z. front ++ z ∷ []) e)

pub no_modes_yet : (spelled : List Mode) (left above : Option (List ℕ)) (modes : List ℕ) → take 0 modes ≡ first_modes spelled left above 0
unfolding first_modes
no_modes_yet spelled left above modes = refl

-- the same, by the loop's numbers
pub modes_next : (spelled : List Mode) (left above : Option (List ℕ)) (modes : List ℕ) (block x : ℕ) → block < 16 → length modes ≡ 16
    → take block modes ≡ first_modes spelled left above block
    → x ≡ chosen (spelled_at spelled block) (predicted_mode left above modes block)
    → take (block + 1) (set modes block x) ≡ first_modes spelled left above (block + 1)
modes_next spelled left above modes block x lt count before is =
    let next : suc block ≡ block + 1 = omega arith in
    subst (λ n. take n (set modes block x) ≡ first_modes spelled left above n) next (modes_more spelled left above modes block x lt count before is)

pub modes_all : (spelled : List Mode) (left above : Option (List ℕ)) (modes : List ℕ) (block : ℕ) → block ≡ 16 → length modes ≡ 16 → take block modes ≡ first_modes spelled left above block → modes ≡ first_modes spelled left above 16
modes_all spelled left above modes block e count is =
    sym (take_all 16 modes (omega arith)) ∙ subst (λ n. take n modes ≡ first_modes spelled left above n) e is
