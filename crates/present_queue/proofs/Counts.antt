-- While one list has room, not all nodes are linked.
use Rattle.std.proofs.Common.{ℕ, zero, suc, ◌*◌, ◌<◌, ◌≤◌, List, [], ◌∷◌, length, arith}
use Rattle.std.specs.List.{sum_by}
use Rattle.std.proofs.lemmas.List.Sums.{sum_by-cons}
use Rattle.index_lists.specs.Lists.{Link, list_at}

sum_at_most : (lists : List (List Link)) → ((i : ℕ) → length (list_at lists i) ≤ 64) → sum_by length lists ≤ 64 * length lists
sum_at_most [] each = omega arith
sum_at_most (list ∷ lists) each =
    let first : length list ≤ 64 = each 0 in
    let rest : sum_by length lists ≤ 64 * length lists = sum_at_most lists (λ i. each (suc i)) in
    omega (arith, sum_by-cons length list lists)

pub sum_below : (lists : List (List Link)) (i : ℕ) → i < length lists → ((j : ℕ) → length (list_at lists j) ≤ 64) → length (list_at lists i) < 64 → sum_by length lists < 64 * length lists
sum_below [] i within each room = absurd (omega arith)
sum_below (list ∷ lists) zero within each room =
    let rest : sum_by length lists ≤ 64 * length lists = sum_at_most lists (λ j. each (suc j)) in
    omega (arith, sum_by-cons length list lists)
sum_below (list ∷ lists) (suc i) within each room =
    let first : length list ≤ 64 = each 0 in
    let rest : sum_by length lists < 64 * length lists = sum_below lists i (omega arith) (λ j. each (suc j)) room in
    omega (arith, sum_by-cons length list lists)
