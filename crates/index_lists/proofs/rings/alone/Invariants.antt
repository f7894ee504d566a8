use Rattle.std.proofs.Common.{◌≡◌, ℕ, ◌<◌, length, get_or}
use Rattle.index_lists.proofs.rings.alone.Given as goal

abbrev pub invariant-loop-number : goal.invariant-loop-number
invariant-loop-number l = (length l.numbers.items ≡ l.number) × ((n : ℕ) → n < l.number → get_or l.numbers.items n 0 ≡ n)
