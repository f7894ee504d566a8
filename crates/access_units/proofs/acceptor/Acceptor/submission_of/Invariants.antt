use Rattle.std.proofs.Common.{◌≡◌, ◌≤◌, ◌*◌, ℕ, List, length, take, drop}
use Rattle.access_units.specs.Giving.{bytes_at}
use Rattle.access_units.specs.Pictures.{submission_of}
use Rattle.access_units.proofs.acceptor.Acceptor.submission_of.Given as goal

abbrev pub invariant-loop-place : goal.invariant-loop-place
invariant-loop-place l =
    ((text : List ℕ) → l.self.bytes.items ≡ drop l.self.from text → l.submission ≡ submission_of (bytes_at text (take l.place-index l.hand.slices.items)))
    × (3 * l.place-index ≤ length l.submission)
    × (length l.submission ≤ 67108864)
