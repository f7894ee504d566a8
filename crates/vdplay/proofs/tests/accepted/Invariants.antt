use Rattle.std.proofs.Common.{◌≡◌, ◌+◌, true, length, Some}
use Rattle.access_units.specs.Acceptors.{Past}
use Rattle.access_units.specs.Standing.{StandsFor}
use Rattle.vdplay.proofs.tests.accepted.Given as goal

-- all bytes were fed, and the pictures that came are settled
abbrev pub invariant-loop : goal.invariant-loop
invariant-loop l = (past : Past) × StandsFor l.acceptor past × (past.outcome ≡ Some true) × (length past.text ≡ l.at + length l.bytes)
