use Rattle.std.proofs.Common.{◌≡◌, ℕ, ◌+◌, ◌<◌, ◌≤◌, List, [], ◌++◌, length, take, refl, arith, None}
use Rattle.nal_units.specs.Settled.{Settles, unit_in, broken_in}
use Rattle.nal_units.specs.Finder.{StandsFor}
use Rattle.nal_units.specs.declared.finder.Found.TheVariants as found
use Rattle.nal_units.proofs.Skipping.{no_more, no_more_stands, rest_len, room_on, slice_stands, slice_quiet, slice_next, slice_next_stands, quiet_more, quiet_nothing, nothing_quiet, stays_broken, broken_again}
use Rattle.nal_units.proofs.finder.Finder.push_slice.Goals as goal

pub loop-taken-init : goal.loop-taken-init
loop-taken-init c = record {
  within = omega arith;
  stands = no_more_stands c.args.self.now;
  quiet = λ t s stands known. no_more t c.args.bytes.now s known;
  unbroken = λ t s at stands known. refl;
}

pub skip-taken-requires-clause-room : goal.skip-taken-requires-clause-room
skip-taken-requires-clause-room c =
    let xs = c.args.bytes.now in
    let i = c.loop-taken.taken in
    let rest = rest_len xs i in (
      c.requires.0 ++ take i xs,
      c.loop-taken.invariant.stands c.requires.0 c.requires.1,
      room_on c.requires.0 xs i _ _ c.requires.2 c.loop-taken.invariant.within (omega arith),
    )

pub push-requires : goal.push-requires
push-requires c =
    let xs = c.args.bytes.now in
    let i = c.loop-taken.taken in
    let r = c.skip-taken.result in
    let t = c.requires.0 in
    let rest = rest_len xs i in
    let below = c.skip-taken.ensures.below in (
      t ++ take (i + r) xs,
      slice_stands t xs i r c.skip-taken.new.self (c.skip-taken.ensures.stands (t ++ take i xs) (c.loop-taken.invariant.stands t c.requires.1)),
      room_on t xs (i + r) 1 _ c.requires.2 (omega arith) (omega arith),
    )

pub loop-taken-preserved : goal.loop-taken-preserved
loop-taken-preserved c =
    let xs = c.args.bytes.now in
    let i = c.loop-taken.taken in
    let r = c.skip-taken.result in
    let rest = rest_len xs i in
    let below = c.skip-taken.ensures.below in
    let inside : i + r < length xs = omega arith in
    let skipped : (t : List ℕ) → StandsFor c.args.self.now t → StandsFor c.skip-taken.new.self (t ++ take (i + r) xs) = λ t stands.
    slice_stands t xs i r c.skip-taken.new.self (c.skip-taken.ensures.stands (t ++ take i xs) (c.loop-taken.invariant.stands t stands)) in
    let quiet : (t : List ℕ) (s : List (ℕ × ℕ)) → StandsFor c.args.self.now t → Settles t s None → (k : ℕ) → k ≤ i + r → Settles (t ++ take k xs) s None = λ t s stands known.
    slice_quiet t xs s i r (c.loop-taken.invariant.quiet t s stands known)
    (c.skip-taken.ensures.quiet (t ++ take i xs) s (c.loop-taken.invariant.stands t stands) (c.loop-taken.invariant.quiet t s stands known i (omega arith))) in
    record {
      within = omega arith;
      stands = λ t stands. slice_next_stands t xs c.push.new.self (i + r) inside (c.push.ensures.stands (t ++ take (i + r) xs) (skipped t stands));
      quiet = λ t s stands known. quiet_more t xs s (i + r) (quiet t s stands known)
          (quiet_nothing _ s (slice_next t xs (s ++ []) None (i + r) inside (c.in-Nothing.ensures.settles (t ++ take (i + r) xs) s None (skipped t stands) (quiet t s stands known (i + r) (omega arith)))));
      unbroken = λ t s at stands known.
          let apart : found.Nothing ≡ found.Broken at = broken_again t xs s at (i + r) found.Nothing known (λ u b. c.in-Nothing.ensures.settles (t ++ take (i + r) xs) u b (skipped t stands)) in
          absurd (cc);
    }

pub returns-in_default : goal.returns-in_default
returns-in_default c =
    let xs = c.args.bytes.now in
    let i = c.loop-taken.taken in
    let r = c.skip-taken.result in
    let rest = rest_len xs i in
    let below = c.skip-taken.ensures.below in
    let inside : i + r < length xs = omega arith in
    let skipped : (t : List ℕ) → StandsFor c.args.self.now t → StandsFor c.skip-taken.new.self (t ++ take (i + r) xs) = λ t stands.
    slice_stands t xs i r c.skip-taken.new.self (c.skip-taken.ensures.stands (t ++ take i xs) (c.loop-taken.invariant.stands t stands)) in
    let quiet : (t : List ℕ) (s : List (ℕ × ℕ)) → StandsFor c.args.self.now t → Settles t s None → (k : ℕ) → k ≤ i + r → Settles (t ++ take k xs) s None = λ t s stands known.
    slice_quiet t xs s i r (c.loop-taken.invariant.quiet t s stands known)
    (c.skip-taken.ensures.quiet (t ++ take i xs) s (c.loop-taken.invariant.stands t stands) (c.loop-taken.invariant.quiet t s stands known i (omega arith))) in
    record {
      taken = omega arith;
      some = λ _. omega arith;
      all = λ nothing. absurd (c.in_default.not-Nothing nothing);
      empty = λ none. absurd (omega arith);
      stands = λ t stands. slice_next_stands t xs c.push.new.self (i + r) inside (c.push.ensures.stands (t ++ take (i + r) xs) (skipped t stands));
      settles = λ t s stands known. slice_next t xs (s ++ unit_in c.push.result) (broken_in c.push.result) (i + r) inside (c.push.ensures.settles (t ++ take (i + r) xs) s None (skipped t stands) (quiet t s stands known (i + r) (omega arith)));
      first = λ t s stands known k early. quiet t s stands known k (omega arith);
      broken = λ t s at stands known some.
          let none = c.loop-taken.invariant.unbroken t s at stands known in
          let no_skip = c.skip-taken.ensures.broken (t ++ take i xs) s at (c.loop-taken.invariant.stands t stands) (stays_broken t (take i xs) s at known) in
          (omega arith, broken_again t xs s at (i + r) c.push.result known (λ u b. c.push.ensures.settles (t ++ take (i + r) xs) u b (skipped t stands)));
    }

pub returns-clause-settles : goal.returns-clause-settles
returns-clause-settles c = λ t s stands known. nothing_quiet _ s (c.loop-taken.invariant.quiet t s stands known c.loop-taken.taken (omega arith))

pub returns-clause-first : goal.returns-clause-first
returns-clause-first c = λ t s stands known k below. c.loop-taken.invariant.quiet t s stands known k (omega arith)

pub returns-clause-broken : goal.returns-clause-broken
returns-clause-broken c = λ t s at stands known some.
    let none = c.loop-taken.invariant.unbroken t s at stands known in
    absurd (omega arith)
