use Rattle.std.proofs.Common.{refl, subst}
use Rattle.access_units.specs.Acceptors.{giving}
use Rattle.access_units.specs.Standing.{StandsBehindAnswer}
use Rattle.first_frame.proofs.stream.next.Goals as goal

pub returns-in-Picture : goal.returns-in-Picture
returns-in-Picture c =
    let past = c.requires.0 in
    let behind = subst (λ n. StandsBehindAnswer c.next.new.self past n) c.in-Picture.is (c.in_ok-picture.ensures.stands past c.requires.1 c.requires.2) in
    (giving past behind.0, behind.3, refl)
