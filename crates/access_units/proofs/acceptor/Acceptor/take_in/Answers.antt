use Rattle.std.specs.Prelude.{Err, Ok, OnErr, Result}
use Rattle.access_units.specs.Contents.{sets_behind}
use Rattle.access_units.proofs.UnitFound.{found_kept}
use Rattle.access_units.proofs.UnitKept.{reads_still}
use Rattle.access_units.proofs.UnitTaking.{reads_on}
use Rattle.access_units.proofs.acceptor.Acceptor.take_in.Goals as goal

on_err : {T E : Type 0} (r : Result T E) (P : Type 0) → P → OnErr r P
on_err (Ok value) P holds = tt
on_err (Err fault) P holds = holds

pub unit_at-requires-clause-to : goal.unit_at-requires-clause-to
unit_at-requires-clause-to c =
    let is = c.requires in
    found_kept c.args.self.now is.text is.ended is.told is.broken is.opened is.hand is.front c.in-Some.place c.in-Some.is is.reads

pub returns-in_err-take-clause-untouched : goal.returns-in_err-take-clause-untouched
returns-in_err-take-clause-untouched c =
    on_err c.from_residual-in_err-take.result _ (λ text ended told broken opened hand front r.
    reads_still c.args.self.now c.take.new.self text ended told broken opened hand front c.in_err-take.ensures.none c.in_err-take.ensures.rest r)

pub returns-clause-taken : goal.returns-clause-taken
returns-clause-taken c = λ text ended told broken hand front r some.
    let unit = c.in_ok-unit.unit in
    reads_on c.args.self.now c.take.new.self unit text ended told broken hand front c.in-Some.place c.in-Some.is r
    (c.in_ok-unit.ensures.is text r.bytes)
    (c.in_ok-unit.ensures.tells text (sets_behind told) r.bytes r.sets)
    c.in_ok-unit.ensures.readable
    (c.in_ok-take.ensures.known (sets_behind told) r.sets)
    c.in_ok-take.ensures.taken
    c.in_ok-take.ensures.rest
