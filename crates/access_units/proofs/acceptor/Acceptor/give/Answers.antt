use Rattle.std.proofs.Common.{◌≡◌, Bool, false, inr, sym, subst}
use Rattle.std.specs.Prelude.{unwrap_or}
use Rattle.access_units.specs.Acceptors.{IsStopped}
use Rattle.access_units.specs.Giving.{IsSound}
use Rattle.access_units.proofs.GiveLemmas.{GivesNext, IsOffered, begins, decodable, gives, stopped}
use Rattle.access_units.proofs.GiveOffer.{some_at}
use Rattle.access_units.proofs.acceptor.Acceptor.give.Goals as goal

pub hand_out-requires-clause-behind : goal.hand_out-requires-clause-behind
hand_out-requires-clause-behind c =
    let a = c.args.self.now in
    let held = c.in-Some.hand in
    let offered : IsOffered a held c.in-Some-2.offer = some_at c.in_ok-offer.field-0 c.in-Some-2.offer (IsOffered a held) c.in-Some-2.is c.in_ok-offer.ensures.some in
    begins a c.requires.past.0 held c.in-Some-2.offer c.requires.past.1 c.in-Some.is offered

pub returns-in-Some-2-clause-answer : goal.returns-in-Some-2-clause-answer
returns-in-Some-2-clause-answer c = λ past s whole.
    let a = c.args.self.now in
    let held = c.in-Some.hand in
    let offered : IsOffered a held c.in-Some-2.offer = some_at c.in_ok-offer.field-0 c.in-Some-2.offer (IsOffered a held) c.in-Some-2.is c.in_ok-offer.ensures.some in
    let all : GivesNext c.hand_out.new.self past c.hand_out.result =
    gives a c.hand_out.new.self c.hand_out.new.self.pictures past held c.in-Some-2.offer c.hand_out.result s whole c.requires.ready c.in-Some.is offered
    c.hand_out.ensures.behind c.hand_out.ensures.shown c.hand_out.ensures.rest in
    (all.0, all.1, all.2)

pub returns-in-Some-2-clause-stands : goal.returns-in-Some-2-clause-stands
returns-in-Some-2-clause-stands c = λ past s whole.
    let a = c.args.self.now in
    let held = c.in-Some.hand in
    let offered : IsOffered a held c.in-Some-2.offer = some_at c.in_ok-offer.field-0 c.in-Some-2.offer (IsOffered a held) c.in-Some-2.is c.in_ok-offer.ensures.some in
    gives a c.hand_out.new.self c.hand_out.new.self.pictures past held c.in-Some-2.offer c.hand_out.result s whole c.requires.ready c.in-Some.is offered
    c.hand_out.ensures.behind c.hand_out.ensures.shown c.hand_out.ensures.rest

pub returns-in-Some-2-clause-decodable : goal.returns-in-Some-2-clause-decodable
returns-in-Some-2-clause-decodable c = λ past s whole.
    let a = c.args.self.now in
    let held = c.in-Some.hand in
    let offered : IsOffered a held c.in-Some-2.offer = some_at c.in_ok-offer.field-0 c.in-Some-2.offer (IsOffered a held) c.in-Some-2.is c.in_ok-offer.ensures.some in
    let sound : IsSound c.in-Some-2.offer = some_at c.in_ok-offer.field-0 c.in-Some-2.offer IsSound c.in-Some-2.is c.in_ok-offer.ensures.sound in
    decodable a past held c.in-Some-2.offer c.hand_out.result held.offset s c.in-Some.is offered sound c.hand_out.ensures.shown c.hand_out.ensures.depth

pub returns-in-None-clause-answer : goal.returns-in-None-clause-answer
returns-in-None-clause-answer c = λ past s whole.
    let held = c.in-Some.hand in
    let large : c.unwrap_or-large.result ≡ unwrap_or held.refused false = c.unwrap_or-large.ensures in
    inr (subst (λ (is : Bool). IsStopped past held.offset is) (sym large)
    (stopped c.args.self.now past held s whole c.requires.ready c.in-Some.is (c.in_ok-offer.ensures.none c.in-None.is)))
