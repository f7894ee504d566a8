use Rattle.std.proofs.Common.{subst}
use Rattle.access_units.specs.declared.acceptor.Next.{Next}
use Rattle.file_pictures.specs.declared.stream_decoder.Step.TheVariants as step
use Rattle.file_pictures.proofs.Answered.{next_stays, next_step}
use Rattle.file_pictures.proofs.OneStep.{stays_if_last}
use Rattle.file_pictures.proofs.Steps.{Answered, asked_past, end_step, hungry_step, picture_offered, refused_step}
use Rattle.file_pictures.proofs.stream_decoder.StreamDecoder.next.Goals as goal

pub next-requires : goal.next-requires
next-requires c = asked_past c.args.self.now c.requires.0 c.requires.1.state

pub decode-requires : goal.decode-requires
decode-requires c =
    let A : Next → Type 0 = λ n. Answered c.args.self.now.acceptor c.next.new.self n in
    let answered = subst A c.in-Picture.is (record { answer = c.in_ok-next.ensures.answer; stands = c.in_ok-next.ensures.stands; decodable = c.in_ok-next.ensures.decodable }) in
    let o = picture_offered c.args.self.now c.next.new.self c.requires.0 c.requires.1.whole c.in-Picture.unsettled answered c.requires.1.state in
    (record { stream = c.requires.0; picture = o.0 }, o.1)

pub returns-in-Picture-clause-step : goal.returns-in-Picture-clause-step
returns-in-Picture-clause-step c =
    let A : Next → Type 0 = λ n. Answered c.args.self.now.acceptor c.next.new.self n in
    let answered = subst A c.in-Picture.is (record { answer = c.in_ok-next.ensures.answer; stands = c.in_ok-next.ensures.stands; decodable = c.in_ok-next.ensures.decodable }) in
    next_step c.decode.result c.args.self.now (record c.args.self.now { acceptor = c.next.new.self }) c.decode.new.self c.in-Picture.unsettled c.decode.ensures.step
    (λ stream stands. picture_offered c.args.self.now c.next.new.self stream stands.whole c.in-Picture.unsettled answered stands.state)

pub returns-in-Picture-clause-stays : goal.returns-in-Picture-clause-stays
returns-in-Picture-clause-stays c =
    let A : Next → Type 0 = λ n. Answered c.args.self.now.acceptor c.next.new.self n in
    let answered = subst A c.in-Picture.is (record { answer = c.in_ok-next.ensures.answer; stands = c.in_ok-next.ensures.stands; decodable = c.in_ok-next.ensures.decodable }) in
    next_stays c.decode.result c.args.self.now c.decode.new.self
    (next_step c.decode.result c.args.self.now (record c.args.self.now { acceptor = c.next.new.self }) c.decode.new.self c.in-Picture.unsettled c.decode.ensures.step
    (λ stream stands. picture_offered c.args.self.now c.next.new.self stream stands.whole c.in-Picture.unsettled answered stands.state))

pub returns-in-Refused-clause-step : goal.returns-in-Refused-clause-step
returns-in-Refused-clause-step c = λ stream stands.
    let A : Next → Type 0 = λ n. Answered c.args.self.now.acceptor c.next.new.self n in
    let answered = subst A c.in-Refused.is (record { answer = c.in_ok-next.ensures.answer; stands = c.in_ok-next.ensures.stands; decodable = c.in_ok-next.ensures.decodable }) in
    refused_step c.args.self.now c.next.new.self stream stands.whole c.in-Refused.offset c.in-Refused.large answered stands.state

pub returns-in-Refused-clause-stays : goal.returns-in-Refused-clause-stays
returns-in-Refused-clause-stays c = λ stream stands.
    let A : Next → Type 0 = λ n. Answered c.args.self.now.acceptor c.next.new.self n in
    let answered = subst A c.in-Refused.is (record { answer = c.in_ok-next.ensures.answer; stands = c.in_ok-next.ensures.stands; decodable = c.in_ok-next.ensures.decodable }) in
    stays_if_last stream (step.Refused c.in-Refused.offset c.in-Refused.large) (record c.args.self.now { acceptor = c.next.new.self }) (refused_step c.args.self.now c.next.new.self stream stands.whole c.in-Refused.offset c.in-Refused.large answered stands.state)

pub returns-in-Hungry-clause-step : goal.returns-in-Hungry-clause-step
returns-in-Hungry-clause-step c = λ stream stands.
    let A : Next → Type 0 = λ n. Answered c.args.self.now.acceptor c.next.new.self n in
    let answered = subst A c.in-Hungry.is (record { answer = c.in_ok-next.ensures.answer; stands = c.in_ok-next.ensures.stands; decodable = c.in_ok-next.ensures.decodable }) in
    hungry_step c.args.self.now c.next.new.self stream stands.whole answered stands.state

pub returns-in-End-clause-step : goal.returns-in-End-clause-step
returns-in-End-clause-step c = λ stream stands.
    let A : Next → Type 0 = λ n. Answered c.args.self.now.acceptor c.next.new.self n in
    let answered = subst A c.in-End.is (record { answer = c.in_ok-next.ensures.answer; stands = c.in_ok-next.ensures.stands; decodable = c.in_ok-next.ensures.decodable }) in
    end_step c.args.self.now c.next.new.self stream stands.whole answered stands.state

pub returns-in-End-clause-stays : goal.returns-in-End-clause-stays
returns-in-End-clause-stays c = λ stream stands.
    let A : Next → Type 0 = λ n. Answered c.args.self.now.acceptor c.next.new.self n in
    let answered = subst A c.in-End.is (record { answer = c.in_ok-next.ensures.answer; stands = c.in_ok-next.ensures.stands; decodable = c.in_ok-next.ensures.decodable }) in
    stays_if_last stream step.End (record c.args.self.now { acceptor = c.next.new.self }) (end_step c.args.self.now c.next.new.self stream stands.whole answered stands.state)
