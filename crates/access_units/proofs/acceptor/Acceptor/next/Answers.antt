use Rattle.std.proofs.Common.{◌≡◌, Bool, true, false, Some, inl, refl, subst, sym}
use Rattle.std.specs.Prelude.{Err, IfOk, Ok, OnErr, Result}
use Rattle.access_units.specs.Acceptors.{IsAnswer, IsDecodableIn, MayAsk, Past}
use Rattle.access_units.specs.Answers.{StaysIfLast}
use Rattle.access_units.specs.Standing.{StandsBehindAnswer, StandsFor}
use Rattle.access_units.specs.declared.acceptor.Acceptor.{Acceptor}
use Rattle.access_units.specs.declared.acceptor.Next.{Next}
use Rattle.access_units.specs.declared.acceptor.Next.TheVariants as next
use Rattle.access_units.proofs.AskLemmas.{accepted, failed, stands_on}
use Rattle.access_units.proofs.LastAnswer.{stays_if_last}
use Rattle.access_units.proofs.acceptor.Acceptor.next.Goals as goal

on_err : {T E : Type 0} (r : Result T E) (P : Type 0) → P → OnErr r P
on_err (Ok value) P holds = tt
on_err (Err fault) P holds = holds

if_ok : {T E : Type 0} (r : Result T E) (P Q : T → Type 0) → ((value : T) → P value → Q value) → IfOk r P → IfOk r Q
if_ok (Ok value) P Q f holds = f value holds
if_ok (Err fault) P Q f holds = tt

pub returns-then-self-clause-answer : goal.returns-then-self-clause-answer
returns-then-self-clause-answer c = λ past s may. inl (failed c.args.self.now past s c.if-self.true, refl)

pub returns-then-self-clause-stays : goal.returns-then-self-clause-stays
returns-then-self-clause-stays c = λ past s may.
    let answer : Next = next.Refused c.args.self.now.last_offset false in
    stays_if_last past answer (inl (failed c.args.self.now past s c.if-self.true, refl))

pub returns-in_err-gather-clause-untouched : goal.returns-in_err-gather-clause-untouched
returns-in_err-gather-clause-untouched c =
    on_err _ ((past : Past) → StandsFor c.args.self.now past → StandsFor c.gather.new.self past) (λ past s. stands_on c.args.self.now c.gather.new.self past s c.gather.ensures.rest (c.gather.ensures.reads past.text past.ended s.told s.broken s.opened s.hand s.front s.reads))

pub returns-then-not-branch-clause-answer : goal.returns-then-not-branch-clause-answer
returns-then-not-branch-clause-answer c = λ past s may.
    c.wanting.ensures.answer past
    (stands_on c.args.self.now c.gather.new.self past s c.gather.ensures.rest (c.gather.ensures.reads past.text past.ended s.told s.broken s.opened s.hand s.front s.reads))
    (accepted c.args.self.now past s may c.if-self.false)

pub returns-then-not-branch-clause-stands : goal.returns-then-not-branch-clause-stands
returns-then-not-branch-clause-stands c = λ past s may.
    c.wanting.ensures.stands past
    (stands_on c.args.self.now c.gather.new.self past s c.gather.ensures.rest (c.gather.ensures.reads past.text past.ended s.told s.broken s.opened s.hand s.front s.reads))
    (accepted c.args.self.now past s may c.if-self.false)

pub returns-then-not-branch-clause-decodable : goal.returns-then-not-branch-clause-decodable
returns-then-not-branch-clause-decodable c = λ past s may. c.wanting.ensures.decodable past

pub returns-then-not-branch-clause-stays : goal.returns-then-not-branch-clause-stays
returns-then-not-branch-clause-stays c = λ past s may.
    stays_if_last past c.wanting.result
    (c.wanting.ensures.answer past
    (stands_on c.args.self.now c.gather.new.self past s c.gather.ensures.rest (c.gather.ensures.reads past.text past.ended s.told s.broken s.opened s.hand s.front s.reads))
    (accepted c.args.self.now past s may c.if-self.false))

pub give-requires-clause-past : goal.give-requires-clause-past
give-requires-clause-past c =
    let past = c.requires.0 in
    let s = c.requires.1 in (
      past,
      stands_on c.args.self.now c.gather.new.self past s c.gather.ensures.rest (c.gather.ensures.reads past.text past.ended s.told s.broken s.opened s.hand s.front s.reads),
      accepted c.args.self.now past s c.requires.2 c.if-self.false,
    )

pub give-requires-clause-ready : goal.give-requires-clause-ready
give-requires-clause-ready c = c.gather.ensures.ready (subst (λ (b : Bool). c.gather.result ≡ Ok b) c.if-not-branch.false c.in_ok-gather.was)

pub returns-clause-answer : goal.returns-clause-answer
returns-clause-answer c =
    if_ok c.give.result
    (λ (answer : Next). (past : Past) → StandsFor c.gather.new.self past → past.outcome ≡ Some true → IsAnswer past answer)
    (λ (answer : Next). (past : Past) → StandsFor c.args.self.now past → MayAsk past → IsAnswer past answer)
    (λ answer holds past s may. holds past
    (stands_on c.args.self.now c.gather.new.self past s c.gather.ensures.rest (c.gather.ensures.reads past.text past.ended s.told s.broken s.opened s.hand s.front s.reads))
    (accepted c.args.self.now past s may c.if-self.false))
    c.give.ensures.answer

pub returns-clause-stands : goal.returns-clause-stands
returns-clause-stands c =
    if_ok c.give.result
    (λ (answer : Next). (past : Past) → StandsFor c.gather.new.self past → past.outcome ≡ Some true → StandsBehindAnswer c.give.new.self past answer)
    (λ (answer : Next). (past : Past) → StandsFor c.args.self.now past → MayAsk past → StandsBehindAnswer c.give.new.self past answer)
    (λ answer holds past s may. holds past
    (stands_on c.args.self.now c.gather.new.self past s c.gather.ensures.rest (c.gather.ensures.reads past.text past.ended s.told s.broken s.opened s.hand s.front s.reads))
    (accepted c.args.self.now past s may c.if-self.false))
    c.give.ensures.stands

pub returns-clause-decodable : goal.returns-clause-decodable
returns-clause-decodable c =
    if_ok c.give.result
    (λ (answer : Next). (past : Past) → StandsFor c.gather.new.self past → past.outcome ≡ Some true → IsDecodableIn past answer)
    (λ (answer : Next). (past : Past) → StandsFor c.args.self.now past → MayAsk past → IsDecodableIn past answer)
    (λ answer holds past s may. holds past
    (stands_on c.args.self.now c.gather.new.self past s c.gather.ensures.rest (c.gather.ensures.reads past.text past.ended s.told s.broken s.opened s.hand s.front s.reads))
    (accepted c.args.self.now past s may c.if-self.false))
    c.give.ensures.decodable

pub returns-clause-stays : goal.returns-clause-stays
returns-clause-stays c =
    if_ok c.give.result
    (λ (answer : Next). (past : Past) → StandsFor c.gather.new.self past → past.outcome ≡ Some true → IsAnswer past answer)
    (λ (answer : Next). (past : Past) → StandsFor c.args.self.now past → MayAsk past → StaysIfLast past answer)
    (λ answer holds past s may. stays_if_last past answer
    (holds past
    (stands_on c.args.self.now c.gather.new.self past s c.gather.ensures.rest (c.gather.ensures.reads past.text past.ended s.told s.broken s.opened s.hand s.front s.reads))
    (accepted c.args.self.now past s may c.if-self.false)))
    c.give.ensures.answer

untouched_on : {E : Type 0} (r : Result Next E) (old mid new : Acceptor) → OnErr r (new ≡ mid) → ((past : Past) → StandsFor old past → StandsFor mid past) → OnErr r ((past : Past) → StandsFor old past → StandsFor new past)
untouched_on (Ok answer) old mid new same on = tt
untouched_on (Err fault) old mid new same on = λ past s. subst (λ (a : Acceptor). StandsFor a past) (sym same) (on past s)

pub returns-clause-untouched : goal.returns-clause-untouched
returns-clause-untouched c =
    untouched_on c.give.result c.args.self.now c.gather.new.self c.give.new.self c.give.ensures.untouched
    (λ past s. stands_on c.args.self.now c.gather.new.self past s c.gather.ensures.rest (c.gather.ensures.reads past.text past.ended s.told s.broken s.opened s.hand s.front s.reads))
