use Rattle.std.proofs.Common.{refl, sym, subst, arith}
use Rattle.stream_course.specs.Standing as course
use Rattle.stream_course.specs.declared.course.Turn.{Turn}
use Rattle.stream_task.specs.Leaving.{Went, ended_with}
use Rattle.stream_task.specs.declared.answers.Stepped.{Stepped}
use Rattle.stream_task.specs.declared.task.StreamTask.{StreamTask}
use Rattle.stream_task.proofs.Asked.{few_wait, is_decode, is_hungry, is_out, is_over, is_promise, none_given, one_waits, stands_first, wants_memory}
use Rattle.stream_task.proofs.task.StreamTask.ask.Goals as goal

pub returns-in_default : goal.returns-in_default
returns-in_default c = λ of fed pass ready.
    wants_memory c.args.self.now c.next.new.self of fed pass c.requires.asking ready
    (c.in_default.ensures.untouched of ready.stands.way (stands_first c.args.self.now c.next.new.self of fed pass c.requires.asking ready) (none_given c.args.self.now c.next.new.self of fed pass c.requires.asking ready))

pub returns-in-Hungry : goal.returns-in-Hungry
returns-in-Hungry c = λ of fed pass ready.
    is_hungry c.args.self.now c.next.new.self of fed pass c.requires.asking ready c.fed.result
    (subst (λ (t : Turn). course.IsAnswered c.next.new.self of ready.stands.way t) c.in-Hungry.is
    (c.in-Ok.ensures.turn of ready.stands.way (stands_first c.args.self.now c.next.new.self of fed pass c.requires.asking ready) (none_given c.args.self.now c.next.new.self of fed pass c.requires.asking ready)))

pub free_for-surface-requires-clause-number : goal.free_for-surface-requires-clause-number
free_for-surface-requires-clause-number c =
    let of = c.requires.ready.0 in let fed = c.requires.ready.1.0 in let pass = c.requires.ready.1.1.0 in let ready = c.requires.ready.1.1.1 in
    let answered = subst (λ (t : Turn). course.IsAnswered c.next.new.self of ready.stands.way t) c.in-Decode.is
    (c.in-Ok.ensures.turn of ready.stands.way (stands_first c.args.self.now c.next.new.self of fed pass c.requires.asking ready) (none_given c.args.self.now c.next.new.self of fed pass c.requires.asking ready)) in
    let frame = answered.is.2.decodable.frame in
    omega (arith, frame)

pub free_for-surface-requires-clause-few : goal.free_for-surface-requires-clause-few
free_for-surface-requires-clause-few c =
    let of = c.requires.ready.0 in let fed = c.requires.ready.1.0 in let pass = c.requires.ready.1.1.0 in let ready = c.requires.ready.1.1.1 in
    let answered = subst (λ (t : Turn). course.IsAnswered c.next.new.self of ready.stands.way t) c.in-Decode.is
    (c.in-Ok.ensures.turn of ready.stands.way (stands_first c.args.self.now c.next.new.self of fed pass c.requires.asking ready) (none_given c.args.self.now c.next.new.self of fed pass c.requires.asking ready)) in
    few_wait c.args.self.now c.next.new.self of fed pass c.requires.asking ready answered.is.2.room

pub out-requires : goal.out-requires
out-requires c =
    let of = c.requires.ready.0 in let fed = c.requires.ready.1.0 in let pass = c.requires.ready.1.1.0 in let ready = c.requires.ready.1.1.1 in
    let answered = subst (λ (t : Turn). course.IsAnswered c.next.new.self of ready.stands.way t) c.in-Out.is
    (c.in-Ok.ensures.turn of ready.stands.way (stands_first c.args.self.now c.next.new.self of fed pass c.requires.asking ready) (none_given c.args.self.now c.next.new.self of fed pass c.requires.asking ready)) in
    one_waits c.args.self.now c.next.new.self of fed pass c.requires.asking ready c.in-Out.number answered.is.0 answered.is.2

pub returns-in-Over : goal.returns-in-Over
returns-in-Over c = λ of fed pass ready.
    let over = is_over c.args.self.now c.next.new.self of fed pass c.requires.asking ready c.in-Over.ending c.verdict_of.result
    (subst (λ (t : Turn). course.IsAnswered c.next.new.self of ready.stands.way t) c.in-Over.is
    (c.in-Ok.ensures.turn of ready.stands.way (stands_first c.args.self.now c.next.new.self of fed pass c.requires.asking ready) (none_given c.args.self.now c.next.new.self of fed pass c.requires.asking ready))) in
    subst (λ (t : StreamTask). Went t of fed pass pass c.end_with.result) (sym c.end_with.ensures.task)
    (subst (λ (a : Stepped). Went (ended_with (record c.args.self.now { course = c.next.new.self }) c.verdict_of.result) of fed pass pass a) (sym c.end_with.ensures.answer) over)

pub returns-in-Decode : goal.returns-in-Decode
returns-in-Decode c = λ of fed pass ready. (
  is_decode c.args.self.now c.next.new.self of fed pass c.requires.asking ready c.in-Decode.picture c.free_for-surface.result
      (subst (λ (t : Turn). course.IsAnswered c.next.new.self of ready.stands.way t) c.in-Decode.is
      (c.in-Ok.ensures.turn of ready.stands.way (stands_first c.args.self.now c.next.new.self of fed pass c.requires.asking ready) (none_given c.args.self.now c.next.new.self of fed pass c.requires.asking ready)))
      c.free_for-surface.ensures.within c.free_for-surface.ensures.free c.free_for-surface.ensures.others,
  refl,
)

pub returns-in-Out : goal.returns-in-Out
returns-in-Out c = λ of fed pass ready. (
  is_out c.args.self.now c.next.new.self of fed pass c.requires.asking ready c.in-Out.number c.in-Out.time c.out.new.self
      (subst (λ (t : Turn). course.IsAnswered c.next.new.self of ready.stands.way t) c.in-Out.is
      (c.in-Ok.ensures.turn of ready.stands.way (stands_first c.args.self.now c.next.new.self of fed pass c.requires.asking ready) (none_given c.args.self.now c.next.new.self of fed pass c.requires.asking ready)))
      c.out.ensures,
  refl,
)

pub returns-in-Promise : goal.returns-in-Promise
returns-in-Promise c = λ of fed pass ready. (
  is_promise c.args.self.now c.next.new.self of fed pass c.requires.asking ready c.in-Promise.time
      (subst (λ (t : Turn). course.IsAnswered c.next.new.self of ready.stands.way t) c.in-Promise.is
      (c.in-Ok.ensures.turn of ready.stands.way (stands_first c.args.self.now c.next.new.self of fed pass c.requires.asking ready) (none_given c.args.self.now c.next.new.self of fed pass c.requires.asking ready))),
  refl,
)
