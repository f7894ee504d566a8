use Rattle.std.proofs.Common.{◌≡◌, ◌∷◌, [], ◌∙◌, ℕ, None, Option, Some, arith, subst, sym}
use Rattle.stream_course.specs.Standing.{IsAnswered, Stands}
use Rattle.stream_course.specs.declared.course.Turn.TheVariants as turn
use Rattle.stream_course.proofs.Turns.{came_first, came_next, may_go_on, with_last}
use Rattle.stream_course.proofs.course.Course.came_out.Goals as goal

pub next-time-requires : goal.next-time-requires
next-time-requires c = let r = c.requires in may_go_on c.args.self.now r.0 r.1.0 c.args.number r.1.1

pub returns-in-Some : goal.returns-in-Some
returns-in-Some c = λ of way come.
    let course = c.args.self.now in
    let before = c.in-Some.before in
    let is : course.last ≡ Some before = sym c.replace.ensures.value ∙ c.in-Some.is in
    let S : Option ℕ → Type 0 = λ l. Stands (with_last course l) of way come.history (c.args.number ∷ []) in
    let N : Option ℕ → Type 0 = λ l. IsAnswered (record course { pacer = c.next-time.new.self; last = l }) of way (turn.Out before c.next-time.result) in
    subst N (sym c.replace.ensures.after)
    (came_next course c.next-time.new.self of way come.history before c.args.number c.next-time.result c.next-time.ensures.settled c.next-time.ensures.paced (subst S is come.stands))

pub returns-in-None : goal.returns-in-None
returns-in-None c = λ of way come.
    let course = c.args.self.now in
    let is : course.last ≡ None = sym c.replace.ensures.value ∙ c.in-None.is in
    let S : Option ℕ → Type 0 = λ l. Stands (with_last course l) of way come.history (c.args.number ∷ []) in
    let N : Option ℕ → Type 0 = λ l. IsAnswered (record course { pacer = c.next-time.new.self; last = l; promised = c.due-self.result }) of way (turn.Promise c.due-self.result) in
    let fits = c.due-self.type_inv in
    subst N (sym c.replace.ensures.after)
    (came_first course c.next-time.new.self of way come.history c.args.number c.due-self.result (omega (arith, fits)) c.next-time.ensures.paced c.due-self.ensures (subst S is come.stands))
