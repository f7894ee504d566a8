use Rattle.std.proofs.Common.{◌≡◌, [], ◌∙◌, ℕ, None, Option, Some, subst, sym}
use Rattle.stream_course.specs.Standing.{IsAnswered, Stands}
use Rattle.stream_course.specs.declared.course.Course.{Course}
use Rattle.stream_course.specs.declared.course.Turn.TheVariants as turn
use Rattle.stream_course.proofs.Turns.{all_over, last_told, with_last}
use Rattle.stream_course.proofs.course.Course.finish.Goals as goal

pub returns-in-Some : goal.returns-in-Some
returns-in-Some c = λ of way out.
    let course = c.args.self.now in
    let number = c.in-Some.number in
    let is : course.last ≡ Some number = sym c.take.ensures.value ∙ c.in-Some.is in
    let S : Option ℕ → Type 0 = λ l. Stands (with_last course l) of way out.history [] in
    let N : Option ℕ → Type 0 = λ l. IsAnswered (with_last course l) of way (turn.Out number c.last_time.result) in
    subst N (sym c.take.ensures.after) (last_told course of way out.history number c.args.ending c.last_time.result out.none out.ending c.last_time.ensures (subst S is out.stands))

pub returns-in-None : goal.returns-in-None
returns-in-None c = λ of way out.
    let course = c.args.self.now in
    let is : course.last ≡ None = sym c.take.ensures.value ∙ c.in_default.is in
    let S : Option ℕ → Type 0 = λ l. Stands (with_last course l) of way out.history [] in
    let N : Option ℕ → Type 0 = λ l. IsAnswered (with_last course l) of way (turn.Over c.args.ending) in
    let C : Course → Type 0 = λ k. IsAnswered k of way (turn.Over c.args.ending) in
    subst C (sym c.in-None.ensures.none)
    (subst N (sym c.take.ensures.after)
    (all_over course of way out.history c.args.ending out.none out.ending out.not_given c.in-None.ensures.earlier (subst S is out.stands)))
