use Rattle.std.proofs.Common.{◌≡◌, length, sym, ◌∙◌, ap, subst, ℕ, List, ◌++◌, take, drop, arith}
use Rattle.std.proofs.lemmas.Grind.{common_steps}
use Rattle.driver_core.specs.declared.answer.CoreAnswer.{CoreAnswer}
use Rattle.driver_core.specs.declared.answer.CoreAnswer.TheVariants.{Now}
use Rattle.picture_buffer.proofs.Reading.{HasRead, has_read, rests_in}
use Rattle.picture_buffer.proofs.buffer.PictureBuffer.read.Goals as goal

whole : (n : ℕ) (out items : List ℕ) → length out ≡ length items → n ≡ length items → take n (out ++ drop (length out) items) ≡ out
whole n out items same all = grind (arith, common_steps)

pub unreachable-requires : goal.unreachable-requires
unreachable-requires c =
    let s = c.requires.stands in
    let new = c.video_get_bits.new in
    let P : CoreAnswer (Unit {0}) → Type 0 = λ answer. HasRead new.self s.1.state new.out (s.0 c.args.number) answer in
    subst P (c.in-Now-Err.is ∙ ap Now c.in-Now-Err.field-0-is)
    (has_read c.args.self.now s.0 s.1 c.args.number c.requires.number c.deref_mut.result.now c.deref_mut.ensures.value new.self new.out c.video_get_bits.result c.video_get_bits.ensures.calls)

pub unreachable-requires-in-Later : goal.unreachable-requires-in-Later
unreachable-requires-in-Later c =
    let s = c.requires.stands in
    let new = c.video_get_bits.new in
    let P : CoreAnswer (Unit {0}) → Type 0 = λ answer. HasRead new.self s.1.state new.out (s.0 c.args.number) answer in
    subst P c.in-Later.is
    (has_read c.args.self.now s.0 s.1 c.args.number c.requires.number c.deref_mut.result.now c.deref_mut.ensures.value new.self new.out c.video_get_bits.result c.video_get_bits.ensures.calls)

pub returns-clause-bytes : goal.returns-clause-bytes
returns-clause-bytes c = λ pictures s.
    let new = c.video_get_bits.new in
    let P : CoreAnswer (Unit {0}) → Type 0 = λ answer. HasRead new.self s.state new.out (pictures c.args.number) answer in
    let read = subst P (c.in-Now-Ok.is ∙ ap Now c.in-Now-Ok.field-0-is)
    (has_read c.args.self.now pictures s c.args.number c.requires.number c.deref_mut.result.now c.deref_mut.ensures.value new.self new.out c.video_get_bits.result c.video_get_bits.ensures.calls) in
    let count = ap length c.deref_mut.ensures.value in
    whole _ new.out c.args.self.now.bytes.items (c.video_get_bits.auto.out ∙ count) (sym c.deref_mut.ensures.len ∙ count) ∙ read.0

pub returns-clause-stays : goal.returns-clause-stays
returns-clause-stays c = λ pictures s.
    let new = c.video_get_bits.new in
    let P : CoreAnswer (Unit {0}) → Type 0 = λ answer. HasRead new.self s.state new.out (pictures c.args.number) answer in
    let read = subst P (c.in-Now-Ok.is ∙ ap Now c.in-Now-Ok.field-0-is)
    (has_read c.args.self.now pictures s c.args.number c.requires.number c.deref_mut.result.now c.deref_mut.ensures.value new.self new.out c.video_get_bits.result c.video_get_bits.ensures.calls) in
    record { state = s.state; rests = rests_in c.args.self.now.core new.self c.args.self.now.decoder c.args.self.now.surfaces c.args.self.now.size pictures s.state s.rests read.1 }
