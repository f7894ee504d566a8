use Rattle.std.proofs.Common.{◌≡◌, ◌≢◌, ℕ, ◌==◌, inl, inr, Bool, true, false, ◌&&◌, List, Option, Some, Result, Ok, Err, refl, sym, ◌∙◌, ap, subst}
use Rattle.std.specs.Prelude.{IfOk}
use Rattle.std.proofs.lemmas.Bool.Decides.{eqb_tells}
use Rattle.std.specs.declared.alloc.AllocError.{AllocError}
use Rattle.cb_types.specs.declared.size.SizeMbs.{SizeMbs}
use Rattle.vd_plane.specs.declared.picture.Picture as samples
use Rattle.picture_buffer.specs.Buffers as buffers
use Rattle.picture_buffer.specs.declared.buffer.PictureBuffer.{PictureBuffer}
use Rattle.access_units.specs.Pictures.{Picture}
use Rattle.accepted_pictures.specs.Files.{Decoded}
use Rattle.file_pictures.specs.Streams.{HaveSize, IsKept, Keeps}
use Rattle.file_pictures.proofs.Kept.{keeps_fresh}
use Rattle.file_pictures.proofs.stream_decoder.StreamDecoder.buffer_for.Goals as goal

fresh_step : (r : Result PictureBuffer AllocError) (old : Option PictureBuffer) (size : SizeMbs) → IfOk r (λ new. (kept : ℕ → samples.Picture) × buffers.StandsFor new kept × buffers.AreZeros size kept)
    → ((buffer : PictureBuffer) → old ≡ Some buffer → buffers.size_of buffer ≢ size)
    → IfOk r (λ new. (decoded : List Decoded) (sequence : List Picture) → IsKept old decoded sequence → HaveSize size sequence → Keeps new decoded sequence)
fresh_step (Ok new) old size stands other = keeps_fresh new old size (stands.0, stands.1) other
fresh_step (Err e) old size stands other = stands

other_one : (old : Option PictureBuffer) (buffer : PictureBuffer) (size : SizeMbs) → old ≡ Some buffer → buffers.size_of buffer ≢ size → (one : PictureBuffer) → old ≡ Some one → buffers.size_of one ≢ size
other_one old buffer size is other one also same =
    let both : Some one ≡ Some buffer = sym also ∙ is in
    let here : one ≡ buffer = cc in
    other (ap (λ (b : PictureBuffer). buffers.size_of b) (sym here) ∙ same)

equal_test : (n : ℕ) → (n == n) ≡ true
equal_test n = elim (eqb_tells n n) [ inl w ↦ w.0 | inr w ↦ absurd (w.1 refl) ]

-- a size passes the test with itself
not_same : (one other : SizeMbs) (test : Bool) → test ≡ ((one.width == other.width) && (one.height == other.height)) → test ≡ false → one ≢ other
not_same one other test is fails same =
    let F : SizeMbs → Type 0 = λ size. test ≡ ((one.width == size.width) && (one.height == size.height)) in
    let itself = subst F (sym same) is in
    let width = equal_test one.width in
    let height = equal_test one.height in
    let both : ((one.width == one.width) && (one.height == one.height)) ≡ true = rw (width, height) refl in
    let wrong : true ≡ false = sym (itself ∙ both) ∙ fails in
    absurd (cc)

pub returns-clause-kept : goal.returns-clause-kept
returns-clause-kept c = elim c.match-take.branch [
  | goal.in-Some+else-eq w ↦
      fresh_step c.new.result c.args.self.now.buffer c.args.size c.new.ensures.stands
      (other_one c.args.self.now.buffer w.in-Some.buffer c.args.size (sym c.take.ensures.value ∙ w.in-Some.is) (λ same. not_same w.size.result c.args.size w.eq.result w.eq.ensures w.if-eq.false (w.size.ensures ∙ same)))
  | goal.in_default w ↦
      fresh_step c.new.result c.args.self.now.buffer c.args.size c.new.ensures.stands (λ buffer is same. let none = c.take.ensures.value in let is_none = w.in_default.is in absurd (cc))
]
