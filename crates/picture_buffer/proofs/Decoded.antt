-- What a buffer comes to by a render that was begun, run and ended, or wasn't begun.
use Rattle.std.proofs.Common.{◌≡◌, ℕ, ◌<◌, All, List, [], sym, subst}
use Rattle.cb_types.specs.AcceptedInfo.{IsAccepted}
use Rattle.cb_types.specs.declared.picture_info.PictureInfo.{PictureInfo}
use Rattle.decoder_render.specs.declared.outcome.Outcome.{Outcome}
use Rattle.vd_plane.specs.declared.picture.Picture.{Picture}
use Rattle.vd_status.specs.declared.refusal.Refusal.{Refusal}
use Rattle.vd_status.specs.declared.refusal.Refusal.TheVariants.{OutOfMemory}
use Rattle.driver_jobs.specs.Renders as jobs
use Rattle.driver_jobs.specs.declared.renders.CoreRender.{CoreRender}
use Rattle.driver_jobs.specs.declared.renders.CoreRenderDone.{CoreRenderDone}
use Rattle.driver_core.specs.Begun.{BeginRender, BeginsRender}
use Rattle.driver_core.specs.Ended.{EndRender}
use Rattle.driver_core.specs.declared.answer.CoreAnswer.{CoreAnswer}
use Rattle.driver_core.specs.declared.answer.CoreBegin.TheVariants.{Job, Later, Refused}
use Rattle.driver_core.specs.declared.driver.Core.{Core}
use Rattle.picture_buffer.specs.Buffers.{Decodes, HasUnits, SameSurfaces, StandsFor, pictures_after}
use Rattle.picture_buffer.specs.Renaming.{IsOther, handle_of, renamed}
use Rattle.picture_buffer.specs.Rest.{IsAtRest}
use Rattle.picture_buffer.specs.declared.buffer.PictureBuffer.{PictureBuffer}
use Rattle.picture_buffer.proofs.Deciding.{comes_to, left, never_waits, only_memory, rests_after}

module _ (buffer : PictureBuffer) (number : ℕ) (small : number < 17) (info : PictureInfo) (others : All (IsOther number) info.references) (taken : IsAccepted 0 16 info)
    (bytes : List ℕ) (units : HasUnits bytes info) (called : PictureInfo) (names : called ≡ renamed buffer.surfaces info) (middle : Core) where
  abbrev handle : ℕ
  handle = handle_of buffer.surfaces number

  pub decodes_by : (job : CoreRender) → BeginRender buffer.core middle buffer.decoder handle called bytes (Job job)
      → (done : CoreRenderDone) → jobs.IsDoneOf job done → (new : PictureBuffer) (answer : CoreAnswer (Unit {0})) → EndRender middle new.core done answer → SameSurfaces buffer new
      → (outcome : Outcome) → outcome ≡ jobs.outcome_of done
      → (pictures : ℕ → Picture) → StandsFor buffer pictures → Decodes new pictures buffer.size number info bytes outcome
  decodes_by job begin done is new answer end same outcome told pictures s =
      let begins : BeginsRender middle s.state [] buffer.decoder handle (renamed buffer.surfaces info) bytes job =
      subst (λ i. BeginsRender middle s.state [] buffer.decoder handle i bytes job) names (begin s.state [] s.rests.stands) in
      let picture = jobs.picture_of done in
      let rests = rests_after buffer.core buffer.decoder buffer.surfaces buffer.size pictures s.state s.rests number small info others taken bytes units middle new.core job begins done is end.1 in
      let came = comes_to buffer.core buffer.decoder buffer.surfaces buffer.size pictures s.state s.rests number small info others taken bytes units middle new.core job begins done is end.1 in
      let after = left buffer.core buffer.decoder buffer.surfaces buffer.size pictures s.state s.rests number small info others taken bytes units middle new.core job begins done is end.1 in
      let P : Outcome → Type 0 = λ o. Decodes new pictures buffer.size number info bytes o in
      subst P (sym told) (record {
        payloads = jobs.payloads_of job;
        units = begins.units;
        picture = picture;
        comes_to = came;
        stands = record {
          state = after;
          rests = moved_over (pictures_after pictures number (jobs.outcome_of done) picture) after new same rests;
        };
      })
    where
      moved_over : (now : ℕ → Picture) (d : _) (new : PictureBuffer) → SameSurfaces buffer new → IsAtRest new.core buffer.decoder buffer.surfaces buffer.size now d
          → IsAtRest new.core new.decoder new.surfaces new.size now d
      moved_over now d new same rests =
          subst (λ z. IsAtRest new.core new.decoder new.surfaces z now d) (sym same.size)
          (subst (λ y. IsAtRest new.core new.decoder y buffer.size now d) (sym same.surfaces)
          (subst (λ x. IsAtRest new.core x buffer.surfaces buffer.size now d) (sym same.decoder) rests))

  pub refused_by : (submission : _) (refusal : Refusal) → BeginRender buffer.core middle buffer.decoder handle called bytes (Refused submission refusal)
      → (pictures : ℕ → Picture) → StandsFor buffer pictures → refusal ≡ OutOfMemory
  refused_by submission refusal begin pictures s =
      let step = (begin s.state [] s.rests.stands).1 in
      only_memory buffer.core buffer.decoder buffer.surfaces buffer.size pictures s.state s.rests number small info others taken bytes units refusal
      (rw names at step)

  pub waits_by : (submission : _) → BeginRender buffer.core middle buffer.decoder handle called bytes (Later submission)
      → (pictures : ℕ → Picture) → StandsFor buffer pictures → ⊥
  waits_by submission begin pictures s =
      let waits = (begin s.state [] s.rests.stands).1 in
      never_waits buffer.core buffer.decoder buffer.surfaces buffer.size pictures s.state s.rests number small info others taken bytes units (rw names at waits)
