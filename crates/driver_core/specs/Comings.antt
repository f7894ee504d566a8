-- That what is done of a job is what its beginning came to.
use Rattle.std.specs.Prelude.{◌≡◌, ℕ, true, List}
use Rattle.cb_types.specs.declared.picture_info.PictureInfo.{PictureInfo}
use Rattle.driver_jobs.specs.Mixes as mixes
use Rattle.driver_jobs.specs.Renders as renders
use Rattle.driver_jobs.specs.declared.mixes.CoreMix.{CoreMix}
use Rattle.driver_jobs.specs.declared.mixes.CoreMixDone.{CoreMixDone}
use Rattle.driver_jobs.specs.declared.renders.CoreRender.{CoreRender}
use Rattle.driver_jobs.specs.declared.renders.CoreRenderDone.{CoreRenderDone}
use Rattle.driver_model.specs.States.{State}
use Rattle.driver_core.specs.Begun.{BeginsMix, BeginsRender}
use Rattle.driver_core.specs.Stands.{is_ok}
use Rattle.driver_core.specs.declared.driver.Core.{Core}

-- A render that was begun and run has the outcome of its beginning, and its picture where that is Ok.
abbrev pub RendersComeToTheirBeginnings : Type 0
RendersComeToTheirBeginnings =
    (core : Core) (d : State) (caller : List ℕ) (decoder target : ℕ) (info : PictureInfo) (bytes : List ℕ) (job : CoreRender) (done : CoreRenderDone)
    → (begins : BeginsRender core d caller decoder target info bytes job)
    → renders.IsDoneOf job done
    → (renders.outcome_of done ≡ begins.outcome) × (is_ok begins.outcome ≡ true → renders.picture_of done ≡ begins.picture)

-- A mix that was begun and run has the bytes of its beginning.
abbrev pub MixesComeToTheirBeginnings : Type 0
MixesComeToTheirBeginnings =
    (core : Core) (d : State) (caller : List ℕ) (mixer structure video output : ℕ) (job : CoreMix) (done : CoreMixDone)
    → (begins : BeginsMix core d caller mixer structure video output job)
    → mixes.IsDoneOf job done
    → mixes.pixels_of done ≡ begins.bytes
