-- How output surfaces that are kept stand to the queues. No public clause cites this module.
use Rattle.std.specs.Prelude.{◌≡◌, ℕ, slice_get, Some, Ok, Err}
use Rattle.vd_status.specs.declared.refusal.Refusal.{Refusal}
use Rattle.driver_model.specs.Queues.{QueueAndSurface, presented}
use Rattle.driver_model.specs.States.{State}
use Rattle.driver_objects.specs.Kept.{kept_of}
use Rattle.driver_objects.specs.declared.object.Object.{Object}
use Rattle.driver_core.specs.Stands.{Stands}
use Rattle.driver_core.specs.declared.driver.Core.{Core}

module _ (core : Core) where
  -- Two handles name, in this state, a queue with this place among all objects ever made, and the output surface of its device that
  -- is this one of the kept objects.
  pub record IsPresented (d : State) (handle surface place index : ℕ) : Type 0 where
    pub object : Object
    pub there : slice_get (kept_of core.objects) index ≡ Some object
    pub found : QueueAndSurface
    pub looks : presented d handle surface ≡ Ok found
    pub queue : found.queue.place ≡ place
    pub output : found.surface.place ≡ object.place

  -- so in each state for which the core stands
  abbrev pub Presents : (handle surface place index : ℕ) → Type 0
  Presents handle surface place index = (d : State) → Stands core d → IsPresented d handle surface place index

  -- or they are refused there
  abbrev pub RefusesBoth : (handle surface : ℕ) → Refusal → Type 0
  RefusesBoth handle surface refusal = (d : State) → Stands core d → presented d handle surface ≡ Err refusal

  -- what is true of an object by its place among all objects ever made, and this one of the kept objects
  abbrev pub OfPlace : ℕ → (State → ℕ → Type 0) → Type 0
  OfPlace index Is = (d : State) (object : Object) → Stands core d → slice_get (kept_of core.objects) index ≡ Some object → Is d object.place
