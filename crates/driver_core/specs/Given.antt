-- What a core stands for where an object was given the samples that a job owed it. No public clause cites this module.
use Rattle.std.specs.Prelude.{◌≡◌, ℕ, true, List, slice_get, slice_set, Some}
use Rattle.cb_types.specs.declared.size.SizeMbs.{SizeMbs}
use Rattle.vd_plane.specs.declared.picture.Picture.{Picture}
use Rattle.driver_model.specs.States.{Note, State}
use Rattle.driver_objects.specs.Kept.{IsGiven, kept_of, made_of}
use Rattle.driver_objects.specs.Listed.{with_content}
use Rattle.driver_objects.specs.declared.content.Content.{Content}
use Rattle.driver_objects.specs.declared.object.Object.{Object}
use Rattle.driver_core.specs.Jobs.{IsHome}
use Rattle.driver_core.specs.Owed.{IsOut, OwesPicture, OwesPixels}
use Rattle.driver_core.specs.Stands.{Stands, is_ok}
use Rattle.driver_core.specs.declared.driver.Core.{Core}

-- The object at this place of the list has this content, and all else of the core stays.
pub record Gives (old new : Core) (index : ℕ) (what : Content) : Type 0 where
  pub now : (object : Object) → slice_get (kept_of old.objects) index ≡ Some object → kept_of new.objects ≡ slice_set (kept_of old.objects) index (with_content object what)
  pub made : made_of new.objects ≡ made_of old.objects
  pub given : (names : List ℕ) → IsGiven old.objects names → IsGiven new.objects names
  pub queues : new.queues ≡ old.queues
  pub jobs : new.jobs ≡ old.jobs

-- A job that is out has given the object what it owed.
abbrev pub IsSettled : (old new : Core) (index : ℕ) → (State → Note → Type 0) → Type 0
IsSettled old new index Owes =
    (d : State) (note : Note) (object : Object) (number : ℕ)
    → Stands old d → IsOut d number note → is_ok note.outcome ≡ true
    → slice_get (kept_of old.objects) index ≡ Some object → object.place ≡ note.target → Owes d note
    → Stands new d × IsHome new d note.target

-- The job that is out has nothing more to give: where its outcome is Ok, all that it owed is there, if the object still is.
abbrev pub Settles : (old new : Core) (number : ℕ) → (State → Note → Type 0) → Type 0
Settles old new number Owes =
    (d : State) (note : Note)
    → Stands old d → IsOut d number note → Owes d note
    → Stands new d × (is_ok note.outcome ≡ true → IsHome new d note.target)

abbrev pub GivesPicture : (old new : Core) (index : ℕ) → SizeMbs → Picture → Type 0
GivesPicture old new index size picture = IsSettled old new index (λ d note. OwesPicture d note size picture)

abbrev pub GivesPixels : (old new : Core) (index : ℕ) → SizeMbs → List ℕ → Type 0
GivesPixels old new index size bytes = IsSettled old new index (λ d note. OwesPixels d note size bytes)
