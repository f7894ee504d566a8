-- What follows of what a pacer promises.
use Rattle.std.specs.Prelude.{ℕ, ◌-◌, ◌≤◌, List}
use Rattle.std.specs.List.{AllByRecursion}
use Rattle.clock_script.specs.Script.{IsLegal}
use Rattle.clock_script.specs.declared.script.ScriptLine.{ScriptLine}
use Rattle.vd_plane.specs.declared.picture.Picture.{Picture}
use Rattle.driver_model.specs.ShownPictures.{ShownPicture, shown_from}
use Rattle.frame_pacer.specs.Paced.{promised}

-- Of so many pictures the last one and all that follow it are shown at the promised time or later, whatever they are.
abbrev pub PromisesAreKept : Type 0
PromisesAreKept =
    (streams : ℕ) (script : List ScriptLine) (stream period count : ℕ) (pictures : List Picture)
    → IsLegal streams script
    → AllByRecursion (λ (shown : ShownPicture Picture). promised script stream period count ≤ shown.time) (shown_from script stream period (count - 1) pictures)
