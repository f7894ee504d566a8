-- A stream promises a time only when all that is shown before it was displayed.
use Rattle.std.specs.Prelude.{◌≡◌, ℕ, ◌≤◌, true, List, ◌∷◌, ◌++◌, drop}
use Rattle.std.specs.List.{AllByRecursion}
use Rattle.vd_plane.specs.declared.picture.Picture.{Picture}
use Rattle.driver_model.specs.ShownPictures.{ShownPicture}
use Rattle.driver_model.specs.declared.calls.Call.TheVariants as call
use Rattle.driver_model.specs.declared.items.Entry.{Entry}
use Rattle.driver_model.specs.declared.items.Item.{Item}
use Rattle.driver_model.specs.declared.items.Item.TheVariants.{Called}
use Rattle.stream_calls.specs.Counted.{displays_in, is_done}

-- Of the shown pictures, those that have no display among the own items before a promise are shown at the promised time or later.
pub record PromisesInTime (own : List Item) (shown : List (ShownPicture Picture)) : Type 0 where
  pub promised : (front later : List Item) (entry : Entry) (queue time : ℕ)
      → own ≡ front ++ Called entry ∷ later
      → entry.call ≡ call.Promise queue time
      → is_done entry.reply ≡ true
      → AllByRecursion (λ (one : ShownPicture Picture). time ≤ one.time) (drop (displays_in front) shown)
