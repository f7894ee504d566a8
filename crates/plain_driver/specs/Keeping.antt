-- What the program counts of what it keeps.
use Rattle.std.specs.Prelude.{ℕ, Bool, ◌&&◌, ◌||◌, List, length}
use Rattle.std.specs.List.{list_any}
use Rattle.std.specs.Option.{is_some, option_map_or}
use Rattle.driver_model.specs.Kept.{live_queue}
use Rattle.driver_model.specs.Objects.{Content, as_output, as_video}
use Rattle.driver_model.specs.declared.replies.KeptCounts.{KeptCounts}
use Rattle.plain_driver.specs.Presenting.{holds_in, shows_in}
use Rattle.plain_driver.specs.States.{object_of}
use Rattle.plain_driver.specs.declared.kept.PlainKept.{PlainKept}
use Rattle.plain_driver.specs.declared.objects.PlainObject.{PlainObject}

abbrev pub counts_of : PlainKept → KeptCounts
counts_of kept = record { surfaces = kept.surfaces; entries = kept.entries }

abbrev pub is_surface : Content → Bool
is_surface content = is_some (as_video content) || is_some (as_output content)

abbrev pub some_live_holds : ℕ → List PlainObject → Bool
some_live_holds surface objects = list_any (λ object. object.is_live && holds_in surface object.content) objects

abbrev pub some_live_shows : ℕ → List PlainObject → Bool
some_live_shows surface objects = list_any (λ object. object.is_live && shows_in surface object.content) objects

abbrev pub waiting_in : PlainObject → ℕ
waiting_in object = option_map_or (λ queue. length queue.entries) (live_queue (object_of object)) 0
