-- What is asked of the surfaces that a render finds among the kept objects.
use Rattle.std.specs.Prelude.{ℕ, ◌==◌, ◌||◌, Bool, false, not, List, slice_get, Option}
use Rattle.std.specs.List.{list_any}
use Rattle.std.specs.Option.{option_map_or}
use Rattle.cb_types.specs.declared.size.SizeMbs.{SizeMbs}
use Rattle.driver_model.specs.Sizes.{is_same_size}
use Rattle.driver_objects.specs.declared.content.Content.{Content}
use Rattle.driver_objects.specs.declared.content.Content.TheVariants as content
use Rattle.driver_objects.specs.declared.object.Object.{Object}
use Rattle.driver_objects.specs.declared.jobs.OutJob.{OutJob}
use Rattle.driver_objects.specs.declared.references.Rendering.{Rendering}

-- some reference is so
abbrev pub some_slot : (ℕ → Bool) → List (Option ℕ) → Bool
some_slot test slots = list_any (λ slot. option_map_or test slot false) slots

-- this is a video surface of another size
abbrev pub is_other_size_in : SizeMbs → Content → Bool
is_other_size_in size (content.Video surface) = not (is_same_size surface.size size)
is_other_size_in size _ = false

abbrev pub is_other_size_at : List Object → SizeMbs → ℕ → Bool
is_other_size_at kept size index = option_map_or (λ object. is_other_size_in size object.content) (slice_get kept index) false

-- a job writes the object at this place of the list
abbrev pub is_written_at : List Object → List OutJob → ℕ → Bool
is_written_at kept jobs index = option_map_or (λ object. list_any (λ job. job.target == object.place) jobs) (slice_get kept index) false

-- The target or a reference has another size.
abbrev pub some_other_size : List Object → SizeMbs → Rendering → Bool
some_other_size kept size on = is_other_size_at kept size on.target || some_slot (is_other_size_at kept size) on.references

-- A job writes the target or a reference.
abbrev pub some_written : List Object → List OutJob → Rendering → Bool
some_written kept jobs on = is_written_at kept jobs on.target || some_slot (is_written_at kept jobs) on.references
