-- What a contract sees of `Objects`: the objects that are kept, in the order in which they were made, and how many were ever made.
use Rattle.std.specs.Prelude.{ℕ, List}
use Rattle.handle_table.specs.Given.{HasGiven}
use Rattle.driver_objects.specs.declared.object.Object.{Object}
use Rattle.driver_objects.specs.declared.objects.Objects.{Objects}

abbrev pub kept_of : Objects → List Object
kept_of objects = objects.kept.items

-- how many objects were ever made
abbrev pub made_of : Objects → ℕ
made_of objects = objects.made

-- These names were given, each once, and no others.
abbrev pub IsGiven : Objects → List ℕ → Type 0
IsGiven objects names = HasGiven objects.names names
