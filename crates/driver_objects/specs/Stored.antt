-- What is stored, whether it has one owner or several.
use Rattle.std.specs.Arc.{arc_value}
use Rattle.driver_objects.specs.declared.stored.Stored.{Stored}
use Rattle.driver_objects.specs.declared.stored.Stored.TheVariants.{Own, Shared}

abbrev pub value_of : {T : Type 0} → Stored T → T
value_of (Own value) = value
value_of (Shared arc) = arc_value arc
