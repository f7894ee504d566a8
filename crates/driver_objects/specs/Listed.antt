-- Objects in a list, and what becomes of them.
use Rattle.std.specs.Prelude.{◌≡◌, ℕ, ◌==◌, ◌&&◌, Bool, false, true, List, slice_get, Option, Some, None, unwrap_or}
use Rattle.handle_table.specs.Name.{kind_of}
use Rattle.driver_objects.specs.declared.content.Content.{Content}
use Rattle.driver_objects.specs.declared.object.Object.{Object}

-- the object is live, of this kind, and has this name
abbrev pub called : ℕ → ℕ → Object → Bool
called kind name object = object.is_live && (object.name == name && kind_of object.name == kind)

abbrev pub is_at : ℕ → Object → Bool
is_at place object = object.place == place

-- there is such an object at this place of the list
pub record HasObjectAt (test : Object → Bool) (kept : List Object) (index : ℕ) : Type 0 where
  pub object : Object
  pub stands : slice_get kept index ≡ Some object
  pub passes : test object ≡ true

-- Of all objects of the list it is just the one at this place that passes, or none does.
abbrev pub IsOnly : (Object → Bool) → List Object → Option ℕ → Type 0
IsOnly test kept None = (index : ℕ) → HasObjectAt test kept index → ⊥
IsOnly test kept (Some index) = HasObjectAt test kept index × ((other : ℕ) → HasObjectAt test kept other → other ≡ index)

-- An object that is made is live, and belongs to this device, or, being a device, to itself.
abbrev pub made_object : ℕ → ℕ → Option ℕ → Content → Object
made_object place name device content =
    record { place = place; name = name; device = unwrap_or device place; is_live = true; content = content }

abbrev pub destroyed : Object → Object
destroyed object = record object { is_live = false }

abbrev pub with_content : Object → Content → Object
with_content object content = record object { content = content }
