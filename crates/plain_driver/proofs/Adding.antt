-- An object that is added gets a name that says its kind and its place.
use Rattle.std.proofs.Common.{◌≡◌, ℕ, ◌+◌, ◌*◌, ◌/◌, ◌%◌, ◌^◌, ◌<◌, ◌≤◌, Bool, true, false, if◌then◌else◌, List, [], ◌∷◌, ◌++◌, length, Result, Ok, Err, is_err, is_ok, refl, ap, sym, ◌∙◌, subst, arith}
use Rattle.driver_model.specs.Creates.{Makes}
use Rattle.driver_model.specs.Objects.{Content, DeviceObject, VideoObject, OutputObject, DecoderObject, MixerObject, QueueObject, kind_number}
use Rattle.driver_model.specs.States.{State}
use Rattle.driver_model.specs.declared.replies.Answer.TheVariants.{Name}
use Rattle.plain_driver.specs.Numbered.{IsNumbered}
use Rattle.plain_driver.specs.States.{content_of, objects_of, state_of}
use Rattle.plain_driver.specs.declared.driver.Plain.{Plain}
use Rattle.plain_driver.specs.declared.objects.PlainContent.{PlainContent}
use Rattle.plain_driver.specs.declared.objects.PlainObject.{PlainObject}
use Rattle.plain_driver.proofs.Changed.{objects_of-push}
use Rattle.plain_driver.proofs.Numbering.{IsNumbered-push, name_is_fresh}

-- the name of an object of this kind at this place
abbrev pub name_for : (kind place : ℕ) → ℕ
name_for kind place = kind * 536870912 % 4294967296 + place

kind_small : (content : Content) → kind_number content ≤ 5
kind_small (DeviceObject of) = omega arith
kind_small (VideoObject of) = omega arith
kind_small (OutputObject of) = omega arith
kind_small (DecoderObject of) = omega arith
kind_small (MixerObject of) = omega arith
kind_small (QueueObject of) = omega arith

place_in_name : (kind place : ℕ) → kind ≤ 5 → place < 469762048 → name_for kind place % 2 ^ 29 ≡ place
place_in_name kind place few below = omega arith

kind_in_name : (kind place : ℕ) → kind ≤ 5 → place < 469762048 → name_for kind place / 2 ^ 29 ≡ kind
kind_in_name kind place few below = omega arith

-- what is added
abbrev pub object_for : (kind place device : ℕ) → PlainContent → PlainObject
object_for kind place device content = record { name = name_for kind place; device = device; is_live = true; content = content }

module _ (objects : List PlainObject) (kind place device : ℕ) (content : PlainContent) (is_place : place ≡ length objects) (below : place < 469762048) (is_kind : kind ≡ kind_number (content_of content)) (numbered : IsNumbered objects) where
  small : kind ≤ 5
  small = omega (arith, is_kind, kind_small (content_of content))

  numbered_by : (pushed : Bool) (new : List PlainObject) → new ≡ (if pushed then objects ++ object_for kind place device content ∷ [] else objects) → IsNumbered new
  numbered_by true new e = subst IsNumbered (sym e) (IsNumbered-push objects (object_for kind place device content) numbered (omega arith) (place_in_name kind place small below ∙ is_place))
  numbered_by false new e = subst IsNumbered (sym e) numbered

  pub IsNumbered-added : {X Y : Type 0} (result : Result X Y) (new : List PlainObject) → new ≡ (if is_ok result then objects ++ object_for kind place device content ∷ [] else objects) → IsNumbered new
  IsNumbered-added result new e = numbered_by (is_ok result) new e

was_pushed : {X Y A : Type 0} (result : Result X Y) (new pushed old : A) → is_err result ≡ false → new ≡ (if is_ok result then pushed else old) → new ≡ pushed
was_pushed (Ok x) new pushed old fine e = e
was_pushed (Err y) new pushed old fine e = absurd (let k : true ≡ false = fine in cc)

-- the step of a create
pub makes_it : {X Y : Type 0} (s : Plain) (kind place device : ℕ) (content : PlainContent) (result : Result X Y) (new : List PlainObject)
    → place ≡ length s.objects.items
    → place < 469762048
    → kind ≡ kind_number (content_of content)
    → is_err result ≡ false
    → new ≡ (if is_ok result then s.objects.items ++ object_for kind place device content ∷ [] else s.objects.items)
    → (let after : State = record (state_of s) { objects = objects_of new } in Makes (state_of s) (Ok (Name (name_for kind place))) after device (λ x. x ≡ content_of content))
makes_it s kind place device content result new is_place below is_kind ok e =
    let few : kind ≤ 5 = omega (arith, is_kind, kind_small (content_of content)) in
    let all : new ≡ s.objects.items ++ object_for kind place device content ∷ [] = was_pushed result new _ s.objects.items ok e in
    record {
      name = name_for kind place;
      content = content_of content;
      is_content = refl;
      kind = kind_in_name kind place few below ∙ is_kind;
      fresh = name_is_fresh s.objects.items (name_for kind place) s.numbered (place_in_name kind place few below ∙ is_place);
      tells = refl;
      after = ap (λ o. let t : State = record (state_of s) { objects = objects_of o } in t) all ∙ ap (λ o. let t : State = record (state_of s) { objects = o } in t) (objects_of-push s.objects.items (object_for kind place device content));
    }
