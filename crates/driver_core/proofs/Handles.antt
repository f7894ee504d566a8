-- What looks at handles find, in what is kept and in the state.
use Rattle.std.proofs.Common.{◌≡◌, inl, inr, ℕ, ◌==◌, Bool, true, false, if◌then◌else◌, List, slice_get, Option, Some, None, Ok, Err, refl, sym, ap, ◌∙◌, subst, ◌<◌, length, arith}
use Rattle.std.specs.Option.{option_and_then, option_map_or}
use Rattle.std.proofs.lemmas.Bool.Decides.{nat_tests}
use Rattle.std.proofs.lemmas.Option.{slice_get_within}
use Rattle.vd_status.specs.declared.refusal.Refusal.{Refusal}
use Rattle.vd_status.specs.declared.refusal.Refusal.TheVariants.{DeviceMismatch, Preempted}
use Rattle.present_queue.specs.Queue.{Queue}
use Rattle.present_queue.specs.Queues.{Surface}
use Rattle.driver_model.specs.Objects as model
use Rattle.driver_model.specs.Refusals.{further_handle, in_use}
use Rattle.driver_model.specs.States.{State, is_preempted, named}
use Rattle.driver_model.proofs.Named.{found_of}
use Rattle.driver_model.specs.declared.numbers.TheConstants as number
use Rattle.driver_objects.specs.Contents.{HasContent, HasDevice}
use Rattle.driver_objects.specs.Kept.{kept_of}
use Rattle.driver_objects.specs.Kinds.{is_device, kind_number}
use Rattle.driver_objects.specs.Listed.{IsOnly, called}
use Rattle.driver_objects.specs.declared.content.Content.{Content}
use Rattle.driver_objects.specs.declared.content.Content.TheVariants as content
use Rattle.driver_objects.specs.declared.content.Device.{Device}
use Rattle.driver_objects.specs.declared.object.Object.{Object}
use Rattle.driver_objects.proofs.Lists.{one_kept}
use Rattle.driver_core.specs.Found.{Finds, Refuses}
use Rattle.driver_core.specs.Looked.{IsFurther, IsInUse}
use Rattle.driver_core.specs.Stands.{IsContent, Stands, is_owed}
use Rattle.driver_core.specs.declared.driver.Core.{Core}
use Rattle.driver_core.proofs.Named.{FindsAs, found_none, found_some}

-- what is kept of a device says what it has
pub device_of : (queues : List (Queue Surface)) (owed : Bool) (what : model.Content) (kept : Device) → IsContent queues owed what (content.Device kept)
    → (device : model.Device) × (what ≡ model.DeviceObject device) × (kept.time ≡ device.time) × (kept.is_preempted ≡ device.is_preempted)
device_of queues owed (model.DeviceObject device) kept is = (device, refl, is.0, is.1)
device_of queues owed (model.VideoObject of) kept is = elim is [ ]
device_of queues owed (model.OutputObject of) kept is = elim is [ ]
device_of queues owed (model.DecoderObject of) kept is = elim is [ ]
device_of queues owed (model.MixerObject of) kept is = elim is [ ]
device_of queues owed (model.QueueObject of) kept is = elim is [ ]

module _ (core : Core) (d : State) (stands : Stands core d) where
  -- the device that is kept is the state's
  pub record DeviceAt (place : ℕ) (device : Device) : Type 0 where
    pub one : model.Object
    pub at_place : slice_get d.objects place ≡ Some one
    pub live : one.is_live ≡ true
    pub has : model.Device
    pub content : one.content ≡ model.DeviceObject has
    pub time : device.time ≡ has.time
    pub preempted : device.is_preempted ≡ has.is_preempted

  pub device_is : (place : ℕ) (device : Device) → HasDevice (kept_of core.objects) place device → DeviceAt place device
  device_is place device has =
      let k = stands.kept has.index has.object has.stands in
      let d_of = device_of core.queues (is_owed d has.object.place) k.0.content device (subst (IsContent core.queues (is_owed d has.object.place) k.0.content) has.has k.3.content) in
      record {
        one = k.0;
        at_place = subst (λ p. slice_get d.objects p ≡ Some k.0) has.at_place k.1;
        live = sym k.3.live ∙ has.live;
        has = d_of.0;
        content = d_of.1;
        time = d_of.2;
        preempted = d_of.3;
      }

  pub preempted_is : (place : ℕ) (device : Device) → HasDevice (kept_of core.objects) place device → is_preempted d place ≡ device.is_preempted
  preempted_is place device has =
      let at = device_is place device has in
      ap (λ (o : Option model.Object). option_map_or (λ (of : model.Device). of.is_preempted) (option_and_then (λ (x : model.Object). model.as_device x.content) o) false) at.at_place
      ∙ (ap (λ c. option_map_or (λ (of : model.Device). of.is_preempted) (model.as_device c) false) at.content ∙ sym at.preempted)

module _ {T : Type 0} (as_kind : model.Content → Option T) (kind : ℕ)
    (of_kind : (content : model.Content) → model.kind_number content ≡ kind → (value : T) × (as_kind content ≡ Some value))
    (of_other : (content : model.Content) → (model.kind_number content ≡ kind → ⊥) → as_kind content ≡ None)
    (core : Core) (d : State) (stands : Stands core d) (arg name : ℕ) where
  pub record LooksUp (index : ℕ) : Type 0 where
    pub object : Object
    pub there : slice_get (kept_of core.objects) index ≡ Some object
    pub finds : FindsAs as_kind kind of_kind of_other core d stands name object
    pub looks : in_use d arg (named d as_kind name) ≡ Ok (found_of object.place object.device finds.value)

  in_use_some : (object : Object) (value : T) (b : Bool) → named d as_kind name ≡ Some (found_of object.place object.device value) → is_preempted d object.device ≡ b
      → in_use d arg (named d as_kind name) ≡ (if b then Err Preempted else Ok (found_of object.place object.device value))
  in_use_some object value b found preempted =
      ap (in_use d arg) found ∙ ap (λ test. if test then Err Preempted else Ok (found_of object.place object.device value)) preempted

  pub looked_ok : (index : ℕ) → IsInUse (kept_of core.objects) arg kind name (Ok index) → LooksUp index
  looked_ok index is =
      let o = is.0.0.object in
      let finds = found_some as_kind kind of_kind of_other core d stands name index o is.0 is.0.0.stands in
      let same : is.1.object ≡ o = one_kept (kept_of core.objects) index is.1.object o is.1.stands is.0.0.stands in
      let preempted : is_preempted d o.device ≡ false = ap (λ (x : Object). is_preempted d x.device) (sym same) ∙ (preempted_is core d stands is.1.object.device is.1.device is.1.has_device ∙ is.1.is) in
      record { object = o; there = is.0.0.stands; finds = finds; looks = in_use_some o finds.value false finds.found preempted }

  pub looked_err : (refusal : Refusal) → IsInUse (kept_of core.objects) arg kind name (Err refusal) → in_use d arg (named d as_kind name) ≡ Err refusal
  looked_err refusal (inl is) = ap (in_use d arg) (found_none as_kind kind of_kind of_other core d stands name is.1) ∙ ap Err (sym is.0)
  looked_err refusal (inr is) =
      let only = is.2 in
      let p = is.3 in
      let o = only.0.object in
      let finds = found_some as_kind kind of_kind of_other core d stands name is.1 o only only.0.stands in
      let same : p.object ≡ o = one_kept (kept_of core.objects) is.1 p.object o p.stands only.0.stands in
      let preempted : is_preempted d o.device ≡ true = ap (λ (x : Object). is_preempted d x.device) (sym same) ∙ (preempted_is core d stands p.object.device p.device p.has_device ∙ p.is) in
      in_use_some o finds.value true finds.found preempted ∙ ap Err (sym is.0)

-- ---- the content of what was found

module _ (core : Core) (kind name index : ℕ) (only : IsOnly (called kind name) (kept_of core.objects) (Some index)) where
  pub called_within : index < length (kept_of core.objects)
  called_within = slice_get_within (kept_of core.objects) index only.0.object only.0.stands

  pub called_kind : (what : Content) → HasContent (kept_of core.objects) index what → kind_number what ≡ kind
  called_kind what has =
      let same : only.0.object ≡ has.object = one_kept (kept_of core.objects) index only.0.object has.object only.0.stands has.there in
      let passes : called kind name has.object ≡ true = ap (called kind name) (sym same) ∙ only.0.passes in
      ap kind_number (sym has.has) ∙ (sym (core.sound.kinds index has.object has.there) ∙ grind (arith, nat_tests, passes))

pub device_by_kind : (what : Content) → kind_number what ≡ number.DEVICE → is_device what ≡ true
device_by_kind (content.Device of) is = refl
device_by_kind (content.Video of) is = absurd (omega (arith, is))
device_by_kind (content.Output of) is = absurd (omega (arith, is))
device_by_kind (content.Decoder of) is = absurd (omega (arith, is))
device_by_kind (content.Mixer of) is = absurd (omega (arith, is))
device_by_kind (content.Queue of) is = absurd (omega (arith, is))

module _ {T : Type 0} (as_kind : model.Content → Option T) (of : T → model.Content) (kind : ℕ)
    (of_kind : (content : model.Content) → model.kind_number content ≡ kind → (value : T) × (as_kind content ≡ Some value))
    (of_other : (content : model.Content) → (model.kind_number content ≡ kind → ⊥) → as_kind content ≡ None)
    (is_of : (content : model.Content) (value : T) → as_kind content ≡ Some value → content ≡ of value)
    (core : Core) (arg name : ℕ) where
  pub found_ok : (index : ℕ) (what : Content) → IsInUse (kept_of core.objects) arg kind name (Ok index) → HasContent (kept_of core.objects) index what → Finds as_kind of core arg name index what
  found_ok index what is has d stands =
      let l = looked_ok as_kind kind of_kind of_other core d stands arg name index is in
      let same : l.object ≡ has.object = one_kept (kept_of core.objects) index l.object has.object l.there has.there in
      let f = l.finds in
      record {
        object = l.object;
        there = l.there;
        has = ap (λ (x : Object). x.content) same ∙ has.has;
        value = f.value;
        is = subst (λ c. IsContent core.queues (is_owed d l.object.place) c what) (is_of f.one.content f.value f.has)
            (subst (IsContent core.queues (is_owed d l.object.place) f.one.content) (ap (λ (x : Object). x.content) same ∙ has.has) f.is_object.content);
        looks = l.looks;
      }

  pub found_err : (refusal : Refusal) → IsInUse (kept_of core.objects) arg kind name (Err refusal) → Refuses as_kind of core arg name refusal
  found_err refusal is d stands = looked_err as_kind kind of_kind of_other core d stands arg name refusal is

-- ---- further handles

module _ {T : Type 0} (as_kind : model.Content → Option T) (of : T → model.Content) (kind : ℕ)
    (of_kind : (content : model.Content) → model.kind_number content ≡ kind → (value : T) × (as_kind content ≡ Some value))
    (of_other : (content : model.Content) → (model.kind_number content ≡ kind → ⊥) → as_kind content ≡ None)
    (is_of : (content : model.Content) (value : T) → as_kind content ≡ Some value → content ≡ of value)
    (core : Core) (arg name device : ℕ) where
  further_as : (value : T) (place on : ℕ) (b : Bool) → (on == device) ≡ b → further_handle arg device (Some (found_of place on value)) ≡ (if b then Ok (found_of place on value) else Err (DeviceMismatch arg))
  further_as value place on b same = ap (λ test. if test then Ok (found_of place on value) else Err (DeviceMismatch arg)) same

  -- what a further handle finds in the state
  pub record IsFurtherFound (d : State) (index : ℕ) (what : Content) : Type 0 where
    pub object : Object
    pub there : slice_get (kept_of core.objects) index ≡ Some object
    pub has : object.content ≡ what
    pub value : T
    pub is : IsContent core.queues (is_owed d object.place) (of value) what
    pub looks : further_handle arg device (named d as_kind name) ≡ Ok (found_of object.place object.device value)

  pub further_ok : (index : ℕ) (what : Content) → IsFurther (kept_of core.objects) arg kind name device (Ok index) → HasContent (kept_of core.objects) index what
      → (d : State) → Stands core d → IsFurtherFound d index what
  further_ok index what is has d stands =
      let o = is.0.0.object in
      let at = is.0.0.stands in
      let f = found_some as_kind kind of_kind of_other core d stands name index o is.0 at in
      let same : o ≡ has.object = one_kept (kept_of core.objects) index o has.object at has.there in
      let has_it : o.content ≡ what = ap (λ (x : Object). x.content) same ∙ has.has in
      let on : (o.device == device) ≡ true = let e = is.1 o at in grind (arith, nat_tests, e) in
      record {
        object = o;
        there = at;
        has = has_it;
        value = f.value;
        is = subst (λ c. IsContent core.queues (is_owed d o.place) c what) (is_of f.one.content f.value f.has) (subst (IsContent core.queues (is_owed d o.place) f.one.content) has_it f.is_object.content);
        looks = ap (further_handle arg device) f.found ∙ further_as f.value o.place o.device true on;
      }

  pub further_err : (refusal : Refusal) → IsFurther (kept_of core.objects) arg kind name device (Err refusal) → (d : State) → Stands core d → further_handle arg device (named d as_kind name) ≡ Err refusal
  further_err refusal (inl is) d stands = ap (further_handle arg device) (found_none as_kind kind of_kind of_other core d stands name is.1) ∙ ap Err (sym is.0)
  further_err refusal (inr is) d stands =
      let o = is.2.0.object in
      let at = is.2.0.stands in
      let f = found_some as_kind kind of_kind of_other core d stands name is.1 o is.2 at in
      let on : (o.device == device) ≡ false = let e = is.3 o at in grind (arith, nat_tests, e) in
      ap (further_handle arg device) f.found ∙ (further_as f.value o.place o.device false on ∙ ap Err (sym is.0))
