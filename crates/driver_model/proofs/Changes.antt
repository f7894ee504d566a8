-- What the changes of a state's objects keep: their names and sizes.
use Rattle.std.proofs.Common.{◌≡◌, ◌==◌, ℕ, zero, suc, Bool, true, false, if◌then◌else◌, List, [], ◌∷◌, ◌++◌, map, refl, ap, ◌∙◌}
use Rattle.std.specs.List.{AllByRecursion}
use Rattle.driver_model.specs.Clock.{Due, all_shown, destroyed_on, let_go, shown, with_flip, with_tick}
use Rattle.driver_model.specs.Laws.{HasSize}
use Rattle.driver_model.specs.Objects.{Content, DeviceObject, VideoObject, OutputObject, DecoderObject, MixerObject, QueueObject, Object}
use Rattle.driver_model.specs.States.{changed_at}

abbrev pub names : List Object → List ℕ
names objects = map (λ object. object.name) objects

abbrev pub Sizes : List Object → Type 0
Sizes objects = AllByRecursion (λ object. HasSize object.content) objects

module _ (change : Object → Object) where
  abbrev pub KeepsName : Type 0
  KeepsName = (object : Object) → (change object).name ≡ object.name

  abbrev pub KeepsSize : Type 0
  KeepsSize = (object : Object) → HasSize object.content → HasSize (change object).content

  pub names-changed : KeepsName → (place : ℕ) (objects : List Object) → names (changed_at place change objects) ≡ names objects
  unfolding changed_at
  names-changed keeps place [] = refl
  names-changed keeps zero (object ∷ later) = ap (λ name. name ∷ names later) (keeps object)
  names-changed keeps (suc place) (object ∷ later) = ap (λ rest. object.name ∷ rest) (names-changed keeps place later)

  pub Sizes-changed : KeepsSize → (place : ℕ) (objects : List Object) → Sizes objects → Sizes (changed_at place change objects)
  unfolding changed_at
  Sizes-changed keeps place [] sizes = tt
  Sizes-changed keeps zero (object ∷ later) sizes = (keeps object sizes.0, sizes.1)
  Sizes-changed keeps (suc place) (object ∷ later) sizes = (sizes.0, Sizes-changed keeps place later sizes.1)

  pub names-map : KeepsName → (objects : List Object) → names (map change objects) ≡ names objects
  names-map keeps [] = refl
  names-map keeps (object ∷ later) = λ i. keeps object i ∷ names-map keeps later i

  pub Sizes-map : KeepsSize → (objects : List Object) → Sizes objects → Sizes (map change objects)
  Sizes-map keeps [] sizes = tt
  Sizes-map keeps (object ∷ later) sizes = (keeps object sizes.0, Sizes-map keeps later sizes.1)

pub names-append : (objects : List Object) (one : Object) → names (objects ++ one ∷ []) ≡ names objects ++ one.name ∷ []
names-append [] one = refl
names-append (object ∷ later) one = ap (λ rest. object.name ∷ rest) (names-append later one)

pub Sizes-append : (objects : List Object) (one : Object) → Sizes objects → HasSize one.content → Sizes (objects ++ one ∷ [])
Sizes-append [] one sizes size = (size, tt)
Sizes-append (object ∷ later) one sizes size = (sizes.0, Sizes-append later one sizes.1 size)

-- ---- the end of a device

HasSize-let_go : (content : Content) → HasSize content → HasSize (let_go content)
HasSize-let_go (DeviceObject of) size = size
HasSize-let_go (VideoObject of) size = size
HasSize-let_go (OutputObject of) size = size
HasSize-let_go (DecoderObject of) size = size
HasSize-let_go (MixerObject of) size = size
HasSize-let_go (QueueObject of) size = tt

destroyed_on-name : (is_its : Bool) (object : Object) → (if is_its then record object { is_live = false; content = let_go object.content } else object).name ≡ object.name
destroyed_on-name true object = refl
destroyed_on-name false object = refl

destroyed_on-size : (is_its : Bool) (object : Object) → HasSize object.content → HasSize (if is_its then record object { is_live = false; content = let_go object.content } else object).content
destroyed_on-size true object size = HasSize-let_go object.content size
destroyed_on-size false object size = size

pub names-destroyed : (on : ℕ) (objects : List Object) → names (map (destroyed_on on) objects) ≡ names objects
names-destroyed on = names-map (destroyed_on on) (λ object. destroyed_on-name (object.device == on) object)

pub Sizes-destroyed : (on : ℕ) (objects : List Object) → Sizes objects → Sizes (map (destroyed_on on) objects)
Sizes-destroyed on = Sizes-map (destroyed_on on) (λ object. destroyed_on-size (object.device == on) object)

-- ---- a tick

HasSize-with_flip : (queue time : ℕ) (content : Content) → HasSize content → HasSize (with_flip queue time content)
HasSize-with_flip queue time (DeviceObject of) size = size
HasSize-with_flip queue time (VideoObject of) size = size
HasSize-with_flip queue time (OutputObject of) size = size
HasSize-with_flip queue time (DecoderObject of) size = size
HasSize-with_flip queue time (MixerObject of) size = size
HasSize-with_flip queue time (QueueObject of) size = size

HasSize-with_tick : (time : ℕ) (content : Content) → HasSize content → HasSize (with_tick time content)
HasSize-with_tick time (DeviceObject of) size = size
HasSize-with_tick time (VideoObject of) size = size
HasSize-with_tick time (OutputObject of) size = size
HasSize-with_tick time (DecoderObject of) size = size
HasSize-with_tick time (MixerObject of) size = size
HasSize-with_tick time (QueueObject of) size = tt

names-shown : (time : ℕ) (due : Due) (objects : List Object) → names (shown time due objects) ≡ names objects
names-shown time due objects =
    names-changed (λ object. record object { content = with_flip due.queue time object.content }) (λ object. refl) due.surface _
    ∙ names-changed (λ object. record object { content = with_tick time object.content }) (λ object. refl) due.queue objects

Sizes-shown : (time : ℕ) (due : Due) (objects : List Object) → Sizes objects → Sizes (shown time due objects)
Sizes-shown time due objects sizes =
    Sizes-changed (λ object. record object { content = with_flip due.queue time object.content }) (λ object. HasSize-with_flip due.queue time object.content) due.surface _
    (Sizes-changed (λ object. record object { content = with_tick time object.content }) (λ object. HasSize-with_tick time object.content) due.queue objects sizes)

pub names-all_shown : (time : ℕ) (dues : List Due) (objects : List Object) → names (all_shown time dues objects) ≡ names objects
unfolding all_shown
names-all_shown time [] objects = refl
names-all_shown time (due ∷ later) objects = names-all_shown time later (shown time due objects) ∙ names-shown time due objects

pub Sizes-all_shown : (time : ℕ) (dues : List Due) (objects : List Object) → Sizes objects → Sizes (all_shown time dues objects)
unfolding all_shown
Sizes-all_shown time [] objects sizes = sizes
Sizes-all_shown time (due ∷ later) objects sizes = Sizes-all_shown time later (shown time due objects) (Sizes-shown time due objects sizes)
