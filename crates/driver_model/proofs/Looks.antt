-- What is known where a call's looks at its arguments found no fault.
use Rattle.std.proofs.Common.{◌≡◌, ℕ, ◌+◌, ◌==◌, Bool, true, false, ◌&&◌, if◌then◌else◌, List, [], ◌∷◌, Option, Some, None, Ok, Err, refl, ap, subst}
use Rattle.std.specs.List.{AllByRecursion}
use Rattle.std.specs.Option.{option_map, option_or}
use Rattle.cb_types.specs.SizeMbs.{IsWithinLimits}
use Rattle.vd_status.specs.declared.refusal.Refusal.{Refusal}
use Rattle.vd_status.specs.declared.refusal.Refusal.TheVariants.{Preempted}
use Rattle.driver_model.specs.Laws.{HasSize, HasSizes}
use Rattle.driver_model.specs.Objects.{Content, DeviceObject, VideoObject, OutputObject, DecoderObject, MixerObject, QueueObject, Decoder, Object, as_decoder}
use Rattle.driver_model.specs.Refusals.{Looked, ◌>>=◌, ◌>>◌, first_handle, in_use, refused_if}
use Rattle.driver_model.specs.States.{State, Found, found_at, found_from, is_preempted, named}

pub err_not_ok : {A : Type 0} (refusal : Refusal) (a : A) → (let m : Looked A = Err refusal in m ≡ Ok a) → ⊥
err_not_ok refusal a h = cc

pub ok_is : {A : Type 0} (a b : A) → (let m : Looked A = Ok a in m ≡ Ok b) → a ≡ b
ok_is a b h = cc

-- a look, and those behind it
pub then_ok : {A B : Type 0} (m : Looked A) (next : A → Looked B) (b : B) → (m >>= next) ≡ Ok b → (a : A) × (m ≡ Ok a) × (next a ≡ Ok b)
then_ok (Ok a) next b h = (a, refl, h)
then_ok (Err refusal) next b h = absurd (err_not_ok refusal b h)

pub unless_ok : {B : Type 0} (m : Looked (Unit {0})) (next : Looked B) (b : B) → (m >> next) ≡ Ok b → (m ≡ Ok tt) × (next ≡ Ok b)
unless_ok (Ok nothing) next b h = (refl, h)
unless_ok (Err refusal) next b h = absurd (err_not_ok refusal b h)

pub refused_if-Ok : (test : Bool) (refusal : Refusal) → refused_if test refusal ≡ Ok tt → test ≡ false
refused_if-Ok true refusal h = absurd (err_not_ok refusal tt h)
refused_if-Ok false refusal h = refl

pub in_use-Ok : {T : Type 0} (s : State) (arg : ℕ) (found : Option (Found T)) (on : Found T) → in_use s arg found ≡ Ok on → found ≡ Some on
in_use-Ok s arg None on h = absurd (err_not_ok _ on h)
in_use-Ok s arg (Some found) on h = alive (is_preempted s found.device) h where
  alive : (preempted : Bool) → (if preempted then Err Preempted else Ok found) ≡ Ok on → Some found ≡ Some on
  alive true e = absurd (err_not_ok Preempted on e)
  alive false e = ap Some (ok_is found on e)

pub first_handle-Ok : {T : Type 0} (s : State) (found : Option (Found T)) (on : Found T) → first_handle s found ≡ Ok on → found ≡ Some on
first_handle-Ok s found on h = in_use-Ok s 0 found on h

-- ---- decoders

DecoderFits : Option (Found Decoder) → Type 0
DecoderFits None = Unit {0}
DecoderFits (Some on) = IsWithinLimits on.value.size

fits_content : (content : Content) → HasSize content → (place device : ℕ) → DecoderFits (option_map (λ value. record { place = place; device = device; value = value }) (as_decoder content))
unfolding DecoderFits
fits_content (DeviceObject of) size place device = tt
fits_content (VideoObject of) size place device = tt
fits_content (OutputObject of) size place device = tt
fits_content (DecoderObject of) size place device = size
fits_content (MixerObject of) size place device = tt
fits_content (QueueObject of) size place device = tt

fits_at : (name place : ℕ) (object : Object) → HasSize object.content → DecoderFits (found_at as_decoder name place object)
unfolding DecoderFits
fits_at name place object size = found (object.is_live && object.name == name) where
  found : (is_it : Bool) → DecoderFits (if is_it then option_map (λ value. record { place = place; device = object.device; value = value }) (as_decoder object.content) else None)
  found true = fits_content object.content size place object.device
  found false = tt

fits_or : (one other : Option (Found Decoder)) → DecoderFits one → DecoderFits other → DecoderFits (option_or one other)
unfolding DecoderFits
fits_or None other a b = b
fits_or (Some on) other a b = a

fits_from : (name place : ℕ) (objects : List Object) → AllByRecursion (λ object. HasSize object.content) objects → DecoderFits (found_from as_decoder name place objects)
unfolding found_from DecoderFits
fits_from name place [] sizes = tt
fits_from name place (object ∷ later) sizes = fits_or (found_at as_decoder name place object) (found_from as_decoder name (place + 1) later) (fits_at name place object sizes.0) (fits_from name (place + 1) later sizes.1)

-- a decoder that a name was found to be has a size within the limits
pub HasSize-named : (s : State) (name : ℕ) (on : Found Decoder) → HasSizes s → named s as_decoder name ≡ Some on → IsWithinLimits on.value.size
unfolding DecoderFits
HasSize-named s name on sizes is = subst DecoderFits is (fits_from name 0 s.objects sizes)
