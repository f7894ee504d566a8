-- Content whose latest flip or whose time is another, or whose pixels or samples have other owners, keeps its role and still fits.
use Rattle.std.proofs.Common.{◌≡◌, ℕ, ◌==◌, Bool, true, false, if◌then◌else◌, List, [], ◌∷◌, length, Some, refl, sym, ap, ◌∙◌, subst}
use Rattle.cb_types.specs.SizeMbs.{IsWithinLimits}
use Rattle.present_queue.specs.Queue.{Queue}
use Rattle.present_queue.specs.Queues.{Surface}
use Rattle.driver_model.specs.Objects as model
use Rattle.driver_model.specs.Sizes.{is_rgba_format, pixel_bytes}
use Rattle.driver_objects.specs.Alike.{owned}
use Rattle.driver_objects.specs.Kinds.{holder_of, is_device, kind_number, number_of}
use Rattle.driver_objects.specs.Stored.{value_of}
use Rattle.driver_objects.specs.Ticks.{flip_at, with_flip, with_time}
use Rattle.driver_objects.specs.declared.content.Content.{Content}
use Rattle.driver_objects.specs.declared.content.Content.TheVariants as content
use Rattle.driver_objects.specs.declared.content.LastFlip.{LastFlip}
use Rattle.driver_objects.specs.declared.content.OutputSurface.{OutputSurface}
use Rattle.driver_objects.specs.declared.stored.Stored.TheVariants.{Own}
use Rattle.driver_objects.specs.declared.ticks.Due.{Due}
use Rattle.driver_core.specs.Roles.{Fits, SameRole}
use Rattle.driver_core.specs.Stands.{IsContent}
use Rattle.driver_core.proofs.Fitting.{video_fits}
use Rattle.driver_core.proofs.TickedContent.{noted_through}

pub same_role : (what : Content) → SameRole what what
same_role what = record { kind = refl; device = refl; holder = refl; number = refl }

pub role_then : (a b c : Content) → SameRole a b → SameRole b c → SameRole a c
role_then a b c first second = record {
  kind = second.kind ∙ first.kind;
  device = second.device ∙ first.device;
  holder = second.holder ∙ first.holder;
  number = second.number ∙ first.number;
}

module _ (of now : OutputSurface) (size : now.size ≡ of.size) (format : now.format ≡ of.format) (pixels : value_of now.pixels ≡ value_of of.pixels) where
  -- an output surface of the same size and format, with the same pixels
  output_fits : Fits (content.Output of) → Fits (content.Output now)
  output_fits fits = record {
    video = λ surface is. absurd (cc);
    output = λ surface is.
        let same : now ≡ surface = cc in
        let f = fits.output of refl in
        subst (λ (x : OutputSurface). IsWithinLimits x.size × (length (value_of x.pixels).items ≡ pixel_bytes x.size) × (is_rgba_format x.format ≡ true)) same
        (subst IsWithinLimits (sym size) f.0, ap (λ v. length v.items) pixels ∙ (f.1 ∙ ap pixel_bytes (sym size)), ap is_rgba_format format ∙ f.2);
    decoder = λ decoder is. absurd (cc);
    mixer = λ mixer is. absurd (cc);
  }

-- ---- the latest flip

flip_role : (flip : LastFlip) (what : Content) → SameRole what (with_flip flip what)
flip_role flip (content.Device of) = same_role (content.Device of)
flip_role flip (content.Video of) = same_role (content.Video of)
flip_role flip (content.Output of) = record { kind = refl; device = refl; holder = refl; number = refl }
flip_role flip (content.Decoder of) = same_role (content.Decoder of)
flip_role flip (content.Mixer of) = same_role (content.Mixer of)
flip_role flip (content.Queue of) = same_role (content.Queue of)

flip_fits : (flip : LastFlip) (what : Content) → Fits what → Fits (with_flip flip what)
flip_fits flip (content.Device of) fits = fits
flip_fits flip (content.Video of) fits = fits
flip_fits flip (content.Output of) fits = output_fits of (record of { last_flip = Some flip }) refl refl refl fits
flip_fits flip (content.Decoder of) fits = fits
flip_fits flip (content.Mixer of) fits = fits
flip_fits flip (content.Queue of) fits = fits

flip_role_if : (b : Bool) (flip : LastFlip) (what : Content) → SameRole what (if b then with_flip flip what else what)
flip_role_if true flip what = flip_role flip what
flip_role_if false flip what = same_role what

flip_fits_if : (b : Bool) (flip : LastFlip) (what : Content) → Fits what → Fits (if b then with_flip flip what else what)
flip_fits_if true flip what fits = flip_fits flip what fits
flip_fits_if false flip what fits = fits

module _ (time p : ℕ) where
  pub noted_role : (dues : List Due) (what : Content) → SameRole what (noted_through time dues p what)
  noted_role [] what = same_role what
  noted_role (due ∷ later) what =
      role_then what (if p == due.surface then with_flip (flip_at time due) what else what) (noted_through time (due ∷ later) p what)
      (flip_role_if (p == due.surface) (flip_at time due) what) (noted_role later (if p == due.surface then with_flip (flip_at time due) what else what))

  pub noted_fits : (dues : List Due) (what : Content) → Fits what → Fits (noted_through time dues p what)
  noted_fits [] what fits = fits
  noted_fits (due ∷ later) what fits = noted_fits later (if p == due.surface then with_flip (flip_at time due) what else what) (flip_fits_if (p == due.surface) (flip_at time due) what fits)

-- ---- the time

time_role : (time : ℕ) (what : Content) → SameRole what (with_time time what)
time_role time (content.Device of) = record { kind = refl; device = refl; holder = refl; number = refl }
time_role time (content.Video of) = same_role (content.Video of)
time_role time (content.Output of) = same_role (content.Output of)
time_role time (content.Decoder of) = same_role (content.Decoder of)
time_role time (content.Mixer of) = same_role (content.Mixer of)
time_role time (content.Queue of) = same_role (content.Queue of)

time_fits : (time : ℕ) (what : Content) → Fits what → Fits (with_time time what)
time_fits time (content.Device of) fits = record { video = λ surface is. absurd (cc); output = λ surface is. absurd (cc); decoder = λ decoder is. absurd (cc); mixer = λ mixer is. absurd (cc) }
time_fits time (content.Video of) fits = fits
time_fits time (content.Output of) fits = fits
time_fits time (content.Decoder of) fits = fits
time_fits time (content.Mixer of) fits = fits
time_fits time (content.Queue of) fits = fits

pub time_role_if : (b : Bool) (time : ℕ) (what : Content) → SameRole what (if b then with_time time what else what)
time_role_if true time what = time_role time what
time_role_if false time what = same_role what

pub time_fits_if : (b : Bool) (time : ℕ) (what : Content) → Fits what → Fits (if b then with_time time what else what)
time_fits_if true time what fits = time_fits time what fits
time_fits_if false time what fits = fits

-- ---- the owners of pixels and samples

own_role : (what : Content) → SameRole what (owned what)
own_role (content.Device of) = same_role (content.Device of)
own_role (content.Video of) = record { kind = refl; device = refl; holder = refl; number = refl }
own_role (content.Output of) = record { kind = refl; device = refl; holder = refl; number = refl }
own_role (content.Decoder of) = same_role (content.Decoder of)
own_role (content.Mixer of) = same_role (content.Mixer of)
own_role (content.Queue of) = same_role (content.Queue of)

fits_own : (what : Content) → Fits what → Fits (owned what)
fits_own (content.Device of) fits = fits
fits_own (content.Video of) fits = let f = fits.video of refl in video_fits (record of { samples = Own (value_of of.samples) }) f.0 f.1
fits_own (content.Output of) fits = output_fits of (record of { pixels = Own (value_of of.pixels) }) refl refl refl fits
fits_own (content.Decoder of) fits = fits
fits_own (content.Mixer of) fits = fits
fits_own (content.Queue of) fits = fits

own_fits : (what : Content) → Fits (owned what) → Fits what
own_fits (content.Device of) fits = fits
own_fits (content.Video of) fits = let f = fits.video (record of { samples = Own (value_of of.samples) }) refl in video_fits of f.0 f.1
own_fits (content.Output of) fits = output_fits (record of { pixels = Own (value_of of.pixels) }) of refl refl refl fits
own_fits (content.Decoder of) fits = fits
own_fits (content.Mixer of) fits = fits
own_fits (content.Queue of) fits = fits

module _ (queues : List (Queue Surface)) (owed : Bool) where
  content_own : (is : model.Content) (what : Content) → IsContent queues owed is what → IsContent queues owed is (owned what)
  content_own of (content.Device kept) is = is
  content_own (model.DeviceObject of) (content.Video kept) is = is
  content_own (model.VideoObject of) (content.Video kept) is = is
  content_own (model.OutputObject of) (content.Video kept) is = is
  content_own (model.DecoderObject of) (content.Video kept) is = is
  content_own (model.MixerObject of) (content.Video kept) is = is
  content_own (model.QueueObject of) (content.Video kept) is = is
  content_own (model.DeviceObject of) (content.Output kept) is = is
  content_own (model.VideoObject of) (content.Output kept) is = is
  content_own (model.OutputObject of) (content.Output kept) is = is
  content_own (model.DecoderObject of) (content.Output kept) is = is
  content_own (model.MixerObject of) (content.Output kept) is = is
  content_own (model.QueueObject of) (content.Output kept) is = is
  content_own of (content.Decoder kept) is = is
  content_own of (content.Mixer kept) is = is
  content_own of (content.Queue kept) is = is

  own_content : (is : model.Content) (what : Content) → IsContent queues owed is (owned what) → IsContent queues owed is what
  own_content of (content.Device kept) is = is
  own_content (model.DeviceObject of) (content.Video kept) is = is
  own_content (model.VideoObject of) (content.Video kept) is = is
  own_content (model.OutputObject of) (content.Video kept) is = is
  own_content (model.DecoderObject of) (content.Video kept) is = is
  own_content (model.MixerObject of) (content.Video kept) is = is
  own_content (model.QueueObject of) (content.Video kept) is = is
  own_content (model.DeviceObject of) (content.Output kept) is = is
  own_content (model.VideoObject of) (content.Output kept) is = is
  own_content (model.OutputObject of) (content.Output kept) is = is
  own_content (model.DecoderObject of) (content.Output kept) is = is
  own_content (model.MixerObject of) (content.Output kept) is = is
  own_content (model.QueueObject of) (content.Output kept) is = is
  own_content of (content.Decoder kept) is = is
  own_content of (content.Mixer kept) is = is
  own_content of (content.Queue kept) is = is

module _ (a b : Content) (same : owned a ≡ owned b) where
  pub alike_role : SameRole a b
  alike_role = record {
    kind = sym (own_role b).kind ∙ (ap kind_number (sym same) ∙ (own_role a).kind);
    device = sym (own_role b).device ∙ (ap is_device (sym same) ∙ (own_role a).device);
    holder = sym (own_role b).holder ∙ (ap holder_of (sym same) ∙ (own_role a).holder);
    number = sym (own_role b).number ∙ (ap number_of (sym same) ∙ (own_role a).number);
  }

  pub alike_fits : Fits a → Fits b
  alike_fits fits = own_fits b (subst Fits same (fits_own a fits))

  pub alike_content : (queues : List (Queue Surface)) (owed : Bool) (is : model.Content) → IsContent queues owed is a → IsContent queues owed is b
  alike_content queues owed is has = own_content queues owed is b (subst (IsContent queues owed is) same (content_own queues owed is a has))
