-- What is kept of a destroyed object is an output surface, and so it is no queue.
use Rattle.std.proofs.Common.{◌≡◌, ℕ, Bool, true, false, slice_get, Some, None, refl, sym, ◌∙◌, arith}
use Rattle.std.proofs.lemmas.Option.{none-some}
use Rattle.std.proofs.Math.Logic.{∥∥₁_elim}
use Rattle.driver_model.specs.Objects as model
use Rattle.driver_model.specs.declared.numbers.TheConstants as number
use Rattle.driver_objects.specs.Kept.{kept_of}
use Rattle.driver_objects.specs.Kinds.{holder_of, kind_number, number_of}
use Rattle.driver_objects.specs.declared.content.Content.{Content}
use Rattle.driver_objects.specs.declared.content.Content.TheVariants as content
use Rattle.driver_objects.specs.declared.object.Object.{Object}
use Rattle.driver_core.specs.Roles.{SameRole}
use Rattle.driver_core.specs.Stands.{IsContent}
use Rattle.driver_core.specs.declared.driver.Core.{Core}
use Rattle.driver_core.proofs.ModelKinds.{queue_other}
use Rattle.driver_core.proofs.Named.{kinds_same}

-- content that has a holder is no queue's
holds_no_queue : (what : Content) (holder : ℕ) → holder_of what ≡ Some holder → kind_number what ≡ number.PRESENTATION_QUEUE → ⊥
holds_no_queue (content.Device of) holder has is = none-some holder has
holds_no_queue (content.Video of) holder has is = none-some holder has
holds_no_queue (content.Output of) holder has is = absurd (omega (arith, is))
holds_no_queue (content.Decoder of) holder has is = none-some holder has
holds_no_queue (content.Mixer of) holder has is = none-some holder has
holds_no_queue (content.Queue of) holder has is = none-some holder has

no_two : (a b : ⊥) → a ≡ b
no_two a b = absurd a

pub dead_no_queue : (core : Core) (index : ℕ) (object : Object) → slice_get (kept_of core.objects) index ≡ Some object → object.is_live ≡ false → kind_number object.content ≡ number.PRESENTATION_QUEUE → ⊥
dead_no_queue core index object there dead is = ∥∥₁_elim (core.sound.named index object there dead) no_two (λ n. holds_no_queue object.content n.0 n.1 is)

-- and so other content in its place is none either
pub dead_stays : (core : Core) (index : ℕ) (object : Object) → slice_get (kept_of core.objects) index ≡ Some object
    → (owed : Bool) (is : model.Content) (what : Content) → SameRole object.content what → IsContent core.queues owed is what
    → object.is_live ≡ false → model.as_queue is ≡ None
dead_stays core index object there owed is what role has dead =
    queue_other is (λ e. dead_no_queue core index object there dead (sym role.kind ∙ (sym (kinds_same core.queues owed is what has) ∙ e)))

number_no_other : (what : Content) (own : ℕ) → number_of what ≡ Some own → kind_number what ≡ number.PRESENTATION_QUEUE
number_no_other (content.Device of) number is = absurd (none-some number is)
number_no_other (content.Video of) number is = absurd (none-some number is)
number_no_other (content.Output of) number is = absurd (none-some number is)
number_no_other (content.Decoder of) number is = absurd (none-some number is)
number_no_other (content.Mixer of) number is = absurd (none-some number is)
number_no_other (content.Queue of) number is = refl

-- what has a queue's number is live
pub dead_number : (core : Core) (index : ℕ) (object : Object) (number : ℕ) → slice_get (kept_of core.objects) index ≡ Some object → number_of object.content ≡ Some number → object.is_live ≡ true
dead_number core index object number there is = by_life object.is_live refl where
  by_life : (b : Bool) → object.is_live ≡ b → object.is_live ≡ true
  by_life true live = live
  by_life false dead = absurd (dead_no_queue core index object there dead (number_no_other object.content number is))
