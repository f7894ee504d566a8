-- Steps of the driver, by what their looks come to.
use Rattle.std.proofs.Common.{◌≡◌, ℕ, if◌then◌else◌, slice_get, Option, Some, None, Ok, Err, MatchResult, sym, ap, ◌∙◌, subst}
use Rattle.std.specs.Option.{option_map}
use Rattle.present_queue.specs.Queue.{Queue}
use Rattle.vd_status.specs.declared.refusal.Refusal.{Refusal}
use Rattle.driver_model.specs.Kept.{live_queues_of}
use Rattle.driver_model.specs.Objects as model
use Rattle.driver_model.specs.Refusals.{Looked}
use Rattle.driver_model.specs.States.{State, with_content}
use Rattle.driver_model.specs.declared.numbers.TheConstants as number
use Rattle.driver_objects.specs.Kept.{kept_of}
use Rattle.driver_objects.specs.Kinds.{kind_number}
use Rattle.driver_objects.specs.declared.object.Object.{Object}
use Rattle.driver_core.specs.Stands.{Stands, is_owed}
use Rattle.driver_core.specs.declared.driver.Core.{Core}
use Rattle.driver_core.proofs.ContentStands.{queues_changed}
use Rattle.driver_core.proofs.ModelKinds.{queue_other}
use Rattle.driver_core.proofs.Named.{kinds_same}

-- a look that finds no fault
pub finding : {A : Type 0} (Does : A → Type 0) (Refused : Refusal → Type 0) (looked : Looked A) (found : A) → looked ≡ Ok found → Does found → MatchResult looked Does Refused
finding Does Refused looked found looks does = subst (λ l. MatchResult l Does Refused) (sym looks) does

-- one that finds one
pub refusing : {A : Type 0} (Does : A → Type 0) (Refused : Refusal → Type 0) (looked : Looked A) (refusal : Refusal) → looked ≡ Err refusal → Refused refusal → MatchResult looked Does Refused
refusing Does Refused looked refusal looks refused = subst (λ l. MatchResult l Does Refused) (sym looks) refused

-- content that isn't a queue's leaves the queues
pub same_queues : (core : Core) (d : State) (stands : Stands core d) (index : ℕ) (object : Object) (content : model.Content) → slice_get (kept_of core.objects) index ≡ Some object
    → (kind_number object.content ≡ number.PRESENTATION_QUEUE → ⊥) → model.as_queue content ≡ None
    → live_queues_of (with_content d object.place content) ≡ live_queues_of d
same_queues core d stands index object content there not is =
    let k = stands.kept index object there in
    let kind = kinds_same core.queues (is_owed d object.place) k.0.content object.content k.3.content in
    let was : model.as_queue k.0.content ≡ None = queue_other k.0.content (λ e. not (sym kind ∙ e)) in
    let queue_of : Option model.PresentationQueue → Option (Queue ℕ) = λ of. if k.0.is_live then option_map (λ (x : model.PresentationQueue). x.queue) of else None in
    queues_changed (λ (o : model.Object). record o { content = content }) object.place d.objects k.0 k.1 (ap queue_of (is ∙ sym was))
