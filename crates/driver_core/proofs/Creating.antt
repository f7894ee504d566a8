-- The steps of the calls that make objects.
use Rattle.std.proofs.Common.{◌≡◌, ◌⊎◌, inl, inr, ℕ, ◌≤◌, ◌==◌, ◌||◌, Bool, true, false, List, [], ◌∷◌, ◌++◌, length, Option, None, Result, Ok, Err, IfOk, IfErr, OnErr, option_map, true≢false, unwrap_or, refl, sym, ap, ◌∙◌}
use Rattle.std.specs.List.{cons_option, filter_map}
use Rattle.present_queue.specs.Queue.{is_queued, is_shown}
use Rattle.vd_status.specs.declared.refusal.Refusal.{Refusal}
use Rattle.vd_status.specs.declared.refusal.Refusal.TheVariants.{OutOfMemory}
use Rattle.driver_model.specs.Answers.{IsRefused, Reply, reply_with}
use Rattle.driver_model.specs.Creates.{Creates, Makes, MayBeFull, handles_full, is_full, room}
use Rattle.driver_model.specs.Kept.{is_in_queue, live_queue}
use Rattle.driver_model.specs.Objects as model
use Rattle.driver_model.specs.Refusals.{Looked, ◌>>◌, refused_if}
use Rattle.driver_model.specs.States.{State, with_object}
use Rattle.driver_model.specs.declared.numbers.TheConstants.{MANY_NAMES}
use Rattle.driver_model.specs.declared.replies.Answer.TheVariants.{Name}
use Rattle.driver_objects.specs.declared.content.Content.{Content}
use Rattle.driver_core.specs.Added.{Adds, RefusesAdd, made_in}
use Rattle.driver_core.specs.Stands.{IsContent, Stands}
use Rattle.driver_core.specs.declared.driver.Core.{Core}
use Rattle.driver_core.proofs.Steps.{finding, refusing}

-- an object that is no queue leaves the live queues
queues_added : (objects : List model.Object) (one : model.Object) → live_queue one ≡ None → filter_map live_queue (objects ++ one ∷ []) ≡ filter_map live_queue objects
queues_added [] one none = ap (λ q. cons_option q []) none
queues_added (first ∷ later) one none = ap (cons_option (live_queue first)) (queues_added later one none)

pub queued_added : (d : State) (name : ℕ) (device : Option ℕ) (content : model.Content) → model.as_queue content ≡ None
    → (place : ℕ) → is_in_queue (with_object d (made_in d name device content)) place ≡ is_in_queue d place
queued_added d name device content none place =
    let nothing : live_queue (made_in d name device content) ≡ None = ap (λ of. option_map (λ (x : model.PresentationQueue). x.queue) of) none in
    ap (λ qs. is_queued (λ p. p == place) qs || is_shown (λ p. p == place) qs) (queues_added d.objects (made_in d name device content) nothing)

-- what a create comes to: a step and a state for which the core stands
pub record Creates_so (after : Core) (d : State) (looked : Looked ℕ) (IsNew : model.Content → Type 0) (reply : Reply) : Type 0 where
  pub new : State
  pub does : IsRefused d reply new OutOfMemory ⊎ Creates d reply new looked IsNew
  pub stands : Stands after new

module _ (core after : Core) (d : State) (stands : Stands core d) (kind : ℕ) (device : Option ℕ) (what : Content) (content : model.Content)
    (queued : (name place : ℕ) → is_in_queue (with_object d (made_in d name device content)) place ≡ is_in_queue d place) (is_kind : model.kind_number content ≡ kind) (is : IsContent core.queues false content what)
    (looked : Looked ℕ) (full_of_kind : Bool) (IsNew : model.Content → Type 0) (is_new : IsNew content)
    (looks : looked ≡ (room d full_of_kind >> Ok (unwrap_or device (length d.objects)))) (none_of_kind : full_of_kind ≡ false) where
  looked_by : (b : Bool) → is_full d ≡ b → looked ≡ (refused_if b (handles_full d) >> Ok (unwrap_or device (length d.objects)))
  looked_by b full = looks ∙ (ap (λ k. refused_if (is_full d || k) (handles_full d) >> Ok (unwrap_or device (length d.objects))) none_of_kind ∙ ap (λ f. refused_if f (handles_full d) >> Ok (unwrap_or device (length d.objects))) (or_false (is_full d) ∙ full))
    where
      or_false : (b : Bool) → (b || false) ≡ b
      or_false true = refl
      or_false false = refl

  pub created_queued : (result : Result ℕ Refusal) → IfOk result (λ name. Adds core after kind name device what) → IfErr result (RefusesAdd core) → OnErr result ((d : State) → Stands core d → Stands after d)
      → Creates_so after d looked IsNew (reply_with Name result)
  created_queued (Ok name) adds refuses stays =
      let new : State = with_object d (made_in d name device content) in
      let reply : Reply = Ok (Name name) in
      let makes : Makes d reply new (unwrap_or device (length d.objects)) IsNew = record {
        name = name;
        content = content;
        is_content = is_new;
        kind = adds.of_kind ∙ sym is_kind;
        fresh = adds.fresh d stands;
        tells = refl;
        after = refl;
      } in
      record {
        new = new;
        does = inr (finding (λ device. Makes d reply new device IsNew ⊎ MayBeFull d reply new) (IsRefused d reply new) looked (unwrap_or device (length d.objects)) (looked_by false (adds.room d stands)) (inl makes));
        stands = adds.stands d content stands (queued name) is;
      }
  created_queued (Err refusal) adds (inl memory) stays = record { new = d; does = inl (ap Err memory, refl); stands = stays d stands }
  created_queued (Err refusal) adds (inr full) stays = by_full (is_full d) refl (full d stands) where
    by_full : (b : Bool) → is_full d ≡ b → ((refusal ≡ handles_full d) × ((is_full d ≡ true) ⊎ (MANY_NAMES ≤ length d.objects))) → Creates_so after d looked IsNew (Err refusal)
    by_full true f told = record { new = d; does = inr (refusing (λ on. Makes d (Err refusal) d on IsNew ⊎ MayBeFull d (Err refusal) d) (IsRefused d (Err refusal) d) looked (handles_full d) (looked_by true f) (ap Err told.0, refl)); stands = stays d stands }
    by_full false f (told, inl full) = absurd (true≢false (sym full ∙ f))
    by_full false f (told, inr many) = record {
      new = d;
      does = inr (finding (λ on. Makes d (Err refusal) d on IsNew ⊎ MayBeFull d (Err refusal) d) (IsRefused d (Err refusal) d) looked (unwrap_or device (length d.objects)) (looked_by false f) (inr (many, (ap Err told, refl))));
      stands = stays d stands;
    }

-- so where the object is no queue
pub created : (core after : Core) (d : State) (stands : Stands core d) (kind : ℕ) (device : Option ℕ) (what : Content) (content : model.Content)
    (no_queue : model.as_queue content ≡ None) (is_kind : model.kind_number content ≡ kind) (is : IsContent core.queues false content what)
    (looked : Looked ℕ) (full_of_kind : Bool) (IsNew : model.Content → Type 0) (is_new : IsNew content)
    (looks : looked ≡ (room d full_of_kind >> Ok (unwrap_or device (length d.objects)))) (none_of_kind : full_of_kind ≡ false)
    (result : Result ℕ Refusal) → IfOk result (λ name. Adds core after kind name device what) → IfErr result (RefusesAdd core) → OnErr result ((d : State) → Stands core d → Stands after d)
    → Creates_so after d looked IsNew (reply_with Name result)
created core after d stands kind device what content no_queue = created_queued core after d stands kind device what content (λ name. queued_added d name device content no_queue)
