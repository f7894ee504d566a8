-- Who stays on one device makes little.
use Rattle.std.proofs.Common.{◌≡◌, ◌⊎◌, inl, inr, ℕ, suc, ◌+◌, ◌≤◌, ◌==◌, Bool, true, false, cond, ◌&&◌, List, [], ◌∷◌, ◌++◌, count_by, slice_get, Option, Some, None, Ok, Err, refl, ap, sym, ◌∙◌, subst, arith}
use Rattle.std.proofs.lemmas.Bool.{and_from, and_parts, eqb-true, false≢true, or_parts}
use Rattle.std.proofs.lemmas.List.{append-nil, same_from_push}
use Rattle.std.proofs.lemmas.List.Sums.{sum_by-cons}
use Rattle.std.specs.List.{list_any}
use Rattle.std.specs.Option.{is_some, option_map_or}
use Rattle.device_lock.specs.Numbers.{items_of}
use Rattle.handle_table.specs.Name.{kind_of}
use Rattle.driver_model.specs.Answers.{Reply}
use Rattle.driver_model.specs.Histories.{IsStateOf}
use Rattle.driver_model.specs.Objects.{Object, as_queue, kind_number}
use Rattle.driver_model.specs.Parts.{name_given}
use Rattle.driver_model.specs.Passes.{caller_of}
use Rattle.driver_model.specs.States.{State}
use Rattle.driver_model.specs.Steps.{Step}
use Rattle.driver_model.specs.declared.calls.Call.{Call}
use Rattle.driver_model.specs.declared.calls.Call.TheVariants as call
use Rattle.driver_model.specs.declared.items.Entry.{Entry}
use Rattle.driver_model.specs.declared.items.Item.{Item}
use Rattle.driver_model.specs.declared.items.Item.TheVariants.{Called, Ended}
use Rattle.driver_model.specs.declared.numbers.TheConstants.{DEVICE, PRESENTATION_QUEUE}
use Rattle.driver_model.proofs.PartCalls.{step_effect}
use Rattle.driver_model.proofs.PartEffects.{Effect, Grown, IsMade, IsNewRoot}
use Rattle.driver_model.proofs.PartOwned.{IsSane}
use Rattle.driver_model.proofs.PartStill.{is_device-kind, is_queue-kind}
use Rattle.player_laws.specs.Room.{makes_kind}
use Rattle.player_laws.proofs.QueueSteps.{Grows, IsDeviceEnd, IsDisplay, IsGrown, IsPromise, IsQueueEnd, IsQuiet, IsTick, IsWrite, Kind, step_kind}
use Rattle.stream_calls.specs.Counted.{has_done, is_call, is_device_create, is_done, is_queue_create}
use Rattle.stream_calls.specs.DeviceLaws.{StreamsMakeLittle}
use Rattle.stream_calls.proofs.ItemLists.{one_if, own_there}
use Rattle.stream_calls.proofs.NextItem.{IsStepOf, step_of}

-- ---- which calls make devices and queues

-- the entry gives a name of this kind
pub record GivesKind (kind : ℕ) (reply : Reply) : Type 0 where
  pub name : ℕ
  pub given : name_given reply ≡ Some name
  pub is_kind : kind_of name ≡ kind

gives_kind : (kind : ℕ) (entry : Entry) → makes_kind kind (Called entry) ≡ true → GivesKind kind entry.reply
gives_kind kind entry is = by_name (name_given entry.reply) refl is where
  by_name : (o : Option ℕ) → name_given entry.reply ≡ o → option_map_or (λ name. kind_of name == kind) o false ≡ true → GivesKind kind entry.reply
  by_name None e k = absurd (false≢true k)
  by_name (Some name) e k = record { name = name; given = e; is_kind = eqb-true (kind_of name) kind k }

done_name : (reply : Reply) (name : ℕ) → name_given reply ≡ Some name → is_done reply ≡ true
done_name (Ok answer) name e = refl
done_name (Err refusal) name e = absurd (let k : (let o : Option ℕ = None in o ≡ Some name) = e in cc)

module _ (old new : State) (caller : List ℕ) (asked : Call) (reply : Reply) (sane : IsSane old) (step : Step old caller asked reply new) where
  abbrev GrowsOne : ℕ → Type 0
  GrowsOne kind = (p : Grown old new asked reply) × (kind_number p.one.content ≡ kind)

  grows_one : (kind : ℕ) → GivesKind kind reply → GrowsOne kind
  grows_one kind gives = by_effect (step_effect old new caller reply sane.rooted sane.sound asked step) where
    by_effect : Effect old new caller asked reply → GrowsOne kind
    by_effect (inl (none, other)) = absurd (let k : (let o : Option ℕ = None in o ≡ Some gives.name) = sym none ∙ gives.given in cc)
    by_effect (inr p) =
        let k : (let o : Option ℕ = Some p.one.name in o ≡ Some gives.name) = sym (ap name_given p.tells) ∙ gives.given in
        let named : p.one.name ≡ gives.name = cc in
        (p, sym p.kind ∙ (ap kind_of named ∙ gives.is_kind))

  makes_device : GivesKind DEVICE reply → asked ≡ call.DeviceCreate
  makes_device gives = by_origin p.0.origin where
    p : GrowsOne DEVICE
    p = grows_one DEVICE gives

    by_origin : IsNewRoot old asked p.0.one ⊎ IsMade old asked p.0.one → asked ≡ call.DeviceCreate
    by_origin (inl root) = root.0
    by_origin (inr made) = absurd (false≢true (sym made.no_device ∙ (is_device-kind p.0.one.content ∙ ap (λ kind. kind == DEVICE) p.1)))

  makes_queue : GivesKind PRESENTATION_QUEUE reply → is_queue_create asked ≡ true
  makes_queue gives = by_kind (step_kind 0 0 old new caller reply asked step) where
    p : GrowsOne PRESENTATION_QUEUE
    p = grows_one PRESENTATION_QUEUE gives

    nameless : {A : Type 0} → name_given reply ≡ None → A
    nameless none = absurd (let k : (let o : Option ℕ = None in o ≡ Some gives.name) = sym none ∙ gives.given in cc)

    by_grown : Grows 0 0 old new asked reply → is_queue_create asked ≡ true
    by_grown q =
        let lists : old.objects ++ q.one ∷ [] ≡ old.objects ++ p.0.one ∷ [] = ap (λ (u : State). u.objects) (sym q.grows ∙ p.0.grows) in
        let same_tail : q.one ≡ p.0.one = (same_from_push old.objects old.objects q.one p.0.one lists).1 in
        elim q.kind [
          | inl none ↦
              let is : is_some (as_queue q.one.content) ≡ true =
              is_queue-kind q.one.content
              ∙ (ap (λ (o : Object). kind_number o.content == PRESENTATION_QUEUE) same_tail ∙ ap (λ kind. kind == PRESENTATION_QUEUE) p.1) in
              absurd (false≢true (sym (ap is_some none) ∙ is))
          | inr made ↦ ap is_queue_create made.created
        ]

    by_kind : Kind 0 0 old new asked reply → is_queue_create asked ≡ true
    by_kind (IsQuiet q) = nameless q.gives
    by_kind (IsGrown q) = by_grown q
    by_kind (IsDisplay q) = nameless (ap name_given q.answers)
    by_kind (IsPromise q) = nameless (ap name_given q.answers)
    by_kind (IsQueueEnd q) = nameless (ap name_given q.answers)
    by_kind (IsDeviceEnd q) = nameless (ap name_given q.answers)
    by_kind (IsWrite q) = nameless (ap name_given q.answers)
    by_kind (IsTick q) = nameless (ap name_given q.answers)

asks_for_device : (entry : Entry) → IsStepOf entry → GivesKind DEVICE entry.reply → is_device_create entry.call ≡ true
asks_for_device entry its gives = ap is_device_create (makes_device its.old its.new entry.caller entry.call entry.reply its.sane its.step gives)

asks_for_queue : (entry : Entry) → IsStepOf entry → GivesKind PRESENTATION_QUEUE entry.reply → is_queue_create entry.call ≡ true
asks_for_queue entry its gives = makes_queue its.old its.new entry.caller entry.call entry.reply its.sane its.step gives

-- ---- counts

-- as many pass one test as another, where it follows
no_more : (P Q : Item → Bool) (items : List Item) → ((place : ℕ) (item : Item) → slice_get items place ≡ Some item → P item ≡ true → Q item ≡ true)
    → count_by P items ≤ count_by Q items
no_more P Q [] follows = omega arith
no_more P Q (item ∷ items) follows =
    let rest = no_more P Q items (λ place one e. follows (suc place) one e) in
    let here = at_most (P item) (Q item) (follows 0 item refl) in
    omega (arith, rest, here, sum_by-cons (λ i. cond (P i) 1 0) item items, sum_by-cons (λ i. cond (Q i) 1 0) item items)
  where
    at_most : (p q : Bool) → (p ≡ true → q ≡ true) → cond p 1 0 ≤ cond q 1 0
    at_most false q is = omega arith
    at_most true q is = let e : q ≡ true = is refl in subst (λ b. 1 ≤ cond b 1 0) (sym e) (omega arith)

-- where the call isn't made it isn't done
none_done : (test : Call → Bool) (items : List Item) → list_any (is_call test) items ≡ false → count_by (has_done test) items ≡ 0
none_done test [] none = refl
none_done test (item ∷ items) none =
    let parts = or_parts (is_call test item) (list_any (is_call test) items) none in
    let rest = none_done test items parts.1 in
    let here : one_if (has_done test item) ≡ 0 = ap one_if (by_item item parts.0) in
    omega (arith, rest, here, sum_by-cons (λ i. cond (has_done test i) 1 0) item items)
  where
    by_item : (i : Item) → is_call test i ≡ false → has_done test i ≡ false
    by_item (Called entry) e = ap (λ b. b && is_done entry.reply) e
    by_item (Ended mark) e = refl

-- None is asked for once one was done.
abbrev IsDoneOnce : (Call → Bool) → List Item → Type 0
IsDoneOnce test items = (front later : List Item) (entry : Entry) → items ≡ front ++ Called entry ∷ later → test entry.call ≡ true → is_done entry.reply ≡ true
    → list_any (is_call test) later ≡ false

-- So one is done at most.
one_done : (test : Call → Bool) (items : List Item)
    → IsDoneOnce test items
    → count_by (has_done test) items ≤ 1
one_done test [] once = omega arith
one_done test (item ∷ items) once =
    by_done (has_done test item) refl (one_done test items later_once) where
      later_once : IsDoneOnce test items
      later_once front later entry e asked done = once (item ∷ front) later entry (ap (λ l. item ∷ l) e) asked done

      count : count_by (has_done test) (item ∷ items) ≡ cond (has_done test item) 1 0 + count_by (has_done test) items
      count = sum_by-cons (λ i. cond (has_done test i) 1 0) item items

      by_item : (i : Item) → item ≡ i → has_done test i ≡ true → list_any (is_call test) items ≡ false
      by_item (Called entry) is e =
          let parts = and_parts (test entry.call) (is_done entry.reply) e in
          once [] items entry (ap (λ (i : Item). i ∷ items) is) parts.0 parts.1
      by_item (Ended mark) is e = absurd (false≢true e)

      by_done : (b : Bool) → has_done test item ≡ b → count_by (has_done test) items ≤ 1 → count_by (has_done test) (item ∷ items) ≤ 1
      by_done true e rest =
          let none = none_done test items (by_item item refl e) in
          let here : one_if (has_done test item) ≡ 1 = ap one_if e in
          omega (arith, count, none, here)
      by_done false e rest =
          let here : one_if (has_done test item) ≡ 0 = ap one_if e in
          omega (arith, count, here, rest)

-- ---- the law

module _ (seen : List Item) (s : State) (caller : List ℕ) (state : IsStateOf seen s) where
  abbrev own : List Item
  own = items_of caller_of caller seen

  -- Each own item that gives a name of the kind is a call of this sort that was done.
  done_kind : (kind : ℕ) (test : Call → Bool) → ((entry : Entry) → IsStepOf entry → GivesKind kind entry.reply → test entry.call ≡ true)
      → count_by (makes_kind kind) own ≤ count_by (has_done test) own
  done_kind kind test made = no_more (makes_kind kind) (has_done test) own (λ place item e makes. by_item item place e makes) where
    by_item : (item : Item) (place : ℕ) → slice_get own place ≡ Some item → makes_kind kind item ≡ true → has_done test item ≡ true
    by_item (Called entry) place e makes =
        let at = own_there caller seen place (Called entry) e in
        let gives = gives_kind kind entry makes in
        let is = made entry (step_of seen s at.0 entry state at.1) gives in
        and_from (test entry.call) (is_done entry.reply) is (done_name entry.reply gives.name gives.given)
    by_item (Ended mark) place e makes = absurd (false≢true makes)

pub streams_make_little : StreamsMakeLittle
streams_make_little seen s caller stream state stays few = record {
  live = stays.live seen [] s (sym (append-nil seen)) state;
  given = let made = stays.made in omega (arith, made, few);
  devices =
      let fewer = done_kind seen s caller state DEVICE is_device_create (λ entry its gives. asks_for_device entry its gives) in
      let one = one_done is_device_create (items_of caller_of caller seen) stays.one_device in
      omega (arith, fewer, one);
  queues =
      let fewer = done_kind seen s caller state PRESENTATION_QUEUE is_queue_create (λ entry its gives. asks_for_queue entry its gives) in
      let one = stays.one_queue in
      omega (arith, fewer, one);
}
