-- A record leads to one place at most.
use Rattle.std.proofs.Common.{◌≡◌, Bool, true, false, ℕ, zero, suc, List, [], ◌∷◌, ◌++◌, map, Option, Some, None, Ok, Err, Result, inl, inr, refl, ap, ap₂, sym, ◌∙◌, subst, arith}
use Rattle.std.proofs.lemmas.Bool.{false≢true}
use Rattle.driver_model.specs.Answers.{Goes, IsRefused, Leaves, Reply, Tells}
use Rattle.driver_model.specs.Clock as clock
use Rattle.driver_model.specs.Creates.{Makes, new_device, new_queue}
use Rattle.driver_model.specs.Objects.{Content, Device, Object, as_device}
use Rattle.driver_model.specs.Queues as queues
use Rattle.driver_model.specs.Refusals.{Looked}
use Rattle.driver_model.specs.States.{Found, State, with_object}
use Rattle.driver_model.specs.Surfaces as surfaces
use Rattle.driver_model.specs.declared.replies.Answer.{Answer}
use Rattle.driver_model.specs.declared.replies.Answer.TheVariants.{Done, Flips, Name, Status, Time}
use Rattle.driver_model.specs.declared.replies.Flipped.{Flipped}
use Rattle.trace_records.specs.declared.record.Event.{Event}
use Rattle.trace_records.specs.declared.record.Event.TheVariants as event
use Rattle.trace_records.specs.declared.record.Record.{Record}
use Rattle.trace_fits.specs.Events as rows
use Rattle.trace_fits.specs.Laws.{FrontsGo, RecordsLeadOneWay, WalksEndAtOnePlace}
use Rattle.trace_fits.specs.Walks.{Calls, Follows, Walk, moved, ticked}
use Rattle.trace_fits.specs.Walks as walks

-- ---- rows

module _ (old one other : State) (reply : Reply) where
  goes_one : {A : Type 0} (looked : Looked A) (D E : A → Type 0) → ((on : A) → D on → E on → one ≡ other) → Goes old reply one looked D → Goes old reply other looked E → one ≡ other
  goes_one (Ok on) D E same a b = same on a b
  goes_one (Err refusal) D E same a b = a.1 ∙ sym b.1

name_in : Reply → ℕ
name_in (Ok (Name name)) = name
name_in reply = 0

makes_one : (old one other : State) (name device : ℕ) (content : Content) → Makes old (Ok (Name name)) one device (λ made. made ≡ content) → Makes old (Ok (Name name)) other device (λ made. made ≡ content) → one ≡ other
unfolding name_in
makes_one old one other name device content a b =
    let made : (n : ℕ) (c : Content) → Object = λ n c. record { name = n; device = device; is_live = true; content = c } in
    let names : a.name ≡ b.name = ap name_in (sym a.tells ∙ b.tells) in
    let contents : a.content ≡ b.content = a.is_content ∙ sym b.is_content in
    a.after ∙ (ap₂ (λ n c. with_object old (made n c)) names contents ∙ sym b.after)

adds_one : (old one other : State) (name : ℕ) (content : Content) (looked : Looked ℕ) → rows.Adds old one name content looked → rows.Adds old other name content looked → one ≡ other
adds_one old one other name content looked a b = goes_one old one other (Ok (Name name)) looked _ _ (λ device x y. makes_one old one other name device content x y) a b

does_one : (old one other : State) (e : Event) → rows.Does old one e → rows.Does old other e → one ≡ other
does_one old one other (event.DeviceCreate name) a b = adds_one old one other name new_device (rows.device_create old) a b
does_one old one other (event.DeviceDestroy device) a b = goes_one old one other (Ok Done) (clock.device_destroy old device) _ _ (λ on x y. x.1 ∙ sym y.1) a b
does_one old one other (event.OutputCreate name device) a b = adds_one old one other name rows.new_output (rows.output_create old device) a b
does_one old one other (event.OutputDestroy surface) a b = goes_one old one other (Ok Done) (surfaces.output old surface) _ _ (λ on x y. x.1 ∙ sym y.1) a b
does_one old one other (event.QueueCreate name device window) a b = adds_one old one other name (new_queue window) (rows.queue_create old device) a b
does_one old one other (event.QueueDestroy queue) a b = goes_one old one other (Ok Done) (queues.queue old queue) _ _ (λ on x y. x.1 ∙ sym y.1) a b
does_one old one other (event.QueueDisplay queue surface earliest) a b = goes_one old one other (Ok Done) (queues.queue_display old queue surface earliest) _ _ (λ on x y. x.1 ∙ sym y.1) a b
does_one old one other (event.QueryStatus queue surface status time) a b = goes_one old one other _ (queues.presented old queue surface) _ _ (λ on x y. x.1 ∙ sym y.1) a b
does_one old one other (event.BlockUntilIdle queue surface time) a b = goes_one old one other _ (queues.presented old queue surface) _ _ (λ on x y. x.1.1 ∙ sym y.1.1) a b
does_one old one other (event.GetTime queue time) a b = goes_one old one other _ (queues.queue old queue) _ _ (λ on x y. x.1 ∙ sym y.1) a b
does_one old one other (event.Promise queue time) a b = goes_one old one other (Ok Done) (queues.queue old queue) _ _ (λ on x y. x.1 ∙ sym y.1) a b
does_one old one other (event.Advance device flips time) a b = absurd a
does_one old one other (event.Flip queue surface time) a b = absurd a
does_one old one other (event.Preempt device) a b = goes_one old one other (Ok Done) (clock.device old device) _ _ (λ on x y. x.1 ∙ sym y.1) a b

-- ---- calls

flips_in : Reply → List Flipped
flips_in (Ok (Flips flips)) = flips
flips_in reply = []

abbrev told_all : List Flipped → Reply
told_all flips = Ok (Flips flips)

is_answered : Reply → Bool
is_answered (Ok answer) = true
is_answered (Err refusal) = false

ticks_one : (old one other : State) (device time place told : ℕ) (some more : List Flipped) → clock.Advance old (Ok (Flips some)) one device time → clock.Advance old (Ok (Flips more)) other device time
    → ticked place one some told ≡ ticked place other more told
unfolding flips_in is_answered
ticks_one old one other device time place told some more a b = by_looked (clock.advance old device time) a b where
  by_looked : (looked : Looked (Found Device))
      → Goes old (told_all some) one looked (λ on. (clock.is_tick_held old on.place time ≡ false) × (told_all some ≡ told_all (map (clock.flip_of old time) (clock.all_due old on.place time))) × (one ≡ clock.ticked_at old on time))
      → Goes old (told_all more) other looked (λ on. (clock.is_tick_held old on.place time ≡ false) × (told_all more ≡ told_all (map (clock.flip_of old time) (clock.all_due old on.place time))) × (other ≡ clock.ticked_at old on time))
      → ticked place one some told ≡ ticked place other more told
  by_looked (Err refusal) x y = absurd (false≢true (ap is_answered (sym x.0)))
  by_looked (Ok on) x y = ap₂ (λ s l. ticked place s l told) (x.2 ∙ sym y.2) (ap flips_in x.1 ∙ sym (ap flips_in y.1))

calls_one : (old one other : Walk) (place : ℕ) (e : Event) → Calls old place e one → Calls old place e other → one ≡ other
calls_one old one other place (event.Advance device told time) a b = a.1.2 ∙ (ticks_one old.state a.0 b.0 device time place told a.1.0 b.1.0 a.1.1 b.1.1 ∙ sym b.1.2)
calls_one old one other place e a b = a.2 ∙ (ap (moved place) (does_one old.state a.0 b.0 e a.1 b.1) ∙ sym b.2)

walk_is : (a b : Walk) → a.state ≡ b.state → a.last ≡ b.last → a.owed ≡ b.owed → a.told ≡ b.told → a ≡ b
walk_is a b s l o t = λ i. record { state = s i; last = l i; owed = o i; told = t i }

tail : List Record → List Record
tail [] = []
tail (first ∷ later) = later

is_some_list : List Record → Bool
is_some_list [] = false
is_some_list (first ∷ later) = true

before : ℕ → ℕ
before zero = zero
before (suc n) = n

pub one_way : RecordsLeadOneWay
unfolding tail is_some_list before
one_way old one other next (inl a) (inl b) =
    walk_is one other (a.state ∙ sym b.state) (a.last ∙ sym b.last) (ap tail (sym a.owed ∙ b.owed)) (ap before (sym a.told ∙ b.told))
one_way old one other next (inl a) (inr b) = absurd (false≢true (ap is_some_list (sym b.rests.0 ∙ a.owed)))
one_way old one other next (inr a) (inl b) = absurd (false≢true (ap is_some_list (sym a.rests.0 ∙ b.owed)))
one_way old one other next (inr a) (inr b) = calls_one old one other next.place next.event a.calls b.calls

pub one_end : WalksEndAtOnePlace
unfolding walks.Goes
one_end old one other [] a b = a ∙ sym b
one_end old one other (next ∷ later) a b =
    let same : a.0 ≡ b.0 = one_way old a.0 b.0 next a.1 b.1 in
    one_end b.0 one other later (subst (λ (w : Walk). walks.Goes w later one) same a.2) b.2

pub fronts_go : FrontsGo
unfolding walks.Goes
fronts_go old new [] later goes = (old, refl, goes)
fronts_go old new (next ∷ front) later goes =
    let rest = fronts_go goes.0 new front later goes.2 in
    (rest.0, (goes.0, goes.1, rest.1), rest.2)
