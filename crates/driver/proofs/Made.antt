-- What a turn of the lock comes to: the history with the call, and the state behind it.
use Rattle.std.proofs.Common.{◌≡◌, ◌∙◌, ap, refl, subst, sym, ℕ, List, [], ◌∷◌, ◌++◌, length, Option, Some, Result, Ok, Err, IfSome}
use mathlib.Core.List.{IsPrefix, append_assoc}
use Rattle.atomic_table.specs.Seated.{TableId}
use Rattle.device_lock.specs.Numbers.{Knows}
use Rattle.device_lock.specs.Views.{IsSamePass, without_turn}
use Rattle.device_lock.specs.declared.view.View.{View}
use Rattle.driver_core.specs.Answered.{Calls, IsAnswer, Takes, UnlessDone}
use Rattle.driver_core.specs.Stands.{Stands}
use Rattle.driver_core.specs.declared.answer.CoreAnswer.{CoreAnswer}
use Rattle.driver_core.specs.declared.answer.CoreAnswer.TheVariants.{Later, Now}
use Rattle.driver_core.specs.declared.driver.Core.{Core}
use Rattle.driver_model.proofs.Leading.{histories_go_on}
use Rattle.driver_model.specs.Answers.{Reply, reply_with}
use Rattle.driver_model.specs.Histories.{IsStateOf, Leads}
use Rattle.driver_model.specs.Passes.{Adds, caller_of}
use Rattle.driver_model.specs.States.{State, counted, empty_state}
use Rattle.driver_model.specs.declared.calls.Call.{Call}
use Rattle.driver_model.specs.declared.items.Item.{Item}
use Rattle.driver_model.specs.declared.items.Item.TheVariants.{Called}
use Rattle.driver_model.specs.declared.replies.Answer.{Answer}
use Rattle.vd_status.specs.declared.refusal.Refusal.{Refusal}
use Rattle.driver.specs.Made.{IfRefused, Logs, entry_of}
use Rattle.driver.specs.Passes.{view}
use Rattle.driver.specs.Standing.{StandsAt}
use Rattle.driver.specs.declared.driver.Pass.{Pass}

-- a new core stands for the empty history
pub starts : (core : Core) → Stands core empty_state → StandsAt core []
unfolding Leads
starts core stands = record { state = empty_state; leads = refl; stands = stands }

-- how many items there were says nothing of a core
pub stands_counted : (core : Core) (d : State) → Stands core d → Stands core (counted d)
stands_counted core d s =
    record {
      kept = λ i object at. let k = s.kept i object at in (k.0, k.1, k.2, record { name = k.3.name; device = k.3.device; live = k.3.live; content = k.3.content });
      needed = s.needed;
      made = s.made;
      given = s.given;
      jobs = s.jobs;
      idle_queues = s.idle_queues;
    }

-- behind a call that was answered
pub goes_on : (old new : Core) (history : List Item) (caller : List ℕ) (call : Call) (reply : Reply) → (s : StandsAt old history) → Takes new s.state caller call reply
    → StandsAt new (history ++ Called (record { caller = caller; call = call; reply = reply }) ∷ [])
goes_on old new history caller call reply s takes =
    record {
      state = counted takes.after;
      leads = histories_go_on history s.state (counted takes.after) (Called (record { caller = caller; call = call; reply = reply })) s.leads (takes.after, takes.step, refl);
      stands = stands_counted new takes.after takes.stands;
    }

-- behind a call that waits
pub stays : (old new : Core) (history : List Item) → (s : StandsAt old history) → Stands new s.state → StandsAt new history
stays old new history s stands = record { state = s.state; leads = s.leads; stands = stands }

-- so where the core has answered, or put the call off
pub answered : {A : Type 0} (old new : Core) (history : List Item) (caller : List ℕ) (call : Call) (answer : A → Answer) (asked : CoreAnswer A) (result : Result A Refusal)
    → asked ≡ Now result → Calls old new call answer asked → StandsAt old history
    → StandsAt new (history ++ Called (record { caller = caller; call = call; reply = reply_with answer result }) ∷ [])
answered old new history caller call answer asked result is calls s =
    goes_on old new history caller call (reply_with answer result) s (subst (λ a. IsAnswer new s.state caller call answer a) is (calls s.state caller s.stands))

pub put_off : {A : Type 0} (old new : Core) (history : List Item) (call : Call) (answer : A → Answer) (asked : CoreAnswer A)
    → asked ≡ Later → Calls old new call answer asked → StandsAt old history → StandsAt new history
put_off old new history call answer asked is calls s =
    stays old new history s (subst (λ a. IsAnswer new s.state [] call answer a) is (calls s.state [] s.stands)).1

prefix_trans : (a b c : List Item) → IsPrefix a b → IsPrefix b c → IsPrefix a c
prefix_trans a b c p q = (p.0 ++ q.0, sym (append_assoc a p.0 q.0) ∙ (ap (λ (l : List Item). l ++ q.0) p.1 ∙ q.1))

pub same_pass_trans : (u v w : View Item) → IsSamePass u v → IsSamePass v w → IsSamePass u w
same_pass_trans u v w p q = (q.0 ∙ p.0, q.1 ∙ p.1, q.2 ∙ p.2, q.3 ∙ p.3, q.4 ∙ p.4)

pub seen_trans : (u v w : View Item) → IsPrefix u.seen v.seen → IsPrefix v.seen w.seen → IsPrefix u.seen w.seen
seen_trans u v w p q = prefix_trans u.seen v.seen w.seen p q

-- what is known of an item that is named
pub of_named : (name : Option Item) (item : Item) (P : Item → Type 0) → name ≡ Some item → IfSome name P → P item
of_named name item P is holds = subst (λ (n : Option Item). IfSome n P) is holds

-- The turn is over, and what the pass knows stays.
pub still_knows : (logged after : View Item) → after ≡ without_turn logged → Knows caller_of logged → Knows caller_of after
still_knows logged after is knows = subst (λ (v : View Item). Knows caller_of v) (sym is) knows

-- What was logged in a turn is what the call adds to its caller's pass.
pub adds : (before held : View Item) (item : Item) (lock : TableId) (after : Pass) (place : ℕ) (core : Core)
    → IsPrefix before.seen held.seen → IsSamePass before held → caller_of item ≡ before.number → StandsAt core (held.seen ++ item ∷ []) → Logs lock held item after place
    → Adds before item place (view after)
adds before held item lock after place core prefix same caller stands logs =
    let seen : (view after).seen ≡ held.seen ++ item ∷ [] = ap (λ (v : View Item). v.seen) logs.leaves in
    record {
      legal = (stands.state, subst (λ (h : List Item). IsStateOf h stands.state) (sym seen) stands.leads);
      between = prefix.0;
      seen = seen ∙ ap (λ (h : List Item). h ++ item ∷ []) (sym prefix.1);
      at_place = logs.at_place ∙ ap (λ (h : List Item). length h) (sym prefix.1);
      caller = caller;
      own = ap (λ (v : View Item). v.own) logs.leaves ∙ ap (λ (o : List Item). o ++ item ∷ []) same.2;
      number = ap (λ (v : View Item). v.number) logs.leaves ∙ same.0;
      splits = ap (λ (v : View Item). v.splits) logs.leaves ∙ same.1;
      joined = ap (λ (v : View Item). v.joined) logs.leaves ∙ same.3;
      share = ap (λ (v : View Item). v.share) logs.leaves ∙ same.4;
      knows = logs.knows;
    }

-- So with a call, which is logged under the number that its caller had before.
pub makes : (before held : View Item) (call : Call) (reply : Reply) (lock : TableId) (after : Pass) (place : ℕ) (core : Core)
    → IsPrefix before.seen held.seen → IsSamePass before held → StandsAt core (held.seen ++ entry_of held call reply ∷ []) → Logs lock held (entry_of held call reply) after place
    → Adds before (entry_of before call reply) place (view after)
makes before held call reply lock after place core prefix same stands logs =
    let one : entry_of held call reply ≡ entry_of before call reply = ap (λ (n : List ℕ). Called (record { caller = n; call = call; reply = reply })) same.0 in
    adds before held (entry_of before call reply) lock after place core prefix same refl
    (subst (λ (i : Item). StandsAt core (held.seen ++ i ∷ [])) one stands)
    (subst (λ (i : Item). Logs lock held i after place) one logs)

-- so with a buffer: where the call is answered its length is that of before, and where it is refused or put off, it is as it was
pub kept_where_refused : {A B : Type 0} (asked : CoreAnswer A) (reply : Result A Refusal) (now before : B) → asked ≡ Now reply → UnlessDone asked (now ≡ before) → IfRefused reply (now ≡ before)
kept_where_refused asked (Ok value) now before is stays = tt
kept_where_refused asked (Err refusal) now before is stays = subst (λ a. UnlessDone a (now ≡ before)) is stays

pub refused_after : {A B : Type 0} (reply result : Result A Refusal) (now before first : B) → result ≡ reply → before ≡ first → IfRefused reply (now ≡ before) → IfRefused result (now ≡ first)
refused_after reply result now before first is same stays = subst (λ r. IfRefused r (now ≡ first)) (sym is) (subst (λ b. IfRefused reply (now ≡ b)) same stays)
