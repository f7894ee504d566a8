-- The flips on a queue through a whole history.
use Rattle.std.proofs.Common.{◌≡◌, inl, inr, ℕ, ◌==◌, ◌<◌, not, ◌||◌, Bool, true, false, if◌then◌else◌, List, [], ◌∷◌, ◌++◌, filter, flat_map, map, Option, Some, None, refl, ap, sym, ◌∙◌, subst}
use Rattle.std.proofs.lemmas.Bool.{false≢true}
use Rattle.std.proofs.lemmas.List.{append_assoc, append-nil, map-append}
use Rattle.std.proofs.lemmas.List.Elements.{filter-append}
use Rattle.std.specs.List.{AllByRecursion, AllZip, cons_option}
use Rattle.std.specs.Option.{option_map_or, option_to_list}
use Rattle.present_queue.specs.Queue.{Queued}
use Rattle.script_ticks.specs.Ticks.{Rises}
use Rattle.driver_model.specs.FlipText.{flips_in}
use Rattle.driver_model.specs.Histories.{Happens, IsStateOf, Leads}
use Rattle.driver_model.specs.Objects.{Object, PresentationQueue, as_queue}
use Rattle.driver_model.specs.States.{State, Found, empty_state, name_at, named}
use Rattle.driver_model.specs.declared.items.Item.{Item}
use Rattle.driver_model.specs.declared.items.Item.TheVariants.{Called, Ended}
use Rattle.driver_model.specs.declared.replies.Flipped.{Flipped}
use Rattle.driver_model.proofs.Leading.{histories_lead_to_one}
use Rattle.driver_model.proofs.Named.{named-Some}
use Rattle.driver_model.proofs.SoundChanges.{nothing_there}
use Rattle.player_laws.specs.Displays.{AreAsked, DisplaysAreFlipped, IsMadeIn, KeepsTime, asked_by, entries_told, flips_on, is_of, is_on, tick_made, ticks_made, times_asked, was_ticked}
use Rattle.player_laws.proofs.QueueSteps.{step_kind}
use Rattle.player_laws.proofs.QueueStands.{AreLate, Standing, Stepped, Waits, any_step, found_value, late_not_of, rises_end, ticked_on, times_of}
use Rattle.player_laws.proofs.QueueTicks.{all_parts}
use Rattle.player_laws.proofs.States.{leads_on, names_apart, state_sane}

join_all : (P : Flipped → Type 0) (xs ys : List Flipped) → AllByRecursion P xs → AllByRecursion P ys → AllByRecursion P (xs ++ ys)
join_all P [] ys one other = other
join_all P (x ∷ xs) ys one other = (one.0, join_all P xs ys one.1 other)

weaker : (P Q : Flipped → Type 0) → ((f : Flipped) → P f → Q f) → (xs : List Flipped) → AllByRecursion P xs → AllByRecursion Q xs
weaker P Q follows [] all = tt
weaker P Q follows (x ∷ xs) all = (follows x all.0, weaker P Q follows xs all.1)

of_more : (tick : Option ℕ) (times : List ℕ) (time : ℕ) → is_of (option_to_list tick) time ≡ true → is_of (cons_option tick times) time ≡ true
of_more None times time is = absurd (false≢true is)
of_more (Some t) times time is = by_first (t == time) is where
  by_first : (b : Bool) → (b || false) ≡ true → (b || is_of times time) ≡ true
  by_first true e = refl
  by_first false e = absurd (false≢true e)

of_later : (tick : Option ℕ) (times : List ℕ) (time : ℕ) → is_of times time ≡ true → is_of (cons_option tick times) time ≡ true
of_later None times time is = is
of_later (Some t) times time is = by_first (t == time) where
  by_first : (b : Bool) → (b || is_of times time) ≡ true
  by_first true = refl
  by_first false = is

ticked-more : (ticks later : List ℕ) (tick : Option ℕ) → ticks ++ cons_option tick later ≡ ticked_on ticks tick ++ later
ticked-more ticks later None = refl
ticked-more ticks later (Some time) = sym (append_assoc ticks (time ∷ []) later)

module _ (history : List Item) (device queue : ℕ) (clock : List ℕ) (all : List Flipped) (keeps : KeepsTime history device queue clock all) where
  abbrev InClock : List Flipped → Type 0
  InClock flips = AllByRecursion (λ (flip : Flipped). is_of clock flip.time ≡ true) flips

  pub record Run (t : State) (later : List Item) (ticks : List ℕ) (waiting asked : List Flipped) : Type 0 where
    pub shown : List Flipped
    pub left : List Flipped
    pub standing : Standing queue device t.objects (ticks ++ ticks_made device later) left
    pub flips : flips_on queue later ≡ shown
    pub moves : waiting ++ asked ≡ shown ++ left
    pub on_ticks : AllByRecursion (λ (flip : Flipped). is_of (ticks_made device later) flip.time ≡ true) shown
    pub late : AreLate (ticks ++ ticks_made device later) left

  -- one item
  one_item : (front later : List Item) (s t : State) (item : Item) → history ≡ front ++ item ∷ later → IsStateOf front s → Happens s item t → (ticks : List ℕ) (waiting others : List Flipped)
      → Standing queue device s.objects ticks waiting → AreLate ticks waiting → Rises (times_of (waiting ++ others)) → InClock waiting → (rest : List ℕ) → clock ≡ ticks ++ (cons_option (tick_made device item) rest)
      → Stepped queue device t.objects (asked_by s queue item) (tick_made device item) (flips_in item) ticks waiting
  one_item front later s t (Ended mark) splits state h ticks waiting others standing late rising in_clock rest clock_is =
      let same : t.objects ≡ s.objects = ap (λ (u : State). u.objects) h.1 in
      record { shown = []; left = waiting; standing = subst (λ l. Standing queue device l ticks waiting) (sym same) standing; flips = refl; moves = append-nil waiting; on_tick = tt; late = late }
  one_item front later s t (Called entry) splits state h ticks waiting others standing late rising in_clock rest clock_is =
      let made : IsMadeIn history s entry = record { front = front; later = later; splits = splits; state = state } in
      let same : h.0.objects ≡ t.objects = ap (λ (u : State). u.objects) (sym h.2) in
      let kind = step_kind queue device s h.0 entry.caller entry.reply entry.call h.1 in
      let one = any_step queue device s h.0 entry.caller entry.call entry.reply (state_sane front s state) (names_apart front s state) h.1 ticks waiting (record {
        on_device = keeps.on_device s entry made;
        queue_stays = keeps.queue_stays s entry made;
        device_stays = keeps.device_stays s entry made;
        no_puts = λ surface bytes e. keeps.no_puts s entry surface bytes made e;
        idle = λ mixer structure video output on e ok found. keeps.idle s entry mixer structure video output on made e ok found;
        next = λ time e.
            let whole : clock ≡ ticks ++ (time ∷ rest) = clock_is ∙ ap (λ o. ticks ++ cons_option o rest) e in
            record {
              promised = keeps.promised s entry time made e;
              later = rest;
              rises = subst Rises whole keeps.rises;
              in_clock = subst (λ c. AllByRecursion (λ (flip : Flipped). is_of c flip.time ≡ true) waiting) whole in_clock;
            };
        rising = rises_front waiting others rising;
      }) kind standing late in
      subst (λ l. Stepped queue device l (asked_by s queue (Called entry)) (tick_made device (Called entry)) (flips_in (Called entry)) ticks waiting) same one
    where
      above_front : (x : ℕ) (xs ys : List Flipped) → AllByRecursion (λ other. x < other) (times_of (xs ++ ys)) → AllByRecursion (λ other. x < other) (times_of xs)
      above_front x [] ys all_above = tt
      above_front x (f ∷ xs) ys all_above = (all_above.0, above_front x xs ys all_above.1)

      rises_front : (xs ys : List Flipped) → Rises (times_of (xs ++ ys)) → Rises (times_of xs)
      rises_front [] ys rises = tt
      rises_front (f ∷ xs) ys rises = (above_front f.time xs ys rises.0, rises_front xs ys rises.1)

  run : (front later : List Item) (s t : State) → history ≡ front ++ later → IsStateOf front s → Leads s later t → (ticks : List ℕ) (waiting asked : List Flipped) → AreAsked queue s later asked → Standing queue device s.objects ticks waiting → AreLate ticks waiting
      → Rises (times_of (waiting ++ asked)) → InClock (waiting ++ asked) → (rest : List ℕ) → clock ≡ ticks ++ (ticks_made device later ++ rest) → Run t later ticks waiting asked
  unfolding Leads AreAsked
  run front [] s t splits state leads ticks waiting asked are standing late rising in_clock rest clock_is =
      let same : s.objects ≡ t.objects = ap (λ (u : State). u.objects) (sym leads) in
      record {
        shown = [];
        left = waiting;
        standing = subst (λ l. Standing queue device l (ticks ++ []) waiting) same (subst (λ k. Standing queue device s.objects k waiting) (sym (append-nil ticks)) standing);
        flips = refl;
        moves = ap (λ l. waiting ++ l) are ∙ append-nil waiting;
        on_ticks = tt;
        late = subst (λ k. AreLate k waiting) (sym (append-nil ticks)) late;
      }
  run front (item ∷ later) s t splits state leads ticks waiting asked are standing late rising in_clock rest clock_is =
      let a = asked_by s queue item in
      let others : List Flipped = are.2 in
      let first_state : IsStateOf (front ++ item ∷ []) are.0 = leads_on empty_state s are.0 front (item ∷ []) state (are.0, are.1, refl) in
      let second_state : IsStateOf (front ++ item ∷ []) leads.0 = leads_on empty_state s leads.0 front (item ∷ []) state (leads.0, leads.1, refl) in
      let one_state : are.0 ≡ leads.0 = histories_lead_to_one (front ++ item ∷ []) are.0 leads.0 first_state second_state in
      let are_later : AreAsked queue leads.0 later others = subst (λ (u : State). AreAsked queue u later others) one_state are.3 in
      let tick = tick_made device item in
      let clock_first : clock ≡ ticks ++ cons_option tick (ticks_made device later ++ rest) = clock_is ∙ ap (λ l. ticks ++ l) (cons-append tick (ticks_made device later) rest) in
      let lists : waiting ++ asked ≡ (waiting ++ a) ++ others = ap (λ l. waiting ++ l) are.4 ∙ sym (append_assoc waiting a others) in
      let st = one_item front later s leads.0 item splits state leads.1 ticks waiting asked standing late rising (all_parts (λ (f : Flipped). is_of clock f.time ≡ true) waiting asked in_clock).0 (ticks_made device later ++ rest) clock_first in
      let moved : waiting ++ asked ≡ st.shown ++ (st.left ++ others) = lists ∙ (ap (λ l. l ++ others) st.moves ∙ append_assoc st.shown st.left others) in
      let rising_later : Rises (times_of (st.left ++ others)) = rises_end (times_of st.shown) (times_of (st.left ++ others)) (subst Rises (ap times_of moved ∙ map-append (λ (f : Flipped). f.time) st.shown (st.left ++ others)) rising) in
      let clock_later : InClock (st.left ++ others) = (all_parts (λ (f : Flipped). is_of clock f.time ≡ true) st.shown (st.left ++ others) (subst InClock moved in_clock)).1 in
      let r = run (front ++ item ∷ []) later leads.0 t (splits ∙ sym (append_assoc front (item ∷ []) later)) second_state leads.2 (ticked_on ticks tick) st.left others are_later st.standing st.late rising_later clock_later rest (clock_first ∙ ticked-more ticks (ticks_made device later ++ rest) tick) in
      let all_ticks : ticked_on ticks tick ++ ticks_made device later ≡ ticks ++ cons_option tick (ticks_made device later) = sym (ticked-more ticks (ticks_made device later) tick) in
      record {
        shown = st.shown ++ r.shown;
        left = r.left;
        standing = subst (λ k. Standing queue device t.objects k r.left) all_ticks r.standing;
        flips = filter-append (is_on queue) (flips_in item) (flat_map flips_in later) ∙ (ap (λ l. l ++ filter (is_on queue) (flat_map flips_in later)) st.flips ∙ ap (λ l. st.shown ++ l) r.flips);
        moves = moved ∙ (ap (λ l. st.shown ++ l) r.moves ∙ sym (append_assoc st.shown r.shown r.left));
        on_ticks = join_all (λ (f : Flipped). is_of (cons_option tick (ticks_made device later)) f.time ≡ true) st.shown r.shown
            (weaker (λ f. is_of (option_to_list tick) f.time ≡ true) (λ f. is_of (cons_option tick (ticks_made device later)) f.time ≡ true) (λ f is. of_more tick (ticks_made device later) f.time is) st.shown st.on_tick)
            (weaker (λ f. is_of (ticks_made device later) f.time ≡ true) (λ f. is_of (cons_option tick (ticks_made device later)) f.time ≡ true) (λ f is. of_later tick (ticks_made device later) f.time is) r.shown r.on_ticks);
        late = subst (λ k. AreLate k r.left) all_ticks r.late;
      }
    where
      cons-append : (o : Option ℕ) (xs ys : List ℕ) → cons_option o xs ++ ys ≡ cons_option o (xs ++ ys)
      cons-append None xs ys = refl
      cons-append (Some x) xs ys = refl

-- ---- the law

kept_all : (test : Flipped → Bool) (flips : List Flipped) → AllByRecursion (λ flip. test flip ≡ true) flips → filter test flips ≡ flips
kept_all test [] all = refl
kept_all test (flip ∷ flips) all = ap (λ b. if b then flip ∷ filter test flips else filter test flips) all.0 ∙ ap (λ l. flip ∷ l) (kept_all test flips all.1)

kept_none : (test : Flipped → Bool) (flips : List Flipped) → AllByRecursion (λ flip. test flip ≡ false) flips → filter test flips ≡ []
kept_none test [] all = refl
kept_none test (flip ∷ flips) all = ap (λ b. if b then flip ∷ filter test flips else filter test flips) all.0 ∙ kept_none test flips all.1

first_part : (test : Flipped → Bool) (xs ys : List Flipped) → AllByRecursion (λ flip. test flip ≡ true) xs → AllByRecursion (λ flip. test flip ≡ false) ys → filter test (xs ++ ys) ≡ xs
first_part test xs ys passed failed = filter-append test xs ys ∙ (ap (λ l. l ++ filter test ys) (kept_all test xs passed) ∙ (ap (λ l. xs ++ l) (kept_none test ys failed) ∙ append-nil xs))

second_part : (test : Flipped → Bool) (xs ys : List Flipped) → AllByRecursion (λ flip. test flip ≡ true) xs → AllByRecursion (λ flip. test flip ≡ false) ys → filter (λ flip. not (test flip)) (xs ++ ys) ≡ ys
second_part test xs ys passed failed =
    filter-append (λ flip. not (test flip)) xs ys
    ∙ (ap (λ l. l ++ filter (λ flip. not (test flip)) ys) (kept_none (λ flip. not (test flip)) xs (weaker (λ f. test f ≡ true) (λ f. not (test f) ≡ false) (λ f e. ap not e) xs passed))
    ∙ kept_all (λ flip. not (test flip)) ys (weaker (λ f. test f ≡ false) (λ f. not (test f) ≡ true) (λ f e. ap not e) ys failed))

told_of_entries : (queue : ℕ) (s : State) (window : ℕ) (entries : List (Queued ℕ)) (flips : List Flipped) → AllZip (Waits queue s.objects window) entries flips → map (λ (entry : Queued ℕ). (name_at s entry.surface, entry.earliest)) entries ≡ times_asked flips
told_of_entries queue s window [] [] waits = refl
told_of_entries queue s window [] (flip ∷ flips) waits = absurd waits
told_of_entries queue s window (entry ∷ entries) [] waits = absurd waits
told_of_entries queue s window (entry ∷ entries) (flip ∷ flips) waits =
    let w = waits.0 in
    let names : name_at s entry.surface ≡ flip.surface = ap (λ (o : Option Object). option_map_or (λ (x : Object). x.name) o 0) w.stands ∙ sym (ap (λ (f : Flipped). f.surface) w.is) in
    let times : entry.earliest ≡ flip.time = sym (ap (λ (f : Flipped). f.time) w.is) in
    λ i. (names i, times i) ∷ told_of_entries queue s window entries flips waits.1 i

pub displays_are_flipped : DisplaysAreFlipped
unfolding Leads
displays_are_flipped history s device queue clock asked leads are keeps =
    let r = run history device queue clock asked keeps [] history empty_state s refl refl leads [] [] asked are (inl (record { none = λ place a e. nothing_there a e; no_ticks = refl; no_flips = refl })) tt keeps.displays_rise keeps.for_ticks keeps.later keeps.ticks in
    let passed : AllByRecursion (λ flip. was_ticked (ticks_made device history) flip ≡ true) r.shown = r.on_ticks in
    let failed : AllByRecursion (λ flip. was_ticked (ticks_made device history) flip ≡ false) r.left = weaker (λ f. AllByRecursion (λ t. t < f.time) (ticks_made device history)) (λ f. is_of (ticks_made device history) f.time ≡ false) (λ f late. late_not_of (ticks_made device history) f.time late) r.left r.late in
    record {
      flips = r.flips ∙ (sym (first_part (was_ticked (ticks_made device history)) r.shown r.left passed failed) ∙ ap (filter (was_ticked (ticks_made device history))) (sym r.moves));
      entries = λ on found.
          let left_is : filter (λ flip. not (was_ticked (ticks_made device history) flip)) asked ≡ r.left = ap (filter (λ flip. not (was_ticked (ticks_made device history) flip))) r.moves ∙ second_part (was_ticked (ticks_made device history)) r.shown r.left passed failed in
          by_standing on found r.left r.standing ∙ ap times_asked (sym left_is);
    }
  where
    by_standing : (on : Found PresentationQueue) → named s as_queue queue ≡ Some on → (left : List Flipped) → Standing queue device s.objects (ticks_made device history) left → entries_told s on ≡ times_asked left
    by_standing on found left (inl m) =
        let is = named-Some as_queue queue s on found in
        absurd (let k : (let o : Option PresentationQueue = None in o ≡ Some on.value) = sym (m.none on.place is.0 is.1 is.2.has_name) ∙ is.2.is_kind in cc)
    by_standing on found left (inr h) =
        let is = named-Some as_queue queue s on found in
        let value : on.value ≡ h.of = found_value queue device s (names_apart history s leads) (ticks_made device history) left h on found in
        subst (λ (q : PresentationQueue). map (λ (entry : Queued ℕ). (name_at s entry.surface, entry.earliest)) q.queue.entries ≡ times_asked left) (sym value) (told_of_entries queue s h.of.window h.of.queue.entries left h.waits)
