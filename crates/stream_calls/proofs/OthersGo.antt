-- Where no strangers call, others' items go on without them.
use Rattle.std.proofs.Common.{◌≡◌, ℕ, ◌||◌, ◌&&◌, Bool, true, false, not, List, [], ◌∷◌, ◌++◌, filter_map, Option, refl, ap, sym, ◌∙◌, subst}
use Rattle.std.proofs.lemmas.Bool.{or_from, or_parts}
use Rattle.std.proofs.lemmas.List.{append_assoc}
use Rattle.std.proofs.lemmas.List.Elements.{filter_map-append}
use Rattle.std.proofs.lemmas.List.Folds.{list_any-append}
use Rattle.std.specs.List.{list_any}
use Rattle.std.specs.Option.{option_map_or}
use Rattle.device_lock.specs.Lists.{same}
use Rattle.driver_model.specs.Parts.{is_first, made_on, names_of}
use Rattle.driver_model.specs.declared.items.Item.{Item}
use Rattle.driver_model.specs.declared.items.Item.TheVariants.{Called, Ended}
use Rattle.stream_calls.specs.OthersLeave.{NoStrangersGoOn}
use Rattle.stream_calls.specs.Strangers.{is_players, is_preempted_by, is_strangers}

fewer_of : (a b c d : Bool) → (a && ((b || c) && d)) ≡ false → (a && (b && d)) ≡ false
fewer_of false b c d e = refl
fewer_of true true c d e = e
fewer_of true false c d e = refl

module _ (caller : List ℕ) (may_preempt : Bool) (names more : List ℕ) where
  fewer : (item : Item) → is_strangers caller may_preempt (names ++ more) item ≡ false → is_strangers caller may_preempt names item ≡ false
  fewer (Called entry) none =
      let test : ℕ → Bool = λ name. is_first name entry.call in
      fewer_of (not (same caller entry.caller)) (list_any test names) (list_any test more) (not (is_players may_preempt entry.call))
      (ap (λ b. not (same caller entry.caller) && (b && not (is_players may_preempt entry.call))) (sym (list_any-append test names more)) ∙ none)
  fewer (Ended mark) none = refl

  all_fewer : (items : List Item) → list_any (is_strangers caller may_preempt (names ++ more)) items ≡ false
      → list_any (is_strangers caller may_preempt names) items ≡ false
  all_fewer [] none = refl
  all_fewer (item ∷ later) none =
      let parts = or_parts (is_strangers caller may_preempt (names ++ more) item) (list_any (is_strangers caller may_preempt (names ++ more)) later) none in
      or_from (is_strangers caller may_preempt names item) (list_any (is_strangers caller may_preempt names) later) (fewer item parts.0) (all_fewer later parts.1)

among : (test : Item → Bool) (front others more : List Item) → list_any test (front ++ (others ++ more)) ≡ false → list_any test others ≡ false
among test front others more none =
    let behind = or_parts (list_any test front) (list_any test (others ++ more)) (sym (list_any-append test front (others ++ more)) ∙ none) in
    (or_parts (list_any test others) (list_any test more) (sym (list_any-append test others more) ∙ behind.1)).0

pub no_strangers_go_on : NoStrangersGoOn
no_strangers_go_on front others more caller script stream device kind none_own is_device none =
    let whole : List Item = front ++ (others ++ more) in
    let may : Bool = is_preempted_by script stream in
    let on_device : list_any (is_strangers caller may (names_of whole device)) whole ≡ false =
    sym (ap (λ (o : Option ℕ). option_map_or (λ name. list_any (is_strangers caller may (names_of whole name)) whole) o false) is_device) ∙ none in
    let made : List ℕ = filter_map (made_on device) more in
    let names : names_of whole device ≡ names_of (front ++ others) device ++ made =
    ap (λ l. device ∷ l) (ap (filter_map (made_on device)) (sym (append_assoc front others more)) ∙ filter_map-append (made_on device) (front ++ others) more) in
    let here : list_any (is_strangers caller may (names_of (front ++ others) device ++ made)) others ≡ false =
    subst (λ l. list_any (is_strangers caller may l) others ≡ false) names (among (is_strangers caller may (names_of whole device)) front others more on_device) in
    record { kind = kind; none_own = none_own; no_strangers = all_fewer caller may (names_of (front ++ others) device) made others here }
