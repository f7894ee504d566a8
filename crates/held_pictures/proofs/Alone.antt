-- Where no strangers have called behind an item, none had before.
use Rattle.std.proofs.Common.{◌≡◌, ℕ, Bool, true, false, not, ◌&&◌, ◌||◌, List, [], ◌∷◌, ◌++◌, filter_map, Option, Some, None, refl, ap, append_assoc, sym, ◌∙◌}
use Rattle.std.specs.List.{list_any}
use Rattle.std.specs.Option.{option_map_or}
use Rattle.std.proofs.lemmas.Bool.{false≢true}
use Rattle.std.proofs.lemmas.List.Folds.{list_any-append}
use Rattle.std.proofs.lemmas.List.Elements.{filter_map-append}
use Rattle.clock_script.specs.declared.script.ScriptLine.{ScriptLine}
use Rattle.device_lock.specs.Lists.{same}
use Rattle.device_lock.specs.declared.view.View.{View}
use Rattle.driver_model.specs.Parts.{is_first, made_on, names_of}
use Rattle.driver_model.specs.Passes.{Adds}
use Rattle.driver_model.specs.declared.items.Item.{Item}
use Rattle.driver_model.specs.declared.items.Item.TheVariants.{Called, Ended}
use Rattle.stream_calls.specs.Counted.{device_made, device_of, devices_made, first_of}
use Rattle.stream_calls.specs.Strangers.{has_strangers, is_players, is_preempted_by, is_strangers}

or_parts : (a b : Bool) → (a || b) ≡ false → (a ≡ false) × (b ≡ false)
or_parts true b e = absurd (false≢true (sym e))
or_parts false b e = (refl, e)

fewer : (a b more c : Bool) → (a && ((b || more) && c)) ≡ false → (a && (b && c)) ≡ false
fewer false b more c e = refl
fewer true false more c e = refl
fewer true true more c e = e

fewer_names : (caller : List ℕ) (may : Bool) (names more : List ℕ) (item : Item) → is_strangers caller may (names ++ more) item ≡ false → is_strangers caller may names item ≡ false
fewer_names caller may names more (Ended mark) e = refl
fewer_names caller may names more (Called entry) e =
    let both = list_any-append (λ name. is_first name entry.call) names more in
    fewer (not (same caller entry.caller)) (list_any (λ name. is_first name entry.call) names) (list_any (λ name. is_first name entry.call) more) (not (is_players may entry.call))
    (sym (ap (λ b. not (same caller entry.caller) && (b && not (is_players may entry.call))) both) ∙ e)

fewer_all : (caller : List ℕ) (may : Bool) (names more : List ℕ) (items : List Item)
    → list_any (is_strangers caller may (names ++ more)) items ≡ false → list_any (is_strangers caller may names) items ≡ false
fewer_all caller may names more [] e = refl
fewer_all caller may names more (item ∷ items) e =
    let parts = or_parts (is_strangers caller may (names ++ more) item) (list_any (is_strangers caller may (names ++ more)) items) e in
    ap (λ b. b || list_any (is_strangers caller may names) items) (fewer_names caller may names more item parts.0) ∙ fewer_all caller may names more items parts.1

names_more : (front more : List Item) (device : ℕ) → names_of (front ++ more) device ≡ names_of front device ++ filter_map (made_on device) more
names_more front more device = ap (λ l. device ∷ l) (filter_map-append (made_on device) front more)

fewer_items : (caller : List ℕ) (may : Bool) (front more : List Item) (device : ℕ)
    → list_any (is_strangers caller may (names_of (front ++ more) device)) (front ++ more) ≡ false
    → list_any (is_strangers caller may (names_of front device)) front ≡ false
fewer_items caller may front more device e =
    let those : list_any (is_strangers caller may (names_of (front ++ more) device)) front ≡ false =
    (or_parts (list_any (is_strangers caller may (names_of (front ++ more) device)) front) (list_any (is_strangers caller may (names_of (front ++ more) device)) more)
    (sym (list_any-append (is_strangers caller may (names_of (front ++ more) device)) front more) ∙ e)).0 in
    fewer_all caller may (names_of front device) (filter_map (made_on device) more) front
    (sym (ap (λ names. list_any (is_strangers caller may names) front) (names_more front more device)) ∙ those)

first_more : (names more : List ℕ) (device : ℕ) → first_of names ≡ Some device → first_of (names ++ more) ≡ Some device
first_more [] more device e = absurd (let k : (let o : Option ℕ = None in o ≡ Some device) = e in cc)
first_more (name ∷ names) more device e = e

pub device_stays : (own : List Item) (item : Item) (device : ℕ) → device_of own ≡ Some device → device_of (own ++ item ∷ []) ≡ Some device
device_stays own item device e =
    ap first_of (filter_map-append device_made own (item ∷ [])) ∙ first_more (devices_made own) (filter_map device_made (item ∷ [])) device e

module _ (script : List ScriptLine) (stream : ℕ) where
  abbrev strangers : (seen : List Item) (device : Option ℕ) (caller : List ℕ) → Bool
  strangers seen device caller = option_map_or (λ device. list_any (is_strangers caller (is_preempted_by script stream) (names_of seen device)) seen) device false

  before_by : (front more : List Item) (caller : List ℕ) (old : Option ℕ) (new : Option ℕ) → ((device : ℕ) → old ≡ Some device → new ≡ Some device)
      → strangers (front ++ more) new caller ≡ false → strangers front old caller ≡ false
  before_by front more caller None new stays e = refl
  before_by front more caller (Some device) new stays e =
      fewer_items caller (is_preempted_by script stream) front more device (sym (ap (λ d. strangers (front ++ more) d caller) (stays device refl)) ∙ e)

  pub alone_before : (v w : View Item) (item : Item) (place : ℕ) → Adds v item place w
      → has_strangers w.seen w.own w.number script stream ≡ false → has_strangers v.seen v.own v.number script stream ≡ false
  alone_before v w item place adds e =
      before_by v.seen (adds.between ++ item ∷ []) v.number (device_of v.own) (device_of (v.own ++ item ∷ [])) (device_stays v.own item)
      (sym (ap (λ seen. strangers seen (device_of (v.own ++ item ∷ [])) v.number) (adds.seen ∙ append_assoc v.seen adds.between (item ∷ [])))
      ∙ (sym (ap (λ own. strangers w.seen (device_of own) v.number) adds.own) ∙ (sym (ap (λ c. strangers w.seen (device_of w.own) c) adds.number) ∙ e)))
