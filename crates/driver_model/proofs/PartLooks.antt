-- What a call finds in the part about the device: what it finds in the whole, at its place there.
use Rattle.std.proofs.Common.{◌≡◌, ℕ, suc, ◌+◌, ◌==◌, Bool, true, false, ◌&&◌, if◌then◌else◌, List, [], ◌∷◌, slice_get, Option, Some, None, Ok, Err, refl, ap, sym, ◌∙◌, subst}
use Rattle.std.proofs.lemmas.Bool.{and_right, eq-eqb, eqb-true, false≢true, ne_eqb}
use Rattle.std.specs.Option.{is_some, option_and_then, option_map, option_map_or, option_or}
use Rattle.vd_status.specs.declared.refusal.Refusal.TheVariants.{DeviceMismatch, Preempted}
use Rattle.driver_model.specs.Objects.{Content, Device, Object, as_device}
use Rattle.driver_model.specs.Refusals.{Looked, ◌>>=◌, ◌>>◌, first_handle, further_handle, in_use}
use Rattle.driver_model.specs.States.{State, Found, content_at, found_at, found_from, is_preempted, name_at, named, time_of}
use Rattle.driver_model.proofs.Named.{named-Some}
use Rattle.driver_model.proofs.PartContents.{Moves, device_moves, moved_content, moved_object, part_of}
use Rattle.driver_model.proofs.PartPlaces.{Cut, get-kept, kept, next, place_in, place_in-one, place_in-own}
use Rattle.driver_model.proofs.PartTicks.{AreOf, Stand, stand_all, stand_here, stand_other, stand_own}

-- ---- looks of the part and of the whole

-- a look that finds the same, in other words
abbrev pub moved_look : {A B : Type 0} → (A → B) → Looked A → Looked B
moved_look f (Ok a) = Ok (f a)
moved_look f (Err refusal) = Err refusal

pub then_moved : {A B C D : Type 0} (m : Looked A) (n : Looked C) (f : A → C) (g : B → D) (later : A → Looked B) (also : C → Looked D)
    → n ≡ moved_look f m → ((a : A) → m ≡ Ok a → also (f a) ≡ moved_look g (later a)) → (n >>= also) ≡ moved_look g (m >>= later)
then_moved (Ok a) n f g later also is rest = ap (λ l. l >>= also) is ∙ rest a refl
then_moved (Err refusal) n f g later also is rest = ap (λ l. l >>= also) is

pub guard_moved : {B D : Type 0} (m : Looked (Unit {0})) (g : B → D) (later : Looked B) (also : Looked D) → also ≡ moved_look g later → (m >> also) ≡ moved_look g (m >> later)
guard_moved (Ok nothing) g later also rest = rest
guard_moved (Err refusal) g later also rest = refl

-- ---- names

-- each object of this name is the device's own
abbrev pub IsOwnName : (ℕ → Bool) → List Object → ℕ → Type 0
IsOwnName own objects name = (k : ℕ) (object : Object) → slice_get objects k ≡ Some object → object.name ≡ name → own k ≡ true

or-map : {A B : Type 0} (f : A → B) (a b : Option A) → option_or (option_map f a) (option_map f b) ≡ option_map f (option_or a b)
or-map f None b = refl
or-map f (Some x) b = refl

module _ (c : Cut) where
  abbrev pub moved_found : {T : Type 0} → (T → T) → Found T → Found T
  moved_found move found = record { place = place_in c found.place; device = place_in c found.device; value = move found.value }

  module _ {T : Type 0} (as_kind : Content → Option T) (move : T → T) (moves : Moves c as_kind move) where
    found_value : (i j device : ℕ) (value : Option T) → place_in c i ≡ j
        → option_map {U = Found T} (λ v. record { place = j; device = place_in c device; value = v }) (option_map move value) ≡ option_map (moved_found move) (option_map (λ v. record { place = i; device = device; value = v }) value)
    found_value i j device None here = refl
    found_value i j device (Some v) here = ap (λ k. Some (record { place = k; device = place_in c device; value = move v })) (sym here)

    found_at-own : (name i j : ℕ) (object : Object) → place_in c i ≡ j → found_at as_kind name j (moved_object c object) ≡ option_map (moved_found move) (found_at as_kind name i object)
    found_at-own name i j object here = by_test (object.is_live && object.name == name) where
      by_test : (t : Bool) → (if t then option_map {U = Found T} (λ v. record { place = j; device = place_in c object.device; value = v }) (as_kind (moved_content c object.content)) else None)
          ≡ option_map (moved_found move) (if t then option_map (λ v. record { place = i; device = object.device; value = v }) (as_kind object.content) else None)
      by_test true =
          ap (λ o. option_map {U = Found T} (λ v. record { place = j; device = place_in c object.device; value = v }) o) (moves object.content)
          ∙ found_value i j object.device (as_kind object.content) here
      by_test false = refl

    found_at-other : (name i : ℕ) (object : Object) → (object.name ≡ name → ⊥) → found_at as_kind name i object ≡ None
    found_at-other name i object other =
        ap (λ t. if t then option_map {U = Found T} (λ v. record { place = i; device = object.device; value = v }) (as_kind object.content) else None)
        (and_right object.is_live (object.name == name) (ne_eqb object.name name other))

    found-kept : (name i j : ℕ) (own : ℕ → Bool) (objects : List Object) → Stand c i j own → IsOwnName own objects name
        → found_from as_kind name j (kept (moved_object c) own objects) ≡ option_map (moved_found move) (found_from as_kind name i objects)
    unfolding kept found_from
    found-kept name i j own [] stand is_own = refl
    found-kept name i j own (object ∷ later) stand is_own =
        by_first (own 0) refl
        (λ is. found-kept name (i + 1) (j + 1) (next own) later (stand_own c i j own stand is) (λ n o e. is_own (suc n) o e))
        (λ is. found-kept name (i + 1) j (next own) later (stand_other c i j own stand is) (λ n o e. is_own (suc n) o e))
      where
        by_first : (t : Bool) → own 0 ≡ t → (own 0 ≡ true → found_from as_kind name (j + 1) (kept (moved_object c) (next own) later) ≡ option_map (moved_found move) (found_from as_kind name (i + 1) later)) → (own 0 ≡ false → found_from as_kind name j (kept (moved_object c) (next own) later) ≡ option_map (moved_found move) (found_from as_kind name (i + 1) later))
            → found_from as_kind name j (if t then moved_object c object ∷ kept (moved_object c) (next own) later else kept (moved_object c) (next own) later)
            ≡ option_map (moved_found move) (option_or (found_at as_kind name i object) (found_from as_kind name (i + 1) later))
        by_first true is rest other =
            (λ k. option_or (found_at-own name i j object (stand_here c i j own stand is) k) (rest is k))
            ∙ or-map (moved_found move) (found_at as_kind name i object) (found_from as_kind name (i + 1) later)
        by_first false is rest other =
            other is
            ∙ ap (λ o. option_map (moved_found move) (option_or o (found_from as_kind name (i + 1) later)))
            (sym (found_at-other name i object (λ e. false≢true (sym is ∙ is_own 0 object refl e))))

    -- a name finds in the part what it finds in the whole
    pub part-named : (s t : State) (name : ℕ) → t.objects ≡ part_of c s.objects → IsOwnName c.own s.objects name → named t as_kind name ≡ option_map (moved_found move) (named s as_kind name)
    part-named s t name objects is_own = ap (found_from as_kind name 0) objects ∙ found-kept name 0 0 c.own s.objects (stand_all c) is_own

    -- and the content at a place is the same
    content_in : (o : Option Object) → option_and_then (λ (object : Object). as_kind object.content) (option_map (moved_object c) o) ≡ option_map move (option_and_then (λ (object : Object). as_kind object.content) o)
    content_in None = refl
    content_in (Some object) = moves object.content

    pub part-content : (s t : State) (place : ℕ) → t.objects ≡ part_of c s.objects → c.own place ≡ true → content_at t as_kind (place_in c place) ≡ option_map move (content_at s as_kind place)
    part-content s t place objects is =
        (λ k. option_and_then (λ (object : Object). as_kind object.content) (slice_get (objects k) (place_in-own c place is k)))
        ∙ (ap (option_and_then (λ (object : Object). as_kind object.content)) (get-kept (moved_object c) c.own s.objects place is) ∙ content_in (slice_get s.objects place))

  -- ---- what stands at a place

  name_in : (o : Option Object) → option_map_or (λ (object : Object). object.name) (option_map (moved_object c) o) 0 ≡ option_map_or (λ object. object.name) o 0
  name_in None = refl
  name_in (Some object) = refl

  pub part-name : (s t : State) (place : ℕ) → t.objects ≡ part_of c s.objects → c.own place ≡ true → name_at t (place_in c place) ≡ name_at s place
  part-name s t place objects is =
      (λ k. option_map_or (λ (object : Object). object.name) (slice_get (objects k) (place_in-own c place is k)) 0)
      ∙ (ap (λ (o : Option Object). option_map_or (λ object. object.name) o 0) (get-kept (moved_object c) c.own s.objects place is) ∙ name_in (slice_get s.objects place))

  same_device : (o : Option Device) → option_map (λ (of : Device). of) o ≡ o
  same_device None = refl
  same_device (Some of) = refl

  part-device : (s t : State) (place : ℕ) → t.objects ≡ part_of c s.objects → c.own place ≡ true → content_at t as_device (place_in c place) ≡ content_at s as_device place
  part-device s t place objects is = part-content as_device (λ of. of) (device_moves c) s t place objects is ∙ same_device (content_at s as_device place)

  pub part-preempted : (s t : State) (place : ℕ) → t.objects ≡ part_of c s.objects → c.own place ≡ true → is_preempted t (place_in c place) ≡ is_preempted s place
  part-preempted s t place objects is = ap (λ (o : Option Device). option_map_or (λ of. of.is_preempted) o false) (part-device s t place objects is)

  pub part-time : (s t : State) (place : ℕ) → t.objects ≡ part_of c s.objects → c.own place ≡ true → time_of t (place_in c place) ≡ time_of s place
  part-time s t place objects is = ap (λ (o : Option Device). option_map_or (λ of. of.time) o 0) (part-device s t place objects is)

-- ---- devices

-- Each object's device is there, and is a device of its own.
pub record IsRooted (objects : List Object) (place : ℕ) (object : Object) : Type 0 where
  pub root : Object
  pub stands : slice_get objects object.device ≡ Some root
  pub itself : root.device ≡ object.device
  pub is_device : is_some (as_device object.content) ≡ true → object.device ≡ place

abbrev pub AreRooted : List Object → Type 0
AreRooted objects = (place : ℕ) (object : Object) → slice_get objects place ≡ Some object → IsRooted objects place object

-- What a name found is the device's own, and so is the device that it is on.
pub record IsOwnFound (c : Cut) (on : ℕ) {T : Type 0} (found : Found T) : Type 0 where
  pub place : c.own found.place ≡ true
  pub device : c.own found.device ≡ true
  pub on_device : found.device ≡ on

module _ (c : Cut) (on : ℕ) (s : State) (are_of : AreOf c.own on s.objects) (rooted : AreRooted s.objects) where
  pub own_device : (place : ℕ) (object : Object) → slice_get s.objects place ≡ Some object → c.own place ≡ true → (object.device ≡ on) × (c.own object.device ≡ true)
  own_device place object stands own =
      let device : object.device ≡ on = eqb-true object.device on (sym (are_of place object stands) ∙ own) in
      let is = rooted place object stands in
      (device, are_of object.device is.root is.stands ∙ eq-eqb is.root.device on (is.itself ∙ device))

  module _ {T : Type 0} (as_kind : Content → Option T) where
    pub own_found : (name : ℕ) (found : Found T) → IsOwnName c.own s.objects name → named s as_kind name ≡ Some found → IsOwnFound c on found
    own_found name found is_own e =
        let is = named-Some as_kind name s found e in
        let own : c.own found.place ≡ true = is_own found.place is.0 is.1 is.2.has_name in
        let device = own_device found.place is.0 is.1 own in
        record { place = own; device = subst (λ d. c.own d ≡ true) (sym is.2.of_device) device.1; on_device = is.2.of_device ∙ device.0 }

  -- the device itself
  pub own_root : (name : ℕ) (found : Found Device) → IsOwnName c.own s.objects name → named s as_device name ≡ Some found → found.place ≡ on
  own_root name found is_own e =
      let is = named-Some as_device name s found e in
      let own : c.own found.place ≡ true = is_own found.place is.0 is.1 is.2.has_name in
      let device = own_device found.place is.0 is.1 own in
      sym ((rooted found.place is.0 is.1).is_device (ap is_some is.2.is_kind)) ∙ device.0

  -- ---- handles

  module _ {T : Type 0} (as_kind : Content → Option T) (move : T → T) (moves : Moves c as_kind move) (t : State) (objects : t.objects ≡ part_of c s.objects) where
    use_part : (arg : ℕ) (found : Option (Found T)) → ((f : Found T) → found ≡ Some f → c.own f.device ≡ true)
        → in_use t arg (option_map (moved_found c move) found) ≡ moved_look (moved_found c move) (in_use s arg found)
    use_part arg None own = refl
    use_part arg (Some f) own =
        ap (λ b. if b then Err Preempted else Ok (moved_found c move f)) (part-preempted c s t f.device objects (own f refl)) ∙ by_test (is_preempted s f.device)
      where
        by_test : (b : Bool) → (let l : Looked (Found T) = if b then Err Preempted else Ok (moved_found c move f) in l) ≡ moved_look (moved_found c move) (if b then Err Preempted else Ok f)
        by_test true = refl
        by_test false = refl

    pub part-use : (arg name : ℕ) → IsOwnName c.own s.objects name → in_use t arg (named t as_kind name) ≡ moved_look (moved_found c move) (in_use s arg (named s as_kind name))
    part-use arg name is_own =
        ap (in_use t arg) (part-named c as_kind move moves s t name objects is_own)
        ∙ use_part arg (named s as_kind name) (λ f e. (own_found as_kind name f is_own e).device)

    pub part-first : (name : ℕ) → IsOwnName c.own s.objects name → first_handle t (named t as_kind name) ≡ moved_look (moved_found c move) (first_handle s (named s as_kind name))
    part-first name is_own = part-use 0 name is_own

    further_part : (arg device : ℕ) (found : Option (Found T))
        → further_handle arg (place_in c device) (option_map (moved_found c move) found) ≡ moved_look (moved_found c move) (further_handle arg device found)
    further_part arg device None = refl
    further_part arg device (Some f) =
        ap (λ b. if b then Ok (moved_found c move f) else Err (DeviceMismatch arg)) (place_in-one c f.device device) ∙ by_test (f.device == device)
      where
        by_test : (b : Bool) → (let l : Looked (Found T) = if b then Ok (moved_found c move f) else Err (DeviceMismatch arg) in l) ≡ moved_look (moved_found c move) (if b then Ok f else Err (DeviceMismatch arg))
        by_test true = refl
        by_test false = refl

    pub part-further : (arg device name : ℕ) → IsOwnName c.own s.objects name
        → further_handle arg (place_in c device) (named t as_kind name) ≡ moved_look (moved_found c move) (further_handle arg device (named s as_kind name))
    part-further arg device name is_own =
        ap (further_handle arg (place_in c device)) (part-named c as_kind move moves s t name objects is_own) ∙ further_part arg device (named s as_kind name)
