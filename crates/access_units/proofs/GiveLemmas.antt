-- What an acceptor gives whose access unit in hand is settled.
use Rattle.std.proofs.Common.{◌≡◌, ◌≢◌, ℕ, ◌≤◌, ◌⊎◌, inl, inr, Bool, true, false, List, [], ◌∷◌, ◌++◌, map, Option, Some, None, refl, sym, ap, subst, ◌∙◌, arith}
use Rattle.std.specs.Prelude.{IfSome, take, slice_range, unwrap_or}
use Rattle.std.proofs.lemmas.List.{append-nil}
use Rattle.nal_units.specs.Settled.{Settles}
use Rattle.access_units.specs.AccessUnits.{AccessUnit, access_units, grouped}
use Rattle.access_units.specs.Acceptors.{IsAtAnEnd, IsDecodable, IsNext, IsSettled, IsStopped, IsUpNext, Past, Shows, giving}
use Rattle.access_units.specs.Contents.{Told, WhereElse, places_of}
use Rattle.access_units.specs.Depth.{depth_of}
use Rattle.access_units.specs.Giving.{IsOfferOf, IsReady, IsSound}
use Rattle.access_units.specs.Hands.{Holds}
use Rattle.access_units.specs.Pictures.{ArePictures, BeginsBehind, IsPicture, Picture, with_count}
use Rattle.access_units.specs.Standing.{AreWithin, IsLast, Keeps, Reads, StandsFor, Within, found_in}
use Rattle.access_units.specs.Stands.{StandsBehind}
use Rattle.access_units.specs.declared.acceptor.Acceptor.{Acceptor}
use Rattle.access_units.specs.declared.acceptor.Unsettled.{Unsettled}
use Rattle.access_units.specs.declared.giving.Offer.{Offer}
use Rattle.access_units.specs.declared.hand.InHand.{InHand}
use Rattle.access_units.specs.declared.pictures.Pictures.{Pictures}
use Rattle.param_sets.specs.Sps.{size_of}
use Rattle.access_units.proofs.LookLemmas.{looked_on}
use Rattle.access_units.proofs.SequenceLemmas.{one_size}
use Rattle.access_units.proofs.UnitFound.{if_some, keeps_none, keeps_some}

no_none : (h : Option InHand) (held : InHand) → h ≡ Some held → h ≡ None → ⊥
no_none h held is none = let e : Some held ≡ None = sym is ∙ none in cc

same_held : (a b : InHand) (h : Option InHand) → h ≡ Some a → h ≡ Some b → a ≡ b
same_held a b h is same = let e : Some a ≡ Some b = sym is ∙ same in cc

true_false : (b : Bool) → b ≡ true → b ≡ false → ⊥
true_false b is isnt = let e : true ≡ false = sym is ∙ isnt in cc

-- ---- the access unit in hand is settled

looked_over : (over : Bool) (P Q : Type 0) → over ≡ true → WhereElse over P Q → P
looked_over true P Q is holds = holds
looked_over false P Q is holds = absurd (let e : false ≡ true = is in cc)

-- an access unit that is opened
opened_one : (h : Option InHand) (text : List ℕ) (units : List AccessUnit) → Keeps h text units → h ≢ None → (au : AccessUnit) × (units ≡ au ∷ [])
opened_one None text units keeps some = absurd (some refl)
opened_one (Some held) text units keeps some = (keeps.0, keeps.1)

not_over : (a : Acceptor) → a.is_over ≡ false → (a.opened ≢ None) ⊎ (a.is_over ≡ true) → a.opened ≢ None
not_over a on (inl some) = some
not_over a on (inr over) = absurd (true_false a.is_over over on)

no_found : (a : Acceptor) (told : List Told) → a.found ≡ None → places_of told ++ found_in a.found ≡ places_of told
no_found a told none = ap (λ (f : Option (ℕ × ℕ)). places_of told ++ found_in f) none ∙ append-nil (places_of told)

settled_by : (over : Bool) (a : Acceptor) (text : List ℕ) (ended : Bool) (told : List Told) (broken : Option ℕ) (opened hand front : List AccessUnit) (au : AccessUnit)
    → a.is_over ≡ over → Reads a text ended told broken opened hand front → a.found ≡ None → (a.opened ≢ None) ⊎ (a.is_over ≡ true) → hand ≡ au ∷ []
    → IsSettled text ended front au
settled_by true a text ended told broken opened hand front au over r none settled is =
    let known : IsAtAnEnd text ended (places_of told ++ found_in a.found) broken = looked_over a.is_over _ _ over r.known in
    record {
      told = told;
      each = r.each;
      by = inr (
        broken,
        subst (λ (places : List (ℕ × ℕ)). IsAtAnEnd text ended places broken) (no_found a told none) known,
        (opened, r.units ∙ ap (λ (us : List AccessUnit). opened ++ (us ++ front)) is),
      );
    }
settled_by false a text ended told broken opened hand front au on r none settled is =
    let known = looked_on a text ended (places_of told ++ found_in a.found) broken on r.known in
    let another = opened_one a.opened text opened r.is_opened (not_over a on settled) in
    let units : grouped told ≡ opened ++ (hand ++ front) = subst (λ (b : Option ℕ). access_units told b ≡ opened ++ (hand ++ front)) known.0 r.units in
    record {
      told = told;
      each = r.each;
      by = inl (
        (a.looked, r.looked, subst (λ (places : List (ℕ × ℕ)). Settles (take a.looked text) places None) (no_found a told none) known.1),
        (another.0, units ∙ ap (λ (us : List AccessUnit). us ++ (hand ++ front)) another.1 ∙ ap (λ (us : List AccessUnit). another.0 ∷ (us ++ front)) is),
      );
    }

pub up_next : (a : Acceptor) (past : Past) (au : AccessUnit) (s : StandsFor a past) → IsReady a → s.hand ≡ au ∷ [] → IsUpNext past au
up_next a past au s ready is = record {
  front = s.front;
  settled = settled_by a.is_over a past.text past.ended s.told s.broken s.opened s.hand s.front au refl s.reads ready.found ready.settled is;
  pictures = s.pictures;
}

-- ---- the acceptor behind a picture

-- the picture comes, and what was opened behind it is in hand
abbrev pub behind : Acceptor → Pictures → ℕ → Acceptor
behind a pictures offset = record a { pictures = pictures; hand = a.opened; opened = None; last_offset = offset }

opened_within : (opened : Option InHand) (hand : Option InHand) (first : InHand) (from looked : ℕ) → hand ≡ Some first → from ≤ first.offset
    → IfSome opened (λ held. IfSome hand (λ before. before.offset ≤ held.offset) × (held.offset ≤ looked) × AreWithin held.offset looked held.slices.items)
    → Within opened from looked
opened_within None hand first from looked is low within = tt
opened_within (Some held) hand first from looked is low within =
    let below = if_some hand first (λ (before : InHand). before.offset ≤ held.offset) is within.0 in (omega (arith, low, below), within.1, within.2)

none_left : (a : Acceptor) (text : List ℕ) (opened : List AccessUnit) → Keeps a.opened text opened → (a.opened ≢ None) ⊎ (a.is_over ≡ true) → opened ≡ [] → a.is_over ≡ false → ⊥
none_left a text opened keeps settled empty on =
    not_over a on settled (keeps_none a.opened text (subst (λ (units : List AccessUnit). Keeps a.opened text units) empty keeps))

reads_behind : (a : Acceptor) (pictures : Pictures) (held : InHand) (text : List ℕ) (ended : Bool) (told : List Told) (broken : Option ℕ) (opened hand front : List AccessUnit) (au : AccessUnit)
    → a.hand ≡ Some held → Reads a text ended told broken opened hand front → a.found ≡ None → (a.opened ≢ None) ⊎ (a.is_over ≡ true) → hand ≡ au ∷ []
    → Reads (behind a pictures held.offset) text ended told broken [] opened (au ∷ front)
reads_behind a pictures held text ended told broken opened hand front au was r none settled is =
    let From = λ (h : InHand). (a.from ≤ h.offset) × (h.offset ≤ a.looked) × AreWithin h.offset a.looked h.slices.items in
    let lies = if_some a.hand held From was r.hand_within in
    record {
      size = r.size;
      from = r.from;
      looked = r.looked;
      bytes = r.bytes;
      ended_is = r.ended_is;
      finder = r.finder;
      each = r.each;
      known = r.known;
      pending = r.pending;
      from_start = r.from_start;
      opened_only = λ some. none;
      found_within = r.found_within;
      sets = r.sets;
      units = r.units ∙ ap (λ (us : List AccessUnit). opened ++ (us ++ front)) is;
      in_hand = r.is_opened;
      is_opened = refl;
      some_hand = λ empty. (refl, (λ on. absurd (none_left a text opened r.is_opened settled empty on)), λ some. absurd (some none));
      hand_within = opened_within a.opened a.hand held a.from a.looked was lies.0 r.opened_within;
      opened_within = tt;
    }

pictures_more : (front : List AccessUnit) (before : List Picture) (au : AccessUnit) (picture : Picture) → ArePictures front before → IsPicture before au picture → ArePictures (au ∷ front) (picture ∷ before)
unfolding ArePictures
pictures_more front before au picture are is = (are, is)

not_failed : (a : Acceptor) (outcome : Option Bool) (given : List Picture) → outcome ≡ Some true → IsLast a outcome given → a.has_failed ≡ true → ⊥
not_failed a outcome [] whole last failed = true_false a.has_failed failed last.1
not_failed a outcome (picture ∷ before) whole last failed = let e : Some true ≡ Some false = sym whole ∙ last.1 failed in cc

no_outcome : {A : Type 0} (outcome : Option Bool) (b : Bool) → outcome ≡ None → outcome ≡ Some b → A
no_outcome outcome b none some = absurd (let e : None ≡ Some b = sym none ∙ some in cc)

stands_behind : (a : Acceptor) (pictures : Pictures) (past : Past) (held : InHand) (au : AccessUnit) (picture : Picture) (s : StandsFor a past)
    → past.outcome ≡ Some true → IsReady a → a.hand ≡ Some held → s.hand ≡ au ∷ [] → held.offset ≡ picture.offset → IsPicture past.given au picture → StandsBehind pictures (picture ∷ past.given)
    → StandsFor (behind a pictures held.offset) (giving past picture)
stands_behind a pictures past held au picture s whole ready was is offset is_picture stands = record {
  told = s.told;
  broken = s.broken;
  opened = [];
  hand = s.opened;
  front = au ∷ s.front;
  reads = reads_behind a pictures held past.text past.ended s.told s.broken s.opened s.hand s.front au was s.reads ready.found ready.settled is;
  pictures = pictures_more s.front past.given au picture s.pictures is_picture;
  behind = stands;
  last = (offset, (λ failed. absurd (not_failed a past.outcome past.given whole s.last failed)), λ e. no_outcome {A = a.has_failed ≡ true} None false refl e);
}

-- ---- the answer

-- the picture of an offer
abbrev picture_of : AccessUnit → Offer → Picture
picture_of au offer = record { offset = au.offset; slices = au.slices; sps = offer.named.sps; begun = with_count offer.slices offer.begun }

offered : (past : Past) (au : AccessUnit) (offer : Offer) → IsOfferOf past au offer → IsPicture past.given au (picture_of au offer)
offered past au offer o = record {
  allowed = o.allowed;
  named = offer.named;
  first = o.first;
  begun = offer.begun;
  begins = o.begins;
  fits = o.fits;
  is = ap (λ (slices : ℕ). record { offset = au.offset; slices = au.slices; sps = offer.named.sps; begun = with_count slices offer.begun }) o.slices;
}

-- what is handed out of an offer
abbrev pub shown : ℕ → Offer → Unsettled
shown offset offer = record {
  offset = offset;
  begun = with_count offer.slices offer.begun;
  size = size_of offer.named.sps;
  depth = depth_of offer.named.sps;
  references = offer.named.sps.max_num_ref_frames;
  submission = offer.submission;
}

-- An offer is of the access unit in hand, whatever the acceptor stands for.
abbrev pub IsOffered : Acceptor → InHand → Offer → Type 0
IsOffered a held offer = (past : Past) (au : AccessUnit) → StandsFor a past → Holds held past.text au → IsOfferOf past au offer

pub begins : (a : Acceptor) (past : Past) (held : InHand) (offer : Offer) → StandsFor a past → a.hand ≡ Some held → IsOffered a held offer
    → (before : List Picture) × StandsBehind a.pictures before × BeginsBehind before offer.named offer.begun
begins a past held offer s was offered =
    let kept = keeps_some a.hand held past.text s.hand was s.reads.in_hand in
    (past.given, s.behind, (offered past kept.0 s kept.2).begins)

pub decodable : (a : Acceptor) (past : Past) (held : InHand) (offer : Offer) (unsettled : Unsettled) (offset : ℕ) → StandsFor a past → a.hand ≡ Some held → IsOffered a held offer → IsSound offer
    → unsettled ≡ shown offset offer → unsettled.depth ≤ 16 → IsDecodable past unsettled
decodable a past held offer unsettled offset s was offered sound shows depth =
    let kept = keeps_some a.hand held past.text s.hand was s.reads.in_hand in
    let offer_is : IsOfferOf past kept.0 offer = offered past kept.0 s kept.2 in
    let all : IsDecodable past (shown offset offer) = record {
      info = sound.info;
      baseline = sound.baseline;
      size = sound.readable.sps.size;
      depth = subst (λ (u : Unsettled). u.depth ≤ 16) shows depth;
      frame = sound.frame;
      named = offer_is.own;
      sequence = offer_is.sequence;
      one_size = λ idr. one_size s.front past.given offer.named offer.begun s.pictures offer_is.begins idr;
      none_at_idr = sound.none_at_idr;
      apart = sound.apart;
    } in
    subst (λ (u : Unsettled). IsDecodable past u) (sym shows) all

abbrev pub GivesNext : Acceptor → Past → Unsettled → Type 0
GivesNext new past unsettled = (picture : Picture) × IsNext past picture × Shows unsettled picture × StandsFor new (giving past picture)

pub gives : (a new : Acceptor) (pictures : Pictures) (past : Past) (held : InHand) (offer : Offer) (unsettled : Unsettled) (s : StandsFor a past)
    → past.outcome ≡ Some true → IsReady a → a.hand ≡ Some held
    → IsOffered a held offer
    → ((before : List Picture) (picture : Picture) (slices : ℕ) → StandsBehind a.pictures before → BeginsBehind before offer.named offer.begun
    → picture.sps ≡ offer.named.sps → picture.begun ≡ with_count slices offer.begun → StandsBehind pictures (picture ∷ before))
    → unsettled ≡ shown held.offset offer → new ≡ behind a pictures held.offset
    → GivesNext new past unsettled
gives a new pictures past held offer unsettled s whole ready was offers comes shows rest =
    let kept = keeps_some a.hand held past.text s.hand was s.reads.in_hand in
    let au : AccessUnit = kept.0 in
    let o : IsOfferOf past au offer = offers past au s kept.2 in
    let is : IsPicture past.given au (picture_of au offer) = offered past au offer o in
    let stands : StandsBehind pictures (picture_of au offer ∷ past.given) = comes past.given (picture_of au offer) offer.slices s.behind o.begins refl refl in
    let all : GivesNext (behind a pictures held.offset) past (shown held.offset offer) = (
      picture_of au offer,
      record { outcome = whole; au = au; up_next = up_next a past au s ready kept.1; is = is },
      record { offset = kept.2.offset; begun = refl; size = refl; depth = refl; references = refl; submission = o.submission },
      stands_behind a pictures past held au (picture_of au offer) s whole ready was kept.1 kept.2.offset is stands,
    ) in
    subst (λ (u : Unsettled). GivesNext new past u) (sym shows) (subst (λ (x : Acceptor). GivesNext x past (shown held.offset offer)) (sym rest) all)

map_none : (f : ℕ × ℕ → List ℕ) (places : List (ℕ × ℕ)) → map f places ≡ [] → places ≡ []
map_none f [] e = refl
map_none f (p ∷ ps) e = absurd (cc)

-- The access unit in hand isn't accepted.
pub stopped : (a : Acceptor) (past : Past) (held : InHand) (s : StandsFor a past) → past.outcome ≡ Some true → IsReady a → a.hand ≡ Some held
    → ((p : Past) (au : AccessUnit) (picture : Picture) → StandsFor a p → Holds held p.text au → ¬ IsPicture p.given au picture)
    → IsStopped past held.offset (unwrap_or held.refused false)
stopped a past held s whole ready was none =
    let kept = keeps_some a.hand held past.text s.hand was s.reads.in_hand in
    let au : AccessUnit = kept.0 in
    let h : Holds held past.text au = kept.2 in
    let same : ready.some.0 ≡ held = same_held ready.some.0 held a.hand ready.some.1 was in
    let counts : held.refused ≡ None → held.slices.items ≡ [] → ⊥ = subst (λ (x : InHand). x.refused ≡ None → x.slices.items ≡ [] → ⊥) same ready.some.2 in
    record {
      outcome = whole;
      au = au;
      up_next = up_next a past au s ready kept.1;
      refused = record {
        no_picture = λ picture. none past au picture s h;
        not_tail = λ allowed empty. counts (h.refused ∙ allowed) (map_none (λ (place : ℕ × ℕ). slice_range past.text place.0 place.1) held.slices.items (h.slices ∙ empty));
      };
      offset_is = h.offset;
      large_is = ap (λ (r : Option Bool). unwrap_or r false) h.refused;
    }
