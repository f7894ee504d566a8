-- What an acceptor stands for where bytes come.
use Rattle.std.proofs.Common.{◌≡◌, ◌≢◌, ℕ, Bool, true, false, not, List, [], ◌∷◌, ◌++◌, length, Option, Some, None, refl, sym, subst, ap, ◌∙◌}
use Rattle.std.specs.Prelude.{Vec, ◌==◌}
use Rattle.std.proofs.Math.Dec.{eqb-suc-zero}
use Rattle.std.specs.declared.alloc.Global.{Global}
use Rattle.access_units.specs.AccessUnits.{AccessUnit}
use Rattle.access_units.specs.Acceptors.{MayFeed, Past, fed}
use Rattle.access_units.specs.Contents.{Told}
use Rattle.access_units.specs.Pictures.{ArePictures, Picture}
use Rattle.access_units.specs.Standing.{IsLast, Reads, StandsFor}
use Rattle.access_units.specs.Stands.{StandsBehind}
use Rattle.access_units.specs.declared.acceptor.Acceptor.{Acceptor}
use Rattle.access_units.specs.declared.pictures.Pictures.{Pictures}
use Rattle.access_units.proofs.AskLemmas.{last_same}
use Rattle.access_units.proofs.FeedLemmas.{reads_ended, reads_fed}

-- the same bytes, in other memory
pub reads_bytes : (a : Acceptor) (bytes : Vec ℕ Global) (text : List ℕ) (ended : Bool) (told : List Told) (broken : Option ℕ) (opened hand front : List AccessUnit)
    → Reads a text ended told broken opened hand front → bytes.items ≡ a.bytes.items → Reads (record a { bytes = bytes }) text ended told broken opened hand front
reads_bytes a bytes text ended told broken opened hand front r is = record {
  size = r.size;
  from = r.from;
  looked = r.looked;
  bytes = is ∙ r.bytes;
  ended_is = r.ended_is;
  finder = r.finder;
  each = r.each;
  known = r.known;
  pending = r.pending;
  from_start = r.from_start;
  opened_only = r.opened_only;
  found_within = r.found_within;
  sets = r.sets;
  units = r.units;
  in_hand = r.in_hand;
  is_opened = r.is_opened;
  some_hand = r.some_hand;
  hand_within = r.hand_within;
  opened_within = r.opened_within;
}

-- Where only the text is read otherwise, the pictures stay.
stands_by : (old new : Acceptor) (past after : Past) (s : StandsFor old past) → new.pictures ≡ old.pictures → new.last_offset ≡ old.last_offset → new.has_failed ≡ old.has_failed
    → after.given ≡ past.given → after.outcome ≡ past.outcome → Reads new after.text after.ended s.told s.broken s.opened s.hand s.front → StandsFor new after
stands_by old new past after s pictures offset failed given outcome reads = record {
  told = s.told;
  broken = s.broken;
  opened = s.opened;
  hand = s.hand;
  front = s.front;
  reads = reads;
  pictures = subst (λ (list : List Picture). ArePictures s.front list) (sym given) s.pictures;
  behind = subst (λ (list : List Picture). StandsBehind new.pictures list) (sym given) (subst (λ (p : Pictures). StandsBehind p past.given) (sym pictures) s.behind);
  last = subst (λ (list : List Picture). IsLast new after.outcome list) (sym given) (subst (λ (o : Option Bool). IsLast new o past.given) (sym outcome) (last_same old new past.outcome past.given offset failed s.last));
}

-- the end comes
pub stands_ended : (a : Acceptor) (past : Past) (bytes : List ℕ) → bytes ≡ [] → StandsFor a past → MayFeed past bytes → StandsFor (record a { ended = true }) (fed past bytes)
stands_ended a past [] is s may =
    let r : Reads a past.text false s.told s.broken s.opened s.hand s.front = subst (λ (ended : Bool). Reads a past.text ended s.told s.broken s.opened s.hand s.front) may.not_ended s.reads in
    stands_by a (record a { ended = true }) past (record past { ended = true }) s refl refl refl refl refl (reads_ended a past.text s.told s.broken s.opened s.hand s.front r)
stands_ended a past (byte ∷ bytes) is s may = absurd (let no : ⊥ = cc in no)

-- the reading of an acceptor that has forgotten bytes
abbrev pub StaysRead : Acceptor → Acceptor → Type 0
StaysRead old new = (text : List ℕ) (ended : Bool) (told : List Told) (broken : Option ℕ) (opened hand front : List AccessUnit) → Reads old text ended told broken opened hand front → Reads new text ended told broken opened hand front

abbrev pub OtherBytes : Acceptor → Acceptor → Type 0
OtherBytes old new = new ≡ record old { bytes = new.bytes; from = new.from }

-- bytes come
pub stands_fed : (a mid : Acceptor) (all : Vec ℕ Global) (past : Past) (bytes : List ℕ) → bytes ≢ [] → StandsFor a past → MayFeed past bytes → StaysRead a mid → OtherBytes a mid
    → all.items ≡ mid.bytes.items ++ bytes → StandsFor (record mid { bytes = all }) (fed past bytes)
stands_fed a mid all past [] some s may stays rest is = absurd (some refl)
stands_fed a mid all past (byte ∷ bytes) some s may stays rest is =
    let r : Reads mid past.text false s.told s.broken s.opened s.hand s.front =
    subst (λ (ended : Bool). Reads mid past.text ended s.told s.broken s.opened s.hand s.front) may.not_ended (stays past.text past.ended s.told s.broken s.opened s.hand s.front s.reads) in
    stands_by a (record mid { bytes = all }) past (record past { text = past.text ++ byte ∷ bytes }) s
    (ap (λ (x : Acceptor). x.pictures) rest) (ap (λ (x : Acceptor). x.last_offset) rest) (ap (λ (x : Acceptor). x.has_failed) rest) refl refl
    (subst (λ (ended : Bool). Reads (record mid { bytes = all }) (past.text ++ byte ∷ bytes) ended s.told s.broken s.opened s.hand s.front) (sym may.not_ended)
    (reads_fed mid all past.text (byte ∷ bytes) s.told s.broken s.opened s.hand s.front r is may.room))

-- none come
pub stands_unfed : (a mid : Acceptor) (all : Vec ℕ Global) (past : Past) → StandsFor a past → StaysRead a mid → OtherBytes a mid → all.items ≡ mid.bytes.items → StandsFor (record mid { bytes = all }) past
stands_unfed a mid all past s stays rest is =
    stands_by a (record mid { bytes = all }) past past s
    (ap (λ (x : Acceptor). x.pictures) rest) (ap (λ (x : Acceptor). x.last_offset) rest) (ap (λ (x : Acceptor). x.has_failed) rest) refl refl
    (reads_bytes mid all past.text past.ended s.told s.broken s.opened s.hand s.front (stays past.text past.ended s.told s.broken s.opened s.hand s.front s.reads) is)

reads_settled : (a : Acceptor) (text : List ℕ) (ended : Bool) (told : List Told) (broken : Option ℕ) (opened hand front : List AccessUnit) (failed : Bool)
    → Reads a text ended told broken opened hand front → Reads (record a { has_failed = failed }) text ended told broken opened hand front
reads_settled a text ended told broken opened hand front failed r = record {
  size = r.size;
  from = r.from;
  looked = r.looked;
  bytes = r.bytes;
  ended_is = r.ended_is;
  finder = r.finder;
  each = r.each;
  known = r.known;
  pending = r.pending;
  from_start = r.from_start;
  opened_only = r.opened_only;
  found_within = r.found_within;
  sets = r.sets;
  units = r.units;
  in_hand = r.in_hand;
  is_opened = r.is_opened;
  some_hand = r.some_hand;
  hand_within = r.hand_within;
  opened_within = r.opened_within;
}

last_settled : (a : Acceptor) (outcome : Option Bool) (given : List Picture) (accepted : Bool) → outcome ≡ None → IsLast a outcome given → IsLast (record a { has_failed = not accepted }) (Some accepted) given
last_settled a outcome [] accepted none last = absurd (let e : None ≡ Some true = sym none ∙ last.0 in let no : ⊥ = cc in no)
last_settled a outcome (picture ∷ before) true none last = (last.0, (λ e. absurd (let no : ⊥ = cc in no)), λ e. absurd (let no : ⊥ = cc in no))
last_settled a outcome (picture ∷ before) false none last = (last.0, (λ e. refl), λ e. refl)

-- what was settled of the last picture
pub stands_settled : (a : Acceptor) (past : Past) (accepted : Bool) → StandsFor a past → past.outcome ≡ None → StandsFor (record a { has_failed = not accepted }) (record past { outcome = Some accepted })
stands_settled a past accepted s none = record {
  told = s.told;
  broken = s.broken;
  opened = s.opened;
  hand = s.hand;
  front = s.front;
  reads = reads_settled a past.text past.ended s.told s.broken s.opened s.hand s.front (not accepted) s.reads;
  pictures = s.pictures;
  behind = s.behind;
  last = last_settled a past.outcome past.given accepted none s.last;
}

-- ---- whether bytes came

pub empty_bytes : (bytes : List ℕ) → true ≡ (length bytes == 0) → bytes ≡ []
empty_bytes [] e = refl
empty_bytes (byte ∷ bytes) e = absurd (let no : true ≡ false = e ∙ eqb-suc-zero (length bytes) in let fail : ⊥ = cc in fail)

pub some_bytes : (bytes : List ℕ) → false ≡ (length bytes == 0) → bytes ≢ []
some_bytes bytes e none = let no : false ≡ true = e ∙ ap (λ (list : List ℕ). length list == 0) none in cc
