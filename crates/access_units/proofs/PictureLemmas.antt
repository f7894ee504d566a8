-- What is known of the pictures that came.
use Rattle.std.proofs.Common.{◌≡◌, ℕ, ◌==◌, ◌<◌, ◌≤◌, Bool, true, false, ◌||◌, List, [], ◌∷◌, ◌++◌, length, map, reverse, Option, Some, None, Ok, unwrap_or, refl, sym, ap, ◌∙◌, subst, inl, inr, arith, eq-eqb, eqb-true}
use Rattle.std.specs.Option.{option_and_then}
use Rattle.std.proofs.lemmas.Bool.{or_parts}
use Rattle.std.proofs.lemmas.Grind.{reverse_onto}
use Rattle.std.proofs.lemmas.List.{length-map, length-reverse}
use Rattle.std.proofs.lemmas.List.Elements.{All-weaker}
use Rattle.cb_types.specs.References.{is_absent, is_unused}
use Rattle.cb_types.specs.Slices.{is_idr}
use Rattle.cb_types.specs.declared.header.Header.{Header}
use Rattle.cb_types.specs.declared.header.Marking.{Marking}
use Rattle.cb_types.specs.declared.header.Marking.TheVariants.{Absent, Idr, Operations, Sliding}
use Rattle.cb_types.specs.declared.header.UnitHead.{UnitHead}
use Rattle.cb_types.specs.declared.picture_info.Reference.{Reference}
use Rattle.marking.specs.Begun.{begun_of, settled_of}
use Rattle.marking.specs.History as marks
use Rattle.marking.specs.Operations.{HasRoom}
use Rattle.marking.specs.declared.begun.Begun.{Begun}
use Rattle.marking.specs.declared.marker.Marker.{Marker}
use Rattle.marking.proofs.BegunLemmas.{begun_known}
use Rattle.marking.proofs.HistoryLemmas.{ok_inv}
use Rattle.marking.proofs.NamedLemmas.{named_behind}
use Rattle.param_sets.specs.declared.pps.Pps.{Pps}
use Rattle.param_sets.specs.declared.sps.Sps.{Sps}
use Rattle.slice_header.specs.Conditions.{is_idr_unit}
use Rattle.slice_header.specs.Headers.{IsMarkingOf}
use Rattle.access_units.specs.Pictures.{AreOwn, BeginsBehind, IsSameSet, Picture, has_number, marked_of, with_count}
use Rattle.access_units.specs.Readable.{IsReadable}
use Rattle.access_units.specs.Stands.{HasItsSet, HasOwnNumber, HaveOwnNumbers, StandsBehind, last_set}
use Rattle.access_units.specs.declared.content.Named.{Named}
use Rattle.access_units.specs.declared.pictures.Pictures.{Pictures}

-- ---- the pictures in order, as the marking has them

pub marked_more : (before : List Picture) (picture : Picture) → reverse (map marked_of (picture ∷ before)) ≡ reverse (map marked_of before) ++ marked_of picture ∷ []
marked_more before picture = reverse_onto (map marked_of before) (marked_of picture) []

last_push : (pictures : List marks.Picture) (picture : marks.Picture) → marks.last_sps (pictures ++ picture ∷ []) ≡ Some picture.sps
last_push [] picture = refl
last_push (first ∷ pictures) picture = ap (λ (o : Option Sps). Some (unwrap_or o first.sps)) (last_push pictures picture)

pub last_behind : (before : List Picture) → marks.last_sps (reverse (map marked_of before)) ≡ last_set before
last_behind [] = refl
last_behind (last ∷ before) = ap marks.last_sps (marked_more before last) ∙ last_push (reverse (map marked_of before)) (marked_of last)

pub length_marked : (before : List Picture) → length (reverse (map marked_of before)) ≡ length before
length_marked before = length-reverse (map marked_of before) ∙ length-map before marked_of

-- ---- a picture may begin

not_both : (b : Bool) → b ≡ true → b ≡ false → ⊥
not_both b e f = cc

room_of : (head : UnitHead) (marking : Marking) → IsMarkingOf head marking → HasRoom marking
room_of head Absent h = tt
room_of head (Idr no_output long_term) h = tt
room_of head Sliding h = tt
room_of head (Operations count operations) h = h.2.most

idr_of : (head : UnitHead) (marking : Marking) → IsMarkingOf head marking → is_idr_unit head ≡ true → marks.is_marking_of_idr marking ≡ true
idr_of head Absent h e = refl
idr_of head (Idr no_output long_term) h e = refl
idr_of head Sliding h e = absurd (not_both (is_idr_unit head) e h.1)
idr_of head (Operations count operations) h e = absurd (not_both (is_idr_unit head) e h.1)

pub may_begin : (pictures : Pictures) (before : List Picture) (named : Named) → StandsBehind pictures before → IsReadable named → HasItsSet pictures.last named → length before < 7000000
    → marks.MayBegin (reverse (map marked_of before)) named.sps named.pps named.header
may_begin pictures before named stands readable has few =
    let head = named.header.head in
    let marking = named.header.marking in
    let same = length_marked before in
    record {
      sps_accepted = readable.sps;
      pps_accepted = readable.pps;
      frame_num = readable.header.frame_num;
      operations = room_of head marking readable.header.marking;
      few = omega (arith, same);
      sequence = λ idr. last_behind before ∙ sym stands.last ∙ has idr;
      marking = λ idr. idr_of head marking readable.header.marking idr;
    }

-- ---- the sequence set

none_set : (sps : Sps) → None ≡ Some sps → ⊥
none_set sps e = cc

some_set : (a b : Sps) → Some a ≡ Some b → a ≡ b
some_set a b e = cc

pub set_behind : (before : List Picture) (sps : Sps) → last_set before ≡ Some sps → IsSameSet before sps
set_behind [] sps e = none_set sps e
set_behind (last ∷ before) sps e = some_set last.sps sps e

pub behind_set : (before : List Picture) (sps : Sps) → IsSameSet before sps → last_set before ≡ Some sps
behind_set [] sps h = absurd h
behind_set (last ∷ before) sps h = ap (λ (s : Sps). Some s) h

-- what begins behind these has its set
pub has_set : (pictures : Pictures) (before : List Picture) (named : Named) (begun : Begun) → StandsBehind pictures before → BeginsBehind before named begun → HasItsSet pictures.last named
has_set pictures before named begun stands begins = λ idr. stands.last ∙ behind_set before named.sps (begins.same_set idr)

-- ---- what a picture begins with

some_marker : (a b : Marker) → Some a ≡ Some b → a ≡ b
some_marker a b e = cc

pub same_marker : (pictures : Pictures) (before : List Picture) (named : Named) (begun : Begun) → StandsBehind pictures before → (b : BeginsBehind before named begun) → b.marker ≡ pictures.marker
same_marker pictures before named begun stands b = some_marker b.marker pictures.marker (sym b.behind ∙ stands.marker.after)

pub begun_again : (pictures : Pictures) (before : List Picture) (named : Named) (begun : Begun) → StandsBehind pictures before → BeginsBehind before named begun
    → begun_of pictures.marker named.sps named.pps named.header ≡ Ok begun
begun_again pictures before named begun stands b =
    ap (λ (m : Marker). begun_of m named.sps named.pps named.header) (sym (same_marker pictures before named begun stands b)) ∙ b.begins

pub begun_header : (marker : Marker) (sps : Sps) (pps : Pps) (header : Header) (begun : Begun) → begun_of marker sps pps header ≡ Ok begun → begun.header ≡ header
begun_header marker sps pps header begun e =
    let first = ok_inv sps pps header begun (settled_of marker sps header) e in
    ap (λ (b : Begun). b.header) (sym first.2)

-- what begins is marked by its own header
pub may_finish : (pictures : Pictures) (before : List Picture) (named : Named) (begun : Begun) → StandsBehind pictures before → IsReadable named → BeginsBehind before named begun
    → marks.MayBegin (reverse (map marked_of before)) named.sps named.pps begun.header
may_finish pictures before named begun stands readable b =
    let e = begun_again pictures before named begun stands b in
    subst (λ (header : Header). marks.MayBegin (reverse (map marked_of before)) named.sps named.pps header) (sym (begun_header pictures.marker named.sps named.pps named.header begun e))
    (may_begin pictures before named stands readable (has_set pictures before named begun stands b) b.few)

pub begun_finish : (pictures : Pictures) (before : List Picture) (named : Named) (begun : Begun) → StandsBehind pictures before → BeginsBehind before named begun
    → begun_of pictures.marker named.sps named.pps begun.header ≡ Ok begun
begun_finish pictures before named begun stands b =
    let e = begun_again pictures before named begun stands b in
    ap (λ (header : Header). begun_of pictures.marker named.sps named.pps header) (begun_header pictures.marker named.sps named.pps named.header begun e) ∙ e

-- a picture that begins no period isn't IDR
pub begun_idr : (marker : Marker) (sps : Sps) (pps : Pps) (header : Header) (begun : Begun) → begun_of marker sps pps header ≡ Ok begun → begun.period ≡ false → is_idr header ≡ false
begun_idr marker sps pps header begun e none =
    let first = ok_inv sps pps header begun (settled_of marker sps header) e in
    (or_parts (is_idr header) first.0.marks.is_reset (ap (λ (b : Begun). b.period) first.2 ∙ none)).0

-- ---- own numbers

abbrev pub marks_picture : Sps → Header → marks.Picture
marks_picture sps header = record { sps = sps; header = header }

pub own_behind : (pictures : Pictures) (before : List Picture) (named : Named) (begun : Begun) (picture : Picture) (slices : ℕ) → StandsBehind pictures before → IsReadable named
    → BeginsBehind before named begun → picture.sps ≡ named.sps → picture.begun ≡ with_count slices begun → HasOwnNumber before picture
own_behind pictures before named begun picture slices stands readable b same is =
    let header = named.header in
    let e = begun_again pictures before named begun stands b in
    let first = ok_inv named.sps named.pps header begun (settled_of pictures.marker named.sps header) e in
    let s = first.0 in
    let frame : picture.begun.frame ≡ s.number = ap (λ (x : Begun). x.frame) is ∙ ap (λ (x : Begun). x.frame) (sym first.2) in
    let marked : marked_of picture ≡ record { sps = named.sps; header = header } =
    ap (λ (x : Sps). marks_picture x picture.begun.header) same ∙ ap (λ (x : Begun). marks_picture named.sps x.header) is ∙ ap (λ (x : Header). marks_picture named.sps x) (begun_header pictures.marker named.sps named.pps header begun e) in
    let has = has_set pictures before named begun stands b in
    let known = begun_known pictures.marker (reverse (map marked_of before)) named.sps named.pps header s stands.marker (may_begin pictures before named stands readable has b.few) first.1 in
    record {
      own = ap (λ (p : marks.Picture). marks.own_number (reverse (map marked_of before)) p) marked
          ∙ ap (λ (o : Option Marker). option_and_then (λ (m : Marker). marks.number_of (settled_of m named.sps header)) o) stands.marker.after
          ∙ ap marks.number_of first.1
          ∙ ap (λ (n : ℕ). Some n) (sym frame);
      few = subst (λ (n : ℕ). n ≤ 16) (sym frame) known.few;
    }

-- ---- which pictures references are

no_cons : (y : marks.Picture) (ys : List marks.Picture) → [] ≡ y ∷ ys → ⊥
no_cons y ys e = cc

pub no_middle : (ys zs : List marks.Picture) (y : marks.Picture) → [] ≡ ys ++ y ∷ zs → ⊥
no_middle [] zs y e = no_cons y zs e
no_middle (b ∷ ys) zs y e = no_cons b (ys ++ y ∷ zs) e

pub some_number : (a b : ℕ) → Some a ≡ Some b → a ≡ b
some_number a b e = cc

abbrev pub has_frame : ℕ → Picture → Bool
has_frame number picture = picture.begun.frame == number

pub or_first : (a b : Bool) → a ≡ true → (a || b) ≡ true
or_first a b e = rw e refl

pub or_second : (a b : Bool) → b ≡ true → (a || b) ≡ true
or_second true b e = refl
or_second false b e = e

pub number_named : (before : List Picture) (surface : ℕ) → HaveOwnNumbers before → marks.IsNamed (reverse (map marked_of before)) surface → has_number surface before ≡ true
unfolding HaveOwnNumbers
number_named [] surface numbers h = absurd (no_middle h.earlier h.later h.picture h.are_all)
number_named (last ∷ before) surface numbers h =
    let P : List marks.Picture → Type 0 = λ xs. marks.IsNamed xs surface in
    elim (named_behind (reverse (map marked_of before)) (marked_of last) surface (subst P (marked_more before last) h)) [
      | inl own ↦ or_first (has_frame surface last) (has_number surface before) (eq-eqb last.begun.frame surface (some_number last.begun.frame surface (sym numbers.0.own ∙ own)))
      | inr stays ↦ or_second (has_frame surface last) (has_number surface before) (number_named before surface numbers.1 stays.before)
    ]

pub all_own : (before : List Picture) (entries : List Reference) → HaveOwnNumbers before → marks.AreNamed (reverse (map marked_of before)) entries → AreOwn before entries
all_own before entries numbers h =
    All-weaker (λ (entry : Reference). is_unused entry ≡ false → is_absent entry ≡ false → marks.IsNamed (reverse (map marked_of before)) entry.surface)
    (λ (entry : Reference). is_unused entry ≡ false → is_absent entry ≡ false → has_number entry.surface before ≡ true)
    (λ entry named used there. number_named before entry.surface numbers (named used there)) entries h

-- own numbers are 16 at most
pub own_few : (before : List Picture) (number : ℕ) → HaveOwnNumbers before → has_number number before ≡ true → number ≤ 16
unfolding HaveOwnNumbers
own_few [] number numbers h = absurd (not_both false h refl)
own_few (last ∷ before) number numbers h =
    elim (has_frame number last) as (λ b. (has_frame number last ≡ b) → (b || has_number number before) ≡ true → number ≤ 16) [
      | true ↦ λ e f. subst (λ (n : ℕ). n ≤ 16) (eqb-true last.begun.frame number e) numbers.0.few
      | false ↦ λ e f. own_few before number numbers.1 f
    ] refl h
