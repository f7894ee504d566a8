-- What was written stays a front of the text, whichever pictures follow.
use Rattle.std.proofs.Common.{◌≡◌, ℕ, ◌+◌, ◌<◌, Bool, true, false, if◌then◌else◌, List, [], ◌∷◌, ◌++◌, length, map, take, drop, Option, inl, inr, refl, sym, ap, subst, ◌∙◌, append_assoc, arith}
use Rattle.std.specs.Prelude.{flat_map}
use Rattle.std.specs.Io.KnownBytes.{Appends}
use Rattle.std.specs.List.{All}
use Rattle.std.proofs.KnownBytes.{Appends-nil}
use Rattle.std.proofs.lemmas.Grind.{flat_map-append}
use Rattle.std.proofs.lemmas.List.{append-nil, length-append, map-append, take-append-drop}
use Rattle.std.proofs.lemmas.List.Elements.{All-weaker}
use Rattle.output_order.specs.OutputOrder as order
use Rattle.output_order.proofs.ComesFirst.{ComeFirst, Follows, came_first, first_more}
use Rattle.access_units.specs.AccessUnits.{AccessUnit}
use Rattle.access_units.specs.Depth.{depth_of}
use Rattle.access_units.specs.Pictures.{ArePictures, IsPicture, IsSameSet, Picture, ordered, ordered_behind, periods}
use Rattle.access_units.specs.Stands.{HasDepth}
use Rattle.accepted_pictures.specs.Files.{Decoded, pictures_in}
use Rattle.vdplay.specs.Output.{numbers_in_order, picture_line, picture_lines, pictures_text, planes_at, planes_in_order}
use Rattle.vdplay.specs.Reports.{AppendsAhead, Holds, IsCalm, IsNextOf, MayFollow, Stands, planes_out, with_out}
use Rattle.vdplay.specs.Run.{AppendsFront, Begin}
use Rattle.vdplay.specs.declared.command_line.Command.{Command}
use Rattle.vdplay.specs.declared.command_line.Command.TheVariants.{Decode, Inspect}
use Rattle.vdplay.specs.declared.plane_writer.PlaneWriter.{PlaneWriter}
use Rattle.vdplay.proofs.HoldLemmas.{ordered_more, out_old, with_depth}
use Rattle.vdplay.proofs.NextLemmas.{Joins, joins, periods_more}
use Rattle.vdplay.proofs.Texts.{whole_front}

-- ---- fronts

begin_part : (n : ℕ) (bytes text : List ℕ) → Begin bytes text → Begin (take n bytes) text
begin_part n bytes text begins =
    (drop n bytes ++ begins.0, begins.1 ∙ ap (λ (xs : List ℕ). xs ++ begins.0) (sym (take-append-drop n bytes)) ∙ append_assoc (take n bytes) (drop n bytes) begins.0)

pub begin_longer : (bytes text more : List ℕ) → Begin bytes text → Begin bytes (text ++ more)
begin_longer bytes text more begins = (begins.0 ++ more, ap (λ (xs : List ℕ). xs ++ more) begins.1 ∙ append_assoc bytes begins.0 more)

pub front_begins : (n : ℕ) (text : List ℕ) → Begin (take n text) text
front_begins n text = (drop n text, sym (take-append-drop n text))

-- A front of a text with which each longer one begins.
pub part_ahead : (old new : Option (List ℕ)) (command : Command) (decoded : List Decoded) (text : List ℕ) → AppendsFront old new text
    → ((more : List Decoded) → MayFollow more decoded → Begin text (pictures_text command (more ++ decoded))) → AppendsAhead old new command decoded
part_ahead old new command decoded text part ahead = record {
  bytes = take part.0 text;
  appended = part.1;
  ahead = λ more follow. begin_part part.0 text (pictures_text command (more ++ decoded)) (ahead more follow);
}

pub nothing_ahead : (start : Option (List ℕ)) (command : Command) (decoded : List Decoded) → AppendsAhead start start command decoded
nothing_ahead start command decoded = record { bytes = []; appended = Appends-nil start; ahead = λ more follow. (pictures_text command (more ++ decoded), refl) }

-- ---- what may follow

follows_too : (more : List Decoded) (one : Decoded) (decoded : List Decoded) (au : AccessUnit) → IsPicture (pictures_in decoded) au one.picture → MayFollow more (one ∷ decoded) → MayFollow (more ++ one ∷ []) decoded
unfolding MayFollow
follows_too [] one decoded au is follow = (tt, (au, is))
follows_too (other ∷ more) one decoded au is follow =
    let same : more ++ one ∷ decoded ≡ (more ++ one ∷ []) ++ decoded = sym (append_assoc more (one ∷ []) decoded) in
    (follows_too more one decoded au is follow.0, (follow.1.0, subst (λ (l : List Decoded). IsPicture (pictures_in l) follow.1.0 other.picture) same follow.1.1))

-- One of them came.
pub ahead_of_next : (old new : Option (List ℕ)) (command : Command) (decoded : List Decoded) (one : Decoded) → IsNextOf decoded one → AppendsAhead old new command decoded → AppendsAhead old new command (one ∷ decoded)
ahead_of_next old new command decoded one next ahead = record {
  bytes = ahead.bytes;
  appended = ahead.appended;
  ahead = λ more follow.
      subst (λ (l : List Decoded). Begin ahead.bytes (pictures_text command l)) (append_assoc more (one ∷ []) decoded)
      (ahead.ahead (more ++ one ∷ []) (follows_too more one decoded next.au next.picture follow));
}

-- Accepted pictures, one behind the other, may follow the first of them.
pub all_follow : (more decoded : List Decoded) (units : List AccessUnit) → ArePictures units (pictures_in (more ++ decoded)) → MayFollow more decoded
unfolding MayFollow ArePictures
all_follow [] decoded units are = tt
all_follow (one ∷ more) decoded [] are = absurd are
all_follow (one ∷ more) decoded (au ∷ units) are = (all_follow more decoded units are.0, (au, are.1))

-- ---- lines

pub lines_more : (one : Decoded) (before : List Decoded) → picture_lines (one ∷ before) ≡ picture_lines before ++ picture_line before one
unfolding picture_lines
lines_more one before = refl

lines_go_on : (more decoded : List Decoded) → Begin (picture_lines decoded) (picture_lines (more ++ decoded))
lines_go_on [] decoded = ([], sym (append-nil (picture_lines decoded)))
lines_go_on (one ∷ more) decoded =
    let before = begin_longer (picture_lines decoded) (picture_lines (more ++ decoded)) (picture_line (more ++ decoded) one) (lines_go_on more decoded) in
    subst (λ (text : List ℕ). Begin (picture_lines decoded) text) (sym (lines_more one (more ++ decoded))) before

pub lines_ahead : (old new : Option (List ℕ)) (decoded : List Decoded) → AppendsFront old new (picture_lines decoded) → AppendsAhead old new Inspect decoded
lines_ahead old new decoded part = part_ahead old new Inspect decoded (picture_lines decoded) part (λ more follow. lines_go_on more decoded)

-- ---- planes

abbrev IsDepth : ℕ → List Picture → Type 0
IsDepth depth [] = Unit {0}
IsDepth depth (last ∷ before) = depth ≡ depth_of last.sps

-- These have come out, and come first behind these pictures and behind all that follow.
record StayFirst (came : List order.Picture) (pictures : List Picture) : Type 0 where
  depth : ℕ
  deep : IsDepth depth pictures
  first : ComeFirst came (ordered pictures) (periods pictures) depth

same_depth : (depth : ℕ) (pictures : List Picture) (one : Picture) → IsDepth depth pictures → IsSameSet pictures one.sps → depth_of one.sps ≡ depth
same_depth depth [] one deep same = absurd same
same_depth depth (last ∷ before) one deep same = ap depth_of (sym same) ∙ sym deep

follows_by : (begins : Bool) (count depth deep : ℕ) (one : order.Picture) → one.period ≡ (if begins then count + 1 else count) → (begins ≡ false → deep ≡ depth) → Follows count depth one deep
follows_by true count depth deep one period same = inr (omega (arith, period))
follows_by false count depth deep one period same = inl (period, same refl)

first_next : (came : List order.Picture) (pictures : List Picture) (one : Picture) → StayFirst came pictures → Joins pictures one → StayFirst came (one ∷ pictures)
first_next came pictures one stay joins =
    let next = ordered_behind pictures one.begun in
    let deep = depth_of one.sps in
    let follows = follows_by one.begun.period (periods pictures) stay.depth deep next refl (λ none. same_depth stay.depth pictures one stay.deep (joins.same_set none)) in
    let behind = first_more came (ordered pictures) (periods pictures) stay.depth deep next stay.first follows joins.in_time in
    let O : List order.Picture → Type 0 = λ xs. ComeFirst came xs (periods (one ∷ pictures)) deep in
    let P : ℕ → Type 0 = λ n. ComeFirst came (ordered pictures ++ next ∷ []) n deep in
    record { depth = deep; deep = refl; first = subst O (sym (ordered_more one pictures)) (subst P (sym (periods_more one pictures)) behind) }

stay_first : (came : List order.Picture) (more decoded : List Decoded) → MayFollow more decoded → StayFirst came (pictures_in decoded) → StayFirst came (pictures_in (more ++ decoded))
unfolding MayFollow
stay_first came [] decoded follow stay = stay
stay_first came (one ∷ more) decoded follow stay =
    first_next came (pictures_in (more ++ decoded)) one.picture (stay_first came more decoded follow.0 stay) (joins (pictures_in (more ++ decoded)) follow.1.0 one.picture follow.1.1)

-- what is known of what has come out before the end
pub record IsUnended (writer : PlaneWriter) (decoded : List Decoded) (h : order.History) : Type 0 where
  pub holds : Holds writer decoded h
  pub period : h.period ≡ periods (pictures_in decoded)
  pub depth : HasDepth h (pictures_in decoded)
  pub not_ended : h.ended ≡ false

is_depth : (h : order.History) (pictures : List Picture) → HasDepth h pictures → IsDepth h.depth pictures
is_depth h [] deep = tt
is_depth h (last ∷ before) deep = deep

out_first : (writer : PlaneWriter) (decoded : List Decoded) (h : order.History) (u : IsUnended writer decoded h) → StayFirst u.holds.waiting.came (pictures_in decoded)
out_first writer decoded h u =
    let s = u.holds.waiting in
    let P : List order.Picture → Type 0 = λ xs. ComeFirst s.came xs h.period h.depth in
    let N : ℕ → Type 0 = λ n. ComeFirst s.came (ordered (pictures_in decoded)) n h.depth in
    record { depth = h.depth; deep = is_depth h (pictures_in decoded) u.depth; first = subst N u.period (subst P u.holds.pushed (came_first writer.waiting h s u.not_ended)) }

old_planes : (more decoded : List Decoded) (out : List ℕ) → All (λ (n : ℕ). n < length decoded) out → flat_map (planes_at (more ++ decoded)) out ≡ flat_map (planes_at decoded) out
old_planes [] decoded out below = refl
old_planes (one ∷ more) decoded out below =
    let wide : All (λ (n : ℕ). n < length (more ++ decoded)) out =
    All-weaker (λ (n : ℕ). n < length decoded) (λ (n : ℕ). n < length (more ++ decoded)) (λ n less. omega (arith, length-append more decoded)) out below in
    out_old one (more ++ decoded) out wide ∙ old_planes more decoded out below

planes_go_on : (writer : PlaneWriter) (decoded : List Decoded) (h : order.History) → IsUnended writer decoded h → (more : List Decoded) → MayFollow more decoded → Begin (planes_out decoded h) (planes_in_order (more ++ decoded))
planes_go_on writer decoded h u more follow =
    let s = u.holds.waiting in
    let all = more ++ decoded in
    let number : order.Picture → ℕ = λ one. one.number in
    let stay = stay_first s.came more decoded follow (out_first writer decoded h u) in
    let later : List ℕ = map number stay.first.rest in
    let numbers : numbers_in_order all ≡ h.out ++ later =
    ap (map number) stay.first.ordered ∙ map-append number s.came stay.first.rest ∙ ap (λ (ns : List ℕ). ns ++ later) (sym s.out) in (
      flat_map (planes_at all) later,
      ap (flat_map (planes_at all)) numbers ∙ flat_map-append (planes_at all) h.out later
          ∙ ap (λ (bytes : List ℕ). bytes ++ flat_map (planes_at all) later) (old_planes more decoded h.out u.holds.out),
    )

pub planes_ahead : (writer : PlaneWriter) (decoded : List Decoded) (h : order.History) (old new : Option (List ℕ)) → IsUnended writer decoded h → AppendsFront old new (planes_out decoded h) → AppendsAhead old new Decode decoded
planes_ahead writer decoded h old new u part = part_ahead old new Decode decoded (planes_out decoded h) part (planes_go_on writer decoded h u)

-- ---- of a writer's states

-- Some more have come out.
pub out_ahead : (writer now : PlaneWriter) (decoded : List Decoded) (h : order.History) (out : List ℕ) (old new : Option (List ℕ)) → Stands writer decoded h → Holds now decoded (with_out h out)
    → AppendsFront old new (planes_out decoded (with_out h out)) → AppendsAhead old new Decode decoded
out_ahead writer now decoded h out old new stands holds part =
    planes_ahead now decoded (with_out h out) old new
    (record { holds = holds; period = stands.period; depth = with_depth h out (pictures_in decoded) stands.depth; not_ended = stands.not_ended }) part

pub calm_ahead : (writer : PlaneWriter) (decoded : List Decoded) (h : order.History) (old new : Option (List ℕ)) → IsCalm writer decoded h → Appends old new (planes_out decoded h) → AppendsAhead old new Decode decoded
calm_ahead writer decoded h old new calm written =
    let stands = calm.stands in
    planes_ahead writer decoded h old new (record { holds = stands.holds; period = stands.period; depth = stands.depth; not_ended = stands.not_ended }) (whole_front old new (planes_out decoded h) written)
