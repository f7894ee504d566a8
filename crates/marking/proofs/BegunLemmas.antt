-- What is known of a picture that begins.
use Rattle.std.proofs.Common.{◌≡◌, ◌≢◌, ℕ, ◌-◌, ◌≤◌, true, false, if◌then◌else◌, List, [], ◌∷◌, ◌++◌, length, replicate, Ok, refl, arith}
use Rattle.std.specs.List.{list_any}
use Rattle.std.proofs.lemmas.Bool.{eqb-false, or_parts}
use Rattle.std.proofs.lemmas.List.Elements.{All-append, All-cons, All-nil, All-replicate}
use Rattle.cb_types.specs.AcceptedInfo.{IsAccepted}
use Rattle.cb_types.specs.References.{is_absent, is_unused}
use Rattle.cb_types.specs.Slices.{is_idr}
use Rattle.cb_types.specs.declared.header.Header.{Header}
use Rattle.cb_types.specs.declared.picture_info.Reference.{Reference}
use Rattle.param_sets.specs.declared.pps.Pps.{Pps}
use Rattle.param_sets.specs.declared.sps.Sps.{Sps}
use Rattle.marking.specs.Begun.{begun_by, max_frame_num, references_of, settled_of, unused}
use Rattle.marking.specs.Frames.{has_number}
use Rattle.marking.specs.History.{AreApartFrom, AreNamed, IsNamed, MayBegin, Picture, StandsFor}
use Rattle.marking.specs.declared.marker.Marker.{Marker}
use Rattle.marking.specs.declared.marker.Settled.{Settled}
use Rattle.marking.proofs.InfoLemmas.{info_accepted}
use Rattle.marking.proofs.SettledLemmas.{IsSettled, settled_known}
use Rattle.marking.proofs.StandsLemmas.{named_surfaces, surfaces_named}

-- the frames before it
pub begun_known : (marker : Marker) (pictures : List Picture) (sps : Sps) (pps : Pps) (header : Header) (s : Settled) → StandsFor marker pictures → MayBegin pictures sps pps header
    → settled_of marker sps header ≡ Ok s → IsSettled (max_frame_num sps) (IsNamed pictures) header s
begun_known marker pictures sps pps header s stands may e =
    settled_known (IsNamed pictures) marker pictures sps pps header s stands may (named_surfaces pictures marker.frames stands.frames.used stands.named) e

not_unused : true ≡ false → ⊥
not_unused e = cc

pub begun_accepted : (marker : Marker) (pictures : List Picture) (sps : Sps) (pps : Pps) (header : Header) (s : Settled) → StandsFor marker pictures → MayBegin pictures sps pps header
    → settled_of marker sps header ≡ Ok s → IsAccepted 0 sps.max_num_ref_frames (begun_by sps pps header s).info
begun_accepted marker pictures sps pps header s stands may e =
    let known = begun_known marker pictures sps pps header s stands may e in
    info_accepted sps pps header s.counts s.frames may.sps_accepted may.pps_accepted may.frame_num (λ idr. (known.known idr).marked)

filled_named : (pictures : List Picture) (frames : List Reference) (n : ℕ) → AreNamed pictures frames → AreNamed pictures (frames ++ replicate n unused)
filled_named pictures frames n h =
    let Q : Reference → Type 0 = λ frame. is_unused frame ≡ false → is_absent frame ≡ false → IsNamed pictures frame.surface in
    All-append Q frames (replicate n unused) h (All-replicate Q n unused (λ used. absurd (not_unused used)))

pub begun_named : (marker : Marker) (pictures : List Picture) (sps : Sps) (pps : Pps) (header : Header) (s : Settled) → StandsFor marker pictures → MayBegin pictures sps pps header
    → settled_of marker sps header ≡ Ok s → AreNamed pictures (references_of header s.frames)
begun_named marker pictures sps pps header s stands may e =
    let known = begun_known marker pictures sps pps header s stands may e in
    elim (is_idr header) as (λ b. (b ≡ false → AreNamed pictures s.frames) → (let used = if b then [] else s.frames in AreNamed pictures (used ++ replicate (16 - length used) unused))) [
      | true ↦ λ h. filled_named pictures [] 16 (surfaces_named pictures [] tt)
      | false ↦ λ h. filled_named pictures s.frames (16 - length s.frames) (h refl)
    ] (λ idr. surfaces_named pictures s.frames (known.known idr).surfaces)

free_apart : (number : ℕ) (frames : List Reference) → list_any (has_number number) frames ≡ false → AreApartFrom number frames
free_apart number [] free = All-nil (λ (frame : Reference). frame.surface ≢ number)
free_apart number (x ∷ xs) free =
    let no = or_parts (has_number number x) (list_any (has_number number) xs) free in
    All-cons (λ (frame : Reference). frame.surface ≢ number) x xs (eqb-false x.surface number no.0) (free_apart number xs no.1)

unused_far : (number : ℕ) → number ≤ 16 → unused.surface ≢ number
unused_far number few = omega (arith, few)

filled_apart : (number : ℕ) (frames : List Reference) (n : ℕ) → number ≤ 16 → AreApartFrom number frames → AreApartFrom number (frames ++ replicate n unused)
filled_apart number frames n few h =
    let Q : Reference → Type 0 = λ frame. frame.surface ≢ number in
    All-append Q frames (replicate n unused) h (All-replicate Q n unused (unused_far number few))

pub begun_apart : (marker : Marker) (pictures : List Picture) (sps : Sps) (pps : Pps) (header : Header) (s : Settled) → StandsFor marker pictures → MayBegin pictures sps pps header
    → settled_of marker sps header ≡ Ok s → AreApartFrom s.number (references_of header s.frames)
begun_apart marker pictures sps pps header s stands may e =
    let known = begun_known marker pictures sps pps header s stands may e in
    elim (is_idr header) as (λ b. let used = if b then [] else s.frames in AreApartFrom s.number (used ++ replicate (16 - length used) unused)) [
      | true ↦ filled_apart s.number [] 16 known.few (All-nil (λ (frame : Reference). frame.surface ≢ s.number))
      | false ↦ filled_apart s.number s.frames (16 - length s.frames) known.few (free_apart s.number s.frames known.free)
    ]
