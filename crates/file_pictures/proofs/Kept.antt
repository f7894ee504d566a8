-- The pictures that a buffer keeps for references.
use Rattle.std.proofs.Common.{◌≡◌, ◌≢◌, ℕ, zero, suc, ◌==◌, Bool, true, false, ◌||◌, cond, List, [], ◌∷◌, Option, Some, None, refl, sym, ◌∙◌, ap, subst, arith, inl, inr}
use Rattle.std.specs.Prelude.{map, All}
use Rattle.std.specs.List.{find}
use Rattle.std.specs.Option.{option_map}
use Rattle.std.proofs.lemmas.Bool.Decides.{eqb_tells}
use Rattle.cb_types.specs.References.{is_absent, is_unused}
use Rattle.cb_types.specs.Slices.{is_idr}
use Rattle.cb_types.specs.declared.picture_info.PictureInfo.{PictureInfo}
use Rattle.cb_types.specs.declared.picture_info.Reference.{Reference}
use Rattle.cb_types.specs.declared.size.SizeMbs.{SizeMbs}
use Rattle.vd_plane.specs.declared.picture.Picture as samples
use Rattle.picture_buffer.specs.Buffers as buffers
use Rattle.picture_buffer.specs.Renaming.{picture_of}
use Rattle.picture_buffer.specs.declared.buffer.PictureBuffer.{PictureBuffer}
use Rattle.access_units.specs.Pictures.{Picture, has_number, size_in}
use Rattle.access_units.specs.Sequences.{sequence_of}
use Rattle.accepted_pictures.specs.Files.{Decoded, has_own_number, reference_of, references_of}
use Rattle.file_pictures.specs.Streams.{HaveSize, IsKept, Keeps, newest_of, newest_sequence}

-- ---- the sequence that a picture goes on with

-- none where it is an IDR picture
abbrev pub gone_on : Bool → List Picture → List Picture
gone_on idr sequence = cond idr [] sequence

pub kept_on : (buffer : Option PictureBuffer) (decoded : List Decoded) (idr : Bool) (sequence : List Picture) → IsKept buffer decoded sequence → IsKept buffer decoded (gone_on idr sequence)
kept_on None decoded true sequence is = refl
kept_on None decoded false sequence is = is
kept_on (Some buffer) decoded true sequence is = record {
  kept = is.kept;
  stands = is.stands;
  sized = λ k d lt. absurd (omega arith);
  newest = λ number has. absurd (cc);
}
kept_on (Some buffer) decoded false sequence is = is

pub sized_on : (size : SizeMbs) (idr : Bool) (sequence : List Picture) → (idr ≡ false → HaveSize size sequence) → HaveSize size (gone_on idr sequence)
sized_on size true sequence sized = λ k d lt. absurd (omega arith)
sized_on size false sequence sized = sized refl

-- Where the pictures have two sizes there are none.
none_of_both : (one other : SizeMbs) (sequence : List Picture) → HaveSize one sequence → HaveSize other sequence → one ≢ other → sequence ≡ []
none_of_both one other [] of_one of_other apart = refl
none_of_both one other (picture ∷ sequence) of_one of_other apart = absurd (apart (sym (of_one 0 picture (omega arith)) ∙ of_other 0 picture (omega arith)))

-- a new buffer, where there is nothing to keep
pub keeps_none : (new : PictureBuffer) → (kept : ℕ → samples.Picture) × buffers.StandsFor new kept → (decoded : List Decoded) (sequence : List Picture) → sequence ≡ [] → Keeps new decoded sequence
keeps_none new stands decoded sequence none =
    let empty : Keeps new decoded [] = record {
      kept = stands.0;
      stands = stands.1;
      sized = λ k d lt. absurd (omega arith);
      newest = λ number has. absurd (cc);
    } in
    subst (λ (pictures : List Picture). Keeps new decoded pictures) (sym none) empty

-- a new buffer in place of one of another size, or of none
pub keeps_fresh : (new : PictureBuffer) (old : Option PictureBuffer) (size : SizeMbs) → (kept : ℕ → samples.Picture) × buffers.StandsFor new kept
    → ((buffer : PictureBuffer) → old ≡ Some buffer → buffers.size_of buffer ≢ size)
    → (decoded : List Decoded) (sequence : List Picture) → IsKept old decoded sequence → HaveSize size sequence → Keeps new decoded sequence
keeps_fresh new None size stands other decoded sequence kept sized = keeps_none new stands decoded sequence kept
keeps_fresh new (Some buffer) size stands other decoded sequence kept sized =
    keeps_none new stands decoded sequence (none_of_both (buffers.size_of buffer) size sequence kept.sized sized (other buffer refl))

-- ---- what references name

-- Where the entry is used, and isn't an absent frame, the picture of its number is the newest one.
abbrev IsNamedIn : List Decoded → (ℕ → samples.Picture) → Reference → Type 0
IsNamedIn decoded kept entry = is_unused entry ≡ false → is_absent entry ≡ false → newest_of decoded entry.surface ≡ Some (kept entry.surface)

by_use : (unused absent : Bool) (picture : samples.Picture) (found : Option samples.Picture) → (unused ≡ false → absent ≡ false → found ≡ Some picture)
    → cond (unused || absent) None (Some picture) ≡ cond (unused || absent) None found
by_use true absent picture found is = refl
by_use false true picture found is = refl
by_use false false picture found is = sym (is refl refl)

entry_is : (decoded : List Decoded) (kept : ℕ → samples.Picture) (entry : Reference) → IsNamedIn decoded kept entry → picture_of kept entry ≡ reference_of decoded entry
entry_is decoded kept entry is = by_use (is_unused entry) (is_absent entry) (kept entry.surface) (newest_of decoded entry.surface) is

entries_are : (decoded : List Decoded) (kept : ℕ → samples.Picture) (entries : List Reference) → All (IsNamedIn decoded kept) entries → map (picture_of kept) entries ≡ map (reference_of decoded) entries
entries_are decoded kept [] each = refl
entries_are decoded kept (entry ∷ entries) each =
    let here = entry_is decoded kept entry (each 0 entry (omega arith)) in
    let later = entries_are decoded kept entries (λ k d lt. each (suc k) d (omega arith)) in
    ap (λ (one : Option samples.Picture). one ∷ map (picture_of kept) entries) here ∙ ap (λ (more : List (Option samples.Picture)). reference_of decoded entry ∷ more) later

named_each : (idr : Bool) (sequence : List Picture) (decoded : List Decoded) (kept : ℕ → samples.Picture) (entries : List Reference) → (idr ≡ true → All (λ (entry : Reference). is_unused entry ≡ true) entries)
    → All (λ (entry : Reference). is_unused entry ≡ false → is_absent entry ≡ false → has_number entry.surface sequence ≡ true) entries
    → ((number : ℕ) → has_number number (gone_on idr sequence) ≡ true → newest_of decoded number ≡ Some (kept number))
    → All (IsNamedIn decoded kept) entries
named_each true sequence decoded kept entries none own newest = λ k d lt used present. let bad = none refl k d lt in absurd (cc)
named_each false sequence decoded kept entries none own newest = λ k d lt used present. newest _ (own k d lt used present)

-- The pictures that a buffer has by the entries' numbers are those that the entries name.
pub references_are : (idr : Bool) (sequence : List Picture) (decoded : List Decoded) (kept : ℕ → samples.Picture) (info : PictureInfo) → (idr ≡ true → All (λ (entry : Reference). is_unused entry ≡ true) info.references)
    → All (λ (entry : Reference). is_unused entry ≡ false → is_absent entry ≡ false → has_number entry.surface sequence ≡ true) info.references
    → ((number : ℕ) → has_number number (gone_on idr sequence) ≡ true → newest_of decoded number ≡ Some (kept number))
    → map (picture_of kept) info.references ≡ references_of decoded info
references_are idr sequence decoded kept info none own newest = entries_are decoded kept info.references (named_each idr sequence decoded kept info.references none own newest)

-- ---- one more picture

number_step : (b c more : Bool) (p q : samples.Picture) (one : Decoded) (rest : Option Decoded) → b ≡ c → one.samples ≡ p → (b || more) ≡ true → (more ≡ true → option_map (λ (one : Decoded). one.samples) rest ≡ Some q)
    → option_map (λ (one : Decoded). one.samples) (cond b (Some one) rest) ≡ Some (cond c p q)
number_step true true more p q one rest same is has later = ap Some is
number_step false false more p q one rest same is has later = later has
number_step true false more p q one rest same is has later = absurd (cc)
number_step false true more p q one rest same is has later = absurd (cc)

same_test : (a b : ℕ) → (a == b) ≡ (b == a)
same_test a b = elim (eqb_tells a b) [
  | inl w ↦ elim (eqb_tells b a) [ inl v ↦ w.0 ∙ sym v.0 | inr v ↦ absurd (v.1 (sym w.1)) ]
  | inr w ↦ elim (eqb_tells b a) [ inl v ↦ absurd (w.1 (sym v.1)) | inr v ↦ w.0 ∙ sym v.0 ]
]

-- the picture under the number itself
pub same_number : (kept : ℕ → samples.Picture) (number : ℕ) (p : samples.Picture) → buffers.with_picture kept number p number ≡ p
same_number kept number p = elim (eqb_tells number number) [
  | inl w ↦ ap (λ (b : Bool). cond b p (kept number)) w.0
  | inr w ↦ absurd (w.1 refl)
]

newest_more : (decoded : List Decoded) (one : Decoded) (frame : ℕ) (sequence : List Picture) (kept : ℕ → samples.Picture) → frame ≡ one.picture.begun.frame
    → ((number : ℕ) → has_number number sequence ≡ true → newest_of decoded number ≡ Some (kept number))
    → (number : ℕ) → has_number number (one.picture ∷ sequence) ≡ true → newest_of (one ∷ decoded) number ≡ Some (buffers.with_picture kept frame one.samples number)
newest_more decoded one frame sequence kept is newest number has =
    let own = one.picture.begun.frame in
    let test : (own == number) ≡ (number == frame) = same_test own number ∙ ap (λ (f : ℕ). number == f) (sym is) in
    number_step (own == number) (number == frame) (has_number number sequence) one.samples (kept number) one (find (has_own_number number) decoded) test refl has (newest number)

sized_more : (size : SizeMbs) (picture : Picture) (sequence : List Picture) → size_in picture ≡ size → HaveSize size sequence → HaveSize size (picture ∷ sequence)
sized_more size picture sequence here later zero d lt = here
sized_more size picture sequence here later (suc k) d lt = later k d (omega arith)

sequence_more : (one : Decoded) (decoded : List Decoded) → newest_sequence (one ∷ decoded) ≡ (one.picture ∷ gone_on (is_idr one.picture.begun.header) (newest_sequence decoded))
unfolding sequence_of
sequence_more one decoded = refl

-- A buffer of the pictures with one more, of its size.
pub keeps_more : (old new : PictureBuffer) (decoded : List Decoded) (one : Decoded) (idr : Bool) (frame : ℕ) → idr ≡ is_idr one.picture.begun.header → frame ≡ one.picture.begun.frame
    → (keeps : Keeps old decoded (gone_on idr (newest_sequence decoded))) → buffers.StandsFor new (buffers.with_picture keeps.kept frame one.samples)
    → buffers.size_of new ≡ buffers.size_of old → size_in one.picture ≡ buffers.size_of old → Keeps new (one ∷ decoded) (newest_sequence (one ∷ decoded))
keeps_more old new decoded one idr frame is_idr_is frame_is keeps stands same here =
    let sequence = gone_on idr (newest_sequence decoded) in
    let is : newest_sequence (one ∷ decoded) ≡ (one.picture ∷ sequence) = sequence_more one decoded ∙ ap (λ (b : Bool). one.picture ∷ gone_on b (newest_sequence decoded)) (sym is_idr_is) in
    let sized : HaveSize (buffers.size_of old) (one.picture ∷ sequence) = sized_more (buffers.size_of old) one.picture sequence here keeps.sized in
    let more : Keeps new (one ∷ decoded) (one.picture ∷ sequence) = record {
      kept = buffers.with_picture keeps.kept frame one.samples;
      stands = stands;
      sized = subst (λ (size : SizeMbs). HaveSize size (one.picture ∷ sequence)) (sym same) sized;
      newest = newest_more decoded one frame sequence keeps.kept frame_is keeps.newest;
    } in
    subst (λ (pictures : List Picture). Keeps new (one ∷ decoded) pictures) (sym is) more
