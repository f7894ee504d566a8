-- Parts of a header that don't stand.
use Rattle.std.proofs.Common.{◌≡◌, ◌≤◌, ℕ, Bool, false, List, Option, None, take, replicate, ap, ◌∙◌}
use Rattle.std.proofs.lemmas.List.{drop-replicate, length-replicate}
use Rattle.std.specs.Prelude.{IsFalse}
use Rattle.cb_types.specs.Slices.{active_entries, is_p}
use Rattle.cb_types.specs.declared.header.EntryWeights.{EntryWeights}
use Rattle.cb_types.specs.declared.header.Weights.{Weights}
use Rattle.cb_types.specs.declared.header.Header.{Header}
use Rattle.cb_types.specs.declared.header.ListEdit.{ListEdit}
use Rattle.cb_types.specs.declared.header.ListEdit.TheVariants.{Subtract}
use Rattle.cb_types.specs.declared.picture_info.PictureInfo.{PictureInfo}
use Rattle.slice_header.specs.Conditions.{has_weights}
use Rattle.slice_header.specs.Headers.{IsHeader, as_read, weights_as_read}
use Rattle.slice_header.specs.Lists.{padded}
use Rattle.slice_header.specs.Parts.{edits_of, references_of}
use Rattle.slice_header.specs.Spelling.{no_edits, no_entry, no_references, no_weights}
use Rattle.slice_header.specs.declared.parts.Edits.{Edits}
use Rattle.slice_header.specs.declared.parts.References.{References}
use Rattle.slice_header.proofs.Padding.{filled_whole}

abbrev made_edits : ℕ → List ListEdit → Edits
made_edits count list = record { count = count; list = list }

abbrev made_references : Option ℕ → Bool → Edits → References
made_references o f e = record { active_override = o; edited = f; edits = e }

pub edits_absent : (info : PictureInfo) (h : Header) → IsHeader info h → IsFalse h.edited → edits_of (as_read info h) ≡ no_edits
edits_absent info h is off = ap (λ (n : ℕ). made_edits n (padded 16 (Subtract 0) (take n h.edits))) (is.edits_absent off)

abbrev made_weights : List EntryWeights → Weights
made_weights entries = record { luma_denom = 0; chroma_denom = 0; entries = entries }

pub references_absent : (info : PictureInfo) (h : Header) → IsHeader info h → IsFalse (is_p h) → references_of (as_read info h) ≡ no_references
references_absent info h is off =
    let edited = is.edited_absent off in
    ap (λ (o : Option ℕ). made_references o h.edited (edits_of (as_read info h))) (is.active_override_absent off)
    ∙ ap (λ (f : Bool). made_references None f (edits_of (as_read info h))) edited
    ∙ ap (made_references None false) (edits_absent info h is edited)

entries_absent : (active : ℕ) → active ≤ 16 → padded 16 no_entry (take active (replicate 16 no_entry)) ≡ replicate 16 no_entry
entries_absent active most = filled_whole 16 no_entry active (replicate 16 no_entry) (record { most = most; long = length-replicate 16 no_entry; others = drop-replicate active 16 no_entry })

pub weights_absent : (info : PictureInfo) (h : Header) → IsHeader info h → IsFalse (has_weights info h.slice_type) → weights_as_read (active_entries info h) h.weights ≡ no_weights
weights_absent info h is off =
    let active = active_entries info h in
    ap (weights_as_read active) (is.weights_absent off) ∙ ap made_weights (entries_absent active is.active)
