use Rattle.std.proofs.Common.{◌≡◌, true, false, arith, ◌∙◌}
use Rattle.std.proofs.lemmas.List.{get_or_read}
use Rattle.decoder_render.proofs.UnitPlaces.{unit_inside}
use Rattle.decoder_render.proofs.SubmissionPayloads.{IsCut, cut_last, payload_is, uncut}
use Rattle.decoder_render.proofs.submission.payload_in.Goals as goal
use Rattle.decoder_render.proofs.submission.payload_in.Goals.{then-is_none, else-is_none}

pub slice_bounds-payload_of-count : goal.slice_bounds-payload_of-count
slice_bounds-payload_of-count c =
    let place = get_or_read c.args.places.now.units.items _ _ c.requires.inside c.index.ensures (0, 0) in
    let inside = unit_inside _ _ _ c.requires.units c.args.number c.requires.inside in
    rw place inside.0

pub slice_bounds-payload_of-start : goal.slice_bounds-payload_of-start
slice_bounds-payload_of-start c =
    let place = get_or_read c.args.places.now.units.items _ _ c.requires.inside c.index.ensures (0, 0) in
    let inside = unit_inside _ _ _ c.requires.units c.args.number c.requires.inside in
    rw place inside.0

pub slice_bounds-payload_of-end : goal.slice_bounds-payload_of-end
slice_bounds-payload_of-end c =
    let place = get_or_read c.args.places.now.units.items _ _ c.requires.inside c.index.ensures (0, 0) in
    let inside = unit_inside _ _ _ c.requires.units c.args.number c.requires.inside in
    rw place inside.1

pub returns : goal.returns
returns c =
    let place = get_or_read c.args.places.now.units.items _ _ c.requires.inside c.index.ensures (0, 0) in
    let cut : (c.if-is_none.is_whole ≡ false → IsCut c.args.places.now.units.items c.args.places.now.broken c.args.number)
    × (c.if-is_none.is_whole ≡ true → IsCut c.args.places.now.units.items c.args.places.now.broken c.args.number → ⊥) =
    elim c.if-is_none.branch [
      | then-is_none w ↦ uncut _ _ _ _ w.if-is_none.ensures (w.is_whole-is ∙ w.if-is_none.true)
      | else-is_none w ↦ cut_last _ _ _ _ _ w.if-is_none.ensures c.requires.inside (omega (arith, w.len.ensures, c.args.places.now.units.ok.0)) w.is_whole-is
    ] in
    payload_is c.payload_of.result _ _ _ _ c.index.result.now c.if-is_none.is_whole place cut.0 cut.1 c.payload_of.ensures.spoiled c.payload_of.ensures.payload
