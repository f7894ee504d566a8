use Rattle.std.proofs.Common.{◌≡◌, ◌-◌, ◌∙◌, ap, List, ◌++◌, length, replicate, pos, subst, sym}
use Rattle.cb_types.specs.declared.picture_info.Reference.{Reference}
use Rattle.cb_types.specs.AcceptedInfo.{IsAccepted}
use Rattle.cb_types.specs.declared.picture_info.PictureInfo.{PictureInfo}
use Rattle.marking.specs.Begun.{info_of, unused}
use Rattle.marking.specs.HeaderInfo.{header_info, no_header}
use Rattle.marking.proofs.HeaderLemmas.{header_info_accepted}
use Rattle.marking.proofs.header_fields.header_info.Goals as goal

pub returns-clause-accepted : goal.returns-clause-accepted
returns-clause-accepted c =
    let e : c.info_of.result ≡ header_info c.args.sps.now c.args.pps.now = c.info_of.ensures ∙ ap (λ (entries : List Reference). info_of c.args.sps.now c.args.pps.now no_header (record { top = pos 0; bottom = pos 0 }) entries) (c.entries.ensures ∙ ap (λ (frames : List Reference). frames ++ replicate (16 - length frames) unused) c.new.ensures) in
    subst (λ (info : PictureInfo). IsAccepted 0 c.args.sps.now.max_num_ref_frames info) (sym e)
    (header_info_accepted c.args.sps.now c.args.pps.now c.requires.sps c.requires.pps)
