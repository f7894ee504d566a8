-- The tables of whole sets are those of their parts, one behind the other.
use Rattle.std.proofs.Common.{◌≡◌, Bool, List, Result, eqb, refl, subst, sym}
use Rattle.element_tables.specs.declared.elements.Stop.{Stop}
use Rattle.param_sets.specs.declared.pps.Pps.{Pps}
use Rattle.param_sets.specs.declared.sps.Sps.{Sps}
use Rattle.param_sets.specs.Parts.{frames, pps_of, references, residuals, sps_of, start}
use Rattle.param_sets.specs.Pps.{pic_parameter_set_data}
use Rattle.param_sets.specs.Sps.{cropping, cycle, no_cropping, no_cycle, seq_parameter_set_data}
use Rattle.element_tables.specs.Syntax.{Appends, Gives, Made, Syntax, Takes, any, flag, present, se, u, ue, up_to, ◌>>=◌}

unfoldable pub grouped_sps : Syntax (Sps × Bool)
grouped_sps = do
  start ← start
  lsb_length ← present (eqb start.pic_order_cnt_type 0) (ue (up_to 12)) 0
  cycle ← present (eqb start.pic_order_cnt_type 1) cycle no_cycle
  frames ← frames
  crop ← present frames.frame_cropping_flag cropping no_cropping
  vui_parameters_present_flag ← flag any
  Made (sps_of start lsb_length cycle frames crop, vui_parameters_present_flag)

sps_is : grouped_sps ≡ seq_parameter_set_data
unfolding grouped_sps seq_parameter_set_data start frames u ue flag ◌>>=◌
sps_is = refl

pub gives_sps : (old new : List Bool) (r : Result (Sps × Bool) Stop) → Gives grouped_sps old r new → Gives seq_parameter_set_data old r new
gives_sps old new r h = subst (λ (t : Syntax (Sps × Bool)). Gives t old r new) sps_is h

pub appends_sps : (made : Sps × Bool) (old new : List Bool) → Appends grouped_sps made old new → Appends seq_parameter_set_data made old new
appends_sps made old new h = subst (λ (t : Syntax (Sps × Bool)). Appends t made old new) sps_is h

pub takes_sps : (whole : List Bool) (made : Sps × Bool) (rest : List Bool) → Takes seq_parameter_set_data whole made rest → Takes grouped_sps whole made rest
takes_sps whole made rest h = subst (λ (t : Syntax (Sps × Bool)). Takes t whole made rest) (sym sps_is) h

unfoldable pub grouped_pps : Syntax Pps
grouped_pps = do
  references ← references
  residuals ← residuals
  Made (pps_of references residuals)

pps_is : grouped_pps ≡ pic_parameter_set_data
unfolding grouped_pps pic_parameter_set_data references residuals u ue se flag ◌>>=◌
pps_is = refl

pub gives_pps : (old new : List Bool) (r : Result Pps Stop) → Gives grouped_pps old r new → Gives pic_parameter_set_data old r new
gives_pps old new r h = subst (λ (t : Syntax Pps). Gives t old r new) pps_is h

pub appends_pps : (made : Pps) (old new : List Bool) → Appends grouped_pps made old new → Appends pic_parameter_set_data made old new
appends_pps made old new h = subst (λ (t : Syntax Pps). Appends t made old new) pps_is h

pub takes_pps : (whole : List Bool) (made : Pps) (rest : List Bool) → Takes pic_parameter_set_data whole made rest → Takes grouped_pps whole made rest
takes_pps whole made rest h = subst (λ (t : Syntax Pps). Takes t whole made rest) (sym pps_is) h
