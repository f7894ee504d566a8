use Rattle.player_laws.proofs.Shown as shown
use Rattle.player_laws.proofs.laws.shown_pictures_settle.Goals as goal

pub returns : goal.returns
returns c = record {
  fronts = shown.fronts_are_settled;
  lasts = shown.lasts_are_open;
  times = shown.shown_times_rise;
  later = shown.later_pictures_show_later;
  late = shown.late_pictures_are_not_shown;
}
