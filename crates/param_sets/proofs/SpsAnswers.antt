-- What `read_sps` answers in each case, and that no two cases meet.
use Rattle.std.proofs.Common.{◌≡◌, ◌≢◌, ℕ, Bool, true, false, List, ◌⊎◌, inl, inr, IfOk, Result, Ok, Err, refl, sym, ap, subst}
use Rattle.std.specs.Prelude.{IsTrue, ◌↔◌}
use Rattle.bit_io.specs.Bits.{bits_of}
use Rattle.bit_io.specs.Trailing.{EndsHere}
use Rattle.cb_types.specs.SizeMbs.{IsWithinLimits}
use Rattle.param_sets.specs.Accepted.{IsAcceptedSps}
use Rattle.param_sets.specs.Sps.{IsBadSps, IsSpelledSps, IsSpsOf, IsTooLarge, LeavesBaseline, seq_parameter_set_data, size_of}
use Rattle.element_tables.specs.Syntax.{Stops, Takes}
use Rattle.element_tables.specs.declared.elements.Stop.{Stop}
use Rattle.element_tables.specs.declared.elements.Stop.TheVariants.{Malformed, OtherProfile}
use Rattle.param_sets.specs.declared.fault.SetFault.{SetFault}
use Rattle.param_sets.specs.declared.fault.SetFault.TheVariants.{BadPps, BadSps, NotBaseline, TooLarge}
use Rattle.param_sets.specs.declared.sps.Sps.{Sps}
use Rattle.param_sets.proofs.SpsRanges.{sps_accepted}
use Rattle.element_tables.proofs.Unique.{stops_same, takes_or_stops, takes_same}

pub record SpsAnswer (rbsp : List ℕ) (result : Result Sps SetFault) : Type 0 where
  pub found : IfOk result (λ s. IsSpsOf rbsp s)
  pub only : (s : Sps) → IsSpsOf rbsp s → result ≡ Ok s
  pub bad : (result ≡ Err BadSps) ↔ IsBadSps rbsp
  pub not_baseline : (result ≡ Err NotBaseline) ↔ LeavesBaseline rbsp
  pub too_large : (result ≡ Err TooLarge) ↔ IsTooLarge rbsp
  pub no_other : result ≢ Err BadPps
  pub accepted : IfOk result IsAcceptedSps

-- ---- no two cases meet

spelled_or_stops : (rbsp : List ℕ) (s : Sps) (stop : Stop) → IsSpelledSps rbsp s → Stops seq_parameter_set_data (bits_of rbsp) stop → ⊥
spelled_or_stops rbsp s stop (vui, rest, read, ends) stops = takes_or_stops seq_parameter_set_data (bits_of rbsp) rest (s, vui) stop read stops

spelled_same : (rbsp : List ℕ) (s t : Sps) → IsSpelledSps rbsp s → IsSpelledSps rbsp t → s ≡ t
spelled_same rbsp s t (vui, rest, read, ends) (vui', rest', read', ends') =
    ap (λ (p : Sps × Bool). p.0) (takes_same seq_parameter_set_data (bits_of rbsp) rest rest' (s, vui) (t, vui') read read').0

LacksEnd : List ℕ → Sps → List Bool → Type 0
LacksEnd rbsp s rest = Takes seq_parameter_set_data (bits_of rbsp) (s, false) rest × ¬ EndsHere rest

flagged : (vui : Bool) → false ≡ vui → IsTrue vui → ⊥
flagged true e h = cc
flagged false e h = cc

lacks_or_spelled : (rbsp : List ℕ) (s t : Sps) (rest : List Bool) → LacksEnd rbsp s rest → IsSpelledSps rbsp t → ⊥
unfolding LacksEnd
lacks_or_spelled rbsp s t rest (read, open_end) (vui, rest', read', inl on) =
    flagged vui (ap (λ (p : Sps × Bool). p.1) (takes_same seq_parameter_set_data (bits_of rbsp) rest rest' (s, false) (t, vui) read read').0) on
lacks_or_spelled rbsp s t rest (read, open_end) (vui, rest', read', inr ends) =
    open_end (subst EndsHere (sym (takes_same seq_parameter_set_data (bits_of rbsp) rest rest' (s, false) (t, vui) read read').1) ends)

lacks_or_stops : (rbsp : List ℕ) (s : Sps) (rest : List Bool) (stop : Stop) → LacksEnd rbsp s rest → Stops seq_parameter_set_data (bits_of rbsp) stop → ⊥
unfolding LacksEnd
lacks_or_stops rbsp s rest stop (read, open_end) stops = takes_or_stops seq_parameter_set_data (bits_of rbsp) rest (s, false) stop read stops

bad_or_spelled : (rbsp : List ℕ) (s : Sps) → IsBadSps rbsp → IsSpelledSps rbsp s → ⊥
unfolding LacksEnd
bad_or_spelled rbsp s (inl stops) spelled = spelled_or_stops rbsp s Malformed spelled stops
bad_or_spelled rbsp s (inr (t, rest, read, open_end)) spelled = lacks_or_spelled rbsp t s rest (read, open_end) spelled

stops_or_stops : (rbsp : List ℕ) → Stops seq_parameter_set_data (bits_of rbsp) Malformed → Stops seq_parameter_set_data (bits_of rbsp) OtherProfile → ⊥
stops_or_stops rbsp f g =
    let e = stops_same seq_parameter_set_data (bits_of rbsp) Malformed OtherProfile f g in
    cc

bad_or_leaves : (rbsp : List ℕ) → IsBadSps rbsp → LeavesBaseline rbsp → ⊥
unfolding LacksEnd
bad_or_leaves rbsp (inl stops) leaves = stops_or_stops rbsp stops leaves
bad_or_leaves rbsp (inr (t, rest, read, open_end)) leaves = lacks_or_stops rbsp t rest OtherProfile (read, open_end) leaves

-- ---- the answers

pub bad_answer : (rbsp : List ℕ) → IsBadSps rbsp → SpsAnswer rbsp (Err BadSps)
bad_answer rbsp bad = record {
  found = tt;
  only = λ s is. absurd (bad_or_spelled rbsp s bad is.0);
  bad = (λ e. bad, λ b. refl);
  not_baseline = (λ e. absurd cc, λ leaves. absurd (bad_or_leaves rbsp bad leaves));
  too_large = (λ e. absurd cc, λ large. absurd (bad_or_spelled rbsp large.0 bad large.1));
  no_other = λ e. cc;
  accepted = tt;
}

pub profile_answer : (rbsp : List ℕ) → LeavesBaseline rbsp → SpsAnswer rbsp (Err NotBaseline)
profile_answer rbsp leaves = record {
  found = tt;
  only = λ s is. absurd (spelled_or_stops rbsp s OtherProfile is.0 leaves);
  bad = (λ e. absurd cc, λ bad. absurd (bad_or_leaves rbsp bad leaves));
  not_baseline = (λ e. leaves, λ b. refl);
  too_large = (λ e. absurd cc, λ large. absurd (spelled_or_stops rbsp large.0 OtherProfile large.1 leaves));
  no_other = λ e. cc;
  accepted = tt;
}

pub large_answer : (rbsp : List ℕ) (s : Sps) → IsSpelledSps rbsp s → ¬ IsWithinLimits (size_of s) → SpsAnswer rbsp (Err TooLarge)
large_answer rbsp s spelled beyond = record {
  found = tt;
  only = λ t is. absurd (beyond (subst (λ (x : Sps). IsWithinLimits (size_of x)) (spelled_same rbsp t s is.0 spelled) is.1));
  bad = (λ e. absurd cc, λ bad. absurd (bad_or_spelled rbsp s bad spelled));
  not_baseline = (λ e. absurd cc, λ leaves. absurd (spelled_or_stops rbsp s OtherProfile spelled leaves));
  too_large = (λ e. (s, spelled, beyond), λ b. refl);
  no_other = λ e. cc;
  accepted = tt;
}

abbrev answered : Sps → Result Sps SetFault
answered s = Ok s

ok_same : (s t : Sps) → s ≡ t → answered s ≡ answered t
ok_same s t e = ap answered e

pub set_answer : (rbsp : List ℕ) (s : Sps) → IsSpelledSps rbsp s → IsWithinLimits (size_of s) → SpsAnswer rbsp (Ok s)
set_answer rbsp s spelled within = record {
  found = (spelled, within);
  only = λ t is. ok_same s t (spelled_same rbsp s t spelled is.0);
  bad = (λ e. absurd cc, λ bad. absurd (bad_or_spelled rbsp s bad spelled));
  not_baseline = (λ e. absurd cc, λ leaves. absurd (spelled_or_stops rbsp s OtherProfile spelled leaves));
  too_large = (λ e. absurd cc, λ large. absurd (large.2 (subst (λ (x : Sps). IsWithinLimits (size_of x)) (spelled_same rbsp s large.0 spelled large.1) within)));
  no_other = λ e. cc;
  accepted = sps_accepted (bits_of rbsp) s spelled.0 spelled.1 spelled.2 within;
}

-- ---- what the code has tested

pub not_from : (b : Bool) (P : Type 0) → (IsTrue b ↔ P) → b ≡ false → ¬ P
not_from b P both e p =
    let t : b ≡ true = both.1 p in
    cc

pub spelled_when : (rbsp : List ℕ) (whole : List Bool) (found : Sps × Bool) (rest : List Bool) → whole ≡ bits_of rbsp → Takes seq_parameter_set_data whole found rest
    → (found.1 ≡ true) ⊎ EndsHere rest → IsSpelledSps rbsp found.0
spelled_when rbsp whole found rest e read ends = (found.1, rest, subst (λ (x : List Bool). Takes seq_parameter_set_data x found rest) e read, ends)

pub bad_when : (rbsp : List ℕ) (whole : List Bool) (found : Sps × Bool) (rest : List Bool) → whole ≡ bits_of rbsp → Takes seq_parameter_set_data whole found rest
    → found.1 ≡ false → ¬ EndsHere rest → IsBadSps rbsp
bad_when rbsp whole found rest e read off open_end =
    inr (found.0, rest, subst (λ (v : Bool). Takes seq_parameter_set_data (bits_of rbsp) (found.0, v) rest) off (subst (λ (x : List Bool). Takes seq_parameter_set_data x found rest) e read), open_end)

pub stops_when : (rbsp : List ℕ) (whole : List Bool) (found stop : Stop) → whole ≡ bits_of rbsp → found ≡ stop → Stops seq_parameter_set_data whole found → Stops seq_parameter_set_data (bits_of rbsp) stop
stops_when rbsp whole found stop e same h = subst (λ (x : List Bool). Stops seq_parameter_set_data x stop) e (subst (λ (x : Stop). Stops seq_parameter_set_data whole x) same h)
