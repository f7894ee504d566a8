-- What `read_pps` answers in each case, and that no two cases meet.
use Rattle.std.proofs.Common.{◌≡◌, ◌≢◌, ℕ, zero, suc, Bool, true, false, List, [], ◌∷◌, ◌++◌, inl, inr, replicate, IfOk, Result, Ok, Err, refl, sym, ap, subst, ◌∙◌}
use Rattle.std.specs.Prelude.{◌↔◌}
use Rattle.bit_io.specs.Bits.{bits_of}
use Rattle.bit_io.specs.Trailing.{EndsHere, HasMoreData}
use Rattle.param_sets.specs.Accepted.{IsAcceptedPps}
use Rattle.param_sets.specs.Pps.{IsBadPps, IsPpsOf, LeavesBaseline, pic_parameter_set_data}
use Rattle.element_tables.specs.Syntax.{Stops, Takes}
use Rattle.element_tables.specs.declared.elements.Stop.{Stop}
use Rattle.element_tables.specs.declared.elements.Stop.TheVariants.{Malformed, OtherProfile}
use Rattle.param_sets.specs.declared.fault.SetFault.{SetFault}
use Rattle.param_sets.specs.declared.fault.SetFault.TheVariants.{BadPps, BadSps, NotBaseline, TooLarge}
use Rattle.param_sets.specs.declared.pps.Pps.{Pps}
use Rattle.param_sets.proofs.PpsRanges.{pps_accepted}
use Rattle.element_tables.proofs.Unique.{stops_same, takes_or_stops, takes_same}

pub record PpsAnswer (rbsp : List ℕ) (result : Result Pps SetFault) : Type 0 where
  pub found : IfOk result (λ p. IsPpsOf rbsp p)
  pub only : (p : Pps) → IsPpsOf rbsp p → result ≡ Ok p
  pub bad : (result ≡ Err BadPps) ↔ IsBadPps rbsp
  pub not_baseline : (result ≡ Err NotBaseline) ↔ LeavesBaseline rbsp
  pub no_bad_sps : result ≢ Err BadSps
  pub no_size : result ≢ Err TooLarge
  pub accepted : IfOk result IsAcceptedPps

-- ---- no two cases meet

no_one : (many : ℕ) (between behind : List Bool) → replicate many false ≡ between ++ true ∷ behind → ⊥
no_one zero [] behind e = cc
no_one zero (b ∷ between) behind e = cc
no_one (suc many) [] behind e = cc
no_one (suc many) (b ∷ between) behind e = no_one many between behind (cc)

ends_or_more : (rest : List Bool) → EndsHere rest → HasMoreData rest → ⊥
ends_or_more rest (zeros, few, e) (first, between, others, f) =
    let both : true ∷ replicate zeros false ≡ first ∷ between ++ true ∷ replicate others false = sym e ∙ f in
    no_one zeros between (replicate others false) (behind_same true first (replicate zeros false) (between ++ true ∷ replicate others false) both)
  where
    behind_same : (a b : Bool) (xs ys : List Bool) → a ∷ xs ≡ b ∷ ys → xs ≡ ys
    behind_same a b xs ys e = cc

set_or_stops : (rbsp : List ℕ) (p : Pps) (rest : List Bool) (stop : Stop) → Takes pic_parameter_set_data (bits_of rbsp) p rest → Stops pic_parameter_set_data (bits_of rbsp) stop → ⊥
set_or_stops rbsp p rest stop read stops = takes_or_stops pic_parameter_set_data (bits_of rbsp) rest p stop read stops

rest_same : (rbsp : List ℕ) (p q : Pps) (rest other : List Bool) → Takes pic_parameter_set_data (bits_of rbsp) p rest → Takes pic_parameter_set_data (bits_of rbsp) q other → (p ≡ q) × (rest ≡ other)
rest_same rbsp p q rest other f g = takes_same pic_parameter_set_data (bits_of rbsp) rest other p q f g

bad_or_set : (rbsp : List ℕ) (p : Pps) → IsBadPps rbsp → IsPpsOf rbsp p → ⊥
bad_or_set rbsp p (inl stops) (rest, read, ends) = set_or_stops rbsp p rest Malformed read stops
bad_or_set rbsp p (inr (q, other, read', open_end, no_more)) (rest, read, ends) = open_end (subst EndsHere (rest_same rbsp p q rest other read read').1 ends)

leaves_or_set : (rbsp : List ℕ) (p : Pps) → LeavesBaseline rbsp → IsPpsOf rbsp p → ⊥
leaves_or_set rbsp p (inl stops) (rest, read, ends) = set_or_stops rbsp p rest OtherProfile read stops
leaves_or_set rbsp p (inr (q, other, read', more)) (rest, read, ends) = ends_or_more other (subst EndsHere (rest_same rbsp p q rest other read read').1 ends) more

stops_or_stops : (rbsp : List ℕ) → Stops pic_parameter_set_data (bits_of rbsp) Malformed → Stops pic_parameter_set_data (bits_of rbsp) OtherProfile → ⊥
stops_or_stops rbsp f g =
    let e = stops_same pic_parameter_set_data (bits_of rbsp) Malformed OtherProfile f g in
    cc

bad_or_leaves : (rbsp : List ℕ) → IsBadPps rbsp → LeavesBaseline rbsp → ⊥
bad_or_leaves rbsp (inl stops) (inl others) = stops_or_stops rbsp stops others
bad_or_leaves rbsp (inl stops) (inr (q, other, read, more)) = set_or_stops rbsp q other Malformed read stops
bad_or_leaves rbsp (inr (p, rest, read, open_end, no_more)) (inl stops) = set_or_stops rbsp p rest OtherProfile read stops
bad_or_leaves rbsp (inr (p, rest, read, open_end, no_more)) (inr (q, other, read', more)) = no_more (subst HasMoreData (rest_same rbsp q p other rest read' read).1 more)

-- ---- the answers

pub bad_answer : (rbsp : List ℕ) → IsBadPps rbsp → PpsAnswer rbsp (Err BadPps)
bad_answer rbsp bad = record {
  found = tt;
  only = λ p is. absurd (bad_or_set rbsp p bad is);
  bad = (λ e. bad, λ b. refl);
  not_baseline = (λ e. absurd cc, λ leaves. absurd (bad_or_leaves rbsp bad leaves));
  no_bad_sps = λ e. cc;
  no_size = λ e. cc;
  accepted = tt;
}

pub profile_answer : (rbsp : List ℕ) → LeavesBaseline rbsp → PpsAnswer rbsp (Err NotBaseline)
profile_answer rbsp leaves = record {
  found = tt;
  only = λ p is. absurd (leaves_or_set rbsp p leaves is);
  bad = (λ e. absurd cc, λ bad. absurd (bad_or_leaves rbsp bad leaves));
  not_baseline = (λ e. leaves, λ b. refl);
  no_bad_sps = λ e. cc;
  no_size = λ e. cc;
  accepted = tt;
}

abbrev answered : Pps → Result Pps SetFault
answered p = Ok p

pub set_answer : (rbsp : List ℕ) (p : Pps) → IsPpsOf rbsp p → PpsAnswer rbsp (Ok p)
set_answer rbsp p is = record {
  found = is;
  only = λ q other. ap answered (rest_same rbsp p q is.0 other.0 is.1 other.1).0;
  bad = (λ e. absurd cc, λ bad. absurd (bad_or_set rbsp p bad is));
  not_baseline = (λ e. absurd cc, λ leaves. absurd (leaves_or_set rbsp p leaves is));
  no_bad_sps = λ e. cc;
  no_size = λ e. cc;
  accepted = pps_accepted (bits_of rbsp) p is.0 is.1;
}

-- ---- what the code has tested

pub read_when : (rbsp : List ℕ) (whole : List Bool) (p : Pps) (rest : List Bool) → whole ≡ bits_of rbsp → Takes pic_parameter_set_data whole p rest → Takes pic_parameter_set_data (bits_of rbsp) p rest
read_when rbsp whole p rest e read = subst (λ (x : List Bool). Takes pic_parameter_set_data x p rest) e read

pub stops_when : (rbsp : List ℕ) (whole : List Bool) (found stop : Stop) → whole ≡ bits_of rbsp → found ≡ stop → Stops pic_parameter_set_data whole found → Stops pic_parameter_set_data (bits_of rbsp) stop
stops_when rbsp whole found stop e same h = subst (λ (x : List Bool). Stops pic_parameter_set_data x stop) e (subst (λ (x : Stop). Stops pic_parameter_set_data whole x) same h)
