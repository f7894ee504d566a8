-- The end and a refusal stay the answer, whatever is fed.
use Rattle.std.proofs.Common.{◌≡◌, ℕ, inl, inr, Bool, true, false, List, [], ◌∷◌, sym, subst, ◌∙◌}
use Rattle.access_units.specs.AccessUnits.{AccessUnit}
use Rattle.access_units.specs.Acceptors.{IsAnswer, IsFailed, IsNext, IsSettled, IsStopped, IsUpNext, MayFeed, Past, fed}
use Rattle.access_units.specs.Answers.{IsFedOn, Stays, StaysIfLast}
use Rattle.access_units.specs.Pictures.{Picture}
use Rattle.access_units.specs.declared.acceptor.Next.{Next}
use Rattle.access_units.specs.declared.acceptor.Next.TheVariants as next
use Rattle.access_units.proofs.OneAnswer.{answers_one}
use Rattle.access_units.proofs.Onward.{settled_at_end, settled_on}

-- ---- with one piece more

up_on : (past : Past) (bytes : List ℕ) (au : AccessUnit) → MayFeed past bytes → IsUpNext past au → IsUpNext (fed past bytes) au
up_on past [] au may up = record { front = up.front; settled = settled_at_end past.text past.ended up.front au up.settled; pictures = up.pictures }
up_on past (byte ∷ bytes) au may up = record {
  front = up.front;
  settled = settled_on past.text (byte ∷ bytes) past.ended up.front au (subst (λ (e : Bool). IsSettled past.text e up.front au) may.not_ended up.settled);
  pictures = up.pictures;
}

pub next_on : (past : Past) (bytes : List ℕ) (picture : Picture) → MayFeed past bytes → IsNext past picture → IsNext (fed past bytes) picture
next_on past [] picture may next = record { outcome = next.outcome; au = next.au; up_next = up_on past [] next.au may next.up_next; is = next.is }
next_on past (byte ∷ bytes) picture may next = record { outcome = next.outcome; au = next.au; up_next = up_on past (byte ∷ bytes) next.au may next.up_next; is = next.is }

stopped_on : (past : Past) (bytes : List ℕ) (offset : ℕ) (large : Bool) → MayFeed past bytes → IsStopped past offset large → IsStopped (fed past bytes) offset large
stopped_on past [] offset large may is = record {
  outcome = is.outcome;
  au = is.au;
  up_next = up_on past [] is.au may is.up_next;
  refused = is.refused;
  offset_is = is.offset_is;
  large_is = is.large_is;
}
stopped_on past (byte ∷ bytes) offset large may is = record {
  outcome = is.outcome;
  au = is.au;
  up_next = up_on past (byte ∷ bytes) is.au may is.up_next;
  refused = is.refused;
  offset_is = is.offset_is;
  large_is = is.large_is;
}

failed_on : (past : Past) (bytes : List ℕ) (offset : ℕ) → IsFailed past offset → IsFailed (fed past bytes) offset
failed_on past [] offset is = record { outcome = is.outcome; last = is.last; before = is.before; given = is.given; offset_is = is.offset_is }
failed_on past (byte ∷ bytes) offset is = record { outcome = is.outcome; last = is.last; before = is.before; given = is.given; offset_is = is.offset_is }

refused_on : (past : Past) (bytes : List ℕ) (offset : ℕ) (large : Bool) → MayFeed past bytes → IsAnswer past (next.Refused offset large) → IsAnswer (fed past bytes) (next.Refused offset large)
refused_on past bytes offset large may (inl is) = inl (failed_on past bytes offset is.0, is.1)
refused_on past bytes offset large may (inr is) = inr (stopped_on past bytes offset large may is)

-- ---- whatever is fed

refused_later : (past later : Past) (pieces : List (List ℕ)) (offset : ℕ) (large : Bool) → IsFedOn past pieces later → IsAnswer past (next.Refused offset large) → IsAnswer later (next.Refused offset large)
refused_later past later [] offset large on is = subst (λ (p : Past). IsAnswer p (next.Refused offset large)) (sym on) is
refused_later past later (bytes ∷ pieces) offset large on is = refused_later (fed past bytes) later pieces offset large on.1 (refused_on past bytes offset large on.0 is)

end_later : (past later : Past) (pieces : List (List ℕ)) → IsFedOn past pieces later → IsAnswer past next.End → IsAnswer later next.End
end_later past later [] on is = subst (λ (p : Past). IsAnswer p next.End) (sym on) is
end_later past later (bytes ∷ pieces) on is = let e : true ≡ false = sym is.ended ∙ on.0.not_ended in absurd (cc)

stays_by : (past : Past) (answer : Next) → ((pieces : List (List ℕ)) (later : Past) → IsFedOn past pieces later → IsAnswer later answer) → Stays past answer
stays_by past answer on = λ pieces later fed_on. let here = on pieces later fed_on in (here, λ other there. answers_one later other answer there here)

pub stays_if_last : (past : Past) (answer : Next) → IsAnswer past answer → StaysIfLast past answer
stays_if_last past next.Hungry is = tt
stays_if_last past (next.Picture unsettled) is = tt
stays_if_last past next.End is = stays_by past next.End (λ pieces later on. end_later past later pieces on is)
stays_if_last past (next.Refused offset large) is = stays_by past (next.Refused offset large) (λ pieces later on. refused_later past later pieces offset large on is)
