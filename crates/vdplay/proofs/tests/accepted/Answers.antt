use Rattle.std.proofs.Common.{◌≡◌, ◌≢◌, ◌+◌, ◌∙◌, true, false, ℕ, List, [], ◌∷◌, length, Option, Some, None, Bool, refl, ap, subst, arith, length-append}
use Rattle.access_units.specs.Acceptors.{IsAnswer, IsHungry, MayFeed, Past, fed, giving, settling}
use Rattle.access_units.specs.Standing.{StandsBehindAnswer, StandsFor}
use Rattle.access_units.specs.declared.acceptor.Acceptor.{Acceptor}
use Rattle.access_units.specs.declared.acceptor.Next.{Next}
use Rattle.access_units.specs.declared.acceptor.Next.TheVariants as next
use Rattle.access_units.specs.declared.acceptor.Unsettled.{Unsettled}
use Rattle.vdplay.proofs.tests.accepted.Goals as goal

fed_outcome : (past : Past) (bytes : List ℕ) → (fed past bytes).outcome ≡ past.outcome
fed_outcome past [] = refl
fed_outcome past (byte ∷ bytes) = refl

fed_length : (past : Past) (bytes : List ℕ) → length (fed past bytes).text ≡ length past.text + length bytes
fed_length past [] = omega arith
fed_length past (byte ∷ bytes) = length-append past.text (byte ∷ bytes)

no_none : (outcome : Option Bool) → outcome ≡ Some true → outcome ≢ None
no_none outcome is none = let settled = is in let unsettled = none in absurd cc

given : (past : Past) (answer : Next) (unsettled : Unsettled) (acceptor : Acceptor) → StandsBehindAnswer acceptor past answer → answer ≡ next.Picture unsettled → StandsBehindAnswer acceptor past (next.Picture unsettled)
given past answer unsettled acceptor stands is = subst (λ a. StandsBehindAnswer acceptor past a) is stands

hungry : (past : Past) (answer : Next) (acceptor : Acceptor) → StandsBehindAnswer acceptor past answer → IsAnswer past answer → answer ≡ next.Hungry → StandsFor acceptor past × (past.ended ≡ false)
hungry past answer acceptor stands answers is =
    let wants : IsHungry past = subst (λ a. IsAnswer past a) is answers in
    (subst (λ a. StandsBehindAnswer acceptor past a) is stands, wants.not_ended)

pub loop-init : goal.loop-init
loop-init c =
    let r = c.requires in
    let past = r.0 in
    let size = r.4 in
    let most = r.5 in
    let may : MayFeed past c.args.bytes.now = record { not_ended = r.2; room = omega (arith, size, most, length-append past.text c.args.bytes.now) } in
    (fed past c.args.bytes.now, c.in_ok-feed.ensures.fed past r.1 may, fed_outcome past c.args.bytes.now ∙ r.3, fed_length past c.args.bytes.now ∙ ap (λ n. n + length c.args.bytes.now) size)

pub next-requires : goal.next-requires
next-requires c = let i = c.loop.invariant in (i.0, i.1, no_none i.0.outcome i.2)

pub settle-requires : goal.settle-requires
settle-requires c =
    let i = c.loop.invariant in
    let g = given i.0 _ c.in-Picture.unsettled c.next.new.self (c.in_ok-last.ensures.stands i.0 i.1 (no_none i.0.outcome i.2)) c.in-Picture.is in
    (giving i.0 g.0, g.3, refl)

pub returns-in_default : goal.returns-in_default
returns-in_default c = λ is.
    let i = c.loop.invariant in
    let asked = no_none i.0.outcome i.2 in
    let h = hungry i.0 _ c.next.new.self (c.in_ok-last.ensures.stands i.0 i.1 asked) (c.in_ok-last.ensures.answer i.0 i.1 asked) is in
    (i.0, h.0, h.1, i.2, i.3)

pub loop-preserved : goal.loop-preserved
loop-preserved c =
    let i = c.loop.invariant in
    let g = given i.0 _ c.in-Picture.unsettled c.next.new.self (c.in_ok-last.ensures.stands i.0 i.1 (no_none i.0.outcome i.2)) c.in-Picture.is in
    (settling (giving i.0 g.0) true, c.settle.ensures (giving i.0 g.0) g.3 refl, refl, i.3)
