use Rattle.std.proofs.Common.{◌≡◌, ◌≤◌, ℕ, List, length, sym, arith}
use Rattle.std.specs.Prelude.{drop, vec_len}
use Rattle.access_units.specs.Giving.{bytes_at}
use Rattle.access_units.specs.Pictures.{submission_of}
use Rattle.access_units.proofs.GiveOffer.{no_begin, none_of, offer_of, slices_within, some_at, too_long}
use Rattle.access_units.proofs.acceptor.Acceptor.offer.Goals as goal

pub returns-in_default-begin-clause-none : goal.returns-in_default-begin-clause-none
returns-in_default-begin-clause-none c = λ none past au picture s h.
    no_begin c.args.hand.now c.in-Some.named past.text past.given au picture c.in-Some.is h
    (λ begun. c.begin.ensures.none c.in_default-begin.is past.given begun s.behind)

pub submission_of-requires : goal.submission_of-requires
submission_of-requires c = record { within = slices_within c.args.self.now c.args.hand.now c.requires.past.0 c.requires.held c.requires.past.1 }

pub returns-in_default-2-clause-none : goal.returns-in_default-2-clause-none
returns-in_default-2-clause-none c = λ none past au picture s h.
    too_long c.args.hand.now past.text past.given au picture h (c.in_ok-submission.ensures.too_long c.in_default-2.is past.text s.reads.bytes)

pub returns-clause-some : goal.returns-clause-some
returns-clause-some c = λ past au s h.
    let hand = c.args.hand.now in
    let many : c.len.result ≡ vec_len hand.slices = omega arith in
    offer_of hand past au c.in-Some.named c.in-Some-begin.begun c.len.result c.in-Some-2.submission h
    (none_of hand.refused (sym c.if-is_some.ensures))
    c.in-Some.is
    (c.in-Some-begin.ensures.some past.given s.behind)
    (c.in-Some-begin.ensures.own past.given s.behind)
    (c.in-Some-begin.ensures.sequence past.given s.behind)
    many
    (some_at c.in_ok-submission.field-0 c.in-Some-2.submission
    (λ bytes. (text : List ℕ) → c.args.self.now.bytes.items ≡ drop c.args.self.now.from text → bytes ≡ submission_of (bytes_at text hand.slices.items))
    c.in-Some-2.is c.in_ok-submission.ensures.bytes past.text s.reads.bytes)
    (some_at c.in_ok-submission.field-0 c.in-Some-2.submission (λ bytes. length bytes ≤ 67108864) c.in-Some-2.is c.in_ok-submission.ensures.fits)
