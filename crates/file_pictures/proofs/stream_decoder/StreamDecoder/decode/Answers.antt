use Rattle.std.proofs.Common.{Option, SFits, refl, rules, subst, sym, to_z-of_z, w32}
use Rattle.access_units.specs.Acceptors as acceptors
use Rattle.access_units.specs.Standing as acceptor
use Rattle.file_pictures.proofs.Steps.{gives, not_given}
use Rattle.file_pictures.specs.Offers.{AreKeptBehind, AreSamples}
use Rattle.accepted_pictures.specs.Streams.{past_of}
use Rattle.access_units.specs.declared.acceptor.Acceptor.{Acceptor}
use Rattle.vd_plane.specs.declared.picture.Picture as samples
use Rattle.std.specs.Arc.{arc_value}
use Rattle.std.specs.Option.{option_map}
use Rattle.std.specs.declared.sync.Arc.{Arc}
use Rattle.std.specs.declared.alloc.Global.{Global}
use Rattle.file_pictures.proofs.stream_decoder.StreamDecoder.decode.Goals as goal

pub returns-in-Some-clause-step : goal.returns-in-Some-clause-step
returns-in-Some-clause-step c = λ offer is.
    let fits : SFits w32 c.args.unsettled.begun.poc = search rules in
    let A : Option (Arc samples.Picture Global) → Type 0 = λ come. AreSamples offer (option_map arc_value come) in
    let K : Option (Arc samples.Picture Global) → Type 0 = λ come. AreKeptBehind c.samples_of.new.self.buffer offer (option_map arc_value come) in
    let S : Acceptor → Type 0 = λ a. acceptor.StandsFor a (acceptors.giving (past_of offer.stream) offer.picture) in
    let stands = subst S (sym c.in_ok-samples.ensures.acceptor) is.acceptor in
    gives c.args.self.now _ offer c.args.unsettled _ c.in-Some.samples is (subst A c.in-Some.is (c.in_ok-samples.ensures.samples offer is)) (subst K c.in-Some.is (c.in_ok-samples.ensures.kept offer is)) (to_z-of_z fits)
    (c.settle.ensures _ stands refl)

pub returns-in-None-clause-step : goal.returns-in-None-clause-step
returns-in-None-clause-step c = λ offer is.
    let A : Option (Arc samples.Picture Global) → Type 0 = λ come. AreSamples offer (option_map arc_value come) in
    let S : Acceptor → Type 0 = λ a. acceptor.StandsFor a (acceptors.giving (past_of offer.stream) offer.picture) in
    let stands = subst S (sym c.in_ok-samples.ensures.acceptor) is.acceptor in
    not_given c.args.self.now _ offer c.args.unsettled is (subst A c.in-None.is (c.in_ok-samples.ensures.samples offer is)) (c.settle-in-None.ensures _ stands refl)
