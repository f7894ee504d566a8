use Rattle.std.proofs.Common.{◌≡◌, ◌≤◌, Some, sym, subst}
use Rattle.cb_types.specs.AcceptedInfo.{IsAccepted}
use Rattle.marking.specs.History.{AreApartFrom, AreNamed, own_number}
use Rattle.marking.specs.declared.begun.Begun.{Begun}
use Rattle.marking.proofs.BegunLemmas.{begun_accepted, begun_apart, begun_known, begun_named}
use Rattle.marking.proofs.StandsLemmas.{number_settled}
use Rattle.marking.proofs.marker.Marker.begin.Goals as goal

pub returns-in-Ok-clause-info : goal.returns-in-Ok-clause-info
returns-in-Ok-clause-info c =
    subst (λ (b : Begun). IsAccepted 0 c.args.sps.now.max_num_ref_frames b.info) (sym c.begun_by.ensures)
    (begun_accepted c.args.self.now c.requires.0 c.args.sps.now c.args.pps.now c.args.header.now c.in-Ok.settled c.requires.1 c.requires.2 (sym c.in-Ok.ensures))

pub returns-in-Ok-clause-frame : goal.returns-in-Ok-clause-frame
returns-in-Ok-clause-frame c =
    subst (λ (b : Begun). b.frame ≤ 16) (sym c.begun_by.ensures)
    (begun_known c.args.self.now c.requires.0 c.args.sps.now c.args.pps.now c.args.header.now c.in-Ok.settled c.requires.1 c.requires.2 (sym c.in-Ok.ensures)).few

pub returns-in-Ok-clause-apart : goal.returns-in-Ok-clause-apart
returns-in-Ok-clause-apart c =
    subst (λ (b : Begun). AreApartFrom b.frame b.info.references) (sym c.begun_by.ensures)
    (begun_apart c.args.self.now c.requires.0 c.args.sps.now c.args.pps.now c.args.header.now c.in-Ok.settled c.requires.1 c.requires.2 (sym c.in-Ok.ensures))

pub returns-in-Ok-clause-own : goal.returns-in-Ok-clause-own
returns-in-Ok-clause-own c = λ pictures stands.
    subst (λ (b : Begun). own_number pictures (record { sps = c.args.sps.now; header = c.args.header.now }) ≡ Some b.frame) (sym c.begun_by.ensures)
    (number_settled c.args.self.now pictures c.args.sps.now c.args.header.now c.in-Ok.settled stands (sym c.in-Ok.ensures))

pub returns-in-Ok-clause-references : goal.returns-in-Ok-clause-references
returns-in-Ok-clause-references c = λ pictures stands may.
    subst (λ (b : Begun). AreNamed pictures b.info.references) (sym c.begun_by.ensures)
    (begun_named c.args.self.now pictures c.args.sps.now c.args.pps.now c.args.header.now c.in-Ok.settled stands may (sym c.in-Ok.ensures))
