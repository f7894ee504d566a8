use Rattle.std.proofs.Common.{◌≡◌, inl, inr, refl, subst, sym}
use Rattle.std.specs.Prelude.{◌⊎◌, OnErr, OnOk, Some}
use Rattle.std.proofs.lemmas.Result.{on_ok_weaker}
use Rattle.access_units.specs.Contents.{with_content}
use Rattle.access_units.specs.Known.{IsKnownTo}
use Rattle.access_units.specs.Sets.{Sets}
use Rattle.access_units.specs.Taking.{Begins, GoesOn, HasMore, Opens, TakesNone}
use Rattle.access_units.specs.declared.acceptor.Acceptor.{Acceptor}
use Rattle.access_units.proofs.UnitOpened.{begins_from, begins_none, same_in_hand}
use Rattle.access_units.proofs.acceptor.Acceptor.take.Goals as goal
use Rattle.access_units.proofs.acceptor.Acceptor.take.Goals.{in_default-via-in-Some+else-not-begins_another, in_default-via-in_default}

pub returns-in-Some-clause-taken : goal.returns-in-Some-clause-taken
returns-in-Some-clause-taken c =
    on_ok_weaker c.take_unit.result (λ (more : HasMore c.in-Some.hand c.take_unit.new.hand c.args.unit.now). inl (record {
      before = c.in-Some.hand;
      after = c.take_unit.new.hand;
      was = c.in-Some.is;
      hand = refl;
      opened = refl;
      more = more;
      same = λ text au told holds is. sym (c.if-not-begins_another.ensures text au told holds is);
    })) c.take_unit.ensures.more

pub returns-in_default-clause-taken : goal.returns-in_default-clause-taken
returns-in_default-clause-taken c =
    let same : c.in_default.self ≡ c.args.self.now = elim c.in_default.branch as (λ _. c.in_default.self ≡ c.args.self.now) [
      | in_default-via-in-Some+else-not-begins_another w ↦ same_in_hand c.args.self.now c.in_default.self (Some w.in-Some.hand) w.self-is w.in-Some.is
      | in_default-via-in_default w ↦ w.self-is
    ] in
    let begins : Begins c.args.self.now.hand c.args.unit.now = elim c.in_default.branch as (λ _. Begins c.args.self.now.hand c.args.unit.now) [
      | in_default-via-in-Some+else-not-begins_another w ↦ begins_from c.args.self.now.hand w.in-Some.hand c.args.unit.now w.in-Some.is
          (λ text au told holds is. sym (w.if-not-begins_another.ensures text au told holds is))
      | in_default-via-in_default w ↦ begins_none c.args.self.now.hand c.args.unit.now w.in_default.is
    ] in
    let Taken : Acceptor → Type 0 = λ a. OnOk c.open.result (GoesOn a c.open.new.self c.args.unit.now ⊎ (Begins c.args.self.now.hand c.args.unit.now × Opens a c.open.new.self c.args.unit.now)) in
    subst Taken same (on_ok_weaker c.open.result (λ (opens : Opens c.in_default.self c.open.new.self c.args.unit.now). inr (begins, opens)) c.open.ensures.opened)

pub returns-in_default-clause-known : goal.returns-in_default-clause-known
returns-in_default-clause-known c =
    let same : c.in_default.self ≡ c.args.self.now = elim c.in_default.branch as (λ _. c.in_default.self ≡ c.args.self.now) [
      | in_default-via-in-Some+else-not-begins_another w ↦ same_in_hand c.args.self.now c.in_default.self (Some w.in-Some.hand) w.self-is w.in-Some.is
      | in_default-via-in_default w ↦ w.self-is
    ] in
    let Known : Acceptor → Type 0 = λ a. OnOk c.open.result ((sets : Sets) → IsKnownTo a.known sets → IsKnownTo c.open.new.self.known (with_content c.args.unit.now.content sets)) in
    subst Known same c.open.ensures.known

pub returns-in_default-clause-none : goal.returns-in_default-clause-none
returns-in_default-clause-none c =
    let same : c.in_default.self ≡ c.args.self.now = elim c.in_default.branch as (λ _. c.in_default.self ≡ c.args.self.now) [
      | in_default-via-in-Some+else-not-begins_another w ↦ same_in_hand c.args.self.now c.in_default.self (Some w.in-Some.hand) w.self-is w.in-Some.is
      | in_default-via-in_default w ↦ w.self-is
    ] in
    let NoneTaken : Acceptor → Type 0 = λ a. OnErr c.open.result (TakesNone a c.open.new.self) in
    subst NoneTaken same c.open.ensures.none
