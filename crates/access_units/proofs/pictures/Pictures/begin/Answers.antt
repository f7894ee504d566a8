use Rattle.std.proofs.Common.{◌≡◌, ◌<◌, true, false, map, reverse, length, Ok, Result, refl, sym, ◌∙◌, arith, rules}
use mir.Syntax.{w32}
use mir.Val.{SFits, of_z, to_z}
use Rattle.std.proofs.lemmas.Int.{to_z-of_z}
use Rattle.marking.specs.History.{AreNamed}
use Rattle.marking.specs.declared.begun.Begun.{Begun}
use Rattle.marking.specs.declared.begun.MarkFault.{MarkFault}
use Rattle.access_units.specs.Pictures.{marked_of}
use Rattle.access_units.proofs.PictureLemmas.{all_own, begun_again, begun_header, has_set, may_begin, set_behind}
use Rattle.access_units.proofs.PictureOrder.{in_time, late_again, may_push}
use Rattle.access_units.proofs.SequenceLemmas.{all_of_sequence, none_at_idr, with_most}
use Rattle.access_units.proofs.pictures.Pictures.begin.Goals as goal
use Rattle.access_units.proofs.pictures.Pictures.begin.Goals.{then-self-ge-MAX_PICTURES-via-then-self-ge-MAX_PICTURES, then-self-ge-MAX_PICTURES-via-else-self-ge-MAX_PICTURES+then-not-has_its_set}

false_true : false ≡ true → ⊥
false_true e = cc

pub returns-then-self-ge-MAX_PICTURES-clause-none : goal.returns-then-self-ge-MAX_PICTURES-clause-none
returns-then-self-ge-MAX_PICTURES-clause-none c = λ is before begun stands begins.
    elim c.then-self-ge-MAX_PICTURES.branch [
      | then-self-ge-MAX_PICTURES-via-then-self-ge-MAX_PICTURES w ↦ absurd (omega (arith, stands.count, begins.few, w.if-self-ge-MAX_PICTURES.true))
      | then-self-ge-MAX_PICTURES-via-else-self-ge-MAX_PICTURES+then-not-has_its_set w ↦ absurd (false_true (w.if-not-has_its_set.ensures.1 (has_set c.args.self.now before c.args.named.now begun stands begins)))
    ]

pub begin-requires : goal.begin-requires
begin-requires c =
    let before = c.requires.behind.0 in
    let stands = c.requires.behind.1 in
    let few : length before < 7000000 = omega (arith, stands.count, c.if-self-ge-MAX_PICTURES.false) in (
      reverse (map marked_of before),
      stands.marker,
      may_begin c.args.self.now before c.args.named.now stands c.requires.readable (c.if-not-has_its_set.ensures.0 refl) few,
    )

pub push-requires-clause-may : goal.push-requires-clause-may
push-requires-clause-may c =
    let before = c.requires.behind.0 in
    let stands = c.requires.behind.1 in (
      stands.history,
      stands.waiting,
      may_push stands.history before c.args.self.now.marker c.args.named.now c.in-Ok.begun c.depth_of-depth.result c.args.self.now.last stands.ordered stands.last
          (c.if-not-has_its_set.ensures.0 refl) (sym c.in-Ok.ensures.value) c.depth_of-depth.ensures.value,
    )

pub returns-in-Ok-push-clause-some : goal.returns-in-Ok-push-clause-some
returns-in-Ok-push-clause-some c = λ before stands.
    let named = c.args.named.now in
    let has = c.if-not-has_its_set.ensures.0 refl in
    let h = stands.history in
    let fits : SFits w32 c.in-Ok.begun.poc = search rules in record {
      few = omega (arith, stands.count, c.if-self-ge-MAX_PICTURES.false);
      same_set = λ idr. set_behind before named.sps (sym stands.last ∙ has idr);
      marker = c.args.self.now.marker;
      behind = stands.marker.after;
      begins = sym c.in-Ok.ensures.value;
      in_time = in_time h before c.in-Ok.begun c.args.self.now.count (to_z w32 (of_z w32 c.in-Ok.begun.poc)) c.depth_of-depth.result named.sps false stands.ordered stands.count
          (to_z-of_z w32 c.in-Ok.begun.poc fits) c.depth_of-depth.ensures.value
          (c.in-Ok-push.ensures.late h stands.waiting);
    }

pub returns-in-Ok-push-clause-header : goal.returns-in-Ok-push-clause-header
returns-in-Ok-push-clause-header c = begun_header c.args.self.now.marker c.args.named.now.sps c.args.named.now.pps c.args.named.now.header c.in-Ok.begun (sym c.in-Ok.ensures.value)

pub returns-in-Ok-push-clause-references : goal.returns-in-Ok-push-clause-references
returns-in-Ok-push-clause-references c = λ before stands.
    let few : length before < 7000000 = omega (arith, stands.count, c.if-self-ge-MAX_PICTURES.false) in
    c.in-Ok.ensures.references (reverse (map marked_of before)) stands.marker (may_begin c.args.self.now before c.args.named.now stands c.requires.readable (c.if-not-has_its_set.ensures.0 refl) few)

pub returns-in-Ok-push-clause-baseline : goal.returns-in-Ok-push-clause-baseline
returns-in-Ok-push-clause-baseline c = with_most 0 c.args.named.now.sps.max_num_ref_frames c.in-Ok.begun.info c.requires.readable.sps.max_num_ref_frames c.in-Ok.ensures.info

pub returns-in-Ok-push-clause-none_at_idr : goal.returns-in-Ok-push-clause-none_at_idr
returns-in-Ok-push-clause-none_at_idr c = none_at_idr c.args.self.now.marker c.args.named.now.sps c.args.named.now.pps c.args.named.now.header c.in-Ok.begun (sym c.in-Ok.ensures.value)

pub returns-in-Ok-push-clause-sequence : goal.returns-in-Ok-push-clause-sequence
returns-in-Ok-push-clause-sequence c = λ before stands.
    let few : length before < 7000000 = omega (arith, stands.count, c.if-self-ge-MAX_PICTURES.false) in
    let named : AreNamed (reverse (map marked_of before)) c.in-Ok.begun.info.references =
    c.in-Ok.ensures.references (reverse (map marked_of before)) stands.marker (may_begin c.args.self.now before c.args.named.now stands c.requires.readable (c.if-not-has_its_set.ensures.0 refl) few) in
    all_of_sequence before c.in-Ok.begun.info.references stands.numbers named

pub returns-in-Ok-push-clause-own : goal.returns-in-Ok-push-clause-own
returns-in-Ok-push-clause-own c = λ before stands.
    let few : length before < 7000000 = omega (arith, stands.count, c.if-self-ge-MAX_PICTURES.false) in
    let named : AreNamed (reverse (map marked_of before)) c.in-Ok.begun.info.references =
    c.in-Ok.ensures.references (reverse (map marked_of before)) stands.marker (may_begin c.args.self.now before c.args.named.now stands c.requires.readable (c.if-not-has_its_set.ensures.0 refl) few) in
    all_own before c.in-Ok.begun.info.references stands.numbers named

abbrev ok_begun : Begun → Result Begun MarkFault
ok_begun b = Ok b

ok_same : (a b : Begun) → ok_begun a ≡ ok_begun b → a ≡ b
ok_same a b e = cc

pub returns-in-Err-clause-none : goal.returns-in-Err-clause-none
returns-in-Err-clause-none c = λ is before begun stands begins.
    let named = c.args.named.now in
    let h = stands.history in
    let same : c.in-Ok.begun ≡ begun = ok_same c.in-Ok.begun begun (c.in-Ok.ensures.value ∙ begun_again c.args.self.now before named begun stands begins) in
    let fits : SFits w32 c.in-Ok.begun.poc = search rules in
    let late = in_time h before c.in-Ok.begun c.args.self.now.count (to_z w32 (of_z w32 c.in-Ok.begun.poc)) c.depth_of-depth.result named.sps true stands.ordered stands.count
    (to_z-of_z w32 c.in-Ok.begun.poc fits) c.depth_of-depth.ensures.value (c.in-Err.ensures.late h stands.waiting) in
    false_true (sym (late_again before named.sps begun c.in-Ok.begun same begins.in_time) ∙ late)
