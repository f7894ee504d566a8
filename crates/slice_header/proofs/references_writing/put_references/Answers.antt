use Rattle.std.proofs.Common.{subst, sym}
use Rattle.std.proofs.lemmas.Result.{on_err_weaker, on_ok_weaker}
use Rattle.element_tables.specs.Syntax.{Appends, present}
use Rattle.element_tables.proofs.Tables.{appends_absent, appends_present}
use Rattle.std.proofs.Common.{◌∙◌}
use Rattle.cb_types.specs.Slices.{is_p}
use Rattle.slice_header.specs.Spelling.{no_references, references}
use Rattle.slice_header.specs.Headers.{as_read}
use Rattle.slice_header.specs.Parts.{references_of}
use Rattle.slice_header.proofs.Absent.{references_absent}
use Rattle.slice_header.proofs.references_writing.put_references.Goals as goal

pub returns-then-not-is_p : goal.returns-then-not-is_p
returns-then-not-is_p c = record {
  ok = subst (λ x. Appends (present (is_p c.args.header.now) (references c.args.info.now) no_references) x c.args.out.now c.args.out.now) (sym (references_absent c.args.info.now c.args.header.now c.requires.header (sym c.is_p.ensures ∙ c.if-not-is_p.true))) (appends_absent (references c.args.info.now) no_references (is_p c.args.header.now) c.args.out.now (sym c.is_p.ensures ∙ c.if-not-is_p.true));
  err = tt;
}

pub returns : goal.returns
returns c = record {
  ok = on_ok_weaker c.put_present_references.result (λ e. appends_present (references c.args.info.now) no_references (references_of (as_read c.args.info.now c.args.header.now)) (is_p c.args.header.now) _ _ (sym c.is_p.ensures ∙ c.if-not-is_p.false) e) c.put_present_references.ensures.ok;
  err = on_err_weaker c.put_present_references.result (λ e. e) c.put_present_references.ensures.err;
}
