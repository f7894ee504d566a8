use Rattle.std.proofs.Common.{subst, sym}
use Rattle.std.proofs.lemmas.Result.{on_err_weaker, on_ok_weaker}
use Rattle.element_tables.specs.Syntax.{Appends, present}
use Rattle.element_tables.proofs.Tables.{appends_absent, appends_present}
use Rattle.cb_types.specs.AcceptedInfo.{max_frame_num}
use Rattle.cb_types.specs.Slices.{active_entries}
use Rattle.slice_header.specs.Spelling.{edits, no_edits}
use Rattle.slice_header.specs.Headers.{as_read}
use Rattle.slice_header.specs.Parts.{edits_of}
use Rattle.slice_header.proofs.Absent.{edits_absent}
use Rattle.slice_header.proofs.references_writing.put_edits.Goals as goal

pub returns-then-not-header : goal.returns-then-not-header
returns-then-not-header c = record {
  ok = subst (λ x. Appends (present c.args.header.now.edited (edits (max_frame_num c.args.info.now) (active_entries c.args.info.now c.args.header.now)) no_edits) x c.args.out.now c.args.out.now) (sym (edits_absent c.args.info.now c.args.header.now c.requires.header c.if-not-header.true)) (appends_absent (edits (max_frame_num c.args.info.now) (active_entries c.args.info.now c.args.header.now)) no_edits c.args.header.now.edited c.args.out.now c.if-not-header.true);
  err = tt;
}

pub returns : goal.returns
returns c = record {
  ok = on_ok_weaker c.put_commands.result (λ e. appends_present (edits (max_frame_num c.args.info.now) (active_entries c.args.info.now c.args.header.now)) no_edits (edits_of (as_read c.args.info.now c.args.header.now)) c.args.header.now.edited _ _ c.if-not-header.false e) c.put_commands.ensures.ok;
  err = on_err_weaker c.put_commands.result (λ e. e) c.put_commands.ensures.err;
}
