use Rattle.std.proofs.Common.{Bool, List, Option, None, Some, ◌∙◌, subst, sym}
use Rattle.cb_types.specs.declared.picture_info.PictureInfo.{PictureInfo}
use Rattle.element_tables.specs.Syntax.{Takes}
use Rattle.marking.specs.HeaderInfo.{header_info}
use Rattle.slice_header.specs.Headers.{BeginsNoHeader, IsHeader}
use Rattle.slice_header.specs.Spelling.{slice_header}
use Rattle.access_units.specs.Readable.{HasHeaderIn, IsSetNumber}
use Rattle.access_units.specs.declared.content.Named.{Named}
use Rattle.access_units.proofs.ContentLemmas.{header_found, no_header, no_number, no_picture_set, no_sequence_set}
use Rattle.access_units.proofs.content.named_in.Goals as goal

pub returns-in_err-picture_set_number-clause-told : goal.returns-in_err-picture_set_number-clause-told
returns-in_err-picture_set_number-clause-told c = λ sets known.
    let bits = c.fork.ensures ∙ c.new-reader.ensures in
    let none = subst (λ (x : List Bool). IsSetNumber x None) bits c.in_err-picture_set_number.ensures in
    subst (λ (o : Option Named). HasHeaderIn sets c.args.head c.args.rbsp.now o) (sym c.from_residual.ensures)
    (no_number sets c.args.head c.args.rbsp.now none)

pub returns-in_err-pps-clause-told : goal.returns-in_err-pps-clause-told
returns-in_err-pps-clause-told c = λ sets known.
    let bits = c.fork.ensures ∙ c.new-reader.ensures in
    let id = c.in_ok-picture_set_number.field-0 in
    let number = subst (λ (x : List Bool). IsSetNumber x (Some id)) bits c.in_ok-picture_set_number.ensures in
    subst (λ (o : Option Named). HasHeaderIn sets c.args.head c.args.rbsp.now o) (sym c.from_residual-in_err-pps.ensures)
    (no_picture_set sets c.args.head c.args.rbsp.now id number (c.in_err-pps.ensures.value sets known))

pub returns-in_err-sps-clause-told : goal.returns-in_err-sps-clause-told
returns-in_err-sps-clause-told c = λ sets known.
    let bits = c.fork.ensures ∙ c.new-reader.ensures in
    let id = c.in_ok-picture_set_number.field-0 in
    let number = subst (λ (x : List Bool). IsSetNumber x (Some id)) bits c.in_ok-picture_set_number.ensures in
    subst (λ (o : Option Named). HasHeaderIn sets c.args.head c.args.rbsp.now o) (sym c.from_residual-in_err-sps.ensures)
    (no_sequence_set sets c.args.head c.args.rbsp.now id c.in_ok-pps.pps.now number (c.in_ok-pps.ensures.value sets known) (c.in_err-sps.ensures.value sets known))

pub header_info-requires-clause-sps : goal.header_info-requires-clause-sps
header_info-requires-clause-sps c = c.in_ok-sps.ensures.accepted c.requires.0 c.requires.1

pub header_info-requires-clause-pps : goal.header_info-requires-clause-pps
header_info-requires-clause-pps c = c.in_ok-pps.ensures.accepted c.requires.0 c.requires.1

pub returns-in_err-header-clause-told : goal.returns-in_err-header-clause-told
returns-in_err-header-clause-told c = λ sets known.
    let bits = c.fork.ensures ∙ c.new-reader.ensures in
    let id = c.in_ok-picture_set_number.field-0 in
    let pps = c.in_ok-pps.pps.now in
    let sps = c.in_ok-sps.sps.now in
    let number = subst (λ (x : List Bool). IsSetNumber x (Some id)) bits c.in_ok-picture_set_number.ensures in
    let here = subst (λ (info : PictureInfo). BeginsNoHeader c.args.head info c.new-reader.result) c.header_info.ensures.value c.in_err-header.ensures.reads.1 in
    let none = subst (λ (x : List Bool). BeginsNoHeader c.args.head (header_info sps pps) x) c.new-reader.ensures here in
    subst (λ (o : Option Named). HasHeaderIn sets c.args.head c.args.rbsp.now o) (sym c.from_residual-in_err-header.ensures)
    (no_header sets c.args.head c.args.rbsp.now id pps sps number (c.in_ok-pps.ensures.value sets known) (c.in_ok-sps.ensures.value sets known) none)

pub returns-clause-told : goal.returns-clause-told
returns-clause-told c = λ sets known.
    let bits = c.fork.ensures ∙ c.new-reader.ensures in
    let id = c.in_ok-picture_set_number.field-0 in
    let pps = c.in_ok-pps.pps.now in
    let sps = c.in_ok-sps.sps.now in
    let header = c.in_ok-header.header in
    let after = c.read_header.new.reader in
    let number = subst (λ (x : List Bool). IsSetNumber x (Some id)) bits c.in_ok-picture_set_number.ensures in
    let here = subst (λ (info : PictureInfo). Takes (slice_header c.args.head info) c.new-reader.result header after) c.header_info.ensures.value c.in_ok-header.ensures.reads in
    let taken = subst (λ (x : List Bool). Takes (slice_header c.args.head (header_info sps pps)) x header after) c.new-reader.ensures here in
    header_found sets c.args.head c.args.rbsp.now id pps sps header after number (c.in_ok-pps.ensures.value sets known) (c.in_ok-sps.ensures.value sets known) taken

pub returns-clause-readable : goal.returns-clause-readable
returns-clause-readable c = record {
  sps = c.in_ok-sps.ensures.accepted c.requires.0 c.requires.1;
  pps = c.in_ok-pps.ensures.accepted c.requires.0 c.requires.1;
  header = subst (λ (info : PictureInfo). IsHeader info c.in_ok-header.header) c.header_info.ensures.value c.in_ok-header.ensures.header;
}
