use Rattle.std.proofs.Common.{Some, refl}
use Rattle.slice_header.proofs.Found.{found_header, found_once, none_begins}
use Rattle.slice_header.proofs.InfoRanges.{info_ranges}
use Rattle.slice_header.proofs.reading.read_header.Goals as goal

pub read_elements-requires : goal.read_elements-requires
read_elements-requires c = info_ranges c.args.info.now c.requires

pub returns-in-Ok : goal.returns-in-Ok
returns-in-Ok c =
    let given = rw (c.fork-ahead.ensures, c.in-Ok.is) at c.read_elements.ensures in
    let found = found_header c.args.head c.args.info.now _ _ _ (info_ranges c.args.info.now c.requires) given.answer in
    record {
      reads = given.answer;
      only = λ header rest taken. found_once c.args.head c.args.info.now _ header rest (Some c.in-Ok.header) _ taken given.answer;
      header = found.0;
      head = found.1;
    }

pub returns-in-Err : goal.returns-in-Err
returns-in-Err c =
    let given = rw (c.fork-ahead.ensures, c.in-Err.is) at c.read_elements.ensures in
    let none = none_begins c.args.head c.args.info.now c.args.reader.now _ _ given in
    record {
      reads = (refl, none);
      only = λ header rest taken. absurd (none header rest taken);
      header = tt;
      head = tt;
    }
