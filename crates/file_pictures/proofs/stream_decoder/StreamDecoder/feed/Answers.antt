use Rattle.std.proofs.Common.{Result, Ok, Err}
use Rattle.std.specs.Prelude.{OnErr, OnOk}
use Rattle.file_pictures.proofs.Steps.{fed_past, fed_stream, unfed_stream}
use Rattle.file_pictures.proofs.stream_decoder.StreamDecoder.feed.Goals as goal

on_ok : {T E P Q : Type 0} (r : Result T E) → (P → Q) → OnOk r P → OnOk r Q
on_ok (Ok x) f h = f h
on_ok (Err e) f h = h

on_err : {T E P Q : Type 0} (r : Result T E) → (P → Q) → OnErr r P → OnErr r Q
on_err (Ok x) f h = h
on_err (Err e) f h = f h

pub feed-requires : goal.feed-requires
feed-requires c = fed_past c.args.self.now c.requires.0 _ c.requires.2 c.requires.1.state

pub returns-clause-fed : goal.returns-clause-fed
returns-clause-fed c = on_ok c.feed.result (λ fed stream stands may. fed_stream c.args.self.now _ stream c.args.bytes.now stands may fed) c.feed.ensures.fed

pub returns-clause-untouched : goal.returns-clause-untouched
returns-clause-untouched c = on_err c.feed.result (λ kept stream stands. unfed_stream c.args.self.now _ stream stands kept) c.feed.ensures.untouched
