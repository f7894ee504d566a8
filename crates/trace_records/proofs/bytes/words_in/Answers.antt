use Rattle.trace_records.proofs.Joined.{joined}
use Rattle.trace_records.proofs.bytes.words_in.Goals as goal

pub returns : goal.returns
returns c =
    joined _ _ _ _ _ _ c.args.bytes.now c.requires c.word_at.ensures c.word_at-2.ensures c.word_at-3.ensures c.word_at-4.ensures c.word_at-5.ensures c.word_at-6.ensures
