use Rattle.std.proofs.lemmas.Result.{on_ok_weaker}
use Rattle.trace_records.proofs.Joined.{put_behind}
use Rattle.trace_records.proofs.bytes.push_words.Goals as goal

pub returns : goal.returns
returns c =
    on_ok_weaker c.push_word-6.result
    (put_behind _ _ _ _ _ _ _ _ _ _ _ _ _ c.in_ok-push_word.ensures c.in_ok-push_word-2.ensures c.in_ok-push_word-3.ensures c.in_ok-push_word-4.ensures c.in_ok-push_word-5.ensures)
    c.push_word-6.ensures
