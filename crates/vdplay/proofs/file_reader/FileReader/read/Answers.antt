use Rattle.std.proofs.Common.{◌≡◌, ◌∙◌, ◌≤◌, ℕ, List, length, take, vec_len, refl, sym, subst, arith}
use Rattle.accepted_pictures.specs.Streams.{MayFeed, streamed}
use Rattle.file_pictures.specs.Streams.{StandsFor}
use Rattle.vdplay.proofs.ReadingLemmas.{may_feed, reads_on, whole_items}
use Rattle.vdplay.proofs.file_reader.FileReader.read.Goals as goal

pub returns-clause-reads : goal.returns-clause-reads
returns-clause-reads g c = λ stream reads open_ended.
    let long : length c.read_piece.new.piece ≡ vec_len c.args.self.now.piece = omega (arith, c.read_piece.auto.piece, c.deref_mut.ensures.len) in
    let within : c.in_ok-n.n ≤ length c.read_piece.new.piece = omega (arith, c.in_ok-n.ensures.count, c.read_piece.auto.piece) in
    let same : c.deref.result.now ≡ c.read_piece.new.piece = c.deref.ensures.value ∙ whole_items _ c.read_piece.new.piece _ long in
    let M : List ℕ → Type 0 = λ buf. MayFeed stream (take c.in_ok-n.n buf) in
    let S : List ℕ → Type 0 = λ buf. StandsFor c.feed.new.self (streamed stream (take c.in_ok-n.n buf)) in
    let may = may_feed c.args.self.now _ stream c.read_piece.new.piece c.in_ok-n.n reads open_ended within c.in_ok-n.ensures.room in
    reads_on c.args.self.now _ _ stream c.read_piece.new.piece c.in_ok-n.n reads open_ended (subst S same (c.in_ok-feed.ensures.fed stream reads.decoder (subst M (sym same) may))) within refl c.in_ok-n.ensures.room refl reads.piece c.in_ok-n.ensures.bytes
