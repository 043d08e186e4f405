use Rattle.std.proofs.Common.{◌≡◌, length, get_or, None, sym, ap, ◌∙◌, arith}
use Rattle.book_log.proofs.Common.{directory_word, chunk_log, active_chunks, extent_behind}
use Rattle.book_log.specs.Book.{chunks_of}
use Rattle.book_log.proofs.Places.{header_within, word_of_place}
use Rattle.book_log.proofs.Takings.{behind_chunks, behind_all}
use Rattle.book_log.proofs.taking.take_log.Goals as goal

pub version_in-version-requires : goal.version_in-version-requires
version_in-version-requires c = omega (arith, header_within (length c.args.live.now) c.args.words.now c.requires.log c.requires.inside)

pub word_at-requires : goal.word_at-requires
word_at-requires c = record {
  aligned = omega (arith, c.directory_at.ensures);
  inside = omega (arith, c.directory_at.ensures, header_within (length c.args.live.now) c.args.words.now c.requires.log c.requires.inside);
}

pub loop-chunk-preserved : goal.loop-chunk-preserved
loop-chunk-preserved c start =
    let f = chunk_log c.version_in-version.result c.args.words.now in
    let chunks = c.as_slice-chunks.result.now in
    let i = c.loop-chunk.chunk-index in
    c.take_chunk.ensures start
    ∙ ap (extent_behind (f (get_or chunks i 0)) start) (c.loop-chunk.invariant start)
    ∙ sym (behind_chunks f chunks i 0 start None c.loop-chunk-test.true)

pub returns-clause-live : goal.returns-clause-live
returns-clause-live c start =
    let words = c.args.words.now in
    let chunks : c.as_slice-chunks.result.now ≡ chunks_of words =
    c.as_slice-chunks.ensures.value ∙ c.active_chunks-directory.ensures ∙ ap active_chunks (c.word_at.ensures ∙ word_of_place words c.directory_at.result directory_word c.directory_at.ensures) in
    c.loop-chunk.invariant start ∙ behind_all words c.version_in-version.result c.as_slice-chunks.result.now c.loop-chunk.chunk-index start c.version_in-version.ensures chunks c.loop-chunk-test.false

pub next_place-requires-clause-log : goal.next_place-requires-clause-log
next_place-requires-clause-log c = (length c.args.live.now, c.requires.log)
