use Rattle.std.proofs.Common.{◌∙◌, inl, inr, ap, sym, arith, length}
use Rattle.log_room.proofs.Common.{words_of, Layout, chunks_of}
use Rattle.log_room.specs.declared.room.Rolled.TheVariants as rolled
use Rattle.log_room.specs.Needless.{first_needless}
use Rattle.log_room.proofs.Flushes.{directory_inside}
use Rattle.log_room.proofs.Ways.{arena_log, rewrite_most}
use Rattle.log_room.proofs.Making.{way_roll, way_rewrite}
use Rattle.log_room.proofs.Booked.{book_live, book_chunks}
use Rattle.log_room.proofs.room.choose_way.Goals as goal
use Rattle.log_room.proofs.room.choose_way.Goals.{then-len-lt-MOST_ACTIVE-via-then-len-lt-MOST_ACTIVE, then-len-lt-MOST_ACTIVE-via-else-len-lt-MOST_ACTIVE+then-is_some}

pub version_of-version-requires : goal.version_of-version-requires
version_of-version-requires g c = directory_inside _ _ c.requires.inside

pub active_of-active-requires : goal.active_of-active-requires
active_of-active-requires g c = directory_inside _ _ c.requires.inside

pub returns-then-len-lt-MOST_ACTIVE : goal.returns-then-len-lt-MOST_ACTIVE
returns-then-len-lt-MOST_ACTIVE g c =
    let words = words_of (g.P.Pmem.state c.args.p.now) in
    let granules = c.args.log.now.granules in
    let first = c.first_needless-dropped.ensures ∙ ap (λ n. first_needless n words (chunks_of words)) c.granules.ensures.granules in
    sym (way_roll granules words c.first_needless-dropped.result c.requires.full first
    (elim c.then-len-lt-MOST_ACTIVE.branch [
      | then-len-lt-MOST_ACTIVE-via-then-len-lt-MOST_ACTIVE w ↦ inl (omega (arith, w.if-len-lt-MOST_ACTIVE.true, c.len.ensures.value, ap length c.active_of-active.ensures))
      | then-len-lt-MOST_ACTIVE-via-else-len-lt-MOST_ACTIVE+then-is_some w ↦ inr (sym w.is_some.ensures ∙ w.if-is_some.true)
    ]))

pub count_live-requires : goal.count_live-requires
count_live-requires g c = book_live c.args.log.now (words_of (g.P.Pmem.state c.args.p.now)) c.requires.few c.requires.reads

pub overflow_cast-result : goal.overflow_cast-result
overflow_cast-result g c =
    let words = words_of (g.P.Pmem.state c.args.p.now) in
    let row = ap (λ (l : Layout). l.chunk_entries) c.layout_of.ensures.row in
    let chunks = book_chunks c.args.log.now words c.version_of-version.result c.count_live.result c.layout_of.result.chunk_entries c.requires.reads c.version_of-version.ensures c.count_live.ensures row in
    let arena = arena_log c.requires.reads.log c.requires.inside c.requires.few in
    omega (arith, chunks, rewrite_most c.args.log.now.granules words (chunks_of words) arena c.requires.disjoint)

pub returns : goal.returns
returns g c =
    let words = words_of (g.P.Pmem.state c.args.p.now) in
    let granules = c.args.log.now.granules in
    let first = c.first_needless-dropped.ensures ∙ ap (λ n. first_needless n words (chunks_of words)) c.granules.ensures.granules in
    let row = ap (λ (l : Layout). l.chunk_entries) c.layout_of.ensures.row in
    let chunks = book_chunks c.args.log.now words c.version_of-version.result c.count_live.result c.layout_of.result.chunk_entries c.requires.reads c.version_of-version.ensures c.count_live.ensures row in
    ap rolled.Rewritten chunks
    ∙ sym (way_rewrite granules words c.first_needless-dropped.result c.requires.full first (omega (arith, c.if-len-lt-MOST_ACTIVE.false, c.len.ensures.value, ap length c.active_of-active.ensures)) (sym c.is_some.ensures ∙ c.if-is_some.false))
