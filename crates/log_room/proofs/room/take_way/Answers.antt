use Rattle.std.proofs.Common.{◌<◌, ◌∙◌, ◌++◌, [], ap, sym, subst, arith, length, take, List, ℕ}
use Rattle.log_room.proofs.Common.{Event, words_of, HasRoom, Appends, version_in, live_at, live_words}
use Rattle.log_room.specs.declared.room.Rolled.TheVariants as rolled
use Rattle.log_room.specs.Chunks.{spare_chunks}
use Rattle.log_room.specs.Copies.{switch_count, switch_events}
use Rattle.log_room.specs.Room.{kept_chunks, live_log, room_events}
use Rattle.log_room.proofs.Flushes.{directory_inside}
use Rattle.log_room.proofs.Ways.{arena_log}
use Rattle.log_room.proofs.Making.{events_of}
use Rattle.log_room.proofs.Booked.{book_live, book_words, roll_kept, roll_count, rewrite_few, rewrite_count, none_appends}
use Rattle.log_room.proofs.room.take_way.Goals as goal

pub version_of-version-requires : goal.version_of-version-requires
version_of-version-requires g c = directory_inside _ _ c.requires.inside

pub active_of-active-requires : goal.active_of-active-requires
active_of-active-requires g c = directory_inside _ _ c.requires.inside

pub roll-requires-clause-kept : goal.roll-requires-clause-kept
roll-requires-clause-kept g c =
    let words = words_of (g.P.Pmem.state c.args.p.now) in
    let named = c.as_slice.ensures.value ∙ c.active_of-active.ensures in
    subst (λ (cs : List ℕ). length (kept_chunks c.in-Rolled.dropped cs) < 8) (sym named)
    (roll_kept c.args.log.now.granules words c.in-Rolled.dropped c.requires.reads.log (sym c.requires.way ∙ c.in-Rolled.is))

pub roll-requires-clause-room : goal.roll-requires-clause-room
roll-requires-clause-room g c =
    let words = words_of (g.P.Pmem.state c.args.p.now) in
    subst (λ n. HasRoom (g.P.Pmem.state c.args.p.now) n)
    (roll_count c.args.log.now.granules words c.in-Rolled.dropped c.requires.reads.log (sym c.requires.way ∙ c.in-Rolled.is) ∙ ap (λ v. switch_count v 1) (sym c.version_of-version.ensures)) c.requires.left

pub rewrite-requires-clause-most : goal.rewrite-requires-clause-most
rewrite-requires-clause-most g c =
    let words = words_of (g.P.Pmem.state c.args.p.now) in
    let arena = arena_log c.requires.reads.log c.requires.inside c.requires.few in
    omega (arith, c.from.ensures, rewrite_few c.args.log.now.granules words c.in-Rewritten.chunks arena c.requires.disjoint (sym c.requires.way ∙ c.in-Rewritten.is))

pub rewrite-requires-clause-enough : goal.rewrite-requires-clause-enough
rewrite-requires-clause-enough g c =
    let words = words_of (g.P.Pmem.state c.args.p.now) in
    let arena = arena_log c.requires.reads.log c.requires.inside c.requires.few in
    let named = c.as_slice-in-Rewritten.ensures.value ∙ c.active_of-active.ensures in
    omega (arith, c.from.ensures, rewrite_few c.args.log.now.granules words c.in-Rewritten.chunks arena c.requires.disjoint (sym c.requires.way ∙ c.in-Rewritten.is), ap length named, c.requires.reads.log.directory.most)

pub rewrite-requires-clause-live : goal.rewrite-requires-clause-live
rewrite-requires-clause-live g c = book_live c.args.log.now (words_of (g.P.Pmem.state c.args.p.now)) c.requires.few c.requires.reads

pub rewrite-requires-clause-room : goal.rewrite-requires-clause-room
rewrite-requires-clause-room g c =
    let words = words_of (g.P.Pmem.state c.args.p.now) in
    let arena = arena_log c.requires.reads.log c.requires.inside c.requires.few in
    subst (λ n. HasRoom (g.P.Pmem.state c.args.p.now) n)
    (rewrite_count c.args.log.now.granules words c.in-Rewritten.chunks arena c.requires.disjoint (sym c.requires.way ∙ c.in-Rewritten.is)
    ∙ ap (λ v. switch_count v c.in-Rewritten.chunks) (sym c.version_of-version.ensures) ∙ ap (switch_count c.version_of-version.result) (sym c.from.ensures)) c.requires.left

pub returns-in-Nothing : goal.returns-in-Nothing
returns-in-Nothing g c =
    let words = words_of (g.P.Pmem.state c.args.p.now) in
    none_appends (g.P.Pmem.state c.args.p.now) (room_events c.args.log.now.granules words) (events_of c.args.log.now.granules words rolled.Nothing (sym c.requires.way ∙ c.in-Nothing.is))

pub returns-in-Rolled : goal.returns-in-Rolled
returns-in-Rolled g c =
    let state = g.P.Pmem.state in
    let words = words_of (state c.args.p.now) in
    let dropped = c.in-Rolled.dropped in
    let named = c.as_slice.ensures.value ∙ c.active_of-active.ensures in
    let same = λ (v : ℕ) (cs : List ℕ). switch_events v (take 1 (spare_chunks cs)) [] (kept_chunks dropped cs ++ take 1 (spare_chunks cs)) in
    subst (λ (es : List Event). Appends (state c.args.p.now) (state c.roll.new.device) es)
    (ap (λ v. same v c.as_slice.result.now) c.version_of-version.ensures ∙ ap (same (version_in words)) named
    ∙ sym (events_of c.args.log.now.granules words (rolled.Rolled dropped) (sym c.requires.way ∙ c.in-Rolled.is))) c.roll.ensures

pub returns-in-Rewritten : goal.returns-in-Rewritten
returns-in-Rewritten g c =
    let state = g.P.Pmem.state in
    let words = words_of (state c.args.p.now) in
    let chunks = c.in-Rewritten.chunks in
    let granules = c.args.log.now.granules in
    let named = c.as_slice-in-Rewritten.ensures.value ∙ c.active_of-active.ensures in
    let same = λ (v : ℕ) (m : ℕ) (live : List ℕ) (cs : List ℕ). switch_events v (take m (spare_chunks cs)) live (take m (spare_chunks cs)) in
    let live = live_words (live_at c.args.log.now) 0 granules in
    subst (λ (es : List Event). Appends (state c.args.p.now) (state c.rewrite.new.device) es)
    (ap (λ v. same v c.from.result live c.as_slice-in-Rewritten.result.now) c.version_of-version.ensures
    ∙ ap (λ m. same (version_in words) m live c.as_slice-in-Rewritten.result.now) c.from.ensures
    ∙ ap (λ l. same (version_in words) chunks l c.as_slice-in-Rewritten.result.now) (book_words c.args.log.now words c.requires.reads)
    ∙ ap (same (version_in words) chunks (live_log granules words)) named
    ∙ sym (events_of granules words (rolled.Rewritten chunks) (sym c.requires.way ∙ c.in-Rewritten.is))) c.rewrite.ensures
