use Rattle.std.proofs.Common.{◌≡◌, ◌<◌, ◌∙◌, ◌++◌, List, ℕ, sym, subst, take, arith, length}
use Rattle.log_room.proofs.Common.{All, words_of, Appends, then_step, live_at, live_words}
use Rattle.log_room.specs.Chunks.{spare_chunks}
use Rattle.log_room.specs.Copies.{copy_events, directory_events}
use Rattle.log_room.proofs.Choices.{spare_taken}
use Rattle.log_room.proofs.Flushes.{flushed_copy, directory_inside}
use Rattle.log_room.proofs.switching.rewrite.Goals as goal

pub copy_live-requires-clause-chunks : goal.copy_live-requires-clause-chunks
copy_live-requires-clause-chunks g c = subst (All (λ chunk. chunk < 16)) (sym (c.as_slice.ensures.value ∙ c.spare_chunks-fresh.ensures)) (spare_taken c.args.active.now c.args.count).small

pub switch_directory-requires-clause-small : goal.switch_directory-requires-clause-small
switch_directory-requires-clause-small g c = subst (All (λ chunk. chunk < 16)) (sym (c.as_slice-2.ensures.value ∙ c.spare_chunks-fresh.ensures)) (spare_taken c.args.active.now c.args.count).small

pub switch_directory-requires-clause-inside : goal.switch_directory-requires-clause-inside
switch_directory-requires-clause-inside g c =
    directory_inside c.args.version (length (words_of (g.P.Pmem.state c.copy_live.new.device))) (omega (arith, c.requires.inside, c.copy_live.ensures.appends.size))

pub switch_directory-requires-clause-flushed : goal.switch_directory-requires-clause-flushed
switch_directory-requires-clause-flushed g c =
    flushed_copy c.args.version c.as_slice.result.now (live_words (live_at c.args.log.now) 0 c.args.log.now.granules) c.copy_live.ensures.appends c.requires.quiet

pub returns : goal.returns
returns g c =
    let s = g.P.Pmem.state c.args.device.now in
    let u = g.P.Pmem.state c.switch_directory.new.device in
    let version = c.args.version in
    let live = live_words (live_at c.args.log.now) 0 c.args.log.now.granules in
    let fresh = take c.args.count (spare_chunks c.args.active.now) in
    let first : c.as_slice.result.now ≡ fresh = c.as_slice.ensures.value ∙ c.spare_chunks-fresh.ensures in
    let second : c.as_slice-2.result.now ≡ fresh = c.as_slice-2.ensures.value ∙ c.spare_chunks-fresh.ensures in
    subst (λ (cs : List ℕ). Appends s u (copy_events version cs live ++ directory_events fresh)) first
    (subst (λ (cs : List ℕ). Appends s u (copy_events version c.as_slice.result.now live ++ directory_events cs)) second (then_step c.copy_live.ensures.appends c.switch_directory.ensures))
