use Rattle.arena_core.proofs.Arenas.{book_root}
use Rattle.arena_core.proofs.LargeCalls.{taken_loose, taken_held}
use Rattle.arena_core.proofs.LargeBlocks.{large_taken}
use Rattle.arena_core.proofs.volatile.Volatile.take_large.Goals as goal

pub drop_extent-requires-clause-loose : goal.drop_extent-requires-clause-loose
drop_extent-requires-clause-loose g c = rw c.put_root.ensures.words (taken_loose _ c.args.root c.args.start c.args.granules c.requires.arena.current.exact c.requires.takable)

pub drop_extent-requires-clause-book : goal.drop_extent-requires-clause-book
drop_extent-requires-clause-book g c = rw c.put_root.ensures.words (book_root c.args.self.now.log _ c.args.root 0 c.requires.takable.below c.requires.arena.current.log)

pub returns-clause-done : goal.returns-clause-done
returns-clause-done g c =
    large_taken c.requires.arena c.requires.takable c.give.new.self c.drop_extent.new.log c.put_root.ensures.words c.put_root.ensures.step c.drop_extent.ensures.gone c.drop_extent.ensures.step c.drop_extent.ensures.book c.give.ensures.granules c.give.ensures.free

pub give-requires : goal.give-requires
give-requires g c = taken_held _ c.args.root c.args.start c.args.granules c.requires.arena.current.exact c.requires.takable c.args.self.now.free c.requires.arena.current.index
