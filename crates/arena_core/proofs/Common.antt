-- The names that most proofs of an arena cite, of its definitions and of the crates below, passed on from one place. Declares nothing.
pub use Rattle.std.proofs.lemmas.Bool.{cases_Bool, cases_eq, cond-true, cond-false, eqb-true, and_from, and_parts, false_from_ne_true, cases_lt, lt-ltb, le-ltb, ne_eqb}
pub use Rattle.pmem_lines.specs.Events.{reading, IsQuiet}
pub use Rattle.pmem_lines.specs.Pmem.{PmemState, words_of, began}
pub use Rattle.pmem_lines.specs.Steps.{IsQuietStep}
pub use Rattle.pmem_lines.specs.Words.{word_at, put_word}
pub use Rattle.pmem_lines.specs.declared.event.Event.{Event}
pub use Rattle.pmem_lines.proofs.Steps.{step_by, step_none, step_wider, step_then}
pub use Rattle.pmem_lines.proofs.Words.{length-put_word, word_at-put_other}
pub use Rattle.size_classes.specs.Classes.{class_capacity, class_size, IsClassOf}
pub use Rattle.size_classes.proofs.Spacing.{class_size-most, class_size-rises, class_size-least}
pub use Rattle.pool_layout.specs.Header.{version_in, granules_in}
pub use Rattle.pool_layout.specs.Layout.{layout_of}
pub use Rattle.pool_layout.specs.Places.{entry_slot, text_word, root_word, fields_word, directory_word, granule_word}
pub use Rattle.pool_layout.specs.declared.layout.Layout.{Layout}
pub use Rattle.pool_layout.proofs.Layouts.{layout_rules}
pub use Rattle.image_tables.specs.Forms.{morphed_kind, normal_kind}
pub use Rattle.image_tables.specs.Tables.{SlabHeader, Tables, tables_of, is_slab, index_word, large_of, is_slab_of}
pub use Rattle.image_tables.specs.Updates.{put_header, HasNoMove, put_at}
pub use Rattle.image_tables.proofs.Logs.{SameLog, same_log}
pub use Rattle.image_tables.proofs.Stores.{HasNoMove-closed, root_word-low, roots_plain}
pub use Rattle.image_tables.proofs.Tables.{root_table-past, slab_table, large_table}
pub use Rattle.image_tables.proofs.Updates.{put_at-same, put_at-own, put_at-other}
pub use Rattle.image_tables.proofs.Places.{entry_slot-low, log_start-low}
pub use Rattle.image_tables.specs.Extents.{extent_at}
pub use Rattle.book_log.specs.Book.{Book}
pub use Rattle.book_log.specs.Entry.{extent_of, start_of}
pub use Rattle.book_log.specs.declared.entry.LogEntry.TheVariants.{Large, Tomb}
pub use Rattle.book_log.specs.declared.entry.LogEntry.{LogEntry}
pub use Rattle.heap_model.specs.Below.{any_below}
pub use Rattle.heap_model.specs.Choice.{IsBestSlab, HasNoFitSlab, Site, IsSite, range_of, slabs_with, block_view, slab_view}
pub use Rattle.heap_model.specs.Machine.{Bounds, with_key, Range, AreApart, slab_block, Machine, IsUnused, IsFreeGranule}
pub use Rattle.heap_model.specs.Runs.{IsBestFit, HasNoFit, IsFreeRow}
pub use Rattle.heap_model.specs.Slabs.{live_below, begins_in, view_of}
pub use Rattle.heap_model.specs.Step.{HasBlock, slabs_without, forgotten}
pub use Rattle.heap_model.specs.declared.call.Call.{Call}
pub use Rattle.heap_model.specs.declared.call.Reply.{Reply}
pub use Rattle.heap_model.proofs.Maps.{with_key-here, with_key-is, with_key-twice}
pub use Rattle.heap_model.proofs.Sites.{class_known, class_small}
pub use Rattle.heap_model.specs.Choice.Site.{Granules, InMorph, InNewSlab, InSlab}
pub use Rattle.heap_model.specs.Placement.{IsReturned, Stacks, without_left}
pub use Rattle.extent_index.specs.FreeSet.{FreeSet, IsFree}
pub use Rattle.slab_index.specs.SlabSet.{class_in}
pub use Rattle.slab_index.specs.declared.block.SlabBlock.{SlabBlock}
pub use Rattle.slab_index.specs.Lives.{Lives, normal_at}
pub use Rattle.thread_cache.specs.Stacks.{stacks_of}
pub use Rattle.block_supply.specs.Supply.{Supply, MayBeGiven, supply_view, TookBlock, HasNoOpen, IsInNoSlabOf, IsWith, IsClearOf, HasSlabMore, HasSlabLess, IsPutOn, HadNoOpen}
pub use Rattle.block_supply.proofs.Takes.{none_open}
pub use Rattle.block_supply.proofs.Views.{AgreeOnBlocks}
pub use Rattle.heap_check.specs.Heap.{slabs, IsUnusedIn, heap, entry_at, Holds, HoldsBit, HoldsOld, is_old}
pub use Rattle.heap_check.specs.Image.{bounds_of, IsExactImage, IsSteadyImage, IsFormed, IsExactButImage}
pub use Rattle.heap_check.specs.Slabs.{IsSameSlab}
pub use Rattle.heap_check.specs.Sound.{IsDoneSlab, IsInSlab, IsSound, granules_at, IsEmptySlab, IsExactBut, IsVacant, Covers}
pub use Rattle.heap_check.specs.State.{HasState, KeepsBlocks, HasValue, IsEitherHeap, HaveSameHeap}
pub use Rattle.heap_check.proofs.Blank.{IsSteady-but, law_of_steady}
pub use Rattle.heap_check.proofs.Claims.{plain_size, IsNamed-claim, IsClaim-word}
pub use Rattle.heap_check.proofs.Forms.{AreSlabsInHeap-sound, bounds_of-same}
pub use Rattle.heap_check.proofs.Geometry.{granules_at-slab, granules_at-live, is_large-start, Covers-slab, granules_at-large, slab_is}
pub use Rattle.heap_check.proofs.Heaps.{heap-claim, IsClaim-heap, heap-none}
pub use Rattle.heap_check.proofs.Large.{with_large, IsLargePlace}
pub use Rattle.heap_check.proofs.SameSlabs.{KeepsSlabs, IsUnusedIn-same}
pub use Rattle.heap_check.proofs.Sizes.{sizes_of, heap_inside, root_inside}
pub use Rattle.heap_check.proofs.SmallPlaces.{none_morphing_but, Holds-claim}
pub use Rattle.heap_check.proofs.Within.{IsInSlab-held, IsWithin-claim}
pub use Rattle.log_steps.specs.Log.{IsBookOf, IsLogged, IsLoggedOrNot}
pub use Rattle.log_steps.specs.Events.{log_events}
pub use Rattle.extent_steps.specs.Large.{IsExtentGone, IsLooseExtent}
pub use Rattle.extent_steps.proofs.Images.{keeps_blocks}
pub use Rattle.extent_steps.specs.Slabs.{open_events}
pub use Rattle.attach_steps.specs.Steps.{IsBlockIn, IsDetachable, IsDetached, KeepsAllButBlock, IsOldDetachable, IsOldDetached, detach_events, detach_old_events, attach_events, root_events, PutsRootOrNot, GivesOne}
pub use Rattle.attach_steps.specs.declared.block.OldBlock.{OldBlock}
pub use Rattle.attach_steps.specs.declared.block.SmallBlock.{SmallBlock}
pub use Rattle.arena_core.specs.Adopting.{IsWithSlabOf, HasCounted, IsReadBelow}
pub use Rattle.arena_core.specs.Answer.{malloc_reply, free_reply, move_reply, block_refusal}
pub use Rattle.arena_core.specs.Arena.{IsSlabsOf, IsIndexOf, HasNoUnused, AreLivesOf, IsCurrent, old_range, IsArena, ArenaState}
pub use Rattle.arena_core.specs.Call.{IsStepOfAny, IsReady, IsStepOf}
pub use Rattle.arena_core.specs.Carried.{IsTidied, IsDone, IsTaken, HaveOneMore, IsCalled, IsHeldFor, HasClassNow, IsSlabFor, MayOpen, MayTakeClass}
pub use Rattle.arena_core.specs.Effect.{slabs_but, stacks_but, IsLastOf, GivesRoot}
pub use Rattle.arena_core.specs.Events.{holds_none, tidy_events, call_events, line_after, write_events, take_events, freed_events, start_at, place_events, placed_events}
pub use Rattle.arena_core.specs.Moving.{AreRoots, IsMovePlan, IsToMove, IsMoveCarried}
pub use Rattle.arena_core.specs.Payload.{payload_events, IsWriteStep, AreWordsOf, HasWritten, HasBlockAt, IsWritable, IsWritePlan, IsWriteCarried, range_of_block}
pub use Rattle.arena_core.specs.Plan.{IsAskedOf, IsMorphable, IsPlacing, IsTakable, IsNamedSmall, IsHeldBy, range_held, IsFreePlan, IsNamedOld, IsGivable}
pub use Rattle.arena_core.specs.declared.answer.BlockRefusal.{BlockRefusal}
pub use Rattle.arena_core.specs.declared.volatile.Volatile.{Volatile}
pub use Rattle.arena_core.specs.declared.answer.BlockRefusal.TheVariants.{OutOfRange}
pub use Rattle.arena_core.specs.declared.answer.FreeRefusal.{FreeRefusal}
pub use Rattle.arena_core.specs.declared.answer.MallocRefusal.{MallocRefusal}
pub use Rattle.arena_core.specs.declared.answer.MallocRefusal.TheVariants.{NoSpace}
pub use Rattle.arena_core.specs.declared.plan.Held.{Held}
pub use Rattle.arena_core.specs.declared.plan.Place.TheVariants.{Fresh, Morph, Small}
pub use Rattle.heap_check.specs.Views.{AreCountsOf, normal_of, live_in, IsVacantRow, tables_view}
pub use Rattle.heap_check.proofs.BlockWords.{block_word-header}
pub use Rattle.heap_check.proofs.NormalSlabs.{normal_of-none, normal_of-same}
pub use Rattle.heap_check.proofs.ExactStates.{law_of_exact_state}
pub use Rattle.heap_check.proofs.HeapSteps.{same_heap, steps_then}
pub use Rattle.heap_check.proofs.LargeImages.{IsStageOf, keeps_stage}
pub use Rattle.heap_check.proofs.LiveCounts.{IsOneMore, begins_only, counts_kept, live_none, live_same, put_one}
pub use Rattle.heap_check.proofs.OffBlocks.{IsSameOffBlock, bounds_kept, exact_kept, slabs_kept}
pub use Rattle.heap_check.proofs.OneBlock.{stage_of}
pub use Rattle.heap_check.proofs.SlabHeaps.{slabs-other}
pub use Rattle.heap_check.proofs.Slabs.{IsSlabPlace}
pub use Rattle.heap_check.proofs.Small.{is_old-held}
pub use Rattle.heap_check.proofs.States.{named_at, slab_parts}
pub use Rattle.heap_check.proofs.UnusedBlocks.{iff_then, unused_apart}
pub use Rattle.slab_header.specs.Morph.{morph_events}
pub use Rattle.slab_index.specs.Unfit.{is_unfit}
