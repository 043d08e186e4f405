-- The names that most proofs of this crate cite, of its definitions and of the crates below, passed on from one place. Declares
-- nothing.
pub use Rattle.std.proofs.lemmas.Bool.{cases_Bool, cases_eq, cases_lt, cond-true, cond-false, eq-eqb, ne_eqb, eqb-true, and_from, and_left, and_parts, le-leb, lt-ltb, leb-true, ltb-true, false_from_ne_true}
pub use Rattle.size_classes.specs.Classes.{class_capacity, class_size, IsClassOf, granules_of}
pub use Rattle.size_classes.proofs.Spacing.{class_size-most, class_size-rises, class_size-least, class_size-aligned}
pub use Rattle.heap_model.specs.Machine.{Bounds, with_key, Range, AreApart, slab_block, Machine, Meets, IsLarge, LiesIn, IsBlockOf, IsUnused, IsFreeGranule, IsWholeGranules, IsOverlapFree, no_heap}
pub use Rattle.heap_model.specs.Choice.{IsBestSlab, HasNoFitSlab, Site, IsSite, HasNoSite, range_of, slabs_with, block_view, slab_view}
pub use Rattle.heap_model.specs.Runs.{IsBestFit, HasNoFit, IsFreeRow}
pub use Rattle.heap_model.specs.Slabs.{is_within, begins_in, live_below, IsInTransition, view_of}
pub use Rattle.heap_model.specs.Step.{with_block, without_block, slabs_without, forgotten}
pub use Rattle.heap_model.specs.Placement.{Stacks, with_class, without_slab, without_left, IsReturned, IsWay, IsKeepable}
pub use Rattle.heap_model.proofs.Maps.{with_key-here, with_key-other, with_key-cases, with_key-is, with_key-twice}
pub use Rattle.heap_model.proofs.Counts.{one_if, live_given, live_below-most}
pub use Rattle.heap_model.proofs.Sites.{class_known, class_small}
pub use Rattle.heap_model.proofs.Slabbing.{LiesIn-block, blocks_apart, IsOverlapFree-morph, IsOverlapFree-slab}
pub use Rattle.heap_model.proofs.Freeing.{left_named, live_below-some, live_below-none, begins_in-here, begins_in-true, BeginsIn, begins_at, slabs_stay, slabs_stay-away, slabs_leave}
pub use Rattle.heap_model.proofs.Placing.{apart_back, IsUnused-free}
pub use Rattle.heap_model.proofs.Fits.{IsBestFit-same, HasNoFit-same, fit_free}
pub use Rattle.extent_index.specs.FreeSet.{FreeSet, IsFree, IsHeldRow}
pub use Rattle.slab_index.specs.SlabSet.{class_in, IsSlab, IsBlock}
pub use Rattle.slab_index.specs.declared.block.SlabBlock.{SlabBlock}
pub use Rattle.slab_index.specs.Lives.{Lives, normal_at}
pub use Rattle.thread_cache.specs.Stacks.{stacks_of}
pub use Rattle.block_supply.specs.Supply.{Supply, MayBeGiven, supply_view, TookBlock, HasNoOpen, HadNoOpen, IsInSlabOf, IsInNoSlabOf, IsWith, IsWithout, IsClearOf, HasSlabMore, HasSlabLess, IsPutOn, CameBack}
pub use Rattle.block_supply.proofs.Views.{AgreeOnBlocks}
pub use Rattle.unit_map.specs.Units.{Units, is_used, IsMarked, IsClear}
pub use Rattle.unit_map.specs.Blocks.{first_unit, unit_count, IsOnUnits, IsClearRange, IsRangeMarked, IsRangeCleared, IsSmallLive, AreUnitsOf}
pub use Rattle.unit_map.proofs.StateUnits.{law_of_placed_units, law_of_freed_units, law_of_kept_units, law_of_unused_blocks}
pub use Rattle.heap_indexes.specs.Indexes.{Indexes, is_stranger, strangers_below, AreSizedFor, IsInSomeSlab, AreInSlabs, IsFreeSetOf, IsSupplyOf, AreLivesOf, AreStrangersOf, AreIndexesOf, HaveState}
pub use Rattle.heap_indexes.specs.Kept.{loosened, closed, IsBlockAt, HasChanged, HasOpened, HasNoneOpen, IsBehindHeader}
pub use Rattle.slab_index.specs.Unfit.{is_unfit}
