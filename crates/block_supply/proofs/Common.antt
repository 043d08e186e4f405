-- What the proofs of this crate cite of the crates below, in one place.
pub use Rattle.std.proofs.lemmas.Bool.{cases_eq, cases_lt, cases_Bool, cond-true, cond-false, eq-eqb, ne_eqb, and_from, and_left, and_right, lt-ltb, le-leb, ltb-true, leb-true, false_from_ne_true}
pub use Rattle.size_classes.proofs.Spacing.{class_size-least}
pub use Rattle.size_classes.specs.Classes.{class_size, class_capacity}
pub use Rattle.heap_model.proofs.Distinct.{IsOther, stack_here, stack_there, here_or_there}
pub use Rattle.heap_model.proofs.Lowest.{AreLowest-same}
pub use Rattle.heap_model.proofs.Maps.{with_key-other, with_key-here}
pub use Rattle.heap_model.specs.Machine.{slab_block, LiesIn, with_key, Bounds, Machine, IsUnused}
pub use Rattle.heap_model.specs.Placement.{IsAvailable, Has, IsInNoStack, Stacks, AllDiffer, AreDistinct, with_stack, addresses, IsRefill, AreRising, AreLoose, without_slab, HasTop, HasAvailable, with_class, IsMorphRefill, IsNewRefill, IsWay}
pub use Rattle.slab_index.specs.SlabSet.{SlabSet, class_in, IsBlock, is_available, HasNoBlock}
pub use Rattle.slab_index.specs.declared.block.SlabBlock.{SlabBlock}
pub use Rattle.thread_cache.specs.Stacks.{stacks_of, GaveTop, StackTable}
