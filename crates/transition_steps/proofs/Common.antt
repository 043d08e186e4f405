-- What the proofs of this crate cite of the crates below, in one place.
pub use Rattle.std.proofs.lemmas.Bool.{cases_eq, cases_lt, cond-false, ne_eqb, cases_Bool, eqb-true, ltb-true, and_parts, cond-true, false_from_ne_true}
pub use Rattle.pmem_lines.proofs.Steps.{step_wider}
pub use Rattle.pmem_lines.specs.Pmem.{PmemState, words_of}
pub use Rattle.size_classes.specs.Classes.{class_size, class_capacity}
pub use Rattle.image_tables.proofs.Updates.{put_header-same, put_header-other, put_header-own}
pub use Rattle.image_tables.specs.Forms.{normal_kind, morphing_kind, morphed_kind, IsIndexWord}
pub use Rattle.image_tables.specs.Tables.{Tables, SlabHeader, is_slab, AreSlabsInHeap, tables_of, state_word, index_word, state_field}
pub use Rattle.image_tables.specs.Updates.{put_header}
pub use Rattle.image_tables.specs.declared.entry.WalEntry.{WalEntry}
pub use Rattle.image_tables.specs.declared.entry.WalEntry.TheVariants.{Place, Move}
pub use Rattle.heap_model.specs.Machine.{Bounds, Range, slab_block}
pub use Rattle.heap_check.proofs.Heaps.{heap-none}
pub use Rattle.heap_check.proofs.LiveBlocks.{old_seen}
pub use Rattle.heap_check.proofs.Loose.{AtMostOne-fewer}
pub use Rattle.heap_check.proofs.SameSlabs.{IsMorphing-same, IsDoneSlab-same}
pub use Rattle.heap_check.specs.Heap.{entry_at, heap, Holds, HoldsBit, HoldsOld, size_at, claim_at, IsClaim, slab_of, is_old, size_by}
pub use Rattle.heap_check.specs.Image.{bounds_of, IsFormed, IsSteadyImage, HasSlabHeader}
pub use Rattle.heap_check.specs.Sound.{IsInSlab, IsNewEntry, IsOldEntry, IsOpenPlace, IsSound, IsValidSlab, IsOpen, IsHeld, IsStanding, AtMostOne, IsMorphing, IsDoneSlab, IsSteady, IsNearlyDone, LoosensNothing, IsOpenEntry, IsLeaving}
pub use Rattle.slab_morph.proofs.Stages.{keeps_wider}
pub use Rattle.slab_morph.specs.SlabHeaders.{header_at}
pub use Rattle.slab_morph.specs.Stages.{AllHoldSame, settled, IsSettleStage, KeepsHeld, IsValidHeader, IsDone, finished, IsFinishStage, IsOnItsWay, IsOffHeader}
