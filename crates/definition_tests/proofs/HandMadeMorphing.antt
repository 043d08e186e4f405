-- A check of the definitions by hand: an image with a slab that takes another class is steady, and has its old blocks.
--
-- The tables are those of `HandMadeSlab`. The slab's bitmap is not read, so root 2 has no block, and the block that the
-- bitmap has is none of the heap. The old block is live, so the slab is not nearly done.
use Rattle.std.proofs.Common.{◌≡◌, ℕ, zero, suc, Some, None, refl, ap, arith, inl}
use Rattle.size_classes.specs.Classes.{class_size, sizes}
use Rattle.image_tables.specs.Tables.{Tables}
use Rattle.heap_check.specs.Heap.{slab_of, is_old_of, is_large, heap}
use Rattle.heap_check.specs.Sound.{IsMorphing, IsNearlyDone, IsSteady}
use Rattle.definition_tests.proofs.HandMadeParts.{bounds, slab_is, steady_by}
use Rattle.definition_tests.proofs.HandMadeSlab.{words_of, tables, extents, closed_roots, has_blocks}

morphing : Tables
morphing = tables 2 198656 0 None

closed : morphing.open_entry ≡ None
unfolding morphing tables
closed = refl

-- it is steady
morphing_steady : IsSteady bounds morphing
unfolding morphing
morphing_steady = steady_by (extents 2 198656 0 None) (has_blocks (closed_roots 2 0 (λ some. absurd (some refl)) (λ read. absurd (read refl))) (inl refl))

-- its slab is in transition, and not nearly done
is_morphing : IsMorphing morphing 12
unfolding morphing tables
is_morphing = record { slab = refl; kind = refl }

not_done : (start : ℕ) → ¬ (IsNearlyDone morphing start)
unfolding morphing tables
not_done start done =
    let here = slab_is (extents 2 198656 0 None) start done.slab in
    let leaving = done.none 0 (omega (arith, ap (λ s. (morphing.header s).index_count) here)) (ap (λ s. (morphing.header s).live 0) here) in
    cc (closed, leaving.entry)

-- and its heap has the two blocks
morphing_heap : (heap morphing 0 ≡ Some (record { at = 65536; size = 131072 })) × (heap morphing 1 ≡ Some (record { at = 198656; size = 64 })) × ((root : ℕ) → heap morphing (suc (suc root)) ≡ None)
unfolding morphing tables words_of is_large slab_of is_old_of class_size sizes
morphing_heap = (refl, refl, none)
  where
    none : (root : ℕ) → heap morphing (suc (suc root)) ≡ None
    none zero = refl
    none (suc root) = refl
