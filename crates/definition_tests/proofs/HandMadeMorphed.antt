-- A check of the definitions by hand: an image with a slab that took another class is exact, and has the blocks of both.
--
-- The tables are those of `HandMadeSlab`. Root 1 names the old block and root 2 that of the new class. While the old
-- block is freed, root 1 names nothing and an open entry names the block: the image is steady then, and its heap has the
-- other two.
use Rattle.std.proofs.Common.{◌≡◌, ℕ, suc, true, true≢false, Some, None, refl, sym, ap, arith, subst, inl, inr}
use Rattle.std.proofs.lemmas.Bool.{ne_eqb}
use Rattle.size_classes.specs.Classes.{class_size, sizes}
use Rattle.image_tables.specs.declared.entry.WalEntry.{WalEntry}
use Rattle.image_tables.specs.declared.entry.WalEntry.TheVariants.{Place}
use Rattle.image_tables.specs.Tables.{Tables}
use Rattle.heap_check.specs.Heap.{slab_of, is_old_of, is_large, heap}
use Rattle.heap_check.specs.Sound.{IsOpen, IsLeaving, IsNearlyDone, IsSteady, IsExact}
use Rattle.definition_tests.proofs.HandMadeParts.{bounds, slab_is, exact_by, HasBlocks, steady_by}
use Rattle.definition_tests.proofs.HandMadeSlab.{words_of, tables, extents, AreRoots, closed_roots, has_blocks}

-- the image in which both blocks have their roots

morphed : Tables
morphed = tables 3 198656 199680 None

-- it is exact
morphed_exact : IsExact bounds morphed
unfolding morphed tables words_of
morphed_exact =
    let blocks : HasBlocks morphed 12 = has_blocks (closed_roots 3 199680 (λ some. (omega arith, refl)) (λ read. refl)) (inr refl) in
    exact_by (extents 3 198656 199680 None) blocks refl refl 1 (omega arith) (record { slab = refl; low = omega arith; high = omega arith }) (omega arith) (λ done. true≢false (done.none 0 (omega arith)))

-- and its heap has the three blocks
morphed_heap : (heap morphed 0 ≡ Some (record { at = 65536; size = 131072 })) × (heap morphed 1 ≡ Some (record { at = 198656; size = 64 })) × (heap morphed 2 ≡ Some (record { at = 199680; size = 1024 })) × ((root : ℕ) → heap morphed (suc (suc (suc root))) ≡ None)
unfolding morphed tables words_of is_large slab_of is_old_of class_size sizes
morphed_heap = (refl, refl, refl, λ root. refl)

-- the image while the old block is freed: root 1 names nothing, and the open entry names the block

abbrev old_entry : WalEntry
old_entry = Place 1 198656 true 0

leaving : Tables
leaving = tables 3 0 199680 (Some old_entry)

leaving_open : IsOpen bounds leaving old_entry
unfolding leaving tables words_of class_size sizes
leaving_open = record {
  entry = record {
    rooted = omega arith;
    word = inl refl;
    block = inr (refl, record { start = 12; slab = refl; kind = refl; below = omega arith; is = refl });
  };
  none_morphing = λ start slab morphing. omega (arith, morphing, ap (λ s. (leaving.header s).kind) (slab_is (extents 3 0 199680 (Some old_entry)) start slab));
}

-- the block of the entry counts as the root's
leaving_roots : AreRoots 3 0 199680 (Some old_entry)
unfolding leaving tables words_of is_large slab_of is_old_of class_size sizes
leaving_roots = record {
  old_word_is = λ some. absurd (some refl);
  new_word_is = λ some. (omega arith, refl);
  unnamed = λ root other. rw (ne_eqb root 1 other) refl;
  open_entry = λ e is. let same : old_entry ≡ e = cc is in subst (IsOpen bounds leaving) same leaving_open;
  old_claim = record { some = omega arith; place = refl; wide = refl };
  new_claim = λ read. record { some = omega arith; place = refl; wide = refl };
}

-- it is steady
leaving_steady : IsSteady bounds leaving
unfolding leaving
leaving_steady = steady_by (extents 3 0 199680 (Some old_entry)) (has_blocks leaving_roots (inr refl))

-- its slab is nearly done
leaving_nearly_done : IsNearlyDone leaving 12
unfolding leaving tables words_of class_size sizes
leaving_nearly_done = record {
  slab = refl;
  kind = omega arith;
  none = λ place below live. let first : place ≡ 0 = omega (arith, below) in subst (IsLeaving leaving 12) (sym first) (record { root = 1; entry = refl; none = refl });
}

-- and its heap has the two blocks of roots
leaving_heap : (heap leaving 0 ≡ Some (record { at = 65536; size = 131072 })) × (heap leaving 1 ≡ None) × (heap leaving 2 ≡ Some (record { at = 199680; size = 1024 })) × ((root : ℕ) → heap leaving (suc (suc (suc root))) ≡ None)
unfolding leaving tables words_of is_large slab_of is_old_of class_size sizes
leaving_heap = (refl, refl, refl, λ root. refl)
