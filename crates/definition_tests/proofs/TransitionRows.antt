-- Worked rows of a morph, and of how the slab's transition ends.
use Rattle.std.proofs.Common.{◌≡◌, ◌≤◌, ℕ, [], ◌∷◌, Some, None, refl, sym, arith, subst, inl, inr, ⊎_elim, lit<, lit≤}
use Rattle.size_classes.specs.Classes.{sizes, class_size}
use Rattle.heap_model.specs.declared.call.Call.TheVariants.{Malloc, Free}
use Rattle.heap_model.specs.declared.call.Reply.TheVariants.{Placed, Freed}
use Rattle.heap_model.specs.Machine.{Bounds, Range, Machine, no_heap, slab_block, AreApart, IsUnused, IsFreeGranule}
use Rattle.heap_model.specs.Choice.{IsFromMorph}
use Rattle.heap_model.specs.Choice.Site.{Granules, InSlab, InMorph, InNewSlab}
use Rattle.heap_model.specs.Slabs.{IsInTransition, view_of}
use Rattle.heap_model.specs.Step.{with_block, without_block}
use Rattle.heap_model.specs.Journal.{Leads, IsEntry}
use Rattle.heap_model.proofs.Maps.{with_key-cases}
use Rattle.heap_model.proofs.Freeing.{slabs_stay}
use Rattle.heap_model.proofs.Sites.{IsStep-granted}
use Rattle.definition_tests.proofs.Morphs.{small, filled, each_filled, takes_class}
use Rattle.definition_tests.proofs.MorphRows.{class_above}
use Rattle.definition_tests.proofs.WorkedHeaps.{only_fit, by_seat, morphed, packed, bare_free, new_slab}

module _ (roots : ℕ) (many : 2001 ≤ roots) where
  abbrev b : Bounds
  b = small roots

  pub morph_site : IsFromMorph (view_of b (filled 3 0)) 1000 12 19 1
  unfolding class_size sizes
  morph_site = takes_class roots 3 0 (lit< tt) (lit< tt) (omega (arith, many)) 19 1 1000 (lit≤ tt) (lit≤ tt) (λ same. omega (arith, same)) (class_above 1000 18 (lit< tt) (lit< tt) (lit≤ tt)) (lit< tt) (lit≤ tt)

  morph_row : Leads (IsEntry b) no_heap (by_seat 0 (Malloc 0 131072) (Placed 65536 131072) ∷ by_seat 0 (Malloc 1 64) (Placed 198656 64) ∷ by_seat 0 (Malloc 2 1000) (Placed 199680 1024) ∷ []) morphed
  unfolding class_size sizes
  morph_row = (
    packed,
    IsStep-granted b no_heap 0 131072 (omega (arith, many)) refl (λ none. omega (arith, none)) (lit≤ tt) (Granules 4 8) (record { large = lit< tt; count_is = refl; fit = only_fit (IsFreeGranule b no_heap) 4 12 8 (omega arith) (omega arith) (λ k free. (free.low, free.high)) (bare_free roots many) }),
    (
      filled 3 0,
      IsStep-granted b packed 1 64 (omega (arith, many)) refl (λ none. omega (arith, none)) (lit≤ tt) (InNewSlab 12 3 0) (new_slab roots many 64 3 (class_above 64 2 (lit< tt) (lit< tt) (lit≤ tt)) (lit< tt)),
      (
        morphed,
        IsStep-granted b (filled 3 0) 2 1000 (omega (arith, many)) refl (λ none. omega (arith, none)) (lit≤ tt) (InMorph 12 19 1) morph_site,
        refl,
      ),
    ),
  )

  -- the old block covers block 0 of the new class until it is freed, and the slab is in transition
  covered : ¬ (IsUnused morphed (slab_block 12 19 0))
  unfolding class_size sizes
  covered unused = ⊎_elim (λ x. omega (arith, x)) (λ x. omega (arith, x)) (unused.each 1 (slab_block 12 3 0) refl)

  in_transition : IsInTransition morphed 12
  unfolding class_size sizes
  in_transition = record { class = 19; slab = refl; root = 1; range = slab_block 12 3 0; named = refl; lies = record { low = lit≤ tt; high = lit≤ tt }; other = λ same. omega (arith, same) }

  abbrev ended : Machine
  ended = without_block b morphed 1 (slab_block 12 3 0)

  transition_ends : Leads (IsEntry b) morphed (by_seat 0 (Free 1) (Freed 198656 64) ∷ by_seat 0 (Malloc 3 1000) (Placed 198656 1024) ∷ []) (with_block ended 3 (InSlab 12 19 0))
  unfolding class_size sizes
  transition_ends = (
    ended,
    inr (λ past. omega (arith, past, many), inl (record { range = slab_block 12 3 0; named = refl }, (refl, refl))),
    (
      with_block ended 3 (InSlab 12 19 0),
      IsStep-granted b ended 3 1000 (omega (arith, many)) refl (λ none. omega (arith, none)) (lit≤ tt) (InSlab 12 19 0) (record {
        least = class_above 1000 18 (lit< tt) (lit< tt) (lit≤ tt);
        slab = slabs_stay b morphed 1 2 (slab_block 12 3 0) 12 (omega (arith, many)) (λ same. omega (arith, same)) (record { range = slab_block 12 19 1; named = refl; low = lit≤ tt; high = lit< tt });
        block = record { within = lit< tt; unused = record { each = apart } };
      }),
      refl,
    ),
  )
    where
      apart : (root : ℕ) (range : Range) → ended.block root ≡ Some range → AreApart (slab_block 12 19 0) range
      apart root range named = ⊎_elim
          (λ gone. absurd (let none = gone.1 in cc))
          (λ left. ⊎_elim
          (λ new. let same : slab_block 12 19 1 ≡ range = (let is = new.1 in cc) in subst (AreApart (slab_block 12 19 0)) same (inl (lit≤ tt)))
          (λ old. ⊎_elim
          (λ large. subst (AreApart (slab_block 12 19 0)) (sym large.1) (inr (lit≤ tt)))
          (λ block. absurd (omega (arith, left.0, block.1, block.2)))
          ((each_filled 3 0).each root range old.1))
          (with_key-cases (filled 3 0).block 2 root (Some (slab_block 12 19 1)) (Some range) left.1))
          (with_key-cases morphed.block 1 root None (Some range) named)
