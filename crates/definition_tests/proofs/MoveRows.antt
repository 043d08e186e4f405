-- A worked row of moves: a block passes to another root once.
use Rattle.std.proofs.Common.{◌⊎◌, ◌<◌, ◌≤◌, ℕ, [], ◌∷◌, refl, arith, inl, inr, ⊎_elim, lit<, lit≤}
use Rattle.size_classes.specs.Classes.{sizes, class_size, class_capacity, IsClassOf}
use Rattle.heap_model.specs.declared.call.Call.TheVariants.{Malloc, Move}
use Rattle.heap_model.specs.declared.call.Reply.TheVariants.{Placed, Moved, Occupied, Empty, NoRoot}
use Rattle.heap_model.specs.Machine.{Bounds, Machine, no_heap, slab_block, IsFreeGranule}
use Rattle.heap_model.specs.Choice.{IsSite}
use Rattle.heap_model.specs.Choice.Site.{InNewSlab}
use Rattle.heap_model.specs.Slabs.{view_of}
use Rattle.heap_model.specs.Step.{with_block, with_moved}
use Rattle.heap_model.specs.Journal.{Leads, IsEntry}
use Rattle.heap_model.proofs.Sites.{IsStep-granted}
use Rattle.definition_tests.proofs.Morphs.{small}
use Rattle.definition_tests.proofs.MorphRows.{class_above}
use Rattle.definition_tests.proofs.WorkedHeaps.{only_fit, by_seat, bare_free}

module _ (roots : ℕ) (many : 2001 ≤ roots) where
  abbrev b : Bounds
  b = small roots

  abbrev held : Machine
  held = with_block no_heap 5 (InNewSlab 4 6 0)

  abbrev moved : Machine
  moved = with_moved held 5 9 (slab_block 4 6 0)

  first_slab : (size class : ℕ) → IsClassOf size class → 0 < class_capacity class → IsSite (view_of b no_heap) size (InNewSlab 4 class 0)
  first_slab size class least some = record {
    least = least;
    full = λ has. absurd (let none = has.slab in cc);
    no_fit = record { none = λ s fit. absurd (let none = fit.slab in cc) };
    fit = only_fit (IsFreeGranule b no_heap) 4 12 4 (omega arith) (omega arith) (λ k free. (free.low, free.high))
        (bare_free roots many);
    within = some;
  }

  -- a block passes to another root once; its old root names nothing then
  move_row : Leads (IsEntry b) no_heap
      (by_seat 0 (Malloc 5 100) (Placed 67584 112) ∷ by_seat 0 (Move 5 9) (Moved 67584 112) ∷ by_seat 0 (Move 9 9) (Occupied 67584) ∷ by_seat 0 (Move 5 9) Empty ∷ by_seat 0 (Move 9 roots) NoRoot ∷ [])
      moved
  unfolding class_size sizes
  move_row = (
    held,
    IsStep-granted b no_heap 5 100 (omega (arith, many)) refl (λ none. omega (arith, none)) (lit≤ tt) (InNewSlab 4 6 0) (first_slab 100 6 (class_above 100 5 (lit< tt) (lit< tt) (lit≤ tt)) (lit< tt)),
    (
      moved,
      inr (below 5 9 (omega arith) (omega arith), inl (record { range = slab_block 4 6 0; named = refl }, inr (λ other. absurd (let none = other.named in cc), (refl, refl)))),
      (
        moved,
        inr (below 9 9 (omega arith) (omega arith), inl (record { range = slab_block 4 6 0; named = refl }, inl (record { range = slab_block 4 6 0; named = refl }, (refl, refl)))),
        (
          moved,
          inr (below 5 9 (omega arith) (omega arith), inr (λ held. absurd (let none = held.named in cc), (refl, refl))),
          (
            moved,
            inl (inr (omega arith), (refl, refl)),
            refl,
          ),
        ),
      ),
    ),
  )
    where
      below : (from to : ℕ) → from < 2000 → to < 2000 → ¬ ((b.roots ≤ from) ⊎ (b.roots ≤ to))
      below from to one two = λ past. ⊎_elim (λ x. omega (arith, x, one, many)) (λ x. omega (arith, x, two, many)) past
