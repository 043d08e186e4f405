-- Stacks behind a free whose slab stays: none loses an address, and a block of the slab's class goes on the stack of the
-- seat that freed it.
use Rattle.std.proofs.Common.{◌≡◌, ◌≢◌, ◌&&◌, not, ◌≤◌, ℕ, zero, suc, false, List, [], ◌∷◌, Option, Some, None, refl, sym, ap, ◌∙◌, arith, subst, inl, inr, ⊎_elim, lit<, lit≤}
use Rattle.std.proofs.lemmas.Bool.{cases_eq}
use Rattle.std.specs.List.{filter}
use Rattle.size_classes.specs.Classes.{sizes, class_size}
use Rattle.heap_model.specs.declared.call.Call.TheVariants.{Free}
use Rattle.heap_model.specs.declared.call.Reply.TheVariants.{Freed}
use Rattle.heap_model.specs.Below.{any_below}
use Rattle.heap_model.specs.Machine.{Bounds, Machine, slab_block}
use Rattle.heap_model.specs.Slabs.{is_within}
use Rattle.heap_model.specs.Step.{without_block}
use Rattle.heap_model.specs.Placement.{Stacks, with_stack, has_left, without_left, IsReturned, IsPlacedStep}
use Rattle.heap_model.proofs.Maps.{with_key-cases}
use Rattle.heap_model.proofs.Freeing.{slabs_stay, slabs_stay-away}
use Rattle.definition_tests.proofs.Morphs.{small, filled, one_slab}
use Rattle.definition_tests.proofs.WorkedHeaps.{morphed}
use Rattle.definition_tests.proofs.StackRows.{reserved}

-- no slab has left where each is as it was
none_left : (slab now : ℕ → Option ℕ) (at n : ℕ) → ((s : ℕ) → now s ≡ slab s) → any_below (λ s. has_left (slab s) (now s) && is_within s at) n ≡ false
none_left slab now at zero same = refl
none_left slab now at (suc n) same =
    let stays : has_left (slab n) (now n) ≡ false = ap (has_left (slab n)) (same n) ∙ itself (slab n) in
    rw (stays, none_left slab now at n same) refl
  where
    itself : (o : Option ℕ) → has_left o o ≡ false
    itself None = refl
    itself (Some class) = refl

-- so the stacks stay
pub without_left-same : (b : Bounds) (m next : Machine) (stacks : Stacks) → ((s : ℕ) → next.slab s ≡ m.slab s) → without_left b m next stacks ≡ stacks
without_left-same b m next stacks same = λ i seat class. all (stacks seat class) i
  where
    all : (xs : List ℕ) → filter (λ at. not (any_below (λ s. has_left (m.slab s) (next.slab s) && is_within s at) b.granules)) xs ≡ xs
    all [] = refl
    all (x ∷ xs) = rw (none_left m.slab next.slab x b.granules same) (ap (λ rest. x ∷ rest) (all xs))

module _ (roots : ℕ) (many : 2001 ≤ roots) where
  abbrev b : Bounds
  b = small roots

  abbrev left : Machine
  left = without_block b morphed 2 (slab_block 12 19 1)

  slabs_same : (s : ℕ) → left.slab s ≡ morphed.slab s
  unfolding class_size sizes
  slabs_same s = ⊎_elim
      (λ (here : s ≡ 12). subst (λ (k : ℕ). left.slab k ≡ morphed.slab k) (sym here) (slabs_stay b morphed 2 1 (slab_block 12 19 1) 12 (omega (arith, many)) (λ same. omega (arith, same)) (record { range = slab_block 12 3 0; named = refl; low = lit≤ tt; high = lit< tt })))
      (λ (there : s ≢ 12). slabs_stay-away b morphed 2 (slab_block 12 19 1) s (λ c slab begins. ⊎_elim (λ new. there new.0) (λ old. there (one_slab 3 0 s c old.1).0) (with_key-cases (filled 3 0).slab 12 s (Some 19) (Some c) slab)))
      (cases_eq s 12)

  -- seat 1 frees a block of the slab's class, in which the old block lives on: it is reserved for seat 1
  free_reserves : IsPlacedStep b 1 (record { machine = morphed; stacks = reserved }) (Free 2) (Freed 199680 1024) (record { machine = left; stacks = with_stack reserved 1 19 (199680 ∷ []) })
  unfolding class_size sizes
  free_reserves = record {
    step = inr (λ past. omega (arith, past, many), inl (record { range = slab_block 12 19 1; named = refl }, (refl, refl)));
    stacked = inl (
      record { range = slab_block 12 19 1; is = refl },
      subst (λ (q : Stacks). IsReturned left q 1 (slab_block 12 19 1) (with_stack reserved 1 19 (199680 ∷ []))) (sym (without_left-same b morphed left reserved slabs_same))
          (inl (record { start = 12; class = 19; slab = slabs_same 12; block = record { number = 1; within = lit< tt; is = refl }; room = lit< tt }, refl)),
    );
  }
