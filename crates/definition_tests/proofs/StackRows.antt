-- Worked rows of the stacks behind a refill: of a slab that took the class, and of a new one; and of another seat's stack.
use Rattle.std.proofs.Common.{◌≡◌, ◌<◌, ◌≤◌, ℕ, zero, suc, [], ◌∷◌, Some, refl, arith, subst, inl, inr, ⊎_elim, lit<, lit≤}
use Rattle.size_classes.specs.Classes.{sizes, class_size, IsClassOf}
use Rattle.heap_model.specs.declared.call.Call.TheVariants.{Malloc}
use Rattle.heap_model.specs.declared.call.Reply.TheVariants.{Placed}
use Rattle.heap_model.specs.Machine.{Bounds, Range, no_heap, slab_block, AreApart, IsUnused}
use Rattle.heap_model.specs.Choice.{IsFromNewSlab, range_of, block_view}
use Rattle.heap_model.specs.Choice.Site.{Granules, InSlab, InMorph, InNewSlab}
use Rattle.heap_model.specs.Slabs.{view_of}
use Rattle.heap_model.specs.Step.{with_block}
use Rattle.heap_model.proofs.Maps.{with_key-cases}
use Rattle.heap_model.proofs.Sites.{IsStep-granted}
use Rattle.definition_tests.proofs.Morphs.{small, filled, one_slab, unused_behind}
use Rattle.heap_model.specs.Placement.{Stacks, no_stacks, bare, with_stack, with_class, IsAvailable, IsNext, IsPlacedStep}
use Rattle.definition_tests.proofs.MorphRows.{class_above}
use Rattle.definition_tests.proofs.WorkedHeaps.{no_top, no_stacked, morphed, packed, new_slab}
use Rattle.definition_tests.proofs.TransitionRows.{morph_site}

-- behind that seven more blocks are on the stack of the seat
abbrev pub reserved : Stacks
reserved = with_stack no_stacks 0 19 (200704 ∷ 201728 ∷ 202752 ∷ 203776 ∷ 204800 ∷ 205824 ∷ 206848 ∷ [])

module _ (roots : ℕ) (many : 2001 ≤ roots) where
  abbrev b : Bounds
  b = small roots

  morph_fills : IsPlacedStep b 0 (bare (filled 3 0)) (Malloc 2 1000) (Placed 199680 1024) (record { machine = morphed; stacks = reserved })
  unfolding class_size sizes
  morph_fills = record {
    step = IsStep-granted b (filled 3 0) 2 1000 (omega (arith, many)) refl (λ none. omega (arith, none)) (lit≤ tt) (InMorph 12 19 1) (morph_site roots many);
    stacked = inl (
      record { class = 19; least = class_above 1000 18 (lit< tt) (lit< tt) (lit≤ tt); at = 199680; given = 1024; is = refl },
      inr (
        no_top 0 19,
        inr (
          λ has. omega (arith, (one_slab 3 0 has.start 19 has.slab).1),
          inr (
            no_stacked 19,
            inl (record {
              start = 12;
              best = (morph_site roots many).best;
              refill = record {
                start = 12;
                slab = refl;
                lowest = λ other number less slab has. ⊎_elim (λ here. omega (arith, here.0, less)) (λ there. omega (arith, (one_slab 3 0 other 19 there.1).1)) (with_key-cases (filled 3 0).slab 12 other (Some 19) (Some 19) slab);
                number = 1;
                rest = 2 ∷ 3 ∷ 4 ∷ 5 ∷ 6 ∷ 7 ∷ 8 ∷ [];
                taken = (
                  lit< tt,
                  record { from = lit≤ tt; passes = free 1 (lit≤ tt) (lit< tt); first = λ lower low less has. let none : lower ≡ 0 = omega (arith, less) in absurd (hidden (subst (λ (n : ℕ). IsUnused (with_class (filled 3 0) 12 19) (slab_block 12 19 n)) none has.block.unused)) },
                  (
                    lit< tt,
                    next 2 (lit≤ tt) (lit< tt),
                    (
                      lit< tt,
                      next 3 (lit≤ tt) (lit< tt),
                      (
                        lit< tt,
                        next 4 (lit≤ tt) (lit< tt),
                        (
                          lit< tt,
                          next 5 (lit≤ tt) (lit< tt),
                          (lit< tt, next 6 (lit≤ tt) (lit< tt), (lit< tt, next 7 (lit≤ tt) (lit< tt), (lit< tt, next 8 (lit≤ tt) (lit< tt), inl refl))),
                        ),
                      ),
                    ),
                  ),
                );
                is = refl;
                after_is = refl;
              };
            }),
          ),
        ),
      ),
    );
  }
    where
      free : (n : ℕ) → 1 ≤ n → n < 62 → IsAvailable (block_view (view_of b (with_class (filled 3 0) 12 19))) no_stacks 12 19 n
      free n low high = record { block = record { within = high; unused = record { each = (unused_behind 3 0 19 n (omega (arith, low))).each } }; loose = record { none = λ seat class has. has } }

      next : (n : ℕ) → 1 ≤ n → n < 62 → IsNext (IsAvailable (block_view (view_of b (with_class (filled 3 0) 12 19))) no_stacks 12 19) n n
      next n low high = record { from = omega arith; passes = free n low high; first = λ lower from less. absurd (omega (arith, from, less)) }

      hidden : ¬ (IsUnused (with_class (filled 3 0) 12 19) (slab_block 12 19 0))
      hidden unused = ⊎_elim (λ x. omega (arith, x)) (λ x. omega (arith, x)) (unused.each 1 (slab_block 12 3 0) refl)

  -- the next request of the seat is given the top of its stack
  stack_gives : IsPlacedStep b 0 (record { machine = morphed; stacks = reserved }) (Malloc 3 1000) (Placed 200704 1024)
      (record { machine = with_block morphed 3 (InSlab 12 19 2); stacks = with_stack reserved 0 19 (201728 ∷ 202752 ∷ 203776 ∷ 204800 ∷ 205824 ∷ 206848 ∷ []) })
  unfolding class_size sizes
  stack_gives = record {
    step = IsStep-granted b morphed 3 1000 (omega (arith, many)) refl (λ none. omega (arith, none)) (lit≤ tt) (InSlab 12 19 2) (record {
      least = class_above 1000 18 (lit< tt) (lit< tt) (lit≤ tt);
      slab = refl;
      block = record { within = lit< tt; unused = record { each = apart } };
    });
    stacked = inl (
      record { class = 19; least = class_above 1000 18 (lit< tt) (lit< tt) (lit≤ tt); at = 200704; given = 1024; is = refl },
      inl (record { top = 200704; rest = 201728 ∷ 202752 ∷ 203776 ∷ 204800 ∷ 205824 ∷ 206848 ∷ []; is = refl }, (refl, refl)),
    );
  }
    where
      apart : (root : ℕ) (range : Range) → morphed.block root ≡ Some range → AreApart (slab_block 12 19 2) range
      apart root range named = ⊎_elim
          (λ new. let same : slab_block 12 19 1 ≡ range = (let is = new.1 in cc) in subst (AreApart (slab_block 12 19 2)) same (inr (lit≤ tt)))
          (λ old. (unused_behind 3 0 19 2 (lit≤ tt)).each root range old.1)
          (with_key-cases (filled 3 0).block 2 root (Some (slab_block 12 19 1)) (Some range) named)

  -- a slab of three blocks is made: two go on the stack of the seat
  abbrev kept : Stacks
  kept = with_stack no_stacks 0 35 (215040 ∷ 231424 ∷ [])

  largest : IsClassOf 16384 35
  unfolding class_size sizes
  largest = class_above 16384 34 (lit< tt) (lit< tt) (lit≤ tt)

  new_site : IsFromNewSlab (view_of b packed) 16384 12 35 0
  unfolding class_size sizes
  new_site = new_slab roots many 16384 35 largest (lit< tt)

  new_slab_fills : IsPlacedStep b 0 (bare packed) (Malloc 1 16384) (Placed 198656 16384) (record { machine = filled 35 0; stacks = kept })
  unfolding class_size sizes
  new_slab_fills = record {
    step = IsStep-granted b packed 1 16384 (omega (arith, many)) refl (λ none. omega (arith, none)) (lit≤ tt) (InNewSlab 12 35 0) new_site;
    stacked = inl (
      record { class = 35; least = largest; at = 198656; given = 16384; is = refl },
      inr (
        no_top 0 35,
        inr (
          λ has. absurd (let none = has.slab in cc),
          inr (
            no_stacked 35,
            inr (record {
              no_fit = new_site.no_fit;
              start = 12;
              fit = new_site.fit;
              refill = record {
                start = 12;
                slab = refl;
                lowest = λ other number less slab has. ⊎_elim (λ here. omega (arith, here.0, less)) (λ there. absurd (let none = there.1 in cc)) (with_key-cases packed.slab 12 other (Some 35) (Some 35) slab);
                number = 0;
                rest = 1 ∷ 2 ∷ [];
                taken = (lit< tt, next 0 (lit< tt), (lit< tt, next 1 (lit< tt), (lit< tt, next 2 (lit< tt), inr (λ number low has. let within : number < 3 = has.block.within in omega (arith, low, within)))));
                is = refl;
                after_is = refl;
              };
            }),
          ),
        ),
      ),
    );
  }
    where
      apart : (n root : ℕ) (range : Range) → packed.block root ≡ Some range → AreApart (slab_block 12 35 n) range
      apart n root range named = ⊎_elim
          (λ here. let same : range_of (Granules 4 8) ≡ range = (let is = here.1 in cc) in subst (AreApart (slab_block 12 35 n)) same (inr (omega arith)))
          (λ there. absurd (let none = there.1 in cc))
          (with_key-cases no_heap.block 0 root (Some (range_of (Granules 4 8))) (Some range) named)

      next : (n : ℕ) → n < 3 → IsNext (IsAvailable (block_view (view_of b (with_class packed 12 35))) no_stacks 12 35) n n
      next n high = record {
        from = omega arith;
        passes = record { block = record { within = high; unused = record { each = apart n } }; loose = record { none = λ seat class has. has } };
        first = λ lower from less. absurd (omega (arith, from, less));
      }

  -- another seat finds no block available, and is given the top of that stack
  stack_of_another : IsPlacedStep b 1 (record { machine = filled 35 0; stacks = kept }) (Malloc 2 16384) (Placed 215040 16384) (record { machine = with_block (filled 35 0) 2 (InSlab 12 35 1); stacks = with_stack kept 0 35 (231424 ∷ []) })
  unfolding class_size sizes
  stack_of_another = record {
    step = IsStep-granted b (filled 35 0) 2 16384 (omega (arith, many)) refl (λ none. omega (arith, none)) (lit≤ tt) (InSlab 12 35 1)
        (record { least = largest; slab = refl; block = record { within = lit< tt; unused = unused_behind 35 0 35 1 (lit≤ tt) } });
    stacked = inl (
      record { class = 35; least = largest; at = 215040; given = 16384; is = refl },
      inr (
        λ top. absurd (let is = top.is in cc),
        inr (
          λ has. none has.number (subst (λ (s : ℕ). IsAvailable (block_view (view_of b (filled 35 0))) kept s 35 has.number) (one_slab 35 0 has.start 35 has.slab).0 has.available),
          inl (record { seat = 0; first = record { top = record { top = 215040; rest = 231424 ∷ []; is = refl }; first = λ other less. absurd (omega (arith, less)) } }, (refl, refl)),
        ),
      ),
    );
  }
    where
      none : (n : ℕ) → ¬ (IsAvailable (block_view (view_of b (filled 35 0))) kept 12 35 n)
      none zero has = absurd (⊎_elim (λ x. omega (arith, x)) (λ x. omega (arith, x)) (has.block.unused.each 1 (slab_block 12 35 0) refl))
      none (suc zero) has = absurd (has.loose.none 0 35 (inl refl))
      none (suc (suc zero)) has = absurd (has.loose.none 0 35 (inr (inl refl)))
      none (suc (suc (suc n))) has = absurd (let within : suc (suc (suc n)) < 3 = has.block.within in omega (arith, within))
