-- The free granules of a state, as blocks and slabs come and go.
use Rattle.std.proofs.Common.{◌≡◌, ◌≢◌, ◌⊎◌, ◌↔◌, ℕ, ◌+◌, ◌*◌, ◌<◌, ◌≤◌, Some, None, sym, ap, ◌∙◌, subst, arith, inl, inr, ⊎_elim, Option, refl}
use Rattle.heap_indexes.proofs.Common.{cases_eq, cases_lt, Bounds, Machine, Range, Meets, IsLarge, IsFreeGranule, IsOverlapFree, with_class, with_key-here, with_key-other, with_key-cases, closed, FreeSet, IsFree, IsFreeSetOf}
use Rattle.heap_indexes.proofs.Machines.{IsOneMore, origin, still}

-- a number lies in a row, before it or behind it
pub in_or_out : (k start n : ℕ) → ((start ≤ k) × (k < start + n)) ⊎ ((k < start) ⊎ (start + n ≤ k))
in_or_out k start n = ⊎_elim
    (λ before. inr (inl before))
    (λ (from : start ≤ k). ⊎_elim (λ within. inl (from, within)) (λ behind. inr (inr behind)) (cases_lt k (start + n)))
    (cases_lt k start)

module _ {b : Bounds} {less more : Machine} {root : ℕ} {range : Range} (one : IsOneMore b less more root range) where
  -- what is free beside a block is so without it
  pub free_less : (k : ℕ) → IsFreeGranule b more k → IsFreeGranule b less k
  free_less k free = record { low = free.low; high = free.high; no_block = λ r x named. free.no_block r x (still one r x named).1; no_slab = λ s c slab. free.no_slab s c (one.slab s ∙ slab) }

  -- and the other way round, unless the block meets it
  pub free_more : (k : ℕ) → (IsLarge range → ¬ (Meets range k)) → IsFreeGranule b less k → IsFreeGranule b more k
  free_more k off free = record {
    low = free.low;
    high = free.high;
    no_block = λ r x named large meets. ⊎_elim
        (λ here. off (subst IsLarge (sym here.1) large) (subst (λ (y : Range). Meets y k) (sym here.1) meets))
        (λ there. free.no_block r x there.1 large meets)
        (origin one r x named);
    no_slab = λ s c slab. free.no_slab s c (sym (one.slab s) ∙ slab);
  }

  -- a small block is in no granule's way
  pub free_small : (set : FreeSet) → range.size ≤ 16384 → IsFreeSetOf b less set → IsFreeSetOf b more set
  free_small set small are = record { each = λ k. (λ is. free_more k (λ large. absurd (omega (arith, large, small))) ((are.each k).0 is), λ free. (are.each k).1 (free_less k free)) }

  pub free_small_less : (set : FreeSet) → range.size ≤ 16384 → IsFreeSetOf b more set → IsFreeSetOf b less set
  free_small_less set small are = record { each = λ k. (λ is. free_less k ((are.each k).0 is), λ free. (are.each k).1 (free_more k (λ large. absurd (omega (arith, large, small))) free)) }

  -- whole granules are
  module _ (start n : ℕ) (at : range.at ≡ 16384 * start) (size : range.size ≡ 16384 * n) (many : 2 ≤ n) where
    pub free_taken : (set new : FreeSet) → IsFreeSetOf b less set → ((k : ℕ) → IsFree new k ↔ (IsFree set k × ((k < start) ⊎ (start + n ≤ k)))) → IsFreeSetOf b more new
    free_taken set new are taken = record {
      each = λ k. (
        λ is. let both = (taken k).0 is in free_more k (λ large meets. ⊎_elim (λ before. omega (arith, before, meets.begins, at)) (λ behind. omega (arith, behind, meets.ends, at, size)) both.1) ((are.each k).0 both.0),
        λ free. (taken k).1 (
          (are.each k).1 (free_less k free),
          ⊎_elim
              (λ within. absurd (free.no_block root range one.some (omega (arith, size, many)) (record { begins = omega (arith, within.0, at); ends = omega (arith, within.1, at, size) })))
              (λ out. out)
              (in_or_out k start n),
        ),
      );
    }

    -- without it they are free
    free_own : IsOverlapFree b more → (k : ℕ) → start ≤ k → k < start + n → IsFreeGranule b less k
    free_own apart k low high =
        let large : IsLarge range = omega (arith, size, many) in
        let meets : Meets range k = record { begins = omega (arith, low, at); ends = omega (arith, high, at, size) } in
        let whole = apart.large root range one.some large in
        record {
          low = omega (arith, whole.low, whole.at, at, low);
          high = omega (arith, whole.high, whole.at, whole.size, at, size, high);
          no_block = λ r x named big also.
              let there = still one r x named in
              ⊎_elim (λ before. omega (arith, before, also.begins, at, size, high)) (λ behind. omega (arith, behind, also.ends, at, low)) (apart.apart root r range x (λ same. there.0 (sym same)) one.some there.1);
          no_slab = λ s c slab. ⊎_elim
              (λ within. absurd (apart.clear root range s c k one.some large (one.slab s ∙ slab) within.0 within.1 meets))
              (λ out. out)
              (in_or_out k s 4);
        }

    pub free_given : IsOverlapFree b more → (set new : FreeSet) → IsFreeSetOf b more set → ((k : ℕ) → IsFree new k ↔ (IsFree set k ⊎ ((start ≤ k) × (k < start + n)))) → IsFreeSetOf b less new
    free_given apart set new are given = record {
      each = λ k. (
        λ is. ⊎_elim (λ had. free_less k ((are.each k).0 had)) (λ within. free_own apart k within.0 within.1) ((given k).0 is),
        λ free. (given k).1 (⊎_elim
            (λ within. inr within)
            (λ out. inl ((are.each k).1 (free_more k (λ large meets. ⊎_elim (λ before. omega (arith, before, meets.begins, at)) (λ behind. omega (arith, behind, meets.ends, at, size)) out) free)))
            (in_or_out k start n)),
      );
    }

    -- with it none of them is, and all lie in the heap
    pub held_own : IsOverlapFree b more → (k : ℕ) → start ≤ k → k < start + n → (b.first ≤ k) × (k < b.granules) × ¬ (IsFreeGranule b more k)
    held_own apart k low high =
        let large : IsLarge range = omega (arith, size, many) in
        let whole = apart.large root range one.some large in (
          omega (arith, whole.low, whole.at, at, low),
          omega (arith, whole.high, whole.at, whole.size, at, size, high),
          λ free. free.no_block root range one.some large (record { begins = omega (arith, low, at); ends = omega (arith, high, at, size) }),
        )

-- slabs

module _ (b : Bounds) (m : Machine) (start : ℕ) where
  -- one comes on free granules
  pub free_opened : (class : ℕ) (set new : FreeSet) → m.slab start ≡ None → IsFreeSetOf b m set → ((k : ℕ) → IsFree new k ↔ (IsFree set k × ((k < start) ⊎ (start + 4 ≤ k)))) → IsFreeSetOf b (with_class m start class) new
  free_opened class set new none are taken = record {
    each = λ k. (
      λ is.
          let both = (taken k).0 is in
          let free = (are.each k).0 both.0 in
          record {
            low = free.low;
            high = free.high;
            no_block = free.no_block;
            no_slab = λ s c slab. ⊎_elim (λ here. subst (λ t. (k < t) ⊎ (t + 4 ≤ k)) (sym here.0) both.1) (λ there. free.no_slab s c there.1) (with_key-cases m.slab start s (Some class) (Some c) slab);
          },
      λ free. (taken k).1 (
        (are.each k).1 (record {
          low = free.low;
          high = free.high;
          no_block = free.no_block;
          no_slab = λ s c slab.
              let differ : s ≢ start = λ same. absurd (let had : m.slab start ≡ Some c = ap m.slab (sym same) ∙ slab in cc) in
              free.no_slab s c (with_key-other m.slab start s (Some class) differ ∙ slab);
        }),
        free.no_slab start class (with_key-here m.slab start (Some class)),
      ),
    );
  }

  -- one takes another class
  pub free_changed : (class d : ℕ) (set : FreeSet) → m.slab start ≡ Some d → IsFreeSetOf b m set → IsFreeSetOf b (with_class m start class) set
  free_changed class d set slab are = record {
    each = λ k. (
      λ is.
          let free = (are.each k).0 is in
          record {
            low = free.low;
            high = free.high;
            no_block = free.no_block;
            no_slab = λ s c here. ⊎_elim (λ same. subst (λ t. (k < t) ⊎ (t + 4 ≤ k)) (sym same.0) (free.no_slab start d slab)) (λ there. free.no_slab s c there.1) (with_key-cases m.slab start s (Some class) (Some c) here);
          },
      λ free. (are.each k).1 (record {
        low = free.low;
        high = free.high;
        no_block = free.no_block;
        no_slab = λ s c here. ⊎_elim
            (λ (same : s ≡ start). subst (λ t. (k < t) ⊎ (t + 4 ≤ k)) (sym same) (free.no_slab start class (with_key-here m.slab start (Some class))))
            (λ (differ : s ≢ start). free.no_slab s c (with_key-other m.slab start s (Some class) differ ∙ here))
            (cases_eq s start);
      }),
    );
  }

  -- one leaves
  pub free_closed : (class : ℕ) (set new : FreeSet) → IsOverlapFree b m → m.slab start ≡ Some class → IsFreeSetOf b m set → ((k : ℕ) → IsFree new k ↔ (IsFree set k ⊎ ((start ≤ k) × (k < start + 4)))) → IsFreeSetOf b (closed m start) new
  free_closed class set new apart slab are given = record {
    each = λ k. (
      λ is. ⊎_elim
          (λ had.
          let free = (are.each k).0 had in
          record {
            low = free.low;
            high = free.high;
            no_block = free.no_block;
            no_slab = λ s c here. ⊎_elim (λ gone. absurd (let none = gone.1 in cc)) (λ there. free.no_slab s c there.1) (with_key-cases m.slab start s None (Some c) here);
          })
          (λ within.
          let lies = apart.slabs start class slab in
          record {
            low = omega (arith, lies.0, within.0);
            high = omega (arith, lies.1, within.1);
            no_block = λ r x named large. apart.clear r x start class k named large slab within.0 within.1;
            no_slab = λ s c here. ⊎_elim
                (λ gone. absurd (let none = gone.1 in cc))
                (λ there. ⊎_elim (λ before. inr (omega (arith, before, within.0))) (λ behind. inl (omega (arith, behind, within.1))) (apart.slabs_apart s start c class there.0 there.1 slab))
                (with_key-cases m.slab start s None (Some c) here);
          })
          ((given k).0 is),
      λ free. (given k).1 (⊎_elim
          (λ within. inr within)
          (λ out. inl ((are.each k).1 (record {
            low = free.low;
            high = free.high;
            no_block = free.no_block;
            no_slab = λ s c here. ⊎_elim
                (λ (same : s ≡ start). subst (λ t. (k < t) ⊎ (t + 4 ≤ k)) (sym same) out)
                (λ (differ : s ≢ start). free.no_slab s c (with_key-other m.slab start s None differ ∙ here))
                (cases_eq s start);
          })))
          (in_or_out k start 4)),
    );
  }

  -- the granules of a slab lie in the heap, and none is free
  pub held_slab : (class k : ℕ) → IsOverlapFree b m → m.slab start ≡ Some class → start ≤ k → k < start + 4 → (b.first ≤ k) × (k < b.granules) × ¬ (IsFreeGranule b m k)
  held_slab class k apart slab low high =
      let lies = apart.slabs start class slab in
      (omega (arith, lies.0, low), omega (arith, lies.1, high), λ free. ⊎_elim (λ before. omega (arith, before, low)) (λ behind. omega (arith, behind, high)) (free.no_slab start class slab))

  -- no slab begins on free granules
  pub no_slab_free : IsFreeGranule b m start → m.slab start ≡ None
  no_slab_free free = go (m.slab start) (λ c is. ⊎_elim (λ before. omega (arith, before)) (λ behind. omega (arith, behind)) (free.no_slab start c is))
    where
      go : (x : Option ℕ) → ((c : ℕ) → x ≡ Some c → ⊥) → x ≡ None
      go None none = refl
      go (Some c) none = absurd (none c refl)
