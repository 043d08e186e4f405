-- A machine stays free of overlaps where a slab takes another class, and where a slab is made on free granules.
use Rattle.std.proofs.Common.{◌≡◌, ◌≢◌, ◌⊎◌, ℕ, ◌+◌, ◌*◌, ◌/◌, ◌<◌, ◌≤◌, sym, ap, ◌∙◌, arith, subst, inl, inr, ⊎_elim, Some}
use Rattle.std.proofs.lemmas.Bool.{cases_eq, cases_lt}
use Rattle.std.proofs.lemmas.Nat.{div-add-mod'}
use native.Mathlib.Nat.{mul-le-mul_right}
use Rattle.size_classes.specs.Classes.{class_size}
use Rattle.heap_model.specs.Machine.{Bounds, Range, Machine, with_key, Meets, IsLarge, LiesIn, IsBlockOf, AreApart, slab_block, IsFreeGranule, IsOverlapFree}
use Rattle.heap_model.specs.Runs.{IsFreeRow}
use Rattle.heap_model.specs.Placement.{with_class}
use Rattle.heap_model.proofs.Maps.{with_key-here, with_key-other, with_key-cases}

-- what begins at a start after a slab took a class: that slab, or one that was there
classes_of : (m : Machine) (s c t d : ℕ) → with_key m.slab s (Some c) t ≡ Some d → (t ≡ s) ⊎ (m.slab t ≡ Some d)
classes_of m s c t d is = ⊎_elim (λ here. inl here.0) (λ there. inr there.1) (with_key-cases m.slab s t (Some c) (Some d) is)

-- each slab is there still, with some class
still_slab : (m : Machine) (s c t d : ℕ) → m.slab t ≡ Some d → (e : ℕ) × (with_key m.slab s (Some c) t ≡ Some e)
still_slab m s c t d slab = ⊎_elim
    (λ (here : t ≡ s). (c, ap (λ k. with_key m.slab s (Some c) k) here ∙ with_key-here m.slab s (Some c)))
    (λ (there : t ≢ s). (d, with_key-other m.slab s t (Some c) there ∙ slab))
    (cases_eq t s)

-- a slab that is in bounds, apart from the others and clear of large blocks may be there, with any class
module _ (b : Bounds) (m : Machine) (s c : ℕ) (was : IsOverlapFree b m) (low : b.first ≤ s) (high : s + 4 ≤ b.granules)
    (others : (t d : ℕ) → t ≢ s → m.slab t ≡ Some d → (s + 4 ≤ t) ⊎ (t + 4 ≤ s))
    (bare : (root : ℕ) (range : Range) (k : ℕ) → m.block root ≡ Some range → IsLarge range → s ≤ k → k < s + 4 → ¬ (Meets range k)) where
  pub IsOverlapFree-class : IsOverlapFree b (with_class m s c)
  IsOverlapFree-class = record {
    apart = was.apart;
    rooted = was.rooted;
    sized = was.sized;
    slabs = λ t d slab. ⊎_elim (λ (here : t ≡ s). (omega (arith, here), omega (arith, here))) (λ there. was.slabs t d there) (classes_of m s c t d slab);
    slabs_apart = λ t u d e differ first second. ⊎_elim
        (λ here. ⊎_elim
        (λ also. absurd (differ (here.0 ∙ sym also.0)))
        (λ there. ⊎_elim (λ before. inl (omega (arith, before, here.0))) (λ behind. inr (omega (arith, behind, here.0))) (others u e there.0 there.1))
        (with_key-cases m.slab s u (Some c) (Some e) second))
        (λ there. ⊎_elim
        (λ here. ⊎_elim (λ before. inr (omega (arith, before, here.0))) (λ behind. inl (omega (arith, behind, here.0))) (others t d there.0 there.1))
        (λ too. was.slabs_apart t u d e differ there.1 too.1)
        (with_key-cases m.slab s u (Some c) (Some e) second))
        (with_key-cases m.slab s t (Some c) (Some d) first);
    small = λ root range named little.
        let slab = was.small root range named little in
        let still = still_slab m s c slab.0 slab.1 slab.2 in
        (slab.0, still.0, still.1, slab.3);
    large = was.large;
    clear = λ root range t d k named big slab from to. ⊎_elim
        (λ (here : t ≡ s). bare root range k named big (omega (arith, here, from)) (omega (arith, here, to)))
        (λ there. was.clear root range t d k named big there from to)
        (classes_of m s c t d slab);
  }

-- a slab takes another class
pub IsOverlapFree-morph : (b : Bounds) (m : Machine) (s c d : ℕ) → IsOverlapFree b m → m.slab s ≡ Some d → IsOverlapFree b (with_class m s c)
IsOverlapFree-morph b m s c d was slab =
    IsOverlapFree-class b m s c was (was.slabs s d slab).0 (was.slabs s d slab).1 (λ t e differ other. was.slabs_apart s t d e (λ same. differ (sym same)) slab other)
    (λ root range k named big from to. was.clear root range s d k named big slab from to)

-- a slab is made on four free granules
pub IsOverlapFree-slab : (b : Bounds) (m : Machine) (s c : ℕ) → IsOverlapFree b m → IsFreeRow (IsFreeGranule b m) s 4 → IsOverlapFree b (with_class m s c)
IsOverlapFree-slab b m s c was row =
    IsOverlapFree-class b m s c was (row.each s (omega arith) (omega arith)).low (omega (arith, (row.each (s + 3) (omega arith) (omega arith)).high))
    (λ t d differ other. ⊎_elim
    (λ (near : t < s + 4). ⊎_elim
    (λ (from : s ≤ t). absurd (⊎_elim (λ left. omega (arith, left)) (λ right. omega (arith, right)) ((row.each t from near).no_slab t d other)))
    (λ (before : t < s). ⊎_elim (λ left. absurd (omega (arith, left, before))) (λ right. inr right) ((row.each s (omega arith) (omega arith)).no_slab t d other))
    (cases_lt' s t))
    (λ (far : s + 4 ≤ t). inl far)
    (cases_lt t (s + 4)))
    (λ root range k named big from to. (row.each k from to).no_block root range named big)
  where
    cases_lt' : (s t : ℕ) → (s ≤ t) ⊎ (t < s)
    cases_lt' s t = ⊎_elim (λ before. inr before) (λ behind. inl behind) (cases_lt t s)

-- a block of a class lies in its slab
pub LiesIn-block : (s c : ℕ) (range : Range) → IsBlockOf s c range → LiesIn s range
LiesIn-block s c range block =
    subst (λ (x : Range). LiesIn s x) (sym block.is) (record { low = omega arith; high = ends s (class_size c) block.number block.within })
  where
    ends : (s size i : ℕ) → i < 63488 / size → 16384 * s + 2048 + i * size + size ≤ 16384 * s + 65536
    ends s size i within =
        let rows : (i + 1) * size ≤ 63488 / size * size = mul-le-mul_right size (omega arith) in
        let step : (i + 1) * size ≡ i * size + size = omega arith in
        omega (arith, rows, step, div-add-mod' 63488 size)

-- two blocks of one slab and class share no byte
pub blocks_apart : (s c i j : ℕ) → i ≢ j → AreApart (slab_block s c i) (slab_block s c j)
blocks_apart s c i j differ = ⊎_elim
    (λ (less : i < j). inl (behind i j (class_size c) less))
    (λ (from : j ≤ i). inr (behind j i (class_size c) (omega (arith, from, differ))))
    (cases_lt i j)
  where
    behind : (k l size : ℕ) → k < l → 16384 * s + 2048 + k * size + size ≤ 16384 * s + 2048 + l * size
    behind k l size less =
        let rows : (k + 1) * size ≤ l * size = mul-le-mul_right size (omega (arith, less)) in
        let step : (k + 1) * size ≡ k * size + size = omega arith in
        omega (arith, rows, step)

-- so one that begins where another does is that one
pub one_number : (s c i j : ℕ) → 0 < class_size c → (slab_block s c i).at ≡ (slab_block s c j).at → i ≡ j
one_number s c i j some same = ⊎_elim
    (λ is. is)
    (λ differ. absurd (⊎_elim (λ x. omega (arith, x, same, some)) (λ x. omega (arith, x, same, some)) (blocks_apart s c i j differ)))
    (cases_eq i j)
