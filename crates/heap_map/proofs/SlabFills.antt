-- The slab that begins at a granule, and how many blocks live in it.
use Rattle.std.proofs.Common.{◌≡◌, ◌≢◌, ◌<◌, ◌≤◌, ℕ, zero, suc, List, refl, sym, ap, subst, ◌∙◌, arith, inl, inr, ⊎_elim}
use Rattle.std.proofs.lemmas.Bool.{cases_lt}
use Rattle.size_classes.specs.Classes.{class_capacity}
use Rattle.image_tables.specs.Forms.{morphing_kind}
use Rattle.image_tables.specs.Tables.{SlabHeader, tables_of}
use Rattle.heap_check.specs.Sound.{IsValidSlab}
use Rattle.heap_check.specs.Image.{IsSoundImage}
use Rattle.heap_check.proofs.Geometry.{number_few, index_count_few}
use Rattle.image_defects.specs.Count.{IsCount}
use Rattle.heap_map.specs.declared.cell.SlabFill.{SlabFill}
use Rattle.heap_map.specs.declared.cell.Kind.{Kind}
use Rattle.heap_map.specs.declared.cell.Kind.TheVariants.{Slab}
use Rattle.heap_map.specs.LogRules.{log_rules}
use Rattle.heap_map.specs.Cells.{IsSetBit, IsLiveBit, IsLivePlace, IsLiveCount, IsKind}
use Rattle.heap_map.specs.Scans.{HasNoFill, IsFillAt}
use Rattle.heap_map.proofs.Granules.{slab_kind}
use Rattle.heap_map.proofs.Premises.{laid}

-- counts

-- what holds of the same numbers is counted the same
pub count_same : (P Q : ℕ → Type 0) (n c : ℕ) → ((k : ℕ) → P k → Q k) → ((k : ℕ) → Q k → P k) → IsCount P n c → IsCount Q n c
count_same P Q zero c to from is = is
count_same P Q (suc n) c to from is = ⊎_elim
    (λ (here : P n × ((fewer : ℕ) × (c ≡ suc fewer) × IsCount P n fewer)). inl (to n here.0, (here.1.0, here.1.1, count_same P Q n here.1.0 to from here.1.2)))
    (λ (none : ¬ (P n) × IsCount P n c). inr ((λ q. none.0 (from n q)), count_same P Q n c to from none.1))
    is

-- no more than all
pub count_few : (P : ℕ → Type 0) (n c : ℕ) → IsCount P n c → c ≤ n
count_few P zero c is = omega (arith, is)
count_few P (suc n) c is = ⊎_elim
    (λ (here : P n × ((fewer : ℕ) × (c ≡ suc fewer) × IsCount P n fewer)). omega (arith, here.1.1, count_few P n here.1.0 here.1.2))
    (λ (none : ¬ (P n) × IsCount P n c). omega (arith, count_few P n c none.1))
    is

pub count_none : (P : ℕ → Type 0) (n : ℕ) → ((k : ℕ) → ¬ (P k)) → IsCount P n 0
count_none P zero none = refl
count_none P (suc n) none = inr (none n, count_none P n none)

-- blocks

pub few_blocks : (class : ℕ) → class < 36 → class_capacity class ≤ 4096
few_blocks class below = ⊎_elim
    (λ (more : 4096 < class_capacity class). absurd (omega (arith, number_few class 4096 below more)))
    (λ few. few)
    (cases_lt 4096 (class_capacity class))

-- where the bits are read, those that are set are live
live_bits : (h : SlabHeader) (n c : ℕ) → h.kind ≢ morphing_kind → IsCount (IsSetBit h) n c → IsCount (IsLiveBit h) n c
live_bits h n c read = count_same (IsSetBit h) (IsLiveBit h) n c (λ i set. record { read = read; set = set }) (λ i live. live.set)

pub live_of_class : (h : SlabHeader) (class n c : ℕ) → h.class ≡ class → h.kind ≢ morphing_kind → n ≡ class_capacity class → IsCount (IsSetBit h) n c → IsLiveCount h c
live_of_class h class n c is read all count = subst (λ m. IsCount (IsLiveBit h) m c) (all ∙ ap class_capacity (sym is)) (live_bits h n c read count)

-- else none is
pub no_live_bits : (h : SlabHeader) → h.kind ≡ morphing_kind → IsLiveCount h 0
no_live_bits h morphing = count_none (IsLiveBit h) (class_capacity h.class) (λ i live. live.read morphing)

-- the slab at a granule

pub fill_there : (words : List ℕ) (k : ℕ) (fill : SlabFill) → IsSoundImage words → IsKind log_rules words k (Slab fill) → fill.slab.start ≡ k → IsFillAt (tables_of words) k fill
fill_there words k fill sound is same = subst (λ s. IsFillAt (tables_of words) s fill) same (record {
  slab = is.0.slab;
  kind = is.0.state.kind;
  class = is.0.state.class;
  was = is.0.state.old;
  live = is.0.live;
  old = is.0.old;
  few_live = omega (arith, count_few (IsLiveBit h) (class_capacity h.class) fill.live is.0.live, few_blocks h.class valid.state.is_class);
  few_old = omega (arith, count_few (IsLivePlace h) h.index_count fill.old is.0.old, index_count_few valid);
})
  where
    h : SlabHeader
    h = (tables_of words).header fill.slab.start

    valid : IsValidSlab h
    valid = sound.sound.slabs fill.slab.start is.0.slab

pub no_fill_there : (words : List ℕ) (k : ℕ) (fill : SlabFill) → IsSoundImage words → IsKind log_rules words k (Slab fill) → fill.slab.start ≢ k → HasNoFill (tables_of words) k
no_fill_there words k fill sound is other = record {
  none = λ slab.
      let found = slab_kind log_rules words (laid words sound) k (Slab fill) is slab in
      let same : fill ≡ found.0 = cc (found.1) in
      other (ap (λ (f : SlabFill). f.slab.start) same ∙ found.2);
}

pub no_fill_of_kind : (words : List ℕ) (k : ℕ) (kind : Kind) → IsSoundImage words → IsKind log_rules words k kind → ((fill : SlabFill) → kind ≢ Slab fill) → HasNoFill (tables_of words) k
no_fill_of_kind words k kind sound is other = record {
  none = λ slab.
      let found = slab_kind log_rules words (laid words sound) k kind is slab in
      other found.0 found.1;
}
