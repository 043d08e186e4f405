-- Two states of the machine that differ by one block, and where blocks lie.
use Rattle.std.proofs.Common.{◌≡◌, ◌≢◌, ◌⊎◌, ℕ, ◌+◌, ◌*◌, ◌/◌, ◌<◌, ◌≤◌, length, Some, None, refl, sym, ap, ◌∙◌, subst, arith, inl, inr, ⊎_elim}
use Rattle.heap_indexes.proofs.Common.{cases_eq, cases_lt, class_capacity, class_size-least, Bounds, Machine, Range, with_key, AreApart, IsLarge, LiesIn, slab_block, IsUnused, IsOverlapFree, with_key-here, with_key-other, class_known, LiesIn-block, blocks_apart, left_named, IsInSomeSlab, AreInSlabs, AreSizedFor, Indexes, loosened}
use Rattle.heap_model.proofs.Placing.{with_range}

-- equal values of an option
pub some_same : {X : Type 0} (x y : X) → Some x ≡ Some y → x ≡ y
some_same x y same = cc

-- a root that names nothing has the block of a range beside it
pub record IsOneMore (b : Bounds) (less more : Machine) (root : ℕ) (range : Range) : Type 0 where
  pub rooted : root < b.roots
  pub none : less.block root ≡ None
  pub some : more.block root ≡ Some range
  pub others : (r : ℕ) → r ≢ root → more.block r ≡ less.block r
  pub slab : (s : ℕ) → more.slab s ≡ less.slab s

pub one_given : (b : Bounds) (m : Machine) (root : ℕ) (range : Range) → root < b.roots → m.block root ≡ None → IsOneMore b m (with_range m root range) root range
one_given b m root range below none = record { rooted = below; none = none; some = with_key-here m.block root (Some range); others = λ r differ. with_key-other m.block root r (Some range) differ; slab = λ s. refl }

pub one_lost : (b : Bounds) (m : Machine) (root : ℕ) (range : Range) → IsOverlapFree b m → m.block root ≡ Some range → IsOneMore b (loosened m root) m root range
one_lost b m root range apart named = record { rooted = apart.rooted root range named; none = with_key-here m.block root None; some = named; others = λ r differ. sym (with_key-other m.block root r None differ); slab = λ s. refl }

module _ {b : Bounds} {less more : Machine} {root : ℕ} {range : Range} (one : IsOneMore b less more root range) where
  -- a block of the one is that one, or one of the other
  pub origin : (r : ℕ) (x : Range) → more.block r ≡ Some x → ((r ≡ root) × (range ≡ x)) ⊎ ((r ≢ root) × (less.block r ≡ Some x))
  origin r x named = ⊎_elim
      (λ (here : r ≡ root). inl (here, some_same range x (sym one.some ∙ ap more.block (sym here) ∙ named)))
      (λ (there : r ≢ root). inr (there, sym (one.others r there) ∙ named))
      (cases_eq r root)

  -- and the other way round
  pub still : (r : ℕ) (x : Range) → less.block r ≡ Some x → (r ≢ root) × (more.block r ≡ Some x)
  still r x named =
      let differ : r ≢ root = λ same. absurd (let had : less.block root ≡ Some x = ap less.block (sym same) ∙ named in let none = one.none in cc) in
      (differ, one.others r differ ∙ named)

  -- what is unused beside it is so without it
  pub unused_less : (x : Range) → IsUnused more x → IsUnused less x
  unused_less x unused = record { each = λ r y named. unused.each r y (still r y named).1 }

  -- and what is apart from it the other way round
  pub unused_more : (x : Range) → AreApart x range → IsUnused less x → IsUnused more x
  unused_more x apart unused = record { each = λ r y named. ⊎_elim (λ here. subst (AreApart x) here.1 apart) (λ there. unused.each r y there.1) (origin r y named) }

  -- its own bytes are unused without it, and used with it
  pub unused_own : IsOverlapFree b more → IsUnused less range
  unused_own apart = record { each = λ r y named. let there = still r y named in apart.apart root r range y (λ same. there.0 (sym same)) one.some there.1 }

  pub used_own : 0 < range.size → ¬ (IsUnused more range)
  used_own some unused = ⊎_elim (λ x. omega (arith, x, some)) (λ x. omega (arith, x, some)) (unused.each root range one.some)

-- where blocks lie

module _ {b : Bounds} {m : Machine} (apart : IsOverlapFree b m) where
  -- two slabs that share a byte are one
  pub one_slab : (s t c d at : ℕ) → m.slab s ≡ Some c → m.slab t ≡ Some d → 16384 * s ≤ at → at < 16384 * s + 65536 → 16384 * t ≤ at → at < 16384 * t + 65536 → s ≡ t
  one_slab s t c d at one two low high from to = ⊎_elim
      (λ same. same)
      (λ differ. absurd (⊎_elim (λ x. omega (arith, x, high, from)) (λ x. omega (arith, x, low, to)) (apart.slabs_apart s t c d differ one two)))
      (cases_eq s t)

  -- a block that begins in a slab lies in it
  pub lies_in : (root s class : ℕ) (range : Range) → m.block root ≡ Some range → m.slab s ≡ Some class → 16384 * s ≤ range.at → range.at < 16384 * s + 65536 → LiesIn s range
  lies_in root s class range named slab low high = ⊎_elim
      (λ (large : 16384 < range.size).
      absurd (apart.clear root range s class (range.at / 16384) named large slab (omega (arith, low)) (omega (arith, high)) (record { begins = omega arith; ends = omega (arith, large) })))
      (λ (small : range.size ≤ 16384).
      let home = apart.small root range named (λ large. omega (arith, large, small)) in
      let some = apart.sized root range named in
      let same = one_slab home.0 s home.1 class range.at home.2 slab home.3.low (omega (arith, home.3.high, some)) low high in
      subst (λ k. LiesIn k range) same home.3)
      (cases_lt 16384 range.size)

  -- ranges in two slabs share no byte
  pub slabs_differ : (s t c d : ℕ) (x y : Range) → s ≢ t → m.slab s ≡ Some c → m.slab t ≡ Some d → LiesIn s x → LiesIn t y → AreApart x y
  slabs_differ s t c d x y differ one two in_s in_t = ⊎_elim (λ before. inl (omega (arith, before, in_s.high, in_t.low))) (λ behind. inr (omega (arith, behind, in_t.high, in_s.low))) (apart.slabs_apart s t c d differ one two)

  -- a block of a slab is this one of this slab, or shares no byte with it
  pub block_or_apart : (start class number s c i : ℕ) → m.slab start ≡ Some class → number < class_capacity class → m.slab s ≡ Some c → i < class_capacity c →
      ((s ≡ start) × (i ≡ number) × (c ≡ class)) ⊎ (((s ≢ start) ⊎ (i ≢ number)) × AreApart (slab_block s c i) (slab_block start class number))
  block_or_apart start class number s c i slab within other below = ⊎_elim
      (λ (same : s ≡ start).
      let class_is : c ≡ class = some_same c class (sym other ∙ ap m.slab same ∙ slab) in
      ⊎_elim
      (λ (is : i ≡ number). inl (same, is, class_is))
      (λ (differ : i ≢ number). inr (inr differ, subst (λ k. AreApart (slab_block k c i) (slab_block start class number)) (sym same) (subst (λ k. AreApart (slab_block start k i) (slab_block start class number)) (sym class_is) (blocks_apart start class i number differ))))
      (cases_eq i number))
      (λ (differ : s ≢ start).
      inr (
        inl differ,
        slabs_differ s start c class (slab_block s c i) (slab_block start class number) differ other slab
            (LiesIn-block s c (slab_block s c i) (record { number = i; within = below; is = refl })) (LiesIn-block start class (slab_block start class number) (record { number = number; within = within; is = refl })),
      ))
      (cases_eq s start)

-- a root loses its block, and the slabs stay
pub IsOverlapFree-loosened : (b : Bounds) (m : Machine) (root : ℕ) → IsOverlapFree b m → IsOverlapFree b (loosened m root)
IsOverlapFree-loosened b m root was = record {
  apart = λ r o x y differ first second. was.apart r o x y differ (left_named m root r x first).1 (left_named m root o y second).1;
  rooted = λ r x named. was.rooted r x (left_named m root r x named).1;
  sized = λ r x named. was.sized r x (left_named m root r x named).1;
  slabs = was.slabs;
  slabs_apart = was.slabs_apart;
  small = λ r x named. was.small r x (left_named m root r x named).1;
  large = λ r x named. was.large r x (left_named m root r x named).1;
  clear = λ r x s c k named. was.clear r x s c k (left_named m root r x named).1;
}

-- Small blocks lie in slabs still

pub placed_less : {b : Bounds} {less more : Machine} {root : ℕ} {range : Range} → IsOneMore b less more root range → AreInSlabs more → AreInSlabs less
placed_less {b} {less} {more} {root} {range} one placed = record {
  each = λ r x named small.
      let home = placed.each r x (still one r x named).1 small in
      record { start = home.start; class = home.class; slab = sym (one.slab home.start) ∙ home.slab; own = home.own; block = home.block };
}

pub placed_more : {b : Bounds} {less more : Machine} {root : ℕ} {range : Range} → IsOneMore b less more root range → (¬ (IsLarge range) → IsInSomeSlab less range) → AreInSlabs less → AreInSlabs more
placed_more {b} {less} {more} {root} {range} one here placed = record {
  each = λ r x named small.
      let home : IsInSomeSlab less x = ⊎_elim (λ same. subst (IsInSomeSlab less) same.1 (here (λ large. small (subst IsLarge same.1 large)))) (λ there. placed.each r x there.1 small) (origin one r x named) in
      record { start = home.start; class = home.class; slab = one.slab home.start ∙ home.slab; own = home.own; block = home.block };
}

-- where a slab comes, or takes a class
pub placed_class : (m : Machine) (start class : ℕ) → AreInSlabs m → AreInSlabs (record { block = m.block; slab = with_key m.slab start (Some class); value = m.value })
placed_class m start class placed = record {
  each = λ r x named small.
      let home = placed.each r x named small in
      ⊎_elim
      (λ (same : home.start ≡ start). record { start = home.start; class = class; slab = ap (with_key m.slab start (Some class)) same ∙ with_key-here m.slab start (Some class); own = home.own; block = home.block })
      (λ (differ : home.start ≢ start). record { start = home.start; class = home.class; slab = with_key-other m.slab start home.start (Some class) differ ∙ home.slab; own = home.own; block = home.block })
      (cases_eq home.start start);
}

-- a block of a class has a byte
pub block_some : (s c i : ℕ) → i < class_capacity c → 0 < (slab_block s c i).size
block_some s c i within = omega (arith, class_size-least c (class_known c i within))

-- indexes that each know as many granules as others did
pub sized_same : (b : Bounds) (x y : Indexes) → AreSizedFor b x → y.free.granules ≡ x.free.granules → y.supply.slabs.granules ≡ x.supply.slabs.granules → length y.lives.counts ≡ length x.lives.counts → length y.strangers ≡ length x.strangers →
    y.units.granules ≡ x.units.granules → AreSizedFor b y
sized_same b x y sized free slabs counts strangers units = record {
  least = sized.least;
  most = sized.most;
  first = sized.first;
  roots = sized.roots;
  free = free ∙ sized.free;
  slabs = slabs ∙ sized.slabs;
  counts = counts ∙ sized.counts;
  strangers = strangers ∙ sized.strangers;
  units = units ∙ sized.units;
}
