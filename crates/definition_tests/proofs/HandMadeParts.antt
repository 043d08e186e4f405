-- What the images that are made by hand share: an arena of 16 granules with one slab, and with one large extent from the
-- first granule of its heap on, or none.
use Rattle.std.proofs.Common.{◌≡◌, ◌≢◌, ◌⊎◌, ◌==◌, ℕ, ◌+◌, ◌<◌, ◌≤◌, true, false, cond, Some, None, refl, sym, ap, ◌∙◌, arith, subst, inl, inr, ⊎_elim}
use Rattle.std.proofs.lemmas.Bool.{cases_eq, cases_Bool, cases_lt, ne_eqb, eqb-true}
use Rattle.image_tables.specs.declared.entry.WalEntry.{WalEntry}
use Rattle.image_tables.specs.Tables.{SlabHeader, Tables}
use Rattle.heap_model.specs.Machine.{Bounds, Range, AreApart}
use Rattle.heap_check.specs.Heap.{entry_at, IsClaim, Holds}
use Rattle.heap_check.specs.Sound.{granules_at, Covers, IsInSlab, IsValidSlab, AreExtents, IsOpen, IsStanding, IsDoneSlab, IsSound, IsSteady, IsExact}
use Rattle.heap_check.proofs.Claims.{IsNamed-claim}
use Rattle.heap_check.proofs.Geometry.{granules_at-slab, granules_at-large}

-- a number for one key, and 0 for the others
abbrev pub only : ℕ → ℕ → ℕ → ℕ
only key value k = cond (k == key) value 0

abbrev pub bounds : Bounds
bounds = record { roots = 4096; first = 4; granules = 16 }

-- a root without a word that the open entry does not name has no block
pub no_claim : (t : Tables) (root : ℕ) (range : Range) → t.root root ≡ 0 → entry_at t.open_entry root ≡ 0 → ¬ (IsClaim t root range)
no_claim t root range none unnamed claim = let is = IsNamed-claim t root range unnamed claim in is.some (sym is.word ∙ none)

-- a slab that took no class after its first is valid
pub normal_slab : (h : SlabHeader) → h.kind ≡ 1 → h.class < 36 → h.old ≡ 0 → h.index_count ≡ 0 → IsValidSlab h
normal_slab h normal is_class no_old no_entries = record {
  state = record {
    kinds = inl normal;
    is_class = is_class;
    is_old_class = omega (arith, no_old);
    none = λ kind. (no_old, no_entries);
    differ = λ other. absurd (other normal);
    number = λ other. absurd (other normal);
  };
  small = λ place below. absurd (omega (arith, below, no_entries));
  once = λ place other below. absurd (omega (arith, below, no_entries));
}

-- one slab starts, and one large extent, or none where it has no granules
pub record HasExtents (t : Tables) (start count : ℕ) : Type 0 where
  pub slab : (g : ℕ) → t.slab g ≡ (g == start)
  pub large : (g : ℕ) → t.large g ≡ only 4 count g
  pub before : 4 + count ≤ start
  pub behind : start + 4 ≤ 16

-- where a root's block stands and what slabs hold
pub record HasBlocks (t : Tables) (start : ℕ) : Type 0 where
  pub slab : IsValidSlab (t.header start)
  pub open_entry : (e : WalEntry) → t.open_entry ≡ Some e → IsOpen bounds t e
  pub rooted : (root : ℕ) → t.root root ≢ 0 → IsStanding t root (t.root root)
  pub apart : (root other : ℕ) (range another : Range) → root ≢ other → IsClaim t root range → IsClaim t other another → AreApart range another
  pub claimed : (range : Range) → Holds t start range → (root : ℕ) × IsClaim t root range

module _ {t : Tables} {start count : ℕ} (has : HasExtents t start count) where
  pub slab_is : (g : ℕ) → t.slab g ≡ true → g ≡ start
  slab_is g slab = eqb-true g start (sym (has.slab g) ∙ slab)

  pub large_is : (g : ℕ) → 0 < t.large g → (g ≡ 4) × (t.large g ≡ count)
  large_is g live = ⊎_elim
      (λ (here : g ≡ 4). (here, has.large g ∙ ap (only 4 count) here))
      (λ (other : g ≢ 4). let none : only 4 count g ≡ 0 = rw (ne_eqb g 4 other) refl in absurd (omega (arith, live, has.large g, none)))
      (cases_eq g 4)

  extent_is : (g : ℕ) → 0 < granules_at t g → ((g ≡ start) × (granules_at t g ≡ 4)) ⊎ ((g ≡ 4) × (granules_at t g ≡ count))
  extent_is g live = ⊎_elim
      (λ (slab : t.slab g ≡ true). inl (slab_is g slab, granules_at-slab t g slab))
      (λ (no_slab : t.slab g ≡ false).
      let whole = granules_at-large t g no_slab in
      let large = large_is g (omega (arith, live, whole)) in
      inr (large.0, whole ∙ large.1))
      (cases_Bool (t.slab g))

  disjoint : (g other k : ℕ) → Covers t g k → Covers t other k → g ≡ other
  disjoint g other k first second =
      let before = has.before in
      let one = extent_is g (omega (arith, first.low, first.high)) in
      let two = extent_is other (omega (arith, second.low, second.high)) in
      ⊎_elim
      (λ slab. ⊎_elim (λ same. slab.0 ∙ sym same.0) (λ large. absurd (omega (arith, slab.0, first.low, large, second.high))) two)
      (λ large. ⊎_elim (λ slab. absurd (omega (arith, slab.0, second.low, large, first.high))) (λ same. large.0 ∙ sym same.0) two)
      one

  starts : (g : ℕ) → 0 < granules_at t g → (4 ≤ g) × (g + granules_at t g ≤ 16)
  starts g live =
      let before = has.before in
      let behind = has.behind in
      ⊎_elim (λ slab. (omega (arith, slab), omega (arith, slab))) (λ large. (omega (arith, large), omega (arith, large))) (extent_is g live)

  one_kind : (g : ℕ) → t.slab g ≡ true → t.large g ≡ 0
  one_kind g slab = ⊎_elim
      (λ (live : 0 < t.large g). absurd (omega (arith, live, large_is g live, slab_is g slab, has.before)))
      (λ (none : t.large g ≤ 0). omega arith)
      (cases_lt 0 (t.large g))

  -- what is a slab is that one, so of each loose thing there is one at most
  pub one_slab : (g other : ℕ) → t.slab g ≡ true → t.slab other ≡ true → g ≡ other
  one_slab g other first second = slab_is g first ∙ sym (slab_is other second)

  pub extents_by : AreExtents bounds t.large t.slab
  extents_by = record { disjoint = disjoint; starts = starts; one_kind = one_kind }

  pub sound_by : HasBlocks t start → IsSound bounds t
  sound_by blocks = record {
    extents = extents_by;
    slabs = λ g slab. subst (λ s. IsValidSlab (t.header s)) (sym (slab_is g slab)) blocks.slab;
    owned = record {
      open_entry = blocks.open_entry;
      rooted = blocks.rooted;
      apart = blocks.apart;
      claimed = λ g range holds. blocks.claimed range (subst (λ s. Holds t s range) (slab_is g holds.slab) holds);
    };
    loose = record {
      large = record { same = λ one other first second. (large_is one first.live).0 ∙ sym (large_is other second.live).0 };
      empty = record { same = λ one other first second. one_slab one other first.slab second.slab };
      morphing = record { same = λ one other first second. one_slab one other first.slab second.slab };
      done = record { same = λ one other first second. one_slab one other first.slab second.slab };
    };
  }

  pub steady_by : HasBlocks t start → IsSteady bounds t
  steady_by blocks = record { sound = sound_by blocks; one_done = record { same = λ one other first second. one_slab one other first.slab second.slab } }

  -- where no entry is open, root 0 has the large extent, another root a block in the slab, and the slab is not in transition
  pub exact_by : HasBlocks t start → t.open_entry ≡ None → t.root 0 ≡ 65536 → (root : ℕ) → t.root root ≢ 0 → IsInSlab t start (t.root root) → (t.header start).kind ≢ 2 → ¬ (IsDoneSlab t start) → IsExact bounds t
  exact_by blocks closed named root some inside none_morphing not_done = record {
    sound = sound_by blocks;
    closed = closed;
    all_named = λ g live. (0, omega (arith, (large_is g live).0, named));
    all_live = λ g slab. (root, some, subst (λ s. IsInSlab t s (t.root root)) (sym (slab_is g slab)) inside);
    none_morphing = λ g is. none_morphing (ap (λ s. (t.header s).kind) (sym (slab_is g is.slab)) ∙ is.kind);
    none_done = λ g is. not_done (subst (IsDoneSlab t) (slab_is g is.slab) is);
  }
