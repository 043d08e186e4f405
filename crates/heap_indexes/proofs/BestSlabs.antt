-- The search for the slab that takes a class: the candidates come in order, so the first one that is ready is the best; what was
-- found unfit stays known. And what it finds is what the choice of the machine asks for.
use Rattle.std.proofs.Common.{◌≡◌, ◌⊎◌, ◌==◌, ◌&&◌, if◌then◌else◌, ℕ, ◌<◌, ◌≤◌, Bool, true, false, refl, ap, length, Option, Some, MatchOption, IfSome, sym, ◌∙◌, subst, arith, inl, inr, ⊎_elim}
use Rattle.heap_indexes.proofs.Common.{cases_lt, class_capacity, slab_block, IsUnused, Bounds, Machine, IsOverlapFree, IsBestSlab, HasNoFitSlab, slab_view, live_below, view_of, Lives, Units, law_of_unused_blocks, Indexes, AreIndexesOf, IsInTransition}
use Rattle.heap_model.specs.Choice.{IsFit}
use Rattle.slab_index.specs.declared.candidates.Candidate.{Candidate}
use Rattle.slab_index.specs.Lives.{normal_at, IsSparse, HasNoSparse, IsFirstSparse}
use Rattle.slab_index.specs.Unfit.{is_unfit}
use Rattle.slab_index.proofs.Noting.{left_behind, same_normal, nearer}
use Rattle.std.proofs.lemmas.Bool.{false_from_ne_true, and_parts, eqb-true}
use Rattle.unit_map.specs.Blocks.{HasNoClearBlock, IsFirstClearBlock}
use Rattle.heap_indexes.specs.Fitting.{HasClearBlock, HasNoReady, IsFirstReady, AreNotedBesides}

-- the slabs that are searched

module _ (lives : Lives) (units : Units) (class : ℕ) where
  -- where there is no candidate no slab is ready
  pub none_ready : HasNoSparse lives class → HasNoReady lives units class
  none_ready none = record { none = λ s n sparse ready. none.none s n sparse }

  -- the first candidate is the first that is ready, if it is
  pub best_sought : (found : Candidate) (number : ℕ) → IsFirstSparse lives class found → IsFirstClearBlock units found.start class 0 number → IsFirstReady lives units class found.start
  best_sought found number first clear = record {
    live = found.live;
    is = first.is;
    clear = record { number = number; within = clear.within; clear = clear.clear };
    first = λ s n sparse ready. first.first s n sparse;
  }

-- what is noted leaves the normal slabs
pub was_normal : (old lives : Lives) → lives ≡ record old { unfit = lives.unfit } → (s : ℕ) → normal_at old s ≡ normal_at lives s
was_normal old lives same s = same_normal old lives (ap (λ (l : Lives). l.normal) same) s

-- nothing is noted yet
pub noted_none : (lives : Lives) (units : Units) (class : ℕ) → AreNotedBesides lives units class lives
noted_none lives units class = record { same = refl; each = λ c s known. inl known }

-- one that is not ready is noted
pub noted_more : {old lives next : Lives} {units : Units} {class : ℕ} (start : ℕ) → AreNotedBesides old units class lives → HasNoClearBlock units start class 0 → next.counts ≡ lives.counts → next.normal ≡ lives.normal →
    ((c s : ℕ) → is_unfit next.unfit c s ≡ (if s == start && c == class then true else is_unfit lives.unfit c s)) → AreNotedBesides old units class next
noted_more {old} {lives} {next} {units} {class} start so_far none counts normal noted = record {
  same = λ i. record { counts = (counts ∙ ap (λ (l : Lives). l.counts) so_far.same) i; normal = (normal ∙ ap (λ (l : Lives). l.normal) so_far.same) i; unfit = next.unfit };
  each = λ c s known. by c s (s == start && c == class) refl known;
}
  where
    unready : ¬ (HasClearBlock units class start)
    unready ready = none.none ready.number (omega arith) ready.within ready.clear

    by : (c s : ℕ) (b : Bool) → (s == start && c == class) ≡ b → is_unfit next.unfit c s ≡ true → (is_unfit old.unfit c s ≡ true) ⊎ ((c ≡ class) × ¬ (HasClearBlock units class s))
    by c s true is known = let parts = and_parts (s == start) (c == class) is in inr (eqb-true c class parts.1, subst (λ k. ¬ (HasClearBlock units class k)) (sym (eqb-true s start parts.0)) unready)
    by c s false is known = so_far.each c s (sym (noted c s ∙ ap (λ b. if b then true else is_unfit lives.unfit c s) is) ∙ known)

-- a candidate that comes once one was noted is nearer to the end
pub smaller : (old lives next : Lives) (units : Units) (class : ℕ) (found : Candidate) (later : Option Candidate) → AreNotedBesides old units class lives → length old.counts ≤ 4096 → IsFirstSparse lives class found → found.start < length lives.counts → next.counts ≡ lives.counts → next.normal ≡ lives.normal →
    ((c s : ℕ) → is_unfit next.unfit c s ≡ (if s == found.start && c == class then true else is_unfit lives.unfit c s)) → MatchOption later (HasNoSparse next class) (IsFirstSparse next class) → IfSome later (λ more. more.start < length next.counts) → left_behind later < left_behind (Some found)
smaller old lives next units class found later so_far few first inside counts normal noted second within =
    nearer lives next class found later first (omega (arith, few, ap (λ (l : Lives). length l.counts) so_far.same)) inside counts normal noted second within

-- the choice of the machine

module _ {b : Bounds} {m : Machine} {x : Indexes} (apart : IsOverlapFree b m) (are : AreIndexesOf b m x) (class : ℕ) (is_class : class < 36) where
  -- a sparse slab, by the state
  pub sparse_slab : (s n : ℕ) (sparse : IsSparse x.lives class s n) → (m.slab s ≡ Some sparse.own) × ¬ (IsInTransition m s) × (n ≡ live_below m.block s b.roots)
  sparse_slab s n sparse =
      let normal = (are.lives.normal s sparse.own).0 sparse.slab in
      (normal.0, normal.1, sparse.count ∙ are.lives.counts s sparse.own normal.0)

  -- a fit slab was not found unfit
  sought : (s : ℕ) → IsFit (slab_view (view_of b m)) class s → is_unfit x.lives.unfit class s ≡ false
  sought s fit = false_from_ne_true (is_unfit x.lives.unfit class s) (λ noted. are.lives.unfit s fit.class class fit.number fit.slab is_class noted fit.block.within fit.block.unused)

  -- so it is sparse, and it has a clear block
  sparse_of_fit : (s : ℕ) (fit : IsFit (slab_view (view_of b m)) class s) → IsSparse x.lives class s (live_below m.block s b.roots)
  sparse_of_fit s fit = record {
    own = fit.class;
    slab = (are.lives.normal s fit.class).1 (fit.slab, fit.no_transition);
    count = sym (are.lives.counts s fit.class fit.slab);
    differs = fit.differs;
    few = fit.few;
    sparse = fit.sparse;
    sought = sought s fit;
  }

  clear_of_fit : (s : ℕ) → IsFit (slab_view (view_of b m)) class s → HasClearBlock x.units class s
  clear_of_fit s fit = record {
    number = fit.number;
    within = fit.block.within;
    clear = (law_of_unused_blocks b m x.units s fit.class class fit.number are.units apart fit.slab is_class fit.block.within).1 fit.block.unused;
  }

  pub no_fit_slab : HasNoReady x.lives x.units class → HasNoFitSlab (slab_view (view_of b m)) class
  no_fit_slab none = record { none = λ s fit. none.none s (live_below m.block s b.roots) (sparse_of_fit s fit) (clear_of_fit s fit) }

  pub best_slab : (start : ℕ) → IsFirstReady x.lives x.units class start → IsBestSlab (slab_view (view_of b m)) class start
  best_slab start ready =
      let parts = sparse_slab start ready.live ready.is in
      let live = parts.2 in
      record {
        fit = record {
          class = ready.is.own;
          slab = parts.0;
          no_transition = parts.1;
          differs = ready.is.differs;
          few = omega (arith, live, ready.is.few);
          sparse = omega (arith, live, ready.is.sparse);
          number = ready.clear.number;
          block = record { within = ready.clear.within; unused = (law_of_unused_blocks b m x.units start ready.is.own class ready.clear.number are.units apart parts.0 is_class ready.clear.within).0 ready.clear.clear };
        };
        fewest = λ t fit. ⊎_elim
            (λ less. absurd (ready.first t (live_below m.block t b.roots) (sparse_of_fit t fit) (clear_of_fit t fit) (inl (omega (arith, less, live)))))
            (λ most. most)
            (cases_lt (live_below m.block t b.roots) (live_below m.block start b.roots));
        lowest = λ t fit same. ⊎_elim
            (λ less. absurd (ready.first t (live_below m.block t b.roots) (sparse_of_fit t fit) (clear_of_fit t fit) (inr (same ∙ sym live, less))))
            (λ most. most)
            (cases_lt t start);
      }

  -- with more slabs noted they are indexes of the state still
  pub noted_indexes : (lives : Lives) → AreNotedBesides x.lives x.units class lives → AreIndexesOf b m (record x { lives = lives })
  noted_indexes lives noted = subst (λ (l : Lives). AreIndexesOf b m (record x { lives = l })) (sym noted.same) (record {
    sized = record { least = are.sized.least; most = are.sized.most; first = are.sized.first; roots = are.sized.roots; free = are.sized.free; slabs = are.sized.slabs; counts = are.sized.counts; strangers = are.sized.strangers; units = are.sized.units };
    placed = are.placed;
    free = are.free;
    supply = are.supply;
    lives = record {
      counts = are.lives.counts;
      none = are.lives.none;
      normal = λ s c. (λ is. (are.lives.normal s c).0 (same_normal x.lives (record x.lives { unfit = lives.unfit }) refl s ∙ is), λ is. sym (same_normal x.lives (record x.lives { unfit = lives.unfit }) refl s) ∙ (are.lives.normal s c).1 is);
      unfit = λ s own c i slab known told within unused. ⊎_elim
          (λ was. are.lives.unfit s own c i slab known was within unused)
          (λ here. here.1 (record { number = i; within = subst (λ k. i < class_capacity k) here.0 within; clear = (law_of_unused_blocks b m x.units s own class i are.units apart slab is_class (subst (λ k. i < class_capacity k) here.0 within)).1 (subst (λ k. IsUnused m (slab_block s k i)) here.0 unused) }))
          (noted.each c s told);
    };
    strangers = are.strangers;
    units = are.units;
  })
