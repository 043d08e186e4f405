-- Two views that say the same have the same sites, and none for the same requests.
use Rattle.std.proofs.Common.{◌≡◌, ◌↔◌, ◌<◌, ℕ, Some, sym, ◌∙◌, arith, ⊎_elim, inl, inr}
use Rattle.size_classes.specs.Classes.{class_capacity, granules_of}
use Rattle.heap_model.specs.Choice.{View, IsUnusedBlock, HasUnusedBlock, IsFit, IsBestSlab, HasNoFitSlab, Site, IsSite, HasNoSite, block_view, slab_view}
use Rattle.heap_model.specs.Choice.Site.{Granules, InSlab, InMorph, InNewSlab}
use Rattle.heap_model.proofs.Fits.{IsBestFit-same, HasNoFit-same}

-- two views say the same of all that a choice looks at
pub record Agree (v w : View) : Type 0 where
  pub free : (k : ℕ) → v.free k ↔ w.free k
  pub slab : (s : ℕ) → v.slab s ≡ w.slab s
  pub unused : (s class c number : ℕ) → v.slab s ≡ Some class → number < class_capacity c → v.unused s c number ↔ w.unused s c number
  pub live : (s : ℕ) → v.live s ≡ w.live s
  pub in_transition : (s class : ℕ) → v.slab s ≡ Some class → v.in_transition s ↔ w.in_transition s

-- the other way round
other_way : {A B : Type 0} → A ↔ B → B ↔ A
other_way same = (same.1, same.0)

pub Agree-back : (v w : View) → Agree v w → Agree w v
Agree-back v w agree = record {
  free = λ k. other_way (agree.free k);
  slab = λ s. sym (agree.slab s);
  unused = λ s class c number slab within. other_way (agree.unused s class c number (agree.slab s ∙ slab) within);
  live = λ s. sym (agree.live s);
  in_transition = λ s class slab. other_way (agree.in_transition s class (agree.slab s ∙ slab));
}

module _ (v w : View) (agree : Agree v w) where
  pub unused_block : (s class c number : ℕ) → v.slab s ≡ Some class → IsUnusedBlock (block_view v) s c number → IsUnusedBlock (block_view w) s c number
  unused_block s class c number slab block = record { within = block.within; unused = (agree.unused s class c number slab block.within).0 block.unused }

  has_unused : (c : ℕ) → HasUnusedBlock (block_view v) c → HasUnusedBlock (block_view w) c
  has_unused c has = record { start = has.start; slab = sym (agree.slab has.start) ∙ has.slab; number = has.number; block = unused_block has.start c c has.number has.slab has.block }

  pub fits : (c s : ℕ) → IsFit (slab_view v) c s → IsFit (slab_view w) c s
  fits c s fit =
      let live = agree.live s in
      record {
        class = fit.class;
        slab = sym (agree.slab s) ∙ fit.slab;
        no_transition = λ moving. fit.no_transition ((agree.in_transition s fit.class fit.slab).1 moving);
        differs = fit.differs;
        few = omega (arith, fit.few, live);
        sparse = omega (arith, fit.sparse, live);
        number = fit.number;
        block = unused_block s fit.class c fit.number fit.slab fit.block;
      }

module _ (v w : View) (agree : Agree v w) where
  back : Agree w v
  back = Agree-back v w agree

  full : (c : ℕ) → ¬ (HasUnusedBlock (block_view v) c) → ¬ (HasUnusedBlock (block_view w) c)
  full c none has = none (has_unused w v back c has)

  pub best_slab : (c s : ℕ) → IsBestSlab (slab_view v) c s → IsBestSlab (slab_view w) c s
  best_slab c s best = record {
    fit = fits v w agree c s best.fit;
    fewest = λ t fit. omega (arith, best.fewest t (fits w v back c t fit), agree.live s, agree.live t);
    lowest = λ t fit same. best.lowest t (fits w v back c t fit) (agree.live t ∙ same ∙ sym (agree.live s));
  }

  pub no_fit_slab : (c : ℕ) → HasNoFitSlab (slab_view v) c → HasNoFitSlab (slab_view w) c
  no_fit_slab c none = record { none = λ s fit. none.none s (fits w v back c s fit) }

  pub IsSite-same : (size : ℕ) (site : Site) → IsSite v size site → IsSite w size site
  IsSite-same size (Granules start count) is = record { large = is.large; count_is = is.count_is; fit = IsBestFit-same v.free w.free count start agree.free is.fit }
  IsSite-same size (InSlab start class number) is = record { least = is.least; slab = sym (agree.slab start) ∙ is.slab; block = unused_block v w agree start class class number is.slab is.block }
  IsSite-same size (InMorph start class number) is =
      record { least = is.least; full = full class is.full; best = best_slab class start is.best; block = unused_block v w agree start is.best.fit.class class number is.best.fit.slab is.block }
  IsSite-same size (InNewSlab start class number) is =
      record { least = is.least; full = full class is.full; no_fit = no_fit_slab class is.no_fit; fit = IsBestFit-same v.free w.free 4 start agree.free is.fit; within = is.within }

  pub HasNoSite-same : (size : ℕ) → HasNoSite v size → HasNoSite w size
  HasNoSite-same size none = ⊎_elim
      (λ small. inl (record { class = small.class; least = small.least; full = full small.class small.full; no_fit = no_fit_slab small.class small.no_fit; no_run = HasNoFit-same v.free w.free 4 agree.free small.no_run }))
      (λ large. inr (record { large = large.large; no_run = HasNoFit-same v.free w.free (granules_of size) agree.free large.no_run }))
      none
