-- Sites of a malloc: two for one request that begin at one address are one block and leave the same slabs, and none is
-- where there is said to be none.
use Rattle.std.proofs.Common.{◌≡◌, ◌≢◌, ◌⊎◌, ℕ, ◌<◌, ◌≤◌, ◌-◌, ◌*◌, ◌/◌, Option, Some, None, inl, inr, refl, sym, ap, ◌∙◌, subst, arith, ⊎_elim}
use Rattle.std.proofs.lemmas.Bool.{cases_lt}
use Rattle.std.proofs.lemmas.List.{get_or_past}
use Rattle.size_classes.specs.Classes.{sizes, class_capacity, class_size, IsClassOf}
use Rattle.size_classes.proofs.Spacing.{class_size-most}
use Rattle.heap_model.specs.declared.call.Call.TheVariants.{Malloc}
use Rattle.heap_model.specs.declared.call.Reply.{Reply}
use Rattle.heap_model.specs.declared.call.Reply.TheVariants.{Placed, NoSpace}
use Rattle.heap_model.specs.Machine.{Bounds, Machine, slab_block, with_key}
use Rattle.heap_model.specs.Slabs.{view_of}
use Rattle.heap_model.specs.Step.{IsRefused, IsGrant, with_block, IsStep}
use Rattle.heap_model.specs.Runs.{IsFreeRun, IsBestFit}
use Rattle.heap_model.specs.Choice.{View, HasUnusedBlock, IsBestSlab, Site, range_of, slabs_with, IsSite, HasNoSite, block_view, slab_view}
use Rattle.heap_model.specs.Choice.Site.{Granules, InSlab, InMorph, InNewSlab}

-- the best fit is one
pub best_once : (Vacant : ℕ → Type 0) (n start other : ℕ) → IsBestFit Vacant n start → IsBestFit Vacant n other → start ≡ other
best_once Vacant n start other one two =
    let same : one.length ≡ two.length = omega (arith, one.shortest other two.length two.run two.enough, two.shortest start one.length one.run one.enough) in
    omega (arith, one.lowest other (subst (λ (long : ℕ). IsFreeRun Vacant other long) (sym same) two.run), two.lowest start (subst (λ (long : ℕ). IsFreeRun Vacant start long) same one.run))

-- only a class has blocks in a slab
pub class_known : (class number : ℕ) → number < class_capacity class → class < 36
unfolding class_size sizes
class_known class number below = ⊎_elim
    (λ (is : class < 36). is)
    (λ (past : 36 ≤ class).
    let none : class_size class ≡ 0 = get_or_past sizes class 0 past in
    let empty : class_capacity class ≡ 0 = ap (λ n. 63488 / n) none in
    absurd (omega (arith, below, empty)))
    (cases_lt class 36)

-- numbers are equal where neither is below the other
pub neither_below : (a b : ℕ) → ¬ (a < b) → ¬ (b < a) → a ≡ b
neither_below a b one two = ⊎_elim
    (λ (less : a < b). absurd (one less))
    (λ (from : b ≤ a). ⊎_elim (λ (less : b < a). absurd (two less)) (λ (to : a ≤ b). omega arith) (cases_lt b a))
    (cases_lt a b)

-- the least class is one
pub class_once : (size c d : ℕ) → IsClassOf size c → IsClassOf size d → c ≡ d
class_once size c d p q = neither_below c d (λ less. omega (arith, q.least c less, p.holds)) (λ less. omega (arith, p.least d less, q.holds))

-- no size has a class and is above the largest
pub class_small : (size c : ℕ) → IsClassOf size c → 16384 < size → ⊥
class_small size c least large = omega (arith, least.holds, class_size-most c least.is_class)

-- the best slab is one
pub best_slab_once : (v : View) (c s t : ℕ) → IsBestSlab (slab_view v) c s → IsBestSlab (slab_view v) c t → s ≡ t
best_slab_once v c s t one two =
    let same : v.live t ≡ v.live s = omega (arith, one.fewest t two.fit, two.fewest s one.fit) in
    omega (arith, one.lowest t two.fit same, two.lowest s one.fit (sym same))

-- blocks of one class at one address are one
pub block_once : (s t c d i j : ℕ) → (slab_block s c i).at ≡ (slab_block t d j).at → c ≡ d → slab_block s c i ≡ slab_block t d j
block_once s t c d i j at class = λ k. record { at = at k; size = class_size (class k) }

-- what is asked of two sites that are one
abbrev pub AreOne : (ℕ → Option ℕ) → Site → Site → Type 0
AreOne slab one other = (range_of one ≡ range_of other) × (slabs_with slab one ≡ slabs_with slab other)

-- a slab that takes a class
slab_once : (slab : ℕ → Option ℕ) (s t c d : ℕ) → s ≡ t → c ≡ d → with_key slab s (Some c) ≡ with_key slab t (Some d)
slab_once slab s t c d start class = λ k. with_key slab (start k) (Some (class k))

module _ (v : View) (size : ℕ) where
  -- no class has an unused block and has none
  full_not : (c d : ℕ) → IsClassOf size c → IsClassOf size d → HasUnusedBlock (block_view v) c → ¬ (HasUnusedBlock (block_view v) d) → ⊥
  full_not c d one two has full = full (subst (λ (k : ℕ). HasUnusedBlock (block_view v) k) (class_once size c d one two) has)

  -- nor a best slab where none is fit, and the best slabs of two least classes are one
  best_same : (c d s t : ℕ) → IsClassOf size c → IsClassOf size d → IsBestSlab (slab_view v) c s → IsBestSlab (slab_view v) d t → s ≡ t
  best_same c d s t one two best other = best_slab_once v c s t best (subst (λ (k : ℕ). IsBestSlab (slab_view v) k t) (sym (class_once size c d one two)) other)

  pub site_once : (one other : Site) → IsSite v size one → IsSite v size other → ((class : ℕ) → IsClassOf size class → (range_of one).at ≡ (range_of other).at) → AreOne v.slab one other
  site_once (Granules s n) (Granules t k) a c at =
      let count : n ≡ k = a.count_is ∙ sym c.count_is in
      let start : s ≡ t = best_once v.free n s t a.fit (subst (λ (x : ℕ). IsBestFit v.free x t) (sym count) c.fit) in
      (λ i. record { at = 16384 * start i; size = 16384 * count i }, refl)
  site_once (Granules s n) (InSlab t d j) a c at = absurd (class_small size d c.least a.large)
  site_once (Granules s n) (InMorph t d j) a c at = absurd (class_small size d c.least a.large)
  site_once (Granules s n) (InNewSlab t d j) a c at = absurd (class_small size d c.least a.large)
  site_once (InSlab s d i) (Granules t k) a c at = absurd (class_small size d a.least c.large)
  site_once (InMorph s d i) (Granules t k) a c at = absurd (class_small size d a.least c.large)
  site_once (InNewSlab s d i) (Granules t k) a c at = absurd (class_small size d a.least c.large)
  site_once (InSlab s e i) (InSlab t d j) a c at = (block_once s t e d i j (at e a.least) (class_once size e d a.least c.least), refl)
  site_once (InSlab s e i) (InMorph t d j) a c at = absurd (full_not e d a.least c.least (record { start = s; slab = a.slab; number = i; block = a.block }) c.full)
  site_once (InSlab s e i) (InNewSlab t d j) a c at = absurd (full_not e d a.least c.least (record { start = s; slab = a.slab; number = i; block = a.block }) c.full)
  site_once (InMorph s e i) (InSlab t d j) a c at = absurd (full_not d e c.least a.least (record { start = t; slab = c.slab; number = j; block = c.block }) a.full)
  site_once (InNewSlab s e i) (InSlab t d j) a c at = absurd (full_not d e c.least a.least (record { start = t; slab = c.slab; number = j; block = c.block }) a.full)
  site_once (InMorph s e i) (InMorph t d j) a c at =
      let class = class_once size e d a.least c.least in
      (block_once s t e d i j (at e a.least) class, slab_once v.slab s t e d (best_same e d s t a.least c.least a.best c.best) class)
  site_once (InMorph s e i) (InNewSlab t d j) a c at = absurd (c.no_fit.none s (subst (λ (k : ℕ). IsBestSlab (slab_view v) k s) (class_once size e d a.least c.least) a.best).fit)
  site_once (InNewSlab s e i) (InMorph t d j) a c at = absurd (a.no_fit.none t (subst (λ (k : ℕ). IsBestSlab (slab_view v) k t) (class_once size d e c.least a.least) c.best).fit)
  site_once (InNewSlab s e i) (InNewSlab t d j) a c at =
      let class = class_once size e d a.least c.least in
      (block_once s t e d i j (at e a.least) class, slab_once v.slab s t e d (best_once v.free 4 s t a.fit c.fit) class)

  -- no request has a site and has none
  pub site_apart : (site : Site) → IsSite v size site → HasNoSite v size → ⊥
  site_apart (Granules s n) is none = ⊎_elim
      (λ small. class_small size small.class small.least is.large)
      (λ large. omega (arith, is.fit.enough, is.count_is, large.no_run.none s is.fit.length is.fit.run))
      none
  site_apart (InSlab s c i) is none = ⊎_elim
      (λ small. full_not c small.class is.least small.least (record { start = s; slab = is.slab; number = i; block = is.block }) small.full)
      (λ large. class_small size c is.least large.large)
      none
  site_apart (InMorph s c i) is none = ⊎_elim
      (λ small. small.no_fit.none s (subst (λ (k : ℕ). IsBestSlab (slab_view v) k s) (class_once size c small.class is.least small.least) is.best).fit)
      (λ large. class_small size c is.least large.large)
      none
  site_apart (InNewSlab s c i) is none = ⊎_elim
      (λ small. omega (arith, is.fit.enough, small.no_run.none s is.fit.length is.fit.run))
      (λ large. class_small size c is.least large.large)
      none

-- a request that passes the tests is granted a site, or finds none
module _ (b : Bounds) (m : Machine) (root size : ℕ) (below : root < b.roots) (none : m.block root ≡ None) (some : size ≢ 0) (most : size ≤ (b.granules - b.first) * 16384) where
  abbrev pub Rest : Reply → Machine → Type 0
  Rest reply next = IsGrant b m root size reply next ⊎ (HasNoSite (view_of b m) size × IsRefused m NoSpace reply next)

  asked : (reply : Reply) (next : Machine) → Rest reply next → IsStep b m (Malloc root size) reply next
  asked reply next rest = inr (λ past. omega (arith, past, below), inr (λ held. absurd (let named = held.named in cc), inr (some, inr (λ large. omega (arith, large, most), rest))))

  pub IsStep-granted : (site : Site) → IsSite (view_of b m) size site → IsStep b m (Malloc root size) (Placed (range_of site).at (range_of site).size) (with_block m root site)
  IsStep-granted site is = asked _ _ (inl (record { site = site; chosen = is; is = refl; after = refl }))

  pub IsStep-no_space : HasNoSite (view_of b m) size → IsStep b m (Malloc root size) NoSpace m
  IsStep-no_space lacks = asked _ _ (inr (lacks, (refl, refl)))
