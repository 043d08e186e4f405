-- What a malloc takes of the stacks, and what a free puts back, is what the placement says.
use Rattle.std.proofs.Common.{◌≡◌, ◌⊎◌, ◌↔◌, not, ℕ, ◌+◌, ◌*◌, ◌<◌, ◌≤◌, [], Option, Some, None, refl, sym, ap, ◌∙◌, subst, inl, inr, ⊎_elim, length}
use Rattle.std.specs.List.{filter}
use Rattle.heap_indexes.proofs.Common.{class_size, class_capacity, IsClassOf, granules_of, Bounds, Machine, Range, with_key, slab_block, IsBlockOf, IsOverlapFree, IsBestFit, HasNoFit, IsBestFit-same, HasNoFit-same, IsFreeGranule, HasNoSite, block_view, view_of, with_class, Stacks, without_slab, without_left, IsReturned, IsKeepable, class_small, FreeSet, IsFree, stacks_of, SlabBlock, HasNoOpen, HasSlabMore, Indexes, AreIndexesOf, HasChanged, fit_free}
use Rattle.heap_model.specs.Choice.{HasUnusedBlock}
use Rattle.heap_model.specs.Choice.Site.{Granules, InSlab, InMorph, InNewSlab}
use Rattle.heap_model.specs.Slabs.{is_within}
use Rattle.heap_model.proofs.LeftSlabs.{not_kept, purged_put, one_left, within, below, one_home, none_left}
use Rattle.block_supply.proofs.Ways.{way_there, way_anew, refill_anew}
use Rattle.block_supply.proofs.Takes.{none_open}
use Rattle.heap_indexes.specs.Fitting.{HasNoReady, IsFirstReady}
use Rattle.heap_indexes.specs.Steps.{HasPlaced, IsPlacedIn, site_of}
use Rattle.heap_indexes.specs.declared.answer.Place.{Place}
use Rattle.heap_model.specs.Choice.{range_of}
use Rattle.heap_model.specs.Step.{with_block}
use Rattle.heap_model.specs.Placement.{IsStacked}
use Rattle.heap_model.specs.declared.call.Call.TheVariants.{Malloc}
use Rattle.heap_model.specs.declared.call.Reply.TheVariants.{Placed}
use Rattle.block_supply.specs.Supply.{Supply}
use Rattle.heap_indexes.specs.Kept.{HasTaken, IsPutBack}
use Rattle.heap_indexes.proofs.Machines.{some_same}
use Rattle.heap_indexes.proofs.BestSlabs.{no_fit_slab, best_slab}
use Rattle.heap_indexes.proofs.Placed.{slab_of, granules_indexes, apart_opened, apart_changed, unused_fresh}
use Rattle.heap_indexes.proofs.Supplies.{agree_by, changed_here, changed_others, changed_classes}
use Rattle.heap_model.specs.Placement.{IsRefill}

module _ {b : Bounds} {m : Machine} {x : Indexes} (apart : IsOverlapFree b m) (are : AreIndexesOf b m x) (size : ℕ) where
  -- whole granules

  pub no_site_large : (n : ℕ) → 16384 < size → n ≡ granules_of size → HasNoFit (IsFree x.free) n → HasNoSite (view_of b m) size
  no_site_large n large is none = inr (record { large = large; no_run = subst (λ k. HasNoFit (IsFreeGranule b m) k) is (HasNoFit-same (IsFree x.free) (IsFreeGranule b m) n are.free.each none) })

  pub placed_large : (free : FreeSet) (seat start n : ℕ) → 2 ≤ n → 16384 < size → n ≡ granules_of size → IsBestFit (IsFree x.free) n start → free.granules ≡ x.free.granules →
      ((k : ℕ) → IsFree free k ↔ (IsFree x.free k × ((k < start) ⊎ (start + n ≤ k)))) → HasPlaced b m seat size x (Granules start n) (record x { free = free })
  placed_large free seat start n many large is fit granules taken = record {
    chosen = record { large = large; count_is = is; fit = IsBestFit-same (IsFree x.free) (IsFreeGranule b m) n start are.free.each fit };
    indexes = λ root below none. granules_indexes apart are free start n root below none many granules taken (λ k low high. fit_free (IsFree x.free) n start k fit low high);
    stacked = λ root. inr (λ gave. class_small size gave.class gave.least large, refl);
  }

  -- blocks of slabs

  module _ (class : ℕ) (least : IsClassOf size class) where
    full_by : HasNoOpen x.supply class → ¬ (HasUnusedBlock (block_view (view_of b m)) class)
    full_by none has = none_open x.supply class none has.start has.number (are.supply.classes has.start ∙ has.slab) ((are.supply.blocks has.start class has.number has.slab has.block.within).1 has.block.unused)

    pub no_site_small : HasNoOpen x.supply class → HasNoReady x.lives x.units class → HasNoFit (IsFree x.free) 4 → HasNoSite (view_of b m) size
    no_site_small none ready no_run = inl (record {
      class = class;
      least = least;
      full = full_by none;
      no_fit = no_fit_slab apart are class least.is_class ready;
      no_run = HasNoFit-same (IsFree x.free) (IsFreeGranule b m) 4 are.free.each no_run;
    })

    -- one that is open
    pub placed_there : (seat : ℕ) (block : SlabBlock) (new : Indexes) → HasTaken x seat class block new → HasPlaced b m seat size x (InSlab block.start class block.number) new
    placed_there seat block new taken =
        let took = taken.took in
        let home = slab_of apart are block.start class took.slab in
        record {
          chosen = record { least = least; slab = home.slab; block = record { within = took.within; unused = (are.supply.blocks block.start class block.number home.slab took.within).0 took.was_open } };
          indexes = λ root below none. taken.indexes b m apart are root below none;
          stacked = λ root. inl (
            record { class = class; least = least; at = (slab_block block.start class block.number).at; given = class_size class; is = refl },
            way_there b m x.supply new.supply seat class (agree_by b m x.supply are.supply) block took,
          );
        }

    -- one of a slab that was made
    pub placed_fresh : (seat start number : ℕ) (mid new : Indexes) → HasNoOpen x.supply class → HasNoReady x.lives x.units class → IsBestFit (IsFree x.free) 4 start → AreIndexesOf b (with_class m start class) mid →
        HasSlabMore x.supply mid.supply start class (λ i. i < class_capacity class) → HasTaken mid seat class (record { start = start; number = number }) new → HasPlaced b m seat size x (InNewSlab start class number) new
    placed_fresh seat start number mid new none ready fit are_mid more taken =
        let took = taken.took in
        let vacant = IsBestFit-same (IsFree x.free) (IsFreeGranule b m) 4 start are.free.each fit in
        let no_fit = no_fit_slab apart are class least.is_class ready in
        let bare : (other : ℕ) → stacks_of mid.supply.stacks other class ≡ [] = λ other. ap (λ t. stacks_of t other class) more.stacks ∙ none.empty other in
        let refill = refill_anew b m x.supply new.supply seat class (agree_by b m x.supply are.supply) start number mid.supply more.classes
        (λ i inside. (λ _. unused_fresh apart are start class i fit inside, λ _. (more.here i).1 inside)) more.others bare took in
        record {
          chosen = record { least = least; full = full_by none; no_fit = no_fit; fit = vacant; within = took.within };
          indexes = λ root below unnamed. taken.indexes b (with_class m start class) (apart_opened apart are start class fit) are_mid root below unnamed;
          stacked = λ root. inl (
            record { class = class; least = least; at = (slab_block start class number).at; given = class_size class; is = refl },
            way_anew b m x.supply new.supply seat class (agree_by b m x.supply are.supply) none (slab_block start class number).at (inr (record { no_fit = no_fit; start = start; fit = vacant; refill = subst (λ s. IsRefill (block_view (view_of b (with_class m start class))) s seat class (slab_block start class number).at (stacks_of new.supply.stacks)) (ap stacks_of more.stacks) refill })),
          );
        }

    -- one of a slab that took the class
    pub placed_morph : (seat start number : ℕ) (mid new : Indexes) → HasNoOpen x.supply class → IsFirstReady x.lives x.units class start → AreIndexesOf b (with_class m start class) mid → HasChanged x.units x.supply start class mid.supply →
        HasTaken mid seat class (record { start = start; number = number }) new → HasPlaced b m seat size x (InMorph start class number) new
    placed_morph seat start number mid new none ready are_mid changed taken =
        let took = taken.took in
        let best = best_slab apart are class least.is_class start ready in
        let stacks : stacks_of mid.supply.stacks ≡ without_slab (stacks_of x.supply.stacks) start = ap stacks_of changed.came.stacks ∙ changed.gone.stacks in
        let bare : (other : ℕ) → stacks_of mid.supply.stacks other class ≡ [] = λ other. ap (λ (s : Stacks). s other class) stacks ∙ ap (filter (λ at. not (is_within start at))) (none.empty other) in
        let here = changed_here x.units x.supply mid.supply start class best.fit.class apart are.units best.fit.slab changed in
        let refill = refill_anew b m x.supply new.supply seat class (agree_by b m x.supply are.supply) start number mid.supply (changed_classes x.units x.supply mid.supply start class changed) here (changed_others x.units x.supply mid.supply start class changed) bare took in
        record {
          chosen = record { least = least; full = full_by none; best = best; block = record { within = took.within; unused = (here number took.within).0 took.was_open } };
          indexes = λ root below unnamed. taken.indexes b (with_class m start class) (apart_changed apart are start class ready) are_mid root below unnamed;
          stacked = λ root. inl (
            record { class = class; least = least; at = (slab_block start class number).at; given = class_size class; is = refl },
            way_anew b m x.supply new.supply seat class (agree_by b m x.supply are.supply) none (slab_block start class number).at (inl (record { start = start; best = best; refill = subst (λ s. IsRefill (block_view (view_of b (with_class m start class))) s seat class (slab_block start class number).at (stacks_of new.supply.stacks)) stacks refill })),
          );
        }

-- free

module _ (b : Bounds) (m : Machine) (apart : IsOverlapFree b m) (start class : ℕ) (range : Range) (slab : m.slab start ≡ Some class) (low : 16384 * start ≤ range.at) (high : range.at < 16384 * start + 65536) where
  -- its slab went
  pub returned_left : (next : Machine) (stacks mid after : Stacks) (seat : ℕ) → ((s : ℕ) → next.slab s ≡ with_key m.slab start None s) → IsPutBack stacks seat class range mid → after ≡ without_slab mid start →
      IsReturned next (without_left b m next stacks) seat range after
  returned_left next stacks mid after seat left put is = inr (
    not_kept b m apart start class range slab low high next (without_left b m next stacks) seat left,
    is ∙ ⊎_elim
        (λ own. ⊎_elim
        (λ on. ap (λ (s : Stacks). without_slab s start) on.1 ∙ purged_put stacks seat class range.at start (within b m apart start class range slab low high))
        (λ full. ap (λ (s : Stacks). without_slab s start) full.1)
        own.1)
        (λ other. ap (λ (s : Stacks). without_slab s start) other.1)
        put ∙ sym (one_left b m next stacks start class (below b m apart start class range slab low high) slab left),
  )

  -- its slab stays
  pub returned_stayed : (next : Machine) (stacks after : Stacks) (seat : ℕ) → ((s : ℕ) → next.slab s ≡ m.slab s) → (range.size ≡ class_size class → IsBlockOf start class range) → IsPutBack stacks seat class range after →
      IsReturned next (without_left b m next stacks) seat range after
  returned_stayed next stacks after seat same block put =
      subst (λ (s : Stacks). IsReturned next s seat range after) (sym (none_left b m next stacks same)) (⊎_elim
      (λ own. ⊎_elim
      (λ on. inl (record { start = start; class = class; slab = same start ∙ slab; block = block own.0; room = on.0 }, on.1))
      (λ full. inr (λ (keep : IsKeepable next stacks seat range). full.0 (subst (λ k. length (stacks seat k) < 8) (class_kept keep) keep.room), full.1))
      own.1)
      (λ other. inr (λ (keep : IsKeepable next stacks seat range). other.0 (ap (λ (r : Range). r.size) keep.block.is ∙ ap class_size (class_kept keep)), other.1))
      put)
    where
      class_kept : (keep : IsKeepable next stacks seat range) → keep.class ≡ class
      class_kept keep =
          let home = one_home b m apart start class range slab low high keep.start keep.class (sym (same keep.start) ∙ keep.slab) keep.block in
          some_same keep.class class (sym (ap m.slab (sym home) ∙ sym (same keep.start) ∙ keep.slab) ∙ slab)

-- what was found where more slabs were noted
pub placed_noted : (b : Bounds) (m : Machine) (seat size : ℕ) (old mid new : Indexes) (found : Option Place) → mid.supply ≡ old.supply → IsPlacedIn b m seat size mid found new → IsPlacedIn b m seat size old found new
placed_noted b m seat size old mid new None same placed = record { none = placed.none; indexes = placed.indexes; supply = placed.supply ∙ same }
placed_noted b m seat size old mid new (Some place) same placed = record {
  chosen = placed.chosen;
  indexes = placed.indexes;
  stacked = λ root. subst (λ (s : Supply). IsStacked b seat (record { machine = m; stacks = stacks_of s.stacks }) (Malloc root size) (Placed (range_of (site_of place)).at (range_of (site_of place)).size) (record { machine = with_block m root (site_of place); stacks = stacks_of new.supply.stacks })) same (placed.stacked root);
}
