-- What a malloc takes of the stacks, and what a free puts back, is what the placement says.
use Rattle.std.proofs.Common.{◌≡◌, ◌≢◌, ◌==◌, not, ℕ, ◌+◌, ◌*◌, ◌<◌, ◌≤◌, ◌↔◌, Bool, true, false, [], Option, Some, None, if◌then◌else◌, sym, ap, ◌∙◌, subst, arith, inl, inr, ⊎_elim}
use Rattle.arena_core.proofs.Common.{cases_lt, class_size, class_capacity, class_size-rises, Bounds, Range, Machine, with_key, slab_block, IsUnused, IsFreeGranule, IsBestFit, IsBestSlab, HasNoFitSlab, view_of, class_known, class_in, stacks_of, Supply, supply_view, HasNoOpen, Tables, IsUnusedIn, stacks_but, HasSlabMore, HasSlabLess, IsPutOn, TookBlock, Stacks, without_left, IsReturned, AgreeOnBlocks, with_key-twice, block_view, slab_view}
use Rattle.std.specs.List.{filter}
use Rattle.heap_model.specs.Machine.{IsBlockOf, IsOverlapFree}
use Rattle.heap_model.specs.Slabs.{is_within}
use Rattle.heap_model.specs.Placement.{without_slab, IsWay, IsKeepable}
use Rattle.heap_model.proofs.LeftSlabs.{not_kept, purged_put, one_left, within, below, one_home, none_left}
use Rattle.block_supply.proofs.Ways.{refill_anew, way_anew}

-- a block of a slab came back from a seat, and its slab went, or not
pub record IsPutBack (was : Stacks) (seat class at start : ℕ) (gone : Bool) (after : Stacks) : Type 0 where
  pub mid : Stacks
  pub put : IsPutOn was seat class at mid
  pub left : after ≡ stacks_but mid start gone

-- a slab of the class came into the supply, in which these blocks are open, and one of them was taken for a seat
pub record IsSuppliedAnew (old new : Supply) (seat start class number : ℕ) (Opens : ℕ → Type 0) : Type 0 where
  pub mid : Supply
  pub more : HasSlabMore old mid start class Opens
  pub took : TookBlock mid seat class (record { start = start; number = number }) new

-- of a slab that is opened it is the first
abbrev pub IsSuppliedFresh : Supply → Supply → (seat start class : ℕ) → Type 0
IsSuppliedFresh old new seat start class = IsSuppliedAnew old new seat start class 0 (λ i. i < class_capacity class)

-- a slab that takes the class went out of the supply, and came back with the unused blocks of the class
pub record IsSuppliedMorph (t : Tables) (old new : Supply) (seat start class number : ℕ) : Type 0 where
  pub less : Supply
  pub gone : HasSlabLess old less start
  pub anew : IsSuppliedAnew less new seat start class number (λ i. (i < class_capacity class) × IsUnusedIn t start class i)

-- malloc

module _ (b : Bounds) (m : Machine) (was next : Supply) (seat class : ℕ) (agree : AgreeOnBlocks (supply_view was) (block_view (view_of b m))) where
  -- the first one of a new slab
  pub way_fresh : (start : ℕ) → HasNoOpen was class → HasNoFitSlab (slab_view (view_of b m)) class → IsSuppliedFresh was next seat start class → ((n : ℕ) → n < class_capacity class → IsUnused m (slab_block start class n)) → IsBestFit (IsFreeGranule b m) 4 start →
      IsWay b (record { machine = m; stacks = stacks_of was.stacks }) seat class (slab_block start class 0).at (stacks_of next.stacks)
  way_fresh start none no_fit fresh clear fit =
      let mid = fresh.mid in
      let bare : (other : ℕ) → stacks_of mid.stacks other class ≡ [] = λ other. ap (λ t. stacks_of t other class) fresh.more.stacks ∙ none.empty other in
      let refill = refill_anew b m was next seat class agree start 0 mid fresh.more.classes (λ n within. (λ is. clear n within, λ unused. (fresh.more.here n).1 within)) fresh.more.others bare fresh.took in
      grind (arith, way_anew)

  -- one of a slab that takes the class
  pub way_morph : (t : Tables) (start number : ℕ) → HasNoOpen was class → IsBestSlab (slab_view (view_of b m)) class start → IsSuppliedMorph t was next seat start class number →
      ((n : ℕ) → n < class_capacity class → IsUnusedIn t start class n ↔ IsUnused m (slab_block start class n)) → IsWay b (record { machine = m; stacks = stacks_of was.stacks }) seat class (slab_block start class number).at (stacks_of next.stacks)
  way_morph t start number none best supplied unused =
      let mid = supplied.anew.mid in
      let more = supplied.anew.more in
      let gone = supplied.gone in
      let stacks : stacks_of mid.stacks ≡ without_slab (stacks_of was.stacks) start = ap stacks_of more.stacks ∙ gone.stacks in
      let bare : (other : ℕ) → stacks_of mid.stacks other class ≡ [] = λ other. ap (λ (s : Stacks). s other class) stacks ∙ ap (filter (λ at. not (is_within start at))) (none.empty other) in
      let refill = refill_anew b m was next seat class agree start number mid
      (λ s. more.classes s ∙ ap (λ (x : Option ℕ). if s == start then Some class else x) (gone.classes s) ∙ with_key-twice (class_in was.slabs) start None (Some class) s)
      (λ n within. (λ is. (unused n within).0 ((more.here n).0 is).1, λ is. (more.here n).1 (within, (unused n within).1 is)))
      (λ s n differ. (λ is. (gone.others s n differ).0 ((more.others s n differ).0 is), λ is. (more.others s n differ).1 ((gone.others s n differ).1 is)))
      bare supplied.anew.took in
      grind (arith, way_anew)

-- free

module _ (b : Bounds) (m : Machine) (free : IsOverlapFree b m) (start class : ℕ) (range : Range) (slab : m.slab start ≡ Some class) (low : 16384 * start ≤ range.at) (high : range.at < 16384 * start + 65536) where
  -- a block of its slab's class
  pub returned_small : (next : Machine) (stacks after : Stacks) (seat : ℕ) (gone : Bool) → ((s : ℕ) → next.slab s ≡ (if gone then with_key m.slab start None else m.slab) s) → IsBlockOf start class range → IsPutBack stacks seat class range.at start gone after →
      IsReturned next (without_left b m next stacks) seat range after
  returned_small next stacks after seat true left block back = inr (
    (not_kept b m free start class range slab low high) next (without_left b m next stacks) seat left,
    back.left ∙ ⊎_elim
        (λ put. ap (λ (s : Stacks). without_slab s start) put.1 ∙ purged_put stacks seat class range.at start (within b m free start class range slab low high))
        (λ full. ap (λ (s : Stacks). without_slab s start) full.1)
        back.put ∙ sym (one_left b m next stacks start class (below b m free start class range slab low high) slab left),
  )
  returned_small next stacks after seat false left block back =
      let same = none_left b m next stacks left in
      subst (λ (s : Stacks). IsReturned next s seat range after) (sym same) (⊎_elim
      (λ put. inl (record { start = start; class = class; slab = left start ∙ slab; block = block; room = put.0 }, back.left ∙ put.1))
      (λ full. inr (
        λ (keep : IsKeepable next stacks seat range).
            let home = (one_home b m free start class range slab low high) keep.start keep.class (sym (left keep.start) ∙ keep.slab) keep.block in
            grind arith,
        back.left ∙ full.1,
      ))
      back.put)

  -- an old one goes on no stack
  pub returned_old : (next : Machine) (stacks after : Stacks) (seat old : ℕ) (gone : Bool) → ((s : ℕ) → next.slab s ≡ (if gone then with_key m.slab start None else m.slab) s) → old < 36 → old ≢ class → range.size ≡ class_size old →
      after ≡ stacks_but stacks start gone → IsReturned next (without_left b m next stacks) seat range after
  returned_old next stacks after seat old true left is_class differ wide is = inr ((not_kept b m free start class range slab low high) next (without_left b m next stacks) seat left, is ∙ sym (one_left b m next stacks start class (below b m free start class range slab low high) slab left))
  returned_old next stacks after seat old false left is_class differ wide is = inr (
    λ (keep : IsKeepable next (without_left b m next stacks) seat range).
        let home = (one_home b m free start class range slab low high) keep.start keep.class (sym (left keep.start) ∙ keep.slab) keep.block in
        let class_is : keep.class ≡ class = (let one = sym (left keep.start ∙ ap m.slab home ∙ slab) ∙ keep.slab in cc) in
        let size : class_size old ≡ class_size class = sym wide ∙ ap (λ (r : Range). r.size) keep.block.is ∙ ap class_size class_is in
        let known : class < 36 = subst (λ k. k < 36) class_is (class_known keep.class keep.block.number keep.block.within) in
        grind (arith, class_size-rises, cases_lt),
    is ∙ sym (none_left b m next stacks left),
  )
