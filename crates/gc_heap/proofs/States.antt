-- The state of an image, and every other one that the image has: indexes of the one are indexes of the other.
use Rattle.std.proofs.Common.{◌≡◌, ℕ, List, Option, None, refl, sym, subst}
use Rattle.heap_model.specs.Machine.{Bounds, Range, Machine, IsUnused, IsFreeGranule, slab_block}
use Rattle.heap_model.specs.Slabs.{IsInTransition}
use Rattle.unit_map.specs.Blocks.{IsSmallLive}
use Rattle.heap_indexes.specs.Indexes.{Indexes, AreIndexesOf, HaveState}
use Rattle.heap_check.specs.Image.{bounds_of}
use Rattle.gc_check.specs.Image.{IsGcExactImage}
use Rattle.gc_check.specs.State.{gc_blocks, gc_slabs, HasGcState, HaveSameGcHeap}
use Rattle.gc_check.proofs.ExactStates.{law_of_exact_gc_state}
use Rattle.gc_heap.specs.Arena.{state_in}

-- values make no difference to the indexes

-- a state with other values
abbrev pub with_other : Machine → (ℕ → ℕ → Option ℕ) → Machine
with_other m value = record { block = m.block; slab = m.slab; value = value }

module _ (b : Bounds) (m : Machine) (value : ℕ → ℕ → Option ℕ) where
  unused_forth : (range : Range) → IsUnused m range → IsUnused (with_other m value) range
  unused_forth range unused = record { each = unused.each }

  unused_back : (range : Range) → IsUnused (with_other m value) range → IsUnused m range
  unused_back range unused = record { each = unused.each }

  free_forth : (k : ℕ) → IsFreeGranule b m k → IsFreeGranule b (with_other m value) k
  free_forth k free = record { low = free.low; high = free.high; no_block = free.no_block; no_slab = free.no_slab }

  free_back : (k : ℕ) → IsFreeGranule b (with_other m value) k → IsFreeGranule b m k
  free_back k free = record { low = free.low; high = free.high; no_block = free.no_block; no_slab = free.no_slab }

  moving_forth : (s : ℕ) → IsInTransition m s → IsInTransition (with_other m value) s
  moving_forth s is = record { class = is.class; slab = is.slab; root = is.root; range = is.range; named = is.named; lies = is.lies; other = is.other }

  moving_back : (s : ℕ) → IsInTransition (with_other m value) s → IsInTransition m s
  moving_back s is = record { class = is.class; slab = is.slab; root = is.root; range = is.range; named = is.named; lies = is.lies; other = is.other }

  live_forth : (range : Range) → IsSmallLive m range → IsSmallLive (with_other m value) range
  live_forth range live = record { root = live.root; named = live.named; small = live.small }

  live_back : (range : Range) → IsSmallLive (with_other m value) range → IsSmallLive m range
  live_back range live = record { root = live.root; named = live.named; small = live.small }

  pub AreIndexesOf-valued : (x : Indexes) → AreIndexesOf b m x → AreIndexesOf b (with_other m value) x
  AreIndexesOf-valued x are = record {
    sized = are.sized;
    placed = record {
      each = λ root range named small.
          let home = are.placed.each root range named small in
          record { start = home.start; class = home.class; slab = home.slab; own = home.own; block = home.block };
    };
    free = record { each = λ k. (λ is. free_forth k ((are.free.each k).0 is), λ free. (are.free.each k).1 (free_back k free)) };
    supply = record {
      known = are.supply.known;
      classes = are.supply.classes;
      blocks = λ s class i slab within. (
        λ may. unused_forth (slab_block s class i) ((are.supply.blocks s class i slab within).0 may),
        λ unused. (are.supply.blocks s class i slab within).1 (unused_back (slab_block s class i) unused),
      );
    };
    lives = record {
      counts = are.lives.counts;
      none = are.lives.none;
      normal = λ s class. (
        λ normal. let is = (are.lives.normal s class).0 normal in (is.0, λ moving. is.1 (moving_back s moving)),
        λ is. (are.lives.normal s class).1 (is.0, λ moving. is.1 (moving_forth s moving)),
      );
      unfit = λ s own class number slab known unfit within unused. are.lives.unfit s own class number slab known unfit within (unused_back (slab_block s class number) unused);
    };
    strangers = record { each = are.strangers.each };
    units = record {
      grid = λ range live. are.units.grid range (live_back range live);
      used = λ k. (
        λ used. let has = (are.units.used k).0 used in record { range = has.range; live = live_forth has.range has.live; low = has.low; high = has.high },
        λ has. (are.units.used k).1 (record { range = has.range; live = live_back has.range has.live; low = has.low; high = has.high }),
      );
    };
  }

-- the states of an image

-- an image has its state
pub state_of_image : (words : List ℕ) → HasGcState words (state_in words)
state_of_image words = record { blocks = λ root. refl; slabs = λ start. refl; values = λ root index word is. absurd (cc) }

module _ {words : List ℕ} {m : Machine} (state : HasGcState words m) where
  -- a state that it has is that one but for its values
  pub same_state : record { block = gc_blocks words; slab = gc_slabs words; value = m.value } ≡ m
  same_state = λ i. record { block = λ root. state.blocks root i; slab = λ start. state.slabs start i; value = m.value }

  pub indexes_of : (x : Indexes) → AreIndexesOf (bounds_of words) (state_in words) x → AreIndexesOf (bounds_of words) m x
  indexes_of x are = subst (λ (n : Machine). AreIndexesOf (bounds_of words) n x) same_state (AreIndexesOf-valued (bounds_of words) (state_in words) m.value x are)

-- a state with the blocks and the slabs of an image has the indexes of its state
pub indexes_in : {b : Bounds} (words : List ℕ) (n : Machine) (x : Indexes) → bounds_of words ≡ b → ((root : ℕ) → gc_blocks words root ≡ n.block root) → ((start : ℕ) → gc_slabs words start ≡ n.slab start) →
    AreIndexesOf b n x → AreIndexesOf (bounds_of words) (state_in words) x
indexes_in {b} words n x bounds blocks slabs are =
    subst (λ c. AreIndexesOf c (state_in words) x) (sym bounds)
    (subst (λ (k : Machine). AreIndexesOf b k x) (λ i. record { block = λ root. sym (blocks root) i; slab = λ start. sym (slabs start) i; value = λ root index. None }) (AreIndexesOf-valued b n (λ root index. None) x are))

-- the indexes of an exact image have a state
pub have_state : (words : List ℕ) (x : Indexes) → IsGcExactImage words → AreIndexesOf (bounds_of words) (state_in words) x → HaveState x
have_state words x image are = record { bounds = bounds_of words; machine = state_in words; apart = law_of_exact_gc_state words (state_in words) image (state_of_image words); are = are }

-- images with the same blocks and slabs have one state
pub same_images : (words new : List ℕ) → HaveSameGcHeap words new → ((start : ℕ) → gc_slabs new start ≡ gc_slabs words start) → state_in new ≡ state_in words
same_images words new heap slabs = λ i. record { block = λ root. heap.each root i; slab = λ start. slabs start i; value = λ root index. None }
