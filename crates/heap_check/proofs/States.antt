-- The state of the heap machine that an exact image has: what the image's tables say of its granules, slabs and blocks,
-- and its state after a call.
use Rattle.std.proofs.Common.{◌≡◌, ◌≢◌, ℕ, ◌+◌, ◌*◌, ◌/◌, ◌<◌, ◌≤◌, true, false, true≢false, refl, sym, ap, subst, ◌∙◌, arith, inl, inr, ⊎_elim, List, Option, Some, None, ◌↔◌}
use Rattle.heap_model.proofs.Views.{Agree}
use Rattle.heap_model.specs.Slabs.{IsInTransition, live_below, view_of}
use Rattle.heap_model.proofs.Below.{any_below-some, any_below-each}
use Rattle.heap_model.proofs.Fits.{fit_free}
use Rattle.heap_model.proofs.Placing.{rows_apart}
use Rattle.heap_check.proofs.Common.{LiesIn-block, cases_eq, cases_lt, cases_Bool, cond-true, class_capacity, normal_kind, morphed_kind, Tables, tables_of, root_table-past, Bounds, Range, Machine, with_key, slab_block, IsUnused, IsFreeGranule, any_below}
use Rattle.heap_model.proofs.Freeing.{slabs_stay, slabs_leave}
use Rattle.heap_check.specs.Sound.{HasOther, granules_at, Covers, IsVacant, IsInSlab, IsSound}
use Rattle.heap_check.proofs.Geometry.{granule_of-start, granules_at-slab, granules_at-large, granules_at-live, Covers-slab, is_large-slab, is_large-start, one_slab}
use Rattle.heap_check.proofs.Heaps.{heap-some, heap-large, heap-none, heap-claim, IsClaim-heap}
use Rattle.heap_check.proofs.LargePlaces.{cases_run}
use Rattle.heap_check.proofs.Within.{Covers-within, IsWithin-claim}
use Rattle.heap_check.proofs.LiveBlocks.{one_class}
use Rattle.heap_check.proofs.SmallPlaces.{apart_unused, Holds-claim}
use Rattle.heap_check.proofs.LargeLogs.{large_many}
use Rattle.heap_model.specs.Step.{slabs_without, forgotten}
use Rattle.heap_model.specs.Runs.{IsBestFit}
use Rattle.heap_model.proofs.Maps.{with_key-other, with_key-is}
use Rattle.heap_check.specs.Heap.{is_large, entry_at, heap, slabs, IsClaim, Holds, IsUnusedIn}
use Rattle.heap_check.specs.Image.{bounds_of, IsExactImage}
use Rattle.heap_check.specs.State.{HasState, KeepsBlocks}
use Rattle.heap_check.proofs.Sizes.{sizes_of}
use Rattle.heap_check.proofs.Claims.{plain_size, IsNamed-claim}
use Rattle.heap_check.specs.Views.{IsVacantRow, tables_view}

-- a slab of the tables' map is one, of its class
pub slab_parts : (t : Tables) (start class : ℕ) → slabs t start ≡ Some class → (t.slab start ≡ true) × ((t.header start).class ≡ class)
slab_parts t start class is = grind arith

-- what is not forgotten is another root's
not_forgotten : (value : ℕ → ℕ → Option ℕ) (root other index word : ℕ) → forgotten value root other index ≡ Some word → (other ≢ root) × (value other index ≡ Some word)
not_forgotten value root other index word is = grind arith

module _ {words : List ℕ} {m : Machine} (state : HasState words m) where
  -- the block that the heap has for a root is the state's
  pub naming : (root : ℕ) (range : Range) → heap (tables_of words) root ≡ Some range → m.block root ≡ Some range
  naming root range named = sym (state.blocks root) ∙ named

  -- a root whose word is 0 names no block
  pub nameless : (root : ℕ) → (tables_of words).root root ≡ 0 → m.block root ≡ None
  nameless root none = sym (state.blocks root) ∙ heap-none (tables_of words) root none

  -- a slab of the state is one of the tables
  pub slab_named : (start class : ℕ) → m.slab start ≡ Some class → ((tables_of words).slab start ≡ true) × (((tables_of words).header start).class ≡ class)
  slab_named start class slab = slab_parts (tables_of words) start class (state.slabs start ∙ slab)

  -- and a slab of the tables is one of the state
  pub naming_slab : (start : ℕ) → (tables_of words).slab start ≡ true → m.slab start ≡ Some ((tables_of words).header start).class
  naming_slab start slab = sym (state.slabs start) ∙ cond-true ((tables_of words).slab start) (Some ((tables_of words).header start).class) None slab

  -- the state after a call by which the root has this block or none and loses its words, and the slabs are these
  pub after_call : (root : ℕ) (block : Option Range) (slab : ℕ → Option ℕ) (new : List ℕ) → heap (tables_of new) root ≡ block →
      ((other : ℕ) → other ≢ root → heap (tables_of new) other ≡ heap (tables_of words) other) → ((start : ℕ) → slabs (tables_of new) start ≡ slab start) → KeepsBlocks words new →
      HasState new (record { block = with_key m.block root block; slab = slab; value = forgotten m.value root })
  after_call root block slab new here others slabs_are keeps = record {
    blocks = with_key-is m.block (heap (tables_of new)) root block here (λ other differ. others other differ ∙ state.blocks other);
    slabs = slabs_are;
    values = λ other index word is.
        let kept = not_forgotten m.value root other index word is in
        let value = state.values other index word kept.1 in
        grind (arith, with_key-other);
  }

module _ {words : List ℕ} (image : IsExactImage words) {m : Machine} (state : HasState words m) where
  abbrev b : Bounds
  b = bounds_of words

  abbrev t : Tables
  t = tables_of words

  sound : IsSound b t
  sound = image.exact.sound

  unnamed : (root : ℕ) → entry_at t.open_entry root ≡ 0
  unnamed root = ap (λ e. entry_at e root) image.exact.closed

  first : 0 < b.first
  first = omega (arith, (sizes_of words image.formed).first)

  -- a block of the state is its root's claim
  claim : (root : ℕ) (range : Range) → m.block root ≡ Some range → IsClaim t root range
  claim root range named = IsClaim-heap t root range (unnamed root) (state.blocks root ∙ named)

  -- the block of a root begins where its word says
  pub block_word : (root : ℕ) (range : Range) → m.block root ≡ Some range → (tables_of words).root root ≡ range.at
  block_word root range named = (IsNamed-claim t root range (unnamed root) (claim root range named)).word

  -- a root whose word is not 0 names a block there
  pub named_at : (root at : ℕ) → (tables_of words).root root ≡ at → at ≢ 0 → m.block root ≡ Some (record { at = at; size = plain_size (tables_of words) at })
  named_at root at is some = grind (arith, naming, plain_size, heap-some, unnamed)

  -- a live large extent is the block of a root
  large_named : (start : ℕ) → 0 < t.large start → (root : ℕ) × (m.block root ≡ Some (record { at = 16384 * start; size = 16384 * t.large start }))
  large_named start live =
      let rooted = image.exact.all_named start live in
      let is = rooted.1 in
      let whole : granules_at t start ≡ t.large start = granules_at-live sound start live in
      grind (arith, first, is_large-start, naming, heap-large, unnamed, granule_of-start)

  -- a granule that is free in the state is vacant
  free_is_vacant : (k : ℕ) → IsFreeGranule b m k → IsVacant b t k
  free_is_vacant k free = grind (arith, granules_at-slab, naming_slab, granules_at-large, large_named, large_many, sizes_of)

  -- and a vacant one is free
  vacant_is_free : (k : ℕ) → IsVacant b t k → IsFreeGranule b m k
  vacant_is_free k vacant = record {
    low = vacant.low;
    high = vacant.high;
    no_block = λ root range named big meets.
        let within = IsWithin-claim sound root range (unnamed root) (claim root range named) in
        vacant.none within.0 (record { low = omega (arith, within.1.low, meets.begins); high = omega (arith, within.1.high, meets.ends) });
    no_slab = grind (arith, Covers-slab, slab_named, cases_run);
  }

  -- four vacant granules have room for a slab's blocks
  vacant_clear : (start class number : ℕ) → number < class_capacity class → IsVacantRow (bounds_of words) (tables_of words) start 4 → IsUnused m (slab_block start class number)
  vacant_clear start class number within_class row = record {
    each = λ root other named.
        let within = IsWithin-claim sound root other (unnamed root) (claim root other named) in
        let lies = LiesIn-block start class (slab_block start class number) (record { number = number; within = within_class; is = refl }) in
        let first : Covers t within.0 (other.at / 16384) = Covers-within t within.0 other within.1 in
        ⊎_elim
        (λ before. inl (omega (arith, before, lies.high, within.1.low)))
        (λ behind. inr (omega (arith, behind, within.1.high, lies.low)))
        (rows_apart start 4 within.0 (granules_at t within.0) (omega arith) (omega (arith, first.low, first.high)) (λ k from to low high. (row.vacant k from to).none within.0 (record { low = low; high = high })));
  }

  -- so have those of a best fit in the state
  pub fit_clear : (start class number : ℕ) → number < class_capacity class → IsBestFit (IsFreeGranule (bounds_of words) m) 4 start → IsUnused m (slab_block start class number)
  fit_clear start class number within fit =
      let vacant : (k : ℕ) → start ≤ k → k < start + 4 → IsVacant b t k = λ k low high. free_is_vacant k (fit_free (IsFreeGranule b m) 4 start k fit low high) in
      vacant_clear start class number within (record { low = (vacant start (omega arith) (omega arith)).low; high = omega (arith, (vacant (start + 3) (omega arith) (omega arith)).high); vacant = vacant })

  -- a slab stays once a root has lost its block where that does not lie in it
  slab_elsewhere : (root : ℕ) (range : Range) (s : ℕ) → ¬ (IsInSlab t s range.at) → slabs_without b m root range s ≡ m.slab s
  slab_elsewhere root range s outside = grind arith

  -- the slabs are as before once a root has lost the block of a large extent
  pub slabs_without-large : (root : ℕ) (range : Range) → m.block root ≡ Some range → is_large (tables_of words).large ((tables_of words).root root) ≡ true → (s : ℕ) →
      slabs_without (bounds_of words) m root range s ≡ m.slab s
  slabs_without-large root range named large s = slab_elsewhere root range s (λ inside.
      let there : IsInSlab t s (t.root root) = subst (IsInSlab t s) (sym (block_word root range named)) inside in
      true≢false (sym large ∙ is_large-slab sound s (t.root root) there))

  -- and where another root has a block in the slab that the block lay in
  pub slabs_without-other : (root start : ℕ) (range : Range) → IsInSlab (tables_of words) start range.at → HasOther (tables_of words) root start → (s : ℕ) →
      slabs_without (bounds_of words) m root range s ≡ m.slab s
  slabs_without-other root start range inside has s = ⊎_elim
      (λ (same : s ≡ start).
      let below : has.other < b.roots = ⊎_elim (λ less. less) (λ past. absurd (has.some (root_table-past words has.other past))) (cases_lt has.other b.roots) in
      slabs_stay b m root has.other range s below has.differ (record { range = _; named = named_at has.other (t.root has.other) refl has.some; low = omega (arith, has.inside.low, same); high = omega (arith, has.inside.high, same) }))
      (λ (differ : s ≢ start). slab_elsewhere root range s (λ there. differ (one_slab sound s start range.at there inside)))
      (cases_eq s start)

  -- where none has, that slab leaves
  pub slabs_without-none : (root start : ℕ) (range : Range) → IsInSlab (tables_of words) start range.at →
      ((other : ℕ) → other ≢ root → (tables_of words).root other ≢ 0 → ¬ (IsInSlab (tables_of words) start ((tables_of words).root other))) → (s : ℕ) →
      slabs_without (bounds_of words) m root range s ≡ with_key m.slab start None s
  slabs_without-none root start range inside none = with_key-is m.slab (slabs_without b m root range) start None
      (slabs_leave b m root range start (record { range = range; named = refl; low = inside.low; high = inside.high }) (λ other below differ begins.
      grind (arith, block_word, IsNamed-claim, unnamed, claim)))
      (λ s differ. slab_elsewhere root range s (λ there. differ (one_slab sound s start range.at there inside)))

  -- a block of a class in a slab is unused where the state says so
  unused_agrees : (start class number : ℕ) → t.slab start ≡ true → number < class_capacity class → IsUnusedIn t start class number ↔ IsUnused m (slab_block start class number)
  unused_agrees start class number slab below = (
    λ unused. record {
      each = λ root other named.
          let apart = apart_unused sound image.exact.closed start class number slab below unused root other (claim root other named) in
          ⊎_elim (λ before. inr before) (λ behind. inl behind) apart;
    },
    λ unused. record {
      each = λ range holds.
          let owner = sound.owned.claimed start range holds in
          ⊎_elim (λ before. inr before) (λ behind. inl behind) (unused.each owner.0 range (naming state owner.0 range (heap-claim t owner.0 range (unnamed owner.0) owner.1)));
    },
  )

  -- a slab is in transition in the state where it is not normal
  transition_agrees : (start : ℕ) → t.slab start ≡ true → ((t.header start).kind ≢ normal_kind) ↔ IsInTransition m start
  transition_agrees start slab = (
    λ moving.
        let kind : (t.header start).kind ≡ morphed_kind = ⊎_elim (λ normal. absurd (moving normal)) (λ rest. ⊎_elim (λ morphing. absurd (image.exact.none_morphing start (record { slab = slab; kind = morphing }))) (λ morphed. morphed) rest) (sound.slabs start slab).state.kinds in
        ⊎_elim
        (λ (some : any_below (t.header start).live (t.header start).index_count ≡ true).
        let found = any_below-some (t.header start).live (t.header start).index_count some in
        let range = slab_block start (t.header start).old ((t.header start).number found.0) in
        let holds : Holds t start range = record { slab = slab; block = inr (record { place = found.0; below = found.1; live = found.2; is = refl }) } in
        let owner = sound.owned.claimed start range holds in
        let state_word = (sound.slabs start slab).state in
        record {
          class = (t.header start).class;
          slab = naming_slab state start slab;
          root = owner.0;
          range = range;
          named = naming state owner.0 range (heap-claim t owner.0 range (unnamed owner.0) owner.1);
          lies = LiesIn-block start (t.header start).old range (record { number = (t.header start).number found.0; within = (sound.slabs start slab).small found.0 found.1; is = refl });
          other = λ same. state_word.differ moving (one_class (t.header start).old (t.header start).class state_word.is_old_class state_word.is_class same);
        })
        (λ (none : any_below (t.header start).live (t.header start).index_count ≡ false). absurd (image.exact.none_done start (record { slab = slab; kind = kind; none = any_below-each (t.header start).live (t.header start).index_count none })))
        (cases_Bool (any_below (t.header start).live (t.header start).index_count)),
    λ moving normal.
        let own = slab_named state start moving.class moving.slab in
        let wide = IsWithin-claim sound moving.root moving.range (unnamed moving.root) (claim moving.root moving.range moving.named) in
        let holds = Holds-claim sound moving.root start moving.range (unnamed moving.root) (claim moving.root moving.range moving.named) (record { slab = slab; low = omega (arith, moving.lies.low); high = omega (arith, moving.lies.high, wide.1.some) }) in
        grind arith,
  )

  -- the tables say what the state says
  pub tables_agree : Agree (tables_view (bounds_of words) (tables_of words)) (view_of (bounds_of words) m)
  tables_agree = record {
    free = λ k. (vacant_is_free k, free_is_vacant k);
    slab = state.slabs;
    unused = λ start own class number slab below. unused_agrees start class number (slab_parts t start own slab).0 below;
    live = λ s. λ i. live_below (λ root. state.blocks root i) s (bounds_of words).roots;
    in_transition = λ s class slab. transition_agrees s (slab_parts t s class slab).0;
  }
