-- A machine stays free of overlaps where a root loses its block, and the slab that the block lay in goes with its last.
use Rattle.std.proofs.Common.{◌≡◌, ◌≢◌, ◌==◌, ◌&&◌, ℕ, zero, suc, ◌+◌, ◌*◌, ◌<◌, ◌≤◌, Bool, true, false, cond, refl, sym, ap, ◌∙◌, arith, ⊎_elim, Option, Some, None, leb, ltb}
use Rattle.std.proofs.lemmas.Bool.{cases_eq, eq-eqb, ne_eqb, le-leb, lt-ltb, leb-true, ltb-true, and_parts, and_from, cond_both, false_from_ne_true}
use Rattle.heap_model.specs.Machine.{Bounds, Range, Machine, with_key, IsOverlapFree}
use Rattle.heap_model.specs.Slabs.{begins_in, live_below}
use Rattle.heap_model.specs.Step.{without_block, slabs_without}
use Rattle.heap_model.proofs.Maps.{with_key-cases, with_key-other}

-- a root below n whose block begins in a slab is counted there
pub live_below-some : (block : ℕ → Option Range) (s n root : ℕ) → root < n → begins_in s (block root) ≡ true → 0 < live_below block s n
live_below-some block s zero root below begins = absurd (omega arith)
live_below-some block s (suc n) root below begins = ⊎_elim
    (λ (here : root ≡ n).
    let test : begins_in s (block n) ≡ true = ap (λ k. begins_in s (block k)) (sym here) ∙ begins in
    rw test (omega arith))
    (λ (there : root ≢ n). omega (arith, live_below-some block s n root (omega (arith, there)) begins))
    (cases_eq root n)

-- a range that begins between a slab's start and its end begins there
pub begins_in-here : (s : ℕ) (range : Range) → 16384 * s ≤ range.at → range.at < 16384 * s + 65536 → begins_in s (Some range) ≡ true
begins_in-here s range low high =
    and_from (leb (16384 * s) range.at) (ltb range.at (16384 * s + 65536)) (le-leb (16384 * s) range.at low) (lt-ltb range.at (16384 * s + 65536) high)

-- a block begins in the slab at s
pub record BeginsIn (s : ℕ) (block : Option Range) : Type 0 where
  pub range : Range
  pub named : block ≡ Some range
  pub low : 16384 * s ≤ range.at
  pub high : range.at < 16384 * s + 65536

-- which is what the test says
pub begins_in-true : (s : ℕ) (block : Option Range) → begins_in s block ≡ true → BeginsIn s block
begins_in-true s None begins = absurd (cc)
begins_in-true s (Some range) begins =
    let parts = and_parts (leb (16384 * s) range.at) (ltb range.at (16384 * s + 65536)) begins in
    record { range = range; named = refl; low = leb-true (16384 * s) range.at parts.0; high = ltb-true range.at (16384 * s + 65536) parts.1 }

-- where no root below n has a block that begins in a slab, none is counted there
pub live_below-none : (block : ℕ → Option Range) (s n : ℕ) → ((root : ℕ) → root < n → ¬ (BeginsIn s (block root))) → live_below block s n ≡ 0
live_below-none block s zero none = refl
live_below-none block s (suc n) none =
    let last : begins_in s (block n) ≡ false = false_from_ne_true (begins_in s (block n)) (λ begins. none n (omega arith) (begins_in-true s (block n) begins)) in
    let rest = live_below-none block s n (λ root below. none root (omega (arith, below))) in
    rw last (omega (arith, rest))

-- what is left of the slabs was there
slabs_left : (b : Bounds) (m : Machine) (root : ℕ) (range : Range) (s c : ℕ) → slabs_without b m root range s ≡ Some c → m.slab s ≡ Some c
slabs_left b m root range s c = go (begins_in s (Some range) && (live_below (with_key m.block root None) s b.roots == 0)) (m.slab s)
  where
    go : (gone : Bool) (was : Option ℕ) → cond gone None was ≡ Some c → was ≡ Some c
    go true was is = absurd (cc)
    go false was is = is

-- a slab stays where a block of another root begins in it
pub slabs_stay : (b : Bounds) (m : Machine) (root other : ℕ) (range : Range) (s : ℕ) → other < b.roots → other ≢ root → BeginsIn s (m.block other) → slabs_without b m root range s ≡ m.slab s
slabs_stay b m root other range s below differ begins =
    let block : begins_in s (with_key m.block root None other) ≡ true = ap (λ o. begins_in s o) (with_key-other m.block root other None differ ∙ begins.named) ∙ begins_in-here s begins.range begins.low begins.high in
    let live : live_below (with_key m.block root None) s b.roots ≢ 0 = λ none. omega (arith, none, live_below-some (with_key m.block root None) s b.roots other below block) in
    go (begins_in s (Some range)) (live_below (with_key m.block root None) s b.roots == 0) (ne_eqb (live_below (with_key m.block root None) s b.roots) 0 live)
  where
    go : (here none : Bool) → none ≡ false → cond (here && none) None (m.slab s) ≡ m.slab s
    go true none is = rw is refl
    go false none is = refl

-- a slab stays where the block did not begin in it
pub slabs_stay-away : (b : Bounds) (m : Machine) (root : ℕ) (range : Range) (s : ℕ) → ((c : ℕ) → m.slab s ≡ Some c → ¬ (BeginsIn s (Some range))) → slabs_without b m root range s ≡ m.slab s
slabs_stay-away b m root range s away = go (begins_in s (Some range)) (live_below (with_key m.block root None) s b.roots == 0) (m.slab s) (λ c slab begins. away c slab (begins_in-true s (Some range) begins))
  where
    go : (here none : Bool) (was : Option ℕ) → ((c : ℕ) → was ≡ Some c → here ≢ true) → cond (here && none) None was ≡ was
    go true none (Some c) away = absurd (away c refl refl)
    go true none None away = cond_both none None None (λ (x : Option ℕ). x ≡ None) (λ gone. refl) (λ stays. refl)
    go false none was away = refl

-- the slab that the block began in leaves where no block of another root begins in it
pub slabs_leave : (b : Bounds) (m : Machine) (root : ℕ) (range : Range) (s : ℕ) → BeginsIn s (Some range) → ((other : ℕ) → other < b.roots → other ≢ root → ¬ (BeginsIn s (m.block other))) → slabs_without b m root range s ≡ None
slabs_leave b m root range s begins none = rw (here, last) refl
  where
    here : begins_in s (Some range) ≡ true
    here = ap (λ o. begins_in s o) begins.named ∙ begins_in-here s begins.range begins.low begins.high

    alone : (other : ℕ) → other < b.roots → ¬ (BeginsIn s (with_key m.block root None other))
    alone other below there = ⊎_elim
        (λ gone. absurd (cc (gone.1)))
        (λ stays. none other below stays.0 (record { range = there.range; named = stays.1; low = there.low; high = there.high }))
        (with_key-cases m.block root other None (Some there.range) there.named)

    last : (live_below (with_key m.block root None) s b.roots == 0) ≡ true
    last = eq-eqb (live_below (with_key m.block root None) s b.roots) 0 (live_below-none (with_key m.block root None) s b.roots alone)

-- what is named after a root has lost its block
pub left_named : (m : Machine) (root r : ℕ) (x : Range) → with_key m.block root None r ≡ Some x → (r ≢ root) × (m.block r ≡ Some x)
left_named m root r x named = ⊎_elim (λ here. absurd (cc (here.1))) (λ there. there) (with_key-cases m.block root r None (Some x) named)

-- a root loses its block
pub IsOverlapFree-without : (b : Bounds) (m : Machine) (root : ℕ) (range : Range) → IsOverlapFree b m → IsOverlapFree b (without_block b m root range)
IsOverlapFree-without b m root range was = record {
  apart = λ r o x y differ first second. was.apart r o x y differ (left_named m root r x first).1 (left_named m root o y second).1;
  rooted = λ r x named. was.rooted r x (left_named m root r x named).1;
  sized = λ r x named. was.sized r x (left_named m root r x named).1;
  slabs = λ s c slab. was.slabs s c (slabs_left b m root range s c slab);
  slabs_apart = λ s t c d differ first second. was.slabs_apart s t c d differ (slabs_left b m root range s c first) (slabs_left b m root range t d second);
  small = λ r x named little.
      let here = left_named m root r x named in
      let slab = was.small r x here.1 little in
      let begins : BeginsIn slab.0 (m.block r) = record { range = x; named = here.1; low = slab.3.low; high = omega (arith, slab.3.high, was.sized r x here.1) } in
      (slab.0, slab.1, slabs_stay b m root r range slab.0 (was.rooted r x here.1) here.0 begins ∙ slab.2, slab.3);
  large = λ r x named. was.large r x (left_named m root r x named).1;
  clear = λ r x s c k named big slab. was.clear r x s c k (left_named m root r x named).1 big (slabs_left b m root range s c slab);
}

-- where a block begins
pub begins_at : (s : ℕ) (range : Range) → BeginsIn s (Some range) → (16384 * s ≤ range.at) × (range.at < 16384 * s + 65536)
begins_at s range begins = grind arith
