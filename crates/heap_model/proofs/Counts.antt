-- Live blocks of a slab, counted as a root is given a block, and what holds of each block of a state.
use Rattle.std.proofs.Common.{◌≡◌, ◌≢◌, ◌<◌, ◌≤◌, ◌+◌, ℕ, zero, suc, Option, Some, None, if◌then◌else◌, refl, sym, ap, ◌∙◌, arith, ⊎_elim, Bool, cond}
use Rattle.std.proofs.lemmas.Bool.{cases_eq, cases_Bool}
use Rattle.heap_model.specs.Machine.{Range, Machine, with_key, no_heap}
use Rattle.heap_model.specs.Choice.{Site, range_of}
use Rattle.heap_model.specs.Slabs.{begins_in, live_below}
use Rattle.heap_model.specs.Step.{with_block}
use Rattle.heap_model.proofs.Maps.{with_key-here, with_key-other, with_key-cases, with_key-is}

-- a root from n on is not counted
live_below-past : (block : ℕ → Option Range) (s n root : ℕ) (new : Option Range) → n ≤ root → live_below (with_key block root new) s n ≡ live_below block s n
live_below-past block s zero root new past = refl
live_below-past block s (suc n) root new past =
    rw (with_key-other block root n new (λ same. omega (arith, same, past)), live_below-past block s n root new (omega (arith, past))) refl

-- a root that names nothing is given a block
pub live_below-with : (block : ℕ → Option Range) (s n root : ℕ) (range : Range) → root < n → block root ≡ None → live_below (with_key block root (Some range)) s n ≡ (if begins_in s (Some range) then 1 else 0) + live_below block s n
live_below-with block s zero root range below none = absurd (omega arith)
live_below-with block s (suc n) root range below none = ⊎_elim
    (λ (here : root ≡ n).
    grind (arith, with_key-here, live_below-past))
    (λ (there : root ≢ n).
    let same : with_key block root (Some range) n ≡ block n = with_key-other block root n (Some range) (λ is. there (sym is)) in
    let rest = live_below-with block s n root range (omega (arith, there, below)) none in
    rw same (omega (arith, rest)))
    (cases_eq root n)

-- each block of the state is of this kind
pub record EachBlock (m : Machine) (Is : ℕ → Range → Type 0) : Type 0 where
  pub each : (root : ℕ) (range : Range) → m.block root ≡ Some range → Is root range

pub EachBlock-none : (Is : ℕ → Range → Type 0) → EachBlock no_heap Is
EachBlock-none Is = record { each = λ root range named. absurd (cc) }

pub EachBlock-with : (m : Machine) (Is : ℕ → Range → Type 0) (root : ℕ) (site : Site) → EachBlock m Is → Is root (range_of site) → EachBlock (with_block m root site) Is
EachBlock-with m Is root site each here = grind (arith, with_key-cases)

-- one, where something is so
abbrev pub one_if : Bool → ℕ
one_if is = cond is 1 0

-- one root more is counted
pub live_next : (block : ℕ → Option Range) (s n : ℕ) → live_below block s (n + 1) ≡ one_if (begins_in s (block n)) + live_below block s n
live_next block s n = let next : n + 1 ≡ suc n = omega arith in ap (live_below block s) next

-- a root without a block gets one
pub live_given : (old new : ℕ → Option Range) (s roots root : ℕ) (range : Range) → root < roots → old root ≡ None → new root ≡ Some range → ((other : ℕ) → other ≢ root → new other ≡ old other) →
    live_below new s roots ≡ one_if (begins_in s (Some range)) + live_below old s roots
live_given old new s roots root range below none given others = ap (λ h. live_below h s roots) (λ i k. with_key-is old new root (Some range) given others k i) ∙ live_below-with old s roots root range below none

-- there are no more than roots
pub live_below-most : (block : ℕ → Option Range) (s n : ℕ) → live_below block s n ≤ n
live_below-most block s zero = omega arith
live_below-most block s (suc n) =
    let rest = live_below-most block s n in
    ⊎_elim (λ is. let one : one_if (begins_in s (block n)) ≡ 1 = ap one_if is in omega (arith, rest, one)) (λ is. let none : one_if (begins_in s (block n)) ≡ 0 = ap one_if is in omega (arith, rest, none)) (cases_Bool (begins_in s (block n)))

-- as many blocks begin in a slab once a root's block is another's
pub live_moved : (old new : ℕ → Option Range) (s roots from to : ℕ) (range : Range) → from < roots → to < roots → from ≢ to → old from ≡ Some range → old to ≡ None → new to ≡ Some range → new from ≡ None →
    ((other : ℕ) → other ≢ from → other ≢ to → new other ≡ old other) → live_below new s roots ≡ live_below old s roots
live_moved old new s roots from to range from_below to_below differ named none here gone others =
    let mid = with_key old from None in
    live_given mid new s roots to range to_below (grind arith) here (λ other apart. grind (arith, cases_eq))
    ∙ sym (live_given mid old s roots from range from_below (with_key-here old from None) named (λ other apart. sym (with_key-other old from other None apart)))
