-- A slab that leaves takes its addresses from the stacks, and a block that comes back goes on one or on none.
use Rattle.std.proofs.Common.{◌≡◌, ◌≢◌, ◌&&◌, ◌||◌, not, ℕ, zero, suc, ◌+◌, ◌*◌, ◌<◌, ◌≤◌, ◌⊎◌, Bool, true, false, List, [], ◌∷◌, Option, Some, None, refl, sym, ap, ◌∙◌, arith, inr, ⊎_elim}
use Rattle.std.specs.List.{filter}
use Rattle.heap_model.specs.Machine.{IsBlockOf, IsOverlapFree, Bounds, Range, Machine, with_key}
use Rattle.heap_model.specs.Slabs.{is_within}
use Rattle.heap_model.specs.Placement.{Stacks, with_stack, without_slab, without_left, has_left, IsKeepable, IsReturned}
use Rattle.std.proofs.lemmas.Bool.{cases_eq, cond-true, and_from, and_left, le-leb, lt-ltb}
use Rattle.size_classes.proofs.Spacing.{class_size-most}
use Rattle.heap_model.specs.Below.{any_below}
use Rattle.heap_model.proofs.Maps.{with_key-here, with_key-other}
use Rattle.heap_model.proofs.Sites.{class_known}

filter_all : (p : ℕ → Bool) (xs : List ℕ) → ((at : ℕ) → p at ≡ true) → filter p xs ≡ xs
filter_all p [] all = refl
filter_all p (x ∷ xs) all = cond-true (p x) (x ∷ filter p xs) (filter p xs) (all x) ∙ ap (λ (ys : List ℕ). x ∷ ys) (filter_all p xs all)

filter_same : (p q : ℕ → Bool) (xs : List ℕ) → ((at : ℕ) → p at ≡ q at) → filter p xs ≡ filter q xs
filter_same p q xs same = λ i. filter (λ at. same at i) xs

none_below : (p : ℕ → Bool) (n : ℕ) → ((k : ℕ) → p k ≡ false) → any_below p n ≡ false
none_below p zero none = refl
none_below p (suc n) none = ap (λ b. b || any_below p n) (none n) ∙ none_below p n none

stays : (x : Option ℕ) → has_left x x ≡ false
stays x = grind arith

-- where no slab left, none loses its addresses
pub none_left : (b : Bounds) (m next : Machine) (stacks : Stacks) → ((s : ℕ) → next.slab s ≡ m.slab s) → without_left b m next stacks ≡ stacks
none_left b m next stacks same = λ i seat class. filter_all (λ at. not (any_below (λ s. has_left (m.slab s) (next.slab s) && is_within s at) b.granules)) (stacks seat class) (λ at. grind (arith, none_below, and_left, stays)) i

-- where one left, it does
one_below : (p q : ℕ → Bool) (n start : ℕ) → start < n → p start ≡ true → ((s : ℕ) → s ≢ start → p s ≡ false) → any_below (λ s. p s && q s) n ≡ q start
one_below p q zero start below is none = absurd (omega (arith, below))
one_below p q (suc n) start below is none = ⊎_elim
    (λ (same : n ≡ start).
    ap (λ b. b || any_below (λ s. p s && q s) n) (ap (λ s. p s && q s) same ∙ ap (λ b. b && q start) is) ∙ ap (λ b. q start || b) (rest_none n (omega (arith, same))) ∙ or_none (q start))
    (λ (differ : n ≢ start). ap (λ b. b || any_below (λ s. p s && q s) n) (and_left (p n) (q n) (none n differ)) ∙ one_below p q n start (omega (arith, below, differ)) is none)
    (cases_eq n start)
  where
    or_none : (b : Bool) → (b || false) ≡ b
    or_none true = refl
    or_none false = refl

    rest_none : (k : ℕ) → k ≤ start → any_below (λ s. p s && q s) k ≡ false
    rest_none zero low = refl
    rest_none (suc k) low = ap (λ b. b || any_below (λ s. p s && q s) k) (and_left (p k) (q k) (none k (λ same. omega (arith, same, low)))) ∙ rest_none k (omega (arith, low))

pub one_left : (b : Bounds) (m next : Machine) (stacks : Stacks) (start class : ℕ) → start < b.granules → m.slab start ≡ Some class → ((s : ℕ) → next.slab s ≡ with_key m.slab start None s) → without_left b m next stacks ≡ without_slab stacks start
one_left b m next stacks start class below slab left = λ i seat c. filter_same (λ at. not (any_below (λ s. has_left (m.slab s) (next.slab s) && is_within s at) b.granules)) (λ at. not (is_within start at)) (stacks seat c) (λ at. ap not (one_below (λ s. has_left (m.slab s) (next.slab s)) (λ s. is_within s at) b.granules start below gone stay)) i
  where
    gone : has_left (m.slab start) (next.slab start) ≡ true
    gone = ap (λ x. has_left x (next.slab start)) slab ∙ ap (has_left (Some class)) (left start ∙ with_key-here m.slab start None)

    stay : (s : ℕ) → s ≢ start → has_left (m.slab s) (next.slab s) ≡ false
    stay s differ = ap (has_left (m.slab s)) (left s ∙ with_key-other m.slab start s None differ) ∙ stays (m.slab s)

-- an address of a slab that went makes no difference
pub purged_put : (stacks : Stacks) (seat class at start : ℕ) → is_within start at ≡ true → without_slab (with_stack stacks seat class (at ∷ stacks seat class)) start ≡ without_slab stacks start
purged_put stacks seat class at start within = grind arith

-- the block of a large extent goes on no stack
pub returned_large : (b : Bounds) (m next : Machine) (stacks : Stacks) (seat : ℕ) (range : Range) → 16384 < range.size → ((s : ℕ) → next.slab s ≡ m.slab s) → IsReturned next (without_left b m next stacks) seat range stacks
returned_large b m next stacks seat range large same = inr (
  λ (keep : IsKeepable next (without_left b m next stacks) seat range).
      let size = ap (λ (r : Range). r.size) keep.block.is in
      omega (arith, size, large, class_size-most keep.class (class_known keep.class keep.block.number keep.block.within)),
  sym (none_left b m next stacks same),
)

module _ (b : Bounds) (m : Machine) (free : IsOverlapFree b m) (start class : ℕ) (range : Range) (slab : m.slab start ≡ Some class) (low : 16384 * start ≤ range.at) (high : range.at < 16384 * start + 65536) where
  abbrev pub within : is_within start range.at ≡ true
  within = and_from _ _ (le-leb (16384 * start) range.at low) (lt-ltb range.at (16384 * start + 65536) high)

  -- it is a block of no other slab
  pub one_home : (s c : ℕ) → m.slab s ≡ Some c → IsBlockOf s c range → s ≡ start
  one_home s c other block = grind arith

  -- where its slab went it may not be kept
  pub not_kept : (next : Machine) (stacks : Stacks) (seat : ℕ) → ((s : ℕ) → next.slab s ≡ with_key m.slab start None s) → ¬ (IsKeepable next stacks seat range)
  not_kept next stacks seat left keep = grind arith

  pub below : start < b.granules
  below = omega (arith, (free.slabs start class slab).1)
