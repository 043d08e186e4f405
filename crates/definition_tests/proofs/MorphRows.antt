-- Worked rows of slabs that take a class, at the bounds: 64 live blocks, and five times as many as the capacity. The arena
-- has 16 granules and at least 2001 roots.
use Rattle.std.proofs.Common.{◌≡◌, ◌≢◌, ◌⊎◌, ◌<◌, ◌≤◌, ◌+◌, ◌*◌, ◌&&◌, ◌||◌, ltb, eqb, Bool, true, ℕ, suc, List, [], ◌∷◌, refl, ap, arith, subst, inl, inr, ⊎_elim, lit<, lit≤}
use Rattle.std.specs.List.{All, AllPass}
use Rattle.std.proofs.lemmas.Bool.{cases_lt}
use Rattle.std.proofs.lemmas.Bool.Decides.{nat_tests}
use Rattle.std.proofs.lemmas.List.Elements.{All-weaker}
use Rattle.std.proofs.lemmas.List.Sums.{AllPass-from_list_all}
use Rattle.size_classes.specs.Classes.{sizes, class_size, class_capacity, IsClassOf}
use Rattle.size_classes.proofs.Spacing.{class_size-rises, class_size-least}
use Rattle.heap_model.specs.declared.call.Call.TheVariants.{Malloc}
use Rattle.heap_model.specs.declared.call.Reply.{Reply}
use Rattle.heap_model.specs.declared.call.Reply.TheVariants.{Placed, NoSpace}
use Rattle.heap_model.specs.Machine.{Bounds}
use Rattle.heap_model.proofs.Sites.{IsStep-granted, IsStep-no_space}
use Rattle.heap_model.specs.Choice.{IsSite, HasNoSite, Site, range_of}
use Rattle.heap_model.specs.Choice.Site.{InMorph}
use Rattle.heap_model.specs.Slabs.{view_of}
use Rattle.heap_model.specs.Step.{with_block, IsStep}
use Rattle.definition_tests.proofs.Morphs.{small, filled, none_filled, takes_class, takes_none}

-- the least class of a size between two
pub class_above : (size b : ℕ) → suc b < 36 → class_size b < size → size ≤ class_size (suc b) → IsClassOf size (suc b)
class_above size b is_class above holds = record {
  is_class = is_class;
  holds = holds;
  least = λ lower less. ⊎_elim
      (λ (below : lower < b). omega (arith, class_size-rises lower b below (omega (arith, is_class)), above))
      (λ (from : b ≤ lower). let same : b ≡ lower = omega arith in subst (λ (k : ℕ). class_size k < size) same above)
      (cases_lt lower b);
}

class_zero : IsClassOf 16 0
unfolding class_size sizes
class_zero = record { is_class = lit< tt; holds = lit≤ tt; least = λ lower less. absurd (omega (arith, less)) }

-- so many blocks of a class are at most 64 and at most a fifth of its capacity, and one more is not; the first block of
-- another class behind them has this number
record Row : Type 0 where
  class : ℕ
  blocks : ℕ
  number : ℕ

-- with blocks of 16 bytes behind them: five times as many blocks as the class's capacity, exactly; of class 9, whose capacity is 330, the bound of 64 comes
-- first; and of class 20, whose capacity of 49 five does not divide, nine blocks are less than a fifth, and ten are more
rows : List Row
rows =
    record { class = 13; blocks = 33; number = 792 }
    ∷ record { class = 18; blocks = 14; number = 784 }
    ∷ record { class = 22; blocks = 7; number = 784 }
    ∷ record { class = 25; blocks = 4; number = 768 }
    ∷ record { class = 27; blocks = 3; number = 768 }
    ∷ record { class = 29; blocks = 2; number = 768 }
    ∷ record { class = 33; blocks = 1; number = 768 }
    ∷ record { class = 9; blocks = 64; number = 768 }
    ∷ record { class = 20; blocks = 9; number = 720 }
    ∷ []

-- a test of a row with a class behind its blocks, and what it says
is_at_bound : ℕ → Row → Bool
is_at_bound c r =
    ((ltb c r.class || ltb r.class c) && ltb r.class 36 && ltb r.blocks 65 && ltb (5 * r.blocks) (class_capacity r.class + 1))
    && ((ltb 64 (r.blocks + 1) || ltb (class_capacity r.class) (5 * (r.blocks + 1))) && ltb r.blocks (class_capacity r.class) && ltb r.number (class_capacity c) && eqb (r.blocks * class_size r.class) (r.number * class_size c))

record IsAtBound (c : ℕ) (r : Row) : Type 0 where
  other : (c < r.class) ⊎ (r.class < c)
  is_class : r.class < 36
  most : r.blocks ≤ 64
  fifth : 5 * r.blocks ≤ class_capacity r.class
  above : (64 < r.blocks + 1) ⊎ (class_capacity r.class < 5 * (r.blocks + 1))
  room : r.blocks < class_capacity r.class
  inside : r.number < class_capacity c
  behind : r.blocks * class_size r.class ≡ r.number * class_size c

at_bound : (c : ℕ) (r : Row) → is_at_bound c r ≡ true → IsAtBound c r
unfolding is_at_bound
at_bound c r is = record {
  other = grind (arith, nat_tests);
  is_class = grind (arith, nat_tests);
  most = grind (arith, nat_tests);
  fifth = grind (arith, nat_tests);
  above = grind (arith, nat_tests);
  room = grind (arith, nat_tests);
  inside = grind (arith, nat_tests);
  behind = grind (arith, nat_tests);
}

rows_pass : AllPass (is_at_bound 0) rows
unfolding rows is_at_bound class_size sizes
rows_pass = AllPass-from_list_all (is_at_bound 0) rows refl

module _ (roots : ℕ) (many : 2001 ≤ roots) where
  abbrev b : Bounds
  b = small roots

  -- a request at the bound of a class: the slab takes class c with so many blocks, and not with one more
  pub record IsBound (c size d n j : ℕ) : Type 0 where
    pub takes : IsSite (view_of b (filled d n)) size (InMorph 12 c j)
    pub takes_none : HasNoSite (view_of b (filled d (suc n))) size

  bound : (c size : ℕ) → IsClassOf size c → (r : Row) → IsAtBound c r → (n : ℕ) → n + 1 ≡ r.blocks → IsBound c size r.class n r.number
  bound c size least r at n is =
      let d = r.class in
      let other : c ≢ d = λ same. ⊎_elim (λ below. omega (arith, same, below)) (λ above. omega (arith, same, above)) at.other in
      let some : 0 < class_size d = omega (arith, class_size-least d at.is_class) in
      record {
        takes = takes_class roots d n some (omega (arith, at.room, is)) (omega (arith, at.most, is, many)) c r.number size (omega (arith, at.most, is)) (omega (arith, at.fifth, is)) other least at.inside
            (omega (arith, at.behind, ap (λ k. k * class_size d) is));
        takes_none = takes_none roots d (suc n) some (omega (arith, at.room, is)) (omega (arith, at.most, is, many)) c size (⊎_elim (λ x. inl (omega (arith, x, is))) (λ x. inr (omega (arith, x, is))) at.above) other least;
      }

  bounds : All (λ r. (n : ℕ) → n + 1 ≡ r.blocks → IsBound 0 16 r.class n r.number) rows
  bounds = All-weaker (λ r. is_at_bound 0 r ≡ true) (λ r. (n : ℕ) → n + 1 ≡ r.blocks → IsBound 0 16 r.class n r.number) (λ r is. bound 0 16 class_zero r (at_bound 0 r is)) rows rows_pass

  -- the machine's steps there
  pub record AreSteps (size d n : ℕ) (reply : Reply) (site : Site) : Type 0 where
    pub granted : IsStep b (filled d n) (Malloc 2000 size) reply (with_block (filled d n) 2000 site)
    pub no_space : IsStep b (filled d (suc n)) (Malloc 2000 size) NoSpace (filled d (suc n))

  steps : (c size : ℕ) → IsClassOf size c → size ≢ 0 → size ≤ 196608 → (r : Row) → is_at_bound c r ≡ true → (n : ℕ) → n + 1 ≡ r.blocks →
      AreSteps size r.class n (Placed (range_of (InMorph 12 c r.number)).at (range_of (InMorph 12 c r.number)).size) (InMorph 12 c r.number)
  steps c size least some most r test n is =
      let at = at_bound c r test in
      let there = bound c size least r at n is in
      record {
        granted = IsStep-granted b (filled r.class n) 2000 size many (none_filled r.class n 2000 (omega (arith, is, at.most))) some most (InMorph 12 c r.number) there.takes;
        no_space = IsStep-no_space b (filled r.class (suc n)) 2000 size many (none_filled r.class (suc n) 2000 (omega (arith, is, at.most))) some most there.takes_none;
      }

  -- 64 blocks of 64 bytes cover 4096, and a block of 1000 comes behind them; 65 are too many
  sixty_four : (n : ℕ) → n + 1 ≡ 64 → AreSteps 1000 3 n (Placed 202752 1024) (InMorph 12 19 4)
  unfolding is_at_bound class_size sizes
  sixty_four = steps 19 1000 (class_above 1000 18 (lit< tt) (lit< tt) (lit≤ tt)) (λ none. omega (arith, none)) (lit≤ tt) (record { class = 3; blocks = 64; number = 4 }) refl

  -- of the 62 blocks of 1024 bytes that a slab holds, 12 are at most a fifth; 13 are more
  twelve : (n : ℕ) → n + 1 ≡ 12 → AreSteps 64 19 n (Placed 210944 64) (InMorph 12 3 192)
  unfolding is_at_bound class_size sizes
  twelve = steps 3 64 (class_above 64 2 (lit< tt) (lit< tt) (lit≤ tt)) (λ none. omega (arith, none)) (lit≤ tt) (record { class = 19; blocks = 12; number = 192 }) refl
