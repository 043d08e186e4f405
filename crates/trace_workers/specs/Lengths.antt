-- The lengths of journals that passes are told once all workers have ended.
use Rattle.std.specs.Prelude.{◌≡◌, ◌⊎◌, ℕ, ◌≤◌, List, [], ◌∷◌, length}
use Rattle.shared_pool.specs.Passes.{PassState, part_at, mine_at}
use Rattle.trace_runs.specs.Each.{EachFrom}

-- the pass was told lengths, and nothing else of it changed
pub record HasAsked (p q : PassState) : Type 0 where
  pub number : q.number ≡ p.number
  pub mine : (a : ℕ) → mine_at q a ≡ mine_at p a
  pub known : (a : ℕ) → (part_at p a).known ≤ (part_at q a).known

abbrev pub AllAsked : List PassState → List PassState → Type 0
AllAsked [] [] = Unit {0}
AllAsked [] (q ∷ qs) = ⊥
AllAsked (p ∷ ps) [] = ⊥
AllAsked (p ∷ ps) (q ∷ qs) = HasAsked p q × AllAsked ps qs

-- the passes have the numbers from n on, in order
abbrev pub AreInOrder : ℕ → List PassState → Type 0
AreInOrder n passes = EachFrom (λ number p. p.number ≡ number) n passes

-- one of the passes knows the arena's journal to be so long
abbrev pub SomeKnows : ℕ → ℕ → List PassState → Type 0
SomeKnows arena count [] = ⊥
SomeKnows arena count (p ∷ ps) = (count ≤ (part_at p arena).known) ⊎ SomeKnows arena count ps

-- a pass of this number made no more calls of the arena
abbrev pub HasMadeFew : ℕ → ℕ → ℕ → List PassState → Type 0
HasMadeFew number arena count [] = Unit {0}
HasMadeFew number arena count (p ∷ ps) = (p.number ≡ number → length (mine_at p arena) ≤ count) × HasMadeFew number arena count ps

-- the journal of the arena is so long at least, and the pass of its number made no more calls of it
pub record IsCounted (passes : List PassState) (arena count : ℕ) : Type 0 where
  pub known : SomeKnows arena count passes
  pub own : HasMadeFew arena arena count passes
