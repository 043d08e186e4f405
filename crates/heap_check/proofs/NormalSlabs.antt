-- The normal slabs.
use Rattle.std.proofs.Common.{◌≡◌, ◌≢◌, ◌==◌, ◌&&◌, ℕ, true, false, Some, None, if◌then◌else◌, arith, eq-eqb}
use Rattle.heap_check.proofs.Common.{Tables, normal_kind, cond-true, cond-false, and_from, and_left}
use Rattle.heap_check.specs.Views.{normal_of}
use Rattle.heap_check.specs.Slabs.{IsSameSlab}

-- a normal slab is one
pub normal_of-normal : (t : Tables) (s : ℕ) → t.slab s ≡ true → (t.header s).kind ≡ normal_kind → normal_of t s ≡ Some (t.header s).class
normal_of-normal t s slab normal = cond-true (t.slab s && ((t.header s).kind == normal_kind)) (Some (t.header s).class) None (and_from (t.slab s) ((t.header s).kind == normal_kind) slab (eq-eqb (t.header s).kind normal_kind normal))

-- no other one is
pub normal_of-other : (t : Tables) (s : ℕ) → (t.header s).kind ≢ normal_kind → normal_of t s ≡ None
normal_of-other t s moving = grind arith

pub normal_of-none : (t : Tables) (s : ℕ) → t.slab s ≡ false → normal_of t s ≡ None
normal_of-none t s none = cond-false (t.slab s && ((t.header s).kind == normal_kind)) (Some (t.header s).class) None (and_left (t.slab s) ((t.header s).kind == normal_kind) none)

-- what a normal slab is
pub normal_of-parts : (t : Tables) (s class : ℕ) → normal_of t s ≡ Some class → (t.slab s ≡ true) × ((t.header s).kind ≡ normal_kind) × (class ≡ (t.header s).class)
normal_of-parts t s class is = grind arith

-- slabs of which two tables say the same are normal alike
pub normal_of-same : (t new : Tables) (s : ℕ) → IsSameSlab t new s → normal_of new s ≡ normal_of t s
normal_of-same t new s same = λ i. if same.slab i && ((same.header i).kind == normal_kind) then Some (same.header i).class else None
