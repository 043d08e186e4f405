-- What caches keep beside the stacks: which of them are not empty. And the steps of their loops, by classes and seats.
use Rattle.std.specs.Prelude.{◌≡◌, ℕ, ◌+◌, ◌*◌, ◌<◌, nat_lt, Bool, List, [], length, slice_index_or, if◌then◌else◌}
use Rattle.bit_words.specs.Numbers.{has}
use Rattle.heap_model.specs.Placement.{Stacks, without_slab, Has, AreDistinct}
use Rattle.thread_cache.specs.Stacks.{StackTable, stacks_of}

-- the stacks that these lists say
abbrev pub table_of : List (List ℕ) → StackTable
table_of lists = record { lists = lists }

-- the number of the stack of a seat and class
pub record IsNumberOf (number seat class : ℕ) : Type 0 where
  pub value : number ≡ 64 * class + seat
  pub is_seat : seat < 64
  pub is_class : class < 36

-- there is a list for each seat and class, a bit says which has an address, and no address stands in two places
pub record IsKept (lists : List (List ℕ)) (seats : List ℕ) : Type 0 where
  pub lists_size : length lists ≡ 2304
  pub seats_size : length seats ≡ 36
  pub seats_are : (number : ℕ) → has seats number ≡ nat_lt 0 (length (slice_index_or lists number []))
  pub distinct : AreDistinct (stacks_of (table_of lists))

-- the stacks of these seats and classes lost the addresses of a slab, and the others are as they were
pub record IsPurgedWhere (slab : ℕ) (here : ℕ → ℕ → Bool) (old new : Stacks) : Type 0 where
  pub each : (seat class : ℕ) → new seat class ≡ (if here seat class then without_slab old slab seat class else old seat class)

-- no stack of the class has the address
pub record HasNone (stacks : Stacks) (class at : ℕ) : Type 0 where
  pub each : (seat : ℕ) → ¬ (Has (stacks seat class) at)
