-- Seats by lock and by pass, for the functions that deal them out and gather them. No public contract speaks of these.
use Rattle.std.specs.Prelude.{◌≡◌, ℕ, ◌<◌, ◌≤◌, List, [], ◌∷◌, ◌++◌, map, length, Result, Ok, Err}
use Rattle.arena_lock.specs.Known.{Lock, Known, new_seats}
use Rattle.pmem_lines.specs.declared.pmem.OutOfMemory.{OutOfMemory}
use Rattle.shared_pool.specs.declared.job.Receipt.{Receipt}
use Rattle.shared_pool.specs.declared.pass.Spot.{Spot}
use Rattle.shared_pool.specs.declared.pool.TryRefusal.{TryRefusal}
use Rattle.shared_pool.specs.declared.pool.TryRefusal.TheVariants.{Memory}
use Rattle.shared_pool.specs.Passes.{PassState}

-- a list, each by a function (the list comes first, so that its type is known)
abbrev pub each_of : {A B : Type 0} → List A → (A → B) → List B
each_of xs f = map f xs

-- rows of some length and capacity: empty, with room for so many
abbrev pub AllRoom : ℕ → List (ℕ × ℕ) → Type 0
AllRoom n [] = Unit {0}
AllRoom n (r ∷ rs) = ((r.0 ≡ 0) × (n ≤ r.1)) × AllRoom n rs

-- the seats of one lock

abbrev pub head_list : List Known → List Known
head_list [] = []
head_list (x ∷ xs) = x ∷ []

-- the seats of each lock that own the numbers from k on, n of them
abbrev pub lines : ℕ → ℕ → List Lock → List (List Known)
lines k n locks = map (λ (l : Lock). new_seats l.id l.opening [] k n) locks

abbrev pub AllSome : List (List Known) → Type 0
AllSome [] = Unit {0}
AllSome (x ∷ xs) = (0 < length x) × AllSome xs

abbrev pub firsts : List (List Known) → List Known
firsts [] = []
firsts (x ∷ xs) = head_list x ++ firsts xs

abbrev pub FirstIs : ℕ → List Known → Type 0
FirstIs n [] = Unit {0}
FirstIs n (p ∷ ps) = (p.numbers ≡ n ∷ []) × (p.seen ≡ [])

-- the first seat of each is new and owns this number
abbrev pub AllFirst : ℕ → List (List Known) → Type 0
AllFirst n [] = Unit {0}
AllFirst n (x ∷ xs) = FirstIs n x × AllFirst n xs

-- the seats of one pass

abbrev pub part_of : Spot → Known
part_of s = s.seat

-- each seat owns just this number, and how much it has seen is known
abbrev pub AllTell : ℕ → List Spot → Type 0
AllTell n [] = Unit {0}
AllTell n (s ∷ ss) = ((s.seat.numbers ≡ n ∷ []) × (length s.seat.seen ≡ s.seen)) × AllTell n ss

-- the first seat of each pass
abbrev pub heads : List PassState → List Known
heads [] = []
heads (p ∷ ps) = head_list p.parts ++ heads ps

-- the passes without their first arena
abbrev pub tail_list : List Known → List Known
tail_list [] = []
tail_list (x ∷ xs) = xs

abbrev pub behead : PassState → PassState
behead p = record { number = p.number; parts = tail_list p.parts }

abbrev pub AllLong : List PassState → Type 0
AllLong [] = Unit {0}
AllLong (p ∷ ps) = (0 < length p.parts) × AllLong ps

abbrev pub HeadBelongs : ℕ → List Known → Type 0
HeadBelongs n [] = Unit {0}
HeadBelongs n (x ∷ xs) = x.numbers ≡ n ∷ []

abbrev pub HeadsBelong : List PassState → Type 0
HeadsBelong [] = Unit {0}
HeadsBelong (p ∷ ps) = HeadBelongs p.number p.parts × HeadsBelong ps

-- answers

-- the same answer, where a try may be refused in two ways
abbrev pub SameAnswer : Result Receipt OutOfMemory → Result Receipt TryRefusal → Type 0
SameAnswer (Ok r) out = out ≡ Ok r
SameAnswer (Err e) out = out ≡ Err (Memory e)
