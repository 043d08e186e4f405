-- The calls of generated work, as a function of the words that a generator draws.
use Rattle.std.specs.Prelude.{◌≡◌, ◌==◌, ℕ, zero, suc, ◌+◌, ◌/◌, ◌%◌, nat_lt, List, [], ◌∷◌, if◌then◌else◌}
use Rattle.heap_model.specs.declared.call.Call.{Call}
use Rattle.heap_model.specs.declared.call.Call.TheVariants.{Malloc, Free, Write, Read}
use Rattle.pmem_lines.specs.Picks.{drawn}
use Rattle.trace_text.specs.declared.call.PoolSize.{PoolSize}
use Rattle.trace_text.specs.declared.call.TraceCall.{TraceCall}

-- the pool that they are calls of
abbrev pub the_pool : PoolSize
the_pool = record { version = 1; arenas = 4; granules = 256 }

-- one word

-- its root
abbrev pub root_in : ℕ → ℕ
root_in word = word % 1024

-- its kind: 0 to 3 ask for a block, 4 and 5 free one, 6 writes a word and 7 reads one
abbrev pub kind_in : ℕ → ℕ
kind_in word = (word / 1024) % 8

-- how many bytes it asks for: of 64 such words 60 ask for a small block, and 4 for a large one
abbrev pub size_in : ℕ → ℕ
size_in word =
    if nat_lt ((word / 8192) % 64) 60
    then 1 + (word / 524288) % 2048
    else 16385 + (word / 524288) % 49152

-- what it asks: a Write and a Read are of the block's first word, and a Write is of the drawn word itself
abbrev pub asked_by : ℕ → Call
asked_by word =
    if nat_lt (kind_in word) 4
    then Malloc (root_in word) (size_in word)
    else (if nat_lt (kind_in word) 6
    then Free (root_in word)
    else (if kind_in word == 6
    then Write (root_in word) 0 word
    else Read (root_in word) 0))

-- all calls

-- the call of this number: arenas take turns, and so do threads
abbrev pub call_of : ℕ → ℕ → TraceCall
call_of number word = record { thread = number % 4; arena = number % 4; call = asked_by word }

-- so many calls, from a number and a state of the generator on: each draws one word
abbrev pub drawn_from : ℕ → ℕ → ℕ → List TraceCall
drawn_from zero number state = []
drawn_from (suc n) number state = call_of number (drawn state).0 ∷ drawn_from n (suc number) (drawn state).1

-- so many calls of a seed
abbrev pub generated : ℕ → ℕ → List TraceCall
generated count seed = drawn_from count 0 seed

-- the thread of a call has the number of its arena
abbrev pub IsOwn : TraceCall → Type 0
IsOwn call = call.thread ≡ call.arena
