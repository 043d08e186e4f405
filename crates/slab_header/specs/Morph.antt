-- The events by which a slab takes another class while blocks of the old one live in it, and by which it has them no
-- more. `slab_morph` makes them: in a malloc that finds no other place, in a free of the last old block, and in recovery.
use Rattle.std.specs.Prelude.{ℕ, zero, suc, ◌+◌, ◌*◌, ◌/◌, min, Bool, true, List, [], ◌∷◌, ◌++◌, length, if◌then◌else◌}
use Rattle.pmem_lines.specs.Words.{zeros}
use Rattle.pmem_lines.specs.declared.event.Event.{Event}
use Rattle.pmem_lines.specs.declared.event.Event.TheVariants.{Store, Fence}
use Rattle.durable_steps.specs.Rows.{stores_at, flushes_of}
use Rattle.durable_steps.specs.Steps.{word_events}
use Rattle.size_classes.specs.Classes.{class_capacity}
use Rattle.image_tables.specs.Tables.{Tables, state_word, index_word}
use Rattle.slab_header.specs.declared.state.SlabState.{SlabState}
use Rattle.slab_header.specs.declared.state.SlabState.TheVariants.{Normal, Morphing, Morphed}
use Rattle.slab_header.specs.State.{word_of_state}
use Rattle.slab_header.specs.Index.{word_of_index}
use Rattle.slab_header.specs.Steps.{bitmap_words}

-- the numbers below n that pass, rising
abbrev pub numbers_below : (ℕ → Bool) → ℕ → List ℕ
numbers_below test zero = []
numbers_below test (suc n) = numbers_below test n ++ (if test n then n ∷ [] else [])

-- the blocks that a normal slab holds, by their numbers
abbrev pub held_numbers : Tables → ℕ → List ℕ
held_numbers t start = numbers_below (t.header start).bit (class_capacity (t.header start).class)

-- live old blocks are put into the index table, from a place on
abbrev pub index_stores : ℕ → ℕ → List ℕ → List Event
index_stores start place [] = []
index_stores start place (number ∷ numbers) = Store (8 * index_word start place) (word_of_index (record { live = true; number = number })) ∷ index_stores start (place + 1) numbers

-- they are made durable: neighbours lie in different lines, of which there are eight
abbrev pub index_events : ℕ → List ℕ → List Event
index_events start numbers = index_stores start 0 numbers ++ flushes_of (8 * index_word start 0 / 64) (min (length numbers) 8) ++ Fence ∷ []

-- the state word of the slab says this, durably
abbrev pub state_events : ℕ → SlabState → List Event
state_events start state = word_events (8 * state_word start) (word_of_state state)

-- the bitmap is cleared, durably
abbrev pub clear_events : ℕ → List Event
clear_events start = let at = 16384 * start + 64 in stores_at at (zeros bitmap_words) ++ flushes_of (at / 64) 8 ++ Fence ∷ []

-- A slab that is in Morphing comes to its class: the bitmap is cleared before the state word says so, since old bits would
-- be read as blocks of the new class.
abbrev pub finish_morph_events : ℕ → ℕ → ℕ → ℕ → List Event
finish_morph_events start class old entries = clear_events start ++ state_events start (Morphed class old entries)

-- A slab takes another class: the old blocks are in the index table before the state word says that they are read there.
abbrev pub morph_events : Tables → ℕ → ℕ → List Event
morph_events t start class =
    let held = held_numbers t start in
    index_events start held ++ state_events start (Morphing class (t.header start).class (length held)) ++ finish_morph_events start class (t.header start).class (length held)

-- the last old block is gone
abbrev pub finish_old_events : ℕ → ℕ → List Event
finish_old_events start class = state_events start (Normal class)
