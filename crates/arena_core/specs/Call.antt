-- What a call of an arena is: a step of the heap machine, and what a crash within it leaves.
use Rattle.std.specs.Prelude.{◌≡◌, ◌⊎◌, ℕ, ◌≤◌, List}
use Rattle.pmem_lines.specs.Words.{word_at}
use Rattle.pmem_lines.specs.Events.{IsQuiet}
use Rattle.pmem_lines.specs.Pmem.{PmemState, words_of}
use Rattle.pool_layout.specs.Layout.{layout_of}
use Rattle.pool_layout.specs.Places.{fields_word}
use Rattle.pool_layout.specs.Header.{version_in, IsHeaderDefect}
use Rattle.pool_layout.specs.declared.defect.Defect.TheVariants.{BadHeader}
use Rattle.heap_model.specs.declared.call.Call.{Call}
use Rattle.heap_model.specs.declared.call.Reply.{Reply}
use Rattle.heap_model.specs.Machine.{Machine, no_heap}
use Rattle.heap_model.specs.Placement.{Stacks, IsPlacedStep}
use Rattle.heap_check.specs.Image.{bounds_of, IsExactImage}
use Rattle.heap_check.specs.State.{HasState}

-- the memory may begin a call, and has room for the events of any in an arena of its version
pub record IsReady (device : PmemState) : Type 0 where
  pub quiet : IsQuiet device.events
  pub room : (layout_of (version_in (words_of device))).room ≤ device.room

-- each state that the old words have leads, with the stacks before it, to one that the new words have, with the stacks behind
-- it, by a step of the placement for a seat; the fields of the header, and so the version and the numbers, are the same
pub record IsStepOf (seat : ℕ) (old : List ℕ) (was : Stacks) (new : List ℕ) (after : Stacks) (call : Call) (reply : Reply) : Type 0 where
  pub header : word_at new fields_word ≡ word_at old fields_word
  pub each : (m : Machine) → HasState old m → (next : Machine) × IsPlacedStep (bounds_of old) seat (record { machine = m; stacks = was }) call reply (record { machine = next; stacks = after }) × HasState new next

-- whichever seat calls, and whatever the stacks are, which stay
abbrev pub IsStepOfAny : List ℕ → List ℕ → Call → Reply → Type 0
IsStepOfAny old new call reply = (seat : ℕ) (stacks : Stacks) → IsStepOf seat old stacks new stacks call reply

-- a crash while an arena is formatted leaves an image that is refused for its first word, or an exact one with no block
abbrev pub IsFormattedOrNot : List ℕ → Type 0
IsFormattedOrNot image = IsHeaderDefect image (BadHeader 0 0) ⊎ (IsExactImage image × HasState image no_heap)
