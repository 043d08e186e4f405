-- What is printed, byte by byte. Every line ends with a line feed.
use Rattle.std.specs.Prelude.{ℕ, List, [], ◌∷◌, ◌++◌, length, decimal, codes, flat_map}
use Rattle.heap_model.specs.declared.block.Block.{Block}
use Rattle.heap_model.specs.declared.call.Reply.{Reply}
use Rattle.heap_model.specs.declared.call.Reply.TheVariants.{Placed, Freed, Wrote, Value, Moved, NoRoot, Occupied, Empty, ZeroSize, TooLarge, OutOfRange, NoSpace}
use Rattle.heap_model.specs.declared.call.Entry.{Entry}
use Rattle.trace_text.specs.declared.call.CrashSide.{CrashSide}
use Rattle.trace_text.specs.declared.call.CrashSide.TheVariants.{Same, Before, After}
use Rattle.trace_text.specs.declared.call.Refusal.{Refusal}
use Rattle.trace_text.specs.declared.call.Refusal.TheVariants.{BadLine, NoArena, NoEvent}
use Rattle.trace_text.specs.Words.{call_text}

-- an answer
abbrev pub reply_text : Reply → List ℕ
reply_text (Placed at size) = codes "placed " ++ decimal at ++ 32 ∷ decimal size
reply_text (Freed at size) = codes "freed " ++ decimal at ++ 32 ∷ decimal size
reply_text Wrote = codes "wrote"
reply_text (Value word) = codes "value " ++ decimal word
reply_text (Moved at size) = codes "moved " ++ decimal at ++ 32 ∷ decimal size
reply_text NoRoot = codes "no root"
reply_text (Occupied at) = codes "occupied " ++ decimal at
reply_text Empty = codes "empty"
reply_text ZeroSize = codes "zero size"
reply_text TooLarge = codes "too large"
reply_text OutOfRange = codes "out of range"
reply_text NoSpace = codes "no space"

-- an entry of a journal
abbrev pub entry_line : Entry → List ℕ
entry_line entry = decimal entry.seat ++ 32 ∷ call_text entry.call ++ 32 ∷ reply_text entry.reply ++ 10 ∷ []

-- a block of a heap
abbrev pub block_line : Block → List ℕ
block_line block = decimal block.root ++ 32 ∷ decimal block.at ++ 32 ∷ decimal block.size ++ 10 ∷ []

-- a heap: how many blocks, and the blocks
abbrev pub heap_text : List Block → List ℕ
heap_text blocks = codes "heap " ++ decimal (length blocks) ++ 10 ∷ flat_map block_line blocks

-- an arena, and how many calls its journal has
abbrev pub arena_line : ℕ → ℕ → List ℕ
arena_line arena calls = codes "arena " ++ decimal arena ++ codes " calls " ++ decimal calls ++ 10 ∷ []

-- the report of an arena: its journal and its heap
abbrev pub arena_text : ℕ → List Entry → List Block → List ℕ
arena_text arena journal blocks = arena_line arena (length journal) ++ flat_map entry_line journal ++ heap_text blocks

-- on which side of the call a heap stands
abbrev pub side_text : CrashSide → List ℕ
side_text Same = codes "same"
side_text Before = codes "before"
side_text After = codes "after"

-- the line that a report of a crash begins with: the number of the call under way, and on which side of it that stands which the
-- crash left
abbrev pub crash_line : ℕ → CrashSide → List ℕ
crash_line call side = codes "call " ++ decimal call ++ 32 ∷ side_text side ++ 10 ∷ []

-- the report of a crash: its line, and the heap that the crash left
abbrev pub crash_text : ℕ → CrashSide → List Block → List ℕ
crash_text call side blocks = crash_line call side ++ heap_text blocks

-- why an input is refused
abbrev pub refusal_text : Refusal → List ℕ
refusal_text (BadLine line) = codes "bad line " ++ decimal line ++ 10 ∷ []
refusal_text (NoArena arena arenas) = codes "no arena " ++ decimal arena ++ codes " of " ++ decimal arenas ++ 10 ∷ []
refusal_text (NoEvent event events) = codes "no event " ++ decimal event ++ codes " of " ++ decimal events ++ 10 ∷ []
