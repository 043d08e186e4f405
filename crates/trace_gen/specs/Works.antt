-- What the calls of an arena came to.
use Rattle.std.specs.Prelude.{ℕ, Bool, true, false, List, length, count_by, sum_by}
use Rattle.heap_model.specs.declared.block.Block.{Block}
use Rattle.heap_model.specs.declared.call.Entry.{Entry}
use Rattle.heap_model.specs.declared.call.Reply.{Reply}
use Rattle.heap_model.specs.declared.call.Reply.TheVariants.{Placed, Freed, Wrote, Value}
use Rattle.trace_text.specs.declared.work_report.Work.{Work}
use Rattle.trace_text.specs.WorkReport.{work_line}

-- replies

-- the call placed a block
abbrev pub is_placed : Reply → Bool
is_placed (Placed at size) = true
is_placed reply = false

-- the call freed a block
abbrev pub is_freed : Reply → Bool
is_freed (Freed at size) = true
is_freed reply = false

-- the call was refused: every reply but Placed, Freed, Wrote and Value; generated work moves no block
abbrev pub is_refused : Reply → Bool
is_refused (Placed at size) = false
is_refused (Freed at size) = false
is_refused Wrote = false
is_refused (Value word) = false
is_refused reply = true

-- journals

-- how many replies of a journal are of a kind
abbrev pub replies_of : (Reply → Bool) → List Entry → ℕ
replies_of kind journal = count_by (λ e. kind e.reply) journal

-- how many bytes blocks have together
abbrev pub bytes_of : List Block → ℕ
bytes_of blocks = sum_by (λ b. b.size) blocks

-- what so many calls came to, by their journal and the blocks that live at its end
abbrev pub work_of : ℕ → List Entry → List Block → Work
work_of calls journal blocks = record {
  calls = calls;
  placed = replies_of is_placed journal;
  freed = replies_of is_freed journal;
  refused = replies_of is_refused journal;
  live = length blocks;
  bytes = bytes_of blocks;
}

-- the line of an arena: what all calls of its journal came to
abbrev pub summary_text : ℕ → List Entry → List Block → List ℕ
summary_text arena journal blocks = work_line arena (work_of (length journal) journal blocks)
