-- A stack behind a power cut: recovery leaves it, and so does a crash within recovery.
use Rattle.std.proofs.Common.{◌∙◌, ℕ, List, sym}
use Rattle.uses.proofs.Common.{PmemState, words_of, HaveSameHeap, KeepsBlocks, ArenaState, IsRecovered}
use Rattle.settle_steps.specs.Settled.{KeepsHeap}
use Rattle.uses.specs.Stack.{IsStack, HoldsStack, IsSteadyStack, StackState}
use Rattle.uses.specs.Opening.{IsOpened}
use Rattle.uses.specs.Reopening.{IsReopened}
use Rattle.uses.proofs.Stacks.{KeepsBelow, keeps_below, stack_kept}

-- the same heap with the words of its blocks, and back
same_below : (old new : List ℕ) → HaveSameHeap old new → KeepsBlocks old new → KeepsBelow old new
same_below old new heap blocks = keeps_below old new (λ root low. heap.each root) blocks

back_below : (old new : List ℕ) → HaveSameHeap old new → KeepsBlocks old new → KeepsBelow new old
back_below old new heap blocks = record {
  blocks = λ root low. sym (heap.each root);
  words = λ root k range low named word. sym (blocks.each root root range k (sym (heap.each root) ∙ named) named word);
}

-- what recovery leaves while it goes on
left_recovering : (old : List ℕ) (records : List (List ℕ)) → IsStack old records → (image : List ℕ) → KeepsHeap old image → IsSteadyStack records image
left_recovering old records was image keeps = record { steady = keeps.steady; stack = stack_kept old image records was (same_below old image keeps.heap keeps.blocks) }

pub reopened : (old : PmemState) (arena : ArenaState) (new : StackState) → IsRecovered old arena.device → IsOpened arena new → IsReopened old new
reopened old arena new is opened =
    let was : IsStack (words_of old) new.records = stack_kept (words_of arena.device) (words_of old) new.records opened.records (back_below (words_of old) (words_of arena.device) is.image.heap is.image.blocks) in
    record {
      records = was;
      recovered = arena;
      recovery = is;
      crash = λ steady. record { each = λ n image crashed. left_recovering (words_of old) new.records was image ((is.crash steady).each n image crashed) };
      opened = opened;
    }

-- a device that is no stack was none
pub still_none : (old : PmemState) (arena : ArenaState) → IsRecovered old arena.device → ¬ (HoldsStack (words_of arena.device)) → ¬ (HoldsStack (words_of old))
still_none old arena is none holds =
    none (record { records = holds.records; stack = stack_kept (words_of old) (words_of arena.device) holds.records holds.stack (same_below (words_of old) (words_of arena.device) is.image.heap is.image.blocks) })
