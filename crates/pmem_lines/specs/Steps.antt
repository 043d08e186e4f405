-- A step on a persistent memory: a short list of events that begins and ends quiet, and by which a longer sequence is
-- argued. The layers above say what a step is by this record, and of two steps in a row it holds again.
use Rattle.std.specs.Prelude.{ℕ, List}
use Rattle.pmem_lines.specs.declared.event.Event.{Event}
use Rattle.pmem_lines.specs.Pmem.{PmemState, words_of, Appends}
use Rattle.pmem_lines.specs.Events.{IsQuiet, CrashOnly}

-- exactly these events, which end quiet, and a crash within them leaves words that have Left
pub record IsQuietStep (old new : PmemState) (events : List Event) (Left : List ℕ → Type 0) : Type 0 where
  -- the events, and the words that they leave
  pub appends : Appends old new events
  -- nothing is left to chance behind them
  pub quiet : IsQuiet new.events
  -- what a crash leaves, within them or behind them
  pub crash : CrashOnly (words_of old) events Left
