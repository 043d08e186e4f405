-- What the calls of an arena settle: the journal that answers them in order, and the run that a crash is said over.
use Rattle.std.specs.Prelude.{◌≡◌, List}
use Rattle.std.specs.List.{All}
use Rattle.heap_model.specs.declared.call.Entry.{Entry}
use Rattle.heap_model.specs.Placement.{PlacedState}
use Rattle.trace_text.specs.declared.call.TraceCall.{TraceCall}
use Rattle.pool_layout.specs.declared.header.PoolHeader.{PoolHeader}
use Rattle.trace_runs.specs.Calls.{CanBeMade, IsOfBlocks, AreAnswers}
use Rattle.trace_runs.specs.Journals.{IsJournal}
use Rattle.trace_runs.specs.Runs.{Stage, IsRunOf}

-- Calls that read and write no word have one journal that answers them in order, and it leads to one state with one
-- choice of stacks. Of other calls this can't be said: a Read of a word that was never written may answer any word.
abbrev pub LawOfOneJournal : Type 0
LawOfOneJournal = (header : PoolHeader) (calls : List TraceCall) (journal other : List Entry) (last another : PlacedState) → All IsOfBlocks calls → AreAnswers calls journal → AreAnswers calls other →
    IsJournal header journal last → IsJournal header other another → (journal ≡ other) × (last ≡ another)

-- Calls have one run, and so one number of events, whatever they read and write: a Read has no event and changes nothing,
-- whichever word it answers.
abbrev pub LawOfOneRun : Type 0
LawOfOneRun = (header : PoolHeader) (calls : List TraceCall) (stages others : List Stage) → All CanBeMade calls → IsRunOf header calls stages → IsRunOf header calls others → stages ≡ others
