-- A stack over a device behind a power cut.
use Rattle.std.specs.Prelude.{◌≡◌}
use Rattle.pmem_lines.specs.Events.{CrashOnly}
use Rattle.pmem_lines.specs.Pmem.{PmemState, words_of}
use Rattle.heap_check.specs.Image.{IsSteadyImage}
use Rattle.image_defects.specs.Defects.{IsFirstDefect}
use Rattle.arena_core.specs.Arena.{ArenaState}
use Rattle.recover.specs.Recovered.{IsRecovered}
use Rattle.uses.specs.Stack.{IsStack, HoldsStack, IsSteadyStack, StackState}
use Rattle.uses.specs.Opening.{IsOpened}
use Rattle.uses.specs.declared.refusal.ReopenFault.{ReopenFault}
use Rattle.uses.specs.declared.refusal.ReopenFault.TheVariants as faults

-- A stack over a device has the records that the device's image is the stack of. The device was recovered first; a crash
-- meanwhile leaves, from a steady image, the same stack.
pub record IsReopened (old : PmemState) (new : StackState) : Type 0 where
  pub records : IsStack (words_of old) new.records
  -- behind recovery
  pub recovered : ArenaState
  pub recovery : IsRecovered old recovered.device
  pub crash : IsSteadyImage (words_of old) → CrashOnly (words_of old) recovered.device.events (IsSteadyStack new.records)
  pub opened : IsOpened recovered new

-- why there is no stack over a device, and what the device is then: as it was, or recovered
abbrev pub IsFaultOf : PmemState → ReopenFault → PmemState → Type 0
IsFaultOf old (faults.Memory error) new = new ≡ old
IsFaultOf old (faults.Defect defect) new = IsFirstDefect (words_of old) defect × (new ≡ old)
IsFaultOf old faults.NoStack new = ¬ (HoldsStack (words_of old)) × IsRecovered old new
