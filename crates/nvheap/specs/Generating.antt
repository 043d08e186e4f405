-- What `gen N SEED` means.
use Rattle.std.specs.Prelude.{◌≡◌, ℕ, List, None, true, false}
use Rattle.pmem_lines.specs.Pmem.{PmemState}
use Rattle.trace_gen.specs.Draws.{the_pool, generated}
use Rattle.trace_workers.specs.Summaries.{IsSummed}
use Rattle.nvheap.specs.Outside.{put_devices}
use Rattle.nvheap.specs.Meaning.{Places, Meaning, MakesNone}

-- The output is the summary of runs that answer the calls of generated work, one for each arena of its pool, and the place of
-- each arena's number has the device that went through its run; the other places stay.
pub record AnswersGen (count seed : ℕ) (input output : List ℕ) (old new : Places) : Type 0 where
  pub devices : List PmemState
  pub summed : IsSummed the_pool (generated count seed) output devices
  pub put : new ≡ put_devices old 0 devices

abbrev pub generating : ℕ → ℕ → Meaning
generating count seed = record {
  reads = None;
  waits = true;
  idle = false;
  recovers = false;
  answers = AnswersGen count seed;
  images = MakesNone;
  refuses = λ input cause. ⊥;
  accepts = λ input. Unit {0};
}
