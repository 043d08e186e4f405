-- What `image` means.
use Rattle.std.specs.Prelude.{◌≡◌, ℕ, List, length, flat_map}
use Rattle.pmem_lines.specs.Pmem.{PmemState, words_of}
use Rattle.pool_layout.specs.Bytes.{bytes_of_words}
use Rattle.trace_text.specs.declared.call.PoolSize.{PoolSize}
use Rattle.trace_text.specs.declared.call.TraceCall.{TraceCall}
use Rattle.trace_runs.specs.Each.{EachFrom}
use Rattle.trace_runs.specs.Arenas.{header_for}
use Rattle.trace_runs.specs.Calls.{calls_of}
use Rattle.trace_runs.specs.Journals.{IsRunThrough}
use Rattle.program_io.specs.declared.input.Kind.TheVariants as kinds
use Rattle.nvheap.specs.Outside.{put_devices}
use Rattle.nvheap.specs.Meaning.{Places, Meaning, of_input}
use Rattle.nvheap.specs.Traces.{HasTrace, RefusesTrace}

-- each of these devices, from this arena on, went through a legal journal that answers the arena's calls, in order
abbrev pub AreRunThrough : PoolSize → List TraceCall → ℕ → List PmemState → Type 0
AreRunThrough pool calls arena devices = EachFrom (λ number device. IsRunThrough (header_for pool number) (calls_of number calls) device) arena devices

-- their words as bytes, one device after another
abbrev pub images_of : List PmemState → List ℕ
images_of devices = flat_map (λ device. bytes_of_words (words_of device)) devices

-- The output is the bytes of devices that went through legal journals of the trace's calls, one for each arena, and the
-- place of each arena's number has its device; the other places stay.
pub record AnswersImage (input output : List ℕ) (old new : Places) : Type 0 where
  pub trace : HasTrace input
  pub devices : List PmemState
  pub all : length devices ≡ trace.pool.arenas
  pub runs : AreRunThrough trace.pool trace.calls 0 devices
  pub is : output ≡ images_of devices
  pub put : new ≡ put_devices old 0 devices

abbrev pub imaging : Meaning
imaging = of_input kinds.Text AnswersImage RefusesTrace HasTrace
