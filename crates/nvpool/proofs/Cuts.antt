-- The bytes of a pool of which one arena was cut, and the image of that one.
use Rattle.std.proofs.Common.{◌≡◌, ◌≢◌, ℕ, ◌+◌, ◌*◌, ◌-◌, ◌<◌, Bool, true, false, List, [], ◌∷◌, ◌++◌, length, Result, Ok, Err, refl, sym, subst, add-one}
use Rattle.std.specs.Prelude.{OnOk}
use Rattle.std.specs.Bool.{MatchBool}
use Rattle.pmem_lines.specs.Pmem.{PmemState, words_of}
use Rattle.pmem_lines.specs.Words.{zeros}
use Rattle.pmem_lines.proofs.Words.{length-zeros, AreZeros-zeros}
use Rattle.pool_layout.specs.Bytes.{bytes_of_words}
use Rattle.pool_layout.specs.declared.header.PoolHeader.{PoolHeader}
use Rattle.pool_layout.specs.Header.{IsPoolHeader}
use Rattle.heap_check.specs.Image.{bounds_of, IsExactImage, IsSteadyImage}
use Rattle.image_tables.specs.Tables.{tables_of}
use Rattle.heap_check.proofs.Blank.{law_of_steady}
use Rattle.heap_check.proofs.Formatted.{law_of_formatted}
use Rattle.pool_layout.specs.declared.header.PoolVariant.TheVariants.{Log}
use Rattle.arena_core.proofs.HeaderLines.{written, reading-line, formatted-written}
use Rattle.trace_text.specs.declared.call.PoolSize.{PoolSize}
use Rattle.trace_text.specs.declared.call.TraceCall.{TraceCall}
use Rattle.trace_text.specs.Grammar.{IsPool}
use Rattle.trace_runs.specs.Arenas.{header_for, formatted}
use Rattle.trace_runs.specs.Calls.{calls_of}
use Rattle.trace_runs.specs.Journals.{IsRunThrough}
use Rattle.trace_runs.specs.Runs.{Stage}
use Rattle.trace_runs.proofs.Formatting.{IsPoolHeader-for}
use Rattle.trace_crashes.specs.Crash.{is_under_way, CrashLeft, log, IsLeft, IsLeftWithin, IsCrashOf}
use Rattle.map_text.specs.Pieces.{Adds}
use Rattle.nvpool.specs.Cutting.{AreRunAsBytes, IsPartAsBytes, AreParts}

-- the image of a crash is steady

exact_steady : (words : List ℕ) → IsExactImage words → IsSteadyImage words
exact_steady words exact = record { formed = exact.formed; steady = law_of_steady (bounds_of words) (tables_of words) exact.exact }

formatted_steady : (header : PoolHeader) → IsPoolHeader header → IsSteadyImage (formatted header)
unfolding formatted
formatted_steady header valid =
    let none = zeros (2048 * header.granules) in
    let exact = (law_of_formatted (written Log none header) header (formatted-written Log none header (AreZeros-zeros (2048 * header.granules)) valid (length-zeros (2048 * header.granules)))).0 in
    exact_steady (formatted header) (subst IsExactImage (sym (reading-line Log none header)) exact)

left_steady : (words : List ℕ) → IsSteadyImage words → (number : ℕ) (stages : List Stage) (event seed : ℕ) (left : CrashLeft) → IsLeft log words number stages event seed left → IsSteadyImage left.image
left_steady words steady number [] event seed left is = subst IsSteadyImage (sym is.image) steady
left_steady words steady number (stage ∷ stages) event seed left is = by (is_under_way stage.events event) (left_steady words steady (number + 1) stages (event - length stage.events) seed left) is
  where
    by : (b : Bool) → (IsLeft log words (number + 1) stages (event - length stage.events) seed left → IsSteadyImage left.image) → MatchBool b (IsLeftWithin log stage (number + 1) event seed left) (IsLeft log words (number + 1) stages (event - length stage.events) seed left) → IsSteadyImage left.image
    by true next within = within.whole
    by false next later = next later

pub crash_steady : (pool : PoolSize) (arena : ℕ) (calls : List TraceCall) (event seed : ℕ) (left : CrashLeft) → IsPool pool → arena < pool.arenas → IsCrashOf (header_for pool arena) calls event seed left → IsSteadyImage left.image
crash_steady pool arena calls event seed left sized inside is =
    left_steady (formatted (header_for pool arena)) (formatted_steady (header_for pool arena) (IsPoolHeader-for sized inside)) 0 is.stages event seed left is.leaves

-- the bytes of the parts

-- what an Ok says implies more
on_ok_more : {X E : Type 0} (r : Result X E) (P Q : Type 0) → (P → Q) → OnOk r P → OnOk r Q
on_ok_more (Ok x) P Q more is = more is
on_ok_more (Err e) P Q more is = tt

-- the words that calls leave, as bytes
pub run_added : {X E : Type 0} (result : Result X E) (header : PoolHeader) (calls : List TraceCall) (device : PmemState) (words old new : List ℕ) → IsRunThrough header calls device → words ≡ words_of device → OnOk result (new ≡ old ++ bytes_of_words words) → OnOk result (Adds (AreRunAsBytes header calls) old new)
run_added result header calls device words old new run are = on_ok_more result (new ≡ old ++ bytes_of_words words) (Adds (AreRunAsBytes header calls) old new)
    (λ is. record { own = bytes_of_words words; told = record { words = words; run = record { device = device; run = run; words_are = are }; bytes_are = refl }; is = is })

module _ (pool : PoolSize) (calls : List TraceCall) (cut : ℕ) (image : List ℕ) where
  -- the part that was cut
  pub own_added : {X E : Type 0} (result : Result X E) (number : ℕ) (old new : List ℕ) → number ≡ cut → OnOk result (new ≡ old ++ bytes_of_words image) → OnOk result (Adds (IsPartAsBytes pool calls cut image number) old new)
  own_added result number old new same = on_ok_more result (new ≡ old ++ bytes_of_words image) (Adds (IsPartAsBytes pool calls cut image number) old new)
      (λ is. record { own = bytes_of_words image; told = record { words = image; part = record { own = λ here. refl; other = λ apart. absurd (apart same) }; bytes_are = refl }; is = is })

  -- any other one
  pub other_added : {X E : Type 0} (result : Result X E) (number : ℕ) (old new : List ℕ) → number ≢ cut → OnOk result (Adds (AreRunAsBytes (header_for pool number) (calls_of number calls)) old new) → OnOk result (Adds (IsPartAsBytes pool calls cut image number) old new)
  other_added result number old new apart = on_ok_more result (Adds (AreRunAsBytes (header_for pool number) (calls_of number calls)) old new) (Adds (IsPartAsBytes pool calls cut image number) old new)
      (λ adds. record { own = adds.own; told = record { words = adds.told.words; part = record { own = λ here. absurd (apart here); other = λ away. adds.told.run }; bytes_are = adds.told.bytes_are }; is = adds.is })

  -- one arena more
  pub parts_more : (number : ℕ) (old new : List ℕ) → AreParts pool calls cut image number old → Adds (IsPartAsBytes pool calls cut image number) old new → AreParts pool calls cut image (number + 1) new
  parts_more number old new before more = subst (λ n. AreParts pool calls cut image n new) (sym (add-one number)) (old, more.own, before, more.told, more.is)
