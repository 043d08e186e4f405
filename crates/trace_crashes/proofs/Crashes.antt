-- What a crash leaves, by the call under way.
use Rattle.std.proofs.Common.{◌≡◌, ℕ, zero, suc, ◌/◌, ◌<◌, ◌≤◌, List, [], ◌∷◌, ◌++◌, length, take, sym, ap, ◌∙◌, refl, arith, subst}
use Rattle.trace_crashes.proofs.Common.{take_all, PmemState, TraceCall, Stage}
use Rattle.pmem_lines.specs.Words.{words_at}
use Rattle.trace_crashes.specs.declared.crashing.CrashFault.{CrashFault}
use Rattle.trace_crashes.specs.declared.crashing.CrashFault.TheVariants.{Memory, NoEvent}
use Rattle.trace_crashes.specs.Crash.{calls_up_to, Variant, Runs, CrashLeft, IsCrash, IfTooFew, IsLeftWithin, IsLeftIdle}
use Rattle.trace_crashes.specs.Seek.{last_stage, IsBehindSought, IsBehindAll}

-- the calls up to and with one that has a number
calls_up_to-some : (n : ℕ) (calls : List TraceCall) → 0 < n → calls_up_to n calls ≡ take n calls
calls_up_to-some zero calls some = absurd (omega arith)
calls_up_to-some (suc n) calls some = refl

module _ (variant : Variant) (runs : Runs) (words : List ℕ) (calls : List TraceCall) (event seed : ℕ) where
  -- what a crash within the call under way leaves is what the crash leaves
  pub IsCrash-within : (device : PmemState) (number done : ℕ) (left : CrashLeft) → IsBehindSought variant runs words calls event device number done → IsLeftWithin variant (last_stage device) number done seed left →
      IsCrash variant runs words calls event seed left
  IsCrash-within device number done left sought within =
      let stages : List Stage = sought.before ++ last_stage device ∷ [] in
      record {
        stages = stages;
        run = subst (λ (n : ℕ). runs (calls_up_to n calls) stages) (sym within.call) (subst (λ (cs : List TraceCall). runs cs stages) (sym (calls_up_to-some number calls sought.some)) sought.run);
        leaves = sought.leaves seed left within;
      }

  -- with no call under way it is the formatted arena
  pub IsCrash-idle : (events : ℕ) (left : CrashLeft) → IsBehindAll variant runs words calls event events → event ≤ events → IsLeftIdle words 0 left → IsCrash variant runs words calls event seed left
  IsCrash-idle events left behind few idle = record {
    stages = behind.stages;
    run = subst (λ (n : ℕ). runs (calls_up_to n calls) behind.stages) (sym idle.no_call) behind.run;
    leaves = behind.leaves few seed left idle;
  }

-- by what such runs are
module _ (runs others : Runs) (are : (calls : List TraceCall) (stages : List Stage) → runs calls stages → others calls stages) (calls : List TraceCall) (event : ℕ) where
  pub IsCrash-by : (variant : Variant) (words : List ℕ) (seed : ℕ) (left : CrashLeft) → IsCrash variant runs words calls event seed left → IsCrash variant others words calls event seed left
  IsCrash-by variant words seed left crash = record { stages = crash.stages; run = are (calls_up_to left.call calls) crash.stages crash.run; leaves = crash.leaves }

  pub IfTooFew-by : (fault : CrashFault) → IfTooFew runs calls event fault → IfTooFew others calls event fault
  IfTooFew-by (Memory error) few = tt
  IfTooFew-by (NoEvent events) few = record { stages = few.stages; run = are calls few.stages few.run; is_all = few.is_all; lacks = few.lacks }

-- all words of a memory
pub all_words : (words : List ℕ) (n : ℕ) → n ≡ length words → words_at words (0 / 8) n ≡ words
unfolding words_at
all_words words n is = ap (λ m. take m words) is ∙ take_all (length words) words (omega arith)
