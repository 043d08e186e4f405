-- The report of some arenas, and then that of the next one.
use Rattle.std.proofs.Common.{◌≡◌, ℕ, suc, ◌+◌, List, [], ◌∷◌, ◌++◌, length, length-append, refl, sym, ap, ◌∙◌, subst, arith, append_assoc}
use Rattle.std.proofs.lemmas.List.{append-nil, length-map}
use mathlib.Core.List.{map-append}
use Rattle.pmem_lines.specs.Pmem.{PmemState, words_of}
use Rattle.trace_text.specs.Report.{arena_text}
use Rattle.trace_text.specs.declared.call.PoolSize.{PoolSize}
use Rattle.trace_text.specs.declared.call.TraceCall.{TraceCall}
use Rattle.trace_runs.specs.Blocks.{blocks_of}
use Rattle.trace_runs.specs.Told.{ArenaRun, Telling, told_from, devices_of}
use Rattle.trace_runs.proofs.Each.{EachFrom-more}
use Rattle.gc_runs.specs.Told.{HasMadeGcCalls, IsToldBelow, HasToldArena}

-- what is told of an arena
abbrev text_of : Telling → ℕ → ArenaRun → List ℕ
text_of tell arena run = tell arena run.journal (blocks_of (words_of run.device) run.machine.block)

told_from-more : (tell : Telling) (arena : ℕ) (runs : List ArenaRun) (run : ArenaRun) → told_from tell arena (runs ++ run ∷ []) ≡ told_from tell arena runs ++ text_of tell (arena + length runs) run
told_from-more tell arena [] run =
    let here : arena ≡ arena + 0 = omega arith in
    append-nil (text_of tell arena run) ∙ ap (λ n. text_of tell n run) here
told_from-more tell arena (r ∷ rs) run =
    let next : suc arena + length rs ≡ arena + suc (length rs) = omega arith in
    ap (λ (text : List ℕ). text_of tell arena r ++ text) (told_from-more tell (suc arena) rs run ∙ ap (λ n. told_from tell (suc arena) rs ++ text_of tell n run) next)
    ∙ sym (append_assoc (text_of tell arena r) (told_from tell (suc arena) rs) (text_of tell (arena + suc (length rs)) run))

-- of no arena
pub told_none : (pool : PoolSize) (calls : List TraceCall) → IsToldBelow pool calls 0 [] []
told_none pool calls = record { runs = []; all = refl; each = tt; told = refl; left = refl }

-- and of one more
pub told_more : (pool : PoolSize) (calls : List TraceCall) (number : ℕ) (old new : List ℕ) (devices : List PmemState) (device : PmemState) →
    IsToldBelow pool calls number old devices → HasToldArena pool calls number old new device → IsToldBelow pool calls (number + 1) new (devices ++ device ∷ [])
told_more pool calls number old new devices device below one =
    let here : number ≡ 0 + length below.runs = omega (arith, below.all) in
    record {
      runs = below.runs ++ one.run ∷ [];
      all = omega (arith, below.all, length-append below.runs (one.run ∷ []));
      each = EachFrom-more (HasMadeGcCalls pool calls) 0 below.runs one.run below.each (subst (λ n. HasMadeGcCalls pool calls n one.run) here one.made);
      told =
          one.told ∙ ap (λ (text : List ℕ). text ++ text_of arena_text number one.run) below.told
          ∙ ap (λ n. told_from arena_text 0 below.runs ++ text_of arena_text n one.run) here
          ∙ sym (told_from-more arena_text 0 below.runs one.run);
      left =
          ap (λ (ds : List PmemState). ds ++ device ∷ []) below.left ∙ ap (λ (d : PmemState). devices_of below.runs ++ d ∷ []) one.left
          ∙ sym (map-append (λ (r : ArenaRun). r.device) below.runs (one.run ∷ []));
    }

-- as many devices as arenas
pub told_many : (pool : PoolSize) (calls : List TraceCall) (number : ℕ) (text : List ℕ) (devices : List PmemState) → IsToldBelow pool calls number text devices → length devices ≡ number
told_many pool calls number text devices below = ap length below.left ∙ length-map below.runs (λ (r : ArenaRun). r.device) ∙ below.all
