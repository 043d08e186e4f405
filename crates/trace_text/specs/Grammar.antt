-- The grammar of traces: texts of lines whose head is a pool. Each pool and each call has one text.
use Rattle.std.specs.Prelude.{◌≡◌, ◌==◌, ℕ, ◌<◌, ◌≤◌, ◌^◌, List, ◌∷◌, ◌++◌, decimal, codes, if◌then◌else◌}
use Rattle.pool_layout.specs.Layout.{layout_of, all_granules, pool_granules, IsVersion}
use Rattle.heap_model.specs.declared.call.Call.{Call}
use Rattle.heap_model.specs.declared.call.Call.TheVariants.{Malloc, Free, Write, Read, Move}
use Rattle.trace_text.specs.declared.call.PoolSize.{PoolSize}
use Rattle.trace_text.specs.declared.call.TraceCall.{TraceCall}
use Rattle.trace_text.specs.declared.trace.Trace.{Trace}
use Rattle.trace_text.specs.Words.{call_text}
use Rattle.trace_text.specs.Texts.{Lines, IsText, IsFirstOutside}

-- the pool of a trace
abbrev pub pool_of : Trace → PoolSize
pool_of trace = record { version = trace.version; arenas = trace.arenas; granules = trace.granules }

-- a pool that a trace may have: 1 to 16 arenas of a version, each with as many granules as the version allows, and no more
-- together than a pool may have
pub record IsPool (pool : PoolSize) : Type 0 where
  pub version : IsVersion pool.version
  pub some : 1 ≤ pool.arenas
  pub few : pool.arenas ≤ 16
  pub least : (layout_of pool.version).least_granules ≤ pool.granules
  pub most : pool.granules ≤ (layout_of pool.version).most_granules
  pub together : all_granules pool.arenas pool.granules ≤ pool_granules

-- the first word of a pool's line, by the version
abbrev pub pool_word : ℕ → List ℕ
pool_word version = if version == 2 then codes "pool2 " else codes "pool "

-- how many arenas a pool has, and the granules of each
abbrev pub pool_sizes : PoolSize → List ℕ
pool_sizes pool = decimal pool.arenas ++ 32 ∷ decimal pool.granules

-- the line says this pool: the version, how many arenas, and the granules of each
pub record IsPoolLine (line : List ℕ) (pool : PoolSize) : Type 0 where
  pub text : line ≡ pool_word pool.version ++ pool_sizes pool
  pub valid : IsPool pool

-- the calls that a trace may ask for, with numbers that fit
abbrev pub IsAsked : Call → Type 0
IsAsked (Malloc root size) = (root < 2 ^ 32) × (size < 2 ^ 64)
IsAsked (Free root) = root < 2 ^ 32
IsAsked (Write root index value) = (root < 2 ^ 32) × (index < 2 ^ 32) × (value < 2 ^ 64)
IsAsked (Read root index) = (root < 2 ^ 32) × (index < 2 ^ 32)
IsAsked (Move from to) = (from < 2 ^ 32) × (to < 2 ^ 32)

-- a call that a trace of so many arenas may have
pub record IsTraceCall (arenas : ℕ) (call : TraceCall) : Type 0 where
  pub thread : call.thread < 64
  pub arena : call.arena < arenas
  pub asked : IsAsked call.call

-- the line makes this call: the thread, the arena and what is asked, with one space between them
pub record IsCallLine (arenas : ℕ) (line : List ℕ) (call : TraceCall) : Type 0 where
  pub text : line ≡ decimal call.thread ++ 32 ∷ decimal call.arena ++ 32 ∷ call_text call.call
  pub valid : IsTraceCall arenas call

-- what the lines of a trace say: its pool, and calls of it
abbrev pub trace_lines : Lines PoolSize TraceCall
trace_lines = record { head = IsPoolLine; call = λ pool. IsCallLine pool.arenas }

-- the text is a trace of this pool and these calls
abbrev pub IsTrace : List ℕ → PoolSize → List TraceCall → Type 0
IsTrace text pool calls = IsText trace_lines text pool calls

-- the line of this number, counted from 1, is the first outside the grammar of traces; a text that ends with no pool is refused
-- just behind its last line
abbrev pub IsRefusedLine : List ℕ → ℕ → Type 0
IsRefusedLine text number = IsFirstOutside trace_lines text number

-- traces without moves

-- no block moves from one root to another
abbrev pub IsStill : Call → Type 0
IsStill (Malloc root size) = Unit {0}
IsStill (Free root) = Unit {0}
IsStill (Write root index value) = Unit {0}
IsStill (Read root index) = Unit {0}
IsStill (Move from to) = ⊥

-- what the lines of a trace without moves say: its pool, of version 1, and calls of it of which none is a move
abbrev pub still_lines : Lines PoolSize TraceCall
still_lines = record { head = λ line pool. IsPoolLine line pool × (pool.version ≡ 1); call = λ pool line call. IsCallLine pool.arenas line call × IsStill call.call }

-- the text is a trace without moves, of this pool and these calls
abbrev pub IsStillTrace : List ℕ → PoolSize → List TraceCall → Type 0
IsStillTrace text pool calls = IsText still_lines text pool calls

-- the line of this number, counted from 1, is the first outside their grammar
abbrev pub IsRefusedStillLine : List ℕ → ℕ → Type 0
IsRefusedStillLine text number = IsFirstOutside still_lines text number
