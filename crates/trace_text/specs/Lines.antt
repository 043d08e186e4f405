-- What was read of a line and of the lines of a text, and what is left.
use Rattle.std.specs.Prelude.{◌≡◌, ℕ, ◌+◌, ◌≤◌, List, length}
use Rattle.trace_text.specs.declared.call.PoolSize.{PoolSize}
use Rattle.trace_text.specs.declared.call.TraceCall.{TraceCall}
use Rattle.trace_text.specs.declared.kind.Kind.{Kind}
use Rattle.trace_text.specs.declared.kind.Kind.TheVariants.{Every, Still}
use Rattle.trace_text.specs.Texts.{Lines, lines_of, AreCalls, AreText, IsNoCallAt, IsNoTextAt}
use Rattle.trace_text.specs.Grammar.{pool_sizes, IsPool, trace_lines, still_lines}

-- the words behind the first of a pool's line say this pool of the version
pub record IsPoolOf (version : ℕ) (words : List ℕ) (pool : PoolSize) : Type 0 where
  pub named : pool.version ≡ version
  pub text : words ≡ pool_sizes pool
  pub valid : IsPool pool

-- what the lines of a kind of trace say
abbrev pub lines_for : Kind → Lines PoolSize TraceCall
lines_for Every = trace_lines
lines_for Still = still_lines

module _ {H C : Type 0} (g : Lines H C) where
  -- these many lines of the text, the last of them one that says the head, and then the rest
  pub record IsBehindHead (text rest : List ℕ) (head : H) (many : ℕ) : Type 0 where
    pub line : List ℕ
    pub says : g.head line head
    pub made : (calls : List C) → AreCalls g head (lines_of rest) calls → AreText g (lines_of text) head calls
    pub refused : (n : ℕ) → IsNoCallAt g head (lines_of rest) n → IsNoTextAt g (lines_of text) (many + n)
    pub within : many + length rest ≤ length text

  -- a line of the text, counted from one behind as many lines before it, is the first that is no call
  pub record IsRefusedCall (head : H) (text : List ℕ) (before line : ℕ) : Type 0 where
    pub many : ℕ
    pub is_next : line ≡ before + many + 1
    pub lines : IsNoCallAt g head (lines_of text) many
