-- What holds of every call and every pool of a trace.
use Rattle.std.proofs.Common.{◌≡◌, ℕ, zero, suc, List, [], ◌∷◌, length, ap, arith, ⊎_elim}
use Rattle.std.specs.List.{All}
use Rattle.trace_text.specs.declared.call.TraceCall.{TraceCall}
use Rattle.trace_text.specs.declared.call.PoolSize.{PoolSize}
use Rattle.trace_text.specs.declared.kind.Kind.{Kind}
use Rattle.trace_text.specs.declared.kind.Kind.TheVariants.{Every, Still}
use Rattle.trace_text.specs.Texts.{Lines, lines_of, AreCalls, AreText, IsText}
use Rattle.trace_text.specs.Grammar.{still_lines, IsPool, IsPoolLine, IsTraceCall, IsCallLine, IsStill, IsStillTrace}
use Rattle.trace_text.specs.Lines.{lines_for}

module _ {H C : Type 0} (g : Lines H C) where
  -- what holds of the call of each line holds of all calls
  calls_at : (P : C → Type 0) (head : H) → ((line : List ℕ) (call : C) → g.call head line call → P call) → (lines : List (List ℕ)) (calls : List C) → AreCalls g head lines calls → All P calls
  calls_at P head each [] calls are k d h = absurd (omega (arith, ap length are))
  calls_at P head each (line ∷ lines) [] are k d h = absurd (omega arith)
  calls_at P head each (line ∷ lines) (call ∷ calls) are zero d h = ⊎_elim
      (λ passed. calls_at P head each lines (call ∷ calls) passed.1 zero d h)
      (λ here. each line call here.0)
      are
  calls_at P head each (line ∷ lines) (call ∷ calls) are (suc k) d h = ⊎_elim
      (λ passed. calls_at P head each lines (call ∷ calls) passed.1 (suc k) d h)
      (λ here. calls_at P head each lines calls here.1 k d (omega arith))
      are

  text_calls : (P : C → Type 0) (lines : List (List ℕ)) (head : H) (calls : List C) → ((line : List ℕ) (call : C) → g.call head line call → P call) → AreText g lines head calls → All P calls
  text_calls P [] head calls each are = absurd are
  text_calls P (line ∷ lines) head calls each are = ⊎_elim (λ passed. text_calls P lines head calls each passed.1) (λ here. calls_at P head each lines calls here.1) are

  text_head : (Q : Type 0) (lines : List (List ℕ)) (head : H) (calls : List C) → ((line : List ℕ) → g.head line head → Q) → AreText g lines head calls → Q
  text_head Q [] head calls each are = absurd are
  text_head Q (line ∷ lines) head calls each are = ⊎_elim (λ passed. text_head Q lines head calls each passed.1) (λ here. each line here.0) are

-- each call of a trace of either kind is one that a trace may have, and so is its pool

kind_call : (kind : Kind) (pool : PoolSize) (line : List ℕ) (call : TraceCall) → (lines_for kind).call pool line call → IsCallLine pool.arenas line call
kind_call Every pool line call says = says
kind_call Still pool line call says = says.0

pub kind_head : (kind : Kind) (line : List ℕ) (pool : PoolSize) → (lines_for kind).head line pool → IsPoolLine line pool
kind_head Every line pool says = says
kind_head Still line pool says = says.0

pub kind_calls : (kind : Kind) (text : List ℕ) (pool : PoolSize) (calls : List TraceCall) → IsText (lines_for kind) text pool calls → All (IsTraceCall pool.arenas) calls
kind_calls kind text pool calls is = text_calls (lines_for kind) (IsTraceCall pool.arenas) (lines_of text) pool calls (λ line call says. (kind_call kind pool line call says).valid) is.lines

pub kind_pool : (kind : Kind) (text : List ℕ) (pool : PoolSize) (calls : List TraceCall) → IsText (lines_for kind) text pool calls → IsPool pool
kind_pool kind text pool calls is = text_head (lines_for kind) (IsPool pool) (lines_of text) pool calls (λ line says. (kind_head kind line pool says).valid) is.lines

-- a trace without moves has none, and its pool is of version 1

pub still_calls : (text : List ℕ) (pool : PoolSize) (calls : List TraceCall) → IsStillTrace text pool calls → All (λ call. IsStill call.call) calls
still_calls text pool calls is = text_calls still_lines (λ call. IsStill call.call) (lines_of text) pool calls (λ line call says. says.1) is.lines

pub still_version : (text : List ℕ) (pool : PoolSize) (calls : List TraceCall) → IsStillTrace text pool calls → pool.version ≡ 1
still_version text pool calls is = text_head still_lines (pool.version ≡ 1) (lines_of text) pool calls (λ line says. says.1) is.lines
