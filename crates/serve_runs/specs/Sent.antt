-- What senders send of a trace's calls.
use Rattle.std.specs.Prelude.{◌≡◌, ℕ, List, [], map}
use Rattle.heap_model.specs.declared.call.Call.{Call}
use Rattle.trace_text.specs.declared.call.TraceCall.{TraceCall}
use Rattle.trace_runs.specs.Answers.{asked}
use Rattle.arena_server.specs.declared.request.Request.{Request}
use Rattle.arena_server.specs.Senders.{SenderState, sent_at}

-- what a thread asks of an arena, as requests of the sender of its number
abbrev pub wanted : ℕ → ℕ → List TraceCall → List Request
wanted thread arena calls = map (λ (call : Call). record { sender = thread; arena = arena; call = call }) (asked thread arena calls)

abbrev pub HasSentNothing : SenderState → Type 0
HasSentNothing s = (a : ℕ) → sent_at s a ≡ []

-- the sender has sent to each arena what the thread of its number asks of it, in order, each once
abbrev pub HasSentAll : List TraceCall → SenderState → Type 0
HasSentAll calls s = (a : ℕ) → sent_at s a ≡ wanted s.number a calls
