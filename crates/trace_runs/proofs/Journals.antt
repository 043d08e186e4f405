-- What a journal from a new arena says of the device.
use Rattle.std.proofs.Common.{◌≡◌, ◌⊎◌, ℕ, ◌<◌, ◌^◌, List, length, None, ap, ◌∙◌, subst, arith, inl, inr}
use Rattle.pmem_lines.specs.Pmem.{words_of}
use Rattle.pool_layout.specs.declared.header.PoolHeader.{PoolHeader}
use Rattle.heap_model.specs.declared.call.Entry.{Entry}
use Rattle.heap_model.specs.Machine.{Bounds, no_heap, IsOverlapFree}
use Rattle.heap_model.specs.Placement.{PlacedState, bare}
use Rattle.thread_cache.specs.Stacks.{stacks_of}
use Rattle.heap_model.specs.Journal.{Leads, IsPlacedEntry}
use Rattle.arena_core.specs.Arena.{ArenaState}
use Rattle.arena_core.specs.Events.{call_events}
use Rattle.arena_lock.specs.Legality.{machine_in, opening_state, LeadsTo}
use Rattle.arena_journal.specs.Journals.{opened, line_behind, words_along, IsUntouched, IsBehindCall, IsBehind}
use Rattle.arena_journal.proofs.Journals.{begun_few}
use Rattle.trace_runs.specs.Arenas.{bounds_for, formatted, IsNewArena}
use Rattle.trace_runs.specs.Journals.{IsJournal, IsAsFormatted, IsBehindLast, HasRun}

-- a new arena has the state of the empty heap
no_heap_in : (header : PoolHeader) (first : ArenaState) → IsNewArena header first → machine_in (words_of first.device) ≡ no_heap
no_heap_in header first new = λ i. record { block = λ root. new.empty.blocks root i; slab = λ start. new.empty.slabs start i; value = λ root index. None }

-- and no stack has a block
opened_bare : (header : PoolHeader) (first : ArenaState) → IsNewArena header first → opening_state (opened first) ≡ bare no_heap
opened_bare header first new = λ i. record { machine = no_heap_in header first new i; stacks = new.stacks i }

-- what leads on from a new arena is a journal from the empty heap
pub IsJournal-opened : (header : PoolHeader) (first : ArenaState) (journal : List Entry) (last : PlacedState) → IsNewArena header first → LeadsTo (opened first) journal last → IsJournal header journal last
IsJournal-opened header first journal last new leads =
    subst (λ (s : PlacedState). Leads (IsPlacedEntry (bounds_for header)) s journal last) (opened_bare header first new)
    (subst (λ (b : Bounds). Leads (IsPlacedEntry b) (opening_state (opened first)) journal last) new.bounds leads)

last_of : (header : PoolHeader) (first now : ArenaState) (journal : List Entry) → IsNewArena header first → IsUntouched (opened first) journal now ⊎ IsBehindCall (opened first) journal now →
    IsAsFormatted header now.device journal ⊎ IsBehindLast header now.device journal
last_of header first now journal new (inl untouched) = inl (record {
  none = untouched.none;
  base = ap (λ (a : ArenaState). a.device.base) untouched.same ∙ new.base;
  events = ap (λ (a : ArenaState). a.device.events) untouched.same ∙ new.events;
})
last_of header first now journal new (inr call) =
    let through = call.through in
    inr (record {
      last = call.last;
      machine = through.machine;
      stacks = through.stacks;
      leads = IsJournal-opened header first call.last.before (record { machine = through.machine; stacks = through.stacks }) new through.leads;
      exact = through.exact;
      state = through.state;
      events = through.events ∙ ap (λ line. call_events now.device.base (line_behind line call.last.before) call.last.entry.call call.last.entry.reply) new.line;
    })

-- the device of an arena that is behind a journal from a new one
pub HasRun-behind : (header : PoolHeader) (first now : ArenaState) (journal : List Entry) → IsNewArena header first → length journal < 2 ^ 63 → (behind : IsBehind (opened first) journal now) →
    HasRun header now.device journal behind.machine
HasRun-behind header first now journal new few behind =
    let count = begun_few journal in
    record {
      stacks = stacks_of now.stacks;
      legal = IsJournal-opened header first journal (record { machine = behind.machine; stacks = stacks_of now.stacks }) new behind.leads;
      apart = subst (λ (b : Bounds). IsOverlapFree b behind.machine) (behind.bounds ∙ new.bounds) behind.apart;
      quiet = behind.ready.quiet;
      exact = behind.exact;
      state = behind.state;
      words = behind.words ∙ ap (λ (ws : List ℕ). words_along ws first.line journal) new.words ∙ ap (λ line. words_along (formatted header) line journal) new.line;
      begins = omega (arith, behind.begins, new.begins, count, few);
      last = last_of header first now journal new behind.last;
    }
