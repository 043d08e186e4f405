-- Journals that grow, with the arena of this variant that they lead to.
use Rattle.std.proofs.Common.{◌≡◌, ◌⊎◌, inl, inr, ℕ, ◌+◌, ◌<◌, ◌^◌, true, false, List, [], ◌∷◌, ◌++◌, length, refl, ap, sym, ◌∙◌, subst, arith, append_assoc, ⊎_elim}
use Rattle.std.proofs.lemmas.Bool.{cases_Bool}
use Rattle.pmem_lines.specs.Pmem.{PmemState, words_of, risen}
use Rattle.pmem_lines.specs.Events.{reading}
use Rattle.pool_layout.specs.declared.header.PoolHeader.{PoolHeader}
use Rattle.heap_model.specs.declared.call.Call.{Call}
use Rattle.heap_model.specs.declared.call.Call.TheVariants.{Malloc, Free, Write, Read, Move}
use Rattle.heap_model.specs.declared.call.Reply.{Reply}
use Rattle.heap_model.specs.declared.call.Entry.{Entry}
use Rattle.heap_model.specs.Machine.{Bounds, Machine, no_heap, IsOverlapFree}
use Rattle.heap_model.specs.Placement.{PlacedState, bare, IsPlacedStep}
use Rattle.heap_model.specs.Journal.{IsPlacedEntry}
use Rattle.thread_cache.specs.Stacks.{stacks_of}
use Rattle.arena_journal.specs.Journals.{begins_call, begun_by}
use Rattle.arena_journal.proofs.Journals.{leads_more, begun_append, begun_few, one_begun, risen_one, plus_none}
use Rattle.trace_runs.specs.Arenas.{bounds_for}
use Rattle.gc_check.specs.Image.{IsGcExactImage}
use Rattle.gc_check.specs.State.{HasGcState}
use Rattle.gc_check.proofs.ExactStates.{law_of_exact_gc_state}
use Rattle.gc_heap.specs.Arena.{GcState}
use Rattle.gc_heap.specs.Events.{gc_call_events}
use Rattle.gc_runs.specs.Arenas.{gc_formatted, IsNewGcArena}
use Rattle.gc_runs.specs.Answered.{HasGcBegun, HasGcDone, HasGcAnswered}
use Rattle.gc_runs.specs.Journals.{gc_words_along, IsAsGcFormatted, IsBehindLastGc, HasGcRun}
use Rattle.gc_runs.specs.Kept.{IsGcBehind}

words_more : (words : List ℕ) (journal : List Entry) (e : Entry) → gc_words_along words (journal ++ e ∷ []) ≡ reading (gc_words_along words journal) (gc_call_events (gc_words_along words journal) e.call e.reply)
words_more words [] e = refl
words_more words (x ∷ xs) e = words_more (reading words (gc_call_events words x.call x.reply)) xs e

-- a call that begins one on the memory did so
pub begun_done : (old new : GcState) (call : Call) (reply : Reply) → begins_call call ≡ true → HasGcDone old new call reply → HasGcBegun old new call reply
begun_done old new (Malloc root size) reply begins done = done
begun_done old new (Free root) reply begins done = done
begun_done old new (Write root index word) reply begins done = done
begun_done old new (Read root index) reply begins done = absurd (cc begins)
begun_done old new (Move from to) reply begins done = absurd done

-- one that begins none left the arena as it was
read_done : (old new : GcState) (call : Call) (reply : Reply) → begins_call call ≡ false → HasGcDone old new call reply → new ≡ old
read_done old new (Malloc root size) reply none done = absurd (cc none)
read_done old new (Free root) reply none done = absurd (cc none)
read_done old new (Write root index word) reply none done = absurd (cc none)
read_done old new (Read root index) reply none done = done
read_done old new (Move from to) reply none done = absurd done

-- whichever the call, its events lead from the words before it to those behind it
pub words_answered : (seat : ℕ) (old new : GcState) (call : Call) (reply : Reply) → HasGcAnswered seat old new call reply → words_of new.device ≡ reading (words_of old.device) (gc_call_events (words_of old.device) call reply)
words_answered seat old new (Malloc root size) reply answered = ap (λ (s : PmemState). words_of s) answered.done.device
words_answered seat old new (Free root) reply answered = ap (λ (s : PmemState). words_of s) answered.done.device
words_answered seat old new (Write root index word) reply answered = ap (λ (s : PmemState). words_of s) answered.done.device
words_answered seat old new (Read root index) reply answered = ap (λ (a : GcState). words_of a.device) answered.done
words_answered seat old new (Move from to) reply answered = absurd answered.done

-- nothing was asked yet
pub behind_new : (header : PoolHeader) (a : GcState) → IsNewGcArena header a → IsGcBehind header [] a
behind_new header a new = record {
  machine = no_heap;
  leads = λ i. record { machine = no_heap; stacks = new.stacks i };
  state = new.empty;
  ready = new.ready;
  exact = new.exact;
  bounds = new.bounds;
  words = new.words;
  begins = new.begins ∙ (omega arith);
  last = inl (record { none = refl; base = new.base; events = new.events });
}

-- a call more
module _ (header : PoolHeader) (journal : List Entry) (old new : GcState) (e : Entry) (held : IsGcBehind header journal old) (answered : HasGcAnswered e.seat old new e.call e.reply) where
  abbrev placed : GcState → Machine → PlacedState
  placed a m = record { machine = m; stacks = stacks_of a.stacks }

  found : (next : Machine) × IsPlacedStep (bounds_for header) e.seat (placed old held.machine) e.call e.reply (placed new next) × HasGcState (words_of new.device) next
  found = let f = answered.step.each held.machine held.state in (f.0, subst (λ (b : Bounds). IsPlacedStep b e.seat (placed old held.machine) e.call e.reply (placed new f.0)) held.bounds f.1, f.2)

  -- all but the last call on the memory
  behind_by : new.device.begins ≡ risen 1 (begun_by (journal ++ e ∷ [])) → IsAsGcFormatted header new.device (journal ++ e ∷ []) ⊎ IsBehindLastGc header new.device (journal ++ e ∷ []) → IsGcBehind header (journal ++ e ∷ []) new
  behind_by begins last = record {
    machine = found.0;
    leads = leads_more (IsPlacedEntry (bounds_for header)) (bare no_heap) (placed old held.machine) (placed new found.0) journal e held.leads found.1;
    state = found.2;
    ready = answered.ready;
    exact = answered.exact;
    bounds = answered.step.bounds ∙ held.bounds;
    words = words_answered e.seat old new e.call e.reply answered ∙ ap (λ (ws : List ℕ). reading ws (gc_call_events ws e.call e.reply)) held.words ∙ sym (words_more (gc_formatted header) journal e);
    begins = begins;
    last = last;
  }

  -- one that is no Read
  module _ (begins : begins_call e.call ≡ true) where
    did : HasGcBegun old new e.call e.reply
    did = begun_done old new e.call e.reply begins answered.done

    base : words_of old.device ≡ new.device.base
    base = sym (ap (λ (s : PmemState). s.base) did.device)

    behind : IsBehindLastGc header new.device (journal ++ e ∷ [])
    behind = record {
      last = record { before = journal; entry = e; reads = []; is = refl; begins = begins; none = refl };
      machine = held.machine;
      stacks = stacks_of old.stacks;
      leads = held.leads;
      exact = subst IsGcExactImage base answered.was_exact;
      state = subst (λ (words : List ℕ). HasGcState words held.machine) base held.state;
      events = subst (λ (words : List ℕ). new.device.events ≡ gc_call_events words e.call e.reply) base (ap (λ (s : PmemState). s.events) did.device);
    }

    count : begun_by (journal ++ e ∷ []) ≡ begun_by journal + 1
    count = begun_append journal (e ∷ []) ∙ ap (λ n. begun_by journal + n) (one_begun e true begins)

    begun : new.device.begins ≡ risen 1 (begun_by (journal ++ e ∷ []))
    begun = ap (λ (s : PmemState). s.begins) did.device ∙ (ap (λ n. risen n 1) held.begins ∙ (risen_one 1 (begun_by journal) ∙ ap (risen 1) (sym count)))

    behind_call : IsGcBehind header (journal ++ e ∷ []) new
    behind_call = behind_by begun (inr behind)

  -- a Read
  module _ (none : begins_call e.call ≡ false) where
    same : new ≡ old
    same = read_done old new e.call e.reply none answered.done

    still_read : (entries : List Entry) → begun_by (entries ++ e ∷ []) ≡ begun_by entries
    still_read entries = begun_append entries (e ∷ []) ∙ ap (λ n. begun_by entries + n) (one_begun e false none) ∙ plus_none (begun_by entries)

    last_read : IsAsGcFormatted header old.device journal ⊎ IsBehindLastGc header old.device journal → IsAsGcFormatted header old.device (journal ++ e ∷ []) ⊎ IsBehindLastGc header old.device (journal ++ e ∷ [])
    last_read (inl u) = inl (record { none = still_read journal ∙ u.none; base = u.base; events = u.events })
    last_read (inr c) = inr (record {
      last = record {
        before = c.last.before;
        entry = c.last.entry;
        reads = c.last.reads ++ e ∷ [];
        is = ap (λ (entries : List Entry). entries ++ e ∷ []) c.last.is ∙ append_assoc c.last.before (c.last.entry ∷ c.last.reads) (e ∷ []);
        begins = c.last.begins;
        none = still_read c.last.reads ∙ c.last.none;
      };
      machine = c.machine;
      stacks = c.stacks;
      leads = c.leads;
      exact = c.exact;
      state = c.state;
      events = c.events;
    })

    behind_read : IsGcBehind header (journal ++ e ∷ []) new
    behind_read = behind_by
        (ap (λ (a : GcState). a.device.begins) same ∙ held.begins ∙ ap (risen 1) (sym (still_read journal)))
        (subst (λ (a : GcState). IsAsGcFormatted header a.device (journal ++ e ∷ []) ⊎ IsBehindLastGc header a.device (journal ++ e ∷ [])) (sym same) (last_read held.last))

  pub behind_more : IsGcBehind header (journal ++ e ∷ []) new
  behind_more = ⊎_elim behind_call behind_read (cases_Bool (begins_call e.call))

-- the device of an arena that is behind a journal
pub run_behind : (header : PoolHeader) (journal : List Entry) (now : GcState) → length journal < 2 ^ 63 → (behind : IsGcBehind header journal now) → HasGcRun header now.device journal behind.machine
run_behind header journal now few behind =
    let count = begun_few journal in
    record {
      stacks = stacks_of now.stacks;
      legal = behind.leads;
      apart = subst (λ (b : Bounds). IsOverlapFree b behind.machine) behind.bounds (law_of_exact_gc_state (words_of now.device) behind.machine behind.exact behind.state);
      quiet = behind.ready.quiet;
      exact = behind.exact;
      state = behind.state;
      words = behind.words;
      begins = omega (arith, behind.begins, count, few);
      last = behind.last;
    }
