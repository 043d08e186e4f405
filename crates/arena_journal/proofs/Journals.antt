-- Journals that grow, with the arena that they lead to.
use Rattle.std.proofs.Common.{◌≡◌, ◌≢◌, ◌⊎◌, inl, inr, ℕ, suc, ◌+◌, ◌≤◌, Bool, true, false, if◌then◌else◌, List, [], ◌∷◌, ◌++◌, length, refl, ap, sym, ◌∙◌, subst, arith, append_assoc, ⊎_elim}
use Rattle.std.proofs.lemmas.Bool.{cases_Bool}
use Rattle.pmem_lines.specs.Pmem.{PmemState, words_of, risen}
use Rattle.pmem_lines.specs.Events.{CrashOnly, reading}
use Rattle.heap_model.specs.declared.call.Call.{Call}
use Rattle.heap_model.specs.declared.call.Call.TheVariants.{Malloc, Free, Write, Read, Move}
use Rattle.heap_model.specs.declared.call.Reply.{Reply}
use Rattle.heap_model.specs.declared.call.Entry.{Entry}
use Rattle.heap_model.specs.Machine.{Bounds, Machine}
use Rattle.heap_model.specs.Placement.{PlacedState, IsPlacedStep}
use Rattle.thread_cache.specs.Stacks.{stacks_of}
use Rattle.heap_model.specs.Journal.{Leads, IsPlacedEntry}
use Rattle.heap_check.specs.Image.{bounds_of, IsExactImage}
use Rattle.heap_check.specs.State.{HasState}
use Rattle.heap_check.proofs.ExactStates.{law_of_exact_state}
use Rattle.heap_check.proofs.Forms.{bounds_of-same}
use Rattle.arena_core.specs.Arena.{ArenaState}
use Rattle.arena_core.specs.ByCall.{IsLeftBy}
use Rattle.arena_core.specs.Call.{IsReady}
use Rattle.arena_core.specs.Events.{call_events, line_after}
use Rattle.arena_lock.specs.declared.opening.Opening.{Opening}
use Rattle.arena_lock.specs.Legality.{opening_words, machine_in, IsLegal}
use Rattle.arena_journal.specs.Journals.{opened, begins_call, begun_by, line_behind, words_along, IsUntouched, IsBehindCall, IsBehind, HasBegun, HasDone, HasAnswered}

-- an entry more leads on
pub leads_more : {State : Type 0} (Steps : State → Entry → State → Type 0) (m middle next : State) (journal : List Entry) (e : Entry) → Leads Steps m journal middle → Steps middle e next → Leads Steps m (journal ++ e ∷ []) next
leads_more Steps m middle next [] e h s = (next, subst (λ n. Steps n e next) h s, refl)
leads_more Steps m middle next (x ∷ xs) e h s = (h.0, h.1, leads_more Steps h.0 middle next xs e h.2 s)

line_more : (line : ℕ) (journal : List Entry) (e : Entry) → line_behind line (journal ++ e ∷ []) ≡ line_after (line_behind line journal) e.reply
line_more line [] e = refl
line_more line (x ∷ xs) e = line_more (line_after line x.reply) xs e

words_more : (words : List ℕ) (line : ℕ) (journal : List Entry) (e : Entry) → words_along words line (journal ++ e ∷ []) ≡
    reading (words_along words line journal) (call_events (words_along words line journal) (line_behind line journal) e.call e.reply)
words_more words line [] e = refl
words_more words line (x ∷ xs) e = words_more (reading words (call_events words line x.call x.reply)) (line_after line x.reply) xs e

-- how many entries are no Read

count_if : (b : Bool) (m n : ℕ) → (if b then suc (m + n) else m + n) ≡ (if b then suc m else m) + n
count_if true m n = let e : suc (m + n) ≡ suc m + n = omega arith in e
count_if false m n = refl

pub begun_append : (xs ys : List Entry) → begun_by (xs ++ ys) ≡ begun_by xs + begun_by ys
begun_append [] ys = let e : begun_by ys ≡ 0 + begun_by ys = omega arith in e
begun_append (x ∷ xs) ys = ap (λ (n : ℕ). if begins_call x.call then suc n else n) (begun_append xs ys) ∙ count_if (begins_call x.call) (begun_by xs) (begun_by ys)

-- no more calls begin than there are entries
one_or_none : (b : Bool) (m n : ℕ) → m ≤ n → (if b then suc m else m) ≤ suc n
one_or_none true m n le = omega (arith, le)
one_or_none false m n le = omega (arith, le)

pub begun_few : (journal : List Entry) → begun_by journal ≤ length journal
begun_few [] = omega arith
begun_few (e ∷ es) = one_or_none (begins_call e.call) (begun_by es) (length es) (begun_few es)

pub one_begun : (e : Entry) (b : Bool) → begins_call e.call ≡ b → begun_by (e ∷ []) ≡ (if b then 1 else 0)
one_begun e b is = ap (λ (z : Bool). if z then 1 else 0) is

pub risen_one : (b n : ℕ) → risen (risen b n) 1 ≡ risen b (n + 1)
risen_one b n = omega arith

pub plus_none : (n : ℕ) → n + 0 ≡ n
plus_none n = omega arith

risen_none : (b : ℕ) → b ≡ risen b 0
risen_none b = omega arith

-- a call that begins one on the memory did so
pub begun_done : (old new : ArenaState) (call : Call) (reply : Reply) → begins_call call ≡ true → HasDone old new call reply → HasBegun old new call reply
begun_done old new (Malloc root size) reply begins done = done
begun_done old new (Free root) reply begins done = done
begun_done old new (Write root index word) reply begins done = done
begun_done old new (Read root index) reply begins done = absurd (cc begins)
begun_done old new (Move from to) reply begins done = done

-- one that begins none left the arena as it was
pub read_done : (old new : ArenaState) (call : Call) (reply : Reply) → begins_call call ≡ false → HasDone old new call reply → new ≡ old
read_done old new (Malloc root size) reply none done = absurd (cc none)
read_done old new (Free root) reply none done = absurd (cc none)
read_done old new (Write root index word) reply none done = absurd (cc none)
read_done old new (Read root index) reply none done = done.same
read_done old new (Move from to) reply none done = absurd (cc none)

-- whichever the call, its events lead from the words before it to those behind it
pub words_answered : (seat : ℕ) (old new : ArenaState) (call : Call) (reply : Reply) → HasAnswered seat old new call reply → words_of new.device ≡ reading (words_of old.device) (call_events (words_of old.device) old.line call reply)
words_answered seat old new (Malloc root size) reply answered = ap (λ (s : PmemState). words_of s) answered.done.device
words_answered seat old new (Free root) reply answered = ap (λ (s : PmemState). words_of s) answered.done.device
words_answered seat old new (Write root index word) reply answered = ap (λ (s : PmemState). words_of s) answered.done.device
words_answered seat old new (Read root index) reply answered = ap (λ (a : ArenaState). words_of a.device) answered.done.same
words_answered seat old new (Move from to) reply answered = ap (λ (s : PmemState). words_of s) answered.done.device

-- nothing was asked yet
pub behind_none : (a : ArenaState) → IsReady a.device → IsExactImage (words_of a.device) → IsBehind (opened a) [] a
behind_none a ready exact =
    let state : HasState (words_of a.device) (machine_in (words_of a.device)) = record { blocks = λ root. refl; slabs = λ start. refl; values = λ root index word e. absurd (cc e) } in record {
      machine = machine_in (words_of a.device);
      leads = refl;
      state = state;
      apart = law_of_exact_state (words_of a.device) (machine_in (words_of a.device)) exact state;
      ready = ready;
      exact = exact;
      bounds = refl;
      line = refl;
      words = refl;
      begins = risen_none a.device.begins;
      last = inl (record { none = refl; same = refl });
    }

-- a call more
module _ (o : Opening) (journal : List Entry) (old new : ArenaState) (e : Entry) (held : IsBehind o journal old) (answered : HasAnswered e.seat old new e.call e.reply) where
  abbrev placed : ArenaState → Machine → PlacedState
  placed a m = record { machine = m; stacks = stacks_of a.stacks }

  found : (next : Machine) × IsPlacedStep (bounds_of (opening_words o)) e.seat (placed old held.machine) e.call e.reply (placed new next) × HasState (words_of new.device) next
  found = let f = answered.step.each held.machine held.state in (f.0, subst (λ (b : Bounds). IsPlacedStep b e.seat (placed old held.machine) e.call e.reply (placed new f.0)) held.bounds f.1, f.2)

  words : words_of new.device ≡ words_along (opening_words o) o.next_line (journal ++ e ∷ [])
  words =
      words_answered e.seat old new e.call e.reply answered
      ∙ ap (λ line. reading (words_of old.device) (call_events (words_of old.device) line e.call e.reply)) held.line
      ∙ ap (λ (ws : List ℕ). reading ws (call_events ws (line_behind o.next_line journal) e.call e.reply)) held.words
      ∙ sym (words_more (opening_words o) o.next_line journal e)

  -- all but the last call on the memory
  behind_by : new.device.begins ≡ risen o.begins (begun_by (journal ++ e ∷ [])) → IsUntouched o (journal ++ e ∷ []) new ⊎ IsBehindCall o (journal ++ e ∷ []) new → IsBehind o (journal ++ e ∷ []) new
  behind_by begins last = record {
    machine = found.0;
    leads = leads_more (IsPlacedEntry (bounds_of (opening_words o))) _ (placed old held.machine) (placed new found.0) journal e held.leads found.1;
    state = found.2;
    apart = law_of_exact_state (words_of new.device) found.0 answered.exact found.2;
    ready = answered.ready;
    exact = answered.exact;
    bounds = bounds_of-same (words_of old.device) (words_of new.device) answered.step.header ∙ held.bounds;
    line = answered.line ∙ (ap (λ line. line_after line e.reply) held.line ∙ sym (line_more o.next_line journal e));
    words = words;
    begins = begins;
    last = last;
  }

  -- one that is no Read
  module _ (begins : begins_call e.call ≡ true) where
    did : HasBegun old new e.call e.reply
    did = begun_done old new e.call e.reply begins answered.done

    base : words_of old.device ≡ new.device.base
    base = sym (ap (λ (s : PmemState). s.base) did.device)

    events : new.device.events ≡ call_events (words_of old.device) (line_behind o.next_line journal) e.call e.reply
    events = ap (λ (s : PmemState). s.events) did.device ∙ ap (λ line. call_events (words_of old.device) line e.call e.reply) held.line

    behind : IsBehindCall o (journal ++ e ∷ []) new
    behind = record {
      last = record { before = journal; entry = e; reads = []; is = refl; begins = begins; none = refl };
      through = record {
        machine = held.machine;
        stacks = stacks_of old.stacks;
        leads = held.leads;
        exact = subst IsExactImage base answered.was_exact;
        state = subst (λ (words : List ℕ). HasState words held.machine) base held.state;
        events = subst (λ (words : List ℕ). new.device.events ≡ call_events words (line_behind o.next_line journal) e.call e.reply) base events;
        crash = subst (λ (words : List ℕ). CrashOnly new.device.base new.device.events (IsLeftBy e.call words (words_of new.device))) base did.crash;
      };
    }

    count : begun_by (journal ++ e ∷ []) ≡ begun_by journal + 1
    count = begun_append journal (e ∷ []) ∙ ap (λ n. begun_by journal + n) (one_begun e true begins)

    begun : new.device.begins ≡ risen o.begins (begun_by (journal ++ e ∷ []))
    begun = ap (λ (s : PmemState). s.begins) did.device ∙ (ap (λ n. risen n 1) held.begins ∙ (risen_one o.begins (begun_by journal) ∙ ap (risen o.begins) (sym count)))

    behind_call : IsBehind o (journal ++ e ∷ []) new
    behind_call = behind_by begun (inr behind)

  -- a Read
  module _ (none : begins_call e.call ≡ false) where
    same : new ≡ old
    same = read_done old new e.call e.reply none answered.done

    still_read : (entries : List Entry) → begun_by (entries ++ e ∷ []) ≡ begun_by entries
    still_read entries = begun_append entries (e ∷ []) ∙ ap (λ n. begun_by entries + n) (one_begun e false none) ∙ plus_none (begun_by entries)

    last_read : IsUntouched o journal old ⊎ IsBehindCall o journal old → IsUntouched o (journal ++ e ∷ []) old ⊎ IsBehindCall o (journal ++ e ∷ []) old
    last_read (inl u) = inl (record { none = still_read journal ∙ u.none; same = u.same })
    last_read (inr c) = inr (record {
      last = record {
        before = c.last.before;
        entry = c.last.entry;
        reads = c.last.reads ++ e ∷ [];
        is = ap (λ (entries : List Entry). entries ++ e ∷ []) c.last.is ∙ append_assoc c.last.before (c.last.entry ∷ c.last.reads) (e ∷ []);
        begins = c.last.begins;
        none = still_read c.last.reads ∙ c.last.none;
      };
      through = c.through;
    })

    behind_read : IsBehind o (journal ++ e ∷ []) new
    behind_read = behind_by
        (ap (λ (a : ArenaState). a.device.begins) same ∙ held.begins ∙ ap (risen o.begins) (sym (still_read journal)))
        (subst (λ (a : ArenaState). IsUntouched o (journal ++ e ∷ []) a ⊎ IsBehindCall o (journal ++ e ∷ []) a) (sym same) (last_read held.last))

  pub behind_more : IsBehind o (journal ++ e ∷ []) new
  behind_more = ⊎_elim behind_call behind_read (cases_Bool (begins_call e.call))

none_of : (xs ys : List Entry) (e : Entry) → [] ≢ xs ++ e ∷ ys
none_of [] ys e h = absurd (cc h)
none_of (x ∷ xs) ys e h = absurd (cc h)

untouched : (o : Opening) (now : ArenaState) → IsUntouched o [] now ⊎ IsBehindCall o [] now → opened now ≡ o
untouched o now (inl u) = ap opened u.same
untouched o now (inr c) = absurd (none_of c.last.before c.last.reads c.last.entry c.last.is)

-- where no call was made the arena is as it was
pub behind_still : (o : Opening) (now : ArenaState) → IsBehind o [] now → opened now ≡ o
behind_still o now h = untouched o now h.last

pub behind_legal : (o : Opening) (journal : List Entry) (now : ArenaState) → IsBehind o journal now → IsLegal o journal
behind_legal o journal now h = (record { machine = h.machine; stacks = stacks_of now.stacks }, h.leads)

-- the same of an entry that tells of its seat and its call
pub behind_answered : (o : Opening) (journal : List Entry) (old new : ArenaState) (seat : ℕ) (call : Call) (e : Entry) → IsBehind o journal old → e.seat ≡ seat → e.call ≡ call →
    HasAnswered seat old new call e.reply → IsBehind o (journal ++ e ∷ []) new
behind_answered o journal old new seat call e behind is_seat is_call answered =
    behind_more o journal old new e behind
    (subst (λ (s : ℕ). HasAnswered s old new e.call e.reply) (sym is_seat) (subst (λ (c : Call). HasAnswered seat old new c e.reply) (sym is_call) answered))
