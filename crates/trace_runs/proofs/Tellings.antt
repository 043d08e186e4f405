-- What is told of closed arenas is told of runs that answer the trace.
use Rattle.std.proofs.Common.{◌≡◌, ℕ, suc, ◌+◌, ◌≤◌, ◌<◌, ◌^◌, List, [], ◌∷◌, ◌++◌, length, map, get_or, remove, sym, ap, ◌∙◌, refl, arith, subst, Result, Ok, Err}
use Rattle.std.proofs.lemmas.List.{append-nil, append_assoc, length-map}
use Rattle.std.specs.Result.{IfOk}
use mathlib.Core.List.{map-append}
use Rattle.pmem_lines.specs.Pmem.{PmemState, words_of}
use Rattle.image_tables.specs.Tables.{tables_of}
use Rattle.heap_model.specs.declared.block.Block.{Block}
use Rattle.heap_model.specs.declared.call.Entry.{Entry}
use Rattle.heap_check.specs.Heap.{heap}
use Rattle.arena_core.specs.Arena.{ArenaState}
use Rattle.arena_journal.specs.Journals.{opened}
use Rattle.trace_text.specs.declared.call.PoolSize.{PoolSize}
use Rattle.trace_text.specs.declared.call.TraceCall.{TraceCall}
use Rattle.trace_runs.specs.Each.{EachFrom}
use Rattle.trace_runs.specs.Answers.{Seats, by_threads, by_owner, AllAnswer}
use Rattle.trace_runs.specs.Arenas.{header_for}
use Rattle.trace_runs.specs.Blocks.{blocks_of, blocks_in}
use Rattle.trace_runs.specs.Told.{ArenaRun, HasRunThreads, Telling, told_from, devices_of, IsTold, AreNew, closed_text, closed_texts, closed_devices}
use Rattle.trace_runs.proofs.Journals.{HasRun-behind}
use Rattle.trace_runs.proofs.Listing.{blocks_of-same}

-- these seats leave no entry out
abbrev pub KeepLength : Seats → Type 0
KeepLength seats = (arena : ℕ) (journal : List Entry) → length (seats arena journal) ≡ length journal

pub by_threads-length : KeepLength by_threads
by_threads-length arena journal = refl

pub by_owner-length : KeepLength by_owner
by_owner-length arena journal = length-map journal (λ (e : Entry). record e { seat = arena })

-- the runs of arenas, from one on
record Runs (seats : Seats) (tell : Telling) (pool : PoolSize) (calls : List TraceCall) (arena : ℕ) (news : List ArenaState) (closed : List (List Entry × ArenaState)) : Type 0 where
  runs : List ArenaRun
  each : EachFrom (HasRunThreads seats pool calls) arena runs
  all : length runs ≡ length news
  told : closed_texts tell arena closed ≡ told_from tell arena runs
  devices : closed_devices closed ≡ devices_of runs

runs_from : (seats : Seats) → KeepLength seats → (tell : Telling) (pool : PoolSize) (calls : List TraceCall) (arena : ℕ) (news : List ArenaState) (closed : List (List Entry × ArenaState)) → length calls < 2 ^ 32 → AreNew pool arena news →
    AllAnswer seats calls arena (map opened news) closed → Runs seats tell pool calls arena news closed
runs_from seats keep tell pool calls arena [] [] few new h = record { runs = []; each = tt; all = refl; told = refl; devices = refl }
runs_from seats keep tell pool calls arena [] (c ∷ cs) few new h = absurd h
runs_from seats keep tell pool calls arena (n ∷ ns) [] few new h = absurd h
runs_from seats keep tell pool calls arena (n ∷ ns) (c ∷ cs) few new h =
    let rest = runs_from seats keep tell pool calls (suc arena) ns cs few new.1 h.1 in
    let machine = h.0.behind.machine in
    let one : ArenaRun = record { journal = c.0; machine = machine; device = c.1.device } in
    let same = keep arena c.0 in
    let run = HasRun-behind (header_for pool arena) n c.1 (seats arena c.0) new.0 (omega (arith, same, h.0.few, few)) h.0.behind in
    let words = words_of c.1.device in
    let listed : blocks_in words ≡ blocks_of words machine.block = blocks_of-same words (heap (tables_of words)) machine.block run.state.blocks in
    record {
      runs = one ∷ rest.runs;
      each = (record { run = run; threads = h.0.threads }, rest.each);
      all = ap suc rest.all;
      told = ap (λ (bs : List Block). tell arena c.0 bs ++ closed_texts tell (suc arena) cs) listed ∙ ap (λ (t : List ℕ). tell arena c.0 (blocks_of words machine.block) ++ t) rest.told;
      devices = ap (λ (ds : List PmemState). c.1.device ∷ ds) rest.devices;
    }

pub answers_length : (seats : Seats) (calls : List TraceCall) (arena : ℕ) (news : List ArenaState) (closed : List (List Entry × ArenaState)) → AllAnswer seats calls arena (map opened news) closed → length closed ≡ length news
answers_length seats calls arena [] [] h = refl
answers_length seats calls arena [] (c ∷ cs) h = absurd h
answers_length seats calls arena (n ∷ ns) [] h = absurd h
answers_length seats calls arena (n ∷ ns) (c ∷ cs) h = ap suc (answers_length seats calls (suc arena) ns cs h.1)

pub IsTold-closed : (seats : Seats) → KeepLength seats → (tell : Telling) (pool : PoolSize) (calls : List TraceCall) (news : List ArenaState) (closed : List (List Entry × ArenaState)) (text : List ℕ) (devices : List PmemState) → length calls < 2 ^ 32 → length news ≡ pool.arenas →
    AreNew pool 0 news → AllAnswer seats calls 0 (map opened news) closed → text ≡ closed_texts tell 0 closed → devices ≡ closed_devices closed → IsTold seats tell pool calls text devices
IsTold-closed seats keep tell pool calls news closed text devices few all new h is left =
    let runs = runs_from seats keep tell pool calls 0 news closed few new h in
    record { runs = runs.runs; all = runs.all ∙ all; each = runs.each; told = is ∙ runs.told; left = left ∙ runs.devices }

-- the text of closed arenas, one arena further

pub texts_none : (tell : Telling) (arena : ℕ) (text : List ℕ) (closed : List (List Entry × ArenaState)) → length closed ≡ 0 → text ++ closed_texts tell arena closed ≡ text
texts_none tell arena text [] none = append-nil text
texts_none tell arena text (c ∷ cs) none = absurd (omega (arith, none))

pub texts_more : (tell : Telling) (arena : ℕ) (text more : List ℕ) (closed rest : List (List Entry × ArenaState)) (one : List Entry × ArenaState) → closed ≡ one ∷ rest → more ≡ text ++ closed_text tell arena one →
    more ++ closed_texts tell (arena + 1) rest ≡ text ++ closed_texts tell arena closed
texts_more tell arena text more closed rest one whole is =
    let next : arena + 1 ≡ suc arena = omega arith in
    ap (λ n. more ++ closed_texts tell n rest) next ∙ ap (λ (t : List ℕ). t ++ closed_texts tell (suc arena) rest) is
    ∙ append_assoc text (closed_text tell arena one) (closed_texts tell (suc arena) rest) ∙ ap (λ (cs : List (List Entry × ArenaState)). text ++ closed_texts tell arena cs) (sym whole)

pub head_back : {A : Type 0} (xs ys : List A) (x : A) → 0 < length xs → x ≡ get_or xs 0 x → ys ≡ remove xs 0 → xs ≡ x ∷ ys
head_back [] ys x some first rest = absurd (omega (arith, some))
head_back (z ∷ zs) ys x some first rest = cc (first, rest)

-- the devices of closed arenas, one arena further
pub devices_more : {A D : Type 0} (state : D → PmemState) (f : A → List Entry × ArenaState) (devices more : List D) (d : D) (closed rest : List A) (one : A) → closed ≡ one ∷ rest → more ≡ devices ++ d ∷ [] →
    state d ≡ (f one).1.device → map state more ++ closed_devices (map f rest) ≡ map state devices ++ closed_devices (map f closed)
devices_more state f devices more d closed rest one whole pushed is =
    ap (λ ds. map state ds ++ closed_devices (map f rest)) pushed
    ∙ ap (λ (ss : List PmemState). ss ++ closed_devices (map f rest)) (map-append state devices (d ∷ []))
    ∙ append_assoc (map state devices) (state d ∷ []) (closed_devices (map f rest))
    ∙ ap (λ (s : PmemState). map state devices ++ (s ∷ closed_devices (map f rest))) is
    ∙ ap (λ cs. map state devices ++ closed_devices (map f cs)) (sym whole)

pub devices_none : (devices : List PmemState) (closed : List (List Entry × ArenaState)) → length closed ≡ 0 → devices ++ closed_devices closed ≡ devices
devices_none devices [] none = append-nil devices
devices_none devices (c ∷ cs) none = absurd (omega (arith, none))

-- what an Ok says in two clauses implies more
pub IfOk-both : {X E : Type 0} (r : Result X E) (P Q S : X → Type 0) → ((x : X) → P x → Q x → S x) → IfOk r P → IfOk r Q → IfOk r S
IfOk-both (Ok x) P Q S both p q = both x p q
IfOk-both (Err e) P Q S both p q = tt
