-- Steps that end flushed, and the fence behind them; how many events there are.
use Rattle.std.proofs.Common.{◌≡◌, ◌+◌, ◌*◌, ◌/◌, ◌<◌, ◌≤◌, ℕ, zero, suc, List, [], ◌∷◌, ◌++◌, length, get_or, drop, refl, sym, ap, ◌∙◌, subst, arith, append_assoc, append-nil, length-append}
use Rattle.log_room.proofs.Common.{Event, Fence, IsQuiet, PmemState, Appends, IsQuiet-append, layout_of, layout_rules, chunk_word, entry_lines, heap_word, log_start-low, flushes_of}
use Rattle.log_room.specs.Copies.{entry_stores, fill_events, fill_count, copy_events, IsFlushed, directory_events, switch_events, switch_count}
use Rattle.log_room.proofs.Copies.{quiet_copy}

-- what is read of the events
events_after : {s t : PmemState} {e : List Event} → Appends s t e → t.events ≡ s.events ++ e
events_after step = ap (λ (p : PmemState). p.events) step.state

-- copies leave a call that was quiet flushed
pub flushed_copy : {s t : PmemState} (version : ℕ) (fresh entries : List ℕ) → Appends s t (copy_events version fresh entries) → IsQuiet s.events → IsFlushed t.events
flushed_copy {s} {t} version fresh entries step quiet =
    let copies = copy_events version fresh entries in
    subst IsFlushed (sym (events_after step))
    (subst IsQuiet (sym (append_assoc s.events copies (Fence ∷ []))) (IsQuiet-append s.events (copies ++ Fence ∷ []) quiet (quiet_copy version fresh entries (Fence ∷ []) refl tt)))

-- and a fence makes it quiet
pub fenced : {s t : PmemState} → Appends s t (Fence ∷ []) → IsFlushed s.events → IsQuiet t.events
fenced step flushed = subst IsQuiet (sym (events_after step)) flushed

-- a chunk that is filled is a copy into one chunk
pub copy_one : (version chunk : ℕ) (fresh : List ℕ) → fresh ≡ chunk ∷ [] → fill_events version chunk (λ e. get_or [] e 0) ≡ copy_events version fresh []
copy_one version chunk fresh is = sym (ap (λ cs. copy_events version cs []) is ∙ append-nil (fill_events version chunk (λ e. get_or [] e 0)))

-- the directory lies before the heap
pub directory_inside : (version n : ℕ) → heap_word version ≤ n → 2 < n
directory_inside version n inside =
    let rules = layout_rules version in
    omega (arith, inside, rules.heap, log_start-low version)

-- counts

length-stores : (version chunk : ℕ) (value : ℕ → ℕ) (entry n : ℕ) → length (entry_stores version chunk value entry n) ≡ n
length-stores version chunk value entry zero = refl
length-stores version chunk value entry (suc n) = omega (arith, length-stores version chunk value (entry + 1) n)

length-flushes : (line n : ℕ) → length (flushes_of line n) ≡ n
length-flushes line zero = refl
length-flushes line (suc n) = omega (arith, length-flushes (line + 1) n)

length-fill : (version chunk : ℕ) (value : ℕ → ℕ) → length (fill_events version chunk value) ≡ fill_count version
length-fill version chunk value =
    let n = (layout_of version).chunk_entries in
    let first = chunk_word version chunk / 8 + 1 in
    let lines = entry_lines version in
    omega (arith, length-append (entry_stores version chunk value 0 n) (flushes_of first lines), length-stores version chunk value 0 n, length-flushes first lines)

length-copy : (version : ℕ) (fresh entries : List ℕ) → length (copy_events version fresh entries) ≡ fill_count version * length fresh
length-copy version [] entries = omega arith
length-copy version (c ∷ fresh) entries =
    let n = (layout_of version).chunk_entries in
    let value : ℕ → ℕ = λ e. get_or entries e 0 in
    let rest = copy_events version fresh (drop n entries) in
    omega (arith, length-append (fill_events version c value) rest, length-fill version c value, length-copy version fresh (drop n entries))

-- how many events a switch has
pub length-switch : (version : ℕ) (fresh entries chunks : List ℕ) → length (switch_events version fresh entries chunks) ≡ switch_count version (length fresh)
length-switch version fresh entries chunks = omega (arith, length-append (copy_events version fresh entries) (directory_events chunks), length-copy version fresh entries)
