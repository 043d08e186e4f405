-- The events that put entries into chunks: what they store, that a fence makes all of it durable, and what is read then.
use Rattle.std.proofs.Common.{◌≡◌, ◌+◌, ◌*◌, ◌/◌, ◌%◌, ◌<◌, ◌≤◌, ⊎_elim, ℕ, zero, suc, true, List, [], ◌∷◌, ◌++◌, length, get_or, drop, sym, ap, subst, arith, append_assoc}
use Rattle.log_room.proofs.Common.{div_below, mod_below, Event, IsStored, IsQuiet, is_flushed, is_fenced, layout_of, layout_rules, chunk_word, entry_lines, entry_slot, flushes_of}
use Rattle.durable_steps.proofs.Rows.{is_fenced-behind, is_flushed-behind, is_flushed-flushes, IsQuiet-flushes}
use Rattle.log_room.specs.Copies.{entry_stores, fill_events, copy_events}
use Rattle.log_room.proofs.Events.{IsStored-append, none_stored}

-- a chunk begins with a line
chunk_whole : (version chunk : ℕ) → chunk_word version chunk ≡ 8 * (chunk_word version chunk / 8)
chunk_whole version chunk =
    let rules = layout_rules version in
    let words : (layout_of version).chunk_bytes / 8 ≡ 8 * (entry_lines version + 1) = omega (arith, rules.chunk, rules.lines) in
    omega (arith, rules.log, ap (λ n. n * chunk) words)

-- the line of an entry is one of those that are flushed
entry_line : (version chunk entry : ℕ) → entry < (layout_of version).chunk_entries →
    ((chunk_word version chunk / 8 + 1) ≤ 8 * entry_slot version chunk entry / 64) × (8 * entry_slot version chunk entry / 64 < chunk_word version chunk / 8 + 1 + entry_lines version)
entry_line version chunk entry below =
    let rules = layout_rules version in
    let lines = entry_lines version in
    let some : 0 < lines = omega (arith, rules.lines, rules.some_entry) in
    let column : entry / lines < 8 = div_below entry lines 8 some (omega (arith, rules.lines)) in
    let row : entry % lines < lines = mod_below entry lines some in
    let whole = chunk_whole version chunk in
    (omega (arith, whole, column, row), omega (arith, whole, column, row))

-- quiet

quiet_entries : (version chunk : ℕ) (value : ℕ → ℕ) (entry n : ℕ) (rest : List Event) → ((e : ℕ) → entry ≤ e → e < entry + n → is_flushed (8 * entry_slot version chunk e / 64) rest ≡ true) → IsQuiet rest →
    IsQuiet (entry_stores version chunk value entry n ++ rest)
quiet_entries version chunk value entry zero rest flushed quiet = quiet
quiet_entries version chunk value entry (suc n) rest flushed quiet = (
  is_flushed-behind (8 * entry_slot version chunk entry / 64) (entry_stores version chunk value (entry + 1) n) rest (flushed entry (omega arith) (omega arith)),
  quiet_entries version chunk value (entry + 1) n rest (λ e low high. flushed e (omega arith) (omega arith)) quiet,
)

quiet_fill : (version chunk : ℕ) (value : ℕ → ℕ) (rest : List Event) → is_fenced rest ≡ true → IsQuiet rest → IsQuiet (fill_events version chunk value ++ rest)
quiet_fill version chunk value rest fenced quiet =
    let n = (layout_of version).chunk_entries in
    let first = chunk_word version chunk / 8 + 1 in
    let lines = entry_lines version in
    subst IsQuiet (sym (append_assoc (entry_stores version chunk value 0 n) (flushes_of first lines) rest))
    (quiet_entries version chunk value 0 n (flushes_of first lines ++ rest)
    (λ e low high. let line = entry_line version chunk e (omega arith) in is_flushed-flushes (8 * entry_slot version chunk e / 64) first lines rest line.0 line.1 fenced)
    (IsQuiet-flushes first lines rest quiet))

-- where a fence follows, all of it is durable
pub quiet_copy : (version : ℕ) (fresh entries : List ℕ) (rest : List Event) → is_fenced rest ≡ true → IsQuiet rest → IsQuiet (copy_events version fresh entries ++ rest)
quiet_copy version [] entries rest fenced quiet = quiet
quiet_copy version (chunk ∷ chunks) entries rest fenced quiet =
    let n = (layout_of version).chunk_entries in
    let others = copy_events version chunks (drop n entries) in
    let value : ℕ → ℕ = λ e. get_or entries e 0 in
    subst IsQuiet (sym (append_assoc (fill_events version chunk value) others rest))
    (quiet_fill version chunk value (others ++ rest) (is_fenced-behind others rest fenced) (quiet_copy version chunks (drop n entries) rest fenced quiet))

-- what is stored

-- the word is that of an entry of a chunk
pub record IsEntryOf (version chunk word : ℕ) : Type 0 where
  pub entry : ℕ
  pub below : entry < (layout_of version).chunk_entries
  pub place : word ≡ entry_slot version chunk entry

-- the word is that of an entry of one of the chunks
pub record IsEntryAmong (version : ℕ) (chunks : List ℕ) (word : ℕ) : Type 0 where
  pub index : ℕ
  pub inside : index < length chunks
  pub entry : IsEntryOf version (get_or chunks index 0) word

stored_entry : (version chunk : ℕ) (value : ℕ → ℕ) (entry n word stored : ℕ) → entry + n ≤ (layout_of version).chunk_entries → IsStored (entry_stores version chunk value entry n) word stored → IsEntryOf version chunk word
stored_entry version chunk value entry zero word stored fits s = absurd s
stored_entry version chunk value entry (suc n) word stored fits s =
    ⊎_elim
    (λ here. record { entry = entry; below = omega arith; place = omega (arith, here.0) })
    (λ later. stored_entry version chunk value (entry + 1) n word stored (omega arith) later)
    s

stored_fill : (version chunk : ℕ) (value : ℕ → ℕ) (word stored : ℕ) → IsStored (fill_events version chunk value) word stored → IsEntryOf version chunk word
stored_fill version chunk value word stored s =
    let n = (layout_of version).chunk_entries in
    ⊎_elim
    (λ first. stored_entry version chunk value 0 n word stored (omega arith) first)
    (λ second. absurd (none_stored (chunk_word version chunk / 8 + 1) (entry_lines version) word stored second))
    (IsStored-append (entry_stores version chunk value 0 n) (flushes_of (chunk_word version chunk / 8 + 1) (entry_lines version)) word stored s)

-- only entries of these chunks are stored
pub stored_copy : (version : ℕ) (fresh entries : List ℕ) (word stored : ℕ) → IsStored (copy_events version fresh entries) word stored → IsEntryAmong version fresh word
stored_copy version [] entries word stored s = absurd s
stored_copy version (chunk ∷ chunks) entries word stored s =
    let n = (layout_of version).chunk_entries in
    let value : ℕ → ℕ = λ e. get_or entries e 0 in
    ⊎_elim
    (λ first. record { index = 0; inside = omega arith; entry = stored_fill version chunk value word stored first })
    (λ second. let later = stored_copy version chunks (drop n entries) word stored second in record { index = suc later.index; inside = omega (arith, later.inside); entry = later.entry })
    (IsStored-append (fill_events version chunk value) (copy_events version chunks (drop n entries)) word stored s)
