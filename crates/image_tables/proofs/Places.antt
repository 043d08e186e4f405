-- Where the entries of the log lie.
use Rattle.std.proofs.Common.{◌≡◌, ◌<◌, ◌+◌, ◌*◌, ◌/◌, ◌%◌, ℕ, sym, ap, ◌∙◌, arith}
use Rattle.std.proofs.lemmas.Nat.{same_from_place, div_below, mod_below, div-add-mod', mul-add-lt}
use Rattle.pool_layout.specs.Layout.{layout_of}
use Rattle.pool_layout.specs.Places.{entry_lines, entry_place, log_start, entry_slot, heap_word}
use Rattle.pool_layout.proofs.Layouts.{layout_rules}

-- how many words a chunk has, and how many lines of them have entries
pub record IsChunk (version words lines : ℕ) : Type 0 where
  pub entries : (layout_of version).chunk_entries ≡ 8 * lines
  pub whole : words ≡ 8 + 8 * lines
  pub some : 0 < lines

chunk_shape : (version : ℕ) → IsChunk version ((layout_of version).chunk_bytes / 8) (entry_lines version)
chunk_shape version =
    let rules = layout_rules version in
    record {
      entries = omega (arith, rules.lines);
      whole = omega (arith, rules.lines, rules.chunk);
      some = omega (arith, rules.lines, rules.some_entry);
    }

-- an entry lies in its chunk
pub entry_place-within : (version entry : ℕ) → entry < (layout_of version).chunk_entries → entry_place version entry < (layout_of version).chunk_bytes / 8
entry_place-within version entry below =
    let shape = chunk_shape version in
    let lines = entry_lines version in
    omega (arith, shape.whole, div_below entry lines 8 shape.some (omega (arith, shape.entries)), mod_below entry lines shape.some)

pub entry_place-same : (version e d : ℕ) → e < (layout_of version).chunk_entries → d < (layout_of version).chunk_entries → entry_place version e ≡ entry_place version d → e ≡ d
entry_place-same version e d p q same =
    let shape = chunk_shape version in
    let lines = entry_lines version in
    let place = same_from_place (e % lines) (e / lines) (d % lines) (d / lines) 8
    (div_below e lines 8 shape.some (omega (arith, shape.entries))) (div_below d lines 8 shape.some (omega (arith, shape.entries))) (omega arith) in
    sym (div-add-mod' e lines) ∙ ap (λ x. x * lines + e % lines) place.1 ∙ ap (λ x. d / lines * lines + x) place.0 ∙ div-add-mod' d lines

-- an entry lies in the log
pub entry_slot-low : (version chunk entry : ℕ) → log_start version < entry_slot version chunk entry
entry_slot-low version chunk entry = omega arith

-- the log lies behind the roots
pub log_start-low : (version : ℕ) → 2048 < log_start version
log_start-low version =
    let rules = layout_rules version in
    omega (arith, rules.roots, rules.least_roots)

-- an entry lies before the heap
pub entry_slot-high : (version chunk entry : ℕ) → chunk < 16 → entry < (layout_of version).chunk_entries → entry_slot version chunk entry < heap_word version
entry_slot-high version chunk entry few below =
    let rules = layout_rules version in
    let words = (layout_of version).chunk_bytes / 8 in
    let within : chunk * words + entry_place version entry < words * 16 = mul-add-lt chunk words (entry_place version entry) 16 few (entry_place-within version entry below) in
    omega (arith, within, rules.heap, rules.chunk, rules.log)

-- two entries of one place are one
pub entry_slot-same : (version c d e f : ℕ) → e < (layout_of version).chunk_entries → f < (layout_of version).chunk_entries → entry_slot version c e ≡ entry_slot version d f → (c ≡ d) × (e ≡ f)
entry_slot-same version c d e f p q same =
    let words = (layout_of version).chunk_bytes / 8 in
    let place = same_from_place c (entry_place version e) d (entry_place version f) words (entry_place-within version e p) (entry_place-within version f q) (omega (arith, same)) in
    (place.0, entry_place-same version e f p q place.1)
