-- The repairs of the arenas of a pool.
use Rattle.std.proofs.Common.{◌≡◌, ℕ, ◌*◌, ◌<◌, List, length, sym, ap, subst, ◌∙◌, arith}
use Rattle.pool_layout.specs.declared.header.PoolHeader.{PoolHeader}
use Rattle.pool_layout.specs.Bytes.{words_of_bytes}
use Rattle.pool_layout.specs.Header.{fields_of, IsHeader, IsGcHeader}
use Rattle.pool_layout.specs.Image.{part_of, header_of_arena}
use Rattle.pool_layout.proofs.Headers.{fields_of-header_word, header_fits}
use Rattle.pool_layout.proofs.Words.{words_of_bytes-bytes_of_words, length-bytes_of_words}
use Rattle.image_runs.specs.Repairs.{IsRepaired}
use Rattle.image_runs.proofs.Repairs.{HasParts}
use Rattle.nvpool.specs.GcRepairs.{IsGcRepaired}
use Rattle.nvpool.specs.Rules.{PoolRules, log_pools, gc_pools}
use Rattle.nvpool.specs.Repairing.{ArePartsRepaired, KeepsImages}

-- repaired words have the header line that they had

header_kept : (words new : List ℕ) (header : PoolHeader) → IsHeader words header → IsRepaired words new → IsHeader new header
header_kept words new header line is =
    subst (IsHeader new) (is.header ∙ ap fields_of line.word ∙ fields_of-header_word header (header_fits header line.valid)) is.exact.formed.header

gc_header_kept : (words new : List ℕ) (header : PoolHeader) → IsGcHeader words header → IsGcRepaired words new → IsGcHeader new header
gc_header_kept words new header line is =
    subst (IsGcHeader new) (is.header ∙ ap fields_of line.word ∙ fields_of-header_word header (header_fits header line.valid.valid)) is.exact.formed.header

-- so the pool of them has its header

pub log_kept : KeepsImages log_pools
log_kept input words bytes header is parts =
    let image = is.0 in
    let of = image.header in
    let each = subst (λ (h : PoolHeader). (arena : ℕ) → arena < h.arenas → IsRepaired (part_of words h.granules arena) (part_of parts.new h.granules arena)) (sym is.1) parts.each in
    let every = λ (arena : ℕ) (below : arena < of.arenas). header_kept (part_of words of.granules arena) (part_of parts.new of.granules arena) (header_of_arena of arena) (image.pool.each arena below) (each arena below) in
    (record { words_are = parts.is; whole = parts.whole; header = of; pool = record { first = image.pool.first; size = parts.size ∙ image.pool.size; each = every } }, is.1)

pub gc_kept : KeepsImages gc_pools
gc_kept input words bytes header is parts =
    let image = is.0 in
    let of = image.header in
    let each = subst (λ (h : PoolHeader). (arena : ℕ) → arena < h.arenas → IsGcRepaired (part_of words h.granules arena) (part_of parts.new h.granules arena)) (sym is.1) parts.each in
    let every = λ (arena : ℕ) (below : arena < of.arenas). gc_header_kept (part_of words of.granules arena) (part_of parts.new of.granules arena) (header_of_arena of arena) (image.pool.each arena below) (each arena below) in
    (record { words_are = parts.is; whole = parts.whole; header = of; pool = record { first = image.pool.first; size = parts.size ∙ image.pool.size; each = every } }, is.1)

-- the bytes of all arenas
pub parts_repaired : (r : PoolRules) (words : List ℕ) (header : PoolHeader) (bytes : List ℕ) → length words ≡ header.arenas * header.granules * 2048 → HasParts r.IsRepaired words header.granules header.arenas bytes → ArePartsRepaired r words header bytes
parts_repaired r words header bytes size has = record {
  new = has.new;
  is = sym (ap words_of_bytes has.is ∙ words_of_bytes-bytes_of_words has.new has.fit);
  whole = ap length has.is ∙ length-bytes_of_words has.new;
  size = omega (arith, has.size, size);
  each = has.each;
}
