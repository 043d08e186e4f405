-- One word of a slab's header is put.
use Rattle.std.proofs.Common.{◌≡◌, ◌≢◌, ◌+◌, ◌*◌, ◌/◌, ◌%◌, ◌<◌, ◌≤◌, ℕ, Bool, List, length, set, refl, sym, ap, ◌∙◌, arith}
use Rattle.pmem_lines.specs.Words.{word_at, put_word, words_at}
use Rattle.pmem_lines.proofs.Words.{length-words_at, get_or-words_at, words_at-put}
use Rattle.interleaved_bitmap.specs.Bits.{is_set}
use Rattle.interleaved_bitmap.specs.Places.{word_of_bit, bit_in_word, bit_of_header, IsHeaderWithBit}
use Rattle.interleaved_bitmap.specs.Places.{PutsBit as PutsWord}
use Rattle.pool_layout.specs.Places.{granule_word}
use Rattle.image_tables.specs.Tables.{bitmap_word, slab_bit}
use Rattle.image_tables.proofs.Headers.{tables_put_bit}
use Rattle.slab_header.specs.Steps.{PutsBit}
use Rattle.slab_header.proofs.Bits.{bit_of_word-is_set}

-- the header of the slab that begins at a granule
abbrev header_of : List ℕ → ℕ → List ℕ
header_of words start = words_at words (granule_word start) 256

-- a block's bit in the header and in the slab
pub header_bit : (words : List ℕ) (start i : ℕ) → i < 4096 → bit_of_header (header_of words start) i ≡ slab_bit words start i
unfolding bit_of_header
header_bit words start i below =
    ap (λ w. is_set w (bit_in_word i)) (get_or-words_at words (granule_word start) 256 (word_of_bit i) (omega arith))
    ∙ sym (bit_of_word-is_set (word_at words (bitmap_word start i)) (i / 8 % 64))

-- the header that is lent from a slab's first byte
pub header_lent : (words header : List ℕ) (at : ℕ) → at % 16384 ≡ 0 → header ≡ words_at words (at / 8) 256 → header ≡ header_of words (at / 16384)
header_lent words header at aligned lent =
    let here : at / 8 ≡ granule_word (at / 16384) = omega (arith, aligned) in
    lent ∙ ap (λ k. words_at words k 256) here

-- a word with a block's bit set or cleared is put in the place of the one that has the bit
pub puts_bit : (words : List ℕ) (start i : ℕ) (on : Bool) (value : ℕ) → i < 4096 → granule_word start + 256 ≤ length words → PutsWord (word_at words (bitmap_word start i)) (i / 8 % 64) on value →
    PutsBit words (put_word words (bitmap_word start i) value) start i on
puts_bit words start i on value below inside puts =
    let header = header_of words start in
    let new = put_word words (bitmap_word start i) value in
    let put : IsHeaderWithBit header i on (set header (word_of_bit i) value) =
    puts.at header i (length-words_at words (granule_word start) 256 inside) below (get_or-words_at words (granule_word start) 256 (word_of_bit i) (omega arith)) refl in
    let after : header_of new start ≡ set header (word_of_bit i) value = words_at-put words (granule_word start) 256 (word_of_bit i) value (omega arith) in
    let is : slab_bit new start i ≡ on = sym (header_bit new start i below) ∙ ap (λ (h : List ℕ). bit_of_header h i) after ∙ put.here in
    let rest : (j : ℕ) → j < 4096 → j ≢ i → slab_bit new start j ≡ slab_bit words start j =
    λ j within apart. sym (header_bit new start j within) ∙ ap (λ (h : List ℕ). bit_of_header h j) after ∙ put.others j within apart ∙ header_bit words start j within in
    record {
      here = is;
      others = rest;
      tables = λ slabs slab. tables_put_bit words start i value on slabs slab below is rest;
    }

-- where the word is
pub bit_place-is : (at i line bit place : ℕ) → at % 16384 ≡ 0 → line ≡ 1 + i % 8 → bit ≡ i / 8 → place ≡ at + 8 * (8 * line + bit / 64) → place ≡ 8 * bitmap_word (at / 16384) i
bit_place-is at i line bit place aligned in_line in_bit is =
    let word : bit / 64 ≡ i / 8 / 64 = ap (λ b. b / 64) in_bit in
    omega (arith, word)
