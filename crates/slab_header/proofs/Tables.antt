-- What the steps on a slab's header change of the tables of an image.
use Rattle.std.proofs.Common.{◌≡◌, ◌+◌, ◌/◌, ◌%◌, ◌^◌, ◌<◌, ◌≤◌, ⊎_elim, inl, inr, ℕ, false, eqb, List, length, refl, sym, ap, ◌∙◌, subst, arith}
use Rattle.std.proofs.lemmas.Nat.Bits.{bit_at-zero}
use Rattle.pmem_lines.specs.Words.{word_at, put_word}
use Rattle.pmem_lines.proofs.Words.{word_at-put_same}
use Rattle.pool_layout.specs.Places.{granule_word, blocks_place}
use Rattle.interleaved_bitmap.specs.Bits.{is_set}
use Rattle.image_tables.specs.Tables.{bit_of_word, index_word, tables_of}
use Rattle.image_tables.specs.Updates.{put_index}
use Rattle.image_tables.proofs.Headers.{tables_no_slab, tables_put_index}
use Rattle.slab_header.specs.declared.index.IndexEntry.{IndexEntry}
use Rattle.slab_header.specs.Index.{SaysOfIndex}
use Rattle.slab_header.specs.Steps.{IsOutside, KeepsOutside, PutsIndex}
use Rattle.slab_header.proofs.Bits.{bit_of_word-is_set}

-- no bit of 0 is set
pub bit_of_word-zero : (bit : ℕ) → bit_of_word 0 bit ≡ false
unfolding is_set
bit_of_word-zero bit = bit_of_word-is_set 0 bit ∙ ap (λ b. eqb b 1) (bit_at-zero bit)

-- where all outside is as before, no table has changed of which the words are outside
pub KeepsOutside-others : (words image : List ℕ) (start : ℕ) → length image ≡ length words → ((k : ℕ) → IsOutside start k → word_at image k ≡ word_at words k) → KeepsOutside words start image
KeepsOutside-others words image start size outside = record {
  same_length = size;
  others = outside;
  tables = λ in_heap none. tables_no_slab words image start
      (record {
        in_heap = in_heap;
        others = λ k apart. outside k (⊎_elim (λ low. inl low) (λ (high : granule_word start + blocks_place ≤ k). inr (omega (arith, high))) apart);
      })
      none;
}

-- an entry's word is put at a place
pub puts_index : (words : List ℕ) (start place value : ℕ) (entry : IndexEntry) → place < 64 → index_word start place < length words → SaysOfIndex value entry →
    PutsIndex words (put_word words (index_word start place) value) start place entry
puts_index words start place value entry below inside says =
    let word = index_word start place in
    record {
      says = subst (λ w. SaysOfIndex w entry) (sym (word_at-put_same words word word value refl inside)) says;
      tables = λ slabs is.
          tables_put_index words start place value slabs is below inside
          ∙ ap (λ live. put_index (tables_of words) start place live (value / 2 ^ 16 % 2 ^ 16)) says.live
          ∙ ap (λ number. put_index (tables_of words) start place entry.live number) says.number;
    }
