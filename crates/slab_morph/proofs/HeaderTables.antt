-- What the tables of an arena say where only words of one slab's header differ.
use Rattle.std.proofs.Common.{◌≡◌, ◌&&◌, ◌/◌, ◌%◌, ◌^◌, ℕ, Bool, true, ltb, List, refl, sym, ap, ◌∙◌}
use Rattle.slab_morph.proofs.Common.{cond-true, word_at, put_header}
use Rattle.image_tables.specs.Tables.{is_slab, AreSlabsInHeap, where_slab, index_word, state_field, SlabHeader, slab_header, tables_of}
use Rattle.image_tables.proofs.Headers.{IsSameOffHeader, is_slab-off_header, tables_put_header}
use Rattle.slab_morph.specs.SlabHeaders.{field_at, header_at}
use Rattle.slab_morph.specs.Stages.{IsOffHeader, LeavesHeader, Changes}

-- what is read where there is a slab
there : (slab value : Bool) → slab ≡ true → (slab && value) ≡ value
there slab value is = ap (λ b. b && value) is

number_there : (slab below : Bool) (value : ℕ) → slab ≡ true → where_slab (slab && below) value ≡ where_slab below value
number_there slab below value is = ap (λ b. where_slab (b && below) value) is

-- the number in a word of the index table
abbrev index_field : List ℕ → ℕ → ℕ → ℕ
index_field words start place = word_at words (index_word start place) / 2 ^ 16 % 2 ^ 16

-- where a slab begins, its header says what its words say
slab_header-there : (words : List ℕ) (start : ℕ) → is_slab words start ≡ true → slab_header words start ≡ header_at words start
unfolding header_at
slab_header-there words start is k = record {
  kind = field 0 k;
  class = field 8 k;
  old = field 16 k;
  index_count = field 24 k;
  bit = λ i. there (is_slab words start) ((header_at words start).bit i) is k;
  live = λ place. there (is_slab words start) ((header_at words start).live place) is k;
  number = λ place. number_there (is_slab words start) (ltb place 64) (index_field words start place) is k;
}
  where
    field : (bits : ℕ) → state_field words start bits ≡ field_at words start bits
    field bits = cond-true (is_slab words start) (field_at words start bits) 0 is

-- and so do the tables
pub header_of-slab : (words : List ℕ) (start : ℕ) → is_slab words start ≡ true → (tables_of words).header start ≡ header_at words start
unfolding tables_of
header_of-slab words start is = slab_header-there words start is

-- where only words of the header differ
pub tables_off : (words new : List ℕ) (start : ℕ) → IsOffHeader words start new → AreSlabsInHeap words → is_slab words start ≡ true → tables_of new ≡ put_header (tables_of words) start (header_at new start)
tables_off words new start off slabs is =
    let same : IsSameOffHeader words new start = record { in_heap = slabs.low start is; others = off.others } in
    tables_put_header words new start same
    ∙ ap (put_header (tables_of words) start) (slab_header-there new start (is_slab-off_header words new start start same ∙ is))

pub leaves_by : (words image : List ℕ) (start : ℕ) (Stage : SlabHeader → Type 0) → IsOffHeader words start image → Stage (header_at image start) → LeavesHeader words start Stage image
leaves_by words image start Stage off stage = record { off = off; header = stage; tables = tables_off words image start off }

pub changes_by : (words new : List ℕ) (start : ℕ) (change : SlabHeader → SlabHeader) → IsOffHeader words start new → header_at new start ≡ change (header_at words start) → Changes words new start change
changes_by words new start change off is = record {
  off = off;
  header = is;
  tables = λ slabs slab. tables_off words new start off slabs slab ∙ ap (put_header (tables_of words) start) (is ∙ ap change (sym (header_of-slab words start slab)));
}

-- one after another
pub off_then : (words between image : List ℕ) (start : ℕ) → IsOffHeader words start between → IsOffHeader between start image → IsOffHeader words start image
off_then words between image start first second = record {
  same_length = second.same_length ∙ first.same_length;
  others = λ k outside. second.others k outside ∙ first.others k outside;
}

-- nothing has changed
pub off_none : (words : List ℕ) (start : ℕ) → IsOffHeader words start words
off_none words start = record { same_length = refl; others = λ k outside. refl }
