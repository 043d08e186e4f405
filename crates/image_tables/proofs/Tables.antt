-- What the tables of an image read off its words, one by one.
use Rattle.std.proofs.Common.{◌≡◌, ◌&&◌, ◌/◌, ◌%◌, ◌^◌, ◌<◌, ◌≤◌, ℕ, Bool, true, false, cond, eqb, ltb, Option, Some, None, List, refl, ap, ◌∙◌}
use Rattle.std.proofs.lemmas.Bool.{cond-true, cond-false, lt-ltb, le-ltb, and_from}
use Rattle.pmem_lines.specs.Words.{word_at}
use Rattle.pool_layout.specs.Layout.{layout_of}
use Rattle.pool_layout.specs.Places.{root_word}
use Rattle.pool_layout.specs.Header.{version_in}
use Rattle.image_tables.specs.Extents.{extent_at}
use Rattle.image_tables.specs.declared.entry.WalEntry.{WalEntry}
use Rattle.image_tables.specs.declared.entry.WalEntry.TheVariants.{Place, Move}
use Rattle.image_tables.specs.Tables.{open_entry_in, held_of, root_in, large_of, is_slab, bit_of_word, index_word, slab_bit, tables_of, state_field}
use Rattle.image_tables.specs.Updates.{HasNoMove}
use Rattle.image_tables.proofs.Stores.{roots_plain}

-- a root's word
pub word_table : (words : List ℕ) (root : ℕ) → root < (layout_of (version_in words)).roots → (tables_of words).word root ≡ word_at words (root_word root)
unfolding tables_of
word_table words root below = cond-true (ltb root (layout_of (version_in words)).roots) (word_at words (root_word root)) 0 (lt-ltb root (layout_of (version_in words)).roots below)

-- there are no more roots
pub word_table-past : (words : List ℕ) (root : ℕ) → (layout_of (version_in words)).roots ≤ root → (tables_of words).word root ≡ 0
unfolding tables_of
word_table-past words root past = cond-false (ltb root (layout_of (version_in words)).roots) (word_at words (root_word root)) 0 (le-ltb root (layout_of (version_in words)).roots past)

-- what a root holds: its word, while no move entry is open
pub root_table : (words : List ℕ) (root : ℕ) → HasNoMove (tables_of words).open_entry → root < (layout_of (version_in words)).roots → (tables_of words).root root ≡ word_at words (root_word root)
root_table words root none below = ap (λ (f : ℕ → ℕ). f root) (roots_plain words none) ∙ word_table words root below

-- what has no word holds nothing
held_of-none : (entry : Option WalEntry) (word : ℕ → ℕ) (root : ℕ) → word root ≡ 0 → held_of entry word root ≡ 0
held_of-none None word root none = none
held_of-none (Some (Place named at old place)) word root none = none
held_of-none (Some (Move from to)) word root none = if_none (eqb root from && ltb 0 (word to)) none
  where
    if_none : (test : Bool) {n : ℕ} → n ≡ 0 → cond test 0 n ≡ 0
    if_none true none = refl
    if_none false none = none

pub root_table-none : (words : List ℕ) (root : ℕ) → (tables_of words).word root ≡ 0 → (tables_of words).root root ≡ 0
unfolding tables_of
root_table-none words root none = held_of-none (open_entry_in words) (root_in words) root none

pub root_table-past : (words : List ℕ) (root : ℕ) → (layout_of (version_in words)).roots ≤ root → (tables_of words).root root ≡ 0
root_table-past words root past = root_table-none words root (word_table-past words root past)

-- large extents and slabs
pub large_table : (words : List ℕ) (start : ℕ) → (tables_of words).large start ≡ large_of (extent_at words start)
unfolding tables_of
large_table words start = refl

pub slab_table : (words : List ℕ) (start : ℕ) → (tables_of words).slab start ≡ is_slab words start
unfolding tables_of
slab_table words start = refl

-- the bit of a block of a slab, and a place of its index table
pub bit_table : (words : List ℕ) (start i : ℕ) → is_slab words start ≡ true → i < 4096 → ((tables_of words).header start).bit i ≡ slab_bit words start i
unfolding tables_of
bit_table words start i is below = ap (λ b. b && (ltb i 4096 && slab_bit words start i)) is ∙ ap (λ b. b && slab_bit words start i) (lt-ltb i 4096 below)

pub live_table : (words : List ℕ) (start place : ℕ) → is_slab words start ≡ true → place < 64 → ((tables_of words).header start).live place ≡ bit_of_word (word_at words (index_word start place)) 0
unfolding tables_of
live_table words start place is below =
    let live = bit_of_word (word_at words (index_word start place)) 0 in
    ap (λ b. b && (ltb place 64 && live)) is ∙ ap (λ b. b && live) (lt-ltb place 64 below)

pub number_table : (words : List ℕ) (start place : ℕ) → is_slab words start ≡ true → place < 64 → ((tables_of words).header start).number place ≡ word_at words (index_word start place) / 2 ^ 16 % 2 ^ 16
unfolding tables_of
number_table words start place is below = cond-true (is_slab words start && ltb place 64) _ 0 (and_from (is_slab words start) (ltb place 64) is (lt-ltb place 64 below))

-- the fields of a slab's state word
pub record HasStateFields (words : List ℕ) (start : ℕ) : Type 0 where
  pub kind : ((tables_of words).header start).kind ≡ state_field words start 0
  pub class : ((tables_of words).header start).class ≡ state_field words start 8
  pub old : ((tables_of words).header start).old ≡ state_field words start 16
  pub index_count : ((tables_of words).header start).index_count ≡ state_field words start 24

pub slab_fields : (words : List ℕ) (start : ℕ) → HasStateFields words start
unfolding tables_of
slab_fields words start = record { kind = refl; class = refl; old = refl; index_count = refl }
