-- Where everything lies in an arena, as numbers of words from the arena's first one.
use Rattle.std.specs.Prelude.{ℕ, ◌+◌, ◌*◌, ◌/◌, ◌%◌}
use Rattle.pool_layout.specs.Layout.{layout_of}

-- the header line: its text, its fields, the directory of the log
abbrev pub text_word : ℕ
text_word = 0

abbrev pub fields_word : ℕ
fields_word = 1

abbrev pub directory_word : ℕ
directory_word = 2

-- root word r
abbrev pub root_word : ℕ → ℕ
root_word root = 2048 + root

-- the word of write-ahead line j
abbrev pub wal_word : ℕ → ℕ
wal_word line = 64 + 8 * line

-- how many lines of a chunk have entries
abbrev pub entry_lines : ℕ → ℕ
entry_lines version = (layout_of version).chunk_entries / 8

-- the first word of the log
abbrev pub log_start : ℕ → ℕ
log_start version = (layout_of version).log_at / 8

-- the first word of a chunk of the log
abbrev pub chunk_word : ℕ → ℕ → ℕ
chunk_word version chunk = log_start version + (layout_of version).chunk_bytes / 8 * chunk

-- the word of an entry in its chunk: entries that are neighbours lie in different lines
abbrev pub entry_place : ℕ → ℕ → ℕ
entry_place version entry = 8 + 8 * (entry % entry_lines version) + entry / entry_lines version

-- the word of an entry of a chunk
abbrev pub entry_slot : ℕ → ℕ → ℕ → ℕ
entry_slot version chunk entry = chunk_word version chunk + entry_place version entry

-- the first word of a granule
abbrev pub granule_word : ℕ → ℕ
granule_word granule = 2048 * granule

-- the first word of the heap
abbrev pub heap_word : ℕ → ℕ
heap_word version = granule_word (layout_of version).first_granule

-- a word of a line of a slab's header, in the slab; the state word is word 0 of line 0
abbrev pub line_place : ℕ → ℕ → ℕ
line_place line word = 8 * line + word

-- the word of an entry of the index table, in the slab
abbrev pub index_place : ℕ → ℕ
index_place place = line_place (9 + place % 8) (place / 8)

-- how many words of a slab are before its blocks
abbrev pub blocks_place : ℕ
blocks_place = 256
