-- The forms of words that pack several fields: what a write-ahead word that is not 0, the state word of a slab and a word
-- of its index table may be. Bits that have no meaning are 0.
use Rattle.std.specs.Prelude.{◌≡◌, ◌≢◌, ◌⊎◌, ℕ, ◌/◌, ◌%◌, ◌^◌, ◌<◌, ◌≤◌}

-- write-ahead words

-- A place entry: bit 0 is set and bits 2 to 7 are not. Bit 1 says whether the block is an old one of its slab; then bits 8
-- to 15 have its place in the index table, and else 0. Bits 16 to 31 have the root, bits 32 to 63 the address.
pub record IsPlaceWord (word : ℕ) : Type 0 where
  pub some : word % 2 ≡ 1
  pub unused : word / 2 ^ 2 % 2 ^ 6 ≡ 0
  pub place : word / 2 ^ 8 % 2 ^ 8 < 64
  pub no_place : word / 2 % 2 ≡ 0 → word / 2 ^ 8 % 2 ^ 8 ≡ 0

-- A move entry: of bits 0 to 15 and 48 to 63 those with the numbers 0 and 2 are set and no other. Bits 16 to 31 have the
-- root that the block moves from, bits 32 to 47 the one that it moves to.
pub record IsMoveWord (word : ℕ) : Type 0 where
  pub flags : word % 2 ^ 16 ≡ 5
  pub small : word < 2 ^ 48

-- a write-ahead word that is not 0 is one of these entries
abbrev pub IsWalWord : ℕ → Type 0
IsWalWord word = IsPlaceWord word ⊎ IsMoveWord word

-- state words

-- the kinds of a slab's state
abbrev pub normal_kind : ℕ
normal_kind = 1

abbrev pub morphing_kind : ℕ
morphing_kind = 2

abbrev pub morphed_kind : ℕ
morphed_kind = 3

-- The fields of a state word. A normal slab has no old class and no index entries; any other has an old class that is not
-- its own, and 1 to 64 entries.
pub record IsState (kind class old entries : ℕ) : Type 0 where
  pub kinds : (kind ≡ normal_kind) ⊎ ((kind ≡ morphing_kind) ⊎ (kind ≡ morphed_kind))
  pub is_class : class < 36
  pub is_old_class : old < 36
  pub none : kind ≡ normal_kind → (old ≡ 0) × (entries ≡ 0)
  pub differ : kind ≢ normal_kind → old ≢ class
  pub number : kind ≢ normal_kind → (1 ≤ entries) × (entries ≤ 64)

-- what a word has besides them
abbrev pub HasStateBits : ℕ → Type 0
HasStateBits word = word < 2 ^ 32

-- A state word: bits 0 to 7 have the kind, 8 to 15 the class, 16 to 23 the old class, 24 to 31 the number of entries.
pub record IsStateWord (word : ℕ) : Type 0 where
  pub small : HasStateBits word
  pub state : IsState (word % 2 ^ 8) (word / 2 ^ 8 % 2 ^ 8) (word / 2 ^ 16 % 2 ^ 8) (word / 2 ^ 24 % 2 ^ 8)

-- words of the index table

-- bit 0 says whether the old block lives, bits 16 to 31 have its number
pub record IsIndexWord (word : ℕ) : Type 0 where
  pub flag : word % 2 ^ 16 ≤ 1
  pub number : word < 2 ^ 32
