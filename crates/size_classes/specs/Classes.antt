-- The size classes: 36 sizes of small blocks, and how many blocks a slab has.
use Rattle.std.specs.Prelude.{◌≡◌, ℕ, ◌+◌, ◌-◌, ◌*◌, ◌/◌, ◌%◌, ◌<◌, ◌≤◌, List, [], ◌∷◌, slice_index}

-- the size in bytes of each class
unfoldable pub sizes : List ℕ
sizes =
    16 ∷ 32 ∷ 48 ∷ 64 ∷ 80 ∷ 96 ∷ 112 ∷ 128 ∷ 160 ∷ 192 ∷ 224 ∷ 256
    ∷ 320 ∷ 384 ∷ 448 ∷ 512 ∷ 640 ∷ 768 ∷ 896 ∷ 1024 ∷ 1280 ∷ 1536 ∷ 1792 ∷ 2048
    ∷ 2560 ∷ 3072 ∷ 3584 ∷ 4096 ∷ 5120 ∷ 6144 ∷ 7168 ∷ 8192 ∷ 10240 ∷ 12288 ∷ 14336 ∷ 16384 ∷ []

-- the size of a block of this class
unfoldable pub class_size : ℕ → ℕ
class_size class = slice_index sizes class

-- how many blocks of this class a slab has
abbrev pub class_capacity : ℕ → ℕ
class_capacity class = 63488 / class_size class

-- the least class whose blocks hold so many bytes
pub record IsClassOf (size class : ℕ) : Type 0 where
  pub is_class : class < 36
  pub holds : size ≤ class_size class
  pub least : (lower : ℕ) → lower < class → class_size lower < size

-- how the sizes are spaced: in steps of 16 up to 128, then four to each doubling, up to 16384
pub record IsSpaced (class size : ℕ) : Type 0 where
  pub low : class < 8 → size ≡ 16 * (class + 1)
  pub doubled : 8 ≤ class → size ≡ 2 * class_size (class - 4)
  pub rising : (lower : ℕ) → lower < class → class_size lower < size
  pub aligned : size % 16 ≡ 0
  pub least : 16 ≤ size
  pub most : size ≤ 16384

-- how many granules of 16384 bytes hold so many bytes
abbrev pub granules_of : ℕ → ℕ
granules_of size = (size + 16383) / 16384
