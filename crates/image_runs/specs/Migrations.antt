-- What `migrate` makes of the image of a pool of version 1: one of version 2, arena by arena.
use Rattle.std.specs.Prelude.{◌≡◌, ◌≤◌, ℕ, List, ◌++◌, length, flat_map}
use Rattle.pool_layout.specs.declared.header.PoolHeader.{PoolHeader}
use Rattle.pool_layout.specs.Bytes.{bytes_of_words}
use Rattle.pool_layout.specs.Image.{part_of}
use Rattle.heap_check.specs.Image.{IsSoundImage}
use Rattle.trace_runs.specs.Each.{EachFrom}
use Rattle.pool_migrate.specs.declared.fault.MigrateFault.{MigrateFault}
use Rattle.pool_migrate.specs.declared.fault.MigrateFault.TheVariants as arenas
use Rattle.pool_migrate.specs.Migrated.{HasVersion, IsMigrated}
use Rattle.image_runs.specs.declared.migrating.PoolMigrateFault.{PoolMigrateFault}
use Rattle.image_runs.specs.declared.migrating.PoolMigrateFault.TheVariants as faults
use Rattle.image_runs.specs.Checks.{HasUnsoundFrom, IsOwnDefect}

-- the first so many arenas of a pool of so many granules each are sound, and the bytes are those of one migration of each, in
-- order
pub record HasMigrations (words : List ℕ) (granules count : ℕ) (bytes : List ℕ) : Type 0 where
  pub news : List (List ℕ)
  pub all : length news ≡ count
  pub each : EachFrom (λ arena new. IsSoundImage (part_of words granules arena) × IsMigrated (part_of words granules arena) new) 0 news
  pub is : bytes ≡ flat_map bytes_of_words news

-- All arenas of a pool of version 1 are sound, and the bytes are those of one migration of each, in order.
pub record IsPoolMigrated (words : List ℕ) (header : PoolHeader) (bytes : List ℕ) : Type 0 where
  pub version : header.version ≡ 1
  pub arenas : HasMigrations words header.granules header.arenas bytes

-- Why a pool is not migrated: it is of a later version; else the lowest arena that is not sound, by its first defect.
abbrev pub IsWhyNot : List ℕ → PoolHeader → PoolMigrateFault → Type 0
IsWhyNot words header (faults.Memory error) = Unit {0}
IsWhyNot words header (faults.Newer version) = (2 ≤ version) × (header.version ≡ version)
IsWhyNot words header (faults.Defect arena defect) = (header.version ≡ 1) × HasUnsoundFrom words header 0 arena defect

-- the fault of an arena's migration, as one of its pool
abbrev pub pool_fault : ℕ → MigrateFault → PoolMigrateFault
pool_fault arena (arenas.Memory error) = faults.Memory error
pool_fault arena (arenas.Newer version) = faults.Newer version
pool_fault arena (arenas.Defect defect) = faults.Defect arena defect

-- why an arena of these words is not migrated, of the pool in which it has this number
abbrev pub IsOwnWhyNot : List ℕ → ℕ → PoolMigrateFault → Type 0
IsOwnWhyNot words arena (faults.Memory error) = Unit {0}
IsOwnWhyNot words arena (faults.Newer version) = (2 ≤ version) × HasVersion words version
IsOwnWhyNot words arena (faults.Defect found defect) = IsOwnDefect words arena found defect

-- the bytes of an arena's migration are added behind others
pub record AddsMigration (words : List ℕ) (old new : List ℕ) : Type 0 where
  pub raised : List ℕ
  pub sound : IsSoundImage words
  pub migrated : IsMigrated words raised
  pub is : new ≡ old ++ bytes_of_words raised
