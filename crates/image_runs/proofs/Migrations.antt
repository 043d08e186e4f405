-- The migrations of the arenas that were looked at, one after another.
use Rattle.std.proofs.Common.{◌≡◌, ℕ, ◌+◌, ◌<◌, ◌^◌, ◌%◌, List, [], ◌∷◌, ◌++◌, length, flat_map, refl, sym, ap, subst, ◌∙◌, arith, length-append}
use Rattle.std.proofs.lemmas.Grind.{flat_map-append}
use Rattle.std.proofs.lemmas.List.{append-nil}
use Rattle.pool_layout.specs.declared.header.PoolHeader.{PoolHeader}
use Rattle.pool_layout.specs.Bytes.{bytes_of_words}
use Rattle.pool_layout.specs.Image.{part_of, header_of_arena, IsPoolImage}
use Rattle.heap_check.specs.Image.{IsSoundImage}
use Rattle.heap_check.proofs.Sizes.{sizes_of}
use Rattle.image_defects.specs.Defects.{IsFirstDefect}
use Rattle.trace_runs.proofs.Each.{EachFrom-more, EachFrom-at}
use Rattle.pool_migrate.specs.declared.fault.MigrateFault.{MigrateFault}
use Rattle.pool_migrate.specs.declared.fault.MigrateFault.TheVariants as arenas
use Rattle.pool_migrate.specs.Faults.{IsCause}
use Rattle.pool_migrate.specs.Migrated.{IsMigrated}
use Rattle.pool_migrate.proofs.Made.{version_is}
use Rattle.image_runs.specs.declared.migrating.PoolMigrateFault.{PoolMigrateFault}
use Rattle.image_runs.specs.declared.migrating.PoolMigrateFault.TheVariants as faults
use Rattle.image_runs.specs.Migrations.{HasMigrations, AddsMigration, IsWhyNot, IsOwnWhyNot, pool_fault}

-- no arena yet
pub no_migrations : (words : List ℕ) (granules : ℕ) → HasMigrations words granules 0 []
no_migrations words granules = record { news = []; all = refl; each = tt; is = refl }

module _ (words : List ℕ) (granules : ℕ) where
  -- an arena is sound, and these are the words of its migration
  abbrev Migrates : ℕ → List ℕ → Type 0
  Migrates arena new = IsSoundImage (part_of words granules arena) × IsMigrated (part_of words granules arena) new

  pub sound_before : {count : ℕ} {bytes : List ℕ} → HasMigrations words granules count bytes → (earlier : ℕ) → earlier < count → IsSoundImage (part_of words granules earlier)
  sound_before has earlier below = subst (λ a. IsSoundImage (part_of words granules a)) (omega arith) (EachFrom-at Migrates 0 has.news earlier has.each (omega (arith, below, has.all))).1.0

  -- one arena more
  pub migrations_more : {count : ℕ} {bytes new : List ℕ} → HasMigrations words granules count bytes → AddsMigration (part_of words granules count) bytes new → HasMigrations words granules (count + 1) new
  migrations_more {count} {bytes} {new} has adds =
      let last = adds.raised in
      record {
        news = has.news ++ last ∷ [];
        all = length-append has.news (last ∷ []) ∙ omega (arith, has.all);
        each = EachFrom-more Migrates 0 has.news last has.each (subst (λ n. Migrates n last) (omega (arith, has.all)) (adds.sound, adds.migrated));
        is = adds.is
            ∙ ap (λ (bs : List ℕ). bs ++ bytes_of_words last) has.is
            ∙ ap (λ (bs : List ℕ). flat_map bytes_of_words has.news ++ bs) (sym (append-nil (bytes_of_words last)))
            ∙ sym (flat_map-append bytes_of_words has.news (last ∷ []));
      }

-- the fault of an arena's migration is its own
pub own_fault : (words : List ℕ) (arena : ℕ) (fault : MigrateFault) → IsCause words fault → IsOwnWhyNot words arena (pool_fault arena fault)
own_fault words arena (arenas.Memory error) is = tt
own_fault words arena (arenas.Newer version) is = is
own_fault words arena (arenas.Defect defect) is = record { same = refl; first = is }

-- and that of its pool, where the arenas before are sound
pub pool_why : (words : List ℕ) (header : PoolHeader) (arena : ℕ) (fault : PoolMigrateFault) → IsPoolImage words header → header.version ≡ 1 → arena < header.arenas → ((earlier : ℕ) → earlier < arena → IsSoundImage (part_of words header.granules earlier)) →
    IsOwnWhyNot (part_of words header.granules arena) arena fault → IsWhyNot words header fault
pool_why words header arena (faults.Memory error) pool version inside before is = tt
pool_why words header arena (faults.Newer number) pool version inside before is =
    absurd (omega (arith, version, is.0, version_is (part_of words header.granules arena) (header_of_arena header arena) number (pool.each arena inside) is.1))
pool_why words header arena (faults.Defect found defect) pool version inside before is = (
  version,
  record {
    low = omega arith;
    inside = omega (arith, is.same, inside);
    before = λ earlier from below. before earlier (omega (arith, below, is.same));
    first = subst (λ a. IsFirstDefect (part_of words header.granules a) defect) (sym is.same) is.first;
  },
)

-- new words are whole pieces, and few
pub record AreFewPieces (words : List ℕ) : Type 0 where
  pub whole : length words % 512 ≡ 0
  pub few : length words < 2 ^ 29

pub few_pieces : (words new : List ℕ) → IsMigrated words new → AreFewPieces new
few_pieces words new migrated =
    let sizes = sizes_of new migrated.exact.formed in
    record { whole = omega (arith, sizes.size); few = omega (arith, sizes.size, sizes.most) }
