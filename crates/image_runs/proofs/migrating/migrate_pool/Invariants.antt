use Rattle.std.proofs.Common.{◌≡◌, length}
use Rattle.image_runs.specs.Migrations.{HasMigrations}
use Rattle.image_runs.proofs.migrating.migrate_pool.Given as goal

abbrev pub invariant-loop-arena : goal.invariant-loop-arena
invariant-loop-arena l = record {
  done : HasMigrations l.words l.header.granules l.arena l.bytes.items;
  piece : length l.piece.items ≡ 4096;
}
