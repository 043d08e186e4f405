use Rattle.std.proofs.Common.{◌≡◌, ◌∙◌, ◌++◌, ⊎_elim, List, ℕ, length, drop, ap, arith, subst, sym, length-append}
use Rattle.std.proofs.lemmas.List.{length-take-le}
use Rattle.pool_layout.specs.declared.header.PoolHeader.{PoolHeader}
use Rattle.pool_layout.proofs.Layouts.{layout_rules}
use Rattle.image_runs.specs.Migrations.{IsOwnWhyNot, AddsMigration}
use Rattle.image_runs.proofs.Migrations.{migrations_more, sound_before, pool_why}
use Rattle.image_runs.proofs.migrating.migrate_pool.Goals as goal

pub room_for-requires-clause-granules : goal.room_for-requires-clause-granules
room_for-requires-clause-granules c = omega (arith, c.requires.first.valid.greatest, (layout_rules c.args.header.now.version).most)

pub returns-in-Err-clause-refused : goal.returns-in-Err-clause-refused
returns-in-Err-clause-refused c =
    let words = c.args.words.now in
    let header = c.args.header.now in
    let arena = c.loop-arena.arena in
    pool_why words header arena c.in-Err.fault c.requires (omega (arith, c.if-header-ne1.false)) c.loop-arena-test.true (sound_before words header.granules c.loop-arena.invariant.done)
    (subst (λ (ws : List ℕ). IsOwnWhyNot ws arena c.in-Err.fault) c.parts-own.ensures c.in-Err.ensures.refused)

pub loop-arena-preserved : goal.loop-arena-preserved
loop-arena-preserved c =
    let header = c.args.header.now in
    let used = c.add_migration.new.piece in
    let kept = c.in-Ok.ensures.piece in
    let full : c.loop-arena.piece.len ≡ 4096 = sym c.deref_mut.ensures.len ∙ ap length c.deref_mut.ensures.value ∙ c.loop-arena.invariant.piece in
    record {
      done = migrations_more c.args.words.now header.granules c.loop-arena.invariant.done
          (subst (λ (ws : List ℕ). AddsMigration ws c.loop-arena.bytes.items c.add_migration.new.bytes.items) c.parts-own.ensures c.in-Ok.ensures.added);
      piece = length-take-le c.loop-arena.piece.len (used ++ drop (length used) c.loop-arena.piece.items) (omega (arith, length-append used (drop (length used) c.loop-arena.piece.items), kept, full)) ∙ full;
    }
