use Rattle.std.proofs.Common.{◌≡◌, ◌<◌, ◌≤◌, ℕ, refl, sym, subst, ◌∙◌, arith}
use Rattle.heap_model.specs.Machine.{no_heap}
use Rattle.heap_indexes.specs.Indexes.{AreIndexesOf}
use Rattle.arena_core.proofs.Formats.{IsPoolHeader-first}
use Rattle.arena_core.proofs.Readiness.{first_room, first_most}
use Rattle.pool_layout.specs.declared.header.PoolVariant.TheVariants.{Gc}
use Rattle.pool_layout.specs.Header.{IsGcPoolHeader}
use Rattle.gc_heap.specs.Arena.{gc_bounds}
use Rattle.arena_core.proofs.HeaderLines.{IsWritten, formatted_ready, formatted_log}
use Rattle.gc_heap.proofs.Formats.{formatted_exact, formatted_empty, formatted_steady, formatted_inside, formatted_arena}
use Rattle.gc_heap.proofs.arena.GcArena.format.Given as given
use Rattle.gc_heap.proofs.arena.GcArena.format.Goals as goal

-- an arena of this variant may have the header
header : (number arenas granules : ℕ) → number < arenas → arenas ≤ 16 → 16 ≤ granules → granules ≤ 1024 → IsGcPoolHeader (record { version = 1; number = number; arenas = arenas; granules = granules })
header number arenas granules below few least most = record { valid = IsPoolHeader-first number arenas granules below few least (omega (arith, most, first_most)); first = refl }

-- the header line was written
made : (g : given.Over) (c : goal.After-device-3-1 g) → IsWritten Gc (g.P.Pmem.state c.args.p) (g.P.Pmem.state c.begin.new.self) (g.P.Pmem.state c.write_header.new.device) (record { version = 1; number = c.args.number; arenas = c.args.arenas; granules = c.granules-granules.result })
made g c =
    let is = c.granules-granules.ensures.is in
    record {
      begun_is = c.begin.ensures.state;
      step = c.write_header.ensures.appends;
      zeros = c.requires.zero;
      size = omega (arith, c.requires.size, is);
      valid = header c.args.number c.args.arenas c.granules-granules.result c.requires.number c.requires.few (omega (arith, is, c.granules-granules.ensures.least)) (omega (arith, is, c.granules-granules.ensures.most));
      room = c.requires.room;
    }

pub write_header-requires-clause-header : goal.write_header-requires-clause-header
write_header-requires-clause-header g c =
    let is = c.granules-granules.ensures.is in
    (header c.args.number c.args.arenas c.granules-granules.result c.requires.number c.requires.few (omega (arith, is, c.granules-granules.ensures.least)) (omega (arith, is, c.granules-granules.ensures.most))).valid

pub write_header-requires-clause-room : goal.write_header-requires-clause-room
write_header-requires-clause-room g c = rw c.begin.ensures.state (omega (arith, c.requires.room, first_room))

pub load-requires-clause-log : goal.load-requires-clause-log
load-requires-clause-log g c = formatted_log (made g c) c.space.inside.log.granules (c.space.view_is ∙ sym c.granules-granules.ensures.is)

pub load-requires-clause-inside : goal.load-requires-clause-inside
load-requires-clause-inside g c = formatted_inside (made g c)

pub invariant_of-result : goal.invariant_of-result
invariant_of-result g c =
    let size : c.space.inside.log.granules ≡ c.granules-granules.result = c.space.view_is ∙ sym c.granules-granules.ensures.is in
    formatted_arena (made g c.before) c.load.new.self c.space.inside.indexes c.load.ensures.reads (c.load.ensures.granules ∙ size)
    (subst (λ n. AreIndexesOf (gc_bounds n) no_heap c.space.inside.indexes) size c.space.invariant.are) c.space.invariant.stacks

pub returns-clause-ready : goal.returns-clause-ready
returns-clause-ready g c = formatted_ready (made g c.before)

pub returns-clause-exact : goal.returns-clause-exact
returns-clause-exact g c = formatted_exact (made g c.before)

pub returns-clause-empty : goal.returns-clause-empty
returns-clause-empty g c = formatted_empty (made g c.before)

pub returns-clause-crash : goal.returns-clause-crash
returns-clause-crash g c = formatted_steady (made g c.before)
