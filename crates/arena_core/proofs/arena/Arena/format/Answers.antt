use Rattle.arena_core.proofs.Formats.{IsPoolHeader-first}
use Rattle.arena_core.proofs.arena.Arena.format.Goals as goal

pub format_as-requires-clause-header : goal.format_as-requires-clause-header
format_as-requires-clause-header g c = IsPoolHeader-first c.args.number c.args.arenas c.args.room c.requires.number c.requires.few c.granules.ensures.least c.requires.most
