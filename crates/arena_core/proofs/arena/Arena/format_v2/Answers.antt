use Rattle.arena_core.proofs.Formats.{IsPoolHeader-second}
use Rattle.arena_core.proofs.arena.Arena.format_v2.Goals as goal

pub format_as-requires-clause-header : goal.format_as-requires-clause-header
format_as-requires-clause-header g c = IsPoolHeader-second c.args.number c.args.arenas c.args.room c.requires.number c.requires.few c.requires.least c.requires.most c.requires.together
