use Rattle.pmem_lines.specs.Pmem.{words_of}
use Rattle.attach_dict.proofs.Readings.{read_as}
use Rattle.attach_dict.proofs.reading.pair_at.Goals as goal

pub returns-in-Ok-clause-reading : goal.returns-in-Ok-clause-reading
returns-in-Ok-clause-reading g c = read_as (words_of c.args.arena.now.device) c.args.root c.in-Ok.words.now c.read_pair.result c.in-Ok.ensures.view c.read_pair.ensures
