use Rattle.std.proofs.Common.{◌<◌, arith}
use Rattle.pmem_lines.specs.Pmem.{words_of}
use Rattle.image_tables.specs.Tables.{wal_lines}
use Rattle.image_tables.proofs.Stores.{few_lines}
use Rattle.durable_steps.proofs.Steps.{word_step}
use Rattle.attach_wal.proofs.Steps.{Opens-stored, OpensOrNot-word}
use Rattle.attach_wal.proofs.wal.write_entry.Given as given
use Rattle.attach_wal.proofs.wal.write_entry.Goals as goal

below : (g : given.Over) (c : goal.After-write_word g) → c.args.line < wal_lines
below g c = omega (arith, few_lines, c.requires.line)

pub returns-clause-step : goal.returns-clause-step
returns-clause-step g c =
    word_step c.wal_at.result c.entry_word.result c.wal_at.ensures c.entry_word.ensures.word
    (λ image left. OpensOrNot-word (words_of (g.P.Pmem.state c.args.device.now)) image c.args.line c.args.entry (below g c) c.requires.inside c.requires.entry left)
    c.write_word.ensures

pub returns-clause-opens : goal.returns-clause-opens
returns-clause-opens g c =
    let words = words_of (g.P.Pmem.state c.args.device.now) in
    Opens-stored words (words_of (g.P.Pmem.state c.write_word.new.device)) c.args.line c.args.entry (below g c) c.requires.inside c.requires.entry (returns-clause-step g c).appends.words
