use Rattle.std.proofs.Common.{◌<◌, refl, arith}
use Rattle.pmem_lines.specs.Pmem.{words_of}
use Rattle.image_tables.specs.Tables.{wal_lines}
use Rattle.image_tables.proofs.Stores.{few_lines}
use Rattle.durable_steps.proofs.Steps.{word_step}
use Rattle.attach_wal.proofs.Steps.{Closes-stored, ClosesOrNot-word}
use Rattle.attach_wal.proofs.wal.close_entry.Given as given
use Rattle.attach_wal.proofs.wal.close_entry.Goals as goal

below : (g : given.Over) (c : goal.After-write_word g) → c.args.line < wal_lines
below g c = omega (arith, few_lines, c.requires.line)

pub returns-clause-step : goal.returns-clause-step
returns-clause-step g c =
    word_step c.wal_at.result 0 c.wal_at.ensures refl
    (λ image left. ClosesOrNot-word (words_of (g.P.Pmem.state c.args.device.now)) image c.args.line (below g c) c.requires.inside left)
    c.write_word.ensures

pub returns-clause-closes : goal.returns-clause-closes
returns-clause-closes g c =
    let words = words_of (g.P.Pmem.state c.args.device.now) in
    Closes-stored words (words_of (g.P.Pmem.state c.write_word.new.device)) c.args.line (below g c) c.requires.inside (returns-clause-step g c).appends.words
