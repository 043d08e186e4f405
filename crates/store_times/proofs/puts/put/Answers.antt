use Rattle.store_times.proofs.Rest.{idle_tidied, none_tidied}
use Rattle.store_times.proofs.puts.put.Goals as goal

pub publish-requires : goal.publish-requires
publish-requires c =
    let staged = c.in_ok-stage.ensures.staged in
    let filled = c.fill.ensures.filled c.args.key staged.asked.keeps.phase_is in
    record { key = c.args.key; value = c.args.value.now; is = filled.keeps.phase_is }

pub returns-clause-idle : goal.returns-clause-idle
returns-clause-idle c =
    let staged = c.in_ok-stage.ensures.staged in
    let filled = c.fill.ensures.filled c.args.key staged.asked.keeps.phase_is in
    let published = c.publish.ensures.published c.args.key c.args.value.now filled.keeps.phase_is in
    idle_tidied c.publish.new.self c.tidy.new.self c.tidy.result published.phase c.tidy.ensures.tidied

pub returns-clause-tidy : goal.returns-clause-tidy
returns-clause-tidy c =
    let staged = c.in_ok-stage.ensures.staged in
    let filled = c.fill.ensures.filled c.args.key staged.asked.keeps.phase_is in
    let published = c.publish.ensures.published c.args.key c.args.value.now filled.keeps.phase_is in
    none_tidied c.publish.new.self c.tidy.new.self c.tidy.result published.phase published.one_stale c.tidy.ensures.tidied
