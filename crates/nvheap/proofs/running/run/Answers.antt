use Rattle.std.proofs.Common.{◌≡◌, None, IsTrue, map, subst}
use Rattle.std.specs.String.{string_bytes}
use Rattle.nvheap.specs.declared.command.Command.{Command}
use Rattle.nvheap.specs.declared.command.Command.TheVariants.{Replay, Serve, Gen}
use Rattle.program_io.specs.declared.status.Status.{Status}
use Rattle.program_io.specs.declared.status.Status.TheVariants.{Done, Usage, Refused, ReadFault, WriteFault, TooLong}
use Rattle.nvheap.specs.Outside.{Outside, told_by}
use Rattle.program_io.specs.Streams.{Rose}
use Rattle.nvheap.specs.Command.{meaning_of, IsCommand}
use Rattle.nvheap.specs.Ends.{Ends}
use Rattle.nvheap.proofs.Table.{said_holds}
use Rattle.nvheap.proofs.Completeness.{completes}
use Rattle.nvheap.proofs.running.run.Given as given
use Rattle.nvheap.proofs.running.run.Goals as goal

-- `replay`

replay_said : (g : given.Over) (c : goal.After-run_report g) → IsCommand (map string_bytes c.args.words.now) Replay
replay_said g c = subst (λ (command : Command). IsCommand (map string_bytes c.args.words.now) command) c.in-Replay.is c.in-Some.ensures

pub returns-in-Replay-clause-complete : goal.returns-in-Replay-clause-complete
returns-in-Replay-clause-complete g c =
    let told = told_by g.S.Source.left g.K.Sink.taken g.H.Shelf.places g.H.Shelf.images in
    let words = map string_bytes c.args.words.now in
    completes words Replay (told c.args.source.now c.args.sink.now c.args.shelf.now) (told c.run_report.new.source c.run_report.new.sink c.run_report.new.shelf) c.run_report.result
    (Rose (g.S.Source.faults c.args.source.now) (g.S.Source.faults c.run_report.new.source)) (Rose (g.K.Sink.faults c.args.sink.now) (g.K.Sink.faults c.run_report.new.sink))
    (replay_said g c) c.run_report.ensures.ends c.run_report.ensures.read_fault c.run_report.ensures.write_fault

pub returns-in-Replay-clause-idle : goal.returns-in-Replay-clause-idle
returns-in-Replay-clause-idle g c said = absurd (cc (said_holds (map string_bytes c.args.words.now) Replay (λ m. IsTrue m.idle) (replay_said g c) said))

pub returns-in-Replay-clause-unread : goal.returns-in-Replay-clause-unread
returns-in-Replay-clause-unread g c said = absurd (cc (said_holds (map string_bytes c.args.words.now) Replay (λ m. m.reads ≡ None) (replay_said g c) said))

-- `serve`

serve_said : (g : given.Over) (c : goal.After-run_report-in-Serve g) → IsCommand (map string_bytes c.args.words.now) Serve
serve_said g c = subst (λ (command : Command). IsCommand (map string_bytes c.args.words.now) command) c.in-Serve.is c.in-Some.ensures

pub returns-in-Serve-clause-complete : goal.returns-in-Serve-clause-complete
returns-in-Serve-clause-complete g c =
    let told = told_by g.S.Source.left g.K.Sink.taken g.H.Shelf.places g.H.Shelf.images in
    let words = map string_bytes c.args.words.now in
    completes words Serve (told c.args.source.now c.args.sink.now c.args.shelf.now) (told c.run_report-in-Serve.new.source c.run_report-in-Serve.new.sink c.run_report-in-Serve.new.shelf) c.run_report-in-Serve.result
    (Rose (g.S.Source.faults c.args.source.now) (g.S.Source.faults c.run_report-in-Serve.new.source)) (Rose (g.K.Sink.faults c.args.sink.now) (g.K.Sink.faults c.run_report-in-Serve.new.sink))
    (serve_said g c) c.run_report-in-Serve.ensures.ends c.run_report-in-Serve.ensures.read_fault c.run_report-in-Serve.ensures.write_fault

pub returns-in-Serve-clause-idle : goal.returns-in-Serve-clause-idle
returns-in-Serve-clause-idle g c said = absurd (cc (said_holds (map string_bytes c.args.words.now) Serve (λ m. IsTrue m.idle) (serve_said g c) said))

pub returns-in-Serve-clause-unread : goal.returns-in-Serve-clause-unread
returns-in-Serve-clause-unread g c said = absurd (cc (said_holds (map string_bytes c.args.words.now) Serve (λ m. m.reads ≡ None) (serve_said g c) said))

-- commands that do not wait

pub returns-in_default-command-clause-complete : goal.returns-in_default-command-clause-complete
returns-in_default-command-clause-complete g c =
    let told = told_by g.S.Source.left g.K.Sink.taken g.H.Shelf.places g.H.Shelf.images in
    let words = map string_bytes c.args.words.now in
    completes words c.in-Some.command (told c.args.source.now c.args.sink.now c.args.shelf.now) (told c.run_returning.new.source c.run_returning.new.sink c.run_returning.new.shelf) c.run_returning.result
    (Rose (g.S.Source.faults c.args.source.now) (g.S.Source.faults c.run_returning.new.source)) (Rose (g.K.Sink.faults c.args.sink.now) (g.K.Sink.faults c.run_returning.new.sink))
    c.in-Some.ensures c.run_returning.ensures.ends c.run_returning.ensures.read_fault c.run_returning.ensures.write_fault

pub returns-in_default-command-clause-idle : goal.returns-in_default-command-clause-idle
returns-in_default-command-clause-idle g c said =
    c.run_returning.ensures.idle (said_holds (map string_bytes c.args.words.now) c.in-Some.command (λ m. IsTrue m.idle) c.in-Some.ensures said)

pub returns-in_default-command-clause-unread : goal.returns-in_default-command-clause-unread
returns-in_default-command-clause-unread g c said =
    c.run_returning.ensures.unread (said_holds (map string_bytes c.args.words.now) c.in-Some.command (λ m. m.reads ≡ None) c.in-Some.ensures said)

-- generated work

abbrev gen : (g : given.Over) → goal.After-run_gen g → Command
gen g c = Gen c.in-Gen.count c.in-Gen.seed

-- what the outside tells before it and behind it; its source is left alone
abbrev before : (g : given.Over) → goal.After-run_gen g → Outside
before g c = told_by g.S.Source.left g.K.Sink.taken g.H.Shelf.places g.H.Shelf.images c.args.source.now c.args.sink.now c.args.shelf.now

abbrev behind : (g : given.Over) → goal.After-run_gen g → Outside
behind g c = told_by g.S.Source.left g.K.Sink.taken g.H.Shelf.places g.H.Shelf.images c.args.source.now c.run_gen.new.sink c.run_gen.new.shelf

gen_said : (g : given.Over) (c : goal.After-run_gen g) → IsCommand (map string_bytes c.args.words.now) (gen g c)
gen_said g c = subst (λ (command : Command). IsCommand (map string_bytes c.args.words.now) command) c.in-Gen.is c.in-Some.ensures

-- how it ends, by its status
gen_ends : (g : given.Over) (c : goal.After-run_gen g) (status : Status) → c.run_gen.result ≡ status → Ends (meaning_of (gen g c)) (before g c) (behind g c) status
gen_ends g c status is = subst (λ (s : Status). Ends (meaning_of (gen g c)) (before g c) (behind g c) s) is (c.run_gen.ensures.ends (g.S.Source.left c.args.source.now))

pub returns-in-Gen-clause-usage : goal.returns-in-Gen-clause-usage
returns-in-Gen-clause-usage g c = ((λ is. absurd (gen_ends g c Usage is)), (λ none. absurd (none (gen g c) (gen_said g c))))

pub returns-in-Gen-clause-untouched : goal.returns-in-Gen-clause-untouched
returns-in-Gen-clause-untouched g c is = absurd (gen_ends g c Usage is)

pub returns-in-Gen-clause-read_fault : goal.returns-in-Gen-clause-read_fault
returns-in-Gen-clause-read_fault g c is = absurd (gen_ends g c ReadFault is)

pub returns-in-Gen-clause-done : goal.returns-in-Gen-clause-done
returns-in-Gen-clause-done g c is = record { command = gen g c; said = gen_said g c; holds = gen_ends g c Done is }

pub returns-in-Gen-clause-refused : goal.returns-in-Gen-clause-refused
returns-in-Gen-clause-refused g c is = record { command = gen g c; said = gen_said g c; holds = gen_ends g c Refused is }

pub returns-in-Gen-clause-within_limit : goal.returns-in-Gen-clause-within_limit
returns-in-Gen-clause-within_limit g c is = record { command = gen g c; said = gen_said g c; holds = gen_ends g c ReadFault is }

pub returns-in-Gen-clause-cut_short : goal.returns-in-Gen-clause-cut_short
returns-in-Gen-clause-cut_short g c is = record { command = gen g c; said = gen_said g c; holds = gen_ends g c WriteFault is }

pub returns-in-Gen-clause-too_long : goal.returns-in-Gen-clause-too_long
returns-in-Gen-clause-too_long g c is = record { command = gen g c; said = gen_said g c; holds = gen_ends g c TooLong is }

pub returns-in-Gen-clause-complete : goal.returns-in-Gen-clause-complete
returns-in-Gen-clause-complete g c =
    completes (map string_bytes c.args.words.now) (gen g c) (before g c) (behind g c) c.run_gen.result
    (Rose (g.S.Source.faults c.args.source.now) (g.S.Source.faults c.args.source.now)) (Rose (g.K.Sink.faults c.args.sink.now) (g.K.Sink.faults c.run_gen.new.sink))
    (gen_said g c) (c.run_gen.ensures.ends (g.S.Source.left c.args.source.now)) (λ is. absurd (gen_ends g c ReadFault is)) c.run_gen.ensures.write_fault

pub returns-in-Gen-clause-idle : goal.returns-in-Gen-clause-idle
returns-in-Gen-clause-idle g c said = absurd (cc (said_holds (map string_bytes c.args.words.now) (gen g c) (λ m. IsTrue m.idle) (gen_said g c) said))
