use Rattle.std.proofs.Common.{◌∙◌, ap, length, arith}
use Rattle.pmem_lines.specs.Pmem.{words_of}
use Rattle.trace_text.specs.Grammar.{pool_of}
use Rattle.trace_runs.specs.Arenas.{header_for}
use Rattle.trace_runs.specs.Calls.{calls_of}
use Rattle.nvheap.proofs.Images.{all_words}
use Rattle.nvheap.proofs.Devices.{few_words}
use Rattle.nvpool.proofs.Cuts.{run_added}
use Rattle.nvpool.proofs.cutting.add_run.Goals as goal

pub returns-clause-run : goal.returns-clause-run
returns-clause-run c =
    let device = c.in_ok-device-2.device in
    run_added c.add_bytes.result (header_for (pool_of c.args.trace.now) c.args.arena) (calls_of c.args.arena c.args.trace.now.calls.items) device c.words.result.now c.args.bytes.now.items c.add_bytes.new.bytes.items
    c.in_ok-device-2.ensures (c.words.ensures ∙ all_words (words_of device) c.size_words.result c.size_words.ensures.size) c.add_bytes.ensures.bytes

pub add_bytes-requires-clause-whole : goal.add_bytes-requires-clause-whole
add_bytes-requires-clause-whole c =
    let words = words_of c.in_ok-device-2.device in
    let lent = ap length (c.words.ensures ∙ all_words words c.size_words.result c.size_words.ensures.size) in
    let size = c.in_ok-device-2.ensures.run.exact.formed.size in
    omega (arith, lent, size)

pub add_bytes-requires-clause-few : goal.add_bytes-requires-clause-few
add_bytes-requires-clause-few c =
    let words = words_of c.in_ok-device-2.device in
    let lent = ap length (c.words.ensures ∙ all_words words c.size_words.result c.size_words.ensures.size) in
    let exact = c.in_ok-device-2.ensures.run.exact in
    let few = (few_words words (record { formed = exact.formed; sound = exact.exact.sound })).0 in
    omega (arith, lent, few)
