use Rattle.std.proofs.Common.{◌∙◌}
use Rattle.nvheap.proofs.Common.{length-map, each_of, pool_of, IsRefusedLine}
use Rattle.nvheap.specs.Imaging.{imaging}
use Rattle.nvheap.proofs.Answering.{refused_line}
use Rattle.nvheap.proofs.imaging.image_answer.Goals as goal

pub returns-in-Err-clause-answer : goal.returns-in-Err-clause-answer
returns-in-Err-clause-answer g c = refused_line imaging c.args.input.now (g.H.Shelf.places c.args.shelf.now) (IsRefusedLine c.args.input.now) c.in-Err.answer (λ line is. is) c.in-Err.ensures.refused

pub returns-clause-answer : goal.returns-clause-answer
returns-clause-answer g c =
    let items = c.in_ok-bytes.field-0.devices.items in
    record {
      trace = record { pool = pool_of c.in-Ok.trace; calls = c.in-Ok.trace.calls.items; trace = c.in-Ok.ensures.trace };
      devices = each_of items (λ d. g.H.Device.Pmem.state d);
      all = length-map items (λ d. g.H.Device.Pmem.state d) ∙ c.in_ok-bytes.ensures.all;
      runs = c.in_ok-bytes.ensures.runs;
      is = c.in_ok-bytes.ensures.bytes;
      put = cc (c.put_all.ensures.places, c.run_arenas.ensures.places, c.in_ok-bytes.devices-is);
    }
