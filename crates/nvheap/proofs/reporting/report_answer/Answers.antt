use Rattle.std.proofs.Common.{◌∙◌, ap}
use Rattle.nvheap.proofs.Common.{each_of, pool_of, IsRefusedLine}
use Rattle.nvheap.specs.Outside.{put_devices}
use Rattle.nvheap.specs.Meaning.{Places}
use Rattle.nvheap.specs.Reporting.{reporting, seats_of}
use Rattle.nvheap.proofs.Answering.{refused_line}
use Rattle.nvheap.proofs.reporting.report_answer.Goals as goal

pub returns-in-Err-clause-answer : goal.returns-in-Err-clause-answer
returns-in-Err-clause-answer g c = refused_line (reporting (seats_of c.args.crew)) c.args.input.items (g.H.Shelf.places c.args.shelf.now) (IsRefusedLine c.args.input.items) c.in-Err.answer (λ line is. is) c.in-Err.ensures.refused

pub returns-clause-answer : goal.returns-clause-answer
returns-clause-answer g c =
    let devices = each_of c.in_ok-done.done.devices.items (λ d. g.H.Device.Pmem.state d) in
    record {
      trace = record { pool = pool_of c.in-Ok.trace; calls = c.in-Ok.trace.calls.items; trace = c.in-Ok.ensures.trace };
      devices = devices;
      reported = c.in_ok-done.ensures;
      put = c.put_all.ensures.places ∙ ap (λ (places : Places). put_devices places 0 devices) c.take_arenas.ensures.places;
    }
