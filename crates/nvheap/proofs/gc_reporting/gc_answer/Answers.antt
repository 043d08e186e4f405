use Rattle.trace_text.specs.Grammar.{IsRefusedStillLine}
use Rattle.nvheap.proofs.Common.{each_of, pool_of}
use Rattle.nvheap.specs.GcReporting.{gc_reporting}
use Rattle.nvheap.proofs.Answering.{refused_line}
use Rattle.nvheap.proofs.gc_reporting.gc_answer.Goals as goal

pub returns-in-Err-clause-answer : goal.returns-in-Err-clause-answer
returns-in-Err-clause-answer g c = refused_line gc_reporting c.args.input.now (g.H.Shelf.places c.args.shelf.now) (IsRefusedStillLine c.args.input.now) c.in-Err.answer (λ line is. is) c.in-Err.ensures.refused

pub returns-clause-answer : goal.returns-clause-answer
returns-clause-answer g c =
    let items = c.in_ok-text.field-0.devices.items in
    record {
      trace = record { pool = pool_of c.in-Ok.trace; calls = c.in-Ok.trace.calls.items; trace = c.in-Ok.ensures.trace };
      devices = each_of items (λ d. g.H.Device.Pmem.state d);
      reported = c.in_ok-text.ensures.reported;
      put = cc (c.put_all.ensures.places, c.run_arenas.ensures.places, c.in_ok-text.devices-is);
    }
