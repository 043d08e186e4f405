use Rattle.std.proofs.Common.{◌∙◌, ◌+◌, ◌∷◌, [], sym, subst, map}
use mathlib.Core.List.{map-append}
use Rattle.gc_runs.specs.Told.{IsToldBelow}
use Rattle.gc_runs.proofs.Reported.{told_more}
use Rattle.nvheap.proofs.Common.{pool_of}
use Rattle.nvheap.proofs.gc_reporting.run_arenas.Goals as goal

pub loop-arena-preserved : goal.loop-arena-preserved
loop-arena-preserved g c =
    let state = g.H.Device.Pmem.state in
    let pool = pool_of c.args.trace.now in
    let calls = c.args.trace.now.calls.items in
    let devices = c.loop-arena.devices.items in
    let last = c.in_ok-run_gc_calls.field-0 in
    let more = told_more pool calls c.loop-arena.arena c.loop-arena.text.items c.run_gc_calls.new.text.items (map state devices) (state last) c.loop-arena.invariant.told c.in_ok-run_gc_calls.ensures in
    record {
      told = subst (λ ds. IsToldBelow pool calls (c.loop-arena.arena + 1) c.run_gc_calls.new.text.items (map state ds)) (sym c.in_ok-push.ensures.items)
          (subst (IsToldBelow pool calls (c.loop-arena.arena + 1) c.run_gc_calls.new.text.items) (sym (map-append state devices (last ∷ []))) more);
      places = c.in_ok-device.ensures.places ∙ c.loop-arena.invariant.places;
      images = c.in_ok-device.ensures.images ∙ c.loop-arena.invariant.images;
    }
