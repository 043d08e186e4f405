use Rattle.std.proofs.Common.{rules, ◌≡◌, ◌<◌, ◌++◌, [], ◌∷◌, ◌∙◌, ap, length, arith}
use Rattle.serve_runs.proofs.Common.{each_of}
use Rattle.trace_text.specs.Report.{arena_text}
use Rattle.trace_runs.proofs.Tellings.{head_back, texts_more, devices_more}
use Rattle.serve_runs.proofs.telling.tell_all.Goals as goal

pub loop-alloc-preserved : goal.loop-alloc-preserved
loop-alloc-preserved g c =
    let some : 0 < length c.loop-alloc.closed.items = search rules in
    let one = c.remove-one.result in
    let whole : c.loop-alloc.closed.items ≡ one ∷ c.remove-one.new.self.items =
    head_back c.loop-alloc.closed.items c.remove-one.new.self.items one some c.remove-one.ensures.value c.remove-one.ensures.items in
    let pushed : c.push.new.self.items ≡ c.loop-alloc.devices.items ++ c.in_ok-device.device ∷ [] = search rules in
    record {
      text = texts_more arena_text c.loop-alloc.number c.loop-alloc.text.items c.tell_one.new.text.items (each_of c.loop-alloc.closed.items (λ e. (e.journal.items, e.arena))) (each_of c.remove-one.new.self.items (λ e. (e.journal.items, e.arena)))
          (one.journal.items, one.arena) (ap (λ l. each_of l (λ e. (e.journal.items, e.arena))) whole) c.in_ok-device.ensures.text ∙ c.loop-alloc.invariant.text;
      devices = devices_more (λ d. g.P.Pmem.state d) (λ e. (e.journal.items, e.arena)) c.loop-alloc.devices.items c.push.new.self.items c.in_ok-device.device c.loop-alloc.closed.items c.remove-one.new.self.items one
          whole pushed c.in_ok-device.ensures.device ∙ c.loop-alloc.invariant.devices;
      few = let many = ap length whole in omega (arith, many, c.loop-alloc.invariant.few);
    }
