use Rattle.std.proofs.Common.{rules, List, sym, ◌≡◌, ◌<◌, ◌++◌, [], ◌∷◌, ◌∙◌, ap, length, arith, remove}
use Rattle.trace_workers.proofs.Common.{Entry, each_of}
use Rattle.trace_workers.specs.Summaries.{telling_of, lengths_of}
use Rattle.trace_runs.proofs.Tellings.{head_back, texts_more, devices_more}
use Rattle.trace_workers.proofs.telling.tell_all.Goals as goal

pub take_length-count-requires : goal.take_length-count-requires
take_length-count-requires g c summed =
    let some : 0 < length c.loop-alloc.closed.items = search rules in
    let one = c.remove-one.result in
    let rest = lengths_of (each_of c.remove-one.new.self.items (λ e. (e.journal.items, e.arena))) in
    let whole = head_back c.loop-alloc.closed.items c.remove-one.new.self.items one some c.remove-one.ensures.value c.remove-one.ensures.items in
    (rest, c.loop-alloc.invariant.lengths summed ∙ (ap (λ l. lengths_of (each_of l (λ e. (e.journal.items, e.arena)))) whole ∙ ap (λ (journal : List Entry). length journal ∷ rest) (sym c.deref.ensures.value)))

pub loop-alloc-preserved : goal.loop-alloc-preserved
loop-alloc-preserved g c =
    let some : 0 < length c.loop-alloc.closed.items = search rules in
    let one = c.remove-one.result in
    let whole : c.loop-alloc.closed.items ≡ one ∷ c.remove-one.new.self.items =
    head_back c.loop-alloc.closed.items c.remove-one.new.self.items one some c.remove-one.ensures.value c.remove-one.ensures.items in
    let pushed : c.push.new.self.items ≡ c.loop-alloc.devices.items ++ c.in_ok-device.device ∷ [] = search rules in
    record {
      text = texts_more (telling_of c.args.account) c.loop-alloc.number c.loop-alloc.text.items c.tell_one.new.text.items (each_of c.loop-alloc.closed.items (λ e. (e.journal.items, e.arena))) (each_of c.remove-one.new.self.items (λ e. (e.journal.items, e.arena)))
          (one.journal.items, one.arena) (ap (λ l. each_of l (λ e. (e.journal.items, e.arena))) whole) c.in_ok-device.ensures.text ∙ c.loop-alloc.invariant.text;
      devices = devices_more (λ d. g.P.Pmem.state d) (λ e. (e.journal.items, e.arena)) c.loop-alloc.devices.items c.push.new.self.items c.in_ok-device.device c.loop-alloc.closed.items c.remove-one.new.self.items one
          whole pushed c.in_ok-device.ensures.device ∙ c.loop-alloc.invariant.devices;
      lengths = λ summed. c.take_length-count.ensures.taken summed ∙ ap (λ ns. remove ns 0) (c.loop-alloc.invariant.lengths summed ∙ ap (λ l. lengths_of (each_of l (λ e. (e.journal.items, e.arena)))) whole);
      few = let many = ap length whole in omega (arith, many, c.loop-alloc.invariant.few);
    }
