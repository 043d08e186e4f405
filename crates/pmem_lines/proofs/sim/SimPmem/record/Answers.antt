use Rattle.std.proofs.Common.{arith, refl, subst, [], ◌∷◌}
use Rattle.pmem_lines.specs.Sim.{AreInside}
use Rattle.pmem_lines.proofs.Sims.{length_base, length_events, room_is, still_truthful, still_inside, appends, more}
use Rattle.pmem_lines.proofs.sim.SimPmem.record.Goals as goal

pub invariant_of-self : goal.invariant_of-self
invariant_of-self c =
    let s = c.self.inside in
    let t = record s { cells = c.put-old.new.cells; recorded = c.push_reserved.new.self } in
    let size = length_base s c.args.self.now c.self.view_is c.self.invariant in
    let put = c.put-old.ensures in
    record {
      truthful = still_truthful s t c.args.self.now c.args.event c.put-old.result put.before put.after c.push_reserved.ensures.items c.self.invariant;
      inside = still_inside s t c.args.self.now c.args.event c.put-old.result put.before put.after c.push_reserved.ensures.items c.self.invariant put.size (subst (λ n. AreInside n (c.args.event ∷ [])) size c.requires.inside);
      few = omega (arith, more s t c.args.self.now c.args.event c.put-old.result put.before put.after c.push_reserved.ensures.items, length_events s c.args.self.now c.self.view_is c.self.invariant, room_is s c.args.self.now c.self.view_is c.self.invariant);
      reserved = omega (arith, c.push_reserved.ensures.capacity);
      lines = rw put.size c.self.invariant.lines;
      some = omega (arith, put.size);
      short = c.self.invariant.short;
      bounded = omega (arith, put.size);
      counted = omega arith;
    }

pub returns : goal.returns
returns c =
    let s = c.self.inside in
    let t = record s { cells = c.put-old.new.cells; recorded = c.push_reserved.new.self } in
    let put = c.put-old.ensures in
    appends s t c.args.self.now c.args.event c.put-old.result put.before put.after c.push_reserved.ensures.items c.self.invariant c.self.view_is refl refl put.size refl
