use Rattle.std.proofs.Common.{◌-◌, arith}
use Rattle.size_classes.proofs.Least.{low_class, top_within, class_above}
use Rattle.size_classes.proofs.class.class_of.Goals as goal

pub returns-then-size-le128-clause-class : goal.returns-then-size-le128-clause-class
returns-then-size-le128-clause-class c = low_class c.args.size (omega arith) (omega arith)

pub overflow_sub-result-2 : goal.overflow_sub-result-2
overflow_sub-result-2 c =
    let top = c.ilog2-top in
    let within = top_within (c.args.size - 1) top.result (omega arith) (omega arith) top.ensures.power_le top.ensures.next_power_gt in
    omega arith

pub overflow_sub-result-3 : goal.overflow_sub-result-3
overflow_sub-result-3 c =
    let top = c.ilog2-top in
    let within = top_within (c.args.size - 1) top.result (omega arith) (omega arith) top.ensures.power_le top.ensures.next_power_gt in
    omega arith

pub overflow_cast-result-4 : goal.overflow_cast-result-4
overflow_cast-result-4 c =
    let top = c.ilog2-top in
    let found = class_above c.args.size top.result (omega arith) (omega arith) top.ensures.power_le top.ensures.next_power_gt in
    omega (arith, found.0)

pub returns-clause-class : goal.returns-clause-class
returns-clause-class c =
    let top = c.ilog2-top in
    (class_above c.args.size top.result (omega arith) (omega arith) top.ensures.power_le top.ensures.next_power_gt).1
