use Rattle.std.proofs.Common.{◌≡◌, ◌≤◌, ◌-◌, length, drop, reverse}
use Rattle.thread_cache.proofs.stack.Stack.fill.Given as goal

abbrev pub invariant-loop-i : goal.invariant-loop-i
invariant-loop-i l = record {
  from_the_end : l.self-inside.blocks.items ≡ reverse (drop (length l.addresses.items - l.i) l.addresses.items);
  count : length l.self-inside.blocks.items ≤ l.i;
}
