use Rattle.std.proofs.Common.{◌≡◌, ◌*◌, ◌^◌, ◌≤◌, take}
use Rattle.trace_gen.specs.Works.{bytes_of}
use Rattle.trace_gen.proofs.summary.bytes_of.Given as goal

abbrev pub invariant-loop-block : goal.invariant-loop-block
invariant-loop-block l = record {
  bytes : l.bytes ≡ bytes_of (take l.block-index l.blocks);
  few : l.bytes ≤ l.block-index * 2 ^ 32;
}
