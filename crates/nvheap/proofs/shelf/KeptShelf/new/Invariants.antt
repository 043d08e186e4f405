use Rattle.std.proofs.Common.{◌≡◌, None, replicate, vec_len}
use Rattle.nvheap.proofs.shelf.KeptShelf.new.Given as goal

abbrev pub invariant-loop-place : goal.invariant-loop-place
invariant-loop-place l = record { items : l.devices.items ≡ replicate l.place None; len : vec_len l.devices ≡ l.place }
