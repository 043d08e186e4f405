use Rattle.std.proofs.Common.{◌≡◌, ◌<◌, length}
use Rattle.dict_index.specs.declared.key_map.Keyed.{Keyed}
use Rattle.dict_index.specs.KeyRoots.{IsKeyed}
use Rattle.layer_tests.proofs.keys.put_each.Given as goal

abbrev pub invariant-loop-i : goal.invariant-loop-i
invariant-loop-i l = record { roots : l.map.roots ≡ length l.keys; below : (r : Keyed) → IsKeyed l.map r → r.root < l.i }
