use Rattle.std.proofs.Common.{◌≡◌, ◌*◌, ◌<◌}
use Rattle.dict_index.specs.declared.key_map.Keyed.{Keyed}
use Rattle.dict_index.specs.KeyRoots.{IsKeyed}
use Rattle.layer_tests.proofs.keys.push_the_most.Given as goal

abbrev pub invariant-loop-root : goal.invariant-loop-root
invariant-loop-root l = record {
  roots : l.map.roots ≡ 65535;
  below : (r : Keyed) → IsKeyed l.map r → r.root < l.root;
  low : (r : Keyed) → IsKeyed l.map r → r.key < l.root * 1000003;
}
