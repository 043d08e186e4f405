use Rattle.image_raise.specs.Front.{HasRaisedRoots}
use Rattle.image_raise.proofs.raising.raise_roots.Given as goal

abbrev pub invariant-loop-root : goal.invariant-loop-root
invariant-loop-root l = HasRaisedRoots l.words l.root l.fn.front l.front
