use Rattle.std.proofs.Common.{ℕ, subst, arith}
use Rattle.pmem_lines.specs.Pmem.{words_of}
use Rattle.attach_dict.specs.Index.{IsBlank}
use Rattle.attach_dict.proofs.Scans.{roots_few}
use Rattle.attach_dict.proofs.opening.read_index.Goals as goal

pub with_room-requires : goal.with_room-requires
with_room-requires g c = omega (arith, c.roots_of-roots.ensures.roots, roots_few (words_of c.args.arena.now.device))

pub fill_index-requires-clause-blank : goal.fill_index-requires-clause-blank
fill_index-requires-clause-blank g c = subst (λ (n : ℕ). IsBlank c.in_ok-index.index n) c.roots_of-roots.ensures.roots c.in_ok-index.ensures
