use Rattle.pmem_lines.specs.Pmem.{words_of}
use Rattle.attach_dict.specs.View.{phase_in}
use Rattle.attach_dict.proofs.Stale.{stale_counted}
use Rattle.attach_dict.proofs.dict.Dict.stale.Goals as goal

pub returns-clause-count : goal.returns-clause-count
returns-clause-count g c =
    let s = c.self.inside in
    rw (← c.self.view_is, c.len.ensures.count) (stale_counted (words_of s.arena.device) (phase_in (words_of s.arena.device) s.key s.progress) s.index.stale c.self.invariant.indexes.stale_roots c.len.ensures.sound)
