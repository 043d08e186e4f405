use Rattle.std.proofs.Common.{ℕ, List, ap, subst, arith}
use Rattle.pmem_lines.specs.Pmem.{PmemState}
use Rattle.pool_layout.specs.declared.layout.Layout.{Layout}
use Rattle.pool_layout.proofs.Layouts.{first_row}
use Rattle.gc_check.specs.Defects.{IsFirstGcDefect}
use Rattle.gc_search.specs.Faults.{IfDefect}
use Rattle.gc_recover.proofs.arena.gc_recover.Goals as goal

pub adopt-requires-clause-room : goal.adopt-requires-clause-room
adopt-requires-clause-room g c = omega (arith, ap (λ (s : PmemState). s.room) c.recover_sound.ensures.recovered.state, ap (λ (row : Layout). row.room) first_row, c.requires.room)

pub returns-in-Err-clause-defect : goal.returns-in-Err-clause-defect
returns-in-Err-clause-defect g c = subst (λ (ws : List ℕ). IfDefect c.in-Err.fault (IsFirstGcDefect ws)) c.all_words.ensures c.in-Err.ensures.defect
