use Rattle.std.proofs.Common.{subst}
use Rattle.nvheap.proofs.Common.{words_of, faultless_of, no_defect, sound_of, IsDict, IsNotDict}
use Rattle.attach_dict.proofs.Counting.{law_of_dicts}
use Rattle.nvheap.proofs.Dictionaries.{recovered_dict}
use Rattle.nvheap.proofs.script_crashing.reopen.Goals as goal

pub unreachable-requires : goal.unreachable-requires
unreachable-requires g c =
    let words = words_of (g.P.Pmem.state c.args.device) in
    no_defect words c.in-Err-Defect-default.field-0-0-0 (faultless_of words (sound_of words c.requires.steady.steady.steady)) (rw c.in-Err-Defect-default.field-0-0-is at c.in-Err-Defect-default.ensures.defect)

pub returns-in-Ok-open-clause-same : goal.returns-in-Ok-open-clause-same
returns-in-Ok-open-clause-same g c =
    let was = c.requires.steady in
    let device = g.P.Pmem.state c.args.device in
    let dict = c.in-Ok-open.dict in
    let same = law_of_dicts (words_of c.in-Ok.arena.device) was.pairs dict.pairs (recovered_dict device c.in-Ok.arena.device was.pairs c.in-Ok.ensures.recovered was.steady.dict) c.in-Ok-open.ensures.is_dict in
    record { steady = was.steady.steady; dict = subst (IsDict (words_of device)) same was.steady.dict }

pub unreachable-requires-in-NotDict : goal.unreachable-requires-in-NotDict
unreachable-requires-in-NotDict g c =
    let was = c.requires.steady in
    let root = c.in-NotDict.root in
    let kept = recovered_dict (g.P.Pmem.state c.args.device) c.in-Ok.arena.device was.pairs c.in-Ok.ensures.recovered was.steady.dict in
    let misfit : IsNotDict (words_of c.in-Ok.arena.device) root = rw c.in-NotDict.is at c.in-Err.ensures.fault in
    misfit.here.unfit (kept.fit root misfit.here.low misfit.here.some)
