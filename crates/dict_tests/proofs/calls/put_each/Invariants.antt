use Rattle.pmem_lines.specs.Pmem.{words_of}
use Rattle.attach_dict.specs.Dict.{AreNumbersUpTo}
use Rattle.dict_tests.specs.Rest.{IsAtRest}
use Rattle.dict_tests.proofs.calls.put_each.Given as goal

abbrev pub invariant-loop-word : goal.invariant-loop-word
invariant-loop-word l = record { rest : IsAtRest l.dict; numbers : AreNumbersUpTo (words_of l.dict.arena.device) l.word }
