-- A dictionary whose arena is recovered.
use Rattle.std.proofs.Common.{List}
use Rattle.nvheap.proofs.Common.{PmemState, words_of, IsRecovered, Pair, IsDict}
use Rattle.attach_dict.proofs.Kept.{law_of_kept_dicts}

-- it keeps its pairs
pub recovered_dict : (old new : PmemState) (pairs : List Pair) → IsRecovered old new → IsDict (words_of old) pairs → IsDict (words_of new) pairs
recovered_dict old new pairs is = law_of_kept_dicts (words_of old) (words_of new) pairs is.image.heap is.image.blocks
