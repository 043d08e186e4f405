use Rattle.std.proofs.Common.{◌∙◌, ◌++◌, List, ℕ, ap, map}
use Rattle.std.specs.Int.{from_le_bytes, w64}
use Rattle.std.proofs.lemmas.List.{take_all}
use Rattle.pool_layout.specs.Bytes.{words_of_bytes}
use Rattle.pool_layout.proofs.bytes.add_words.Goals as goal

pub returns : goal.returns
unfolding words_of_bytes
returns c =
    c.loop-chunk.invariant
    ∙ ap (λ (xs : List ℕ). c.args.words.now.items ++ xs) (ap (map (from_le_bytes w64)) (take_all c.loop-chunk.chunk-index c.as_chunks.result.0.now c.loop-chunk-test.false ∙ c.as_chunks.ensures.front))
