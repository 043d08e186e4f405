use Rattle.image_raise.proofs.Steps.{chunks_more}
use Rattle.image_raise.proofs.log.raise_log.Goals as goal

pub loop-chunk-preserved : goal.loop-chunk-preserved
loop-chunk-preserved c = chunks_more c.args.words.now c.args.front.now c.loop-chunk.front c.raise_chunk.new.front c.args.granules c.loop-chunk.chunk c.loop-chunk.invariant c.raise_chunk.ensures
