use Rattle.std.proofs.Common.{sym, refl}
use Rattle.heap_indexes.proofs.Ways.{no_site_large, placed_large}
use Rattle.heap_indexes.proofs.indexes.HeapIndexes.place_large.Goals as goal

pub returns-in-Some : goal.returns-in-Some
returns-in-Some c seat size large is =
    rw (sym c.self.view_is) (λ b m apart are. placed_large apart are size c.take.new.self seat c.in-Some.start c.args.granules c.requires.many large is c.in-Some.ensures c.take.ensures.granules c.take.ensures.free)

pub returns-in-None : goal.returns-in-None
returns-in-None c seat size large is =
    rw (sym c.self.view_is) (λ b m apart are. record { none = no_site_large apart are size c.args.granules large is c.in-None.ensures; indexes = are; supply = refl })
