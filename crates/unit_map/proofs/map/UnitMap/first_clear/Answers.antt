use Rattle.unit_map.proofs.Views.{found_block}
use Rattle.unit_map.proofs.map.UnitMap.first_clear.Goals as goal

pub returns : goal.returns
returns c =
    found_block c.self.inside.words.items c.self.view_is c.args.start c.args.class c.blocks_of.result c.blocks_of.ensures c.args.from c.first_free.result (rw c.deref.ensures.value at c.first_free.ensures)
