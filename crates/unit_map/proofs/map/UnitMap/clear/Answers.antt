use Rattle.std.proofs.Common.{◌≡◌, false, arith}
use Rattle.std.specs.Vec.{with_items}
use Rattle.std.proofs.lemmas.List.{with_items_is}
use Rattle.unit_map.proofs.Views.{marked}
use Rattle.unit_map.proofs.map.UnitMap.clear.Goals as goal

pub returns : goal.returns
returns c =
    let words = c.self.inside.words in
    let put = rw c.deref_mut.ensures.value at c.put_range.ensures in
    let items : (with_items words c.put_range.new.words).items ≡ c.put_range.new.words = with_items_is words c.put_range.new.words (omega (arith, put.size, words.ok.0)) in
    rw items (marked words.items c.put_range.new.words c.args.from c.args.count false c.self.view_is put)
