use Rattle.std.proofs.Common.{◌+◌, refl}
use Rattle.unit_map.proofs.Views.{clear_if_none}
use Rattle.unit_map.proofs.map.UnitMap.is_clear.Goals as goal

pub returns : goal.returns
returns c =
    let told = rw c.deref.ensures.value at c.has_none.ensures in
    let clear = clear_if_none c.self.inside.words.items c.self.view_is c.args.from (c.args.from + c.args.count) c.args.from c.args.count refl refl in
    (λ yes. clear.0 (told.0 yes), λ is. told.1 (clear.1 is))
