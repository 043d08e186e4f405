use Rattle.std.proofs.Common.{sym, subst, refl}
use Rattle.block_supply.specs.Supply.{HasNoOpen}
use Rattle.heap_indexes.specs.Indexes.{Indexes}
use Rattle.heap_indexes.specs.Fitting.{HasNoReady}
use Rattle.heap_indexes.proofs.Ways.{no_site_small}
use Rattle.heap_indexes.proofs.indexes.HeapIndexes.place_in.Goals as goal

pub returns-in-None : goal.returns-in-None
returns-in-None c size least =
    let full = subst (λ (x : Indexes). HasNoOpen x.supply c.args.class) (sym c.self.view_is) c.requires.full in
    let ready = subst (λ (x : Indexes). HasNoReady x.lives x.units c.args.class) (sym c.self.view_is) (rw c.in_default.is at c.requires.fit) in
    rw (sym c.self.view_is) (λ b m apart are. record { none = no_site_small apart are size c.args.class least full ready c.in-None.ensures; indexes = are; supply = refl })
