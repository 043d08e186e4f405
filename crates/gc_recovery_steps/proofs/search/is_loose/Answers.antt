use Rattle.std.proofs.Common.{◌≡◌, ◌↔◌, ℕ, Bool, IsTrue, sym, subst}
use Rattle.image_tables.specs.Tables.{Tables}
use Rattle.gc_check.specs.Heap.{gc_tables}
use Rattle.gc_recovery_steps.specs.declared.search.Loose.{Loose}
use Rattle.gc_recovery_steps.specs.Kinds.{IsLooseOf}
use Rattle.gc_recovery_steps.proofs.search.is_loose.Goals as goal

-- what is told of a kind is told of the one that was asked for
by_kind : (t : Tables) (start : ℕ) (told : Bool) {kind own : Loose} → kind ≡ own → (IsTrue told ↔ IsLooseOf own t start) → (IsTrue told ↔ IsLooseOf kind t start)
by_kind t start told is tells = subst (λ (k : Loose). IsTrue told ↔ IsLooseOf k t start) (sym is) tells

pub returns-in-Large : goal.returns-in-Large
returns-in-Large c = by_kind (gc_tables c.args.words.now) c.args.start c.is_loose_large.result c.in-Large.is c.is_loose_large.ensures

pub returns-in-Empty : goal.returns-in-Empty
returns-in-Empty c = by_kind (gc_tables c.args.words.now) c.args.start c.is_empty_slab.result c.in-Empty.is c.is_empty_slab.ensures
