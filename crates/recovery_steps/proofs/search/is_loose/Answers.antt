use Rattle.std.proofs.Common.{◌≡◌, ◌↔◌, ℕ, Bool, IsTrue, sym, subst}
use Rattle.image_tables.specs.Tables.{Tables, tables_of}
use Rattle.recovery_steps.specs.declared.search.Loose.{Loose}
use Rattle.recovery_steps.specs.Kinds.{IsLooseOf}
use Rattle.recovery_steps.proofs.Arenas.{arena_of}
use Rattle.recovery_steps.proofs.search.is_loose.Goals as goal

pub is_morphing-requires-clause-arena : goal.is_morphing-requires-clause-arena
is_morphing-requires-clause-arena c = arena_of c.args.words.now c.requires.image

pub is_loose_large-requires-clause-arena : goal.is_loose_large-requires-clause-arena
is_loose_large-requires-clause-arena c = arena_of c.args.words.now c.requires.image

pub is_empty_slab-requires-clause-arena : goal.is_empty_slab-requires-clause-arena
is_empty_slab-requires-clause-arena c = arena_of c.args.words.now c.requires.image

pub is_done-requires-clause-arena : goal.is_done-requires-clause-arena
is_done-requires-clause-arena c = arena_of c.args.words.now c.requires.image

-- what is told of a kind is told of the one that was asked for
by_kind : (t : Tables) (start : ℕ) (told : Bool) {kind own : Loose} → kind ≡ own → (IsTrue told ↔ IsLooseOf own t start) → (IsTrue told ↔ IsLooseOf kind t start)
by_kind t start told is tells = subst (λ (k : Loose). IsTrue told ↔ IsLooseOf k t start) (sym is) tells

pub returns-in-Morphing : goal.returns-in-Morphing
returns-in-Morphing c = by_kind (tables_of c.args.words.now) c.args.start c.is_morphing.result c.in-Morphing.is c.is_morphing.ensures

pub returns-in-Large : goal.returns-in-Large
returns-in-Large c = by_kind (tables_of c.args.words.now) c.args.start c.is_loose_large.result c.in-Large.is c.is_loose_large.ensures

pub returns-in-Empty : goal.returns-in-Empty
returns-in-Empty c = by_kind (tables_of c.args.words.now) c.args.start c.is_empty_slab.result c.in-Empty.is c.is_empty_slab.ensures

pub returns-in-Done : goal.returns-in-Done
returns-in-Done c = by_kind (tables_of c.args.words.now) c.args.start c.is_done.result c.in-Done.is c.is_done.ensures
