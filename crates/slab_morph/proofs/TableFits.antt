-- Fitness of a slab of an arena, by the tables.
use Rattle.std.proofs.Common.{◌≡◌, ◌↔◌, ◌*◌, ◌≤◌, IsTrue, ℕ, Bool, true, Some, None, List, refl, sym, ap, subst, ◌∙◌}
use Rattle.slab_morph.proofs.Common.{cond-true, Tables, is_slab, tables_of, SlabHeader, slab_table, class_size, class_capacity, Range, slabs, Holds}
use Rattle.heap_model.specs.Choice.{IsFit}
use Rattle.slab_morph.specs.SlabHeaders.{header_at, alone}
use Rattle.slab_morph.specs.Fitness.{held_count, held_view, IsFitHeader}
use Rattle.slab_morph.proofs.HeaderTables.{header_of-slab}
use Rattle.slab_morph.proofs.Holding.{Holds-slab}

-- a slab that holds no more than a fit one does, of the same class and as many blocks, is fit
fit_alike : (t u : Tables) (start class : ℕ) → slabs u start ≡ slabs t start → (u.header start).class ≡ (t.header start).class → held_count u start ≡ held_count t start → ((range : Range) → Holds u start range → Holds t start range) →
    IsFit (held_view t) class start → IsFit (held_view u) class start
fit_alike t u start class slab same count back fit = record {
  class = fit.class;
  slab = slab ∙ fit.slab;
  no_transition = λ moving. fit.no_transition (record { range = moving.range; holds = back moving.range moving.holds; other = λ size. moving.other (size ∙ ap class_size (sym same)) });
  differs = fit.differs;
  few = subst (λ n. n ≤ 64) (sym count) fit.few;
  sparse = subst (λ n. 5 * n ≤ class_capacity fit.class) (sym count) fit.sparse;
  number = fit.number;
  block = record { within = fit.block.within; unused = record { each = λ other holds. fit.block.unused.each other (back other holds) } };
}

-- A slab of an arena is fit by what its header says.
pub IsFit-slab : (t : Tables) (start class : ℕ) → t.slab start ≡ true → IsFit (held_view t) class start ↔ IsFitHeader (t.header start) start class
IsFit-slab t start class is =
    let slab : slabs t start ≡ Some (t.header start).class = cond-true (t.slab start) (Some (t.header start).class) None is in
    let of_header = alone (t.header start) in (
      fit_alike t of_header start class (sym slab) refl refl (λ range. (Holds-slab t start is range).1),
      fit_alike of_header t start class slab refl refl (λ range. (Holds-slab t start is range).0),
    )

-- and that is read off its words
pub fit_of_slab : (words : List ℕ) (start class : ℕ) {answer : Bool} → is_slab words start ≡ true → IsTrue answer ↔ IsFitHeader (header_at words start) start class → IsTrue answer ↔ IsFit (held_view (tables_of words)) class start
fit_of_slab words start class is answers =
    let same = IsFit-slab (tables_of words) start class (slab_table words start ∙ is) in
    let header = header_of-slab words start is in (
      λ yes_it_is. same.1 (subst (λ (h : SlabHeader). IsFitHeader h start class) (sym header) (answers.0 yes_it_is)),
      λ fit. answers.1 (subst (λ (h : SlabHeader). IsFitHeader h start class) header (same.0 fit)),
    )
