-- A normal slab of an exact image that is fit for a class by the blocks that live in it is so by those that it holds.
use Rattle.std.proofs.Common.{◌≡◌, ℕ, ◌≤◌, true, List, Some, None, inl, inr, ap, arith, ⊎_elim}
use Rattle.std.proofs.lemmas.Bool.{cond-true}
use Rattle.image_tables.specs.Forms.{normal_kind}
use Rattle.image_tables.specs.Tables.{Tables, tables_of}
use Rattle.image_tables.proofs.Tables.{root_table-past}
use Rattle.heap_model.specs.Machine.{Range}
use Rattle.heap_model.specs.Choice.{IsFit}
use Rattle.heap_model.specs.Slabs.{live_below}
use Rattle.heap_check.specs.Heap.{heap, HoldsBit, HoldsOld}
use Rattle.heap_check.specs.Image.{bounds_of, IsExactImage}
use Rattle.slab_morph.specs.Fitness.{held_view, held_count}
use Rattle.transition_steps.specs.Classes.{IsReadyFor, IsFitIn}
use Rattle.transition_steps.proofs.HeldCounts.{held_live}

module _ (words : List ℕ) (image : IsExactImage words) (start class : ℕ) (slab : (tables_of words).slab start ≡ true) (normal : ((tables_of words).header start).kind ≡ normal_kind) where
  abbrev t : Tables
  t = tables_of words

  few : held_count t start ≤ live_below (heap t) start (bounds_of words).roots
  few = held_live image.exact (λ root past. root_table-past words root past) start slab normal

  pub fit_held : IsFitIn words start class → IsFit (held_view t) class start
  fit_held fit = record {
    class = (t.header start).class;
    slab = cond-true (t.slab start) (Some (t.header start).class) None slab;
    no_transition = λ moving. ⊎_elim
        (λ (bit : HoldsBit (t.header start) start moving.range). moving.other (ap (λ (x : Range). x.size) bit.is))
        (λ (old : HoldsOld (t.header start) start moving.range). let none = ((image.exact.sound.slabs start slab).state.none normal).1 in omega (arith, old.below, none))
        moving.holds.block;
    differs = fit.differs;
    few = omega (arith, few, fit.few);
    sparse = omega (arith, few, fit.sparse);
    number = fit.number;
    block = record { within = fit.below; unused = record { each = λ other holds. ⊎_elim inr inl (fit.unused.each other holds) } };
  }

  pub ready : IsFit (held_view t) class start → IsReadyFor words start class
  ready fit = record { image = image; slab = slab; normal = normal; fit = fit }
