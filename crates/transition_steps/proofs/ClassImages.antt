-- A slab of an exact image takes another class: the images.
use Rattle.std.proofs.Common.{◌≡◌, ℕ, ◌<◌, true, List, length, sym, ap, ◌∙◌, subst, arith, ⊎_elim}
use Rattle.std.proofs.lemmas.Bool.{lt-ltb, or_left}
use Rattle.image_tables.specs.Tables.{Tables, is_slab, AreSlabsInHeap, tables_of, SlabHeader}
use Rattle.heap_model.specs.Machine.{Bounds}
use Rattle.size_classes.specs.Classes.{class_capacity}
use Rattle.heap_check.specs.Heap.{entry_at, heap, HoldsBit, HoldsOld}
use Rattle.heap_check.specs.Sound.{IsSteady, IsExact}
use Rattle.heap_check.specs.Image.{bounds_of, IsFormed}
use Rattle.heap_check.proofs.Claims.{plain_size, IsClaim-word}
use Rattle.heap_check.proofs.SmallPlaces.{Holds-claim}
use Rattle.slab_morph.specs.Fitness.{IsFitHeader}
use Rattle.slab_morph.proofs.Numbers.{numbers_among}
use Rattle.slab_morph.proofs.TableFits.{IsFit-slab}
use Rattle.slab_morph.specs.SlabHeaders.{header_at}
use Rattle.slab_morph.specs.Stages.{morphed, set_numbers, IsMorphStage, IsMorphable, AllHoldSame, KeepsHeld, IsValidHeader}
use Rattle.transition_steps.proofs.HeaderImages.{lies_here, slabs_here, is_valid_here, header_here, formed_after, bounds_after, blocks_after}
use Rattle.transition_steps.specs.Classes.{IsReadyFor, LeavesClosed, IsOfClass}
use Rattle.transition_steps.proofs.ClassTables.{steady_taking, heap_taking, exact_taking}
use Rattle.image_tables.specs.Updates.{put_header}

module _ (words : List ℕ) (start class : ℕ) (may : IsReadyFor words start class) where
  abbrev t : Tables
  t = tables_of words

  exact : IsExact (bounds_of words) t
  exact = may.image.exact

  slabs : AreSlabsInHeap words
  slabs = slabs_here words start may.image.formed exact.sound may.slab

  is_here : is_slab words start ≡ true
  is_here = (lies_here words start may.image.formed exact.sound may.slab).here

  pub header_is : ((tables_of words).header start) ≡ header_at words start
  header_is = header_here words start may.image.formed exact.sound may.slab

  -- it holds a block, since some root's lies in it
  some_set : 0 < length (set_numbers (t.header start))
  some_set =
      let rooted = exact.all_live start may.slab in
      let unnamed : entry_at t.open_entry rooted.0 ≡ 0 = ap (λ e. entry_at e rooted.0) exact.closed in
      let holds = Holds-claim exact.sound rooted.0 start _ unnamed (IsClaim-word t rooted.0 unnamed rooted.1) rooted.2 in
      ⊎_elim
      (λ (bit : HoldsBit (t.header start) start (record { at = t.root rooted.0; size = plain_size t (t.root rooted.0) })). omega (arith, (numbers_among (t.header start).bit (class_capacity (t.header start).class) bit.number bit.set bit.below).below))
      (λ (old : HoldsOld (t.header start) start (record { at = t.root rooted.0; size = plain_size t (t.root rooted.0) })).
      let none = ((exact.sound.slabs start may.slab).state.none may.normal).1 in
      absurd (omega (arith, old.below, none)))
      holds.block

  pub some_held : 0 < length (set_numbers (header_at words start))
  some_held = subst (λ (h : SlabHeader). 0 < length (set_numbers h)) header_is some_set

  pub morphable : IsMorphable words start class
  morphable = record {
    valid = (is_valid_here words start may.image.formed exact.sound may.slab).state;
    normal = sym (ap (λ (h : SlabHeader). h.kind) header_is) ∙ may.normal;
    some = some_held;
    fit = subst (λ (h : SlabHeader). IsFitHeader h start class) header_is ((IsFit-slab t start class may.slab).0 may.fit);
  }

  module _ (image : List ℕ) (kept : KeepsHeld words start (IsMorphStage (header_at words start) class) image) where
    abbrev g : SlabHeader
    g = header_at image start

    tables_are : tables_of image ≡ put_header t start g
    tables_are = kept.left.tables slabs is_here

    held : AllHoldSame t (put_header t start g)
    held = subst (AllHoldSame t) tables_are (kept.all_held slabs is_here)

    valid : IsValidHeader image start
    valid = kept.valid (is_valid_here words start may.image.formed exact.sound may.slab)

    formed : IsFormed image
    formed = formed_after words start may.image.formed exact.sound may.slab image kept.left.off valid

    bounds : bounds_of image ≡ bounds_of words
    bounds = bounds_after words start may.image.formed exact.sound may.slab image kept.left.off valid

    pub leaves_closed : LeavesClosed words image
    leaves_closed = record {
      keeps = record {
        steady = record {
          formed = formed;
          steady = subst (λ (b : Bounds). IsSteady b (tables_of image)) (sym bounds) (subst (IsSteady (bounds_of words)) (sym tables_are) (steady_taking exact start may.slab g valid.slab held));
        };
        bounds = bounds;
        heap = record { each = λ root. ap (λ (x : Tables). heap x root) tables_are ∙ heap_taking exact start may.slab g valid.slab held root };
        blocks = blocks_after words start may.image.formed exact.sound may.slab image kept.left.off valid;
      };
      closed = ap (λ (x : Tables). x.open_entry) tables_are ∙ exact.closed;
    }

    -- it has the class, and a live old block
    pub of_class : g ≡ morphed (header_at words start) class → IsOfClass words start class image
    of_class is = record {
      left = leaves_closed;
      exact = record {
        formed = formed;
        exact = subst (λ (b : Bounds). IsExact b (tables_of image)) (sym bounds) (subst (IsExact (bounds_of words)) (sym tables_are)
            (exact_taking exact start may.slab g valid.slab held (ap (λ (h : SlabHeader). h.kind) is) 0 (omega (arith, some_held, ap (λ (h : SlabHeader). h.index_count) is))
            (ap (λ (h : SlabHeader). h.live 0) is ∙ or_left _ _ (lt-ltb 0 (length (set_numbers (header_at words start))) some_held))));
      };
      off = kept.left.off;
      bounds = bounds;
      tables = tables_are ∙ ap (put_header t start) (is ∙ ap (λ (h : SlabHeader). morphed h class) (sym header_is));
      held = kept.all_held slabs is_here;
    }
