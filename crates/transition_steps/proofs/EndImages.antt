-- The transition of a slab without a live old block comes to its end: the images.
use Rattle.std.proofs.Common.{◌≡◌, ℕ, true, List, sym, ap, subst, ◌∙◌, arith, ⊎_elim}
use Rattle.transition_steps.proofs.Common.{Tables, is_slab, AreSlabsInHeap, tables_of, SlabHeader, put_header, put_header-own, heap, IsSound, IsSteady, IsNearlyDone, LoosensNothing, bounds_of, IsFormed, IsSteadyImage, Bounds, header_at, settled, IsSettleStage, AllHoldSame, KeepsHeld, IsValidHeader, IsDone}
use Rattle.transition_steps.specs.Transitions.{IsEndable, LeavesEntry, IsEnded}
use Rattle.transition_steps.proofs.Ending.{IsSound-ending, IsSteady-ending, heap-ending, loosens-ending, nearly-ending}
use Rattle.transition_steps.proofs.HeaderImages.{lies_here, slabs_here, is_valid_here, header_here, formed_after, bounds_after, blocks_after}

module _ {words : List ℕ} {start : ℕ} (may : IsEndable words start) where
  abbrev t : Tables
  t = tables_of words

  sound : IsSound (bounds_of words) t
  sound = may.image.sound

  pub header_is : ((tables_of words).header start) ≡ header_at words start
  header_is = header_here words start may.image.formed sound may.here.slab

  slabs : AreSlabsInHeap words
  slabs = slabs_here words start may.image.formed sound may.here.slab

  is_here : is_slab words start ≡ true
  is_here = (lies_here words start may.image.formed sound may.here.slab).here

  pub done_there : IsDone words start
  done_there = record {
    valid = (is_valid_here words start may.image.formed sound may.here.slab).state;
    kind = sym (ap (λ (h : SlabHeader). h.kind) header_is) ∙ may.here.kind;
    none = λ place below. sym (ap (λ (h : SlabHeader). h.live place) header_is) ∙ may.here.none place (omega (arith, below, ap (λ (h : SlabHeader). h.index_count) header_is));
  }

  module _ (image : List ℕ) (kept : KeepsHeld words start (IsSettleStage (header_at words start)) image) where
    abbrev g : SlabHeader
    g = header_at image start

    valid : IsValidHeader image start
    valid = kept.valid (is_valid_here words start may.image.formed sound may.here.slab)

    formed : IsFormed image
    formed = formed_after words start may.image.formed sound may.here.slab image kept.left.off valid

    bounds : bounds_of image ≡ bounds_of words
    bounds = bounds_after words start may.image.formed sound may.here.slab image kept.left.off valid

    -- with the header as it was
    module _ (same : g ≡ header_at words start) where
      tables_same : tables_of image ≡ t
      tables_same = kept.left.tables slabs is_here ∙ ap (put_header t start) (same ∙ sym header_is) ∙ put_header-own t start

      same_keeps : LeavesEntry words image
      same_keeps = record {
        entry = ap (λ (x : Tables). x.open_entry) tables_same;
        keeps = λ steady. record {
          steady = record { formed = formed; steady = subst (λ (b : Bounds). IsSteady b (tables_of image)) (sym bounds) (subst (IsSteady (bounds_of words)) (sym tables_same) steady.steady) };
          bounds = bounds;
          heap = record { each = λ root. ap (λ (x : Tables). heap x root) tables_same };
          blocks = blocks_after words start may.image.formed sound may.here.slab image kept.left.off valid;
        };
      }

    -- with the slab normal
    module _ (done : g ≡ settled (header_at words start)) where
      tables_are : tables_of image ≡ put_header t start (settled (t.header start))
      tables_are = kept.left.tables slabs is_here ∙ ap (put_header t start) (done ∙ ap settled (sym header_is))

      held : AllHoldSame t (put_header t start (settled (t.header start)))
      held = subst (AllHoldSame t) tables_are (kept.all_held slabs is_here)

      sound_after : IsSound (bounds_of image) (tables_of image)
      sound_after = subst (λ (b : Bounds). IsSound b (tables_of image)) (sym bounds) (subst (IsSound (bounds_of words)) (sym tables_are) (IsSound-ending start sound may.here may.elsewhere held))

      steady_after : IsSteadyImage words → IsSteadyImage image
      steady_after steady = record {
        formed = formed;
        steady = subst (λ (b : Bounds). IsSteady b (tables_of image)) (sym bounds) (subst (IsSteady (bounds_of words)) (sym tables_are) (IsSteady-ending start sound may.here may.elsewhere held steady.steady));
      }

      heap_same : (root : ℕ) → heap (tables_of image) root ≡ heap t root
      heap_same root = ap (λ (x : Tables). heap x root) tables_are ∙ heap-ending start sound may.here may.elsewhere held root

      done_keeps : LeavesEntry words image
      done_keeps = record {
        entry = ap (λ (x : Tables). x.open_entry) tables_are;
        keeps = λ steady. record {
          steady = steady_after steady;
          bounds = bounds;
          heap = record { each = heap_same };
          blocks = blocks_after words start may.image.formed sound may.here.slab image kept.left.off valid;
        };
      }

      pub end_done : IsEnded words start image
      end_done = record {
        image = record { formed = formed; sound = sound_after };
        steady = steady_after;
        heap = record { each = heap_same };
        blocks = blocks_after words start may.image.formed sound may.here.slab image kept.left.off valid;
        off = kept.left.off;
        bounds = bounds;
        tables = tables_are;
        held = kept.all_held slabs is_here;
        loose = subst (λ (x : Tables). LoosensNothing t x) (sym tables_are) (loosens-ending start sound may.here may.elsewhere held);
        nearly = λ other near. nearly-ending start sound may.here may.elsewhere held other (subst (λ (x : Tables). IsNearlyDone x other) tables_are near);
      }

    pub end_keeps : LeavesEntry words image
    end_keeps = ⊎_elim same_keeps done_keeps kept.left.header
