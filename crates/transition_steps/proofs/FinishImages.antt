-- A slab in Morphing comes to its class: the images.
use Rattle.std.proofs.Common.{◌≡◌, ℕ, true, List, refl, sym, ap, subst, ◌∙◌, inl, inr, ⊎_elim}
use Rattle.transition_steps.proofs.Common.{morphing_kind, Tables, is_slab, AreSlabsInHeap, tables_of, SlabHeader, put_header, heap, IsSound, IsSteady, bounds_of, Bounds, header_at, finished, IsFinishStage, AllHoldSame, KeepsHeld, IsValidHeader, IsOnItsWay}
use Rattle.settle_steps.specs.Settled.{KeepsHeap}
use Rattle.transition_steps.specs.Transitions.{IsInMorphing, LoosensDone, IsFinished}
use Rattle.transition_steps.proofs.Finishing.{IsOnWay, closed-finishing, IsSteady-finishing, heap-finishing, loosens-finishing}
use Rattle.transition_steps.proofs.HeaderImages.{lies_here, slabs_here, is_valid_here, header_here, formed_after, bounds_after, blocks_after}

-- a stage is on the way
on_way : (h g : SlabHeader) → h.kind ≡ morphing_kind → IsFinishStage h g → IsOnWay h g
on_way h g moves stage = ⊎_elim
    (λ same. record { index_count = same.state.index_count; live = same.live; kind = inl (same.state.kind ∙ moves) })
    (λ (is : g ≡ finished h). subst (IsOnWay h) (sym is) (record { index_count = refl; live = refl; kind = inr refl }))
    stage

module _ {words : List ℕ} {start : ℕ} (may : IsInMorphing words start) where
  abbrev t : Tables
  t = tables_of words

  sound : IsSound (bounds_of words) t
  sound = may.image.steady.sound

  pub header_is : ((tables_of words).header start) ≡ header_at words start
  header_is = header_here words start may.image.formed sound may.here.slab

  pub on_its_way : IsOnItsWay words start
  on_its_way = record { valid = (is_valid_here words start may.image.formed sound may.here.slab).state; kind = sym (ap (λ (h : SlabHeader). h.kind) header_is) ∙ may.here.kind }

  module _ (image : List ℕ) (kept : KeepsHeld words start (IsFinishStage (header_at words start)) image) where
    abbrev g : SlabHeader
    g = header_at image start

    stage : IsOnWay (t.header start) g
    stage = on_way (t.header start) g may.here.kind (subst (λ (h : SlabHeader). IsFinishStage h g) (sym header_is) kept.left.header)

    slabs : AreSlabsInHeap words
    slabs = slabs_here words start may.image.formed sound may.here.slab

    is_here : is_slab words start ≡ true
    is_here = (lies_here words start may.image.formed sound may.here.slab).here

    tables_are : tables_of image ≡ put_header t start g
    tables_are = kept.left.tables slabs is_here

    held : AllHoldSame t (put_header t start g)
    held = subst (AllHoldSame t) tables_are (kept.all_held slabs is_here)

    valid : IsValidHeader image start
    valid = kept.valid (is_valid_here words start may.image.formed sound may.here.slab)

    bounds : bounds_of image ≡ bounds_of words
    bounds = bounds_after words start may.image.formed sound may.here.slab image kept.left.off valid

    steady_after : IsSteady (bounds_of words) (tables_of image)
    steady_after = subst (IsSteady (bounds_of words)) (sym tables_are) (IsSteady-finishing start g may.image.steady may.here stage valid.slab held)

    pub finish_keeps : KeepsHeap words image
    finish_keeps = record {
      steady = record {
        formed = formed_after words start may.image.formed sound may.here.slab image kept.left.off valid;
        steady = subst (λ (b : Bounds). IsSteady b (tables_of image)) (sym bounds) steady_after;
      };
      bounds = bounds;
      heap = record { each = λ root. ap (λ (x : Tables). heap x root) tables_are ∙ heap-finishing start g may.image.steady may.here stage valid.slab held root };
      blocks = blocks_after words start may.image.formed sound may.here.slab image kept.left.off valid;
    }

    pub finish_done : g ≡ finished (header_at words start) → IsFinished words start image
    finish_done done = record {
      keeps = finish_keeps;
      off = kept.left.off;
      tables = tables_are ∙ ap (put_header t start) (done ∙ ap finished (sym header_is));
      closed = ap (λ (x : Tables). x.open_entry) tables_are ∙ closed-finishing start g may.image.steady may.here stage valid.slab held;
      loose = subst (λ (x : Tables). LoosensDone t x start) (sym tables_are)
          (loosens-finishing start g may.image.steady may.here stage valid.slab held (ap (λ (h : SlabHeader). h.kind) done));
    }
