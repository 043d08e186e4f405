-- A slab of exact tables takes another class: what they say at each stage.
use Rattle.std.proofs.Common.{◌≡◌, ◌≢◌, ℕ, ◌<◌, true, true≢false, sym, ap, ◌∙◌, arith, ⊎_elim}
use Rattle.std.proofs.lemmas.Bool.{cases_eq}
use Rattle.image_tables.specs.Forms.{morphed_kind}
use Rattle.image_tables.specs.Tables.{Tables, SlabHeader}
use Rattle.image_tables.specs.Updates.{put_header}
use Rattle.image_tables.proofs.Updates.{put_header-same}
use Rattle.heap_model.specs.Machine.{Bounds}
use Rattle.heap_check.specs.Heap.{heap}
use Rattle.heap_check.specs.Sound.{IsValidSlab, IsMorphing, IsDoneSlab, IsNearlyDone, IsSteady, IsExact}
use Rattle.heap_check.proofs.Loose.{AtMostOne-one, IsSpent, nearly_spent, nearly_done}
use Rattle.heap_check.proofs.SameSlabs.{IsMorphing-same, IsNearlyDone-same}
use Rattle.slab_morph.specs.Stages.{AllHoldSame}
use Rattle.transition_steps.proofs.ChangedSlab.{other_same, IsTurn, IsSound-turned, heap-turned}
use Rattle.transition_steps.proofs.ClosedSizes.{sizes_closed}

-- no slab of exact tables is spent
unspent : {b : Bounds} {t : Tables} → IsExact b t → (s : ℕ) → t.slab s ≡ true → ¬ (IsSpent (t.header s))
unspent {b} {t} exact s slab spent = ⊎_elim
    (λ (normal : (t.header s).kind ≡ 1). spent.kind normal)
    (λ rest. ⊎_elim
    (λ (morphing : (t.header s).kind ≡ 2). exact.none_morphing s (record { slab = slab; kind = morphing }))
    (λ (morphed : (t.header s).kind ≡ 3). exact.none_done s (record { slab = slab; kind = morphed; none = spent.none }))
    rest)
    (exact.sound.slabs s slab).state.kinds

module _ {b : Bounds} {t : Tables} (exact : IsExact b t) (start : ℕ) (slab : t.slab start ≡ true) (g : SlabHeader) (valid : IsValidSlab g) (held : AllHoldSame t (put_header t start g)) where
  abbrev new : Tables
  new = put_header t start g

  header_here : (s : ℕ) → s ≡ start → new.header s ≡ g
  header_here s same = ap new.header same ∙ put_header-same t start g

  -- no other slab is in transition to its class, or done
  only_morphing : (s : ℕ) → IsMorphing new s → s ≡ start
  only_morphing s is = ⊎_elim
      (λ (same : s ≡ start). same)
      (λ (differ : s ≢ start). absurd (exact.none_morphing s (IsMorphing-same (other_same t start g s differ) is)))
      (cases_eq s start)

  only_nearly : (s : ℕ) → IsNearlyDone new s → s ≡ start
  only_nearly s is = ⊎_elim
      (λ (same : s ≡ start). same)
      (λ (differ : s ≢ start). absurd (unspent exact s is.slab (nearly_spent exact.closed (IsNearlyDone-same (other_same t start g s differ) exact.closed is))))
      (cases_eq s start)

  turn : IsTurn b t start g
  turn = record {
    sound = exact.sound;
    held = held;
    sizes = sizes_closed exact.sound exact.closed start g held;
    valid = valid;
    open_entry = λ e is. absurd (let none = sym exact.closed ∙ is in cc);
    morphing = AtMostOne-one start only_morphing;
    done = AtMostOne-one start (λ s (done : IsDoneSlab new s). only_nearly s (nearly_done new s done));
  }

  pub steady_taking : IsSteady b (put_header t start g)
  steady_taking = record { sound = IsSound-turned turn; one_done = AtMostOne-one start only_nearly }

  pub heap_taking : (root : ℕ) → heap (put_header t start g) root ≡ heap t root
  heap_taking = heap-turned turn

  -- once it is there with a live old block, the tables are exact
  pub exact_taking : g.kind ≡ morphed_kind → (place : ℕ) → place < g.index_count → g.live place ≡ true → IsExact b (put_header t start g)
  exact_taking there place below live = record {
    sound = IsSound-turned turn;
    closed = exact.closed;
    all_named = exact.all_named;
    all_live = exact.all_live;
    none_morphing = λ s is. omega (arith, is.kind, ap (λ (h : SlabHeader). h.kind) (header_here s (only_morphing s is)), there);
    none_done = λ s done.
        let here = header_here s (only_nearly s (nearly_done new s done)) in
        true≢false (sym (ap (λ (h : SlabHeader). h.live place) here ∙ live) ∙ done.none place (omega (arith, below, ap (λ (h : SlabHeader). h.index_count) here)));
  }
