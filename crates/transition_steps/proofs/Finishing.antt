-- A slab in Morphing comes to its class: what the tables say at each stage.
use Rattle.std.proofs.Common.{◌≡◌, ◌≢◌, ◌⊎◌, ℕ, Bool, refl, sym, ap, subst, ◌∙◌, arith, inl, inr, ⊎_elim, Option, Some, None}
use Rattle.transition_steps.proofs.Common.{cases_eq, WalEntry, morphing_kind, morphed_kind, Tables, SlabHeader, put_header, put_header-same, Bounds, heap, IsValidSlab, IsMorphing, IsDoneSlab, IsNearlyDone, IsSound, IsSteady, AllHoldSame}
use Rattle.heap_check.proofs.Loose.{AtMostOne-fewer, IsSpent, nearly_spent, spent_nearly, nearly_done}
use Rattle.heap_check.proofs.SameSlabs.{IsMorphing-same, IsDoneSlab-same, IsNearlyDone-same}
use Rattle.transition_steps.specs.Transitions.{LoosensDone}
use Rattle.transition_steps.proofs.ChangedSlab.{other_same, IsTurn, IsSound-turned, heap-turned}
use Rattle.transition_steps.proofs.ClosedSizes.{sizes_closed}

-- no entry is open while a slab is in Morphing
pub closed_morphing : {b : Bounds} {t : Tables} → IsSound b t → (start : ℕ) → IsMorphing t start → (entry : Option WalEntry) → t.open_entry ≡ entry → t.open_entry ≡ None
closed_morphing {b} {t} sound start here None is = is
closed_morphing {b} {t} sound start here (Some e) is = absurd ((sound.owned.open_entry e is).none_morphing start here.slab here.kind)

-- on its way to its class the header has the index entries that it had
pub record IsOnWay (h g : SlabHeader) : Type 0 where
  pub index_count : g.index_count ≡ h.index_count
  pub live : g.live ≡ h.live
  pub kind : (g.kind ≡ morphing_kind) ⊎ (g.kind ≡ morphed_kind)

module _ {b : Bounds} {t : Tables} (start : ℕ) (g : SlabHeader) (steady : IsSteady b t) (here : IsMorphing t start) (stage : IsOnWay (t.header start) g) (valid : IsValidSlab g) (held : AllHoldSame t (put_header t start g)) where
  abbrev new : Tables
  new = put_header t start g

  sound : IsSound b t
  sound = steady.sound

  pub closed-finishing : t.open_entry ≡ None
  closed-finishing = closed_morphing sound start here t.open_entry refl

  header_here : (s : ℕ) → s ≡ start → new.header s ≡ g
  header_here s same = ap new.header same ∙ put_header-same t start g

  morphing_back : (s : ℕ) → IsMorphing new s → IsMorphing t s
  morphing_back s morphing = ⊎_elim
      (λ (same : s ≡ start). subst (IsMorphing t) (sym same) here)
      (λ (apart : s ≢ start). IsMorphing-same (other_same t start g s apart) morphing)
      (cases_eq s start)

  -- where it has no live index entry, it had none
  spent_before : IsSpent g → IsSpent (t.header start)
  spent_before spent = record {
    kind = λ normal. omega (arith, normal, here.kind);
    none = λ place below. ap (λ (f : ℕ → Bool). f place) (sym stage.live) ∙ spent.none place (omega (arith, below, stage.index_count));
  }

  nearly : (s : ℕ) → IsNearlyDone new s → IsNearlyDone t s
  nearly s done = ⊎_elim
      (λ (same : s ≡ start). subst (IsNearlyDone t) (sym same) (spent_nearly t start here.slab (spent_before (subst IsSpent (header_here s same) (nearly_spent closed-finishing done)))))
      (λ (apart : s ≢ start). IsNearlyDone-same (other_same t start g s apart) closed-finishing done)
      (cases_eq s start)

  turn : IsTurn b t start g
  turn = record {
    sound = sound;
    held = held;
    sizes = sizes_closed sound closed-finishing start g held;
    valid = valid;
    open_entry = λ e is. absurd ((sound.owned.open_entry e is).none_morphing start here.slab here.kind);
    morphing = AtMostOne-fewer morphing_back sound.loose.morphing;
    done = AtMostOne-fewer (λ s (done : IsDoneSlab new s). nearly s (nearly_done new s done)) steady.one_done;
  }

  pub IsSteady-finishing : IsSteady b (put_header t start g)
  IsSteady-finishing = record { sound = IsSound-turned turn; one_done = AtMostOne-fewer nearly steady.one_done }

  pub heap-finishing : (root : ℕ) → heap (put_header t start g) root ≡ heap t root
  heap-finishing = heap-turned turn

  -- once it is in Morphed
  pub loosens-finishing : g.kind ≡ morphed_kind → LoosensDone t (put_header t start g) start
  loosens-finishing morphed = record {
    large = λ s loose. loose;
    empty = λ s empty. empty;
    none_morphing = λ s morphing.
        let same = sound.loose.morphing.same s start (morphing_back s morphing) here in
        omega (arith, morphing.kind, ap (λ (h : SlabHeader). h.kind) (header_here s same), morphed);
    done = λ s done. ⊎_elim
        (λ (same : s ≡ start). inr same)
        (λ (apart : s ≢ start). inl (IsDoneSlab-same (other_same t start g s apart) done))
        (cases_eq s start);
  }
