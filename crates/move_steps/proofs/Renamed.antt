-- Each root holds what another held, by a renaming of the roots that is its own inverse, and a move entry is open or none:
-- an exact image stays steady, and exact where none is.
use Rattle.std.proofs.Common.{◌≡◌, ℕ, refl, sym, ap, ◌∙◌, arith, inl, Option, None}
use Rattle.image_tables.specs.declared.entry.WalEntry.{WalEntry}
use Rattle.image_tables.specs.Tables.{Tables}
use Rattle.heap_model.specs.Machine.{Bounds}
use Rattle.heap_check.specs.Heap.{entry_at, heap}
use Rattle.heap_check.specs.Sound.{IsExact, IsSteady}
use Rattle.heap_check.proofs.Blank.{law_of_steady}
use Rattle.settle_steps.proofs.Renamed as renaming
use Rattle.settle_steps.proofs.Renamed.{renamed, IsRenaming}

module _ {b : Bounds} {t : Tables} (exact : IsExact b t) (from to : ℕ) (word name : ℕ → ℕ) (entry : Option WalEntry) (is : IsRenaming b t from to word name entry) where
  unnamed : (r : ℕ) → entry_at t.open_entry r ≡ 0
  unnamed r = ap (λ e. entry_at e r) exact.closed

  pub IsSteady-renamed : IsSteady b (renamed t word name entry)
  IsSteady-renamed = renaming.IsSteady-renamed (law_of_steady b t exact) unnamed exact.none_morphing from to word name entry is

  pub heap-renamed : (r : ℕ) → heap (renamed t word name entry) r ≡ heap t (name r)
  heap-renamed = renaming.heap-renamed (law_of_steady b t exact) unnamed exact.none_morphing from to word name entry is

-- where no entry is open it is exact
pub IsExact-renamed : {b : Bounds} {t : Tables} (exact : IsExact b t) (from to : ℕ) (word name : ℕ → ℕ) (back : (r : ℕ) → name (name r) ≡ r) → IsExact b (renamed t word name None)
IsExact-renamed {b} {t} exact from to word name back =
    let is : IsRenaming b t from to word name None = record { back = back; is = inl refl } in
    record {
      sound = (IsSteady-renamed exact from to word name None is).sound;
      closed = refl;
      all_named = λ start live. let named = exact.all_named start live in (name named.0, ap t.root (back named.0) ∙ named.1);
      all_live = λ start slab.
          let live = exact.all_live start slab in
          let here : t.root (name (name live.0)) ≡ t.root live.0 = ap t.root (back live.0) in
          let inside = live.2 in
          (name live.0, λ none. live.1 (sym here ∙ none), record { slab = inside.slab; low = omega (arith, inside.low, here); high = omega (arith, inside.high, here) });
      none_morphing = exact.none_morphing;
      none_done = exact.none_done;
    }
