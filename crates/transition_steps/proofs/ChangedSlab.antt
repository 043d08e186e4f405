-- The header of one slab changes, and each slab holds what it held: the image stays sound, with the same heap.
use Rattle.std.proofs.Common.{◌≡◌, ◌≢◌, ◌==◌, ℕ, true, cond, refl, sym, ap, subst, ◌∙◌, inl, inr, ⊎_elim, Some, None}
use Rattle.transition_steps.proofs.Common.{cases_eq, cond-false, ne_eqb, WalEntry, Tables, SlabHeader, put_header, put_header-same, put_header-other, Bounds, Range, size_at, entry_at, claim_at, heap, IsClaim, IsValidSlab, IsOpen, IsHeld, IsStanding, AtMostOne, IsMorphing, IsDoneSlab, IsSound, heap-none, AllHoldSame}
use Rattle.heap_check.specs.Slabs.{IsSameSlab}

-- every other slab is the same
pub other_same : (t : Tables) (start : ℕ) (h : SlabHeader) (other : ℕ) → other ≢ start → IsSameSlab (put_header t start h) t other
other_same t start h other apart = record { slab = refl; header = sym (put_header-other t start h other apart) }

-- the header is valid, each slab holds what it held, and each root's block has its size
pub record IsTurn (b : Bounds) (t : Tables) (start : ℕ) (h : SlabHeader) : Type 0 where
  pub sound : IsSound b t
  pub held : AllHoldSame t (put_header t start h)
  pub sizes : (root : ℕ) → claim_at t root ≢ 0 → size_at (put_header t start h) root (claim_at t root) ≡ size_at t root (claim_at t root)
  pub valid : IsValidSlab h
  pub open_entry : (e : WalEntry) → t.open_entry ≡ Some e → IsOpen b (put_header t start h) e
  pub morphing : AtMostOne (IsMorphing (put_header t start h))
  pub done : AtMostOne (IsDoneSlab (put_header t start h))

module _ {b : Bounds} {t : Tables} {start : ℕ} {h : SlabHeader} (is : IsTurn b t start h) where
  abbrev new : Tables
  new = put_header t start h

  sound : IsSound b t
  sound = is.sound

  claim_some : (root at : ℕ) → at ≢ 0 → claim_at t root ≡ at → claim_at t root ≢ 0
  claim_some root at some place none = some (sym place ∙ none)

  claim_back : (root : ℕ) (range : Range) → IsClaim new root range → IsClaim t root range
  claim_back root range claim = record { some = claim.some; place = claim.place; wide = sym (is.sizes root (claim_some root range.at claim.some claim.place)) ∙ claim.wide }

  claim_forth : (root : ℕ) (range : Range) → IsClaim t root range → IsClaim new root range
  claim_forth root range claim = record { some = claim.some; place = claim.place; wide = is.sizes root (claim_some root range.at claim.some claim.place) ∙ claim.wide }

  stands : (root at : ℕ) → IsStanding t root at → IsStanding new root at
  stands root at standing = ⊎_elim
      (λ large. inl large)
      (λ rest. inr (⊎_elim
      (λ (held : IsHeld t at). inl (record { start = held.start; range = held.range; holds = (is.held.each held.start held.range).1 held.holds; here = held.here }))
      (λ by_entry. inr by_entry)
      rest))
      standing

  claimed : (s : ℕ) (range : Range) → (root : ℕ) × IsClaim t root range → (root : ℕ) × IsClaim new root range
  claimed s range owner = (owner.0, claim_forth owner.0 range owner.1)

  slabs : (s : ℕ) → t.slab s ≡ true → IsValidSlab (new.header s)
  slabs s slab = ⊎_elim
      (λ (same : s ≡ start). subst (λ s. IsValidSlab (new.header s)) (sym same) (subst IsValidSlab (sym (put_header-same t start h)) is.valid))
      (λ (apart : s ≢ start). subst IsValidSlab (sym (put_header-other t start h s apart)) (sound.slabs s slab))
      (cases_eq s start)

  pub IsSound-turned : IsSound b (put_header t start h)
  IsSound-turned = record {
    extents = sound.extents;
    slabs = slabs;
    owned = record {
      open_entry = is.open_entry;
      rooted = λ root some. stands root (t.root root) (sound.owned.rooted root some);
      apart = λ root other range another differ first second. sound.owned.apart root other range another differ (claim_back root range first) (claim_back other another second);
      claimed = λ s range holds. claimed s range (sound.owned.claimed s range ((is.held.each s range).0 holds));
    };
    loose = record { large = sound.loose.large; empty = sound.loose.empty; morphing = is.morphing; done = is.done };
  }

  pub heap-turned : (root : ℕ) → heap (put_header t start h) root ≡ heap t root
  heap-turned root = ⊎_elim
      (λ (none : t.root root ≡ 0). heap-none new root none ∙ sym (heap-none t root none))
      (λ (some : t.root root ≢ 0).
      let claim : claim_at t root ≡ t.root root = cond-false (t.root root == 0) (entry_at t.open_entry root) (t.root root) (ne_eqb (t.root root) 0 some) in
      let size : size_at new root (t.root root) ≡ size_at t root (t.root root) = subst (λ at. size_at new root at ≡ size_at t root at) claim (is.sizes root (λ none. some (sym claim ∙ none))) in
      ap (λ size. cond (t.root root == 0) None (Some (record { at = t.root root; size = size }))) size)
      (cases_eq (t.root root) 0)
