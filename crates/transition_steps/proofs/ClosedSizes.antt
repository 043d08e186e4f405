-- The header of one slab changes while no entry is open, and each slab holds what it held: so each root's block has the size
-- that it had.
use Rattle.std.proofs.Common.{◌≡◌, ◌≢◌, cond, ℕ, ◌*◌, ◌/◌, Bool, true, false, true≢false, refl, sym, ap, ◌∙◌, subst, arith, inr, ⊎_elim, None}
use Rattle.transition_steps.proofs.Common.{cases_Bool, class_size, Tables, SlabHeader, put_header, Bounds, Range, slab_block, slab_of, is_old, entry_at, claim_at, size_at, Holds, HoldsBit, HoldsOld, IsHeld, IsSound, old_seen, AllHoldSame}
use Rattle.heap_check.proofs.Claims.{plain_size, size_at-unnamed, claim_at-unnamed, IsNamed-claim}
use Rattle.heap_check.proofs.Geometry.{plain_size-large, is_large-slab, slab_of-here}
use Rattle.heap_check.proofs.Small.{is_old-held}
use Rattle.heap_check.proofs.Within.{IsInSlab-held}

module _ {b : Bounds} {t : Tables} (sound : IsSound b t) (closed : t.open_entry ≡ None) where
  unnamed : (root : ℕ) → entry_at t.open_entry root ≡ 0
  unnamed root = ap (λ e. entry_at e root) closed

  -- the block that a slab holds has its size by its address alone
  size_held : (s : ℕ) (range : Range) → Holds t s range → plain_size t range.at ≡ range.size
  size_held s range holds =
      let owner = sound.owned.claimed s range holds in
      (IsNamed-claim t owner.0 range (unnamed owner.0) owner.1).wide

  -- so of all that a slab holds only one block begins at an address
  once : (s : ℕ) (range another : Range) → Holds t s range → Holds t s another → range.at ≡ another.at → range ≡ another
  once s range another first second same =
      let size : range.size ≡ another.size = sym (size_held s range first) ∙ ap (plain_size t) same ∙ size_held s another second in
      λ i. record { at = same i; size = size i }

  module _ (start : ℕ) (h : SlabHeader) (held : AllHoldSame t (put_header t start h)) where
    abbrev new : Tables
    new = put_header t start h

    -- with the other header too
    size_new : (s : ℕ) (range : Range) → Holds new s range → plain_size new range.at ≡ range.size
    size_new s range holds =
        let was = (held.each s range).0 holds in
        let inside = IsInSlab-held sound s range was in
        let here = slab_of-here sound s (range.at / 16384) inside.slab (omega (arith, inside.low)) (omega (arith, inside.high)) in
        let class_of : ℕ → ℕ = λ s. class_size (cond (is_old (new.header s) s range.at) (new.header s).old (new.header s).class) in
        let small : plain_size new range.at ≡ class_of (slab_of t.slab (range.at / 16384)) =
        ap (λ x. cond x (16384 * t.large (range.at / 16384)) (class_of (slab_of t.slab (range.at / 16384)))) (is_large-slab sound s range.at inside) in
        let by : plain_size new range.at ≡ class_of s = small ∙ ap class_of here in
        let size : (x : Bool) → is_old (new.header s) s range.at ≡ x → plain_size new range.at ≡ class_size (cond x (new.header s).old (new.header s).class) =
        λ x is. by ∙ ap (λ x. class_size (cond x (new.header s).old (new.header s).class)) is in
        ⊎_elim
        (λ (old : is_old (new.header s) s range.at ≡ true).
        let seen = old_seen (new.header s) s range.at old in
        let block : Range = slab_block s (new.header s).old ((new.header s).number seen.0) in
        let also : Holds new s block = record { slab = inside.slab; block = inr (record { place = seen.0; below = seen.1; live = seen.2; is = refl }) } in
        let same : block ≡ range = once s block range ((held.each s block).0 also) was seen.3 in
        size true old ∙ ap (λ (r : Range). r.size) same)
        (λ (young : is_old (new.header s) s range.at ≡ false). ⊎_elim
        (λ (bit : HoldsBit (new.header s) s range). size false young ∙ sym (ap (λ (r : Range). r.size) bit.is))
        (λ (old : HoldsOld (new.header s) s range). absurd (true≢false (sym (is_old-held (new.header s) s range.at range old refl) ∙ young)))
        holds.block)
        (cases_Bool (is_old (new.header s) s range.at))

    -- by the word of a root
    size_same : (root : ℕ) → t.root root ≢ 0 → plain_size new (t.root root) ≡ plain_size t (t.root root)
    size_same root some = ⊎_elim
        (λ large. plain_size-large new (t.root root) large ∙ sym (plain_size-large t (t.root root) large))
        (λ rest. ⊎_elim
        (λ (is : IsHeld t (t.root root)).
        subst (λ at. plain_size new at ≡ plain_size t at) is.here (size_new is.start is.range ((held.each is.start is.range).1 is.holds) ∙ sym (size_held is.start is.range is.holds)))
        (λ by_entry. absurd (some (sym by_entry ∙ unnamed root)))
        rest)
        (sound.owned.rooted root some)

    pub sizes_closed : (root : ℕ) → claim_at t root ≢ 0 → size_at new root (claim_at t root) ≡ size_at t root (claim_at t root)
    sizes_closed root some =
        let claim = claim_at-unnamed t root (unnamed root) in
        subst (λ at. size_at new root at ≡ size_at t root at) (sym claim)
        (size_at-unnamed new root (t.root root) (unnamed root) ∙ size_same root (λ none. some (claim ∙ none)) ∙ sym (size_at-unnamed t root (t.root root) (unnamed root)))
