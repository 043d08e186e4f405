-- The slab that has the block of an open place entry: the one that has the address.
use Rattle.std.proofs.Common.{◌≡◌, ◌/◌, ℕ, Bool, refl, sym, subst, arith, ⊎_elim, Some}
use Rattle.settle_steps.proofs.Common.{class_size-least, Place, Tables, Bounds, slab_block, LiesIn-block, slab_of, IsInSlab, IsNewEntry, IsOldEntry, IsOpenPlace, IsSound, slab_of-here}

-- a block of the class lies in its slab
pub in_slab_new : {b : Bounds} {t : Tables} → IsSound b t → (at : ℕ) (entry : IsNewEntry t at) → IsInSlab t entry.start at
in_slab_new {b} {t} sound at entry =
    let block = slab_block entry.start (t.header entry.start).class entry.number in
    let lies = LiesIn-block entry.start (t.header entry.start).class block (record { number = entry.number; within = entry.below; is = refl }) in
    let some = class_size-least (t.header entry.start).class (sound.slabs entry.start entry.slab).state.is_class in
    record { slab = entry.slab; low = omega (arith, entry.is, lies.low); high = omega (arith, entry.is, lies.high, some) }

-- and so does an old one
pub in_slab_old : {b : Bounds} {t : Tables} → IsSound b t → (at place : ℕ) (entry : IsOldEntry t at place) → IsInSlab t entry.start at
in_slab_old {b} {t} sound at place entry =
    let valid = sound.slabs entry.start entry.slab in
    let block = slab_block entry.start (t.header entry.start).old ((t.header entry.start).number place) in
    let lies = LiesIn-block entry.start (t.header entry.start).old block (record { number = (t.header entry.start).number place; within = valid.small place entry.below; is = refl }) in
    let some = class_size-least (t.header entry.start).old valid.state.is_old_class in
    record { slab = entry.slab; low = omega (arith, entry.is, lies.low); high = omega (arith, entry.is, lies.high, some) }

-- so the slab of an open place entry is the one that has its granule
pub in_slab_of : {b : Bounds} {t : Tables} → IsSound b t → (root at place : ℕ) (old : Bool) → t.open_entry ≡ Some (Place root at old place) → IsInSlab t (slab_of t.slab (at / 16384)) at
in_slab_of {b} {t} sound root at place old opens =
    let there : (start : ℕ) → IsInSlab t start at → IsInSlab t (slab_of t.slab (at / 16384)) at =
    λ start inside. subst (λ s. IsInSlab t s at) (sym (slab_of-here sound start (at / 16384) inside.slab (omega (arith, inside.low)) (omega (arith, inside.high)))) inside in
    let placed : IsOpenPlace b t root at old place = (sound.owned.open_entry (Place root at old place) opens).entry in
    ⊎_elim (λ new. there new.1.start (in_slab_new sound at new.1)) (λ was. there was.1.start (in_slab_old sound at place was.1)) placed.block
