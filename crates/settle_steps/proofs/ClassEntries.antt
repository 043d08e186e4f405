-- An open place entry of a block of the slab's class: which block of the slab it is.
use Rattle.std.proofs.Common.{◌≡◌, ℕ, ◌+◌, ◌-◌, ◌*◌, ◌/◌, ◌<◌, ◌≤◌, Bool, true, false, true≢false, List, refl, sym, ap, subst, ◌∙◌, arith, ⊎_elim}
use Rattle.std.proofs.Math.Nat.{mul-div_cancel}
use Rattle.settle_steps.proofs.Common.{class_size, class_capacity, class_size-least, WalEntry, Place, Tables, is_slab, tables_of, slab_table, Bounds, slab_block, IsInSlab, IsNewEntry, IsOpenPlace, IsSound, bounds_of, one_slab}
use Rattle.settle_steps.specs.Settled.{IsOpenIn}
use Rattle.settle_steps.specs.ClassBlocks.{IsOpenForBlock}
use Rattle.settle_steps.specs.Entries.{number_at, class_block, LiesInSlab}
use Rattle.settle_steps.proofs.EntrySlabs.{in_slab_new}
use Rattle.settle_steps.proofs.Images.{entry_is}

-- an entry by what its flag is
pub flag_is : {entry : WalEntry} {root at place : ℕ} {old flag : Bool} → entry ≡ Place root at old place → old ≡ flag → entry ≡ Place root at flag place
flag_is {entry} {root} {at} {place} is same = is ∙ ap (λ o. Place root at o place) same

-- the block of the class that stands at the address, in the slab that has it
record IsBlockThere (t : Tables) (start at : ℕ) : Type 0 where
  pub number : ℕ
  pub below : number < class_capacity (t.header start).class
  pub is : at ≡ (slab_block start (t.header start).class number).at

block_there : {b : Bounds} {t : Tables} → IsSound b t → (start at : ℕ) → IsNewEntry t at → IsInSlab t start at → IsBlockThere t start at
block_there {b} {t} sound start at entry inside =
    subst (λ s. IsBlockThere t s at) (one_slab sound entry.start start at (in_slab_new sound at entry) inside) (record { number = entry.number; below = entry.below; is = entry.is })

module _ {words : List ℕ} {line root at place : ℕ} {entry : WalEntry} (start : ℕ) (line_below : line < 8) (is : entry ≡ Place root at false place) (opened : IsOpenIn words line entry) (lies : LiesInSlab (tables_of words) start entry) where
  abbrev t : Tables
  t = tables_of words

  open_in : IsOpenIn words line (Place root at false place)
  open_in = subst (λ (e : WalEntry). IsOpenIn words line e) is opened

  inside : IsInSlab (tables_of words) start at
  inside = subst (λ (e : WalEntry). LiesInSlab (tables_of words) start e) is lies

  sound : IsSound (bounds_of words) t
  sound = open_in.image.steady.sound

  placed : IsOpenPlace (bounds_of words) t root at false place
  placed = (sound.owned.open_entry (Place root at false place) (entry_is words line line_below (Place root at false place) open_in)).entry

  there : IsBlockThere t start at
  there = ⊎_elim (λ class. block_there sound start at class.1 inside) (λ old. absurd (true≢false (sym old.0))) placed.block

  -- it lies behind the header
  pub block_behind : 16384 * start + 2048 ≤ at
  block_behind = omega (arith, there.is)

  pub slab_here : is_slab words start ≡ true
  slab_here = sym (slab_table words start) ∙ inside.slab

  number_is : number_at t start at ≡ there.number
  number_is =
      let some = class_size-least (t.header start).class (sound.slabs start inside.slab).state.is_class in
      let off : at - (16384 * start + 2048) ≡ there.number * class_size (t.header start).class = omega (arith, there.is) in
      ap (λ n. n / class_size (t.header start).class) off ∙ mul-div_cancel there.number (omega (arith, some))

  pub block_open : IsOpenForBlock words line root (class_block (tables_of words) start at)
  block_open = record {
    open_in = subst (λ p. IsOpenIn words line (Place root at false p)) (open_in.here.fits.2 refl) open_in;
    slab = inside.slab;
    below = omega (arith, number_is, there.below);
    at = there.is ∙ ap (λ n. (slab_block start (t.header start).class n).at) (sym number_is);
  }
