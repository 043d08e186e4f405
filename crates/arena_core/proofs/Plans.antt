-- What the reads before a call say of the tables of an exact image: the slabs of the set, the best fits of the vacant
-- granules, and what a root names.
use Rattle.std.proofs.Common.{◌≡◌, ◌≢◌, ℕ, ◌+◌, ◌-◌, ◌*◌, ◌/◌, ◌<◌, ◌≤◌, true, false, sym, ap, ◌∙◌, arith, List, Some, ◌↔◌}
use Rattle.arena_core.proofs.Common.{word_at, root_word, HasNoMove-closed, IsHeldBy, class_size, class_capacity, class_size-least, class_size-most, Tables, tables_of, Bounds, Range, slab_block, IsBestSlab, HasNoFitSlab, IsBestFit, HasNoFit, SlabBlock, class_in, FreeSet, IsFree, entry_at, HoldsBit, IsUnusedIn, is_old, IsVacant, bounds_of, IsExactImage, sizes_of, plain_size, IsClaim-word, granules_at-slab, granules_at-live, IsInSlab-held, IsWithin-claim, Holds-claim, IsIndexOf, IsSlabsOf, Supply, MayBeGiven, IsInNoSlabOf, HasNoOpen, IsAskedOf, IsVacantRow, tables_view, IsMorphable, IsPlacing, IsTakable, IsNamedSmall, IsClassOf, Small, Morph, Fresh, Held, is_old-held, slab_parts}
use Rattle.std.proofs.lemmas.Nat.{le-div}
use Rattle.size_classes.specs.Classes.{granules_of}
use Rattle.heap_model.specs.Choice.{HasNoSite, slab_view}
use Rattle.heap_model.proofs.Fits.{IsBestFit-same, HasNoFit-same, fit_free}
use Rattle.heap_check.proofs.Geometry.{is_large-parts}
use Rattle.arena_core.specs.declared.plan.Place.TheVariants.{Large}
use Rattle.block_supply.specs.Supply.{IsInSlabOf}
use Rattle.image_tables.proofs.Tables.{root_table}
use Rattle.arena_core.specs.Plan.{IsSlabAt, IsRootIn}
use Rattle.heap_check.proofs.LargeLogs.{large_many}

-- slabs

-- a slab has a block
pub class_capacity-some : (class : ℕ) → class < 36 → 0 < class_capacity class
class_capacity-some class is_class = grind (arith, class_size-least, class_size-most, le-div)

module _ {set : Supply} {words : List ℕ} (parts : IsSlabsOf set words) where
  -- a slab of the supply is one of the tables
  pub slab_of_set : (start class : ℕ) → class_in set.slabs start ≡ Some class → ((tables_of words).slab start ≡ true) × (((tables_of words).header start).class ≡ class)
  slab_of_set start class is = slab_parts (tables_of words) start class (sym (parts.classes start) ∙ is)

  -- and a slab of the tables is one of the supply
  pub slab_in_set : (start class : ℕ) → (tables_of words).slab start ≡ true → ((tables_of words).header start).class ≡ class → class_in set.slabs start ≡ Some class
  slab_in_set start class slab is = grind arith

  -- a block of the supply is open where it is unused
  pub block_is : (start class i : ℕ) → (tables_of words).slab start ≡ true → ((tables_of words).header start).class ≡ class → i < class_capacity class → MayBeGiven set start i ↔ IsUnusedIn (tables_of words) start class i
  block_is start class i slab is below = grind arith

-- the granules of a best fit are vacant
IsVacantRow-fit : (b : Bounds) (t : Tables) (n start : ℕ) → 0 < n → IsBestFit (IsVacant b t) n start → IsVacantRow b t start n
IsVacantRow-fit b t n start some fit = let vacant = λ (k : ℕ). fit_free (IsVacant b t) n start k fit in grind arith

module _ {set : FreeSet} {words : List ℕ} (index : IsIndexOf set words) (root size : ℕ) where
  -- the best fit for a large request
  pub placing_large : (start count : ℕ) → 2 ≤ count → IsBestFit (IsFree set) count start → IsAskedOf (bounds_of words) (tables_of words) root size → 16384 < size → count ≡ granules_of size →
      IsPlacing (bounds_of words) (tables_of words) root size (Large start count)
  placing_large start count many fit asked large is =
      let vacant = IsBestFit-same (IsFree set) (IsVacant (bounds_of words) (tables_of words)) count start index.each fit in
      grind (arith, IsVacantRow-fit (bounds_of words) (tables_of words) count start (omega arith) vacant)

  pub no_site_large : 16384 < size → HasNoFit (IsFree set) (granules_of size) → HasNoSite (tables_view (bounds_of words) (tables_of words)) size
  no_site_large large none = grind (arith, HasNoFit-same)

  module _ {parts : Supply} (slabs : IsSlabsOf parts words) where
    -- a block of a class that is open
    pub placing_small : (class at : ℕ) (block : SlabBlock) → IsClassOf size class → class_in parts.slabs block.start ≡ Some class → block.number < class_capacity class → MayBeGiven parts block.start block.number → at ≡ (slab_block block.start class block.number).at →
        IsPlacing (bounds_of words) (tables_of words) root size (Small (record { start = block.start; number = block.number; at = at }) class)
    placing_small class at block least slab within is_open at_is = grind arith

    -- a slab that takes the class for it
    pub placing_morph : (class start : ℕ) → IsClassOf size class → HasNoOpen parts class → IsBestSlab (slab_view (tables_view (bounds_of words) (tables_of words))) class start × IsMorphable (tables_of words) start class →
        IsPlacing (bounds_of words) (tables_of words) root size (Morph start class)
    placing_morph class start least none found = grind arith

    -- a new slab for it
    pub placing_fresh : (class start : ℕ) → IsClassOf size class → HasNoOpen parts class → HasNoFitSlab (slab_view (tables_view (bounds_of words) (tables_of words))) class → IsBestFit (IsFree set) 4 start →
        IsPlacing (bounds_of words) (tables_of words) root size (Fresh start class)
    placing_fresh class start least none no_fit fit =
        let vacant = IsBestFit-same (IsFree set) (IsVacant (bounds_of words) (tables_of words)) 4 start index.each fit in
        grind (arith, class_capacity-some, IsVacantRow-fit (bounds_of words) (tables_of words) 4 start (omega arith) vacant)

    pub no_site_small : (class : ℕ) → IsClassOf size class → HasNoOpen parts class → HasNoFitSlab (slab_view (tables_view (bounds_of words) (tables_of words))) class → HasNoFit (IsFree set) 4 → HasNoSite (tables_view (bounds_of words) (tables_of words)) size
    no_site_small class least none no_fit no_run = grind (arith, HasNoFit-same)

-- what a root names

module _ {words : List ℕ} (image : IsExactImage words) where
  abbrev t : Tables
  t = tables_of words

  unnamed : (root : ℕ) → entry_at (tables_of words).open_entry root ≡ 0
  unnamed root = ap (λ e. entry_at e root) image.exact.closed

  -- a root's word is the one at its place
  pub root_is : (root : ℕ) → root < (bounds_of words).roots → (tables_of words).root root ≡ word_at words (root_word root)
  root_is root below = root_table words root (HasNoMove-closed image.exact.closed) below

  -- a root's word is below that of the largest arena's end
  pub word_small : (root : ℕ) → (tables_of words).root root < 67108864
  word_small root =
      let within = λ (some : t.root root ≢ 0). IsWithin-claim image.exact.sound root _ (unnamed root) (IsClaim-word t root (unnamed root) some) in
      grind (arith, sizes_of)

  -- a root's word in a slab is the address of a block of its class, where no live old block begins there
  pub block_at_root : (root at start class : ℕ) → IsSlabAt (tables_of words) start class → IsRootIn (bounds_of words) (tables_of words) root start at → is_old ((tables_of words).header start) start at ≡ false →
      (number : ℕ) × IsNamedSmall (bounds_of words) (tables_of words) root (record { start = start; number = number; at = at }) class
  block_at_root root at start class is named new =
      let range : Range = record { at = t.root root; size = plain_size t (t.root root) } in
      let some : t.root root ≢ 0 = grind (arith, granules_at-slab, sizes_of) in
      let holds = Holds-claim image.exact.sound root start range (unnamed root) (IsClaim-word t root (unnamed root) some) (rw named.named named.inside) in
      let bit : HoldsBit (t.header start) start range = grind (arith, is_old-held) in
      (bit.number, grind (arith, sizes_of, granules_at-slab))

  -- what is held is so in an arena that is not too large
  pub held_known : (root : ℕ) (held : Held) → IsHeldBy (bounds_of words) (tables_of words) root held → (bound : Bounds) × (tables : Tables) × (r : ℕ) × IsHeldBy bound tables r held × (bound.granules < 65536)
  held_known root held is = (bounds_of words, tables_of words, root, is, omega (arith, (sizes_of words image.formed).most))

  -- a root's word in a slab of the set
  pub root_in : {set : Supply} → IsSlabsOf set words → (root at start class : ℕ) → root < (bounds_of words).roots → at ≡ (tables_of words).root root → IsInSlabOf (class_in set.slabs) (at / 16384) start class →
      IsSlabAt (tables_of words) start class × IsRootIn (bounds_of words) (tables_of words) root start at
  root_in {set} parts root at start class rooted is inside = grind arith

  -- a slab begins below the largest arena's end
  pub slab_few : {set : Supply} → IsSlabsOf set words → (start class : ℕ) → class_in set.slabs start ≡ Some class → start < 4096
  slab_few parts start class is = grind (arith, granules_at-slab, slab_of_set, sizes_of)

  -- the number of a block that a root names, by its address
  pub named_by_number : (root at start class base size : ℕ) → base ≡ 16384 * start + 2048 → size ≡ class_size class → (number : ℕ) × IsNamedSmall (bounds_of words) (tables_of words) root (record { start = start; number = number; at = at }) class →
      IsNamedSmall (bounds_of words) (tables_of words) root (record { start = start; number = (at - base) / size; at = at }) class
  named_by_number root at start class base size begins wide block =
      let same : (at - base) / size ≡ block.0 = grind (arith, class_size-least, image.exact.sound.slabs start) in
      rw same block.1

  -- a root's word that lies in no slab is the start of a large extent
  pub takable_outside : {set : Supply} → IsSlabsOf set words → (root : ℕ) → root < (bounds_of words).roots → (tables_of words).root root ≢ 0 → IsInNoSlabOf (class_in set.slabs) ((tables_of words).root root / 16384) →
      IsTakable (bounds_of words) (tables_of words) root ((tables_of words).root root / 16384) ((tables_of words).large ((tables_of words).root root / 16384))
  takable_outside {set} parts root rooted some outside = grind (arith, IsInSlab-held, slab_in_set, unnamed, is_large-parts t.large (t.root root), granules_at-live, large_many, sizes_of words image.formed)
