-- Images that are made by hand, with one small block: what their tables share.
--
-- The slab, of class 6, of blocks of 112 bytes, holds its block 0 alone. A large extent has so many granules, or none.
use Rattle.std.proofs.Common.{◌≡◌, ◌==◌, ◌&&◌, ℕ, ◌+◌, ◌<◌, ◌≤◌, true, false, Option, refl, sym, ap, subst, ◌∙◌, arith, inl, ⊎_elim}
use Rattle.std.proofs.lemmas.Bool.{cond-true, eq-eqb, eqb-true}
use Rattle.size_classes.specs.Classes.{class_size, class_capacity, sizes}
use Rattle.image_tables.specs.declared.entry.WalEntry.{WalEntry}
use Rattle.image_tables.specs.Tables.{Tables, held_of}
use Rattle.heap_model.specs.Machine.{Range, slab_block}
use Rattle.heap_check.specs.Heap.{Holds, HoldsBit, HoldsOld}
use Rattle.heap_check.specs.Sound.{IsValidSlab}
use Rattle.definition_tests.proofs.HandMadeParts.{only, HasExtents, normal_slab}

-- by the granules at which the slab starts and that the large extent has, the words of roots, and the open entry
unfoldable pub tables : ℕ → ℕ → (ℕ → ℕ) → Option WalEntry → Tables
tables start count words entry = record {
  word = words;
  root = held_of entry words;
  open_entry = entry;
  large = λ g. only 4 count g;
  slab = λ g. g == start;
  header = λ g. record {
    kind = only start 1 g;
    class = only start 6 g;
    old = 0;
    index_count = 0;
    bit = λ i. (g == start) && (i == 0);
    live = λ place. false;
    number = λ place. 0;
  };
}

only_here : (key value : ℕ) → only key value key ≡ value
only_here key value = cond-true (key == key) value 0 (eq-eqb key key refl)

first_small : 0 < class_capacity 6
unfolding class_size sizes
first_small = omega arith

module _ (start count : ℕ) (words : ℕ → ℕ) (entry : Option WalEntry) where
  abbrev image : Tables
  image = tables start count words entry

  pub extents : 4 + count ≤ start → start + 4 ≤ 16 → HasExtents (tables start count words entry) start count
  unfolding tables
  extents before behind = record { slab = λ g. refl; large = λ g. refl; before = before; behind = behind }

  pub slab_valid : IsValidSlab ((tables start count words entry).header start)
  unfolding tables
  slab_valid = normal_slab (image.header start) (only_here start 1) (omega (arith, only_here start 6)) refl refl

  -- what the slab holds

  pub Holds-block : Holds (tables start count words entry) start (slab_block start 6 0)
  unfolding tables
  Holds-block = record {
    slab = eq-eqb start start refl;
    block = inl (record {
      number = 0;
      below = subst (λ c. 0 < class_capacity c) (sym (only_here start 6)) first_small;
      read = λ morphing. omega (arith, morphing, only_here start 1);
      set = ap (λ here. here && (0 == 0)) (eq-eqb start start refl);
      is = ap (λ c. slab_block start c 0) (sym (only_here start 6));
    });
  }

  pub held_is : (range : Range) → Holds (tables start count words entry) start range → range ≡ slab_block start 6 0
  unfolding tables
  held_is range holds = ⊎_elim
      (λ (bit : HoldsBit (image.header start) start range).
      let set : (bit.number == 0) ≡ true = ap (λ here. here && (bit.number == 0)) (sym (eq-eqb start start refl)) ∙ bit.set in
      bit.is ∙ ap (λ c. slab_block start c bit.number) (only_here start 6) ∙ ap (slab_block start 6) (eqb-true bit.number 0 set))
      (λ (old : HoldsOld (image.header start) start range). absurd (omega (arith, old.below)))
      holds.block
