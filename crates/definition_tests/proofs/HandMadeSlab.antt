-- Images that are made by hand, with a slab that takes or took another class: what their tables share.
--
-- In an arena of 16 granules root 0 names eight granules from granule 4 on. The slab at granule 12 was of class 3, of
-- blocks of 64 bytes, and comes to be of class 19, of 1024 bytes. Its index table has the old block 0, which is root 1's,
-- and its bitmap the block 1, which is root 2's once it is read.
use Rattle.std.proofs.Common.{◌≡◌, ◌≢◌, ◌⊎◌, ◌==◌, ◌&&◌, ℕ, zero, suc, ◌+◌, ◌<◌, ◌≤◌, Option, Some, None, refl, sym, ap, subst, ◌∙◌, arith, inl, inr, ⊎_elim}
use Rattle.std.proofs.lemmas.Bool.{cases_eq, cases_lt, eqb-true}
use Rattle.size_classes.specs.Classes.{class_size, sizes}
use Rattle.image_tables.specs.declared.entry.WalEntry.{WalEntry}
use Rattle.image_tables.specs.Tables.{Tables}
use Rattle.heap_model.specs.Machine.{Range, AreApart, slab_block}
use Rattle.heap_check.specs.Heap.{entry_at, is_large, slab_of, is_old_of, IsClaim, Holds, HoldsBit, HoldsOld}
use Rattle.heap_check.specs.Sound.{IsValidSlab, IsOpen, IsStanding}
use Rattle.definition_tests.proofs.HandMadeParts.{only, bounds, no_claim, HasExtents, HasBlocks}

-- By the slab's kind, the words of roots 1 and 2, and the open entry. That is never one of a move, so that each root holds
-- its word.

unfoldable pub words_of : ℕ → ℕ → ℕ → ℕ
words_of old_word new_word zero = 65536
words_of old_word new_word (suc zero) = old_word
words_of old_word new_word (suc (suc zero)) = new_word
words_of old_word new_word (suc (suc (suc r))) = 0

unfoldable pub tables : ℕ → ℕ → ℕ → Option WalEntry → Tables
tables kind old_word new_word entry = record {
  word = words_of old_word new_word;
  root = words_of old_word new_word;
  open_entry = entry;
  large = λ g. only 4 8 g;
  slab = λ g. g == 12;
  header = λ g. record {
    kind = only 12 kind g;
    class = only 12 19 g;
    old = only 12 3 g;
    index_count = only 12 1 g;
    bit = λ i. (g == 12) && (i == 1);
    live = λ place. (g == 12) && (place == 0);
    number = λ place. 0;
  };
}

abbrev pub old_block : Range
old_block = slab_block 12 3 0

abbrev pub new_block : Range
new_block = slab_block 12 19 1

module _ (kind old_word new_word : ℕ) (entry : Option WalEntry) where
  abbrev image : Tables
  image = tables kind old_word new_word entry

  pub extents : HasExtents (tables kind old_word new_word entry) 12 8
  unfolding tables
  extents = record { slab = λ g. refl; large = λ g. refl; before = omega arith; behind = omega arith }

  pub slab_valid : (kind ≡ 2) ⊎ (kind ≡ 3) → IsValidSlab ((tables kind old_word new_word entry).header 12)
  unfolding tables class_size sizes
  slab_valid transit = record {
    state = record {
      kinds = inr transit;
      is_class = omega arith;
      is_old_class = omega arith;
      none = λ normal. absurd (⊎_elim (λ is. omega (arith, normal, is)) (λ is. omega (arith, normal, is)) transit);
      differ = λ other same. omega (arith, same);
      number = λ other. (omega arith, omega arith);
    };
    small = λ place below. omega arith;
    once = λ place other below also same. omega (arith, below, also);
  }

  -- what the slab holds

  pub Holds-old : Holds (tables kind old_word new_word entry) 12 old_block
  unfolding tables
  Holds-old = record { slab = refl; block = inr (record { place = 0; below = omega arith; live = refl; is = refl }) }

  pub Holds-new : kind ≢ 2 → Holds (tables kind old_word new_word entry) 12 new_block
  unfolding tables class_size sizes
  Holds-new read = record { slab = refl; block = inl (record { number = 1; below = omega arith; read = read; set = refl; is = refl }) }

  pub held_is : (range : Range) → Holds (tables kind old_word new_word entry) 12 range → (range ≡ old_block) ⊎ ((kind ≢ 2) × (range ≡ new_block))
  unfolding tables
  held_is range holds = ⊎_elim
      (λ (bit : HoldsBit (image.header 12) 12 range). inr (bit.read, bit.is ∙ ap (slab_block 12 19) (eqb-true bit.number 1 bit.set)))
      (λ (old : HoldsOld (image.header 12) 12 range). inl old.is)
      holds.block

-- The blocks of roots are these at most, and then they are apart, one behind the other.

abbrev IsBlock : ℕ → Range → Type 0
IsBlock root range =
    ((root ≡ 0) × (range.at ≡ 65536) × (range.size ≡ 131072)) ⊎ (((root ≡ 1) × (range.at ≡ 198656) × (range.size ≡ 64)) ⊎ ((root ≡ 2) × (range.at ≡ 199680) × (range.size ≡ 1024)))

in_order : (root other : ℕ) (range another : Range) → IsBlock root range → IsBlock other another → root < other → range.at + range.size ≤ another.at
in_order root other range another first second less = grind (arith, first, second)

apart_by : (t : Tables) → ((root : ℕ) (range : Range) → IsClaim t root range → IsBlock root range) → (root other : ℕ) (range another : Range) → root ≢ other → IsClaim t root range → IsClaim t other another → AreApart range another
apart_by t is root other range another differ first second = ⊎_elim
    (λ (before : root < other). inl (in_order root other range another (is root range first) (is other another second) before))
    (λ (behind : other ≤ root). inr (in_order other root another range (is other another second) (is root range first) (omega arith)))
    (cases_lt root other)

-- The words of roots 1 and 2 are those of the two blocks, or 0; the open entry, if any, names root 1; root 1 has the old
-- block, and root 2 that of the new class once it is read.
pub record AreRoots (kind old_word new_word : ℕ) (entry : Option WalEntry) : Type 0 where
  pub old_word_is : old_word ≢ 0 → old_word ≡ 198656
  pub new_word_is : new_word ≢ 0 → (kind ≢ 2) × (new_word ≡ 199680)
  pub unnamed : (root : ℕ) → root ≢ 1 → entry_at entry root ≡ 0
  pub open_entry : (e : WalEntry) → entry ≡ Some e → IsOpen bounds (tables kind old_word new_word entry) e
  pub old_claim : IsClaim (tables kind old_word new_word entry) 1 old_block
  pub new_claim : kind ≢ 2 → IsClaim (tables kind old_word new_word entry) 2 new_block

-- where no entry is open, root 1 has its word, and root 2 where bits are read
pub closed_roots : (kind new_word : ℕ) → (new_word ≢ 0 → (kind ≢ 2) × (new_word ≡ 199680)) → (kind ≢ 2 → new_word ≡ 199680) → AreRoots kind 198656 new_word None
unfolding tables words_of is_large slab_of is_old_of class_size sizes
closed_roots kind new_word new_word_is read_word = record {
  old_word_is = λ some. refl;
  new_word_is = new_word_is;
  unnamed = λ root other. refl;
  open_entry = λ e is. absurd (cc is);
  old_claim = record { some = omega arith; place = refl; wide = refl };
  new_claim = λ read. subst (λ w. IsClaim (tables kind 198656 w None) 2 new_block) (sym (read_word read)) (record { some = omega arith; place = refl; wide = refl });
}

module _ {kind old_word new_word : ℕ} {entry : Option WalEntry} (roots : AreRoots kind old_word new_word entry) where
  abbrev t : Tables
  t = tables kind old_word new_word entry

  claims : (root : ℕ) (range : Range) → IsClaim (tables kind old_word new_word entry) root range → IsBlock root range
  unfolding tables words_of is_large slab_of is_old_of class_size sizes
  claims zero range claim = inl (refl, sym claim.place, sym claim.wide)
  claims (suc zero) range claim = inr (inl (refl, sym claim.place ∙ roots.old_claim.place, sym claim.wide ∙ roots.old_claim.wide))
  claims (suc (suc zero)) range claim = ⊎_elim
      (λ (none : new_word ≡ 0). absurd (no_claim t 2 range none (roots.unnamed 2 (omega arith)) claim))
      (λ (some : new_word ≢ 0). let its = roots.new_claim (roots.new_word_is some).0 in inr (inr (refl, sym claim.place ∙ its.place, sym claim.wide ∙ its.wide)))
      (cases_eq new_word 0)
  claims (suc (suc (suc root))) range claim = absurd (no_claim t (suc (suc (suc root))) range refl (roots.unnamed (suc (suc (suc root))) (omega arith)) claim)

  stands : (root : ℕ) → (tables kind old_word new_word entry).root root ≢ 0 → IsStanding (tables kind old_word new_word entry) root ((tables kind old_word new_word entry).root root)
  unfolding tables words_of is_large class_size sizes
  stands zero some = inl refl
  stands (suc zero) some = inr (inl (record { start = 12; range = old_block; holds = Holds-old kind old_word new_word entry; here = sym (roots.old_word_is some) }))
  stands (suc (suc zero)) some =
      let new = roots.new_word_is some in
      inr (inl (record { start = 12; range = new_block; holds = Holds-new kind old_word new_word entry new.0; here = sym new.1 }))
  stands (suc (suc (suc root))) some = absurd (some refl)

  open_as : (e : WalEntry) → (tables kind old_word new_word entry).open_entry ≡ Some e → IsOpen bounds (tables kind old_word new_word entry) e
  unfolding tables
  open_as = roots.open_entry

  pub has_blocks : (kind ≡ 2) ⊎ (kind ≡ 3) → HasBlocks (tables kind old_word new_word entry) 12
  has_blocks transit = record {
    slab = slab_valid kind old_word new_word entry transit;
    open_entry = open_as;
    rooted = stands;
    apart = apart_by t claims;
    claimed = λ range holds. ⊎_elim
        (λ is. (1, subst (IsClaim t 1) (sym is) roots.old_claim))
        (λ is. (2, subst (IsClaim t 2) (sym is.1) (roots.new_claim is.0)))
        (held_is kind old_word new_word entry range holds);
  }
