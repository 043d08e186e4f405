-- What a slab holds stays while it takes another class.
use Rattle.std.proofs.Common.{◌≡◌, ◌↔◌, ◌≢◌, ◌||◌, ◌<◌, ⊎_elim, inl, inr, ℕ, Bool, true, false, true≢false, ltb, List, length, get_or, refl, sym, ap, ◌∙◌, subst, arith}
use Rattle.slab_morph.proofs.Common.{lt-ltb, cond-true, class_capacity, Tables, SlabHeader, normal_kind, morphing_kind, morphed_kind, numbers_below, Range, slab_block, Holds, HoldsBit, HoldsOld}
use Rattle.slab_morph.specs.SlabHeaders.{alone}
use Rattle.slab_morph.specs.Stages.{set_numbers, morphing, finished, settled, IsSameButIndex, IsSameButBits, HoldSame}
use Rattle.slab_morph.proofs.Numbers.{numbers_pass, numbers_among}

-- the same blocks are held as before, and once more
pub same_none : (start : ℕ) (h : SlabHeader) → HoldSame start h h
same_none start h = record { each = λ range. (λ holds. holds, λ holds. holds) }

pub same_then : (start : ℕ) (h g k : SlabHeader) → HoldSame start h g → HoldSame start g k → HoldSame start h k
same_then start h g k first second = record { each = λ range. (λ holds. (first.each range).0 ((second.each range).0 holds), λ holds. (second.each range).1 ((first.each range).1 holds)) }

-- by either kind of block
by_blocks : (start : ℕ) (h g : SlabHeader) → ((range : Range) → HoldsBit g start range → Holds (alone h) start range) → ((range : Range) → HoldsOld g start range → Holds (alone h) start range) →
    (range : Range) → Holds (alone g) start range → Holds (alone h) start range
by_blocks start h g bits olds range holds = ⊎_elim (λ bit. bits range bit) (λ old. olds range old) holds.block

held_bit : {start : ℕ} {h : SlabHeader} {range : Range} → HoldsBit h start range → Holds (alone h) start range
held_bit {start} {h} {range} bit = record { slab = refl; block = inl bit }

held_old : {start : ℕ} {h : SlabHeader} {range : Range} → HoldsOld h start range → Holds (alone h) start range
held_old {start} {h} {range} old = record { slab = refl; block = inr old }

-- bits that are the same are held the same
bit_kept : (start : ℕ) (h g : SlabHeader) (range : Range) → g.kind ≡ h.kind → g.class ≡ h.class → g.bit ≡ h.bit → HoldsBit g start range → HoldsBit h start range
bit_kept start h g range kind class bits bit = record {
  number = bit.number;
  below = subst (λ (c : ℕ). bit.number < class_capacity c) class bit.below;
  read = λ is. bit.read (kind ∙ is);
  set = sym (ap (λ (f : ℕ → Bool). f bit.number) bits) ∙ bit.set;
  is = bit.is ∙ ap (λ c. slab_block start c bit.number) class;
}

-- and so are index entries
old_kept : (start : ℕ) (h g : SlabHeader) (range : Range) → g.old ≡ h.old → g.index_count ≡ h.index_count → g.live ≡ h.live → g.number ≡ h.number → HoldsOld g start range → HoldsOld h start range
old_kept start h g range olds entries lives numbers old = record {
  place = old.place;
  below = subst (λ (n : ℕ). old.place < n) entries old.below;
  live = sym (ap (λ (f : ℕ → Bool). f old.place) lives) ∙ old.live;
  is = old.is ∙ (λ i. slab_block start (olds i) (numbers i old.place));
}

-- the index table of a normal slab is not read
pub same_index : (start : ℕ) (h g : SlabHeader) → h.index_count ≡ 0 → IsSameButIndex h g → HoldSame start h g
same_index start h g none same = record {
  each = λ range. (
    by_blocks start h g
        (λ range bit. held_bit (bit_kept start h g range same.state.kind same.state.class same.bit bit))
        (λ range old. absurd (omega (arith, old.below, same.state.index_count, none)))
        range,
    by_blocks start g h
        (λ range bit. held_bit (bit_kept start g h range (sym same.state.kind) (sym same.state.class) (sym same.bit) bit))
        (λ range old. absurd (omega (arith, old.below, none)))
        range,
  );
}

-- the bits of a slab in Morphing are not read
pub same_bits : (start : ℕ) (h g : SlabHeader) → h.kind ≡ morphing_kind → IsSameButBits h g → HoldSame start h g
same_bits start h g is same = record {
  each = λ range. (
    by_blocks start h g
        (λ range bit. absurd (bit.read (same.state.kind ∙ is)))
        (λ range old. held_old (old_kept start h g range same.state.old same.state.index_count same.live same.number old))
        range,
    by_blocks start g h
        (λ range bit. absurd (bit.read is))
        (λ range old. held_old (old_kept start g h range (sym same.state.old) (sym same.state.index_count) (sym same.live) (sym same.number) old))
        range,
  );
}

-- no bit is left that could be read in Morphed
pub same_finished : (start : ℕ) (h : SlabHeader) → h.kind ≡ morphing_kind → HoldSame start h (finished h)
same_finished start h is = record {
  each = λ range. (
    by_blocks start h (finished h)
        (λ range bit. absurd (true≢false (sym bit.set)))
        (λ range old. held_old (old_kept start h (finished h) range refl refl refl refl old))
        range,
    by_blocks start (finished h) h
        (λ range bit. absurd (bit.read is))
        (λ range old. held_old (old_kept start (finished h) h range refl refl refl refl old))
        range,
  );
}

-- no old block is left that would be read no more
pub same_settled : (start : ℕ) (h : SlabHeader) → h.kind ≡ morphed_kind → ((place : ℕ) → place < h.index_count → h.live place ≡ false) → HoldSame start h (settled h)
same_settled start h is none =
    let told : h.kind ≢ morphing_kind = λ e. omega (arith, e, is) in
    let normal : normal_kind ≢ morphing_kind = λ e. omega (arith, e) in
    record {
      each = λ range. (
        by_blocks start h (settled h)
            (λ range bit. held_bit (record { number = bit.number; below = bit.below; read = told; set = bit.set; is = bit.is }))
            (λ range old. absurd (omega (arith, old.below)))
            range,
        by_blocks start (settled h) h
            (λ range bit. held_bit (record { number = bit.number; below = bit.below; read = normal; set = bit.set; is = bit.is }))
            (λ range old. absurd (true≢false (sym old.live ∙ none old.place old.below)))
            range,
      );
    }

-- The blocks of a normal slab stand in the index table when it is read.
module _ (start class : ℕ) (h : SlabHeader) (normal : h.kind ≡ normal_kind) (none : h.index_count ≡ 0) where
  abbrev numbers : List ℕ
  numbers = set_numbers h

  pub in_place : (place : ℕ) → place < length numbers → (morphing h class).number place ≡ get_or numbers place 0
  in_place place below = cond-true (ltb place (length numbers)) (get_or numbers place 0) (h.number place) (lt-ltb place (length numbers) below)

  lives : (place : ℕ) → place < length numbers → (morphing h class).live place ≡ true
  lives place below = ap (λ b. b || h.live place) (lt-ltb place (length numbers) below)

  pub same_morphing : HoldSame start h (morphing h class)
  same_morphing = record {
    each = λ range. (
      by_blocks start h (morphing h class)
          (λ range bit. absurd (bit.read refl))
          (λ range old.
          let passes = numbers_pass h.bit (class_capacity h.class) old.place old.below in
          held_bit (record {
            number = get_or numbers old.place 0;
            below = passes.below;
            read = λ e. omega (arith, e, normal);
            set = passes.is;
            is = old.is ∙ ap (slab_block start h.class) (in_place old.place old.below);
          }))
          range,
      by_blocks start (morphing h class) h
          (λ range bit.
          let place = length (numbers_below h.bit bit.number) in
          let among = numbers_among h.bit (class_capacity h.class) bit.number bit.set bit.below in
          held_old (record {
            place = place;
            below = among.below;
            live = lives place among.below;
            is = bit.is ∙ ap (slab_block start h.class) (sym (in_place place among.below ∙ among.is));
          }))
          (λ range old. absurd (omega (arith, old.below, none)))
          range,
    );
  }

-- What a slab of an arena holds is what its header says.
pub Holds-slab : (t : Tables) (start : ℕ) → t.slab start ≡ true → (range : Range) → Holds t start range ↔ Holds (alone (t.header start)) start range
Holds-slab t start is range = (λ holds. record { slab = refl; block = holds.block }, λ holds. record { slab = is; block = holds.block })
