-- Blocks that a slab holds, by address.
use Rattle.std.proofs.Common.{◌≡◌, ◌≢◌, ◌⊎◌, ◌↔◌, ℕ, ◌+◌, ◌-◌, ◌*◌, ◌/◌, ◌%◌, ◌^◌, ◌<◌, ◌≤◌, Bool, true, false, ◌&&◌, ltb, eqb, List, refl, sym, ap, subst, ◌∙◌, arith, inl, inr, ⊎_elim, IsTrue}
use Rattle.std.proofs.lemmas.Bool.{false≢true, true≢false, cond-true, eq-eqb, ne_eqb, eqb-true, false_from_ne_true}
use Rattle.std.proofs.Math.Nat.{mul-div_cancel}
use Rattle.size_classes.specs.Classes.{class_size, class_capacity}
use Rattle.size_classes.proofs.Spacing.{class_size-least}
use Rattle.pmem_lines.specs.Words.{word_at}
use Rattle.image_tables.specs.Tables.{Tables, is_slab, state_word, state_field, tables_of}
use Rattle.image_tables.proofs.Tables.{slab_table, slab_fields}
use Rattle.heap_model.specs.Machine.{Range, LiesIn, slab_block}
use Rattle.heap_model.proofs.Slabbing.{LiesIn-block}
use Rattle.heap_check.specs.Sound.{IsValidSlab, IsHeld, IsStanding}
use Rattle.heap_check.specs.Heap.{is_large, entry_at, HoldsBit, HoldsOld}
use Rattle.slab_header.specs.State.{IsWordOfState, IsNoStateWord, SaysOfState}
use Rattle.image_reading.specs.declared.slab.Slab.{Slab}
use Rattle.image_reading.specs.Slabs.{IsSlabAt, IsRead}
use Rattle.image_defects.specs.Headers.{IsGoodSlab}
use Rattle.image_reading.specs.Held.{IsHeldBy, HasBitAt, HasOldAt, IsNumberAt, HasNoNumber, HasNoBack, IsReadBack, AreSlabsAt}
use Rattle.pool_layout.specs.Header.{version_in, granules_in}
use Rattle.pool_layout.proofs.Layouts.{layout_rules}
use Rattle.image_reading.specs.Extents.{HasExtents}
use Rattle.heap_check.proofs.Geometry.{is_large-parts, granules_at-slab, granules_at-large}
use Rattle.image_defects.proofs.SlabDefects.{has_state}

-- what begins so many granules before another granule has the property
pub record IsBack (Has : ℕ → Type 0) (last back : ℕ) : Type 0 where
  pub start : ℕ
  pub is : start + back ≡ last
  pub has : Has start

-- what does not hold
pub refuted : {A : Type 0} → ¬ A → ((false ≡ true) ↔ A)
refuted none = (λ e. absurd (false≢true e), λ a. absurd (none a))

-- what begins so many granules before another granule has not what no slab there has

pub not_back : {words : List ℕ} {last back : ℕ} (Has : ℕ → Type 0) → ((start : ℕ) → Has start → (tables_of words).slab start ≡ true) → HasNoBack words last back → ¬ (IsBack Has last back)
not_back Has of_slab none found = false≢true (sym (none.none found.start found.is) ∙ of_slab found.start found.has)

pub back_without : {words : List ℕ} {last back : ℕ} {slab : Slab} {has : Bool} (Has : ℕ → Type 0) → IsReadBack words last back slab → ((has ≡ true) ↔ Has slab.start) → has ≡ false → ¬ (IsBack Has last back)
back_without Has is tells none found = false≢true (sym none ∙ tells.1 (subst Has (omega (arith, found.is, is.is)) found.has))

-- a state word that was read says what the tables do
pub read_of : (words : List ℕ) (slab : Slab) → IsSlabAt words slab.start → IsGoodSlab words slab.start → IsWordOfState (word_at words (state_word slab.start)) slab.state → SaysOfState (word_at words (state_word slab.start)) slab.state → IsRead words slab
read_of words slab at good is says =
    let w = word_at words (state_word slab.start) in
    let field : (bits : ℕ) → state_field words slab.start bits ≡ w / 2 ^ bits % 2 ^ 8 = λ bits. cond-true (is_slab words slab.start) (w / 2 ^ bits % 2 ^ 8) 0 at.slab in
    record {
      at = at;
      of = record {
        kind = (slab_fields words slab.start).kind ∙ field 0 ∙ says.kind;
        class = (slab_fields words slab.start).class ∙ field 8 ∙ says.class;
        old = (slab_fields words slab.start).old ∙ field 16 ∙ says.old;
        entries = (slab_fields words slab.start).index_count ∙ field 24 ∙ says.entries;
        valid = is.valid;
        numbers = good.slab.small;
      };
    }

pub state_there : (words : List ℕ) (start : ℕ) → IsSlabAt words start → IsGoodSlab words start → ¬ (IsNoStateWord (word_at words (state_word start)))
state_there words start at good none = none (has_state words start at.slab good)

-- the number of a block by its address
pub number_by : (start class at number : ℕ) → class < 36 → IsNumberAt start class at number → (at - (16384 * start + 2048)) / class_size class ≡ number
number_by start class at number is_class is =
    let size = class_size class in
    let some : 0 < size = omega (arith, class_size-least class is_class) in
    let off : at - (16384 * start + 2048) ≡ number * size = omega (arith, is.is) in
    ap (λ o. o / size) off ∙ mul-div_cancel number some

pub none_below : (start class at : ℕ) → at < 16384 * start + 2048 → HasNoNumber start class at
none_below start class at low = record { none = λ number is. omega (arith, is.is, low) }

pub none_past : (start class at : ℕ) → class < 36 → class_capacity class ≤ (at - (16384 * start + 2048)) / class_size class → HasNoNumber start class at
none_past start class at is_class past = record { none = λ number is. omega (arith, number_by start class at number is_class is, is.below, past) }

pub none_between : (start class at : ℕ) → class < 36 → (slab_block start class ((at - (16384 * start + 2048)) / class_size class)).at ≢ at → HasNoNumber start class at
none_between start class at is_class other = record { none = λ number is. other (ap (λ n. (slab_block start class n).at) (number_by start class at number is_class is) ∙ sym is.is) }

-- what a slab holds

pub held_of_bit : (t : Tables) (start at : ℕ) → t.slab start ≡ true → (t.header start).kind ≢ 2 → HasBitAt t start at → IsHeldBy t start at
held_of_bit t start at slab read h = record {
  range = slab_block start (t.header start).class h.number;
  holds = record { slab = slab; block = inl (record { number = h.number; below = h.below; read = read; set = h.set; is = refl }) };
  here = sym h.is;
}

pub held_of_old : (t : Tables) (start at : ℕ) → t.slab start ≡ true → HasOldAt t start at → IsHeldBy t start at
held_of_old t start at slab h = record {
  range = slab_block start (t.header start).old ((t.header start).number h.place);
  holds = record { slab = slab; block = inr (record { place = h.place; below = h.below; live = h.live; is = refl }) };
  here = sym h.is;
}

pub held_parts : (t : Tables) (start at : ℕ) → IsHeldBy t start at → (((t.header start).kind ≢ 2) × HasBitAt t start at) ⊎ HasOldAt t start at
held_parts t start at h = ⊎_elim
    (λ (b : HoldsBit (t.header start) start h.range). inl (b.read, record { number = b.number; below = b.below; set = b.set; is = sym h.here ∙ ap (λ (r : Range). r.at) b.is }))
    (λ (o : HoldsOld (t.header start) start h.range). inr (record { place = o.place; below = o.below; live = o.live; is = sym h.here ∙ ap (λ (r : Range). r.at) o.is }))
    h.holds.block

module _ (t : Tables) (start at : ℕ) (slab : t.slab start ≡ true) where
  pub held_normal : (r : Bool) → (t.header start).kind ≡ 1 → (t.header start).index_count ≡ 0 → (IsTrue r ↔ HasBitAt t start at) → (IsTrue r ↔ IsHeldBy t start at)
  held_normal r kind none says = (
    λ e. held_of_bit t start at slab (λ two. omega (arith, kind, two)) (says.0 e),
    λ h. ⊎_elim (λ b. says.1 b.1) (λ o. absurd (omega (arith, o.below, none))) (held_parts t start at h),
  )

  pub held_morphing : (r : Bool) → (t.header start).kind ≡ 2 → (IsTrue r ↔ HasOldAt t start at) → (IsTrue r ↔ IsHeldBy t start at)
  held_morphing r kind says = (
    λ e. held_of_old t start at slab (says.0 e),
    λ h. ⊎_elim (λ b. absurd (b.0 kind)) (λ o. says.1 o) (held_parts t start at h),
  )

  pub held_morphed-bit : (r : Bool) → (t.header start).kind ≡ 3 → (IsTrue r ↔ HasBitAt t start at) → r ≡ true → (IsTrue true ↔ IsHeldBy t start at)
  held_morphed-bit r kind says is = (λ _. held_of_bit t start at slab (λ two. omega (arith, kind, two)) (says.0 is), λ _. refl)

  pub held_morphed-old : (r s : Bool) → (IsTrue r ↔ HasBitAt t start at) → (IsTrue s ↔ HasOldAt t start at) → r ≡ false → (IsTrue s ↔ IsHeldBy t start at)
  held_morphed-old r s bits olds not = (
    λ e. held_of_old t start at slab (olds.0 e),
    λ h. ⊎_elim (λ b. absurd (true≢false (sym (bits.1 b.1) ∙ not))) (λ o. olds.1 o) (held_parts t start at h),
  )

pub bit_by : (t : Tables) (start class at number : ℕ) (r : Bool) → (t.header start).class ≡ class → class < 36 → IsNumberAt start class at number → r ≡ (t.header start).bit number → (IsTrue r ↔ HasBitAt t start at)
bit_by t start class at number r is is_class n read = (
  λ e. record { number = number; below = subst (λ c. number < class_capacity c) (sym is) n.below; set = sym read ∙ e; is = n.is ∙ ap (λ c. (slab_block start c number).at) (sym is) },
  λ h.
      let other : IsNumberAt start class at h.number = record { below = subst (λ c. h.number < class_capacity c) is h.below; is = h.is ∙ ap (λ c. (slab_block start c h.number).at) is } in
      let same : number ≡ h.number = sym (number_by start class at number is_class n) ∙ number_by start class at h.number is_class other in
      read ∙ ap (t.header start).bit same ∙ h.set,
)

pub no_bit_by : (t : Tables) (start class at : ℕ) → (t.header start).class ≡ class → HasNoNumber start class at → (IsTrue false ↔ HasBitAt t start at)
no_bit_by t start class at is none = (
  λ e. absurd (false≢true e),
  λ h. absurd (none.none h.number (record { below = subst (λ c. h.number < class_capacity c) is h.below; is = h.is ∙ ap (λ c. (slab_block start c h.number).at) is })),
)

pub none_other : (start class at base size : ℕ) → class < 36 → base ≡ 16384 * start + 2048 → size ≡ class_size class → base + (at - base) / size * size ≢ at → HasNoNumber start class at
none_other start class at base size is_class is_base is_size other = none_between start class at is_class (λ same.
    other (ap (λ b. b + (at - b) / size * size) is_base ∙ ap (λ s. 16384 * start + 2048 + (at - (16384 * start + 2048)) / s * s) is_size ∙ same))

-- which slab may hold a block at an address
pub held_near : (words : List ℕ) (at : ℕ) → ((start : ℕ) → is_slab words start ≡ true → IsGoodSlab words start) → (start : ℕ) → IsHeldBy (tables_of words) start at → (start ≤ at / 16384) × (at / 16384 < start + 4)
held_near words at good start h =
    let t = tables_of words in
    let is : IsValidSlab (t.header start) = (good start (sym (slab_table words start) ∙ h.holds.slab)).slab in
    let lies : LiesIn start h.range = ⊎_elim
    (λ (b : HoldsBit (t.header start) start h.range). LiesIn-block start (t.header start).class h.range (record { number = b.number; within = b.below; is = b.is }))
    (λ (o : HoldsOld (t.header start) start h.range). LiesIn-block start (t.header start).old h.range (record { number = (t.header start).number o.place; within = is.small o.place o.below; is = o.is }))
    h.holds.block in
    let size : 0 < h.range.size = ⊎_elim
    (λ (b : HoldsBit (t.header start) start h.range). omega (arith, ap (λ (r : Range). r.size) b.is, class_size-least (t.header start).class is.state.is_class))
    (λ (o : HoldsOld (t.header start) start h.range). omega (arith, ap (λ (r : Range). r.size) o.is, class_size-least (t.header start).old is.state.is_old_class))
    h.holds.block in
    (omega (arith, lies.low, h.here), omega (arith, lies.high, size, h.here))

pub held_of : (t : Tables) (start at : ℕ) → IsHeldBy t start at → IsHeld t at
held_of t start at h = record { start = start; range = h.range; holds = h.holds; here = h.here }

-- the slab that begins there holds a block at the address
abbrev pub HasBack : Tables → ℕ → ℕ → ℕ → Type 0
HasBack t last back at = IsBack (λ start. IsHeldBy t start at) last back

-- where none of the four holds one, none does
pub unheld : (words : List ℕ) (at last n : ℕ) → AreSlabsAt words → at / 16384 ≡ last → 4 ≤ n → ((d : ℕ) → d < n → ¬ (HasBack (tables_of words) last d at)) → ¬ (IsHeld (tables_of words) at)
unheld words at last n slabs granule all none held =
    let h : IsHeldBy (tables_of words) held.start at = record { range = held.range; holds = held.holds; here = held.here } in
    let near = held_near words at slabs.good held.start h in
    none (last - held.start) (omega (arith, near, granule)) (record { start = held.start; is = omega (arith, near, granule); has = h })

pub unheld_far : (words : List ℕ) (at : ℕ) → AreSlabsAt words → 65536 ≤ at / 16384 → ¬ (IsHeld (tables_of words) at)
unheld_far words at slabs far held =
    let h : IsHeldBy (tables_of words) held.start at = record { range = held.range; holds = held.holds; here = held.here } in
    let near = held_near words at slabs.good held.start h in
    omega (arith, near, far, (slabs.at held.start (sym (slab_table words held.start) ∙ held.holds.slab)).small)

-- addresses at which a large extent starts

pub large_by : (large : ℕ → ℕ) (at n : ℕ) → at % 16384 ≡ 0 → n ≡ large (at / 16384) → ltb 0 n ≡ is_large large at
unfolding is_large
large_by large at n aligned is = ap (λ m. ltb 0 m) is ∙ sym (ap (λ b. b && ltb 0 (large (at / 16384))) (eq-eqb (at % 16384) 0 aligned))

pub not_aligned : (large : ℕ → ℕ) (at : ℕ) → at % 16384 ≢ 0 → false ≡ is_large large at
unfolding is_large
not_aligned large at odd = sym (ap (λ b. b && ltb 0 (large (at / 16384))) (ne_eqb (at % 16384) 0 odd))

pub large_far : (words : List ℕ) (at : ℕ) → HasExtents words → 65536 ≤ at / 16384 → false ≡ is_large (tables_of words).large at
large_far words at extents far = sym (false_from_ne_true (is_large (tables_of words).large at) (λ is.
    let t = tables_of words in
    let start = at / 16384 in
    let some : 0 < t.large start = (is_large-parts t.large at is).1 in
    let few : granules_in words ≤ 4096 = omega (arith, extents.few, (layout_rules (version_in words)).most) in
    let by : (slab : Bool) → t.slab start ≡ slab → ⊥ = λ slab. elim slab as (λ slab. t.slab start ≡ slab → ⊥) [
      | true ↦ λ e. omega (arith, far, few, granules_at-slab t start e, extents.inside start (omega (arith, granules_at-slab t start e)))
      | false ↦ λ e. omega (arith, far, some, few, granules_at-large t start e, extents.inside start (omega (arith, some, granules_at-large t start e)))
    ] in
    by (t.slab start) refl))

-- where a root's block may stand
pub standing_last : (t : Tables) (root at open_at : ℕ) (large held : Bool) → large ≡ is_large t.large at → large ≡ false → (IsTrue held ↔ IsHeld t at) → held ≡ false → entry_at t.open_entry root ≡ open_at → (IsTrue (eqb open_at at) ↔ IsStanding t root at)
standing_last t root at open_at large held is_lg no_large is_hd no_held entry = (
  λ e. inr (inr (entry ∙ eqb-true open_at at e)),
  λ s. ⊎_elim
      (λ l. absurd (true≢false (sym (is_lg ∙ l) ∙ no_large)))
      (λ rest. ⊎_elim (λ h. absurd (true≢false (sym (is_hd.1 h) ∙ no_held))) (λ o. eq-eqb open_at at (sym entry ∙ o)) rest)
      s,
)
