-- An exact image whose heap lies so many granules higher is exact.
use Rattle.std.proofs.Common.{◌≡◌, ◌≢◌, ◌⊎◌, ⊎_elim, inl, inr, ◌&&◌, ◌||◌, ◌==◌, ℕ, zero, suc, ◌+◌, ◌-◌, ◌*◌, ◌/◌, ◌%◌, ◌<◌, ◌≤◌, Bool, true, false, true≢false, cond, eqb, ltb, refl, sym, ap, subst, ◌∙◌, arith, Option, Some, None, option_map}
use Rattle.image_raise.proofs.Common.{cases_lt, cases_eq, cases_Bool, cond-true, cond-false, ne_eqb, eq-eqb, SlabHeader, Tables}
use Rattle.size_classes.specs.Classes.{class_size}
use Rattle.heap_model.specs.Below.{any_below}
use Rattle.heap_model.specs.Machine.{Bounds, Range, AreApart, slab_block}
use Rattle.heap_check.specs.Heap.{slab_of, is_old_of, is_old, is_large, size_by, heap, entry_at, IsClaim, HoldsBit, HoldsOld, Holds}
use Rattle.heap_check.specs.Sound.{granules_at, Covers, IsInSlab, IsValidSlab, IsHeld, IsStanding, IsMorphing, IsDoneSlab, IsSound, IsExact}
use Rattle.heap_check.proofs.Claims.{plain_size, IsNamed, IsNamed-claim, IsClaim-named}
use Rattle.heap_check.proofs.Geometry.{granules_at-slab, is_large-parts}
use Rattle.heap_check.proofs.Heaps.{IsClaim-heap, heap-claim, heap-none}
use Rattle.image_raise.specs.Rise.{raised}
use Rattle.image_raise.proofs.Heights.{IsRaised, IsRaisedHeap, IsWider}

-- a number is below another, or as much above it as one is
behind : (d s : ℕ) → (s < d) ⊎ ((k : ℕ) × (s ≡ k + d))
behind d s = ⊎_elim (λ (low : s < d). inl low) (λ (high : d ≤ s). inr (s - d, omega (arith, high))) (cases_lt s d)

-- a block of a slab that lies higher
block_raised : (d s c i : ℕ) → slab_block (s + d) c i ≡ raised d (slab_block s c i)
block_raised d s c i = ap (λ at. let r : Range = record { at = at; size = class_size c } in r) (let same : 16384 * (s + d) + 2048 + i * class_size c ≡ 16384 * s + 2048 + i * class_size c + 16384 * d = omega arith in same)

-- tests that agree below a number
any_same : (p q : ℕ → Bool) (n : ℕ) → ((i : ℕ) → i < n → p i ≡ q i) → any_below p n ≡ any_below q n
any_same p q zero same = refl
any_same p q (suc n) same = ap (λ b. b || any_below p n) (same n (omega arith)) ∙ ap (λ b. q n || b) (any_same p q n (λ i below. same i (omega (arith, below))))

eqb_raised : (a b k : ℕ) → eqb (a + k) (b + k) ≡ eqb a b
eqb_raised a b k = ⊎_elim
    (λ (same : a ≡ b). eq-eqb (a + k) (b + k) (ap (λ n. n + k) same) ∙ sym (eq-eqb a b same))
    (λ (apart : a ≢ b). ne_eqb (a + k) (b + k) (λ e. apart (omega (arith, e))) ∙ sym (ne_eqb a b apart))
    (cases_eq a b)

module _ {d : ℕ} {b c : Bounds} {t u : Tables} (exact : IsExact b t) (wider : IsWider d b c) (is : IsRaised d t u) where
  no_entry : (r : ℕ) → entry_at t.open_entry r ≡ 0
  no_entry r = ap (λ e. entry_at e r) is.closed

  no_entry_u : (r : ℕ) → entry_at u.open_entry r ≡ 0
  no_entry_u r = ap (λ e. entry_at e r) is.shut

  root_none : (r : ℕ) → t.root r ≡ 0 → u.root r ≡ 0
  root_none r none = is.root r ∙ cond-true (t.root r == 0) 0 (t.root r + 16384 * d) (eq-eqb (t.root r) 0 none)

  root_some : (r : ℕ) → t.root r ≢ 0 → u.root r ≡ t.root r + 16384 * d
  root_some r some = is.root r ∙ cond-false (t.root r == 0) 0 (t.root r + 16384 * d) (ne_eqb (t.root r) 0 some)

  held_was : (r : ℕ) → u.root r ≢ 0 → t.root r ≢ 0
  held_was r some none = some (root_none r none)

  -- extents

  many : (s : ℕ) → granules_at u (s + d) ≡ granules_at t s
  many s = ap (λ slab. cond slab 4 (u.large (s + d))) (is.slab s) ∙ ap (λ n. cond (t.slab s) 4 n) (is.large s)

  none_below : (s : ℕ) → s < d → granules_at u s ≡ 0
  none_below s low = ap (λ slab. cond slab 4 (u.large s)) (is.none_slab s low) ∙ is.none_large s low

  -- where an extent starts in the second, one starts as much lower in the first
  start_of : (s : ℕ) → 0 < granules_at u s → (k : ℕ) × (s ≡ k + d)
  start_of s some = ⊎_elim (λ (low : s < d). absurd (omega (arith, some, none_below s low))) (λ found. found) (behind d s)

  slab_start : (s : ℕ) → u.slab s ≡ true → (k : ℕ) × ((s ≡ k + d) × (t.slab k ≡ true))
  slab_start s slab = ⊎_elim
      (λ (low : s < d). absurd (true≢false (sym slab ∙ is.none_slab s low)))
      (λ (found : (k : ℕ) × (s ≡ k + d)). (found.0, (found.1, sym (is.slab found.0) ∙ ap u.slab (sym found.1) ∙ slab)))
      (behind d s)

  covers_was : (s k : ℕ) → Covers u (s + d) (k + d) → Covers t s k
  covers_was s k covers = record { low = omega (arith, covers.low); high = omega (arith, covers.high, many s) }

  covered : (s k : ℕ) → Covers u s k → (x : ℕ) × ((s ≡ x + d) × ((y : ℕ) × ((k ≡ y + d) × Covers t x y)))
  covered s k covers =
      let at = start_of s (omega (arith, covers.low, covers.high)) in
      let k_at : k ≡ (k - d) + d = omega (arith, covers.low, at.1) in
      (at.0, (at.1, (k - d, (k_at, covers_was at.0 (k - d) (subst (λ y. Covers u (at.0 + d) y) k_at (subst (λ x. Covers u x k) at.1 covers))))))

  -- addresses

  large_at : (at : ℕ) → is_large u.large (at + 16384 * d) ≡ is_large t.large at
  unfolding is_large
  large_at at =
      let left : (at + 16384 * d) % 16384 ≡ at % 16384 = omega arith in
      let here : (at + 16384 * d) / 16384 ≡ at / 16384 + d = omega arith in
      ap (λ n. (n == 0) && ltb 0 (u.large ((at + 16384 * d) / 16384))) left
      ∙ ap (λ k. (at % 16384 == 0) && ltb 0 (u.large k)) here
      ∙ ap (λ n. (at % 16384 == 0) && ltb 0 n) (is.large (at / 16384))

  slab_of_raised : (k : ℕ) → 3 ≤ k → slab_of u.slab (k + d) ≡ slab_of t.slab k + d
  unfolding slab_of
  slab_of_raised k high = by (t.slab k) refl (t.slab (k - 1)) refl (t.slab (k - 2)) refl
    where
      one : k + d - 1 ≡ k - 1 + d
      one = omega (arith, high)

      two : k + d - 2 ≡ k - 2 + d
      two = omega (arith, high)

      three : k + d - 3 ≡ k - 3 + d
      three = omega (arith, high)

      at_one : u.slab (k + d - 1) ≡ t.slab (k - 1)
      at_one = ap u.slab one ∙ is.slab (k - 1)

      at_two : u.slab (k + d - 2) ≡ t.slab (k - 2)
      at_two = ap u.slab two ∙ is.slab (k - 2)

      by : (x : Bool) → t.slab k ≡ x → (y : Bool) → t.slab (k - 1) ≡ y → (z : Bool) → t.slab (k - 2) ≡ z → slab_of u.slab (k + d) ≡ slab_of t.slab k + d
      by true p y q z r = rw (is.slab k, p) refl
      by false p true q z r = rw (is.slab k, p, at_one, q) one
      by false p false q true r = rw (is.slab k, p, at_one, q, at_two, r) two
      by false p false q false r = rw (is.slab k, p, at_one, q, at_two, r) three

  old_raised : (s at : ℕ) → is_old (u.header (s + d)) (s + d) (at + 16384 * d) ≡ is_old (t.header s) s at
  unfolding is_old_of
  old_raised s at =
      ap (λ h. is_old h (s + d) (at + 16384 * d)) (is.header s)
      ∙ any_same _ _ (t.header s).index_count (λ place below.
      ap (λ (r : Range). (t.header s).live place && (r.at == (at + 16384 * d))) (block_raised d s (t.header s).old ((t.header s).number place))
      ∙ ap (λ e. (t.header s).live place && e) (eqb_raised (slab_block s (t.header s).old ((t.header s).number place)).at at (16384 * d)))

  size_raised : (at : ℕ) → 3 ≤ at / 16384 → plain_size u (at + 16384 * d) ≡ plain_size t at
  size_raised at high =
      let k = at / 16384 in
      let here : (at + 16384 * d) / 16384 ≡ k + d = omega arith in
      let slab : slab_of u.slab ((at + 16384 * d) / 16384) ≡ slab_of t.slab k + d = ap (slab_of u.slab) here ∙ slab_of_raised k high in
      let s = slab_of t.slab k in
      let large : 16384 * u.large ((at + 16384 * d) / 16384) ≡ 16384 * t.large k = ap (λ n. 16384 * u.large n) here ∙ ap (λ n. 16384 * n) (is.large k) in
      let old : is_old (u.header (slab_of u.slab ((at + 16384 * d) / 16384))) (slab_of u.slab ((at + 16384 * d) / 16384)) (at + 16384 * d) ≡ is_old (t.header s) s at = ap (λ n. is_old (u.header n) n (at + 16384 * d)) slab ∙ old_raised s at in
      let small : size_by u (at + 16384 * d) (is_old (u.header (slab_of u.slab ((at + 16384 * d) / 16384))) (slab_of u.slab ((at + 16384 * d) / 16384)) (at + 16384 * d)) ≡ size_by t at (is_old (t.header s) s at) =
      ap (λ o. size_by u (at + 16384 * d) o) old
      ∙ ap (λ n. class_size (cond (is_old (t.header s) s at) (u.header n).old (u.header n).class)) slab
      ∙ ap (λ (h : SlabHeader). class_size (cond (is_old (t.header s) s at) h.old h.class)) (is.header s) in
      ap (λ l. cond l (16384 * u.large ((at + 16384 * d) / 16384)) (size_by u (at + 16384 * d) (is_old (u.header (slab_of u.slab ((at + 16384 * d) / 16384))) (slab_of u.slab ((at + 16384 * d) / 16384)) (at + 16384 * d)))) (large_at at)
      ∙ ap (λ n. cond (is_large t.large at) n (size_by u (at + 16384 * d) (is_old (u.header (slab_of u.slab ((at + 16384 * d) / 16384))) (slab_of u.slab ((at + 16384 * d) / 16384)) (at + 16384 * d)))) large
      ∙ ap (λ n. cond (is_large t.large at) (16384 * t.large k) n) small

  -- where a root's block lies

  -- a root's address lies in the heap
  high_root : (r : ℕ) → t.root r ≢ 0 → 4 ≤ t.root r / 16384
  high_root r some = ⊎_elim
      (λ (large : is_large t.large (t.root r) ≡ true).
      let parts = is_large-parts t.large (t.root r) large in
      let live : 0 < granules_at t (t.root r / 16384) = large_live (t.root r / 16384) parts.1 in
      omega (arith, (exact.sound.extents.starts (t.root r / 16384) live).0, wider.low))
      (λ rest. ⊎_elim
      (λ (held : IsHeld t (t.root r)).
      let low = (exact.sound.extents.starts held.start (omega (arith, granules_at-slab t held.start held.holds.slab))).0 in
      let within : 16384 * held.start ≤ held.range.at = ⊎_elim (λ (bit : HoldsBit (t.header held.start) held.start held.range). bit_low held.start held.range bit) (λ (old : HoldsOld (t.header held.start) held.start held.range). old_low held.start held.range old) held.holds.block in
      omega (arith, low, within, held.here, wider.low))
      (λ by_entry. absurd (some (sym by_entry ∙ no_entry r)))
      rest)
      (exact.sound.owned.rooted r some)
    where
      large_live : (s : ℕ) → 0 < t.large s → 0 < granules_at t s
      large_live s some = ⊎_elim (λ (slab : t.slab s ≡ true). omega (arith, granules_at-slab t s slab)) (λ (none : t.slab s ≡ false). omega (arith, cond-false (t.slab s) 4 (t.large s) none, some)) (cases_Bool (t.slab s))

      bit_low : (s : ℕ) (range : Range) → HoldsBit (t.header s) s range → 16384 * s ≤ range.at
      bit_low s range bit = omega (arith, ap (λ (r : Range). r.at) bit.is)

      old_low : (s : ℕ) (range : Range) → HoldsOld (t.header s) s range → 16384 * s ≤ range.at
      old_low s range old = omega (arith, ap (λ (r : Range). r.at) old.is)

  named_was : (r : ℕ) (range : Range) → IsNamed u r range → (was : Range) × (IsNamed t r was × (range ≡ raised d was))
  named_was r range named =
      let some : u.root r ≢ 0 = λ none. named.some (sym named.word ∙ none) in
      let held = held_was r some in
      let at = t.root r in
      let place : range.at ≡ at + 16384 * d = sym named.word ∙ root_some r held in
      let size : range.size ≡ plain_size t at = sym named.wide ∙ ap (plain_size u) place ∙ size_raised at (omega (arith, high_root r held)) in
      (record { at = at; size = plain_size t at }, (record { some = held; word = refl; wide = refl }, λ i. record { at = place i; size = size i }))

  named_now : (r : ℕ) (range : Range) → IsNamed t r range → IsNamed u r (raised d range)
  named_now r range named =
      let held : t.root r ≢ 0 = λ none. named.some (sym named.word ∙ none) in
      record {
        some = λ none. named.some (omega (arith, none));
        word = root_some r held ∙ ap (λ n. n + 16384 * d) named.word;
        wide = size_raised range.at (omega (arith, high_root r held, named.word)) ∙ named.wide;
      }

  -- slabs

  valid_now : (s : ℕ) → IsValidSlab (t.header s) → IsValidSlab (u.header (s + d))
  valid_now s valid = subst IsValidSlab (sym (is.header s)) valid

  holds_was : (s : ℕ) (range : Range) → Holds u s range → (k : ℕ) × ((s ≡ k + d) × ((was : Range) × (Holds t k was × (range ≡ raised d was))))
  holds_was s range holds =
      let at = slab_start s holds.slab in
      let k = at.0 in (
        k,
        (
          at.1.0,
          ⊎_elim
              (λ (bit : HoldsBit (u.header s) s range). by_bit k at.1.1 (as_was (λ h n. HoldsBit h n range) at.1.0 bit))
              (λ (old : HoldsOld (u.header s) s range). by_old k at.1.1 (as_was (λ h n. HoldsOld h n range) at.1.0 old))
              holds.block,
        ),
      )
    where
      as_was : (P : SlabHeader → ℕ → Type 0) {s k : ℕ} → s ≡ k + d → P (u.header s) s → P (t.header k) (k + d)
      as_was P {s} {k} same held = subst (λ h. P h (k + d)) (is.header k) (subst (λ n. P (u.header n) n) same held)

      by_bit : (k : ℕ) → t.slab k ≡ true → HoldsBit (t.header k) (k + d) range → (was : Range) × (Holds t k was × (range ≡ raised d was))
      by_bit k slab bit = (
        slab_block k (t.header k).class bit.number,
        (
          record { slab = slab; block = inl (record { number = bit.number; below = bit.below; read = bit.read; set = bit.set; is = refl }) },
          bit.is ∙ block_raised d k (t.header k).class bit.number,
        ),
      )

      by_old : (k : ℕ) → t.slab k ≡ true → HoldsOld (t.header k) (k + d) range → (was : Range) × (Holds t k was × (range ≡ raised d was))
      by_old k slab old = (
        slab_block k (t.header k).old ((t.header k).number old.place),
        (
          record { slab = slab; block = inr (record { place = old.place; below = old.below; live = old.live; is = refl }) },
          old.is ∙ block_raised d k (t.header k).old ((t.header k).number old.place),
        ),
      )

  holds_now : (s : ℕ) (range : Range) → Holds t s range → Holds u (s + d) (raised d range)
  holds_now s range holds = record {
    slab = is.slab s ∙ holds.slab;
    block = subst (λ h. HoldsBit h (s + d) (raised d range) ⊎ HoldsOld h (s + d) (raised d range)) (sym (is.header s)) (⊎_elim
        (λ (bit : HoldsBit (t.header s) s range). inl (record {
          number = bit.number;
          below = bit.below;
          read = bit.read;
          set = bit.set;
          is = ap (raised d) bit.is ∙ sym (block_raised d s (t.header s).class bit.number);
        }))
        (λ (old : HoldsOld (t.header s) s range). inr (record {
          place = old.place;
          below = old.below;
          live = old.live;
          is = ap (raised d) old.is ∙ sym (block_raised d s (t.header s).old ((t.header s).number old.place));
        }))
        holds.block);
  }

  -- nothing is loose

  named_large : (s : ℕ) → 0 < u.large s → (r : ℕ) × (u.root r ≡ 16384 * s)
  named_large s some = ⊎_elim
      (λ (low : s < d). absurd (omega (arith, some, is.none_large s low)))
      (λ (found : (k : ℕ) × (s ≡ k + d)).
      let k = found.0 in
      let live : 0 < t.large k = omega (arith, some, ap u.large found.1, is.large k) in
      let named = exact.all_named k live in
      let first = (exact.sound.extents.starts k (omega (arith, large_at_start k live, live))).0 in
      let held : t.root named.0 ≢ 0 = λ none. omega (arith, none, named.1, first, wider.low) in
      (named.0, omega (arith, root_some named.0 held, named.1, found.1)))
      (behind d s)
    where
      large_at_start : (k : ℕ) → 0 < t.large k → granules_at t k ≡ t.large k
      large_at_start k live = ⊎_elim (λ (slab : t.slab k ≡ true). absurd (omega (arith, live, exact.sound.extents.one_kind k slab))) (λ (none : t.slab k ≡ false). cond-false (t.slab k) 4 (t.large k) none) (cases_Bool (t.slab k))

  live_slab : (s : ℕ) → u.slab s ≡ true → (r : ℕ) × (u.root r ≢ 0) × IsInSlab u s (u.root r)
  live_slab s slab =
      let at = slab_start s slab in
      let live = exact.all_live at.0 at.1.1 in
      let root = root_some live.0 live.1 in
      (live.0, λ none. live.1 (omega (arith, none, root)), record { slab = slab; low = omega (arith, live.2.low, root, at.1.0); high = omega (arith, live.2.high, root, at.1.0) })

  none_morphing : (s : ℕ) → ¬ (IsMorphing u s)
  none_morphing s morphing =
      let at = slab_start s morphing.slab in
      exact.none_morphing at.0 (record { slab = at.1.1; kind = ap (λ (h : SlabHeader). h.kind) (sym (is.header at.0)) ∙ ap (λ s. (u.header s).kind) (sym at.1.0) ∙ morphing.kind })

  none_done_now : (s : ℕ) → ¬ (IsDoneSlab u s)
  none_done_now s done =
      let at = slab_start s done.slab in
      let here = subst (λ n. IsDoneSlab u n) at.1.0 done in
      exact.none_done at.0 (record {
        slab = at.1.1;
        kind = ap (λ (h : SlabHeader). h.kind) (sym (is.header at.0)) ∙ here.kind;
        none = subst (λ (h : SlabHeader). (place : ℕ) → place < h.index_count → h.live place ≡ false) (is.header at.0) here.none;
      })

  -- all of it

  standing_now : (r : ℕ) → u.root r ≢ 0 → IsStanding u r (u.root r)
  standing_now r some =
      let held = held_was r some in
      let root = root_some r held in
      subst (IsStanding u r) (sym root) (⊎_elim
      (λ (large : is_large t.large (t.root r) ≡ true). inl (large_at (t.root r) ∙ large))
      (λ rest. ⊎_elim
      (λ (block : IsHeld t (t.root r)). inr (inl (record { start = block.start + d; range = raised d block.range; holds = holds_now block.start block.range block.holds; here = ap (λ n. n + 16384 * d) block.here })))
      (λ by_entry. absurd (held (sym by_entry ∙ no_entry r)))
      rest)
      (exact.sound.owned.rooted r held))

  apart_now : (r other : ℕ) (range another : Range) → r ≢ other → IsClaim u r range → IsClaim u other another → AreApart range another
  apart_now r other range another differ claim second =
      let one = named_was r range (IsNamed-claim u r range (no_entry_u r) claim) in
      let two = named_was other another (IsNamed-claim u other another (no_entry_u other) second) in
      let apart = exact.sound.owned.apart r other one.0 two.0 differ (IsClaim-named t r one.0 (no_entry r) one.1.0) (IsClaim-named t other two.0 (no_entry other) two.1.0) in
      rw (one.1.1, two.1.1) (⊎_elim (λ low. inl (omega (arith, low))) (λ high. inr (omega (arith, high))) apart)

  claimed_now : (s : ℕ) (range : Range) → Holds u s range → (r : ℕ) × IsClaim u r range
  claimed_now s range holds =
      let was = holds_was s range holds in
      let claim = exact.sound.owned.claimed was.0 was.1.1.0 was.1.1.1.0 in
      let named = named_now claim.0 was.1.1.0 (IsNamed-claim t claim.0 was.1.1.0 (no_entry claim.0) claim.1) in
      (claim.0, IsClaim-named u claim.0 range (no_entry_u claim.0) (subst (IsNamed u claim.0) (sym was.1.1.1.1) named))

  sound_now : IsSound c u
  sound_now = record {
    extents = record {
      disjoint = λ start other k one two.
          let first = covered start k one in
          let second = covered other k two in
          let y = first.1.1.0 in
          let same : second.1.1.0 ≡ y = omega (arith, first.1.1.1.0, second.1.1.1.0) in
          let equal = exact.sound.extents.disjoint first.0 second.0 y first.1.1.1.1 (subst (λ n. Covers t second.0 n) same second.1.1.1.1) in
          omega (arith, first.1.0, second.1.0, equal);
      starts = λ start some.
          let at = start_of start some in
          let count : granules_at u start ≡ granules_at t at.0 = ap (granules_at u) at.1 ∙ many at.0 in
          let lies = exact.sound.extents.starts at.0 (omega (arith, some, count)) in
          (omega (arith, lies.0, at.1, wider.first), omega (arith, lies.1, at.1, wider.granules, count));
      one_kind = λ start slab. let at = slab_start start slab in ap u.large at.1.0 ∙ is.large at.0 ∙ exact.sound.extents.one_kind at.0 at.1.1;
    };
    slabs = λ start slab. let at = slab_start start slab in subst (λ n. IsValidSlab (u.header n)) (sym at.1.0) (valid_now at.0 (exact.sound.slabs at.0 at.1.1));
    owned = record {
      open_entry = λ e opens. absurd (let none = sym is.shut ∙ opens in cc);
      rooted = standing_now;
      apart = apart_now;
      claimed = claimed_now;
    };
    loose = record {
      large = record { same = λ one other p q. let named = named_large one p.live in absurd (p.unnamed named.0 named.1) };
      empty = record { same = λ one other p q. let live = live_slab one p.slab in absurd (p.none live.0 live.1 live.2) };
      morphing = record { same = λ one other p q. absurd (none_morphing one p) };
      done = record { same = λ one other p q. absurd (none_done_now one p) };
    };
  }

  exact_now : IsExact c u
  exact_now = record { sound = sound_now; closed = is.shut; all_named = named_large; all_live = live_slab; none_morphing = none_morphing; none_done = none_done_now }

  block_now : (root : ℕ) (block : Option Range) → heap t root ≡ block → heap u root ≡ option_map (raised d) block
  block_now root None none = ⊎_elim
      (λ (word : t.root root ≡ 0). heap-none u root (root_none root word))
      (λ (some : t.root root ≢ 0). absurd (let block = cond-false (t.root root == 0) _ _ (ne_eqb (t.root root) 0 some) in let both = sym block ∙ none in cc))
      (cases_eq (t.root root) 0)
  block_now root (Some range) some =
      heap-claim u root (raised d range) (no_entry_u root)
      (IsClaim-named u root (raised d range) (no_entry_u root) (named_now root range (IsNamed-claim t root range (no_entry root) (IsClaim-heap t root range (no_entry root) some))))

  heap_now : IsRaisedHeap d t u
  heap_now = record {
    blocks = λ root. block_now root (heap t root) refl;
    no_slab = λ s low. cond-false (u.slab s) (Some (u.header s).class) None (is.none_slab s low);
    slab = λ s. ap (λ slab. cond slab (Some (u.header (s + d)).class) None) (is.slab s) ∙ ap (λ (h : SlabHeader). cond (t.slab s) (Some h.class) None) (is.header s);
  }

pub raised_exact : (d : ℕ) (b c : Bounds) (t u : Tables) → IsExact b t → IsWider d b c → IsRaised d t u → IsExact c u × IsRaisedHeap d t u
raised_exact d b c t u exact wider is = (exact_now exact wider is, heap_now exact wider is)
