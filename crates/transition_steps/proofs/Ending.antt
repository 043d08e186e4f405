-- The transition of a slab without a live old block comes to its end: what the tables say then.
use Rattle.std.proofs.Common.{◌≡◌, ◌≢◌, ◌==◌, ◌&&◌, cond, ltb, ◌<◌, ◌*◌, ◌/◌, ℕ, Bool, true, false, true≢false, refl, sym, ap, subst, ◌∙◌, arith, inl, inr, ⊎_elim, Option, Some, None}
use Rattle.transition_steps.proofs.Common.{cases_eq, cases_Bool, eqb-true, ltb-true, and_parts, cond-true, cond-false, false_from_ne_true, class_size, class_capacity, WalEntry, Place, Move, normal_kind, morphing_kind, Tables, SlabHeader, put_header, put_header-same, put_header-other, Bounds, slab_block, IsInSlab, IsValidSlab, IsNewEntry, IsOldEntry, IsOpenEntry, IsMorphing, IsDoneSlab, IsLeaving, IsNearlyDone, IsSound, IsSteady, LoosensNothing, old_seen, AtMostOne-fewer, IsMorphing-same, IsDoneSlab-same, settled, AllHoldSame}
use Rattle.heap_check.specs.Heap.{slab_of, is_old_of, is_old, is_large, entry_at, entry_old, claim_at, size_at, heap}
use Rattle.settle_steps.proofs.EntrySlabs.{in_slab_old, in_slab_of}
use Rattle.transition_steps.proofs.ChangedSlab.{other_same, IsTurn, IsSound-turned, heap-turned}

-- an entry that says of an address that an old block is there is one of that block
of_old : (e : Option WalEntry) (root at : ℕ) → ((entry_at e root == at) && ltb 0 at) ≡ true → entry_old e ≡ true → (named : ℕ) × (place : ℕ) × (e ≡ Some (Place named at true place))
of_old None root at test old = absurd (true≢false (sym old))
of_old (Some (Move from to)) root at test old = absurd (true≢false (sym old))
of_old (Some (Place named there old place)) root at test is =
    let parts = and_parts (cond (root == named) there 0 == at) (ltb 0 at) test in
    let here : cond (root == named) there 0 ≡ at = eqb-true (cond (root == named) there 0) at parts.0 in
    let some : 0 < at = ltb-true 0 at parts.1 in
    ⊎_elim
    (λ (own : (root == named) ≡ true).
    let same : there ≡ at = sym (cond-true (root == named) there 0 own) ∙ here in
    (named, place, (λ i. Some (Place named (same i) (is i) place))))
    (λ (other : (root == named) ≡ false). absurd (omega (arith, some, sym (cond-false (root == named) there 0 other) ∙ here)))
    (cases_Bool (root == named))

-- the size at an address, by the classes of its slab and by whether an old block is seen there
abbrev size_with : Tables → (root at old class : ℕ) → Bool → ℕ
size_with t root at old class seen =
    cond (is_large t.large at) (16384 * t.large (at / 16384))
    (cond ((entry_at t.open_entry root == at) && ltb 0 at)
    (class_size (cond (entry_old t.open_entry) old class))
    (class_size (cond seen old class)))

-- where none is seen it goes by the class, unless the entry has an old block there
size_by_class : (t : Tables) (root at old other class : ℕ) → ¬ ((((entry_at t.open_entry root == at) && ltb 0 at) ≡ true) × (entry_old t.open_entry ≡ true)) →
    size_with t root at old class false ≡ size_with t root at other class false
size_by_class t root at old other class none =
    ap (cond (is_large t.large at) (16384 * t.large (at / 16384))) (by_case ((entry_at t.open_entry root == at) && ltb 0 at) (entry_old t.open_entry) none)
  where
    by_case : (test of_old : Bool) → ¬ ((test ≡ true) × (of_old ≡ true)) → cond test (class_size (cond of_old old class)) (class_size class) ≡ cond test (class_size (cond of_old other class)) (class_size class)
    by_case false of_old none = refl
    by_case true false none = refl
    by_case true true none = absurd (none (refl, refl))

module _ {b : Bounds} {t : Tables} (start : ℕ) (sound : IsSound b t) (here : IsDoneSlab t start) (elsewhere : (root at place : ℕ) → t.open_entry ≡ Some (Place root at true place) → ¬ (IsInSlab t start at))
    (held : AllHoldSame t (put_header t start (settled (t.header start)))) where
  abbrev new : Tables
  new = put_header t start (settled (t.header start))

  -- the header of the slab, and of another
  header_here : (s : ℕ) → s ≡ start → new.header s ≡ settled (t.header s)
  header_here s same = ap new.header same ∙ put_header-same t start (settled (t.header start)) ∙ ap (λ s. settled (t.header s)) (sym same)

  header_other : (s : ℕ) → s ≢ start → new.header s ≡ t.header s
  header_other s apart = put_header-other t start (settled (t.header start)) s apart

  kind_here : (s : ℕ) → s ≡ start → (new.header s).kind ≡ normal_kind
  kind_here s same = ap (λ (h : SlabHeader). h.kind) (header_here s same)

  class_same : (s : ℕ) → (new.header s).class ≡ (t.header s).class
  class_same s = ⊎_elim
      (λ (same : s ≡ start). ap (λ (h : SlabHeader). h.class) (header_here s same))
      (λ (apart : s ≢ start). ap (λ (h : SlabHeader). h.class) (header_other s apart))
      (cases_eq s start)

  -- no old block is seen in the slab, before and after
  unseen : (s at : ℕ) → s ≡ start → is_old (t.header s) s at ≡ false
  unseen s at same = false_from_ne_true _ (λ is.
      let seen = old_seen (t.header s) s at is in
      true≢false (sym seen.2 ∙ ap (λ s. (t.header s).live seen.0) same ∙ here.none seen.0 (subst (λ s. seen.0 < (t.header s).index_count) same seen.1)))

  unseen_after : (h : SlabHeader) (s at : ℕ) → is_old (settled h) s at ≡ false
  unfolding is_old_of
  unseen_after h s at = refl

  sizes : (root at : ℕ) → size_at new root at ≡ size_at t root at
  sizes root at =
      let s = slab_of t.slab (at / 16384) in
      let size : SlabHeader → ℕ = λ h. size_with t root at h.old h.class (is_old h s at) in
      ⊎_elim
      (λ (same : s ≡ start).
      let none : ¬ ((((entry_at t.open_entry root == at) && ltb 0 at) ≡ true) × (entry_old t.open_entry ≡ true)) = λ both.
      (let is = of_old t.open_entry root at both.0 both.1 in
      elsewhere is.0 at is.1 is.2 (subst (λ s. IsInSlab t s at) same (in_slab_of sound is.0 at is.1 true is.2))) in
      let class = (t.header s).class in
      ap size (header_here s same)
      ∙ ap (size_with t root at 0 class) (unseen_after (t.header s) s at)
      ∙ size_by_class t root at 0 (t.header s).old class none
      ∙ sym (ap (size_with t root at (t.header s).old class) (unseen s at same)))
      (λ (apart : s ≢ start). ap size (header_other s apart))
      (cases_eq s start)

  valid : IsValidSlab (settled (t.header start))
  valid =
      let was = (sound.slabs start here.slab).state in
      record {
        state = record { kinds = inl refl; is_class = was.is_class; is_old_class = omega arith; none = λ _. (refl, refl); differ = λ some. absurd (some refl); number = λ some. absurd (some refl) };
        small = λ place below. absurd (omega (arith, below));
        once = λ place other below under same. absurd (omega (arith, below));
      }

  -- the open entry is one of another slab, or of a block of the class

  old_entry : (root at place : ℕ) → t.open_entry ≡ Some (Place root at true place) → IsOldEntry t at place → IsOldEntry new at place
  old_entry root at place opens entry =
      let apart : entry.start ≢ start = λ same. elsewhere root at place opens (subst (λ s. IsInSlab t s at) same (in_slab_old sound at place entry)) in
      let same = header_other entry.start apart in
      record {
        start = entry.start;
        slab = entry.slab;
        kind = ap (λ (h : SlabHeader). h.kind) same ∙ entry.kind;
        below = subst (λ (h : SlabHeader). place < h.index_count) (sym same) entry.below;
        is = entry.is ∙ ap (λ (h : SlabHeader). (slab_block entry.start h.old (h.number place)).at) (sym same);
      }

  new_entry : (at : ℕ) → IsNewEntry t at → IsNewEntry new at
  new_entry at entry =
      let same = sym (class_same entry.start) in
      record {
        start = entry.start;
        number = entry.number;
        slab = entry.slab;
        below = subst (λ class. entry.number < class_capacity class) same entry.below;
        is = entry.is ∙ ap (λ class. (slab_block entry.start class entry.number).at) same;
      }

  entry_open : (e : WalEntry) → t.open_entry ≡ Some e → IsOpenEntry b t e → IsOpenEntry b new e
  entry_open (Move from to) opens was = was
  entry_open (Place root at old place) opens was = record {
    rooted = was.rooted;
    word = was.word;
    block = ⊎_elim
        (λ class. inl (class.0, new_entry at class.1))
        (λ earlier. inr (earlier.0, old_entry root at place (opens ∙ ap (λ o. Some (Place root at o place)) earlier.0) earlier.1))
        was.block;
  }

  morphing_back : (s : ℕ) → IsMorphing new s → IsMorphing t s
  morphing_back s morphing = ⊎_elim
      (λ (same : s ≡ start). absurd (omega (arith, morphing.kind, kind_here s same)))
      (λ (apart : s ≢ start). IsMorphing-same (other_same t start (settled (t.header start)) s apart) morphing)
      (cases_eq s start)

  none_morphing : (e : WalEntry) → t.open_entry ≡ Some e → (s : ℕ) → t.slab s ≡ true → (new.header s).kind ≢ morphing_kind
  none_morphing e opens s slab is = (sound.owned.open_entry e opens).none_morphing s slab (morphing_back s (record { slab = slab; kind = is })).kind

  pub done-ending : (s : ℕ) → IsDoneSlab (put_header t start (settled (t.header start))) s → IsDoneSlab t s × (s ≢ start)
  done-ending s done = ⊎_elim
      (λ (same : s ≡ start). absurd (omega (arith, done.kind, kind_here s same)))
      (λ (apart : s ≢ start). (IsDoneSlab-same (other_same t start (settled (t.header start)) s apart) done, apart))
      (cases_eq s start)

  leaving_before : (s place : ℕ) → s ≢ start → IsLeaving new s place → IsLeaving t s place
  leaving_before s place apart leaves = record {
    root = leaves.root;
    entry = leaves.entry ∙ ap (λ (h : SlabHeader). Some (Place leaves.root (slab_block s h.old (h.number place)).at true place)) (header_other s apart);
    none = leaves.none;
  }

  pub nearly-ending : (s : ℕ) → IsNearlyDone (put_header t start (settled (t.header start))) s → IsNearlyDone t s × (s ≢ start)
  nearly-ending s done = ⊎_elim
      (λ (same : s ≡ start). absurd (done.kind (kind_here s same)))
      (λ (apart : s ≢ start).
      let was = header_other s apart in (
        record {
          slab = done.slab;
          kind = λ is. done.kind (ap (λ (h : SlabHeader). h.kind) was ∙ is);
          none = λ place below live. leaving_before s place apart
              (done.none place (subst (λ (h : SlabHeader). place < h.index_count) (sym was) below) (ap (λ (h : SlabHeader). h.live place) was ∙ live));
        },
        apart,
      ))
      (cases_eq s start)

  turn : IsTurn b t start (settled (t.header start))
  turn = record {
    sound = sound;
    held = held;
    sizes = λ root some. sizes root (claim_at t root);
    valid = valid;
    open_entry = λ e is. record { entry = entry_open e is (sound.owned.open_entry e is).entry; none_morphing = none_morphing e is };
    morphing = AtMostOne-fewer morphing_back sound.loose.morphing;
    done = AtMostOne-fewer (λ s done. (done-ending s done).0) sound.loose.done;
  }

  pub IsSound-ending : IsSound b (put_header t start (settled (t.header start)))
  IsSound-ending = IsSound-turned turn

  pub heap-ending : (root : ℕ) → heap (put_header t start (settled (t.header start))) root ≡ heap t root
  heap-ending = heap-turned turn

  pub loosens-ending : LoosensNothing t (put_header t start (settled (t.header start)))
  loosens-ending = record { large = λ s loose. loose; empty = λ s empty. empty; morphing = morphing_back; done = λ s done. (done-ending s done).0 }

  pub IsSteady-ending : IsSteady b t → IsSteady b (put_header t start (settled (t.header start)))
  IsSteady-ending steady = record { sound = IsSound-ending; one_done = AtMostOne-fewer (λ s done. (nearly-ending s done).0) steady.one_done }
