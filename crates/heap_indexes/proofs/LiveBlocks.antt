-- The live blocks of slabs, the strangers among them and the normal slabs, as blocks and slabs come and go.
use Rattle.std.proofs.Common.{◌≡◌, ◌≢◌, ◌↔◌, ◌==◌, not, ℕ, ◌+◌, ◌-◌, ◌*◌, ◌<◌, ◌≤◌, Bool, true, false, List, slice_index, Option, Some, None, if◌then◌else◌, refl, sym, ap, ◌∙◌, subst, arith, inl, inr, ⊎_elim, ◌/◌}
use Rattle.heap_indexes.proofs.Common.{is_unfit, class_capacity, slab_block, AreApart, LiesIn-block, cases_eq, cases_lt, cases_Bool, cond-true, cond-false, eq-eqb, ne_eqb, and_left, false_from_ne_true, class_size, class_size-rises, Bounds, Machine, Range, with_key, LiesIn, IsFreeGranule, IsFreeRow, IsOverlapFree, is_within, begins_in, live_below, IsInTransition, with_class, with_key-here, with_key-other, with_key-cases, one_if, live_given, begins_in-here, begins_in-true, begins_at, BeginsIn, live_below-some, live_below-none, Lives, normal_at, Units, AreUnitsOf, law_of_kept_units, is_stranger, strangers_below, AreLivesOf, AreStrangersOf, closed}
use Rattle.std.proofs.lemmas.Bool.{false≢true}
use Rattle.heap_indexes.proofs.Machines.{some_same, IsOneMore, unused_less, unused_more, one_slab, lies_in}
use Rattle.heap_indexes.proofs.StrangerBlocks.{stranger_from, stranger_size, stranger_away, strangers_given, strangers_most, strangers_all, moving_some, moving_none, moving_more, moving_less}

-- classes of one size are one
pub sizes_differ : (c d : ℕ) → c < 36 → d < 36 → c ≢ d → class_size c ≢ class_size d
sizes_differ c d one two differ same = ⊎_elim
    (λ (less : c < d). omega (arith, same, class_size-rises c d less two))
    (λ (from : d ≤ c). omega (arith, same, class_size-rises d c (omega (arith, from, differ)) one))
    (cases_lt c d)

-- what a value is that is another at one place
pub at_start : {X : Type 0} (s start : ℕ) (here there : X) → s ≡ start → (if s == start then here else there) ≡ here
at_start s start here there same = cond-true (s == start) here there (eq-eqb s start same)

pub off_start : {X : Type 0} (s start : ℕ) (here there : X) → s ≢ start → (if s == start then here else there) ≡ there
off_start s start here there differ = cond-false (s == start) here there (ne_eqb s start differ)

-- blocks

-- what is known of a slab, where nothing is of one, is known of another
pub other_noted : (start s : ℕ) (b : Bool) → (if s == start then false else b) ≡ true → (s ≢ start) × (b ≡ true)
other_noted start s b known = ⊎_elim
    (λ (here : s ≡ start). absurd (false≢true (sym (at_start s start false b here) ∙ known)))
    (λ (there : s ≢ start). (there, sym (off_start s start false b there) ∙ known))
    (cases_eq s start)

-- the block of a range comes into the slab at a start, or goes from it
module _ {b : Bounds} {less more : Machine} {root : ℕ} {range : Range} (one : IsOneMore b less more root range) (apart : IsOverlapFree b less) (start class : ℕ) (slab : less.slab start ≡ Some class) (lies : LiesIn start range) (some : 0 < range.size) where
  -- it begins in no other slab
  begins_once : (s c : ℕ) → less.slab s ≡ Some c → 16384 * s ≤ range.at → range.at < 16384 * s + 65536 → s ≡ start
  begins_once s c other low high = one_slab apart s start c class range.at other slab low high lies.low (omega (arith, lies.high, some))

  count_here : live_below more.block start b.roots ≡ live_below less.block start b.roots + 1
  count_here =
      let given = live_given less.block more.block start b.roots root range one.rooted one.none one.some one.others in
      let is : one_if (begins_in start (Some range)) ≡ 1 = ap one_if (begins_in-here start range lies.low (omega (arith, lies.high, some))) in
      omega (arith, given, is)

  count_there : (s c : ℕ) → less.slab s ≡ Some c → s ≢ start → live_below more.block s b.roots ≡ live_below less.block s b.roots
  count_there s c other differ =
      let given = live_given less.block more.block s b.roots root range one.rooted one.none one.some one.others in
      let is : one_if (begins_in s (Some range)) ≡ 0 = ap one_if (false_from_ne_true (begins_in s (Some range)) (λ begins. let at = begins_at s range (begins_in-true s (Some range) begins) in differ (begins_once s c other at.0 at.1))) in
      omega (arith, given, is)

  -- so many live in it without it
  pub count_some : (lives : Lives) → AreLivesOf b more lives → (slice_index lives.counts start ≡ live_below less.block start b.roots + 1)
  count_some lives are = are.counts start class (one.slab start ∙ slab) ∙ count_here

  -- a block of another slab is apart from it
  block_there : (s own c i : ℕ) → less.slab s ≡ Some own → s ≢ start → c < 36 → i < class_capacity c → AreApart (slab_block s c i) range
  block_there s own c i other differ known within =
      let inside = LiesIn-block s c (slab_block s c i) (record { number = i; within = within; is = refl }) in
      ⊎_elim
      (λ before. inl (omega (arith, before, inside.high, lies.low)))
      (λ behind. inr (omega (arith, behind, inside.low, lies.high)))
      (apart.slabs_apart s start own class differ other slab)

  pub lives_raised : (old new : Lives) → AreLivesOf b less old → new.unfit ≡ old.unfit → ((s : ℕ) → slice_index new.counts s ≡ (if s == start then slice_index old.counts s + 1 else slice_index old.counts s)) →
      ((s c : ℕ) → normal_at new s ≡ Some c ↔ ((more.slab s ≡ Some c) × ¬ (IsInTransition more s))) → AreLivesOf b more new
  lives_raised old new are unfit raised normal = record {
    counts = λ s c here.
        let was = sym (one.slab s) ∙ here in
        ⊎_elim
        (λ (same : s ≡ start).
        let up = raised s ∙ at_start s start _ _ same in
        let before = are.counts s c was in
        let more_here : live_below more.block s b.roots ≡ live_below less.block s b.roots + 1 = subst (λ k. live_below more.block k b.roots ≡ live_below less.block k b.roots + 1) (sym same) count_here in
        omega (arith, up, before, more_here))
        (λ (differ : s ≢ start). raised s ∙ off_start s start _ _ differ ∙ are.counts s c was ∙ sym (count_there s c was differ))
        (cases_eq s start);
    none = λ s here.
        let was = sym (one.slab s) ∙ here in
        let differ : s ≢ start = λ same. absurd (let had : less.slab s ≡ Some class = ap less.slab same ∙ slab in cc) in
        raised s ∙ off_start s start _ _ differ ∙ are.none s was;
    normal = normal;
    unfit = λ s own c i here known noted within unused.
        are.unfit s own c i (sym (one.slab s) ∙ here) known (ap (λ (set : List ℕ). is_unfit set c s) (sym unfit) ∙ noted) within (unused_less one (slab_block s c i) unused);
  }

  pub lives_lowered : (old new : Lives) → AreLivesOf b more old → ((k o : ℕ) → is_unfit new.unfit k o ≡ (if o == start then false else is_unfit old.unfit k o)) → ((s : ℕ) → slice_index new.counts s ≡ (if s == start then slice_index old.counts s - 1 else slice_index old.counts s)) →
      ((s c : ℕ) → normal_at new s ≡ Some c ↔ ((less.slab s ≡ Some c) × ¬ (IsInTransition less s))) → AreLivesOf b less new
  lives_lowered old new are unfit lowered normal = record {
    counts = λ s c was.
        let here = one.slab s ∙ was in
        ⊎_elim
        (λ (same : s ≡ start).
        let down = lowered s ∙ at_start s start _ _ same in
        let before = are.counts s c here in
        let more_here : live_below more.block s b.roots ≡ live_below less.block s b.roots + 1 = subst (λ k. live_below more.block k b.roots ≡ live_below less.block k b.roots + 1) (sym same) count_here in
        omega (arith, down, before, more_here))
        (λ (differ : s ≢ start). lowered s ∙ off_start s start _ _ differ ∙ are.counts s c here ∙ count_there s c was differ)
        (cases_eq s start);
    none = λ s was.
        let differ : s ≢ start = λ same. absurd (let had : less.slab s ≡ Some class = ap less.slab same ∙ slab in cc) in
        lowered s ∙ off_start s start _ _ differ ∙ are.none s (one.slab s ∙ was);
    normal = normal;
    unfit = λ s own c i was known noted within unused.
        let other = other_noted start s _ (sym (unfit c s) ∙ noted) in
        are.unfit s own c i (one.slab s ∙ was) known other.1 within (unused_more one (slab_block s c i) (block_there s own c i was other.0 known within) unused);
  }

  -- in other slabs it is no stranger
  stranger_there : (s c : ℕ) → less.slab s ≡ Some c → s ≢ start → is_stranger s c (Some range) ≡ false
  stranger_there s c other differ = stranger_away s c range (λ low high. differ (begins_once s c other low high))

  strangers_there : (s c : ℕ) → less.slab s ≡ Some c → s ≢ start → strangers_below more.block s c b.roots ≡ strangers_below less.block s c b.roots
  strangers_there s c other differ =
      let given = strangers_given less.block more.block s c b.roots root range one.rooted one.none one.some one.others in
      let is : one_if (is_stranger s c (Some range)) ≡ 0 = ap one_if (stranger_there s c other differ) in
      omega (arith, given, is)

  moving_there : (s c : ℕ) → less.slab s ≡ Some c → s ≢ start → IsInTransition more s → IsInTransition less s
  moving_there s c other differ = moving_less one s (λ c' slab' lies'. absurd (differ (begins_once s c other lies'.low (omega (arith, lies'.high, some)))))

  -- it has the size of the slab's class
  module _ (own : range.size ≡ class_size class) where
    strangers_as : (s c : ℕ) → less.slab s ≡ Some c → strangers_below more.block s c b.roots ≡ strangers_below less.block s c b.roots
    strangers_as s c here =
        let given = strangers_given less.block more.block s c b.roots root range one.rooted one.none one.some one.others in
        let none : is_stranger s c (Some range) ≡ false = ⊎_elim
        (λ (same : s ≡ start).
        let class_is : c ≡ class = some_same c class (sym here ∙ ap less.slab same ∙ slab) in
        stranger_size s c range (own ∙ ap class_size (sym class_is)))
        (λ (differ : s ≢ start). stranger_there s c here differ)
        (cases_eq s start) in
        let is : one_if (is_stranger s c (Some range)) ≡ 0 = ap one_if none in
        omega (arith, given, is)

    pub strangers_taken : (strangers : List ℕ) → AreStrangersOf b less strangers → AreStrangersOf b more strangers
    strangers_taken strangers are = record { each = λ s c here. let was = sym (one.slab s) ∙ here in are.each s c was ∙ sym (strangers_as s c was) }

    pub strangers_returned : (strangers : List ℕ) → AreStrangersOf b more strangers → AreStrangersOf b less strangers
    strangers_returned strangers are = record { each = λ s c was. are.each s c (one.slab s ∙ was) ∙ strangers_as s c was }

    moving_as : (s c : ℕ) → less.slab s ≡ Some c → IsInTransition more s → IsInTransition less s
    moving_as s c here = moving_less one s (λ c' slab' lies'.
        let same = begins_once s c here lies'.low (omega (arith, lies'.high, some)) in
        own ∙ ap class_size (some_same class c' (sym slab ∙ ap less.slab (sym same) ∙ slab')))

    pub normal_taken : (old new : Lives) → AreLivesOf b less old → ((s : ℕ) → normal_at new s ≡ normal_at old s) → (s c : ℕ) → normal_at new s ≡ Some c ↔ ((more.slab s ≡ Some c) × ¬ (IsInTransition more s))
    normal_taken old new are same s c = (
      λ is. let was = (are.normal s c).0 (sym (same s) ∙ is) in (one.slab s ∙ was.0, λ moving. was.1 (moving_as s c was.0 moving)),
      λ is. same s ∙ (are.normal s c).1 (sym (one.slab s) ∙ is.0, λ moving. is.1 (moving_more one s moving)),
    )

    pub normal_returned : (old new : Lives) → AreLivesOf b more old → ((s : ℕ) → normal_at new s ≡ normal_at old s) → (s c : ℕ) → normal_at new s ≡ Some c ↔ ((less.slab s ≡ Some c) × ¬ (IsInTransition less s))
    normal_returned old new are same s c = (
      λ is. let was = (are.normal s c).0 (sym (same s) ∙ is) in (sym (one.slab s) ∙ was.0, λ moving. was.1 (moving_more one s moving)),
      λ is. same s ∙ (are.normal s c).1 (one.slab s ∙ is.0, λ moving. is.1 (moving_as s c is.0 moving)),
    )

  -- it has another size
  module _ (other : range.size ≢ class_size class) where
    pub strangers_here : strangers_below more.block start class b.roots ≡ strangers_below less.block start class b.roots + 1
    strangers_here =
        let given = strangers_given less.block more.block start class b.roots root range one.rooted one.none one.some one.others in
        let is : one_if (is_stranger start class (Some range)) ≡ 1 = ap one_if (stranger_from start class range lies.low (omega (arith, lies.high, some)) other) in
        omega (arith, given, is)

    pub strangers_lowered : (old new : List ℕ) (left : ℕ) → AreStrangersOf b more old → left ≡ slice_index old start - 1 → ((s : ℕ) → slice_index new s ≡ (if s == start then left else slice_index old s)) → AreStrangersOf b less new
    strangers_lowered old new left are is put = record {
      each = λ s c was. ⊎_elim
          (λ (same : s ≡ start).
          let class_is : c ≡ class = some_same c class (sym was ∙ ap less.slab same ∙ slab) in
          let before = are.each start class (one.slab start ∙ slab) in
          let now : left ≡ strangers_below less.block start class b.roots = omega (arith, is, before, strangers_here) in
          put s ∙ at_start s start _ _ same ∙ now ∙ (λ i. strangers_below less.block (sym same i) (sym class_is i) b.roots))
          (λ (differ : s ≢ start). put s ∙ off_start s start _ _ differ ∙ are.each s c (one.slab s ∙ was) ∙ strangers_there s c was differ)
          (cases_eq s start);
    }

    -- with it the slab is in transition
    moving_here : IsOverlapFree b more → IsInTransition more start
    moving_here apart_more = record { class = class; slab = one.slab start ∙ slab; root = root; range = range; named = one.some; lies = lies; other = other }

    -- and without it where a stranger is left
    pub normal_lowered : IsOverlapFree b more → (old new : Lives) (left : ℕ) (done : Bool) → AreLivesOf b more old → left ≡ strangers_below less.block start class b.roots → (done ≡ true → left ≡ 0) → (done ≡ false → left ≢ 0) →
        ((s : ℕ) → normal_at new s ≡ (if done then with_key (normal_at old) start (Some class) s else normal_at old s)) → (s c : ℕ) → normal_at new s ≡ Some c ↔ ((less.slab s ≡ Some c) × ¬ (IsInTransition less s))
    normal_lowered apart_more old new left done are is when_done when_not put s c = ⊎_elim
        (λ (same : s ≡ start). subst (λ k. normal_at new k ≡ Some c ↔ ((less.slab k ≡ Some c) × ¬ (IsInTransition less k))) (sym same) (⊎_elim
        (λ (yes_done : done ≡ true).
        let now : normal_at new start ≡ Some class = put start ∙ cond-true done _ _ yes_done ∙ with_key-here (normal_at old) start (Some class) in
        let calm = moving_none apart start class slab (sym is ∙ when_done yes_done) in (
          λ here. (slab ∙ sym now ∙ here, calm),
          λ here. now ∙ sym slab ∙ here.0,
        ))
        (λ (not_done : done ≡ false).
        let now : normal_at new start ≡ normal_at old start = put start ∙ cond-false done _ _ not_done in (
          λ here. absurd (((are.normal start c).0 (sym now ∙ here)).1 (moving_here apart_more)),
          λ here. absurd (here.1 (moving_some apart start class slab (omega (arith, is, when_not not_done)))),
        ))
        (cases_Bool done)))
        (λ (differ : s ≢ start).
        let now : normal_at new s ≡ normal_at old s = put s ∙ ⊎_elim (λ d. cond-true done _ _ d ∙ with_key-other (normal_at old) start s (Some class) differ) (λ d. cond-false done _ _ d) (cases_Bool done) in (
          λ here. let was = (are.normal s c).0 (sym now ∙ here) in (sym (one.slab s) ∙ was.0, λ moving. was.1 (moving_more one s moving)),
          λ here. now ∙ (are.normal s c).1 (one.slab s ∙ here.0, λ moving. here.1 (moving_there s c here.0 differ moving)),
        ))
        (cases_eq s start)

-- slabs

-- other slabs are in transition where they were
moving_class : (m : Machine) (start s : ℕ) (x : Option ℕ) → s ≢ start → IsInTransition (record { block = m.block; slab = with_key m.slab start x; value = m.value }) s → IsInTransition m s
moving_class m start s x differ moving = record { class = moving.class; slab = sym (with_key-other m.slab start s x differ) ∙ moving.slab; root = moving.root; range = moving.range; named = moving.named; lies = moving.lies; other = moving.other }

moving_back : (m : Machine) (start s : ℕ) (x : Option ℕ) → s ≢ start → IsInTransition m s → IsInTransition (record { block = m.block; slab = with_key m.slab start x; value = m.value }) s
moving_back m start s x differ moving = record { class = moving.class; slab = with_key-other m.slab start s x differ ∙ moving.slab; root = moving.root; range = moving.range; named = moving.named; lies = moving.lies; other = moving.other }

module _ (b : Bounds) (m : Machine) (start class : ℕ) where
  -- a slab has the class now, and all that live in it are strangers: it is normal where none does
  module _ (apart : IsOverlapFree b (with_class m start class)) (all : strangers_below m.block start class b.roots ≡ live_below m.block start b.roots) where
    pub lives_classed : (old new : Lives) (calm : Bool) → AreLivesOf b m old → slice_index old.counts start ≡ live_below m.block start b.roots → (calm ≡ true → slice_index old.counts start ≡ 0) → (calm ≡ false → slice_index old.counts start ≢ 0) →
        new.counts ≡ old.counts → ((k o : ℕ) → is_unfit new.unfit k o ≡ (if o == start then false else is_unfit old.unfit k o)) → ((s : ℕ) → normal_at new s ≡ with_key (normal_at old) start (if calm then Some class else None) s) → AreLivesOf b (with_class m start class) new
    lives_classed old new calm are count when_calm when_not same unfit put = record {
      counts = λ s c slab. ap (λ (xs : List ℕ). slice_index xs s) same ∙ ⊎_elim
          (λ here. subst (λ k. slice_index old.counts k ≡ live_below m.block k b.roots) (sym here.0) count)
          (λ there. are.counts s c there.1)
          (with_key-cases m.slab start s (Some class) (Some c) slab);
      none = λ s slab. ap (λ (xs : List ℕ). slice_index xs s) same ∙ ⊎_elim
          (λ here. absurd (let is = here.1 in cc))
          (λ there. are.none s there.1)
          (with_key-cases m.slab start s (Some class) None slab);
      normal = λ s c. ⊎_elim
          (λ (is : s ≡ start). subst (λ k. normal_at new k ≡ Some c ↔ ((with_key m.slab start (Some class) k ≡ Some c) × ¬ (IsInTransition (with_class m start class) k))) (sym is) (here c))
          (λ (differ : s ≢ start).
          let now : normal_at new s ≡ normal_at old s = put s ∙ with_key-other (normal_at old) start s (if calm then Some class else None) differ in (
            λ n. let was = (are.normal s c).0 (sym now ∙ n) in (with_key-other m.slab start s (Some class) differ ∙ was.0, λ moving. was.1 (moving_class m start s (Some class) differ moving)),
            λ n. now ∙ (are.normal s c).1 (sym (with_key-other m.slab start s (Some class) differ) ∙ n.0, λ moving. n.1 (moving_back m start s (Some class) differ moving)),
          ))
          (cases_eq s start);
      unfit = λ s own c i slab known noted within unused.
          let other = other_noted start s _ (sym (unfit c s) ∙ noted) in
          are.unfit s own c i (sym (with_key-other m.slab start s (Some class) other.0) ∙ slab) known other.1 within (record { each = unused.each });
    }
      where
        slab_now : with_key m.slab start (Some class) start ≡ Some class
        slab_now = with_key-here m.slab start (Some class)

        here : (c : ℕ) → normal_at new start ≡ Some c ↔ ((with_key m.slab start (Some class) start ≡ Some c) × ¬ (IsInTransition (with_class m start class) start))
        here c = ⊎_elim
            (λ (is : calm ≡ true).
            let now : normal_at new start ≡ Some class = put start ∙ with_key-here (normal_at old) start _ ∙ cond-true calm (Some class) None is in
            let none = moving_none apart start class slab_now (all ∙ sym count ∙ when_calm is) in (
              λ n. (slab_now ∙ sym now ∙ n, none),
              λ n. now ∙ sym slab_now ∙ n.0,
            ))
            (λ (is : calm ≡ false).
            let now : normal_at new start ≡ None = put start ∙ with_key-here (normal_at old) start _ ∙ cond-false calm (Some class) None is in (
              λ n. absurd (let both : None ≡ Some c = sym now ∙ n in cc),
              λ n. absurd (n.1 (moving_some apart start class slab_now (omega (arith, all, count, when_not is)))),
            ))
            (cases_Bool calm)

    pub strangers_classed : (old new : List ℕ) (live : ℕ) → AreStrangersOf b m old → live ≡ live_below m.block start b.roots → ((s : ℕ) → slice_index new s ≡ (if s == start then live else slice_index old s)) → AreStrangersOf b (with_class m start class) new
    strangers_classed old new live are is put = record {
      each = λ s c slab. ⊎_elim
          (λ here.
          let class_is : c ≡ class = some_same c class (sym here.1) in
          put s ∙ at_start s start _ _ here.0 ∙ is ∙ sym all ∙ (λ i. strangers_below m.block (sym here.0 i) (sym class_is i) b.roots))
          (λ there. put s ∙ off_start s start _ _ there.0 ∙ are.each s c there.1)
          (with_key-cases m.slab start s (Some class) (Some c) slab);
    }

  -- a slab leaves in which no block lives
  pub lives_closed : (old new : Lives) → AreLivesOf b m old → slice_index old.counts start ≡ 0 → new.counts ≡ old.counts → ((k o : ℕ) → is_unfit new.unfit k o ≡ (if o == start then false else is_unfit old.unfit k o)) → ((s : ℕ) → normal_at new s ≡ with_key (normal_at old) start None s) → AreLivesOf b (closed m start) new
  lives_closed old new are count same unfit put = record {
    counts = λ s c slab. ap (λ (xs : List ℕ). slice_index xs s) same ∙ ⊎_elim (λ here. absurd (let is = here.1 in cc)) (λ there. are.counts s c there.1) (with_key-cases m.slab start s None (Some c) slab);
    none = λ s slab. ap (λ (xs : List ℕ). slice_index xs s) same ∙ ⊎_elim (λ here. subst (λ k. slice_index old.counts k ≡ 0) (sym here.0) count) (λ there. are.none s there.1) (with_key-cases m.slab start s None None slab);
    normal = λ s c. ⊎_elim
        (λ (is : s ≡ start). (
          λ n. absurd (let now : normal_at new s ≡ None = put s ∙ ap (with_key (normal_at old) start None) is ∙ with_key-here (normal_at old) start None in cc),
          λ n. absurd (let none : with_key m.slab start None s ≡ None = ap (with_key m.slab start None) is ∙ with_key-here m.slab start None in let some = n.0 in cc),
        ))
        (λ (differ : s ≢ start).
        let now : normal_at new s ≡ normal_at old s = put s ∙ with_key-other (normal_at old) start s None differ in (
          λ n. let was = (are.normal s c).0 (sym now ∙ n) in (with_key-other m.slab start s None differ ∙ was.0, λ moving. was.1 (moving_class m start s None differ moving)),
          λ n. now ∙ (are.normal s c).1 (sym (with_key-other m.slab start s None differ) ∙ n.0, λ moving. n.1 (moving_back m start s None differ moving)),
        ))
        (cases_eq s start);
    unfit = λ s own c i slab known noted within unused.
        let other = other_noted start s _ (sym (unfit c s) ∙ noted) in
        are.unfit s own c i (sym (with_key-other m.slab start s None other.0) ∙ slab) known other.1 within (record { each = unused.each });
  }

  pub strangers_closed : (strangers : List ℕ) → AreStrangersOf b m strangers → AreStrangersOf b (closed m start) strangers
  strangers_closed strangers are = record { each = λ s c slab. ⊎_elim (λ here. absurd (let is = here.1 in cc)) (λ there. are.each s c there.1) (with_key-cases m.slab start s None (Some c) slab) }

-- of a slab that is not in transition each live block is a stranger to another class
pub all_strangers : (b : Bounds) (m : Machine) (start d class : ℕ) → IsOverlapFree b m → m.slab start ≡ Some d → ¬ (IsInTransition m start) → d < 36 → class < 36 → class ≢ d → strangers_below m.block start class b.roots ≡ live_below m.block start b.roots
all_strangers b m start d class apart slab calm known is_class differ = strangers_all m.block start class b.roots (λ r below. go r (m.block r) refl)
  where
    go : (r : ℕ) (x : Option Range) → m.block r ≡ x → is_stranger start class x ≡ begins_in start x
    go r None named = refl
    go r (Some range) named = ⊎_elim
        (λ (begins : begins_in start (Some range) ≡ true).
        let at = begins_at start range (begins_in-true start (Some range) begins) in
        let lies = lies_in apart r start d range named slab at.0 at.1 in
        let size : range.size ≡ class_size d = ⊎_elim (λ same. same) (λ other. absurd (calm (record { class = d; slab = slab; root = r; range = range; named = named; lies = lies; other = other }))) (cases_eq range.size (class_size d)) in
        stranger_from start class range at.0 at.1 (λ same. sizes_differ class d is_class known differ (sym same ∙ size)) ∙ sym begins)
        (λ (away : begins_in start (Some range) ≡ false). and_left (is_within start range.at) (not (range.size == class_size class)) away ∙ sym away)
        (cases_Bool (begins_in start (Some range)))

-- no block begins on free granules
pub none_begin : (b : Bounds) (m : Machine) (start : ℕ) → IsOverlapFree b m → IsFreeRow (IsFreeGranule b m) start 4 → live_below m.block start b.roots ≡ 0
none_begin b m start apart row = live_below-none m.block start b.roots (λ r below begins.
    ⊎_elim
    (λ (large : 16384 < begins.range.size).
    let k = begins.range.at / 16384 in
    (row.each k (omega (arith, begins.low)) (omega (arith, begins.high))).no_block r begins.range begins.named large (record { begins = omega arith; ends = omega (arith, large) }))
    (λ (small : begins.range.size ≤ 16384).
    let home = apart.small r begins.range begins.named (λ large. omega (arith, large, small)) in
    let some = apart.sized r begins.range begins.named in
    let k = begins.range.at / 16384 in
    ⊎_elim
    (λ before. omega (arith, before, home.3.low))
    (λ behind. omega (arith, behind, home.3.high, some))
    ((row.each k (omega (arith, begins.low)) (omega (arith, begins.high))).no_slab home.0 home.1 home.2))
    (cases_lt 16384 begins.range.size))

pub no_strangers : (b : Bounds) (m : Machine) (start class : ℕ) → live_below m.block start b.roots ≡ 0 → strangers_below m.block start class b.roots ≡ live_below m.block start b.roots
no_strangers b m start class none = let most = strangers_most m.block start class b.roots in omega (arith, none, most)

-- where no block lives in a slab, none begins there
pub none_live : (b : Bounds) (m : Machine) (start r : ℕ) → live_below m.block start b.roots ≡ 0 → r < b.roots → ¬ (BeginsIn start (m.block r))
none_live b m start r none below begins = let some = live_below-some m.block start b.roots r below (ap (begins_in start) begins.named ∙ begins_in-here start begins.range begins.low begins.high) in omega (arith, none, some)

-- the same blocks have the same units
pub units_same : (m after : Machine) (units : Units) → ((r : ℕ) → after.block r ≡ m.block r) → AreUnitsOf m units → AreUnitsOf after units
units_same m after units same are = law_of_kept_units m after units are (λ range. (
  λ live. record { root = live.root; named = same live.root ∙ live.named; small = live.small },
  λ live. record { root = live.root; named = sym (same live.root) ∙ live.named; small = live.small },
))
