-- A slab that holds no block comes and goes: the image stays sound and steady, with nothing loose but the slab.
use Rattle.std.proofs.Common.{◌≡◌, ◌≢◌, ◌<◌, ℕ, sym, ap, subst, ◌∙◌, arith, inl, ⊎_elim}
use Rattle.heap_check.proofs.Common.{cases_eq, Tables, Bounds}
use Rattle.heap_check.specs.Slabs.{IsSlabMore, IsFresh}
use Rattle.heap_check.specs.Sound.{granules_at, Covers, IsInSlab, IsValidSlab, IsStanding, IsLooseLarge, IsEmptySlab, IsMorphing, IsDoneSlab, IsNearlyDone, LoosensNothing, IsSound, IsExact, IsSteady, IsExactBut}
use Rattle.heap_check.proofs.Loose.{AtMostOne-one, AtMostOne-fewer}
use Rattle.heap_check.proofs.SameSlabs.{IsSameSlab-back, IsMorphing-same, IsDoneSlab-same, IsNearlyDone-same}
use Rattle.heap_check.proofs.Slabs.{IsSlabPlace, new_closed, word, large, slab-differ, granules_at-other, granules_at-new, granules_at-none, Covers-back, Covers-forth, Holds-back, Holds-forth, claims-forth, claims-back, stands-forth, stands-back, IsInSlab-forth, IsInSlab-back}

module _ {b : Bounds} {t new : Tables} {start : ℕ} (place : IsSlabPlace b t new start) where
  abbrev it : IsSlabMore t new start
  it = place.more

  -- what says nothing of one slab

  morphing-forth : (other : ℕ) → IsMorphing t other → IsMorphing new other
  morphing-forth other morphing = IsMorphing-same (it.others other (slab-differ place other morphing.slab)) morphing

  done-forth : (other : ℕ) → IsDoneSlab t other → IsDoneSlab new other
  done-forth other done = IsDoneSlab-same (it.others other (slab-differ place other done.slab)) done

  loose-forth : (other : ℕ) → IsLooseLarge t other → IsLooseLarge new other
  loose-forth other loose = record { live = omega (arith, loose.live, large place other); unnamed = λ root is. loose.unnamed root (sym (word place root) ∙ is) }

  empty-forth : (other : ℕ) → IsEmptySlab t other → IsEmptySlab new other
  empty-forth other empty =
      let differ = slab-differ place other empty.slab in
      record {
        slab = (it.others other differ).slab ∙ empty.slab;
        none = λ root some inside.
            let is = word place root in
            empty.none root (λ none. some (is ∙ none)) (IsInSlab-back place other (t.root root) differ (subst (IsInSlab new other) is inside));
      }

  -- the slab goes

  pub IsSound-less : IsSound b new → IsSound b t
  IsSound-less sound = record {
    extents = record {
      disjoint = λ one other k first second. sound.extents.disjoint one other k (Covers-forth place one k first) (Covers-forth place other k second);
      starts = λ other some.
          let size = granules_at-other place other (λ same. omega (arith, some, ap (granules_at t) same, granules_at-none place)) in
          let was = sound.extents.starts other (omega (arith, some, size)) in
          (was.0, omega (arith, was.1, size));
      one_kind = λ other slab. sym (large place other) ∙ sound.extents.one_kind other ((it.others other (slab-differ place other slab)).slab ∙ slab);
    };
    slabs = λ other slab.
        let same = it.others other (slab-differ place other slab) in
        subst IsValidSlab same.header (sound.slabs other (same.slab ∙ slab));
    owned = record {
      open_entry = λ e is. absurd (let none = place.closed in cc);
      rooted = λ root some.
          let is = word place root in
          stands-back place root (subst (IsStanding new root) is (sound.owned.rooted root (λ none. some (sym is ∙ none))));
      apart = λ root other range another differ first second. sound.owned.apart root other range another differ (claims-forth place root range first) (claims-forth place other another second);
      claimed = λ other range holds. let claim = sound.owned.claimed other range (Holds-forth place other range holds) in (claim.0, claims-back place claim.0 range claim.1);
    };
    loose = record {
      large = AtMostOne-fewer loose-forth sound.loose.large;
      empty = AtMostOne-fewer empty-forth sound.loose.empty;
      morphing = AtMostOne-fewer morphing-forth sound.loose.morphing;
      done = AtMostOne-fewer done-forth sound.loose.done;
    };
  }

  nearly-forth : (other : ℕ) → IsNearlyDone t other → IsNearlyDone new other
  nearly-forth other nearly = IsNearlyDone-same (it.others other (slab-differ place other nearly.slab)) place.closed nearly

  pub IsSteady-less : IsSteady b new → IsSteady b t
  IsSteady-less steady = record { sound = IsSound-less steady.sound; one_done = AtMostOne-fewer nearly-forth steady.one_done }

  pub loosens_nothing : LoosensNothing new t
  loosens_nothing = record { large = loose-forth; empty = empty-forth; morphing = morphing-forth; done = done-forth }

  pub IsExact-less : IsExactBut b new start → IsExact b t
  IsExact-less but = record {
    sound = IsSound-less but.sound;
    closed = place.closed;
    all_named = λ other live. let named = but.all_named other (omega (arith, live, large place other)) in (named.0, sym (word place named.0) ∙ named.1);
    all_live = λ other slab.
        let differ = slab-differ place other slab in
        let lives = but.others_live other differ ((it.others other differ).slab ∙ slab) in
        let is = word place lives.0 in
        (lives.0, λ none. lives.1 (is ∙ none), IsInSlab-back place other (t.root lives.0) differ (subst (IsInSlab new other) is lives.2));
    none_morphing = λ other morphing. but.none_morphing other (morphing-forth other morphing);
    none_done = λ other done. but.none_done other (slab-differ place other done.slab) (done-forth other done);
  }

  -- a fresh one comes

  module _ {class : ℕ} (fresh : IsFresh (new.header start) class) (class_below : class < 36) where
    morphing-back : (other : ℕ) → IsMorphing new other → IsMorphing t other
    morphing-back other morphing = ⊎_elim
        (λ (same : other ≡ start). absurd (omega (arith, morphing.kind, ap (λ s. (new.header s).kind) same, fresh.kind)))
        (λ (differ : other ≢ start). IsMorphing-same (IsSameSlab-back (it.others other differ)) morphing)
        (cases_eq other start)

    done-back : (other : ℕ) → IsDoneSlab new other → IsDoneSlab t other
    done-back other done = ⊎_elim
        (λ (same : other ≡ start). absurd (omega (arith, done.kind, ap (λ s. (new.header s).kind) same, fresh.kind)))
        (λ (differ : other ≢ start). IsDoneSlab-same (IsSameSlab-back (it.others other differ)) done)
        (cases_eq other start)

    loose-back : (other : ℕ) → IsLooseLarge new other → IsLooseLarge t other
    loose-back other loose = record { live = omega (arith, loose.live, large place other); unnamed = λ root is. loose.unnamed root (word place root ∙ is) }

    empty-back : (other : ℕ) → other ≢ start → IsEmptySlab new other → IsEmptySlab t other
    empty-back other differ empty = record {
      slab = sym (it.others other differ).slab ∙ empty.slab;
      none = λ root some inside.
          let is = word place root in
          let there = IsInSlab-forth place other (t.root root) inside in
          empty.none root (λ none. some (sym is ∙ none)) (subst (IsInSlab new other) (sym is) there);
    }

    module _ (sound : IsSound b t) (lived : (other : ℕ) → other ≢ start → ¬ (IsEmptySlab t other)) where
      clash : (one other k : ℕ) → one ≡ start → other ≢ start → Covers new one k → Covers new other k → ⊥
      clash one other k same differ first second = ⊎_elim
          (λ x. omega (arith, x, first.low, same))
          (λ x. omega (arith, x, first.high, same, ap (granules_at new) same, granules_at-new place))
          (place.free other k differ (Covers-back place other k differ second))

      disjoint : (one other k : ℕ) → Covers new one k → Covers new other k → one ≡ other
      disjoint one other k first second = ⊎_elim
          (λ (same : one ≡ start). ⊎_elim (λ (too : other ≡ start). same ∙ sym too) (λ (differ : other ≢ start). absurd (clash one other k same differ first second)) (cases_eq other start))
          (λ (differ : one ≢ start). ⊎_elim
          (λ (same : other ≡ start). absurd (clash other one k same differ second first))
          (λ (too : other ≢ start). sound.extents.disjoint one other k (Covers-back place one k differ first) (Covers-back place other k too second))
          (cases_eq other start))
          (cases_eq one start)

      pub IsSound-slab : IsSound b new
      IsSound-slab = record {
        extents = record {
          disjoint = disjoint;
          starts = λ other some. ⊎_elim
              (λ (same : other ≡ start). let four = ap (granules_at new) same ∙ granules_at-new place in (omega (arith, place.low, same), omega (arith, place.high, same, four)))
              (λ (differ : other ≢ start).
              let size = granules_at-other place other differ in
              let was = sound.extents.starts other (omega (arith, some, size)) in
              (was.0, omega (arith, was.1, size)))
              (cases_eq other start);
          one_kind = λ other slab. ⊎_elim
              (λ (same : other ≡ start). large place other ∙ ap t.large same ∙ place.no_large)
              (λ (differ : other ≢ start). large place other ∙ sound.extents.one_kind other (sym (it.others other differ).slab ∙ slab))
              (cases_eq other start);
        };
        slabs = λ other slab. ⊎_elim
            (λ (same : other ≡ start). subst (λ s. IsValidSlab (new.header s)) (sym same) (record {
              state = record {
                kinds = inl fresh.kind;
                is_class = omega (arith, fresh.class_is, class_below);
                is_old_class = omega (arith, fresh.old);
                none = λ kind. (fresh.old, fresh.index_count);
                differ = λ kind. absurd (kind fresh.kind);
                number = λ kind. absurd (kind fresh.kind);
              };
              small = λ at below. absurd (omega (arith, below, fresh.index_count));
              once = λ at other below. absurd (omega (arith, below, fresh.index_count));
            }))
            (λ (differ : other ≢ start). let same = it.others other differ in subst IsValidSlab (sym same.header) (sound.slabs other (sym same.slab ∙ slab)))
            (cases_eq other start);
        owned = record {
          open_entry = λ e is. absurd (let none = new_closed place in cc);
          rooted = λ root some. let is = word place root in subst (IsStanding new root) (sym is) (stands-forth place root (sound.owned.rooted root (λ none. some (is ∙ none))));
          apart = λ root other range another differ first second. sound.owned.apart root other range another differ (claims-back place root range first) (claims-back place other another second);
          claimed = λ other range holds. let claim = sound.owned.claimed other range (Holds-back place other range holds).1 in (claim.0, claims-forth place claim.0 range claim.1);
        };
        loose = record {
          large = AtMostOne-fewer loose-back sound.loose.large;
          empty = AtMostOne-one start (λ other empty. ⊎_elim (λ (same : other ≡ start). same) (λ (differ : other ≢ start). absurd (lived other differ (empty-back other differ empty))) (cases_eq other start));
          morphing = AtMostOne-fewer morphing-back sound.loose.morphing;
          done = AtMostOne-fewer done-back sound.loose.done;
        };
      }

      pub IsSteady-slab : IsSteady b t → IsSteady b new
      IsSteady-slab steady = record {
        sound = IsSound-slab;
        one_done = AtMostOne-fewer (λ k (nearly : IsNearlyDone new k). ⊎_elim
            (λ (same : k ≡ start). absurd (nearly.kind (ap (λ s. (new.header s).kind) same ∙ fresh.kind)))
            (λ (differ : k ≢ start). IsNearlyDone-same (IsSameSlab-back (it.others k differ)) (new_closed place) nearly)
            (cases_eq k start)) steady.one_done;
      }

    pub IsExactBut-slab : IsExact b t → IsExactBut b new start
    IsExactBut-slab exact = record {
      sound = IsSound-slab exact.sound (λ other differ empty. let lives = exact.all_live other empty.slab in empty.none lives.0 lives.1 lives.2);
      closed = new_closed place;
      all_named = λ other live. let named = exact.all_named other (omega (arith, live, large place other)) in (named.0, word place named.0 ∙ named.1);
      others_live = λ other differ slab.
          let lives = exact.all_live other (sym (it.others other differ).slab ∙ slab) in
          let is = word place lives.0 in
          (lives.0, λ none. lives.1 (sym is ∙ none), subst (IsInSlab new other) (sym is) (IsInSlab-forth place other (t.root lives.0) lives.2));
      none_morphing = λ other morphing. exact.none_morphing other (morphing-back other morphing);
      none_done = λ other differ done. exact.none_done other (done-back other done);
    }
