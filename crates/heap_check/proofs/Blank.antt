-- An image without anything in it, and exact images.
use Rattle.std.proofs.Common.{◌≡◌, ◌≢◌, ℕ, true, sym, ◌∙◌, refl, arith, ⊎_elim}
use Rattle.heap_check.proofs.Common.{cases_Bool, cases_eq, Tables, Bounds, Range}
use Rattle.heap_check.specs.Heap.{IsClaim, claim_at}
use Rattle.heap_check.specs.Sound.{granules_at, IsNearlyDone, IsSound, IsExact, IsExactBut, IsSteady}
use Rattle.heap_check.specs.Laws.{AreBlank, LawOfEmptyHeap, LawOfSteady}
use Rattle.heap_check.proofs.Loose.{AtMostOne-one, IsExactBut-exact}

module _ (b : Bounds) (t : Tables) (blank : AreBlank t) where
  no_granules : (start : ℕ) → granules_at t start ≡ 0
  no_granules start = rw (blank.no_slab start) (blank.no_large start)

  no_slab : (start : ℕ) → t.slab start ≢ true
  no_slab start slab = let none = blank.no_slab start in cc

  no_claim : (root : ℕ) (range : Range) → ¬ (IsClaim t root range)
  no_claim root range claim = let none : claim_at t root ≡ 0 = rw (blank.roots root, blank.closed) refl in claim.some (sym claim.place ∙ none)

  pub blank_sound : IsSound b t
  blank_sound = record {
    extents = record {
      disjoint = λ start other k first second. absurd (omega (arith, first.low, first.high, no_granules start));
      starts = λ start some. absurd (omega (arith, some, no_granules start));
      one_kind = λ start slab. absurd (no_slab start slab);
    };
    slabs = λ start slab. absurd (no_slab start slab);
    owned = record {
      open_entry = λ e is. absurd (let none = blank.closed in cc);
      rooted = λ root some. absurd (some (blank.roots root));
      apart = λ root other range another differ first second. absurd (no_claim root range first);
      claimed = λ start range holds. absurd (no_slab start holds.slab);
    };
    loose = record {
      large = record { same = λ one other first second. absurd (omega (arith, first.live, blank.no_large one)) };
      empty = record { same = λ one other first second. absurd (no_slab one first.slab) };
      morphing = record { same = λ one other first second. absurd (no_slab one first.slab) };
      done = record { same = λ one other first second. absurd (no_slab one first.slab) };
    };
  }

  pub blank_exact : IsExact b t
  blank_exact = record {
    sound = blank_sound;
    closed = blank.closed;
    all_named = λ start live. absurd (omega (arith, live, blank.no_large start));
    all_live = λ start slab. absurd (no_slab start slab);
    none_morphing = λ start morphing. no_slab start morphing.slab;
    none_done = λ start done. no_slab start done.slab;
  }

pub law_of_empty_heap : LawOfEmptyHeap
law_of_empty_heap b t blank = (blank_exact b t blank, λ root. rw (blank.roots root) refl)

-- an image that is exact but for one slab is steady: no other is nearly done
pub IsSteady-but : {b : Bounds} {t : Tables} {start : ℕ} → IsExactBut b t start → IsSteady b t
IsSteady-but {b} {t} {start} but = record {
  sound = but.sound;
  one_done = AtMostOne-one start (λ other nearly. ⊎_elim (λ (same : other ≡ start). same) (λ (differ : other ≢ start). absurd (nearly_none other differ nearly)) (cases_eq other start));
}
  where
    nearly_none : (other : ℕ) → other ≢ start → ¬ (IsNearlyDone t other)
    nearly_none other differ nearly = ⊎_elim
        (λ (normal : (t.header other).kind ≡ 1). nearly.kind normal)
        (λ rest. ⊎_elim
        (λ (morphing : (t.header other).kind ≡ 2). but.none_morphing other (record { slab = nearly.slab; kind = morphing }))
        (λ (morphed : (t.header other).kind ≡ 3). but.none_done other differ (record {
          slab = nearly.slab;
          kind = morphed;
          none = λ place below. ⊎_elim
              (λ (live : (t.header other).live place ≡ true). absurd (let found = nearly.none place below live in let open' = found.entry in let none = but.closed in cc))
              (λ dead. dead)
              (cases_Bool ((t.header other).live place));
        }))
        rest)
        (but.sound.slabs other nearly.slab).state.kinds

-- so is an exact image
pub law_of_steady : LawOfSteady
law_of_steady b t exact = IsSteady-but (IsExactBut-exact exact 0)
