-- A large extent that no root holds goes: the image stays sound and steady with the same heap, and nothing comes to be
-- loose.
use Rattle.std.proofs.Common.{◌≡◌, ◌≢◌, ℕ, ◌<◌, refl, sym, ap, subst, ◌∙◌, arith, inl, ⊎_elim, None}
use Rattle.heap_check.proofs.Common.{cases_eq, Tables, put_at, put_at-same, put_at-other, put_at-own, Bounds}
use Rattle.heap_check.specs.Heap.{heap}
use Rattle.heap_check.specs.Sound.{IsLooseLarge, LoosensNothing, IsSteady}
use Rattle.heap_check.proofs.Claims.{plain_size}
use Rattle.heap_check.proofs.Heaps.{heap-same}
use Rattle.heap_check.proofs.Large.{with_large, IsLargePlace, plain_size-elsewhere, entry_at-none}
use Rattle.heap_check.proofs.LargePlaces.{IsLargePlace-loose}
use Rattle.heap_check.proofs.LargeSound.{IsSteady-large}

-- a number of no root serves as the root that has neither the extent before nor after
module _ {b : Bounds} {t : Tables} {start : ℕ} (steady : IsSteady b t) (closed : t.open_entry ≡ None) (first : 0 < b.first) (loose : IsLooseLarge t start) (spare : ℕ) (no_word : t.word spare ≡ 0) (none : t.root spare ≡ 0) where
  abbrev less : Tables
  less = record t { large = put_at t.large start 0 }

  place : IsLargePlace b t spare start (t.large start)
  place = IsLargePlace-loose steady.sound closed first none loose

  same : with_large t start 0 spare 0 ≡ less
  same =
      let word : put_at t.word spare 0 ≡ t.word = ap (put_at t.word spare) (sym no_word) ∙ put_at-own t.word spare in
      let root : put_at t.root spare 0 ≡ t.root = ap (put_at t.root spare) (sym none) ∙ put_at-own t.root spare in
      λ i. record t { large = put_at t.large start 0; word = word i; root = root i }

  pub IsSteady-loose_gone : IsSteady b less
  IsSteady-loose_gone = subst (IsSteady b) same (IsSteady-large place 0 0 (record { is = inl (refl, refl) }) steady)

  pub heap-loose_gone : (root : ℕ) → heap less root ≡ heap t root
  heap-loose_gone root =
      heap-same t less root (entry_at-none place root) (entry_at-none place root) refl
      (λ some. ap (λ (x : Tables). plain_size x (t.root root)) (sym same) ∙ plain_size-elsewhere t start 0 spare 0 (t.root root) (loose.unnamed root))

  pub loosens_no_other : LoosensNothing t less
  loosens_no_other = record {
    large = λ other other_loose. ⊎_elim
        (λ (here : other ≡ start). absurd (omega (arith, other_loose.live, ap (put_at t.large start 0) here, put_at-same t.large start 0)))
        (λ (differ : other ≢ start). record { live = omega (arith, other_loose.live, put_at-other t.large start other 0 differ); unnamed = other_loose.unnamed })
        (cases_eq other start);
    empty = λ other empty. empty;
    morphing = λ other morphing. morphing;
    done = λ other done. done;
  }
