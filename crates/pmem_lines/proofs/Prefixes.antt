-- Stores to one line keep their order, so that each crash leaves what is read after the first so many events.
use Rattle.std.proofs.Common.{◌≡◌, ◌⊎◌, ℕ, zero, suc, ◌/◌, ◌<◌, ◌≤◌, List, [], ◌∷◌, take, sym, ◌∙◌, ap, subst, refl, inl, inr, ⊎_elim, arith, ltb}
use Rattle.std.proofs.lemmas.Bool.{lt-ltb, cond-true, cond-false, cases_lt, le-ltb}
use Rattle.std.proofs.lemmas.List.{take-take, take_all, length-take}
use Rattle.pmem_lines.specs.declared.event.Event.{Event}
use Rattle.pmem_lines.specs.declared.event.Event.TheVariants.{Store, Flush, Fence}
use Rattle.pmem_lines.specs.Words.{put_word}
use Rattle.pmem_lines.specs.Events.{reading, less_one, image_of, CrashOnly, AllStores}

-- every store is to the line
abbrev pub OnLine : ℕ → List Event → Type 0
OnLine line e = AllStores (λ at. at / 64 ≡ line) e

-- what holds of every store holds of every one of the first events
pub AllStores-take : (P : ℕ → Type 0) (n : ℕ) (e : List Event) → AllStores P e → AllStores P (take n e)
AllStores-take P zero e all = tt
AllStores-take P (suc n) [] all = all
AllStores-take P (suc n) (Store at value ∷ e) all = (all.0, AllStores-take P n e all.1)
AllStores-take P (suc n) (Flush l ∷ e) all = AllStores-take P n e all
AllStores-take P (suc n) (Fence ∷ e) all = AllStores-take P n e all

-- with nothing kept of the line, nothing is done
none_kept : (kept : ℕ → ℕ) (base : List ℕ) (line : ℕ) (e : List Event) → OnLine line e → kept line ≡ 0 → image_of kept base e ≡ base
none_kept kept base line [] on h = refl
none_kept kept base line (Store at value ∷ e) on h =
    cond-false (ltb 0 (kept (at / 64))) (image_of (less_one kept (at / 64)) (put_word base (at / 8) value) e) (image_of kept base e) (le-ltb 0 (kept (at / 64)) (omega (arith, ap kept on.0, h)))
    ∙ none_kept kept base line e on.1 h
none_kept kept base line (Flush l ∷ e) on h = none_kept kept base line e on h
none_kept kept base line (Fence ∷ e) on h = none_kept kept base line e on h

-- an image is what is read after the first so many events
pub a_prefix : (kept : ℕ → ℕ) (base : List ℕ) (line : ℕ) (e : List Event) → OnLine line e → (k : ℕ) × (image_of kept base e ≡ reading base (take k e))
a_prefix kept base line [] on = (0, refl)
a_prefix kept base line (Store at value ∷ e) on =
    ⊎_elim
    (λ (some : 0 < kept (at / 64)).
    let rest = a_prefix (less_one kept (at / 64)) (put_word base (at / 8) value) line e on.1 in
    (suc rest.0, cond-true (ltb 0 (kept (at / 64))) (image_of (less_one kept (at / 64)) (put_word base (at / 8) value) e) (image_of kept base e) (lt-ltb 0 (kept (at / 64)) some) ∙ rest.1))
    (λ (nothing : kept (at / 64) ≤ 0). (0, none_kept kept base line (Store at value ∷ e) on (omega (arith, ap kept on.0))))
    (cases_lt 0 (kept (at / 64)))
a_prefix kept base line (Flush l ∷ e) on = let rest = a_prefix kept base line e on in (suc rest.0, rest.1)
a_prefix kept base line (Fence ∷ e) on = let rest = a_prefix kept base line e on in (suc rest.0, rest.1)

-- which of two numbers is greater
cases_le : (k n : ℕ) → (k ≤ n) ⊎ (n < k)
cases_le k n = ⊎_elim (λ lt. inl (omega arith)) (λ ge. ⊎_elim (λ lt. inr lt) (λ le. inl le) (cases_lt n k)) (cases_lt k n)

-- where all stores are to one line, what holds after each number of events holds after every crash
pub by_prefixes : (base : List ℕ) (line : ℕ) (e : List Event) (P : List ℕ → Type 0) → OnLine line e → ((k : ℕ) → P (reading base (take k e))) → CrashOnly base e P
by_prefixes base line e P on each = record {
  each = λ n image left.
      let prefix = a_prefix left.kept base line (take n e) (AllStores-take (λ at. at / 64 ≡ line) n e on) in
      rw (left.is, prefix.1) (take_twice prefix.0 n);
}
  where
    take_twice : (k n : ℕ) → P (reading base (take k (take n e)))
    take_twice k n = ⊎_elim
        (λ (less : k ≤ n). rw take-take (each k))
        (λ (more : n < k). subst (λ es. P (reading base es)) (sym (take_all k (take n e) (omega (arith, length-take n e)))) (each n))
        (cases_le k n)
