-- A key that is put with a root above all roots that keys have.
use Rattle.std.proofs.Common.{◌≡◌, ⊎_elim, ℕ, ◌+◌, ◌<◌, Option, Some, None, ap, arith}
use Rattle.dict_index.specs.declared.key_map.Keyed.{Keyed}
use Rattle.dict_index.specs.KeyRoots.{KeyRoots, IsKeyed, IsPut}

pub put_roots : (old : KeyRoots) (more : Keyed) (new : KeyRoots) (o : Option ℕ) → IsPut old more new o → new.roots ≡ old.roots
put_roots old more new None put = put.roots
put_roots old more new (Some root) put = put.roots

pub put_below : (old : KeyRoots) (more : Keyed) (new : KeyRoots) (o : Option ℕ) → IsPut old more new o → (end : ℕ) → more.root ≡ end → ((r : Keyed) → IsKeyed old r → r.root < end) → (r : Keyed) → IsKeyed new r → r.root < end + 1
put_below old more new None put end is below r has =
    ⊎_elim (λ (was : IsKeyed old r). omega (arith, below r was)) (λ (same : r ≡ more). let e = ap (λ (x : Keyed). x.root) same in omega (arith, e, is)) (put.each r has)
put_below old more new (Some root) put end is below r has =
    ⊎_elim (λ was. omega (arith, below r was.0)) (λ (same : r ≡ more). let e = ap (λ (x : Keyed). x.root) same in omega (arith, e, is)) (put.each r has)
