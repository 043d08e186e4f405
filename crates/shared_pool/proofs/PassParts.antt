-- The parts of a pass.
use Rattle.std.proofs.Common.{◌≡◌, ℕ, zero, suc, ◌<◌, List, [], ◌∷◌, ◌++◌, length, arith, get_or, set}
use Rattle.shared_pool.specs.declared.pass.Spot.{Spot}
use Rattle.shared_pool.specs.Rows.{AllTell}

abbrev pub Tells : ℕ → Spot → Type 0
Tells n s = (s.seat.numbers ≡ n ∷ []) × (length s.seat.seen ≡ s.seen)

pub tell_more : (n : ℕ) (ss : List Spot) (s : Spot) → AllTell n ss → Tells n s → AllTell n (ss ++ s ∷ [])
tell_more n [] s h t = (t, tt)
tell_more n (x ∷ xs) s h t = (h.0, tell_more n xs s h.1 t)

pub tell_set : (n : ℕ) (ss : List Spot) (k : ℕ) (s : Spot) → AllTell n ss → Tells n s → AllTell n (set ss k s)
tell_set n [] k s h t = h
tell_set n (x ∷ xs) zero s h t = (t, h.1)
tell_set n (x ∷ xs) (suc k) s h t = (h.0, tell_set n xs k s h.1 t)

pub tell_at : (n : ℕ) (ss : List Spot) (k : ℕ) (d : Spot) → k < length ss → AllTell n ss → Tells n (get_or ss k d)
tell_at n [] k d l h = absurd (omega arith)
tell_at n (x ∷ xs) zero d l h = h.0
tell_at n (x ∷ xs) (suc k) d l h = tell_at n xs k d (omega arith) h.1
