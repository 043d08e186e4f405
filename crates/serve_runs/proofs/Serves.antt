-- The turns of an owner after a request was served, and what its clerk noted.
use Rattle.std.proofs.Common.{◌≡◌, ◌⊎◌, inl, inr, ℕ, zero, suc, ◌+◌, ◌-◌, ◌<◌, ◌≤◌, List, [], ◌∷◌, ◌++◌, map, get_or, set, refl, ap, sym, ◌∙◌, arith, ⊎_elim}
use Rattle.serve_runs.proofs.Common.{Known, PassState, nobody, part_at, with_part, Called, Refused, Call, OwnerState, Request}
use Rattle.shared_pool.specs.declared.job.Receipt.{Receipt}
use Rattle.serve_runs.specs.Clerks.{turns_left}

-- an item that is set is there, or nothing changed
set_or : (xs : List Known) (a : ℕ) (w : Known) → (get_or (set xs a w) a nobody ≡ w) ⊎ (get_or (set xs a w) a nobody ≡ get_or xs a nobody)
set_or [] a w = inr refl
set_or (x ∷ xs) zero w = inl refl
set_or (x ∷ xs) (suc a) w = set_or xs a w

spent : (p q : PassState) (a : ℕ) (w : Known) → q ≡ with_part p a w → w.turns ≡ (part_at p a).turns - 1 → (part_at p a).turns ≤ (part_at q a).turns + 1
spent p q a w is one = ⊎_elim
    (λ (here : get_or (set p.parts a w) a nobody ≡ w).
    let at = ap (λ (z : PassState). (part_at z a).turns) is in
    let turns = ap (λ (k : Known). k.turns) here in
    omega (arith, at, turns, one))
    (λ (none : get_or (set p.parts a w) a nobody ≡ get_or p.parts a nobody).
    let at = ap (λ (z : PassState). (part_at z a).turns) is in
    let turns = ap (λ (k : Known). k.turns) none in
    omega (arith, at, turns))
    (set_or p.parts a w)

pub called_turns : (p q : PassState) (a : ℕ) (call : Call) (r : Receipt) → Called a call p q r → (part_at p a).turns ≤ (part_at q a).turns + 1
called_turns p q a call r h = spent p q a _ h.pass refl

pub refused_turns : (p q : PassState) (a : ℕ) → Refused a p q → (part_at p a).turns ≤ (part_at q a).turns + 1
refused_turns p q a h = spent p q a _ h.pass refl
