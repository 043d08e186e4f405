-- Each beginning of a legal journal is legal. No other proof looks into what makes a journal legal.
use Rattle.std.proofs.Common.{List, [], ◌∷◌, ◌++◌, refl, sym, subst}
use mathlib.Core.List.{IsPrefix}
use Rattle.heap_model.specs.declared.call.Entry.{Entry}
use Rattle.heap_model.specs.Journal.{Leads}
use Rattle.arena_lock.specs.declared.opening.Opening.{Opening}
use Rattle.arena_lock.specs.Legality.{IsLegal}

-- the first entries lead somewhere too
leads_start : {State : Type 0} (Steps : State → Entry → State → Type 0) (s : State) (xs rest : List Entry) (last : State) → Leads Steps s (xs ++ rest) last → (mid : State) × Leads Steps s xs mid
leads_start Steps s [] rest last h = (s, refl)
leads_start Steps s (e ∷ es) rest last h = let r = leads_start Steps h.0 es rest last h.2 in (r.0, (h.0, h.1, r.1))

-- the entries of a legal journal up to any of them
pub legal_start : (o : Opening) (xs rest : List Entry) → IsLegal o (xs ++ rest) → IsLegal o xs
legal_start o xs rest h = leads_start _ _ xs rest h.0 h.1

-- the same of a journal that another one begins with
pub legal_prefix : (o : Opening) (xs ys : List Entry) → IsPrefix xs ys → IsLegal o ys → IsLegal o xs
legal_prefix o xs ys p h = legal_start o xs p.0 (subst (IsLegal o) (sym p.1) h)
