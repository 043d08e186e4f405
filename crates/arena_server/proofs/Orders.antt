-- Requests of one sender for one arena are served or skipped in the order in which they were sent.
use Rattle.std.proofs.Common.{◌≡◌, ℕ, zero, suc, List, [], ◌∷◌, ◌++◌, sym, ◌∙◌, subst}
use mathlib.Core.List.{IsPrefix}
use mathlib.Core.Option.{some, some-injective, some-ne-none}
use lib.ListN.{get_elem?}
use Rattle.arena_lock.specs.declared.opening.Opening.{Opening}
use Rattle.arena_server.specs.declared.request.Request.{Request}
use Rattle.arena_server.specs.Requests.{of}
use Rattle.arena_server.specs.Senders.{SenderState, sent_at}
use Rattle.arena_server.specs.Owners.{OwnerState}
use Rattle.arena_server.specs.Closed.{Desk, AllSentThere, IsDesk}
use Rattle.arena_server.proofs.Entering.{of-append}

-- the requests of any of the senders
pub sent_by : (a k : ℕ) (ss : List SenderState) (s : SenderState) (all : List Request) → get_elem? ss k ≡ some s → AllSentThere a ss all → of s.number all ≡ sent_at s a
sent_by a k [] s all at h = absurd (some-ne-none s (sym at))
sent_by a zero (x ∷ xs) s all at h = subst (λ (z : SenderState). of z.number all ≡ sent_at z a) (some-injective _ _ at) h.0
sent_by a (suc k) (x ∷ xs) s all at h = sent_by a k xs s all at h.1

-- of each sender the owner's list has the first requests that it sent there, in the order in which it sent them
pub first_sent : (a k : ℕ) (ss : List SenderState) (s : SenderState) (o : OwnerState) (p : Opening) (d : Desk) → get_elem? ss k ≡ some s → IsDesk a ss o p d → IsPrefix (of s.number o.list) (sent_at s a)
first_sent a k ss s o p d at h = (of s.number d.left, sym (of-append s.number o.list d.left) ∙ sent_by a k ss s (o.list ++ d.left) at h.requests.each)
