-- Owners in their parts, and queues one by one, at the end of a server. No public contract speaks of these.
use Rattle.std.specs.Prelude.{◌≡◌, ℕ, suc, ◌==◌, if◌then◌else◌, List, [], ◌∷◌, ◌++◌, map, get_or, Option, None}
use mathlib.Core.List.{IsPrefix}
use Rattle.atomic_table.specs.Seated.{TableId}
use Rattle.crossbeam_queue.specs.Passes.{view}
use Rattle.shared_pool.specs.Passes.{PassState}
use Rattle.arena_server.specs.declared.request.Request.{Request}
use Rattle.arena_server.specs.declared.part.Part.{Part}
use Rattle.arena_server.specs.declared.owner.Till.{Till}
use Rattle.arena_server.specs.Parts.{after_ending}
use Rattle.arena_server.specs.declared.part.Part.TheVariants.{Sends}
use Rattle.arena_server.specs.Senders.{SenderState, nowhere, sent_at}
use Rattle.arena_server.specs.Owners.{OwnerState, held_list, till_list, senders_of, owner_of, IsTill, IsOwner}
use Rattle.arena_server.specs.Closed.{IsInterleaving}

-- owners from their passes and the rest
abbrev pub owners_of : List PassState → List Till → List OwnerState
owners_of [] ts = []
owners_of (p ∷ ps) [] = []
owners_of (p ∷ ps) (t ∷ ts) = owner_of p t ∷ owners_of ps ts

abbrev pub AllOwners : List PassState → List Till → Type 0
AllOwners [] [] = Unit {0}
AllOwners (p ∷ ps) (t ∷ ts) = IsOwner p t × AllOwners ps ts
AllOwners ps ts = ⊥

-- the arenas that these serve
abbrev pub arenas_of : List Till → List ℕ
arenas_of ts = map (λ (t : Till). t.arena) ts

-- it takes from the queue of its arena, for so many senders
pub record TakesThere (queues : List TableId) (n : ℕ) (t : Till) : Type 0 where
  pub till : IsTill t
  pub queue : t.token.table_id ≡ get_or queues t.arena nowhere
  pub senders : senders_of (view t.token) ≡ n

abbrev pub AllTakeThere : List TableId → ℕ → List Till → Type 0
AllTakeThere queues n [] = Unit {0}
AllTakeThere queues n (t ∷ ts) = TakesThere queues n t × AllTakeThere queues n ts

-- the place of the first one that serves an arena
abbrev pub place_of : ℕ → List Till → ℕ
place_of a [] = 0
place_of a (t ∷ ts) = if t.arena == a then 0 else suc (place_of a ts)

-- what it served or skipped, and what it holds
abbrev pub list_at : List Till → ℕ → List Request
list_at [] a = []
list_at (t ∷ ts) a = if t.arena == a then till_list t else list_at ts a

abbrev pub held_at : List Till → ℕ → Option Request
held_at [] a = None
held_at (t ∷ ts) a = if t.arena == a then t.held else held_at ts a

-- all these senders have ended, at the queue of their first line
abbrev pub after_all_ending : Part → List SenderState → Part
after_all_ending p [] = p
after_all_ending p (s ∷ ss) = after_all_ending (after_ending p (Sends s.number (sent_at s 0))) ss

-- the queue of arena a was emptied, with what is left of it behind what was served or skipped and what was held
pub record IsEmptied (a : ℕ) (senders : List SenderState) (list : List Request) (held : Option Request) (left : List Request) : Type 0 where
  pub requests : IsInterleaving a senders (list ++ left)
  pub first : IsPrefix (held_list held) left

-- and those from a on
abbrev pub AllEmptied : ℕ → List SenderState → List Till → List (List Request) → Type 0
AllEmptied a senders ts [] = Unit {0}
AllEmptied a senders ts (l ∷ ls) = IsEmptied a senders (list_at ts a) (held_at ts a) l × AllEmptied (suc a) senders ts ls
