-- The part that a pass has in its queue, and what each step makes of it.
use Rattle.std.specs.Prelude.{◌≡◌, ℕ, ◌+◌, ◌<◌, List, [], ◌∷◌, ◌++◌, map}
use Rattle.shared_pool.specs.Closed.{HasAll}
use Rattle.arena_server.specs.declared.request.Request.{Request}
use Rattle.arena_server.specs.declared.part.Ended.{Ended}
use Rattle.arena_server.specs.declared.part.Part.{Part}
use Rattle.arena_server.specs.declared.part.Part.TheVariants.{Sends, Takes, Gone}
use Rattle.arena_server.specs.Requests.{of, AllOfSenders}

-- the part of the first pass, by which requests are taken out
abbrev pub first_part : Part
first_part = Takes 0 [] []

-- another sender is enlisted: the part that enlists it, and its own
abbrev pub after_enlisting : Part → Part
after_enlisting (Takes senders taken ended) = Takes (senders + 1) taken ended
after_enlisting p = p

abbrev pub new_sender : Part → Part
new_sender (Takes senders taken ended) = Sends senders []
new_sender p = Gone

-- a request was put in
abbrev pub after_put : Part → Request → Part
after_put (Sends sender sent) r = Sends sender (sent ++ r ∷ [])
after_put p r = p

-- a request was taken out
abbrev pub after_take : Part → Request → Part
after_take (Takes senders taken ended) r = Takes senders (taken ++ r ∷ []) ended
after_take p r = p

-- a sender has ended: its pass was taken in by the one that takes
abbrev pub after_ending : Part → Part → Part
after_ending (Takes senders taken ended) (Sends sender sent) = Takes senders taken (ended ++ record { sender = sender; sent = sent } ∷ [])
after_ending p q = p

-- each of these senders was enlisted, and sent just its requests among these
abbrev pub AllEnded : ℕ → List Ended → List Request → Type 0
AllEnded senders [] all = Unit {0}
AllEnded senders (e ∷ es) all = ((e.sender < senders) × (e.sent ≡ of e.sender all)) × AllEnded senders es all

-- the requests that were put in, in order, are of the senders that were enlisted; of each that has ended they are what it sent
pub record IsWhole (senders : ℕ) (ended : List Ended) (all : List Request) : Type 0 where
  pub enlisted : AllOfSenders senders all
  pub sent : AllEnded senders ended all

-- with these requests in the queue, the one that takes knows what was put in
abbrev pub KnowsWhole : Part → List Request → Type 0
KnowsWhole (Takes senders taken ended) items = IsWhole senders ended (taken ++ items)
KnowsWhole p items = ⊥

-- the pass takes
abbrev pub IsTaker : Part → Type 0
IsTaker (Takes senders taken ended) = Unit {0}
IsTaker p = ⊥

-- the pass sends
abbrev pub IsSending : Part → Type 0
IsSending (Sends sender sent) = Unit {0}
IsSending p = ⊥

-- it sends for this sender
abbrev pub SendsFor : ℕ → Part → Type 0
SendsFor s (Sends sender sent) = sender ≡ s
SendsFor s p = ⊥

-- it takes, and each sender that was enlisted has ended
abbrev pub HaveAllEnded : Part → Type 0
HaveAllEnded (Takes senders taken ended) = HasAll senders (map (λ e. e.sender) ended)
HaveAllEnded p = ⊥
