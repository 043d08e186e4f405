-- What a crash leaves after the first so many events of all calls of a script.
use Rattle.std.specs.Prelude.{◌≡◌, ◌≢◌, ◌&&◌, ℕ, zero, suc, ◌+◌, ◌-◌, ◌<◌, nat_lt, nat_le, Bool, List, [], ◌∷◌, length, take}
use Rattle.std.specs.Bool.{MatchBool}
use Rattle.trace_text.specs.declared.call.CrashSide.{CrashSide}
use Rattle.trace_text.specs.declared.call.CrashSide.TheVariants.{Same, Before, After}
use Rattle.trace_runs.specs.Arenas.{formatted}
use Rattle.trace_runs.specs.Runs.{Stage, total_events}
use Rattle.trace_crashes.specs.Crash.{crash_image, is_under_way}
use Rattle.trace_crashes.specs.declared.crashing.CrashFault.{CrashFault}
use Rattle.trace_crashes.specs.declared.crashing.CrashFault.TheVariants.{Memory, NoEvent}
use Rattle.attach_dict.specs.Dict.{Pair, IsSteadyDict}
use Rattle.dict_text.specs.Script.{DictCall}
use Rattle.dict_runs.specs.Acts.{Standing}
use Rattle.dict_runs.specs.Scripts.{Turn, header_of, IsRunOf}

-- how many events the calls of a script have, of which each may make several calls of the arena
abbrev pub all_events : List Turn → ℕ
all_events [] = 0
all_events (turn ∷ turns) = total_events turn.stages + all_events turns

-- a call of so many events is under way: it has events, and so many are done within it or at its end
abbrev pub is_within : ℕ → ℕ → Bool
is_within events event = nat_lt 0 events && nat_le event events

-- the image that a generator from this seed picks within calls of the arena, one after another: that of the one under way
abbrev pub IsImageWithin : List Stage → ℕ → ℕ → List ℕ → Type 0
IsImageWithin [] event seed image = ⊥
IsImageWithin (stage ∷ stages) event seed image =
    MatchBool (is_under_way stage.events event)
    (image ≡ crash_image stage event seed)
    (IsImageWithin stages (event - length stage.events) seed image)

-- on which side of a call a map stands
abbrev pub IsMapSide : List Pair → List Pair → List Pair → CrashSide → Type 0
IsMapSide before behind pairs Same = (before ≡ behind) × (pairs ≡ behind)
IsMapSide before behind pairs Before = (before ≢ behind) × (pairs ≡ before)
IsMapSide before behind pairs After = (before ≢ behind) × (pairs ≡ behind)

-- what a crash left: the number of the call under way, counted from 1, on which side of it the map stands, the image, and its map
pub record DictLeft : Type 0 where
  pub call : ℕ
  pub side : CrashSide
  pub image : List ℕ
  pub pairs : List Pair

-- a crash within a call: the image is steady, and its map is the one before the call or the one behind it
pub record IsLeftWithin (turn : Turn) (number event seed : ℕ) (left : DictLeft) : Type 0 where
  pub call : left.call ≡ number
  pub image : IsImageWithin turn.stages event seed left.image
  pub steady : IsSteadyDict left.pairs left.image
  pub side : IsMapSide turn.before turn.behind left.pairs left.side

-- with no call under way, no event is done, and the image is the formatted one, with no pair
pub record IsLeftIdle (granules event : ℕ) (left : DictLeft) : Type 0 where
  pub done : event ≡ 0
  pub no_call : left.call ≡ 0
  pub no_side : left.side ≡ Same
  pub image : left.image ≡ formatted (header_of granules)
  pub none : left.pairs ≡ []

-- A crash after so many events of these turns leaves this, behind so many calls. The call under way is the first one that has
-- events and at whose end so many are done.
abbrev pub IsLeft : ℕ → ℕ → List Turn → ℕ → ℕ → DictLeft → Type 0
IsLeft granules number [] event seed left = IsLeftIdle granules event left
IsLeft granules number (turn ∷ turns) event seed left =
    MatchBool (is_within (total_events turn.stages) event)
    (IsLeftWithin turn (number + 1) event seed left)
    (IsLeft granules (number + 1) turns (event - total_events turn.stages) seed left)

-- the calls up to and with the one of this number, counted from 1; all of them for 0
abbrev pub calls_up_to : ℕ → List DictCall → List DictCall
calls_up_to zero calls = calls
calls_up_to (suc n) calls = take (suc n) calls

-- This is what a crash leaves after so many events of a script's calls. The run is that of the calls up to the one under way, or
-- of all where none is.
pub record IsDictCrash (granules : ℕ) (calls : List DictCall) (event seed : ℕ) (left : DictLeft) : Type 0 where
  pub turns : List Turn
  pub to : Standing
  pub last : List Pair
  pub run : IsRunOf granules (calls_up_to left.call calls) turns to last
  pub leaves : IsLeft granules 0 turns event seed left

-- the calls have so many events, which are fewer than are asked for
pub record HasFewer (granules : ℕ) (calls : List DictCall) (asked events : ℕ) : Type 0 where
  pub turns : List Turn
  pub to : Standing
  pub last : List Pair
  pub run : IsRunOf granules calls turns to last
  pub is_all : events ≡ all_events turns
  pub lacks : events < asked

-- what a fault says of the calls, where it is that they have too few events
abbrev pub IfNoEvent : ℕ → List DictCall → ℕ → CrashFault → Type 0
IfNoEvent granules calls event (Memory error) = Unit {0}
IfNoEvent granules calls event (NoEvent events) = HasFewer granules calls event events
