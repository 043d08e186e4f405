-- For the functions that look for the call under way at an event: what the watch saw, where the search ended, and how the side of
-- that call is told.
use Rattle.std.specs.Prelude.{◌≡◌, ◌≢◌, ◌⊎◌, ◌==◌, ◌||◌, ℕ, ◌+◌, ◌-◌, ◌<◌, ◌≤◌, Bool, true, false, List, length, take, get_or, Some, None, is_some, MatchOption}
use Rattle.std.specs.Bool.{MatchBool}
use Rattle.pmem_lines.specs.Events.{IsImage}
use Rattle.trace_text.specs.declared.call.CrashSide.{CrashSide}
use Rattle.trace_text.specs.declared.call.CrashSide.TheVariants.{Same, Before, After}
use Rattle.trace_runs.specs.Runs.{Stage}
use Rattle.trace_crashes.specs.Crash.{crash_image}
use Rattle.attach_dict.specs.Dict.{Pair, value_of, IsSteadyDict}
use Rattle.dict_text.specs.Script.{DictCall, Put, Get, Del}
use Rattle.dict_runs.specs.declared.crashing.DictCrashed.{DictCrashed}
use Rattle.dict_runs.specs.declared.crashing.Sought.{Sought}
use Rattle.dict_runs.specs.declared.crashing.Sought.TheVariants.{UnderWay, Past}
use Rattle.dict_runs.specs.declared.watching.Watch.{Watch}
use Rattle.dict_runs.specs.Acts.{Standing}
use Rattle.dict_runs.specs.Crashes.{DictLeft, IsLeft, IsLeftIdle, IsDictCrash, all_events}
use Rattle.dict_runs.specs.Scripts.{Turn, IsRunOf}

-- the watch

-- the call is not under way: its events have come
pub record HasCounted (old : Watch) (stage : Stage) (new : Watch) : Type 0 where
  pub few : 0 < length stage.events → length stage.events < old.left
  pub seeded : new.seed ≡ old.seed
  pub left : new.left ≡ old.left - length stage.events
  pub image : new.image ≡ None

-- it is: the image that the seed picks was taken
pub record HasTaken (old : Watch) (stage : Stage) (new : Watch) : Type 0 where
  pub some : 0 < length stage.events
  pub within : old.left ≤ length stage.events
  pub image : MatchOption new.image ⊥ (λ image. (image.items ≡ crash_image stage old.left old.seed) × IsImage stage.words (take old.left stage.events) image.items)

-- a call of the arena was seen, where the image was taken before or not
abbrev pub IsWatchedFrom : Bool → Watch → Stage → Watch → Type 0
IsWatchedFrom true old stage new = new ≡ old
IsWatchedFrom false old stage new = HasCounted old stage new ⊎ HasTaken old stage new

abbrev pub IsWatched : Watch → Stage → Watch → Type 0
IsWatched old stage new = IsWatchedFrom (is_some old.image) old stage new

-- the side

-- the call is a put of what its key has
abbrev pub ChangesNothing : List Pair → DictCall → Type 0
ChangesNothing pairs (Put key value) = value_of pairs key ≡ Some value
ChangesNothing pairs call = ⊥

-- A call that changes the map, and the side of it on which a map stands: a put is done where its key has its value, and a removal
-- where its key is not there.
abbrev pub IsSideOf : DictCall → List Pair → CrashSide → Type 0
IsSideOf (Put key value) pairs Before = value_of pairs key ≢ Some value
IsSideOf (Put key value) pairs After = value_of pairs key ≡ Some value
IsSideOf (Del key) pairs Before = value_of pairs key ≢ None
IsSideOf (Del key) pairs After = value_of pairs key ≡ None
IsSideOf (Get key) pairs Same = Unit {0}
IsSideOf call pairs side = ⊥

-- the same by the number of the call under way, which is none for 0, and whether it changes nothing
abbrev pub IsSideAt : ℕ → Bool → List DictCall → List Pair → CrashSide → Type 0
IsSideAt number same calls pairs side = MatchBool ((number == 0) || same) (side ≡ Same) (IsSideOf (get_or calls (number - 1) (Get 0)) pairs side)

abbrev pub IsSideIn : DictCrashed → List DictCall → List Pair → CrashSide → Type 0
IsSideIn crashed calls pairs side = IsSideAt crashed.call crashed.same calls pairs side

-- the search

-- what a crash left, with the map of its image and the side on which that stands
abbrev pub left_of : DictCrashed → CrashSide → List Pair → DictLeft
left_of crashed side pairs = record { call = crashed.call; side = side; image = crashed.image.items; pairs = pairs }

-- this is what a crash leaves after so many events of a script's calls, whichever its map and the side
pub record IsCrashed (granules : ℕ) (calls : List DictCall) (event seed : ℕ) (crashed : DictCrashed) : Type 0 where
  pub each : (pairs : List Pair) (side : CrashSide) → IsSteadyDict pairs crashed.image.items → IsSideIn crashed calls pairs side → IsDictCrash granules calls event seed (left_of crashed side pairs)

-- an image is steady, and the dictionary of some map
pub record HasSteadyDict (image : List ℕ) : Type 0 where
  pub pairs : List Pair
  pub steady : IsSteadyDict pairs image

-- what was found is that
pub record IsFound (granules : ℕ) (calls : List DictCall) (event seed : ℕ) (crashed : DictCrashed) : Type 0 where
  pub crash : IsCrashed granules calls event seed crashed
  pub steady : HasSteadyDict crashed.image.items
  pub number : crashed.call ≤ length calls

-- no call is under way at the event: so many events are to come behind all calls, and where that is none, none is done
pub record IsPast (granules : ℕ) (calls : List DictCall) (event seed left : ℕ) : Type 0 where
  pub turns : List Turn
  pub to : Standing
  pub last : List Pair
  pub run : IsRunOf granules calls turns to last
  pub total : all_events turns + left ≡ event
  pub leaves : left ≡ 0 → (found : DictLeft) → IsLeftIdle granules 0 found → IsLeft granules 0 turns event seed found

-- where the search for an event ended
abbrev pub IsSought : ℕ → List DictCall → ℕ → ℕ → Sought → Type 0
IsSought granules calls event seed (UnderWay crashed) = IsFound granules calls event seed crashed
IsSought granules calls event seed (Past left) = IsPast granules calls event seed left
