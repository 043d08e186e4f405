-- What a crash leaves after the first so many events of all calls of an arena: of either variant, and of the LOG variant.
use Rattle.std.specs.Prelude.{◌≡◌, ◌&&◌, ℕ, zero, suc, ◌+◌, ◌-◌, ◌<◌, nat_lt, nat_le, Bool, List, [], ◌∷◌, length, take}
use Rattle.std.specs.Bool.{MatchBool}
use Rattle.pool_layout.specs.declared.header.PoolHeader.{PoolHeader}
use Rattle.pmem_lines.specs.declared.event.Event.{Event}
use Rattle.pmem_lines.specs.Picks.{picked_image}
use Rattle.heap_check.specs.Image.{IsSteadyImage}
use Rattle.heap_check.specs.State.{HaveSameHeap}
use Rattle.trace_text.specs.declared.call.CrashSide.{CrashSide}
use Rattle.trace_text.specs.declared.call.CrashSide.TheVariants.{Same, Before, After}
use Rattle.trace_text.specs.declared.call.TraceCall.{TraceCall}
use Rattle.trace_crashes.specs.declared.crashing.CrashFault.{CrashFault}
use Rattle.trace_crashes.specs.declared.crashing.CrashFault.TheVariants.{Memory, NoEvent}
use Rattle.trace_crashes.specs.declared.leaving.Crashed.{Crashed}
use Rattle.trace_runs.specs.Arenas.{formatted}
use Rattle.trace_runs.specs.Runs.{Stage, words_after, total_events, IsRunOf}

-- the image that a generator from this seed picks after the first so many events of a call
unfoldable pub crash_image : Stage → ℕ → ℕ → List ℕ
crash_image stage event seed = picked_image (record { base = stage.words; events = stage.events; room = 0; begins = 0; made = 0 }) event seed

-- the call is under way: it has events, and so many are done within it or at its end
abbrev pub is_under_way : List Event → ℕ → Bool
is_under_way events event = nat_lt 0 (length events) && nat_le event (length events)

-- what a variant of the arena says of images: which a crash may leave, and which two have the same heap
pub record Variant : Type 1 where
  pub IsWhole : List ℕ → Type 0
  pub HaveSame : List ℕ → List ℕ → Type 0

-- on which side of a call an image stands, by its heap
abbrev pub IsSide : Variant → List ℕ → List ℕ → List ℕ → CrashSide → Type 0
IsSide variant before after image Same = variant.HaveSame before after × variant.HaveSame after image
IsSide variant before after image Before = ¬ (variant.HaveSame before after) × variant.HaveSame before image
IsSide variant before after image After = ¬ (variant.HaveSame before after) × variant.HaveSame after image

-- what a crash left: the number of the call under way, counted from 1, on which side of it the heap stands, and the image
pub record CrashLeft : Type 0 where
  pub call : ℕ
  pub side : CrashSide
  pub image : List ℕ

-- a crash within a call: the image is whole, and its heap is the one before the call or the one after it
pub record IsLeftWithin (variant : Variant) (stage : Stage) (number event seed : ℕ) (left : CrashLeft) : Type 0 where
  pub call : left.call ≡ number
  pub image : left.image ≡ crash_image stage event seed
  pub whole : variant.IsWhole left.image
  pub side : IsSide variant stage.words (words_after stage) left.image left.side

-- with no call under way, no event is done, and the image is the formatted one
pub record IsLeftIdle (words : List ℕ) (event : ℕ) (left : CrashLeft) : Type 0 where
  pub done : event ≡ 0
  pub no_call : left.call ≡ 0
  pub no_side : left.side ≡ Same
  pub image : left.image ≡ words

-- A crash after so many events of a run that began with these words leaves this, behind so many of its calls. The call
-- under way is the first one that has events and at whose end so many are done.
abbrev pub IsLeft : Variant → List ℕ → ℕ → List Stage → ℕ → ℕ → CrashLeft → Type 0
IsLeft variant words number [] event seed left = IsLeftIdle words event left
IsLeft variant words number (stage ∷ stages) event seed left =
    MatchBool (is_under_way stage.events event)
    (IsLeftWithin variant stage (number + 1) event seed left)
    (IsLeft variant words (number + 1) stages (event - length stage.events) seed left)

-- the calls up to and with the one of this number, counted from 1; all of them for 0
abbrev pub calls_up_to : ℕ → List TraceCall → List TraceCall
calls_up_to zero calls = calls
calls_up_to (suc n) calls = take (suc n) calls

-- what the code gives of it
abbrev pub left_of : Crashed → CrashLeft
left_of crashed = record { call = crashed.call; side = crashed.side; image = crashed.image.items }

-- which stages some calls make
abbrev pub Runs : Type 1
Runs = List TraceCall → List Stage → Type 0

-- This is what a crash leaves after so many events of calls that make such runs, in an arena that began with these words. The
-- run is that of the calls up to the one under way, or of all where none is.
pub record IsCrash (variant : Variant) (runs : Runs) (words : List ℕ) (calls : List TraceCall) (event seed : ℕ) (left : CrashLeft) : Type 0 where
  pub stages : List Stage
  pub run : runs (calls_up_to left.call calls) stages
  pub leaves : IsLeft variant words 0 stages event seed left

-- the calls have so many events, which are fewer than are asked for
pub record HasFewerIn (runs : Runs) (calls : List TraceCall) (asked events : ℕ) : Type 0 where
  pub stages : List Stage
  pub run : runs calls stages
  pub is_all : events ≡ total_events stages
  pub lacks : events < asked

-- what a fault says of the calls, where it is that they have too few events
abbrev pub IfTooFew : Runs → List TraceCall → ℕ → CrashFault → Type 0
IfTooFew runs calls event (Memory error) = Unit {0}
IfTooFew runs calls event (NoEvent events) = HasFewerIn runs calls event events

-- the LOG variant: a crash leaves a steady image
abbrev pub log : Variant
log = record { IsWhole = IsSteadyImage; HaveSame = HaveSameHeap }

-- the same of an arena of it that was formatted with this header
abbrev pub IsCrashOf : PoolHeader → List TraceCall → ℕ → ℕ → CrashLeft → Type 0
IsCrashOf header = IsCrash log (IsRunOf header) (formatted header)

abbrev pub HasFewer : PoolHeader → List TraceCall → ℕ → ℕ → Type 0
HasFewer header = HasFewerIn (IsRunOf header)

abbrev pub IfNoEvent : PoolHeader → List TraceCall → ℕ → CrashFault → Type 0
IfNoEvent header = IfTooFew (IsRunOf header)
