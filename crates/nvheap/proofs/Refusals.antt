-- What is accepted is not refused: traces, images of pools, and scripts.
use Rattle.std.proofs.Common.{◌≡◌, ℕ, List, sym, ap, ◌∙◌, subst, inl, inr, arith}
use Rattle.nvheap.proofs.Common.{PoolHeader, part_of, IsImageOf, faultless_of, no_defect, HasUnsoundFrom, IsPoolDefect, BadLine, NoArena, NoEvent, PoolSize, TraceCall, header_for, DictCall}
use Rattle.pool_layout.specs.declared.header.PoolVariant.TheVariants.{Log}
use Rattle.pool_layout.specs.declared.defect.Defect.{Defect}
use Rattle.pool_layout.proofs.OneImage.{law_of_no_defect, one_header}
use Rattle.trace_runs.specs.Calls.{calls_of}
use Rattle.trace_text.specs.Laws.{LawOfOneText, LawOfNoneOutside}
use Rattle.trace_crashes.specs.Crash.{HasFewerIn}
use Rattle.dict_text.proofs.OneMeaning.{law_of_one_script, law_of_no_refused_script}
use Rattle.dict_runs.specs.Crashes.{HasFewer as HasFewerEvents}
use Rattle.nvheap.specs.declared.cause.Cause.{Cause}
use Rattle.nvheap.specs.declared.cause.Cause.TheVariants.{Text, Image, Version}
use Rattle.nvheap.specs.Traces.{Grammar, HasTraceOf, RefusesTraceOf}
use Rattle.nvheap.specs.Checking.{HasSoundArenas, RefusesImage}
use Rattle.nvheap.specs.Crashing.{Arenas, RefusesCrash, HasEvents}
use Rattle.nvheap.specs.Migrating.{HasSoundFirst, RefusesMigrate}
use Rattle.nvheap.specs.Scripting.{HasScript, RefusesScript}
use Rattle.nvheap.specs.ScriptCrashing.{HasScriptEvents, RefusesDictCrash}

-- images

-- of sound arenas none has a defect
sound_not_unsound : (input words : List ℕ) (image : IsImageOf input words) (arena : ℕ) (defect : Defect) (all : HasSoundArenas input) → ¬ (HasUnsoundFrom words image.header 0 arena defect)
sound_not_unsound input words image arena defect all un =
    let same : words ≡ all.words = image.words_are ∙ sym all.image.words_are in
    let unsound : HasUnsoundFrom all.words all.image.header 0 arena defect =
    subst (λ (h : PoolHeader). HasUnsoundFrom all.words h 0 arena defect) (one_header Log input words all.words image all.image) (subst (λ (ws : List ℕ). HasUnsoundFrom ws image.header 0 arena defect) same un) in
    no_defect (part_of all.words all.image.header.granules arena) defect
    (faultless_of (part_of all.words all.image.header.granules arena) (all.sound arena unsound.inside)) unsound.first

-- a pool of sound arenas has no defect
sound_not_refused : (input : List ℕ) (arena : ℕ) (defect : Defect) → HasSoundArenas input → ¬ (IsPoolDefect input arena defect)
sound_not_refused input arena defect all (inl is) = law_of_no_defect Log input all.words arena defect all.image is
sound_not_refused input arena defect all (inr un) = sound_not_unsound input un.words un.image arena defect all un.unsound

-- so `check` and `recover` refuse nothing
pub image_not_refused : (input : List ℕ) (why : Cause) → HasSoundArenas input → ¬ (RefusesImage input why)
image_not_refused input (Text refusal) all refused = refused
image_not_refused input (Image arena defect) all refused = sound_not_refused input arena defect all refused
image_not_refused input (Version version) all refused = refused

-- where it is of version 1, `migrate` refuses nothing
pub migrate_not_refused : (input : List ℕ) (why : Cause) → HasSoundFirst input → ¬ (RefusesMigrate input why)
migrate_not_refused input (Text refusal) has refused = refused
migrate_not_refused input (Image arena defect) has (inl is) = law_of_no_defect Log input has.arenas.words arena defect has.arenas.image is
migrate_not_refused input (Image arena defect) has (inr un) = sound_not_unsound input un.words un.image arena defect has.arenas un.unsound
migrate_not_refused input (Version version) has later =
    let same = one_header Log input has.arenas.words later.words has.arenas.image later.image in
    omega (arith, ap (λ (h : PoolHeader). h.version) same, later.is, later.later, has.first)

-- traces

-- a trace has no refused line
pub trace_not_refused : (grammar : Grammar) → LawOfNoneOutside grammar → (input : List ℕ) (why : Cause) → HasTraceOf grammar input → ¬ (RefusesTraceOf grammar input why)
trace_not_refused grammar none input (Text (BadLine line)) has refused = none input has.pool has.calls line has.trace refused
trace_not_refused grammar none input (Text (NoArena arena arenas)) has refused = refused
trace_not_refused grammar none input (Text (NoEvent event events)) has refused = refused
trace_not_refused grammar none input (Image arena defect) has refused = refused
trace_not_refused grammar none input (Version version) has refused = refused

-- where the trace has the arena, and its calls the event, a crash of a variant refuses nothing
pub crash_not_refused : (a : Arenas) → LawOfOneText a.grammar → LawOfNoneOutside a.grammar → (arena event : ℕ) (input : List ℕ) (why : Cause) → HasEvents a arena event input → ¬ (RefusesCrash a arena event input why)
crash_not_refused a one none arena event input (Text (BadLine line)) has refused = none input has.trace.pool has.trace.calls line has.trace.trace refused
crash_not_refused a one none arena event input (Text (NoArena number arenas)) has refused =
    let same = one input refused.trace.pool has.trace.pool refused.trace.calls has.trace.calls refused.trace.trace has.trace.trace in
    let few : refused.trace.pool.arenas ≡ has.trace.pool.arenas = ap (λ (p : PoolSize). p.arenas) same.0 in
    omega (arith, few, refused.lacks, has.inside)
crash_not_refused a one none arena event input (Text (NoEvent number events)) has lacks =
    let same = one input lacks.trace.pool has.trace.pool lacks.trace.calls has.trace.calls lacks.trace.trace has.trace.trace in
    let fewer : HasFewerIn (a.IsRun (header_for has.trace.pool arena)) (calls_of arena has.trace.calls) event events =
    subst (λ (cs : List TraceCall). HasFewerIn (a.IsRun (header_for has.trace.pool arena)) (calls_of arena cs) event events) same.1
    (subst (λ (p : PoolSize). HasFewerIn (a.IsRun (header_for p arena)) (calls_of arena lacks.trace.calls) event events) same.0 lacks.fewer) in
    omega (arith, fewer.lacks, fewer.is_all, has.enough fewer.stages fewer.run)
crash_not_refused a one none arena event input (Image number defect) has refused = refused
crash_not_refused a one none arena event input (Version version) has refused = refused

-- scripts

-- a script has no refused line
pub script_not_refused : (input : List ℕ) (why : Cause) → HasScript input → ¬ (RefusesScript input why)
script_not_refused input (Text (BadLine line)) has refused = law_of_no_refused_script input has.granules has.calls line has.script refused
script_not_refused input (Text (NoArena arena arenas)) has refused = refused
script_not_refused input (Text (NoEvent event events)) has refused = refused
script_not_refused input (Image arena defect) has refused = refused
script_not_refused input (Version version) has refused = refused

-- where its calls have the event, `dict-crash` refuses nothing
pub dict_crash_not_refused : (event : ℕ) (input : List ℕ) (why : Cause) → HasScriptEvents event input → ¬ (RefusesDictCrash event input why)
dict_crash_not_refused event input (Text (BadLine line)) has refused = law_of_no_refused_script input has.script.granules has.script.calls line has.script.script refused
dict_crash_not_refused event input (Text (NoArena number arenas)) has refused = refused
dict_crash_not_refused event input (Text (NoEvent number events)) has lacks =
    let same = law_of_one_script input lacks.script.granules has.script.granules lacks.script.calls has.script.calls lacks.script.script has.script.script in
    let fewer : HasFewerEvents has.script.granules has.script.calls event events =
    subst (λ (cs : List DictCall). HasFewerEvents has.script.granules cs event events) same.1 (subst (λ g. HasFewerEvents g lacks.script.calls event events) same.0 lacks.fewer) in
    omega (arith, fewer.lacks, fewer.is_all, has.enough fewer.turns fewer.to fewer.last fewer.run)
dict_crash_not_refused event input (Image number defect) has refused = refused
dict_crash_not_refused event input (Version version) has refused = refused
