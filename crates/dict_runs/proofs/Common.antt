-- What the proofs of this crate cite of the crates below, in one place.
pub use Rattle.std.proofs.lemmas.Bool.{cases_lt, lt-ltb, le-ltb, le-leb, lt-leb, and_from, and_left, and_right, ne_eqb, cases_eq}
pub use Rattle.std.proofs.lemmas.Grind.{flat_map-append}
pub use Rattle.std.proofs.lemmas.List.{append-nil, map-append, get_or-map, length-map, take_all}
pub use Rattle.std.specs.Bool.{MatchBool, ⊤}
pub use Rattle.std.specs.Prelude.{MatchOption, min}
pub use Rattle.pmem_lines.specs.Pmem.{PmemState, words_of}
pub use Rattle.heap_model.specs.Machine.{Bounds, Machine, no_heap}
pub use Rattle.heap_model.specs.declared.call.Call.{Call}
pub use Rattle.heap_model.specs.declared.call.Reply.{Reply}
pub use Rattle.heap_check.specs.Image.{bounds_of}
pub use Rattle.heap_check.specs.State.{HasState}
pub use Rattle.arena_core.specs.Arena.{ArenaState}
pub use Rattle.arena_core.specs.Payload.{IsWriteOf}
pub use Rattle.attach_dict.proofs.Counting.{law_of_dicts, counts_once, value_counts}
pub use Rattle.attach_dict.proofs.Maps.{value_here, value_else, absent, value_none, same_map}
pub use Rattle.attach_dict.specs.Calls.{IsEitherDict, block_words, HasRemoved}
pub use Rattle.attach_dict.specs.Dict.{Pair, value_of, AreAbove, AreRising, stage, HasSome, IsPair, IsValueOf, IsDict, AreNumbersUpTo, IsSteadyDict, bytes_for, HasNone, IsNextNumber, IsFreeRoot, IsFull, Counts, Puts}
pub use Rattle.attach_dict.specs.Stages.{DictState, Idle, AreNoneStale, IsStale, Phase, AtMostOneStale, IsKept}
pub use Rattle.dict_text.specs.Calls.{call_of, calls_of}
pub use Rattle.dict_text.specs.Report.{pair_line, reply_line, map_text, DictReply, Stored, Full, NoSpace, Value, Absent, Removed, dict_run_text, reply_of, size_line}
pub use Rattle.dict_text.specs.Script.{DictCall, Get, Put, Del, IsDictSize}
pub use Rattle.dict_text.specs.declared.script.ScriptCall.{ScriptCall}
pub use Rattle.trace_crashes.specs.Seek.{last_stage}
pub use Rattle.trace_runs.specs.Arenas.{bounds_for, formatted, IsNewArena}
pub use Rattle.trace_runs.specs.Runs.{Stage, total_events, words_after}
pub use Rattle.trace_text.specs.declared.call.CrashSide.{CrashSide}
pub use Rattle.trace_text.specs.declared.call.CrashSide.TheVariants.{Same}
