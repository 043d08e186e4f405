-- What the proofs of this crate cite of the crates below, in one place.
pub use Rattle.std.proofs.lemmas.Fmt.{decimal_injective}
pub use Rattle.std.proofs.lemmas.List.{length-map, length-take-le}
pub use Rattle.std.specs.Prelude.{decimal}
pub use Rattle.pmem_lines.specs.Pmem.{PmemState, words_of, fresh, risen}
pub use Rattle.pool_layout.proofs.Headers.{fields_of-header_word, header_fits}
pub use Rattle.pool_layout.proofs.Layouts.{layout_rules}
pub use Rattle.pool_layout.specs.Bytes.{bytes_of_words, words_of_bytes}
pub use Rattle.pool_layout.specs.Image.{AreWordsOf, part_of, header_of_arena, IsFirstHeader, IsPoolImage, IsImageOf, IfDefect}
pub use Rattle.pool_layout.specs.Layout.{layout_of}
pub use Rattle.pool_layout.specs.declared.header.PoolHeader.{PoolHeader}
pub use Rattle.heap_check.specs.Image.{IsSoundImage}
pub use Rattle.image_defects.proofs.Faultless.{faultless_of}
pub use Rattle.image_defects.proofs.Order.{no_defect}
pub use Rattle.attach_dict.specs.Dict.{Pair, IsDict, IsNotDict, IsSteadyDict}
pub use Rattle.dict_text.specs.Calls.{calls_of}
pub use Rattle.dict_text.specs.Script.{DictCall, IsRefusedScript}
pub use Rattle.image_runs.proofs.Faults.{wider, image_of}
pub use Rattle.image_runs.specs.Checks.{HasUnsoundFrom, IsOwnDefect, IsPoolDefect}
pub use Rattle.image_runs.specs.Recoveries.{heap_lines, heaps_from}
pub use Rattle.recover.proofs.Recoveries.{recovered_device}
pub use Rattle.recover.specs.Recovered.{IsRecovered, HasVersionRoom}
pub use Rattle.recovery_steps.proofs.Arenas.{sound_of}
pub use Rattle.shared_pool.specs.Rows.{each_of}
pub use Rattle.trace_runs.proofs.Each.{EachFrom-more}
pub use Rattle.trace_runs.specs.Arenas.{header_for, IsNewArena}
pub use Rattle.trace_runs.specs.Told.{AreNew}
pub use Rattle.trace_text.specs.Grammar.{pool_of, IsRefusedLine}
pub use Rattle.trace_text.specs.declared.call.PoolSize.{PoolSize}
pub use Rattle.trace_text.specs.declared.call.Refusal.TheVariants.{BadLine, NoArena, NoEvent}
pub use Rattle.trace_text.specs.declared.call.TraceCall.{TraceCall}
