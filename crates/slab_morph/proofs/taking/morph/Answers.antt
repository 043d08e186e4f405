use Rattle.std.proofs.Common.{◌≡◌, ◌*◌, ◌++◌, ◌∙◌, ◌/◌, length, List, ap, subst, arith}
use Rattle.slab_morph.proofs.Common.{Event, words_of, Appends, CrashOnly, IsQuiet-append, then_step, state_word, SlabHeader, Morphing, word_of_state, index_events, state_events, finish_morph_events, morph_events}
use Rattle.durable_steps.proofs.Steps.{IsQuiet-word}
use Rattle.slab_morph.specs.SlabHeaders.{header_at, alone}
use Rattle.slab_morph.specs.Stages.{numbers_of, set_numbers, with_index, with_state, morphing, morphed, finished, IsMorphStage, HoldSame, KeepsHeld}
use Rattle.slab_morph.proofs.HeaderTables.{changes_by, off_then}
use Rattle.slab_morph.proofs.Holding.{same_then, same_morphing}
use Rattle.slab_morph.proofs.IndexEvents.{length-index_events, IsQuiet-index}
use Rattle.slab_morph.proofs.Morphable.{valid_morphing, no_entries, numbers_are, few_numbers, on_its_way, valid_on_its_way}
use Rattle.slab_morph.proofs.Stages.{keeps_changed, told_valid, morph_crash}
use Rattle.slab_morph.proofs.taking.morph.Given as given
use Rattle.slab_morph.proofs.taking.morph.Goals as goal

pub index_old_blocks-entries-requires-clause-few : goal.index_old_blocks-entries-requires-clause-few
index_old_blocks-entries-requires-clause-few g c =
    few_numbers c.requires.morphable c.state_at.ensures.says c.state_at.ensures.valid c.fields_of-old.ensures.class

pub index_old_blocks-entries-requires-clause-room : goal.index_old_blocks-entries-requires-clause-room
index_old_blocks-entries-requires-clause-room g c =
    let numbers = numbers_are c.requires.morphable c.state_at.ensures.says c.state_at.ensures.valid c.fields_of-old.ensures.class in
    omega (arith, c.requires.room, ap length numbers)

pub put_state-requires-clause-valid : goal.put_state-requires-clause-valid
put_state-requires-clause-valid g c =
    valid_on_its_way c.requires.morphable c.state_at.ensures.says c.state_at.ensures.valid c.fields_of-old.ensures.class
    c.index_old_blocks-entries.result c.requires.class c.index_old_blocks-entries.ensures.count

pub put_state-requires-clause-room : goal.put_state-requires-clause-room
put_state-requires-clause-room g c =
    let numbers = numbers_are c.requires.morphable c.state_at.ensures.says c.state_at.ensures.valid c.fields_of-old.ensures.class in
    let indexed = c.index_old_blocks-entries.ensures.step.appends in
    let index_count = length-index_events (c.args.slab / 16384) (numbers_of (header_at (words_of (g.P.Pmem.state c.args.p.now)) (c.args.slab / 16384)) c.fields_of-old.result.class) in
    omega (arith, c.requires.room, ap length numbers, indexed.room, indexed.count, index_count)

pub finish_morph-requires-clause-room : goal.finish_morph-requires-clause-room
finish_morph-requires-clause-room g c =
    let told = c.put_state.ensures.step.appends in
    let numbers = numbers_are c.requires.morphable c.state_at.ensures.says c.state_at.ensures.valid c.fields_of-old.ensures.class in
    let indexed = c.index_old_blocks-entries.ensures.step.appends in
    let index_count = length-index_events (c.args.slab / 16384) (numbers_of (header_at (words_of (g.P.Pmem.state c.args.p.now)) (c.args.slab / 16384)) c.fields_of-old.result.class) in
    omega (arith, c.requires.room, ap length numbers, indexed.room, indexed.count, told.room, told.count, index_count)

-- where the slab is on its way

index_is : (g : given.Over) (c : goal.After-finish_morph g) → header_at (words_of (g.P.Pmem.state c.index_old_blocks-entries.new.p)) (c.args.slab / 16384) ≡
    with_index (header_at (words_of (g.P.Pmem.state c.args.p.now)) (c.args.slab / 16384)) (set_numbers (header_at (words_of (g.P.Pmem.state c.args.p.now)) (c.args.slab / 16384)))
index_is g c =
    let words = words_of (g.P.Pmem.state c.args.p.now) in
    let start = c.args.slab / 16384 in
    c.index_old_blocks-entries.ensures.indexed.header
    ∙ ap (with_index (header_at words start)) (numbers_are c.requires.morphable c.state_at.ensures.says c.state_at.ensures.valid c.fields_of-old.ensures.class)

way_is : (g : given.Over) (c : goal.After-finish_morph g) → Morphing c.args.class c.fields_of-old.result.class c.index_old_blocks-entries.result ≡
    Morphing c.args.class (header_at (words_of (g.P.Pmem.state c.args.p.now)) (c.args.slab / 16384)).class (length (set_numbers (header_at (words_of (g.P.Pmem.state c.args.p.now)) (c.args.slab / 16384))))
way_is g c =
    on_its_way c.requires.morphable c.state_at.ensures.says c.state_at.ensures.valid c.fields_of-old.ensures.class
    c.index_old_blocks-entries.result c.requires.class c.index_old_blocks-entries.ensures.count

on_way : (g : given.Over) (c : goal.After-finish_morph g) → header_at (words_of (g.P.Pmem.state c.put_state.new.p)) (c.args.slab / 16384) ≡ morphing (header_at (words_of (g.P.Pmem.state c.args.p.now)) (c.args.slab / 16384)) c.args.class
on_way g c = c.put_state.ensures.told.header ∙ (λ i. with_state (index_is g c i) (way_is g c i))

pub finish_morph-requires-clause-morphing : goal.finish_morph-requires-clause-morphing
finish_morph-requires-clause-morphing g c = record { valid = c.put_state.ensures.valid; kind = ap (λ (h : SlabHeader). h.kind) c.put_state.ensures.told.header }

-- all of the events

events_are : (g : given.Over) (c : goal.After-finish_morph g) →
    index_events (c.args.slab / 16384) (numbers_of (header_at (words_of (g.P.Pmem.state c.args.p.now)) (c.args.slab / 16384)) c.fields_of-old.result.class)
    ++ state_events (c.args.slab / 16384) (Morphing c.args.class c.fields_of-old.result.class c.index_old_blocks-entries.result)
    ++ finish_morph_events (c.args.slab / 16384) (header_at (words_of (g.P.Pmem.state c.put_state.new.p)) (c.args.slab / 16384)).class (header_at (words_of (g.P.Pmem.state c.put_state.new.p)) (c.args.slab / 16384)).old (header_at (words_of (g.P.Pmem.state c.put_state.new.p)) (c.args.slab / 16384)).index_count
    ≡ morph_events (alone (header_at (words_of (g.P.Pmem.state c.args.p.now)) (c.args.slab / 16384))) (c.args.slab / 16384) c.args.class
events_are g c =
    let start = c.args.slab / 16384 in
    let numbers = numbers_are c.requires.morphable c.state_at.ensures.says c.state_at.ensures.valid c.fields_of-old.ensures.class in
    λ i. index_events start (numbers i) ++ state_events start (way_is g c i) ++ finish_morph_events start (on_way g c i).class (on_way g c i).old (on_way g c i).index_count

pub returns-clause-count : goal.returns-clause-count
returns-clause-count g c =
    let words = words_of (g.P.Pmem.state c.args.p.now) in
    let start = c.args.slab / 16384 in
    let own = c.fields_of-old.result.class in
    let numbers = numbers_are c.requires.morphable c.state_at.ensures.says c.state_at.ensures.valid c.fields_of-old.ensures.class in
    omega (arith, ap length numbers, c.index_old_blocks-entries.ensures.step.appends.count, c.put_state.ensures.step.appends.count, c.finish_morph.ensures.count, length-index_events start (numbers_of (header_at words start) own))

pub returns-clause-morphed : goal.returns-clause-morphed
returns-clause-morphed g c =
    let words = words_of (g.P.Pmem.state c.args.p.now) in
    let indexed = words_of (g.P.Pmem.state c.index_old_blocks-entries.new.p) in
    let told = words_of (g.P.Pmem.state c.put_state.new.p) in
    let new = words_of (g.P.Pmem.state c.finish_morph.new.p) in
    let start = c.args.slab / 16384 in
    changes_by words new start (λ h. morphed h c.args.class)
    (off_then words told new start (off_then words indexed told start c.index_old_blocks-entries.ensures.indexed.off c.put_state.ensures.told.off) c.finish_morph.ensures.finished.off)
    (c.finish_morph.ensures.finished.header ∙ ap finished (on_way g c))

pub returns-clause-kept : goal.returns-clause-kept
returns-clause-kept g c =
    let state = g.P.Pmem.state in
    let words = words_of (state c.args.p.now) in
    let new = words_of (state c.finish_morph.new.p) in
    let start = c.args.slab / 16384 in
    let h = header_at words start in
    let own = c.fields_of-old.result.class in
    let done = returns-clause-morphed g c in
    let none = no_entries c.requires.morphable c.state_at.ensures.says c.state_at.ensures.valid c.fields_of-old.ensures.class in
    let fields = valid_morphing c.requires.morphable c.state_at.ensures.says c.state_at.ensures.valid c.fields_of-old.ensures.class c.requires.class in
    let numbers = numbers_are c.requires.morphable c.state_at.ensures.says c.state_at.ensures.valid c.fields_of-old.ensures.class in
    let last = c.finish_morph.ensures.kept in
    keeps_changed done
    (same_then start h (morphing h c.args.class) (header_at new start) (same_morphing start c.args.class h c.requires.morphable.normal none)
    (subst (λ (g : SlabHeader). HoldSame start g (header_at new start)) (on_way g c) last.held))
    (λ _. last.valid
    (told_valid words start c.args.class c.requires.morphable.normal none (words_of (state c.index_old_blocks-entries.new.p)) (words_of (state c.put_state.new.p)) c.index_old_blocks-entries.ensures.others
    (λ place below. c.index_old_blocks-entries.ensures.entries place (omega (arith, below, c.index_old_blocks-entries.ensures.count, ap length numbers)))
    c.put_state.ensures.others c.put_state.ensures.valid (on_way g c) fields))

pub returns-clause-step : goal.returns-clause-step
returns-clause-step g c = record {
  appends =
      let state = g.P.Pmem.state in
      subst (λ (es : List Event). Appends (state c.args.p.now) (state c.finish_morph.new.p) es) (events_are g c)
      (then_step (then_step c.index_old_blocks-entries.ensures.step.appends c.put_state.ensures.step.appends) c.finish_morph.ensures.step.appends);
  quiet = c.finish_morph.ensures.step.quiet;
  crash =
      let state = g.P.Pmem.state in
      let words = words_of (state c.args.p.now) in
      let indexed = words_of (state c.index_old_blocks-entries.new.p) in
      let told = words_of (state c.put_state.new.p) in
      let start = c.args.slab / 16384 in
      let h = header_at words start in
      let own = c.fields_of-old.result.class in
      let way = Morphing c.args.class own c.index_old_blocks-entries.result in
      let first = index_events start (numbers_of h own) in
      let second = state_events start way in
      let there = header_at told start in
      let none = no_entries c.requires.morphable c.state_at.ensures.says c.state_at.ensures.valid c.fields_of-old.ensures.class in
      let few = few_numbers c.requires.morphable c.state_at.ensures.says c.state_at.ensures.valid c.fields_of-old.ensures.class in
      let quiet = IsQuiet-index start (numbers_of h own) few in
      let step = then_step c.index_old_blocks-entries.ensures.step.appends c.put_state.ensures.step.appends in
      let fields = valid_morphing c.requires.morphable c.state_at.ensures.says c.state_at.ensures.valid c.fields_of-old.ensures.class c.requires.class in
      let numbers = numbers_are c.requires.morphable c.state_at.ensures.says c.state_at.ensures.valid c.fields_of-old.ensures.class in
      subst (λ (es : List Event). CrashOnly words es (KeepsHeld words start (IsMorphStage h c.args.class))) (events_are g c)
      (morph_crash words start c.args.class c.requires.morphable.normal none indexed told c.index_old_blocks-entries.ensures.others
      (λ place below. c.index_old_blocks-entries.ensures.entries place (omega (arith, below, c.index_old_blocks-entries.ensures.count, ap length numbers)))
      c.put_state.ensures.others c.put_state.ensures.valid (on_way g c) fields
      first second (finish_morph_events start there.class there.old there.index_count) quiet (IsQuiet-append first second quiet (IsQuiet-word (8 * state_word start) (word_of_state way)))
      c.index_old_blocks-entries.ensures.step.appends.words step.words c.index_old_blocks-entries.ensures.step.crash c.put_state.ensures.step.crash c.finish_morph.ensures.step.crash);
}
