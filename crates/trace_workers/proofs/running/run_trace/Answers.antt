use Rattle.std.proofs.Common.{rules, ◌≡◌, ℕ, ◌∙◌, ap, sym, subst, map, length, drop, List, arith}
use Rattle.trace_workers.proofs.Common.{length-map, Entry, ArenaState, Opening, Lock, AllFitLocks, HasAll, AllClosed, opened, PassState, fresh_passes, each_of}
use Rattle.shared_pool.proofs.AllPasses.{has_fresh}
use Rattle.trace_runs.specs.Answers.{by_threads, AllAnswer}
use Rattle.trace_workers.specs.Workers.{AllReady}
use Rattle.trace_workers.proofs.ClosedJournals.{answers, ready_fresh, length_fresh, fits_of, take_front}
use Rattle.trace_workers.proofs.PublishedLengths.{order_fresh, lengths_are}
use Rattle.trace_workers.proofs.running.run_trace.Given as given
use Rattle.trace_workers.proofs.running.run_trace.Goals as goal

pub work_counted-requires-clause-ready : goal.work_counted-requires-clause-ready
work_counted-requires-clause-ready g c κs within =
    let pool = c.in-Ok.started.pool in
    subst (λ ps. AllReady pool ps) (sym (c.as_mut_slice.ensures.value ∙ c.in-Ok.ensures.passes)) (ready_fresh pool 0 c.args.seats)

pub work_counted-requires-clause-order : goal.work_counted-requires-clause-order
work_counted-requires-clause-order g c κs within =
    order_fresh c.in-Ok.started.pool.locks 0 c.args.seats c.as_mut_slice.result.now (ap (map (λ (p : PassState). p.number)) (c.as_mut_slice.ensures.value ∙ c.in-Ok.ensures.passes))

pub work_counted-requires-clause-some : goal.work_counted-requires-clause-some
work_counted-requires-clause-some g c κs within =
    let same = ap length (c.as_mut_slice.ensures.value ∙ c.in-Ok.ensures.passes) in
    let many = length_fresh c.in-Ok.started.pool.locks 0 c.args.seats in
    let some = c.requires.seats.0 in
    omega (arith, same, many, some)

pub close-requires-clause-fits : goal.close-requires-clause-fits
close-requires-clause-fits g c =
    let pool = c.in-Ok.started.pool in
    let new = c.work_counted.new.passes in
    subst (λ ps. AllFitLocks (map (λ (l : Lock). l.id) pool.locks) ps) (sym (take_front new (drop (length new) c.in-Ok.started.passes.items) c.in-Ok.started.passes.len (search rules))) (fits_of pool new c.work_counted.ensures.of)

pub close-requires-clause-all : goal.close-requires-clause-all
close-requires-clause-all g c =
    let pool = c.in-Ok.started.pool in
    let new = c.work_counted.new.passes in
    let number = λ (p : PassState). p.number in
    let fresh = fresh_passes pool.locks 0 c.args.seats in
    let numbers : map number new ≡ map number fresh = c.work_counted.ensures.numbers ∙ ap (map number) (c.as_mut_slice.ensures.value ∙ c.in-Ok.ensures.passes) in
    subst (λ (z : ℕ × List ℕ). HasAll z.0 z.1) (λ i. (sym c.in-Ok.ensures.seats i, (sym numbers ∙ ap (map number) (sym (take_front new (drop (length new) c.in-Ok.started.passes.items) c.in-Ok.started.passes.len (search rules)))) i)) (has_fresh pool.locks c.args.seats)

-- the end

-- the passes once all calls were made, and what the pool left
abbrev passes : (g : given.Over) → goal.In-Ok-close g → List PassState
passes g c = c.work_counted.new.passes

abbrev openings : (g : given.Over) → goal.In-Ok-close g → List Opening
openings g c = each_of c.args.arenas.items (λ a. opened a)

abbrev closed : (g : given.Over) → goal.In-Ok-close g → List (List Entry × ArenaState)
closed g c = each_of c.in-Ok-close.closed.items (λ e. (e.journal.items, e.arena))

all : (g : given.Over) (c : goal.In-Ok-close g) → HasAll c.args.seats (map (λ (p : PassState). p.number) (passes g c))
all g c =
    let number = λ (p : PassState). p.number in
    let pool = c.in-Ok.started.pool in
    let numbers : map number (passes g c) ≡ map number (fresh_passes pool.locks 0 c.args.seats) = c.work_counted.ensures.numbers ∙ ap (map number) (c.as_mut_slice.ensures.value ∙ c.in-Ok.ensures.passes) in
    subst (λ ns. HasAll c.args.seats ns) (sym numbers) (has_fresh pool.locks c.args.seats)

ended : (g : given.Over) (c : goal.In-Ok-close g) → AllClosed c.args.seats 0 (passes g c) (openings g c) (closed g c)
ended g c =
    subst (λ (z : ℕ × List PassState × List Opening). AllClosed z.0 0 z.1 z.2 (closed g c))
    (λ i. (c.in-Ok.ensures.seats i, take_front (passes g c) (drop (length (passes g c)) c.in-Ok.started.passes.items) c.in-Ok.started.passes.len (search rules) i, c.in-Ok.ensures.openings i))
    c.in-Ok-close.ensures.closed

told : (g : given.Over) (c : goal.In-Ok-close g) → AllAnswer by_threads c.args.calls.now 0 (openings g c) (closed g c)
told g c = answers c.args.calls.now c.args.seats 0 (passes g c) (openings g c) (closed g c) (all g c) c.requires.threads c.in-Ok-work_counted.ensures.done (ended g c)

pub returns-in-Ok-close-clause-answers : goal.returns-in-Ok-close-clause-answers
returns-in-Ok-close-clause-answers g c = told g c

pub returns-in-Ok-close-clause-lengths : goal.returns-in-Ok-close-clause-lengths
returns-in-Ok-close-clause-lengths g c own =
    let many = length-map {B = Opening} c.args.arenas.items (λ a. opened a) in
    let arenas = c.len-many.ensures in
    let counts = c.in-Ok-work_counted.ensures.all in
    lengths_are c.args.calls.now c.args.seats 0 (passes g c) (openings g c) (closed g c) c.in-Ok-work_counted.lengths.items own (all g c) (ended g c) (told g c) c.in-Ok-work_counted.ensures.counted (omega (arith, many, arenas, counts))
