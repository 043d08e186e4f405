-- The search for the call under way, call by call.
use Rattle.std.proofs.Common.{◌≡◌, ◌≢◌, ℕ, ◌+◌, ◌-◌, ◌<◌, ◌≤◌, ◌&&◌, true, false, List, [], ◌∷◌, ◌++◌, length, length-append, take, drop, take-append-drop, get_or, sym, ap, ◌∙◌, refl, arith, subst, append_assoc, ⊎_elim, ltb, leb}
use Rattle.trace_crashes.proofs.Common.{cases_lt, lt-ltb, le-ltb, le-leb, lt-leb, and_from, and_left, and_right, PmemState, TraceCall, calls_of, Stage, total_events}
use Rattle.std.proofs.lemmas.List.{append-nil, take_all}
use Rattle.std.proofs.Math.Seq.{take-append_seam}
use Rattle.std.specs.Bool.{MatchBool}
use Rattle.trace_crashes.specs.Crash.{Variant, CrashLeft, IsLeft, IsLeftWithin, IsLeftIdle, is_under_way}
use Rattle.trace_crashes.specs.Seek.{last_stage, IsBehindSought, IsBehindAll}
use Rattle.trace_crashes.specs.Steps.{Step, Steps, runs_from}
use Rattle.trace_runs.proofs.Answers.{calls_of-append, calls_of-here, calls_of-other}

-- the arena's calls among the first i calls of a trace are so many, they took it from one state to another, they have these many
-- events, and the event lies so many behind them
pub record Seeking (A : Type 0) (step : Step A) (variant : Variant) (words : List ℕ) (number : ℕ) (calls : List TraceCall) (event : ℕ) (first now : A) (i many left events : ℕ) : Type 0 where
  pub stages : List Stage
  pub count : many ≡ length (calls_of number (take i calls))
  pub steps : Steps A step first (calls_of number (take i calls)) stages now
  pub leaves : (more : List Stage) (seed : ℕ) (found : CrashLeft) → IsLeft variant words many more left seed found → IsLeft variant words 0 (stages ++ more) event seed found
  pub total : total_events stages ≡ events

total_events-append : (stages more : List Stage) → total_events (stages ++ more) ≡ total_events stages + total_events more
total_events-append [] more = omega arith
total_events-append (stage ∷ stages) more = omega (arith, total_events-append stages more)

-- a step more
Steps-more : (A : Type 0) (step : Step A) (first middle last : A) (calls : List TraceCall) (stages : List Stage) (call : TraceCall) (stage : Stage) → Steps A step first calls stages middle → step middle call stage last →
    Steps A step first (calls ++ call ∷ []) (stages ++ stage ∷ []) last
Steps-more A step first middle last [] stages call stage steps one =
    subst (λ (ss : List Stage). Steps A step first (call ∷ []) (ss ++ stage ∷ []) last) (sym steps.0) (last, subst (λ (a : A). step a call stage last) steps.1 one, (refl, refl))
Steps-more A step first middle last (c ∷ calls) [] call stage steps one = absurd steps
Steps-more A step first middle last (c ∷ calls) (s ∷ stages) call stage steps one = (steps.0, steps.1, Steps-more A step steps.0 middle last calls stages call stage steps.2 one)

-- a call that is not under way has no events, or fewer than are asked for
not_under_way : (n event : ℕ) → ((0 < n) → n < event) → (ltb 0 n && leb event n) ≡ false
not_under_way n event few = ⊎_elim
    (λ (some : 0 < n). and_right (ltb 0 n) (leb event n) (lt-leb event n (few some)))
    (λ (none : n ≤ 0). and_left (ltb 0 n) (leb event n) (le-ltb 0 n none))
    (cases_lt 0 n)

-- of an arena of either variant, from its first state on
module _ (A : Type 0) (step : Step A) (variant : Variant) (words : List ℕ) (number : ℕ) (calls : List TraceCall) (event : ℕ) (first : A) where
  abbrev pub Sought-at : A → ℕ → ℕ → ℕ → ℕ → Type 0
  Sought-at = Seeking A step variant words number calls event first

  -- at the start
  pub Seeking-none : Sought-at first 0 0 event 0
  Seeking-none = record {
    stages = [];
    count = refl;
    steps = (refl, refl);
    leaves = λ more seed found is. is;
    total = refl;
  }

  -- a call of another arena
  pub Seeking-other : (now : A) (i many left events : ℕ) (d : TraceCall) → Sought-at now i many left events → i < length calls → (get_or calls i d).arena ≢ number → Sought-at now (i + 1) many left events
  Seeking-other now i many left events d seeking here other =
      let same = sym (calls_of-other number calls i d here other) in
      record {
        stages = seeking.stages;
        count = seeking.count ∙ ap length same;
        steps = subst (λ (cs : List TraceCall). Steps A step first cs seeking.stages now) same seeking.steps;
        leaves = seeking.leaves;
        total = seeking.total;
      }

  -- no call is under way
  pub IsBehindAll-none : (IsFirst : A → Type 0) (now : A) (i many left events : ℕ) → IsFirst first → Sought-at now i many left events → length calls ≤ i → events + left ≡ event →
      IsBehindAll variant (runs_from A step IsFirst) words (calls_of number calls) event events
  IsBehindAll-none IsFirst now i many left events fresh seeking all sum = record {
    stages = seeking.stages;
    run = (first, now, fresh, subst (λ (cs : List TraceCall). Steps A step first (calls_of number cs) seeking.stages now) (take_all i calls all) seeking.steps);
    total = sym seeking.total;
    leaves = λ few seed found idle.
        let none : 0 ≡ left = omega arith in
        subst (λ (ss : List Stage). IsLeft variant words 0 ss event seed found) (append-nil seeking.stages)
        (seeking.leaves [] seed found (subst (λ n. IsLeftIdle words n found) none idle));
  }

  -- one call of the arena more was answered
  module _ (now next : A) (i many left events n : ℕ) (d : TraceCall) (stage : Stage) (seeking : Sought-at now i many left events) (here : i < length calls) (mine : (get_or calls i d).arena ≡ number)
      (one : step now (get_or calls i d) stage next) (size : length stage.events ≡ n) where
    more : calls_of number (take i calls) ++ get_or calls i d ∷ [] ≡ calls_of number (take (i + 1) calls)
    more = sym (calls_of-here number calls i d here mine)

    steps : Steps A step first (calls_of number (take (i + 1) calls)) (seeking.stages ++ stage ∷ []) next
    steps = subst (λ (cs : List TraceCall). Steps A step first cs (seeking.stages ++ stage ∷ []) next) more
        (Steps-more A step first now next (calls_of number (take i calls)) seeking.stages (get_or calls i d) stage seeking.steps one)

    count : many + 1 ≡ length (calls_of number (take (i + 1) calls))
    count = ap (λ n. n + 1) seeking.count ∙ sym (length-append (calls_of number (take i calls)) (get_or calls i d ∷ [])) ∙ ap length more

    total : total_events (seeking.stages ++ stage ∷ []) ≡ events + n
    total = let both = total_events-append seeking.stages (stage ∷ []) in omega (arith, both, seeking.total, size)

    -- where it is not under way
    pub Seeking-here : (0 < n → n < left) → Sought-at next (i + 1) (many + 1) (left - n) (events + n)
    Seeking-here few =
        let apart : is_under_way stage.events left ≡ false = not_under_way (length stage.events) left (subst (λ m. 0 < m → m < left) (sym size) few) in
        record {
          stages = seeking.stages ++ stage ∷ [];
          count = count;
          steps = steps;
          leaves = λ further seed found is.
              let Within : Type 0 = IsLeftWithin variant stage (many + 1) left seed found in
              let Later : ℕ → Type 0 = λ m. IsLeft variant words (many + 1) further (left - m) seed found in
              subst (λ (ss : List Stage). IsLeft variant words 0 ss event seed found) (sym (append_assoc seeking.stages (stage ∷ []) further))
              (seeking.leaves (stage ∷ further) seed found (subst (λ b. MatchBool b Within (Later (length stage.events))) (sym apart) (subst Later (sym size) is)));
          total = total;
        }

    -- the arena's calls up to and with this one
    front : take (many + 1) (calls_of number calls) ≡ calls_of number (take (i + 1) calls)
    front =
        let whole : calls ≡ take (i + 1) calls ++ drop (i + 1) calls = sym (take-append-drop (i + 1) calls) in
        ap (λ n. take n (calls_of number calls)) count
        ∙ ap (λ (cs : List TraceCall). take (length (calls_of number (take (i + 1) calls))) cs) (ap (calls_of number) whole ∙ calls_of-append number (take (i + 1) calls) (drop (i + 1) calls))
        ∙ take-append_seam (calls_of number (take (i + 1) calls)) (calls_of number (drop (i + 1) calls))

    -- where it is the one under way
    pub IsBehindSought-here : (device : PmemState) (IsFirst : A → Type 0) → IsFirst first → stage ≡ last_stage device → 0 < n → left ≤ n → IsBehindSought variant (runs_from A step IsFirst) words (calls_of number calls) event device (many + 1) left
    IsBehindSought-here device IsFirst fresh last some within =
        let under : (m : ℕ) → m ≡ n → (ltb 0 m && leb left m) ≡ true = λ m is. and_from (ltb 0 m) (leb left m) (lt-ltb 0 m (omega (arith, is, some))) (le-leb left m (omega (arith, is, within))) in
        let leaves : (seed : ℕ) (found : CrashLeft) → IsLeftWithin variant stage (many + 1) left seed found → IsLeft variant words 0 (seeking.stages ++ stage ∷ []) event seed found =
        λ seed found is.
        let Within : Type 0 = IsLeftWithin variant stage (many + 1) left seed found in
        let Later : Type 0 = IsLeft variant words (many + 1) [] (left - length stage.events) seed found in
        seeking.leaves (stage ∷ []) seed found (subst (λ b. MatchBool b Within Later) (sym (under (length stage.events) size)) is) in
        record {
          some = omega arith;
          before = seeking.stages;
          run = (
            first,
            next,
            fresh,
            subst (λ (cs : List TraceCall). Steps A step first cs (seeking.stages ++ last_stage device ∷ []) next) (sym front)
                (subst (λ (s : Stage). Steps A step first (calls_of number (take (i + 1) calls)) (seeking.stages ++ s ∷ []) next) last steps),
          );
          leaves = subst (λ (s : Stage). (seed : ℕ) (found : CrashLeft) → IsLeftWithin variant s (many + 1) left seed found → IsLeft variant words 0 (seeking.stages ++ s ∷ []) event seed found) last leaves;
        }
