-- Steps that begin and end quiet, one after another.
use Rattle.std.proofs.Common.{sym, ◌≡◌, ℕ, List, [], ◌∷◌, ◌++◌, length, subst}
use Rattle.std.proofs.Math.Seq.{take-length}
use Rattle.pmem_lines.specs.declared.event.Event.{Event}
use Rattle.pmem_lines.specs.declared.event.Event.TheVariants.{Store, Flush, Fence}
use Rattle.pmem_lines.specs.Pmem.{PmemState, words_of, Appends}
use Rattle.pmem_lines.specs.Events.{reading, IsImage, IsQuiet, CrashOnly}
use Rattle.pmem_lines.specs.Steps.{IsQuietStep}
use Rattle.pmem_lines.proofs.Images.{then, weaker, by_none, quiet_image}
use Rattle.pmem_lines.proofs.States.{appended_none, Appends-state, quiet_after, then_step}

-- events behind others are quiet where all of them are
quiet_behind : (e f : List Event) → IsQuiet (e ++ f) → IsQuiet f
quiet_behind [] f quiet = quiet
quiet_behind (Store at value ∷ e) f quiet = quiet_behind e f quiet.1
quiet_behind (Flush line ∷ e) f quiet = quiet_behind e f quiet
quiet_behind (Fence ∷ e) f quiet = quiet_behind e f quiet

-- the events of a step are quiet
pub quiet_events : {s t : PmemState} {e : List Event} {P : List ℕ → Type 0} → IsQuietStep s t e P → IsQuiet e
quiet_events {s} {t} {e} step = quiet_behind s.events e (subst (λ (p : PmemState). IsQuiet p.events) step.appends.state step.quiet)

-- what a crash leaves is said of the words at the end too
pub step_end : {s t : PmemState} {e : List Event} {P : List ℕ → Type 0} → IsQuietStep s t e P → P (words_of t)
step_end {s} {t} {e} {P} step =
    let ws = words_of s in
    subst P (sym step.appends.words)
    (step.crash.each (length e) (reading ws e) (subst (λ (es : List Event). IsImage ws es (reading ws e)) (sym (take-length e)) (quiet_image ws e (quiet_events step))))

-- events that end quiet are a step
pub step_of : {s t : PmemState} {e : List Event} {P : List ℕ → Type 0} → Appends s t e → IsQuiet e → IsQuiet s.events → CrashOnly (words_of s) e P → IsQuietStep s t e P
step_of appends ends begins crash = record { appends = appends; quiet = quiet_after appends ends begins; crash = crash }

-- nothing is done
pub step_none : {s : PmemState} {P : List ℕ → Type 0} → IsQuiet s.events → P (words_of s) → IsQuietStep s s [] P
step_none {s} {P} quiet here = record { appends = Appends-state s s [] (sym (appended_none s)); quiet = quiet; crash = by_none (words_of s) P here }

-- the same step, by other names of its events
pub step_by : {s t : PmemState} {P : List ℕ → Type 0} (e f : List Event) → e ≡ f → IsQuietStep s t e P → IsQuietStep s t f P
step_by {s} {t} {P} e f same step = subst (λ (es : List Event). IsQuietStep s t es P) same step

-- what a crash leaves, said more widely
pub step_wider : {s t : PmemState} {e : List Event} {P Q : List ℕ → Type 0} → ((image : List ℕ) → P image → Q image) → IsQuietStep s t e P → IsQuietStep s t e Q
step_wider {s} {t} {e} {P} {Q} implies step = record { appends = step.appends; quiet = step.quiet; crash = weaker (words_of s) e P Q implies step.crash }

-- One step and then another, whose events go by the words at its begin. What is said of the whole follows from what is
-- said of each of the two.
pub step_then : {s t u : PmemState} {e : List Event} {P Q : List ℕ → Type 0} (R : List ℕ → Type 0) (f : List ℕ → List Event) →
    IsQuietStep s t e P → IsQuietStep t u (f (words_of t)) Q → ((image : List ℕ) → P image → R image) → ((image : List ℕ) → Q image → R image) →
    IsQuietStep s u (e ++ f (reading (words_of s) e)) R
step_then {s} {t} {u} {e} {P} {Q} R f first second before behind =
    let is = first.appends.words in
    record {
      appends = subst (λ (ws : List ℕ). Appends s u (e ++ f ws)) is (then_step first.appends second.appends);
      quiet = second.quiet;
      crash = then (words_of s) e (f (reading (words_of s) e)) R (quiet_events first)
          (weaker (words_of s) e P R before first.crash)
          (subst (λ (ws : List ℕ). CrashOnly ws (f ws) R) is (weaker (words_of t) (f (words_of t)) Q R behind second.crash));
    }
