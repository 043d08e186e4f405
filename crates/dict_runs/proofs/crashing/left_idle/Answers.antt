use Rattle.std.proofs.Common.{◌≡◌, List, ℕ, [], sym, ap, ◌∙◌, subst}
use Rattle.dict_runs.proofs.Common.{PmemState, words_of, IsSteadyDict, ArenaState}
use Rattle.arena_core.proofs.Callers.{exact_steady}
use Rattle.trace_crashes.proofs.Crashes.{all_words}
use Rattle.dict_runs.proofs.Runs.{empty_dict}
use Rattle.dict_runs.proofs.crashing.left_idle.Goals as goal
use Rattle.dict_runs.proofs.crashing.left_idle.Goals.{After-drop-device-inside-3}

-- the image has the words of the new arena
image_is : (c : After-drop-device-inside-3) → c.in_ok-copy_of.field-0.items ≡ words_of c.in_ok-format_new.field-0.arena.device
image_is c = c.in_ok-copy_of.ensures ∙ c.words.ensures ∙ all_words _ _ c.size_words.ensures.size ∙ ap (λ (s : PmemState). words_of s) c.into_pmem-device.ensures.device ∙ ap (λ (a : ArenaState). words_of a.device) c.into_arena.ensures.arena

pub returns-clause-image : goal.returns-clause-image
returns-clause-image c = image_is c ∙ c.in_ok-format_new.ensures.arena.words

pub returns-clause-steady : goal.returns-clause-steady
returns-clause-steady c =
    let new = c.in_ok-format_new.ensures in
    let words = words_of c.in_ok-format_new.field-0.arena.device in
    subst (λ (image : List ℕ). IsSteadyDict [] image) (sym (image_is c)) (record { steady = exact_steady words new.arena.exact; dict = empty_dict words new.arena.empty })
