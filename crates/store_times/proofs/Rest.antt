-- A dictionary in which nothing is staged and no root is stale, behind a tidy.
use Rattle.std.proofs.Common.{◌≡◌, ◌≢◌, Bool, true, false, sym, subst, ◌∙◌}
use Rattle.pmem_lines.specs.Pmem.{words_of}
use Rattle.attach_dict.specs.Calls.{IsTidiedBy}
use Rattle.attach_dict.specs.Stages.{Phase, Idle, DictState, IsStale, AreNoneStale, AtMostOneStale}

-- nothing is staged where nothing was
pub idle_tidied : (old new : DictState) (result : Bool) → old.phase ≡ Idle → IsTidiedBy old new result → new.phase ≡ Idle
idle_tidied old new true idle did = did.keeps.phase_is ∙ idle
idle_tidied old new false idle did = subst (λ (s : DictState). s.phase ≡ Idle) (sym did.1) idle

-- no root is stale where there was none to tidy
pub none_left : (old new : DictState) → old.phase ≡ Idle → IsTidiedBy old new false → AreNoneStale (words_of new.arena.device) Idle
none_left old new idle did =
    subst (λ (s : DictState). AreNoneStale (words_of s.arena.device) Idle) (sym did.1) (subst (λ (p : Phase). AreNoneStale (words_of old.arena.device) p) idle did.0)

-- no root is stale where one at most was
pub none_tidied : (old new : DictState) (result : Bool) → old.phase ≡ Idle → AtMostOneStale (words_of old.arena.device) Idle → IsTidiedBy old new result → AreNoneStale (words_of new.arena.device) Idle
none_tidied old new true idle one did = λ other so.
    let left : IsStale (words_of old.arena.device) Idle other × (other ≢ did.root) =
    subst (λ (p : Phase). IsStale (words_of new.arena.device) p other → IsStale (words_of old.arena.device) p other × (other ≢ did.root)) idle (did.left other) so in
    left.1 (one.same other did.root left.0 (subst (λ (p : Phase). IsStale (words_of old.arena.device) p did.root) idle did.stale.here))
none_tidied old new false idle one did = none_left old new idle did
