-- What a caller of a dictionary knows of it between its changes.
use Rattle.std.proofs.Common.{◌≡◌, ◌≢◌, ℕ, ◌-◌, ◌^◌, Bool, true, false, List, [], Err, sym, subst, arith, ◌∙◌}
use Rattle.pmem_lines.specs.Pmem.{words_of}
use Rattle.attach_dict.specs.declared.refusal.StageRefusal.{StageRefusal}
use Rattle.attach_dict.specs.declared.refusal.StageRefusal.TheVariants.{Full, NumbersSpent, NoSpace}
use Rattle.attach_dict.specs.Calls.{KeepsNumbers, IsTidiedBy, IsStagedBy, HasRemoved}
use Rattle.attach_dict.specs.Dict.{Pair, value_of, IsDict, AreNumbersUpTo}
use Rattle.attach_dict.specs.Stages.{Phase, Idle, DictState, IsStale, AreNoneStale, AtMostOneStale, IsStaleCount, IsKept, LawOfStaleCounts}
use Rattle.dict_tests.specs.Rest.{IsAtRest, IsNew, HasNumber}

-- where 0 roots are stale none is
rest_counted : (s : DictState) (count : ℕ) → LawOfStaleCounts → IsKept s → s.phase ≡ Idle → IsStaleCount (words_of s.arena.device) s.phase count → count ≡ 0 → IsAtRest s
rest_counted s count law kept idle is zero =
    let none : AreNoneStale (words_of s.arena.device) s.phase = (law (words_of s.arena.device) s.phase kept.exact).0 (subst (λ (n : ℕ). IsStaleCount (words_of s.arena.device) s.phase n) zero is) in
    record { idle = idle; tidy = subst (λ (p : Phase). AreNoneStale (words_of s.arena.device) p) idle none }

-- where there is no key there is no pair
numbers_none : (words : List ℕ) → IsDict words [] → AreNumbersUpTo words 0
unfolding value_of
numbers_none words dict = record { each = λ root key number value pair. absurd (dict.each key root number value pair) }

pub is_new : (s : DictState) (count : ℕ) → LawOfStaleCounts → IsKept s → s.phase ≡ Idle → IsStaleCount (words_of s.arena.device) s.phase count → count ≡ 0 → s.pairs ≡ [] → IsNew s
is_new s count law kept idle is zero none = record {
  rest = rest_counted s count law kept idle is zero;
  numbers = numbers_none (words_of s.arena.device) (subst (λ (ps : List Pair). IsDict (words_of s.arena.device) ps) none kept.dict);
}

-- where one root at most was stale, none is behind a tidy
pub rest_tidied : (old new : DictState) (result : Bool) → old.phase ≡ Idle → AtMostOneStale (words_of old.arena.device) Idle → IsTidiedBy old new result → IsAtRest new
rest_tidied old new true idle one did = record {
  idle = did.keeps.phase_is ∙ idle;
  tidy = λ other so.
      let left : IsStale (words_of old.arena.device) Idle other × (other ≢ did.root) =
      subst (λ (p : Phase). IsStale (words_of new.arena.device) p other → IsStale (words_of old.arena.device) p other × (other ≢ did.root)) idle (did.left other) so in
      left.1 (one.same other did.root left.0 (subst (λ (p : Phase). IsStale (words_of old.arena.device) p did.root) idle did.stale.here));
}
rest_tidied old new false idle one did =
    subst (λ (s : DictState). IsAtRest s) (sym did.1) (record { idle = idle; tidy = subst (λ (p : Phase). AreNoneStale (words_of old.arena.device) p) idle did.0 })

-- where none was stale, none is behind a removal
pub rest_removed : (old new : DictState) (key : ℕ) → IsAtRest old → HasRemoved old new key → IsAtRest new
rest_removed old new key rest did = record { idle = did.phase ∙ rest.idle; tidy = subst (λ (p : Phase). AreNoneStale (words_of new.arena.device) p) rest.idle did.tidy }

-- numbers

pub numbers_tidied : (old new : DictState) (result : Bool) → IsTidiedBy old new result → KeepsNumbers old new
numbers_tidied old new true did = did.keeps.numbers
numbers_tidied old new false did = λ n up. subst (λ (s : DictState). AreNumbersUpTo (words_of s.arena.device) n) (sym did.1) up

-- where a number is left, nothing is refused for want of one
pub number_left : (old new : DictState) (key count : ℕ) (refusal : StageRefusal) → HasNumber old → IsStagedBy old new key count (Err refusal) → refusal ≢ NumbersSpent
number_left old new key count Full left by is = absurd (cc is)
number_left old new key count NumbersSpent left by is = let spent = by.1 in omega (arith, left.few, left.numbers.each spent.root spent.key (2 ^ 64 - 1) spent.value spent.pair)
number_left old new key count NoSpace left by is = absurd (cc is)
