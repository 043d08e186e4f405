-- What a caller of a dictionary keeps between its changes of it.
use Rattle.std.specs.Prelude.{◌≡◌, ℕ, ◌+◌, ◌-◌, ◌^◌, ◌<◌}
use Rattle.pmem_lines.specs.Pmem.{words_of}
use Rattle.attach_dict.specs.Dict.{AreNumbersUpTo}
use Rattle.attach_dict.specs.Stages.{Idle, DictState, AreNoneStale}

-- nothing is staged, and no root is stale
pub record IsAtRest (s : DictState) : Type 0 where
  pub idle : s.phase ≡ Idle
  pub tidy : AreNoneStale (words_of s.arena.device) Idle

-- and there is no pair
pub record IsNew (s : DictState) : Type 0 where
  pub rest : IsAtRest s
  pub numbers : AreNumbersUpTo (words_of s.arena.device) 0

-- a number is left for a pair
pub record HasNumber (s : DictState) : Type 0 where
  pub most : ℕ
  pub few : most < 2 ^ 64 - 1
  pub numbers : AreNumbersUpTo (words_of s.arena.device) most

-- the numbers rise by one at most
abbrev pub RaisesNumbers : DictState → DictState → Type 0
RaisesNumbers old new = (n : ℕ) → AreNumbersUpTo (words_of old.arena.device) n → AreNumbersUpTo (words_of new.arena.device) (n + 1)
