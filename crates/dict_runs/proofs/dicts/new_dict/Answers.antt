use Rattle.std.proofs.Common.{[], sym, subst, arith}
use Rattle.dict_runs.proofs.Common.{words_of, ArenaState, law_of_dicts, IsNewArena}
use Rattle.pool_layout.specs.Layout.{all_granules}
use Rattle.dict_runs.specs.Scripts.{header_of}
use Rattle.dict_runs.proofs.Runs.{empty_dict, nameless}
use Rattle.dict_runs.proofs.Sizes.{few_granules}
use Rattle.dict_runs.proofs.dicts.new_dict.Goals as goal

pub new_arena-requires-clause-pool : goal.new_arena-requires-clause-pool
unfolding all_granules
new_arena-requires-clause-pool g c = record {
  version = record { some = omega arith; most = omega arith };
  some = omega arith;
  few = omega arith;
  least = c.requires.size.least;
  most = c.requires.size.most;
  together = let few = few_granules c.args.granules c.requires.size in omega (arith, few);
}

pub returns-in-Ok : goal.returns-in-Ok
returns-in-Ok g c =
    let new = c.in_ok-arena.ensures in
    let words = words_of c.in_ok-arena.arena.device in
    record {
      kept = c.in-Ok.ensures.kept;
      arena = subst (λ (a : ArenaState). IsNewArena (header_of c.args.granules) a) (sym c.in-Ok.ensures.opened.same) new;
      none = law_of_dicts words c.in-Ok.dict.pairs [] c.in-Ok.ensures.is_dict (empty_dict words new.empty);
      idle = c.in-Ok.ensures.opened.idle;
    }

pub unreachable-requires : goal.unreachable-requires
unreachable-requires g c =
    let fault = rw c.in-NotDict.is at c.in-Err.ensures.fault in
    nameless (words_of c.in_ok-arena.arena.device) c.in_ok-arena.ensures.empty c.in-NotDict.root fault.here.some
