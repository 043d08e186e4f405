use Rattle.std.proofs.Common.{List, ℕ, sym, subst}
use Rattle.pmem_lines.specs.Pmem.{words_of}
use Rattle.attach_dict.specs.View.{pairs_in, IsNextFrom}
use Rattle.attach_dict.proofs.Keys.{row_none_from, row_next}
use Rattle.attach_dict.proofs.Indexed.{holds_of}
use Rattle.attach_dict.proofs.dict.Dict.next_from.Goals as goal

pub value_at-requires : goal.value_at-requires
value_at-requires g c = let s = c.self.inside in holds_of (words_of s.arena.device) c.self.invariant.kept.exact s.index.keys c.self.invariant.indexes.tables.keys_are c.in-Some.pair c.in-Some.ensures.is

pub returns-in-None-clause-next : goal.returns-in-None-clause-next
returns-in-None-clause-next g c =
    let s = c.self.inside in
    rw (← c.self.view_is) (row_none_from (words_of s.arena.device) s.index.keys c.self.invariant.indexes.tables.keys_are.sound c.args.key c.in-None.ensures)

pub returns-in-Some-clause-next : goal.returns-in-Some-clause-next
returns-in-Some-clause-next g c =
    let s = c.self.inside in
    rw (← c.self.view_is)
    (subst (λ (v : List ℕ). IsNextFrom (pairs_in (words_of s.arena.device) s.index.keys.rows) c.args.key c.in-Some.pair.key v) (sym c.value_at.ensures)
    (row_next (words_of s.arena.device) s.index.keys c.self.invariant.indexes.tables.keys_are.sound c.args.key c.in-Some.pair c.in-Some.ensures))
