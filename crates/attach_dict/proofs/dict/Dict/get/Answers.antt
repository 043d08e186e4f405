use Rattle.std.proofs.Common.{List, ℕ, Some, sym, ap, ◌∙◌}
use Rattle.pmem_lines.specs.Pmem.{words_of}
use Rattle.attach_dict.proofs.Keys.{row_none, row_value}
use Rattle.attach_dict.proofs.Indexed.{holds_of}
use Rattle.attach_dict.proofs.dict.Dict.get.Goals as goal

pub value_at-requires : goal.value_at-requires
value_at-requires g c = let s = c.self.inside in holds_of (words_of s.arena.device) c.self.invariant.kept.exact s.index.keys c.self.invariant.indexes.tables.keys_are _ c.in-Some.ensures.is

pub returns-in-None-clause-got : goal.returns-in-None-clause-got
returns-in-None-clause-got g c =
    let s = c.self.inside in
    rw (← c.self.view_is) (row_none (words_of s.arena.device) s.index.keys c.self.invariant.indexes.tables.keys_are.sound c.args.key c.in-None.ensures)

pub returns-in-Some-clause-got : goal.returns-in-Some-clause-got
returns-in-Some-clause-got g c =
    let s = c.self.inside in
    rw (← c.self.view_is) (row_value (words_of s.arena.device) s.index.keys c.self.invariant.indexes.tables.keys_are.sound (record { key = c.args.key; root = c.in-Some.root }) c.in-Some.ensures.is ∙ ap (λ (v : List ℕ). Some v) (sym c.value_at.ensures))
