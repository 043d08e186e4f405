use Rattle.std.proofs.Common.{◌^◌, sym, ◌∙◌}
use Rattle.pmem_lines.specs.Pmem.{words_of}
use Rattle.attach_dict.proofs.Keys.{length_in, row_none_from}
use Rattle.attach_dict.proofs.dict.Dict.len.Goals as goal

pub returns-clause-count : goal.returns-clause-count
returns-clause-count g c =
    let s = c.self.inside in
    rw (← c.self.view_is) (c.len.ensures.count ∙ sym (length_in (words_of s.arena.device) s.index.keys.rows))

pub returns-clause-keys : goal.returns-clause-keys
returns-clause-keys g c =
    let s = c.self.inside in
    rw (← c.self.view_is) (row_none_from (words_of s.arena.device) s.index.keys c.len.ensures.sound (2 ^ 64) (record { none = c.len.ensures.sound.narrow }))
