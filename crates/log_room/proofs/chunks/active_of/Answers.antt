use Rattle.std.proofs.Common.{◌/◌, ◌∙◌, ap, arith}
use Rattle.log_room.proofs.Common.{word_at, words_of, active_chunks}
use Rattle.log_room.proofs.chunks.active_of.Goals as goal

pub load-requires : goal.load-requires
load-requires g c = record { aligned = omega (arith, c.directory_at.ensures); inside = omega (arith, c.directory_at.ensures, c.requires) }

pub returns : goal.returns
returns g c = c.active_chunks.ensures ∙ ap active_chunks (c.load.ensures ∙ ap (λ a. word_at (words_of (g.P.Pmem.state c.args.p.now)) (a / 8)) c.directory_at.ensures)
