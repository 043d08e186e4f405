use Rattle.std.proofs.Common.{◌+◌, ◌-◌, ◌<◌, length, drop, ℕ, ◌/◌, List, get_or, arith}
use Rattle.std.proofs.lemmas.List.{length-drop, length-map}
use Rattle.pmem_lines.specs.Sim.{events_of}
use Rattle.pmem_lines.specs.declared.sim.Recorded.{Recorded}
use Rattle.pmem_lines.specs.declared.tally.Tally.{Tally}
use Rattle.pmem_lines.specs.Tally.{no_tally, AreTallies}
use Rattle.pmem_lines.proofs.Tallies.{tally_few}
use Rattle.pmem_lines.proofs.tally.tally_event.Goals as goal

room : (tallies : List Tally) (recorded : List Recorded) (i line n : ℕ) → AreTallies (events_of (drop (i + 1) recorded)) tallies → line < length tallies →
    i < length recorded → length recorded < n → ((get_or tallies line no_tally).all + 1 < n) × ((get_or tallies line no_tally).done + 1 < n)
room tallies recorded i line n later inside within few =
    let counts = tally_few tallies line (events_of (drop (i + 1) recorded)) (n - 1) later inside
    (omega (arith, length-map (drop (i + 1) recorded) (λ (r : Recorded). r.event), length-drop (i + 1) recorded)) in
    (omega (arith, counts.0), omega (arith, counts.1))

pub with_store-requires : goal.with_store-requires
with_store-requires c =
    let counts = room c.args.tallies.now c.args.recorded.now c.args.i (c.in-Store.at / 64) 4294967296 c.requires.later c.if-line-tallies.true c.requires.within c.requires.few in
    record { all = counts.0; done = counts.1 }
