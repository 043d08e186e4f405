use Rattle.std.proofs.Common.{ℕ, List, inl, inr, refl, subst}
use Rattle.recovery_steps.proofs.Common.{words_of, tables_of, LiesInSlab, entry_is}
use Rattle.recovery_steps.specs.OpenEntry.{IsClosed, IsFoundOpen}
use Rattle.recovery_steps.specs.Recovery.{SettlesOpen}
use Rattle.recovery_steps.proofs.Arenas.{sound_of}
use Rattle.recovery_steps.proofs.Chains.{part_none, part_of}
use Rattle.recovery_steps.proofs.Leaving.{left_self, left_settled}
use Rattle.recovery_steps.proofs.OpenEntries.{few_settling, settling, header_behind, book_behind}
use Rattle.recovery_steps.proofs.open_entry.settle_open.Given as given
use Rattle.recovery_steps.proofs.open_entry.settle_open.Goals as goal

pub settle_entry-requires-clause-slab : goal.settle_entry-requires-clause-slab
settle_entry-requires-clause-slab g c =
    let words = words_of (g.P.Pmem.state c.args.p.now) in
    let found : IsFoundOpen words c.in-Some.found = subst (λ (ws : List ℕ). IsFoundOpen ws c.in-Some.found) c.all_words.ensures c.in-Some.ensures in
    c.slab_with-start.ensures words (sound_of words c.requires.image) c.requires.book.reads (entry_is words c.in-Some.found.line found.line c.in-Some.found.entry found.open_in)

-- the entry that was found
found_in : (g : given.Over) (c : goal.After-settle_entry g) → IsFoundOpen (words_of (g.P.Pmem.state c.args.p.now)) c.in-Some.found
found_in g c = subst (λ (ws : List ℕ). IsFoundOpen ws c.in-Some.found) c.all_words.ensures c.in-Some.ensures

-- the slab that has its block
lies_in : (g : given.Over) (c : goal.After-settle_entry g) → LiesInSlab (tables_of (words_of (g.P.Pmem.state c.args.p.now))) c.slab_with-start.result c.in-Some.found.entry
lies_in g c =
    let words = words_of (g.P.Pmem.state c.args.p.now) in
    let found = found_in g c in
    c.slab_with-start.ensures words (sound_of words c.requires.image) c.requires.book.reads (entry_is words c.in-Some.found.line found.line c.in-Some.found.entry found.open_in)

pub returns-in-Some : goal.returns-in-Some
returns-in-Some g c =
    let words = words_of (g.P.Pmem.state c.args.p.now) in
    let new = words_of (g.P.Pmem.state c.settle_entry.new.p) in
    let line = c.in-Some.found.line in
    let entry = c.in-Some.found.entry in
    let start = c.slab_with-start.result in
    let found = found_in g c in
    let lies = lies_in g c in
    record {
      part = part_of SettlesOpen (inr (settling words line start entry found.line found.open_in lies)) c.settle_entry.ensures.step (few_settling words line start entry);
      left = left_settled words line start entry new (header_behind words line start entry found.line found.open_in lies new c.settle_entry.ensures.settled) c.settle_entry.ensures.settled;
      book = book_behind words line start entry found.line found.open_in lies c.args.log.now new c.requires.book c.settle_entry.ensures.settled;
    }

pub returns-in_default : goal.returns-in_default
returns-in_default g c =
    let closed = subst (λ (ws : List ℕ). IsClosed ws) c.all_words.ensures c.in_default.ensures in
    record {
      part = part_none SettlesOpen 6 c.requires.quiet c.requires.image (inl (closed.closed, refl));
      left = left_self (words_of (g.P.Pmem.state c.args.p.now)) (record { image = c.requires.image; closed = closed.closed });
      book = c.requires.book;
    }
