use Rattle.std.proofs.Common.{◌≡◌, ℕ, Bool, List, sym, subst}
use Rattle.settle_steps.proofs.Common.{words_of, WalEntry, Place}
use Rattle.settle_steps.specs.ClassBlocks.{IsOpenForBlock, IsClassBlockSettled}
use Rattle.settle_steps.specs.Entries.{IsEntrySettled}
use Rattle.settle_steps.proofs.ClassEntries.{flag_is, block_behind, slab_here, block_open}
use Rattle.settle_steps.proofs.settling.settle_entry.Goals as goal

pub number_of-number-requires-clause-slab : goal.number_of-number-requires-clause-slab
number_of-number-requires-clause-slab g c = slab_here c.args.start c.requires.line (flag_is c.in-Place.is c.if-old.false) c.requires.open_entry c.requires.slab

pub number_of-number-requires-clause-behind : goal.number_of-number-requires-clause-behind
number_of-number-requires-clause-behind g c = block_behind c.args.start c.requires.line (flag_is c.in-Place.is c.if-old.false) c.requires.open_entry c.requires.slab

pub settle_class_block-requires : goal.settle_class_block-requires
settle_class_block-requires g c =
    let words = words_of (g.P.Pmem.state c.args.p.now) in
    record {
      line = c.requires.line;
      open_entry = subst (λ n. IsOpenForBlock words c.args.line c.in-Place.root (record { start = c.args.start; number = n; at = c.in-Place.at })) (sym c.number_of-number.ensures)
          (block_open c.args.start c.requires.line (flag_is c.in-Place.is c.if-old.false) c.requires.open_entry c.requires.slab);
      quiet = c.requires.quiet;
      room = c.requires.room;
    }

-- the entry is settled where its place entry is
settled : (words : List ℕ) (line start : ℕ) (new : List ℕ) {entry : WalEntry} {root at place : ℕ} {old flag : Bool} → entry ≡ Place root at old place → old ≡ flag → IsEntrySettled words line start (Place root at flag place) new → IsEntrySettled words line start entry new
settled words line start new is same done = subst (λ (e : WalEntry). IsEntrySettled words line start e new) (sym (flag_is is same)) done

pub returns-then-old-clause-settled : goal.returns-then-old-clause-settled
returns-then-old-clause-settled g c =
    let state = g.P.Pmem.state in
    let old = c.settle_old_block.ensures.settled in
    settled (words_of (state c.args.p.now)) c.args.line c.args.start (words_of (state c.settle_old_block.new.p)) c.in-Place.is c.if-old.true (record { settled = old.settled; tables = old.tables })

pub returns-else-old-clause-settled : goal.returns-else-old-clause-settled
returns-else-old-clause-settled g c =
    let words = words_of (g.P.Pmem.state c.args.p.now) in
    let new = words_of (g.P.Pmem.state c.settle_class_block.new.p) in
    let block = subst (λ n. IsClassBlockSettled words c.args.line c.in-Place.root (record { start = c.args.start; number = n; at = c.in-Place.at }) new) c.number_of-number.ensures c.settle_class_block.ensures.settled in
    settled words c.args.line c.args.start new c.in-Place.is c.if-old.false (record { settled = block.settled; tables = block.tables })
