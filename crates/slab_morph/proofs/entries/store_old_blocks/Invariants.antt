use Rattle.std.proofs.Common.{◌≡◌, ◌+◌, ◌/◌, length}
use Rattle.slab_morph.proofs.Common.{words_of, appended, numbers_below, index_stores}
use Rattle.slab_morph.specs.SlabHeaders.{header_at}
use Rattle.slab_morph.proofs.entries.store_old_blocks.Given as goal

abbrev pub invariant-loop-number : goal.invariant-loop-number
invariant-loop-number g l =
    let state = g.P.Pmem.state in
    let start = l.slab / 16384 in
    let numbers = numbers_below (header_at (words_of (state l.fn.p)) start).bit l.number in
    record {
      whole : state l.p ≡ appended (state l.fn.p) (index_stores start 0 numbers);
      size : length (words_of (state l.p)) ≡ length (words_of (state l.fn.p));
      room : (state l.p).room ≡ (state l.fn.p).room;
      count : length (state l.p).events ≡ length (state l.fn.p).events + l.place;
      place : l.place ≡ length numbers;
    }
