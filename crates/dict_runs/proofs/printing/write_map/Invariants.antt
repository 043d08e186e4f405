use Rattle.std.proofs.Common.{◌≡◌, ◌++◌, List, ℕ, length}
use Rattle.dict_text.specs.Report.{size_line}
use Rattle.dict_runs.proofs.Listing.{IsListed}
use Rattle.dict_runs.proofs.printing.write_map.Given as goal

abbrev pub invariant-loop : goal.invariant-loop
invariant-loop g l = record {
  written : List ℕ;
  listed : IsListed l.dict.pairs l.counter l.from written;
  text : l.out.items ≡ (l.fn.out.items ++ size_line (length l.dict.pairs)) ++ written;
}
