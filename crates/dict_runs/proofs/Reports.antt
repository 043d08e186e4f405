-- The report of a script, once its map is written.
use Rattle.std.proofs.Common.{◌≡◌, ◌++◌, ℕ, List, flat_map, Result, Ok, Err, ap, sym, ◌∙◌, append_assoc}
use Rattle.std.specs.Result.{OnOk}
use Rattle.dict_runs.proofs.Common.{DictState, DictCall, reply_line, map_text}
use Rattle.dict_runs.specs.Acts.{Standing}
use Rattle.dict_runs.specs.Printing.{IsReportOf}
use Rattle.dict_runs.specs.Scripts.{replies_of}
use Rattle.dict_runs.proofs.Runs.{IsWrittenSoFar}

report_of : (granules : ℕ) (calls : List DictCall) (dict : DictState) (many : ℕ) (first was is : List ℕ) → IsWrittenSoFar granules calls dict many first was → is ≡ was ++ map_text dict.pairs → IsReportOf granules calls dict first is
report_of granules calls dict many first was is written text =
    let so_far = written.so_far in
    let lines = flat_map reply_line (replies_of so_far.turns) in
    record {
      turns = so_far.turns;
      pairs = dict.pairs;
      behind = record {
        to = so_far.to;
        run = so_far.run;
        words = sym (ap (λ (s : Standing). s.words) so_far.at.is);
        quiet = so_far.at.kept.ready.quiet;
        exact = so_far.at.kept.exact;
        dict = so_far.at.kept.dict;
      };
      text = text ∙ (ap (λ (t : List ℕ). t ++ map_text dict.pairs) written.text ∙ append_assoc first lines (map_text dict.pairs));
    }

pub reported : {X E : Type 0} (result : Result X E) (granules : ℕ) (calls : List DictCall) (dict : DictState) (many : ℕ) (first was is : List ℕ) → IsWrittenSoFar granules calls dict many first was → OnOk result (is ≡ was ++ map_text dict.pairs) →
    OnOk result (IsReportOf granules calls dict first is)
reported (Ok done) granules calls dict many first was is written text = report_of granules calls dict many first was is written text
reported (Err fault) granules calls dict many first was is written text = tt
