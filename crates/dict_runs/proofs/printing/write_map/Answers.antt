use Rattle.std.proofs.Common.{◌≡◌, ◌++◌, ℕ, List, [], length, ap, sym, ◌∙◌, append_assoc, arith}
use Rattle.dict_runs.proofs.Common.{append-nil, size_line, pair_line}
use Rattle.dict_runs.proofs.Listing.{listed_none, listed_more, some_left, saturated, narrow_key}
use Rattle.dict_runs.proofs.printing.write_map.Goals as goal

pub loop-init : goal.loop-init
loop-init g c =
    let pairs = c.args.dict.now.pairs in
    let count : c.from.result ≡ length pairs = c.from.ensures ∙ c.len-count.ensures.count in
    record {
      written = [];
      listed = listed_none pairs c.len-count.ensures.kept.dict.rising;
      text = c.in_ok-write_size.ensures.text ∙ (ap (λ n. c.args.out.now.items ++ size_line n) count ∙ sym (append-nil (c.args.out.now.items ++ size_line (length pairs))));
    }

pub unreachable-requires : goal.unreachable-requires
unreachable-requires g c =
    some_left c.args.dict.now.pairs c.loop.counter c.loop.from c.loop.invariant.written (omega (arith, c.loop-test.true, c.len-count.ensures.count)) c.loop.invariant.listed c.in_default.ensures.next

pub loop-preserved : goal.loop-preserved
loop-preserved g c =
    let line = pair_line (record { key = c.in-Some.key; value = c.in-Some.value.now }) in
    let head = c.args.out.now.items ++ size_line (length c.args.dict.now.pairs) in
    record {
      written = c.loop.invariant.written ++ line;
      listed = listed_more c.args.dict.now.pairs c.loop.counter c.loop.from c.in-Some.key c.in-Some.value.now c.loop.invariant.written (omega (arith, c.loop-test.true, c.len-count.ensures.count)) c.len-count.ensures.keys c.in-Some.ensures.next c.loop.invariant.listed
          c.saturating_add-from.result (saturated c.in-Some.key c.saturating_add-from.result (narrow_key c.args.dict.now.pairs c.loop.from c.in-Some.key c.in-Some.value.now c.len-count.ensures.keys c.in-Some.ensures.next) c.saturating_add-from.ensures);
      text = c.in_ok-write_pair_line.ensures.text ∙ (ap (λ (t : List ℕ). t ++ line) c.loop.invariant.text ∙ append_assoc head c.loop.invariant.written line);
    }
