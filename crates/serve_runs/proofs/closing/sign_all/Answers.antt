use Rattle.std.proofs.Common.{rules, ◌≡◌, ◌<◌, [], ◌∷◌, ◌++◌, ◌∙◌, ap, length, drop, List, ℕ, arith}
use Rattle.serve_runs.proofs.Common.{length-map, Entry, ArenaState, each_of}
use Rattle.arena_server.proofs.Startings.{take_front}
use Rattle.trace_runs.proofs.Tellings.{head_back}
use Rattle.serve_runs.specs.Signed.{signed, all_signed}
use Rattle.serve_runs.proofs.Moves.{pushed_by}
use Rattle.serve_runs.proofs.Signing.{fit_some, fit_next, signed_next, signed_none}
use Rattle.serve_runs.proofs.closing.sign_all.Goals as goal

pub loop-desks-preserved : goal.loop-desks-preserved
loop-desks-preserved g c =
    let l = c.loop-desks in
    let inv = l.invariant in
    let one = c.remove-journal.result in
    let rest = c.remove-journal.new.self.items in
    let ns = c.remove-senders.result in
    let later = c.remove-senders.new.self.items in
    let all = all_signed (each_of c.args.notes.items (λ n. n.items)) (each_of {B = List Entry × ArenaState} c.args.desks.items (λ d. (d.journal.items, d.arena))) in
    let told = each_of {B = List Entry × ArenaState} l.closed.items (λ d. (d.journal.items, d.arena)) in
    let some : 0 < length l.desks.items = search rules in
    let desks : l.desks.items ≡ one ∷ rest = head_back l.desks.items rest one some c.remove-journal.ensures.value c.remove-journal.ensures.items in
    let noted : 0 < length l.notes.items = omega (arith, some, fit_some _ _ inv.fit, length-map {B = List ℕ} l.notes.items (λ n. n.items), length-map {B = List Entry × ArenaState} l.desks.items (λ d. (d.journal.items, d.arena))) in
    let notes : l.notes.items ≡ ns ∷ later = head_back l.notes.items later ns noted c.remove-senders.ensures.value c.remove-senders.ensures.items in
    let new = c.sign.new.journal in
    let is : new ≡ signed ns.items one.journal.items = c.sign.ensures ∙ (λ i. signed (c.deref.ensures.value i) (c.as_mut_slice.ensures.value i)) in
    let pushed : each_of {B = List Entry × ArenaState} c.push_reserved.new.self.items (λ d. (d.journal.items, d.arena)) ≡ told ++ (signed ns.items one.journal.items, one.arena) ∷ [] =
    pushed_by (λ d. (d.journal.items, d.arena)) l.closed.items c.push_reserved.new.self.items _ c.push_reserved.ensures.items
    ∙ ap (λ (es : List Entry). told ++ (es, one.arena) ∷ []) (take_front new (drop (length new) one.journal.items) one.journal.len (search rules) ∙ is) in
    let heads = ap (λ vs. each_of {B = List ℕ} vs (λ n. n.items)) notes in
    let firsts = ap (λ ds. each_of {B = List Entry × ArenaState} ds (λ d. (d.journal.items, d.arena))) desks in
    record {
      told = signed_next _ _ ns.items _ _ (one.journal.items, one.arena) told _ all heads firsts pushed inv.told;
      fit = (fit_next _ _ ns.items _ _ (one.journal.items, one.arena) heads firsts inv.fit).1;
      room = search rules;
    }

pub returns : goal.returns
returns g c =
    let none : length c.loop-desks.desks.items ≡ 0 = search rules in
    signed_none _ _ _ _ (length-map {B = List Entry × ArenaState} c.loop-desks.desks.items (λ d. (d.journal.items, d.arena)) ∙ none) c.loop-desks.invariant.fit c.loop-desks.invariant.told
