use Rattle.std.proofs.Common.{rules, ◌≡◌, ◌≤◌, ◌+◌, ◌++◌, ◌∷◌, [], ◌∙◌, ap, sym, subst, ℕ, List}
use Rattle.shared_pool.proofs.Common.{AllAt, Covers, vec_len, vec_capacity, padded_value, TableId, Entry, Since, opened}
use Rattle.shared_pool.specs.Rows.{each_of}
use Rattle.shared_pool.proofs.NewLocks.{last_begun, moved, begun_some, begun_at, begun_covers, as_was}
use Rattle.shared_pool.proofs.starting.undo_all.Goals as goal

pub close-requires-clause-some : goal.close-requires-clause-some
close-requires-clause-some g c =
    let popped : c.loop-last.begun.items ≡ c.pop.new.self.items ++ c.in-Some.last ∷ [] = search rules in
    let b = last_begun c.loop-last.begun.items c.pop.new.self.items c.in-Some.last (λ b. (padded_value b.lock, b.dealt.items)) c.args.seats popped c.loop-last.invariant.1 in
    begun_some c.args.seats _ c.requires.seats b.1

pub close-requires-clause-lock : goal.close-requires-clause-lock
close-requires-clause-lock g c =
    let popped : c.loop-last.begun.items ≡ c.pop.new.self.items ++ c.in-Some.last ∷ [] = search rules in
    let b = last_begun c.loop-last.begun.items c.pop.new.self.items c.in-Some.last (λ b. (padded_value b.lock, b.dealt.items)) c.args.seats popped c.loop-last.invariant.1 in
    subst (λ (z : TableId). AllAt z c.in-Some.last.dealt.items) (ap (λ l. l.id) (sym c.into_inner.ensures)) (begun_at c.args.seats _ b.1)

pub close-requires-clause-all : goal.close-requires-clause-all
close-requires-clause-all g c =
    let popped : c.loop-last.begun.items ≡ c.pop.new.self.items ++ c.in-Some.last ∷ [] = search rules in
    let b = last_begun c.loop-last.begun.items c.pop.new.self.items c.in-Some.last (λ b. (padded_value b.lock, b.dealt.items)) c.args.seats popped c.loop-last.invariant.1 in
    subst (λ (z : ℕ). Covers z c.in-Some.last.dealt.items) (ap (λ l. l.seats) (sym c.into_inner.ensures)) (begun_covers c.args.seats _ b.1)

pub loop-last-preserved : goal.loop-last-preserved
loop-last-preserved g c =
    let popped : c.loop-last.begun.items ≡ c.pop.new.self.items ++ c.in-Some.last ∷ [] = search rules in
    let b = last_begun c.loop-last.begun.items c.pop.new.self.items c.in-Some.last (λ b. (padded_value b.lock, b.dealt.items)) c.args.seats popped c.loop-last.invariant.1 in
    let since = subst (λ (z : ℕ × List Entry). Since z.0 z.1 c.close.result.journal) (λ i. (ap (λ l. l.seats) c.into_inner.ensures i, ap (λ l. l.start) c.into_inner.ensures i)) c.close.ensures.since in
    let opening = c.close.ensures.opening ∙ ap (λ l. l.opening) c.into_inner.ensures in
    let same = ap opened c.into_parts-arena.ensures.arena ∙ as_was c.args.seats _ c.close.result.opening c.close.result.now c.close.result.journal b.1 since c.close.ensures.seats opening c.into_parts-arena.ensures.held in
    let room : vec_len c.put_back.new.arenas + vec_len c.pop.new.self ≤ vec_capacity c.put_back.new.arenas = search rules in (
      room,
      b.0,
      ap (λ l. each_of c.pop.new.self.items (λ e. (padded_value e.lock).opening) ++ each_of l (λ a. opened a)) c.put_back.ensures.items
          ∙ (moved c.loop-last.begun.items c.pop.new.self.items c.in-Some.last (λ e. (padded_value e.lock).opening) (each_of c.loop-last.arenas.items (λ a. opened a)) (opened c.into_parts-arena.result.0) popped same
          ∙ c.loop-last.invariant.2),
    )
