-- The turn that a call of a script makes of a dictionary.
use Rattle.std.proofs.Common.{◌≡◌, ◌≢◌, ℕ, ◌+◌, List, [], ◌∷◌, length, Some, None, refl, sym, ◌∙◌, subst, inl, inr, ⊎_elim, arith}
use Rattle.pmem_lines.specs.declared.event.Event.{Event}
use Rattle.pmem_lines.specs.Events.{CrashOnly}
use Rattle.dict_runs.proofs.Common.{words_of, Bounds, Machine, bounds_of, HasState, Stage, last_stage, Pair, stage, bytes_for, value_of, AreNumbersUpTo, Counts, IsFull, IsValueOf, IsDict, Puts, IsSteadyDict, DictState, Phase, Idle, IsStale, AreNoneStale, AtMostOneStale, IsKept, block_words, HasRemoved, DictCall, Put, Get, Del, DictReply, reply_of}
use Rattle.heap_model.specs.declared.call.Call.TheVariants as calls
use Rattle.heap_model.specs.declared.call.Reply.TheVariants as replies
use Rattle.image_defects.specs.Least.{IsLeast}
use Rattle.dict_text.specs.Report.{DictReply as texts}
use Rattle.dict_text.specs.declared.report.PlainReply.{PlainReply}
use Rattle.dict_text.specs.declared.report.PlainReply.TheVariants as plain
use Rattle.dict_runs.specs.Acts.{Standing}
use Rattle.dict_runs.specs.Looks.{HasSeen, HasSeenAll}
use Rattle.dict_runs.specs.Making.{IsPut, IsRemovedBy, IsCleared, IsStoredBy, IsUnplaced}
use Rattle.dict_runs.specs.Scripts.{IsDone, IsTidied, got}
use Rattle.dict_runs.specs.Turns.{standing, IsAt, AllLeave, IsChange, HasMade}
use Rattle.dict_runs.proofs.Leads.{asked, moved, wrote}

-- a number that is the most stays so
more_numbers : (words : List ℕ) (most : ℕ) → AreNumbersUpTo words most → AreNumbersUpTo words (most + 1)
more_numbers words most up = record { each = λ root key number value is. omega (arith, up.each root key number value is) }

-- a crash leaves more
leaving : {base : List ℕ} {events : List Event} {P Q : List ℕ → Type 0} → ((image : List ℕ) → P image → Q image) → CrashOnly base events P → CrashOnly base events Q
leaving more crash = record { each = λ n image is. more image (crash.each n image is) }

-- a key whose block counts is in the map
counted_there : (words : List ℕ) (pairs : List Pair) (root key : ℕ) (value : List ℕ) → IsDict words pairs → Counts words root key value → value_of pairs key ≢ None
counted_there words pairs root key value dict counts none = let lacks = subst (IsValueOf words key) none (dict.each key) in lacks root counts.number value counts.pair

module _ {L : Type 0} (sees : L → Stage → L → Type 0) (b : Bounds) where
  -- what stands behind a dictionary's last call
  record IsTail (from : DictState) (machine : Machine) (before : List Pair) (look : L) (new : DictState) (then : L) : Type 0 where
    last : Machine
    stages : List Stage
    is : IsTidied b (standing from.arena machine) stages (standing new.arena last)
    state : HasState (words_of new.arena.device) last
    bounds : bounds_of (words_of new.arena.device) ≡ b
    idle : new.phase ≡ Idle
    tidy : AreNoneStale (words_of new.arena.device) Idle
    pairs : new.pairs ≡ from.pairs
    numbers : (n : ℕ) → AreNumbersUpTo (words_of from.arena.device) n → AreNumbersUpTo (words_of new.arena.device) n
    seen : HasSeenAll sees look stages then
    leaves : AllLeave before new.pairs stages

  tail : (from : DictState) (machine : Machine) (before : List Pair) (look : L) (new : DictState) (then : L) → HasState (words_of from.arena.device) machine → bounds_of (words_of from.arena.device) ≡ b → from.phase ≡ Idle →
      AtMostOneStale (words_of from.arena.device) Idle → IsCleared sees from look new then → IsTail from machine before look new then
  tail from machine before look new then state bounds idle one = ⊎_elim
      (λ kept.
      let here : IsTail from machine before look from look = record {
        last = machine;
        stages = [];
        is = inl (subst (λ (p : Phase). AreNoneStale (words_of from.arena.device) p) idle kept.0, (refl, refl));
        state = state;
        bounds = bounds;
        idle = idle;
        tidy = subst (λ (p : Phase). AreNoneStale (words_of from.arena.device) p) idle kept.0;
        pairs = refl;
        numbers = λ n up. up;
        seen = refl;
        leaves = tt;
      } in
      subst (λ (d : DictState). IsTail from machine before look d then) (sym kept.1) (subst (λ (l : L). IsTail from machine before look from l) (sym kept.2) here))
      (λ did.
      let tidied = did.0 in
      let led = asked b from.arena new.arena machine state bounds (calls.Free tidied.root) (replies.Freed tidied.at tidied.size) tidied.did in
      let least : IsLeast (IsStale (words_of from.arena.device) Idle) tidied.root = subst (λ (p : Phase). IsLeast (IsStale (words_of from.arena.device) p) tidied.root) idle tidied.stale in
      record {
        last = led.next;
        stages = last_stage new.arena.device ∷ [];
        is = inr (record { root = tidied.root; at = tidied.at; size = tidied.size; stale = least; freed = last_stage new.arena.device; free = led.leads; are = refl });
        state = led.state;
        bounds = led.bounds;
        idle = tidied.keeps.phase_is ∙ idle;
        tidy = λ root stale.
            let was = tidied.left root (subst (λ (p : Phase). IsStale (words_of new.arena.device) p root) (sym idle) stale) in
            was.1 (one.same root tidied.root (subst (λ (p : Phase). IsStale (words_of from.arena.device) p root) idle was.0) least.here);
        pairs = tidied.keeps.pairs;
        numbers = tidied.keeps.numbers;
        seen = (then, did.1, refl);
        leaves = (leaving (λ image steady. inr (subst (λ (ps : List Pair). IsSteadyDict ps image) (sym tidied.keeps.pairs) steady)) tidied.keeps.crash, tt);
      })

  -- a pair was stored
  stored : (most : ℕ) (machine : Machine) (key : ℕ) (value : List ℕ) (old : DictState) (look : L) (new : DictState) (then : L) → HasState (words_of old.arena.device) machine → bounds_of (words_of old.arena.device) ≡ b →
      AreNumbersUpTo (words_of old.arena.device) most → IsKept new → IsStoredBy sees key value old look new then → HasMade sees b (standing old.arena machine) most (Put key value) old look new then texts.Stored
  stored most machine key value old look new then state bounds up kept put =
      let took = put.took.asked in
      let staged = put.staged in
      let filled = put.filled.filled in
      let shown = put.filled.shown.shown in
      let wrote_it = put.filled.wrote key took.keeps.phase_is in
      let published = put.filled.shown.published key value wrote_it.keeps.phase_is in
      let first = asked b old.arena staged.arena machine state bounds (calls.Malloc stage (bytes_for (length value))) (replies.Placed put.took.at put.took.size) took.did in
      let second = wrote b staged.arena filled.arena first.next first.state first.bounds stage (block_words key wrote_it.number value) wrote_it.did in
      let third = moved b filled.arena shown.arena second.next second.state second.bounds stage published.root (replies.Moved published.at published.size) published.did in
      let end = tail shown third.next old.pairs put.filled.shown.mid new then third.state third.bounds published.phase published.one_stale put.filled.shown.cleared in
      let before : filled.pairs ≡ old.pairs = wrote_it.keeps.pairs ∙ took.keeps.pairs in
      let stages = last_stage staged.arena.device ∷ last_stage filled.arena.device ∷ last_stage shown.arena.device ∷ end.stages in
      record {
        turn = record { reply = texts.Stored; stages = stages; before = old.pairs; behind = new.pairs };
        to = standing new.arena end.last;
        is = record {
          done = record {
            at = put.took.at;
            size = put.took.size;
            number = wrote_it.number;
            root = published.root;
            shown_at = published.at;
            shown_size = published.size;
            staged = standing staged.arena first.next;
            filled = standing filled.arena second.next;
            shown = standing shown.arena third.next;
            first = last_stage staged.arena.device;
            second = last_stage filled.arena.device;
            third = last_stage shown.arena.device;
            rest = end.stages;
            room = took.room;
            take = first.leads;
            numbered = wrote_it.next;
            fill = second.leads;
            free = published.free;
            show = third.leads;
            tidy = end.is;
            are = refl {a = stages};
          };
          before = refl;
          behind = kept.dict;
        };
        at = record {
          kept = kept;
          machine = end.last;
          is = refl;
          state = end.state;
          bounds = end.bounds;
          idle = end.idle;
          tidy = end.tidy;
          numbers = end.numbers (most + 1) (published.numbers most (wrote_it.keeps.numbers most (took.keeps.numbers most up)));
        };
        replied = refl;
        before = refl;
        behind = refl;
        change = subst (λ (ps : List Pair). Puts ps key (Some value) new.pairs) before (subst (λ (ps : List Pair). Puts filled.pairs key (Some value) ps) (sym end.pairs) published.puts);
        seen = (put.mid, put.seen, (put.filled.mid, put.filled.seen, (put.filled.shown.mid, put.filled.shown.seen, end.seen)));
        leaves = (
          leaving (λ image steady. inl steady) took.keeps.crash,
          (
            leaving (λ image steady. inl (subst (λ (ps : List Pair). IsSteadyDict ps image) took.keeps.pairs steady)) wrote_it.keeps.crash,
            (
              leaving (λ image either. ⊎_elim
                  (λ steady. inl (subst (λ (ps : List Pair). IsSteadyDict ps image) before steady))
                  (λ steady. inr (subst (λ (ps : List Pair). IsSteadyDict ps image) (sym end.pairs) steady))
                  either) published.crash,
              end.leaves,
            ),
          ),
        );
      }

  -- nothing was asked of the arena
  idle_turn : (most : ℕ) (s : Standing) (call : DictCall) (reply : DictReply) (old : DictState) (look : L) → IsAt b s most old → IsDone b s old.pairs call reply [] s → IsChange call reply old.pairs old.pairs → HasMade sees b s most call old look old look reply
  idle_turn most s call reply old look at done change = record {
    turn = record { reply = reply; stages = []; before = old.pairs; behind = old.pairs };
    to = s;
    is = record { done = done; before = refl; behind = subst (λ (t : Standing). IsDict t.words old.pairs) (sym at.is) at.kept.dict };
    at = record { kept = at.kept; machine = at.machine; is = at.is; state = at.state; bounds = at.bounds; idle = at.idle; tidy = at.tidy; numbers = more_numbers (words_of old.arena.device) most at.numbers };
    replied = refl;
    before = refl;
    behind = refl;
    change = change;
    seen = refl;
    leaves = tt;
  }

  -- the same where the dictionary is as it was
  same_turn : (most : ℕ) (s : Standing) (call : DictCall) (reply : DictReply) (old : DictState) (look : L) (new : DictState) (then : L) → IsAt b s most old → new ≡ old → then ≡ look →
      IsDone b s old.pairs call reply [] s → IsChange call reply old.pairs old.pairs → HasMade sees b s most call old look new then reply
  same_turn most s call reply old look new then at same unseen done change =
      subst (λ (d : DictState). HasMade sees b s most call old look d then reply) (sym same) (subst (λ (l : L). HasMade sees b s most call old look old l reply) (sym unseen)
      (idle_turn most s call reply old look at done change))

  -- there was no place for a pair
  unplaced : (most : ℕ) (machine : Machine) (key : ℕ) (value : List ℕ) (old : DictState) (look : L) (new : DictState) (then : L) → HasState (words_of old.arena.device) machine → bounds_of (words_of old.arena.device) ≡ b →
      AreNumbersUpTo (words_of old.arena.device) most → old.phase ≡ Idle → IsKept new → IsUnplaced sees (length value) old look new then →
      HasMade sees b (standing old.arena machine) most (Put key value) old look new then texts.NoSpace
  unplaced most machine key value old look new then state bounds up idle kept put =
      let took = put.0 in
      let led = asked b old.arena new.arena machine state bounds (calls.Malloc stage (bytes_for (length value))) replies.NoSpace took.did in
      record {
        turn = record { reply = texts.NoSpace; stages = last_stage new.arena.device ∷ []; before = old.pairs; behind = new.pairs };
        to = standing new.arena led.next;
        is = record {
          done = record { room = took.room; asked = last_stage new.arena.device; take = led.leads; are = refl };
          before = refl;
          behind = kept.dict;
        };
        at = record {
          kept = kept;
          machine = led.next;
          is = refl;
          state = led.state;
          bounds = led.bounds;
          idle = took.keeps.phase_is ∙ idle;
          tidy = subst (λ (p : Phase). AreNoneStale (words_of new.arena.device) p) idle took.tidy;
          numbers = more_numbers (words_of new.arena.device) most (took.keeps.numbers most up);
        };
        replied = refl;
        before = refl;
        behind = refl;
        change = took.keeps.pairs;
        seen = (then, put.1, refl);
        leaves = (leaving (λ image steady. inl steady) took.keeps.crash, tt);
      }

  -- a pair went
  removed : (most : ℕ) (machine : Machine) (key : ℕ) (old : DictState) (look : L) (new : DictState) (then : L) → HasState (words_of old.arena.device) machine → bounds_of (words_of old.arena.device) ≡ b →
      AreNumbersUpTo (words_of old.arena.device) most → old.phase ≡ Idle → IsKept old → IsKept new → HasRemoved old new key → HasSeen sees look new then →
      HasMade sees b (standing old.arena machine) most (Del key) old look new then texts.Removed
  removed most machine key old look new then state bounds up idle was kept gone seen =
      let led = asked b old.arena new.arena machine state bounds (calls.Free gone.root) (replies.Freed gone.at gone.size) gone.did in
      record {
        turn = record { reply = texts.Removed; stages = last_stage new.arena.device ∷ []; before = old.pairs; behind = new.pairs };
        to = standing new.arena led.next;
        is = record {
          done = record { root = gone.root; value = gone.value; at = gone.at; size = gone.size; counts = gone.counts; freed = last_stage new.arena.device; free = led.leads; are = refl };
          before = refl;
          behind = kept.dict;
        };
        at = record {
          kept = kept;
          machine = led.next;
          is = refl;
          state = led.state;
          bounds = led.bounds;
          idle = gone.phase ∙ idle;
          tidy = subst (λ (p : Phase). AreNoneStale (words_of new.arena.device) p) idle gone.tidy;
          numbers = more_numbers (words_of new.arena.device) most (gone.numbers most up);
        };
        replied = refl;
        before = refl;
        behind = refl;
        change = (counted_there (words_of old.arena.device) old.pairs gone.root key gone.value was.dict gone.counts, gone.puts);
        seen = (then, seen, refl);
        leaves = (gone.crash, tt);
      }

  -- by what a put came to
  pub put_made : (most : ℕ) (s : Standing) (key : ℕ) (value : List ℕ) (reply : PlainReply) (old : DictState) (look : L) (new : DictState) (then : L) → IsAt b s most old → IsKept new → IsPut sees key value old look new then reply →
      HasMade sees b s most (Put key value) old look new then (reply_of reply)
  put_made most s key value plain.Stored old look new then at kept put =
      subst (λ (t : Standing). HasMade sees b t most (Put key value) old look new then texts.Stored) (sym at.is) (stored most at.machine key value old look new then at.state at.bounds at.numbers kept put)
  put_made most s key value plain.Full old look new then at kept put =
      same_turn most s (Put key value) texts.Full old look new then at put.1 put.2 (subst (λ (t : Standing). IsFull t.words) (sym at.is) put.0, (refl, refl)) refl
  put_made most s key value plain.NoSpace old look new then at kept put =
      subst (λ (t : Standing). HasMade sees b t most (Put key value) old look new then texts.NoSpace) (sym at.is) (unplaced most at.machine key value old look new then at.state at.bounds at.numbers at.idle kept put)
  put_made most s key value plain.Removed old look new then at kept put = absurd put
  put_made most s key value plain.Absent old look new then at kept put = absurd put

  -- by what a removal came to
  pub removal_made : (most : ℕ) (s : Standing) (key : ℕ) (reply : PlainReply) (old : DictState) (look : L) (new : DictState) (then : L) → IsAt b s most old → IsKept new → IsRemovedBy sees key old look new then reply →
      HasMade sees b s most (Del key) old look new then (reply_of reply)
  removal_made most s key plain.Removed old look new then at kept did =
      subst (λ (t : Standing). HasMade sees b t most (Del key) old look new then texts.Removed) (sym at.is) (removed most at.machine key old look new then at.state at.bounds at.numbers at.idle at.kept kept did.0 did.1)
  removal_made most s key plain.Absent old look new then at kept did = same_turn most s (Del key) texts.Absent old look new then at did.1 did.2 (did.0, (refl, refl)) refl
  removal_made most s key plain.Stored old look new then at kept did = absurd did
  removal_made most s key plain.Full old look new then at kept did = absurd did
  removal_made most s key plain.NoSpace old look new then at kept did = absurd did

  -- a key was looked at
  pub get_made : (most : ℕ) (s : Standing) (key : ℕ) (old : DictState) (look : L) → IsAt b s most old → HasMade sees b s most (Get key) old look old look (got (value_of old.pairs key))
  get_made most s key old look at = idle_turn most s (Get key) (got (value_of old.pairs key)) old look at (refl, (refl, refl)) refl
