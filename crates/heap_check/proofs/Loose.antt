-- Loose things. At most one number has it: where none has it, where it is a given one, and where it was so of what has
-- more. And images that are exact but for one slab.
use Rattle.std.proofs.Common.{◌≡◌, ◌≢◌, ◌<◌, ℕ, Bool, true, false, true≢false, Option, None, sym, ◌∙◌, arith}
use Rattle.heap_check.proofs.Common.{false_from_ne_true, WalEntry, normal_kind, SlabHeader, Tables, Bounds}
use Rattle.heap_check.specs.Sound.{AtMostOne, IsEmptySlab, IsDoneSlab, IsNearlyDoneBy, IsNearlyDone, IsExact, IsExactBut}

pub AtMostOne-none : {P : ℕ → Type 0} → ((k : ℕ) → ¬ (P k)) → AtMostOne P
AtMostOne-none {P} none = record { same = λ one other first second. absurd (none one first) }

pub AtMostOne-one : {P : ℕ → Type 0} (k : ℕ) → ((one : ℕ) → P one → one ≡ k) → AtMostOne P
AtMostOne-one {P} k only = record { same = λ one other first second. only one first ∙ sym (only other second) }

pub AtMostOne-fewer : {P Q : ℕ → Type 0} → ((k : ℕ) → Q k → P k) → AtMostOne P → AtMostOne Q
AtMostOne-fewer {P} {Q} was most = record { same = λ one other first second. most.same one other (was one first) (was other second) }

pub IsExactBut-exact : {b : Bounds} {t : Tables} → IsExact b t → (start : ℕ) → IsExactBut b t start
IsExactBut-exact {b} {t} exact start = record {
  sound = exact.sound;
  closed = exact.closed;
  all_named = exact.all_named;
  others_live = λ other differ slab. exact.all_live other slab;
  none_morphing = exact.none_morphing;
  none_done = λ other differ. exact.none_done other;
}

-- no other slab is without a root's block
pub others_lived : {b : Bounds} {t : Tables} {start : ℕ} → IsExactBut b t start → (other : ℕ) → other ≢ start → ¬ (IsEmptySlab t other)
others_lived {b} {t} {start} but other differ empty = let lives = but.others_live other differ empty.slab in empty.none lives.0 lives.1 lives.2

-- slabs without a live index entry

-- a slab takes or took another class, and has no live index entry left
pub record IsSpent (h : SlabHeader) : Type 0 where
  pub kind : h.kind ≢ normal_kind
  pub none : (place : ℕ) → place < h.index_count → h.live place ≡ false

-- while no entry is open a slab is nearly done exactly where it is spent
pub nearly_spent : {slabs : ℕ → Bool} {header : ℕ → SlabHeader} {opened : Option WalEntry} {held : ℕ → ℕ} {start : ℕ} → opened ≡ None → IsNearlyDoneBy slabs header opened held start → IsSpent (header start)
nearly_spent {slabs} {header} {opened} {held} {start} closed nearly = record {
  kind = nearly.kind;
  none = λ place below. false_from_ne_true ((header start).live place) (λ live. let is = (nearly.none place below live).entry in cc);
}

pub spent_nearly : (t : Tables) (start : ℕ) → t.slab start ≡ true → IsSpent (t.header start) → IsNearlyDone t start
spent_nearly t start slab spent = record { slab = slab; kind = spent.kind; none = λ place below live. absurd (true≢false (sym live ∙ spent.none place below)) }

-- a slab that is done is nearly done
pub nearly_done : (t : Tables) (start : ℕ) → IsDoneSlab t start → IsNearlyDone t start
nearly_done t start done = spent_nearly t start done.slab (record { kind = λ normal. omega (arith, normal, done.kind); none = done.none })
