-- What one turn does to a pass.
use Rattle.std.proofs.Common.{◌≡◌, ℕ, zero, suc, ◌-◌, ◌<◌, ◌≤◌, ◌||◌, Bool, true, false, if◌then◌else◌, List, [], ◌∷◌, ◌++◌, map, length, refl, ap, sym, ◌∙◌, subst, arith, get_or, set, eq-eqb, Result, Ok, Err, IfOk, IfErr}
use mathlib.Core.List.{IsPrefix}
use Rattle.shared_pool.proofs.Common.{Entry, calls_by, calls_of, owns, Lock, Known, Turned, after_loss}
use Rattle.arena_lock.specs.Legality.{IsLegal}
use Rattle.shared_pool.specs.Value.{Receives}
use Rattle.shared_pool.specs.Passes.{Declined, PassState, PoolState, IsPassOf, nobody, first_calls, part_at, with_part, seen_at, mine_at, Called, Refused, HasCalled, HasTried}
use Rattle.shared_pool.specs.Rows.{SameAnswer, part_of, AllTell}
use Rattle.arena_lock.proofs.Entries.{calls_by-append}
use Rattle.shared_pool.specs.declared.job.Receipt.{Receipt}
use Rattle.shared_pool.specs.declared.pass.Spot.{Spot}
use Rattle.pmem_lines.specs.declared.pmem.OutOfMemory.{OutOfMemory}
use Rattle.heap_model.specs.declared.call.Call.{Call}
use Rattle.shared_pool.specs.declared.pool.TryRefusal.{TryRefusal}
use Rattle.shared_pool.specs.declared.pool.TryRefusal.TheVariants.{Busy}
use Rattle.shared_pool.proofs.PassParts.{Tells, tell_at, tell_set}

part_here : (ss : List Spot) (k : ℕ) (d : Spot) → k < length ss → get_or (map part_of ss) k nobody ≡ (get_or ss k d).seat
part_here [] k d l = absurd (omega arith)
part_here (s ∷ ss) zero d l = refl
part_here (s ∷ ss) (suc k) d l = part_here ss k d (omega arith)

map_set : (ss : List Spot) (k : ℕ) (s : Spot) → map part_of (set ss k s) ≡ set (map part_of ss) k s.seat
map_set [] k s = refl
map_set (x ∷ ss) zero s = refl
map_set (x ∷ ss) (suc k) s = ap (λ ps. x.seat ∷ ps) (map_set ss k s)

locks_set : (ss : List Spot) (k : ℕ) (s d : Spot) → k < length ss → s.seat.lock ≡ (get_or ss k d).seat.lock → map (λ (z : Known). z.lock) (map part_of (set ss k s)) ≡ map (λ (z : Known). z.lock) (map part_of ss)
locks_set [] k s d l e = refl
locks_set (x ∷ ss) zero s d l e = ap (λ t. t ∷ map (λ (z : Known). z.lock) (map part_of ss)) e
locks_set (x ∷ ss) (suc k) s d l e = ap (λ ts. x.seat.lock ∷ ts) (locks_set ss k s d (omega arith) e)

-- the seat and the lock at one place
lock_at : {L : Type 0} (f : L → Lock) (ls : List L) (ss : List Spot) (k : ℕ) (dl : L) (d : Spot) → map (λ (l : Lock). l.id) (map f ls) ≡ map (λ (z : Known). z.lock) (map part_of ss) → k < length (map f ls) → (k < length ss) × ((get_or ss k d).seat.lock ≡ (f (get_or ls k dl)).id)
lock_at f [] ss k dl d e l = absurd (omega arith)
lock_at f (x ∷ ls) [] k dl d e l = absurd (cc e)
lock_at f (x ∷ ls) (s ∷ ss) zero dl d e l = (omega arith, cc e)
lock_at f (x ∷ ls) (s ∷ ss) (suc k) dl d e l = let r = lock_at f ls ss k dl d (cc e) (omega arith) in let room : k < length ss = r.0 in (omega arith, r.1)

room_map : {A B : Type 0} (f : A → B) (xs : List A) (k : ℕ) → k < length (map f xs) → k < length xs
room_map f [] k l = absurd (omega arith)
room_map f (x ∷ xs) zero l = omega arith
room_map f (x ∷ xs) (suc k) l = let r = room_map f xs k (omega arith) in omega (arith, r)

pub owns_it : (n : ℕ) (ns : List ℕ) → ns ≡ n ∷ [] → owns n ns ≡ true
owns_it n ns is = ap (owns n) is ∙ ap (λ z. z || false) (eq-eqb n n refl)

one_call : (n : ℕ) (e : Entry) → e.seat ≡ n → calls_by n (e ∷ []) ≡ e ∷ []
one_call n e is = ap (λ (b : Bool). if b then e ∷ [] else []) (eq-eqb e.seat n is)

-- what a call knows of the place that it goes to
pub record Here {L : Type 0} (f : L → Lock) (ss : List Spot) (n k : ℕ) (dl : L) (d : Spot) : Type 0 where
  pub room : k < length ss
  pub lock : d.seat.lock ≡ (f dl).id
  pub tells : Tells n d

pub here_of : {L : Type 0} (f : L → Lock) (ls : List L) (ss : List Spot) (n k seats : ℕ) (dl : L) (d : Spot) (pool : PoolState) (pass : PassState) → record { seats = seats; locks = map f ls } ≡ pool → record { number = n; parts = map part_of ss } ≡ pass
    → IsPassOf pool pass → k < length pool.locks → AllTell n ss → dl ≡ get_or ls k dl → d ≡ get_or ss k d → Here f ss n k dl d
here_of f ls ss n k seats dl d pool pass pool_is pass_is is room tells lock_is spot_is =
    let e : map (λ (l : Lock). l.id) (map f ls) ≡ map (λ (z : Known). z.lock) (map part_of ss) = subst (λ (z : PoolState × PassState). IsPassOf z.0 z.1) (λ i. (sym pool_is i, sym pass_is i)) is in
    let r = lock_at f ls ss k dl d e (subst (λ (z : PoolState). k < length z.locks) (sym pool_is) room) in record {
      room = r.0;
      lock = ap (λ (z : Spot). z.seat.lock) spot_is ∙ (r.1 ∙ ap (λ l. (f l).id) (sym lock_is));
      tells = subst (λ (z : Spot). Tells n z) (sym spot_is) (tell_at n ss k d r.0 tells);
    }

module _ (n k : ℕ) (ss : List Spot) (s d : Spot) (room : k < length ss) (at : d ≡ get_or ss k d) where
  abbrev P : PassState
  P = record { number = n; parts = map part_of ss }

  abbrev Q : PassState
  Q = record { number = n; parts = map part_of (set ss k s) }

  here : part_at P k ≡ d.seat
  here = part_here ss k d room ∙ ap (λ (z : Spot). z.seat) (sym at)

  -- the seat changed, and nothing else
  pub with_is : (F : Known → Known) → s.seat ≡ F d.seat → Q ≡ with_part P k (F (part_at P k))
  with_is F is = ap (λ ps. record { number = n; parts = ps }) (map_set ss k s ∙ ap (set (map part_of ss) k) (is ∙ ap F (sym here)))

  pub still_of : (pool : PoolState) (pass : PassState) → P ≡ pass → s.seat.lock ≡ d.seat.lock → IsPassOf pool pass → IsPassOf pool Q
  still_of pool pass is same of = of ∙ (ap (λ (z : PassState). map (λ (t : Known). t.lock) z.parts) (sym is) ∙ sym (locks_set ss k s d room (same ∙ ap (λ (z : Spot). z.seat.lock) at)))

  pub part_is : (pass : PassState) → P ≡ pass → part_at pass k ≡ d.seat
  part_is pass is = ap (λ (z : PassState). part_at z k) (sym is) ∙ here

  abbrev Turns : {E : Type 0} → Call → Result Receipt E → ℕ → Type 0
  Turns {E} call r count = Turned n (λ before after (out : Result Receipt E × ℕ). Receives n call before after out.0 × (out.1 ≡ length after)) d.seat s.seat (r, count)

  own_before : (own : d.seat.numbers ≡ n ∷ []) (before : List Entry) → calls_of before d.seat.numbers ≡ d.seat.mine → calls_by n before ≡ mine_at P k
  own_before own before e = ap first_calls (ap (calls_of before) (sym own) ∙ e) ∙ ap (λ (z : Known). first_calls z.mine) (sym here)

  called : {E : Type 0} (call : Call) (out : Result Receipt E) (count : ℕ) (own : d.seat.numbers ≡ n ∷ []) → Turns call out count → IfOk out (λ r. Called k call P Q r)
  called call (Ok r) count own t =
      let got = t.relates.0 in
      let mine : calls_by n t.before ≡ mine_at P k = own_before own t.before t.begins.mine in
      let place : r.place ≡ length t.before = got.1 in
      let known : d.seat.known ≤ r.place = subst (λ z. d.seat.known ≤ z) (sym place) t.begins.known in
      let more : calls_of s.seat.seen d.seat.numbers ≡ (mine_at P k ++ r.entry ∷ []) ∷ [] = ap (calls_of s.seat.seen) own ∙ ap (λ l. l ∷ []) (ap (calls_by n) got.0 ∙ (calls_by-append n t.before (r.entry ∷ []) ∙ (ap (λ l. calls_by n t.before ++ l) (one_call n r.entry got.2) ∙ ap (λ l. l ++ r.entry ∷ []) mine))) in
      let F : Known → Known = λ v. record v { seen = t.before ++ r.entry ∷ []; mine = (mine_at P k ++ r.entry ∷ []) ∷ []; turns = v.turns - 1 } in record {
        before = t.before;
        begins = subst (λ (z : Known). IsPrefix z.seen t.before) (sym here) t.begins.seen;
        own = mine;
        place = place;
        known = subst (λ (z : Known). z.known ≤ r.place) (sym here) known;
        bears = (got.2, got.3);
        legal = subst (λ (z : Known × List Entry). IsLegal z.0.opening z.1) (λ i. (sym here i, got.0 i)) t.legal;
        pass = with_is F (t.seat ∙ ap (λ (z : List Entry × List (List Entry)). record (d.seat) { seen = z.0; mine = z.1; turns = d.seat.turns - 1 }) (λ i. (got.0 i, more i)));
      }
  called call (Err e) count own t = tt

  refused : {E : Type 0} (call : Call) (out : Result Receipt E) (count : ℕ) (own : d.seat.numbers ≡ n ∷ []) → Turns call out count → IfErr out (λ _. Refused k P Q)
  refused call (Ok r) count own t = tt
  refused call (Err e) count own t =
      let got = t.relates.0 in
      let same : calls_of s.seat.seen d.seat.numbers ≡ d.seat.mine = ap (λ l. calls_of l d.seat.numbers) got ∙ t.begins.mine in
      let F : Known → Known = λ v. record v { seen = s.seat.seen; turns = v.turns - 1 } in record {
        seen = s.seat.seen;
        begins = subst (λ (z : Known). IsPrefix z.seen s.seat.seen) (sym here) (subst (λ l. IsPrefix d.seat.seen l) (sym got) t.begins.seen);
        known = subst (λ (z : Known). z.known ≤ length s.seat.seen) (sym here) (subst (λ (l : List Entry). d.seat.known ≤ length l) (sym got) t.begins.known);
        legal = subst (λ (z : Known). IsLegal z.opening s.seat.seen) (sym here) t.legal;
        pass = with_is F (t.seat ∙ ap (λ (m : List (List Entry)). record (d.seat) { seen = s.seat.seen; mine = m; turns = d.seat.turns - 1 }) same);
      }

  -- after a turn the pass still tells
  pub tells_on : {E : Type 0} (call : Call) (out : Result Receipt E) (count : ℕ) (own : d.seat.numbers ≡ n ∷ []) → Turns call out count → s.seen ≡ count → AllTell n ss → AllTell n (set ss k s)
  tells_on call out count own t is all = tell_set n ss k s all (ap (λ (z : Known). z.numbers) t.seat ∙ own, sym (is ∙ t.relates.1))

  -- a call came back from its turn
  pub asked : (call : Call) (out : Result Receipt OutOfMemory) (count : ℕ) (own : d.seat.numbers ≡ n ∷ []) → Turns call out count → (pool : PoolState) (pass : PassState) → P ≡ pass → IsPassOf pool pass → HasCalled pool k call pass Q out
  asked call out count own t pool pass is of = subst (λ (z : PassState). HasCalled pool k call z Q out) is (record {
    pass = still_of pool pass is (ap (λ (z : Known). z.lock) t.seat) of;
    number = refl;
    called = called call out count own t;
    refused = refused call out count own t;
  })

  -- or found the turn taken
  pub busy : (call : Call) → s.seat ≡ after_loss d.seat → (pool : PoolState) (pass : PassState) → P ≡ pass → IsPassOf pool pass → HasTried pool k call pass Q (Err Busy)
  busy call lost pool pass is of = subst (λ (z : PassState). HasTried pool k call z Q (Err Busy)) is (record {
    pass = still_of pool pass is (ap (λ (z : Known). z.lock) lost) of;
    number = refl;
    called = tt;
    refused = with_is after_loss lost;
  })

-- how much was seen, at one place
pub seen_here : (ss : List Spot) (n k : ℕ) (d : Spot) (pass : PassState) → record { number = n; parts = map part_of ss } ≡ pass → k < length pass.parts → AllTell n ss → d ≡ get_or ss k d → d.seen ≡ length (seen_at pass k)
seen_here ss n k d pass is room tells at =
    let here : k < length ss = room_map part_of ss k (subst (λ (z : PassState). k < length z.parts) (sym is) room) in
    ap (λ (z : Spot). z.seen) at ∙ (sym (tell_at n ss k d here tells).1 ∙ (ap (λ (z : Known). length z.seen) (sym (part_here ss k d here)) ∙ ap (λ (z : PassState). length (seen_at z k)) is))

-- what was asked in a turn was tried
pub tried : {pool : PoolState} {a : ℕ} {call : Call} {p q : PassState} {from : Result Receipt OutOfMemory} {out : Result Receipt TryRefusal} → SameAnswer from out → HasCalled pool a call p q from → HasTried pool a call p q out
tried {pool} {a} {call} {p} {q} {from} {out} same h = record { pass = h.pass; number = h.number; called = ok from out same h.called; refused = err from out same h.refused }
  where
    ok : (from : Result Receipt OutOfMemory) (out : Result Receipt TryRefusal) → SameAnswer from out → IfOk from (λ r. Called a call p q r) → IfOk out (λ r. Called a call p q r)
    ok (Ok r) out e h = subst (λ z. IfOk z (λ r. Called a call p q r)) (sym e) h
    ok (Err x) out e h = subst (λ z. IfOk z (λ r. Called a call p q r)) (sym e) tt

    err : (from : Result Receipt OutOfMemory) (out : Result Receipt TryRefusal) → SameAnswer from out → IfErr from (λ _. Refused a p q) → IfErr out (λ e. Declined a p q e)
    err (Ok r) out e h = subst (λ z. IfErr z (λ x. Declined a p q x)) (sym e) tt
    err (Err x) out e h = subst (λ z. IfErr z (λ y. Declined a p q y)) (sym e) h
