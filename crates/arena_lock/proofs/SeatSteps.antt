-- Seats are made, split, dealt and joined: each of these keeps the rule.
use Rattle.std.proofs.Common.{◌≡◌, ◌≢◌, ℕ, zero, suc, ◌+◌, ◌^◌, ◌<◌, ◌≤◌, eqb, ltb, max, Bool, true, false, if◌then◌else◌, List, [], ◌∷◌, ◌++◌, length, get_or, set, refl, ap, sym, ◌∙◌, subst, ⊎_elim, arith, length-set, ne_eqb, eq-eqb, ltb-false, ltb-true, Option, Some}
use Rattle.std.proofs.lemmas.Bool.{false≢true}
use Rattle.std.proofs.lemmas.List.{append-nil}
use mathlib.Core.List.{IsPrefix, map-append}
use mathlib.Core.Option.{some, some-injective, some-ne-none}
use lib.ListN.{get_elem?}
use prog.Atomic.{either}
use Rattle.atomic_table.specs.Table.{State, opening, Splits, Joins}
use Rattle.atomic_table.proofs.Lists.{set_else, set_again, at_longer, at_snoc}
use Rattle.heap_model.specs.declared.call.Entry.{Entry}
use Rattle.arena_lock.specs.declared.opening.Opening.{Opening}
use Rattle.arena_lock.specs.declared.view.SeatView.{SeatView}
use Rattle.arena_lock.specs.Journal.{longer, shorter, calls_by, Each, calls_of, numbers, only_first, all_but_first}
use Rattle.arena_lock.specs.Legality.{IsLegal}
use Rattle.arena_lock.specs.Tickets.{Owned, Knows, HasTurn, in_turn, all_turns, IsTicketed, IsIdle, first_view, spent_view}
use Rattle.arena_lock.specs.TicketSteps.{joined_view, guest_view, rest_view, dealt_view}
use Rattle.arena_lock.proofs.Entries.{calls_by-between, each_map, each_both, each_append, same_calls, each_number, above}
use Rattle.arena_lock.proofs.Prefixes.{prefix_self, prefix_shorter}
use Rattle.arena_lock.proofs.Views.{Live, not_held, seats_stay, turns_set}

-- the turns of all seats with one more
turns-append : (vs : List SeatView) (w : SeatView) → all_turns (vs ++ w ∷ []) ≡ all_turns vs + w.turns
turns-append [] w = omega arith
turns-append (v ∷ vs) w = omega (arith, turns-append vs w)

-- a map of numbers to places in which all of one place go to another
abbrev moved : (ℕ → ℕ) → ℕ → ℕ → ℕ → ℕ
moved owner other id n = either (eqb (owner n) other) id (owner n)

moved_from : (owner : ℕ → ℕ) (other id n : ℕ) → owner n ≡ other → moved owner other id n ≡ id
moved_from owner other id n e = ap (λ (b : Bool). either b id (owner n)) (eq-eqb (owner n) other e)

moved_else : (owner : ℕ → ℕ) (other id n : ℕ) → owner n ≢ other → moved owner other id n ≡ owner n
moved_else owner other id n e = ap (λ (b : Bool). either b id (owner n)) (ne_eqb (owner n) other e)

-- of two beginnings of one list: the longer one, which both of them begin, and the shorter
abbrev Ends : (xs ys zs long short : List Entry) → Type 0
Ends xs ys zs long short = IsPrefix xs long × IsPrefix ys long × IsPrefix long zs × IsPrefix short long

ends_at : (b : Bool) (xs ys zs : List Entry) → ltb (length xs) (length ys) ≡ b → IsPrefix xs zs → IsPrefix ys zs → Ends xs ys zs (if b then ys else xs) (if b then xs else ys)
ends_at true xs ys zs is p q = let l = ltb-true (length xs) (length ys) is in let a = prefix_shorter xs ys zs p q (omega (arith, l)) in (a, prefix_self ys, q, a)
ends_at false xs ys zs is p q = let l = ltb-false (length xs) (length ys) is in let a = prefix_shorter ys xs zs q p l in (prefix_self xs, a, p, a)

ends : (xs ys zs : List Entry) → IsPrefix xs zs → IsPrefix ys zs → Ends xs ys zs (longer xs ys) (shorter xs ys)
ends xs ys zs p q = ends_at (ltb (length xs) (length ys)) xs ys zs refl p q

-- what stands in a longer list is old, or the last
new_or : (l : List SeatView) (a d : SeatView) (j : ℕ) (C : Type 0) → (get_elem? l j ≡ some d → C) → (j ≡ length l → a ≡ d → C) → get_elem? (l ++ a ∷ []) j ≡ some d → C
new_or [] a d zero C old new e = new refl (some-injective a d e)
new_or [] a d (suc j) C old new e = absurd (some-ne-none d (sym e))
new_or (x ∷ xs) a d zero C old new e = old e
new_or (x ∷ xs) a d (suc j) C old new e = new_or xs a d j C old (λ h s. new (ap suc h) s) e

only_seat : (v d : SeatView) (j : ℕ) → get_elem? (v ∷ []) j ≡ some d → (j ≡ 0) × (v ≡ d)
only_seat v d zero e = (refl, some-injective _ _ e)
only_seat v d (suc j) e = absurd (some-ne-none d (sym e))

most : (a b c : ℕ) → a ≤ c → b ≤ c → max a b ≤ c
most a b c p q = omega (arith)

module _ {T : Type 0} (op : T → Opening) (jr : T → List Entry) (o : Opening) (start : List Entry) (seats : ℕ) where
  abbrev R : State (Option T) SeatView → Type 0
  R = IsTicketed op jr o start seats

  -- the seats change, and who owns which number; the log, the turns and the value stay
  seats_change : (s : State (Option T) SeatView) (r : R s) (views : List SeatView) (owner : ℕ → ℕ) → get_or s.words 0 0 + all_turns views ≤ 2 ^ 63 →
      (r.home ≡ 0 → HasTurn views (r.holder (get_or s.words 1 0)) × (get_or s.words 1 0 < get_or s.words 0 0) × ((n : ℕ) × (n < seats) × (owner n ≡ r.holder (get_or s.words 1 0)))) →
      ((j : ℕ) (v : SeatView) → get_elem? views j ≡ some v → v.live ≡ true → Knows o seats r.log (get_or s.words 0 0) (get_or s.words 1 0) r.home owner r.holder j v) → R record { words = s.words; homes = s.homes; views = views }
  seats_change s r views owner room held each_seat = record {
    log = r.log;
    owner = owner;
    holder = r.holder;
    home = r.home;
    wide = r.wide;
    order = r.order;
    room = room;
    published = r.published;
    legal = r.legal;
    since = r.since;
    home_is = r.home_is;
    free = r.free;
    held = held;
    each_seat = each_seat;
  }

  pub splits : (id : ℕ) (v : SeatView) → v.live ≡ true → Splits R id v v (guest_view v)
  splits id v live s r at = let k = r.each_seat id v at live in let room = r.room in
      subst (λ (vs : List SeatView). R record { words = s.words; homes = s.homes; views = vs ++ guest_view v ∷ [] }) (sym (set_again s.views id v at)) (seats_change s r (s.views ++ guest_view v ∷ []) r.owner (omega (arith, turns-append s.views (guest_view v)))
      (λ h. let t = r.held h in ((t.0.0, at_longer s.views (guest_view v ∷ []) (r.holder (get_or s.words 1 0)) t.0.0 t.0.1, t.0.2, t.0.3), t.1, t.2))
      (λ j d e. ⊎_elim (r.each_seat j d) (λ (t : guest_view v ≡ d). subst (λ (z : SeatView). Live op jr o start seats r.log (get_or s.words 0 0) (get_or s.words 1 0) r.home r.owner r.holder j z) t
      (λ _. record { past = record { opens = k.past.opens; seen = k.past.seen; told = (v.past.seen, refl); owned = tt; mine = refl; known = k.past.known }; stands = tt })) (at_snoc s.views (guest_view v) d j e)))

  pub starts : (x : T) → op x ≡ o → jr x ≡ start → IsLegal o start → seats ≤ 64 → R (opening (0 ∷ 0 ∷ length start ∷ []) (Some x ∷ []) (first_view o start seats))
  starts x opens is legal few = let v : SeatView = first_view o start seats in record {
    log = start;
    owner = λ _. 0;
    holder = λ _. 0;
    home = 1;
    wide = refl;
    order = omega arith;
    room = omega arith;
    published = refl;
    legal = legal;
    since = ([], append-nil start, tt);
    home_is = omega arith;
    free = λ _. (x, refl, opens, is);
    held = λ h. absurd (omega (arith, h));
    each_seat = λ j d e _. let t = only_seat v d j e in subst (λ (z : ℕ × SeatView). Knows o seats start 0 0 1 (λ _. 0) (λ _. 0) z.0 z.1) (λ i. (sym t.0 i, t.1 i))
        record { past = record { opens = refl; seen = prefix_self start; told = (start, refl); owned = each_number (Owned start start (λ _. 0) seats 0) 0 seats seats (omega arith) (λ m l. (refl, refl, l)); mine = refl; known = omega arith }; stands = tt };
  }

  pub joins : (id : ℕ) (v : SeatView) (other : ℕ) (w : SeatView) → IsIdle v → IsIdle w → Joins R id v other w (joined_view v w) spent_view
  joins id v other w idle idle' s r at apart there =
      let at' : get_elem? s.views other ≡ some w = sym (set_else s.views id other (joined_view v w) apart) ∙ there in
      let k = r.each_seat id v at idle.live in let k' = r.each_seat other w at' idle'.live in let served : ℕ = get_or s.words 1 0 in let next : ℕ = get_or s.words 0 0 in
      let owner' : ℕ → ℕ = moved r.owner other id in let p = k.past in let p' = k'.past in let e = ends v.past.seen w.past.seen r.log p.seen p'.seen in let long : List Entry = longer v.past.seen w.past.seen in let room = r.room in
      let as_v : Each (λ n. calls_by n long ≡ calls_by n v.past.seen) v.past.numbers = each_map _ (λ n. calls_by n long ≡ calls_by n v.past.seen) (λ n t. calls_by-between n v.past.seen long r.log e.0 e.2 (sym t.0) ∙ t.0) v.past.numbers p.owned in
      let as_w : Each (λ n. calls_by n long ≡ calls_by n w.past.seen) w.past.numbers = each_map _ (λ n. calls_by n long ≡ calls_by n w.past.seen) (λ n t. calls_by-between n w.past.seen long r.log e.1 e.2 (sym t.0) ∙ t.0) w.past.numbers p'.owned in
      let first = turns_set s.views id v (joined_view v w) at in let second = turns_set (set s.views id (joined_view v w)) other w spent_view there in
      seats_change s r (set (set s.views id (joined_view v w)) other spent_view) owner' (omega arith)
      (λ h. let t = r.held h in let not_w = not_held op jr o start seats s r other w at' (ap in_turn idle'.idle) h in let not_v = not_held op jr o start seats s r id v at (ap in_turn idle.idle) h in (
        (t.0.0, set_else (set s.views id (joined_view v w)) other (r.holder served) spent_view not_w ∙ (set_else s.views id (r.holder served) (joined_view v w) not_v ∙ t.0.1), t.0.2, t.0.3),
        t.1,
        (t.2.0, t.2.1, moved_else r.owner other id t.2.0 (λ is. not_w (sym t.2.2 ∙ is)) ∙ t.2.2),
      ))
      (seats_stay (Live op jr o start seats r.log next served r.home owner' r.holder) (set s.views id (joined_view v w)) other spent_view (λ l. absurd (false≢true l))
      (λ j d not there'. seats_stay (λ i z. i ≢ other → Live op jr o start seats r.log next served r.home owner' r.holder i z) s.views id (joined_view v w)
      (λ _ _. record {
        past = record {
          opens = p.opens;
          seen = e.2;
          told = e.3;
          owned = each_append (Owned r.log long owner' seats id) v.past.numbers w.past.numbers
              (each_map _ (Owned r.log long owner' seats id) (λ n t. (t.1.0 ∙ sym t.0, moved_else r.owner other id n (λ is. apart (sym is ∙ t.1.1)) ∙ t.1.1, t.1.2)) v.past.numbers (each_both _ _ v.past.numbers as_v p.owned))
              (each_map _ (Owned r.log long owner' seats id) (λ n t. (t.1.0 ∙ sym t.0, moved_from r.owner other id n t.1.1, t.1.2)) w.past.numbers (each_both _ _ w.past.numbers as_w p'.owned));
          mine = (λ i. (p.mine ∙ sym (same_calls long v.past.seen v.past.numbers as_v)) i ++ (p'.mine ∙ sym (same_calls long w.past.seen w.past.numbers as_w)) i) ∙ sym (map-append (λ n. calls_by n long) v.past.numbers w.past.numbers);
          known = most v.past.known w.past.known (length r.log) p.known p'.known;
        };
        stands = k.stands;
      })
      (λ i z ne there'' far alive. let q = r.each_seat i z there'' alive in record {
        past = record { opens = q.past.opens; seen = q.past.seen; told = q.past.told; mine = q.past.mine; known = q.past.known; owned = each_map _ (Owned r.log z.past.seen owner' seats i) (λ n t. (t.0, moved_else r.owner other id n (λ is. far (sym t.1 ∙ is)) ∙ t.1, t.2)) z.past.numbers q.past.owned };
        stands = q.stands;
      })
      j d there' not))

  -- the seat hands its first number to a new one, with its turns
  pub deals : (id : ℕ) (v : SeatView) (k n : ℕ) → IsIdle v → v.past.numbers ≡ numbers k (suc n) → 2 ^ 57 ≤ v.turns → Splits R id v (rest_view v) (dealt_view v)
  deals id v k n idle is enough s r at =
      let q = r.each_seat id v at idle.live in let served : ℕ = get_or s.words 1 0 in let next : ℕ = get_or s.words 0 0 in let place : ℕ = length s.views in
      let owner' : ℕ → ℕ = λ m. either (eqb m k) place (r.owner m) in let room = r.room in
      let hit : (m : ℕ) → m ≡ k → owner' m ≡ place = λ m e. ap (λ (b : Bool). either b place (r.owner m)) (eq-eqb m k e) in
      let miss : (m : ℕ) → m ≢ k → owner' m ≡ r.owner m = λ m e. ap (λ (b : Bool). either b place (r.owner m)) (ne_eqb m k e) in
      let p = q.past in let mine : Each (Owned r.log v.past.seen r.owner seats id) (numbers k (suc n)) = subst (Each (Owned r.log v.past.seen r.owner seats id)) is p.owned in
      let mine_is : r.owner k ≡ id = mine.0.1 in
      let tail_is : all_but_first v.past.numbers ≡ numbers (suc k) n = ap all_but_first is in
      let head_is : only_first v.past.numbers ≡ k ∷ [] = ap only_first is in
      let calls_is : all_but_first v.past.mine ≡ calls_of v.past.seen (all_but_first v.past.numbers) = ap all_but_first (p.mine ∙ ap (calls_of v.past.seen) is) ∙ sym (ap (calls_of v.past.seen) tail_is) in
      let first = turns_set s.views id v (rest_view v) at in let second = turns-append (set s.views id (rest_view v)) (dealt_view v) in seats_change s r (set s.views id (rest_view v) ++ dealt_view v ∷ []) owner' (omega arith)
      (λ h. let t = r.held h in let not_v = not_held op jr o start seats s r id v at (ap in_turn idle.idle) h in (
        (t.0.0, at_longer (set s.views id (rest_view v)) (dealt_view v ∷ []) (r.holder served) t.0.0 (set_else s.views id (r.holder served) (rest_view v) not_v ∙ t.0.1), t.0.2, t.0.3),
        t.1,
        (t.2.0, t.2.1, miss t.2.0 (λ e. not_v (sym t.2.2 ∙ (ap r.owner e ∙ mine_is))) ∙ t.2.2),
      ))
      (λ j d e. new_or (set s.views id (rest_view v)) (dealt_view v) d j (Live op jr o start seats r.log next served r.home owner' r.holder j d)
      (seats_stay (Live op jr o start seats r.log next served r.home owner' r.holder) s.views id (rest_view v)
      (λ _. record {
        past = record {
          opens = p.opens;
          seen = p.seen;
          told = p.told;
          owned = subst (Each (Owned r.log v.past.seen owner' seats id)) (sym tail_is) (each_map _ (Owned r.log v.past.seen owner' seats id) (λ m t. (t.1.0, miss m t.0 ∙ t.1.1, t.1.2)) (numbers (suc k) n) (each_both (λ m. m ≢ k) (Owned r.log v.past.seen r.owner seats id) _ (above k (suc k) n (omega arith)) mine.1));
          mine = calls_is;
          known = p.known;
        };
        stands = q.stands;
      })
      (λ i z other there alive. let x = r.each_seat i z there alive in record {
        past = record { opens = x.past.opens; seen = x.past.seen; told = x.past.told; mine = x.past.mine; known = x.past.known; owned = each_map _ (Owned r.log z.past.seen owner' seats i) (λ m t. (t.0, miss m (λ e. other (sym t.1 ∙ (ap r.owner e ∙ mine_is))) ∙ t.1, t.2)) z.past.numbers x.past.owned };
        stands = x.stands;
      })
      j d)
      (λ at_end same. subst (λ (z : SeatView). Live op jr o start seats r.log next served r.home owner' r.holder j z) same (λ _. record {
        past = record {
          opens = p.opens;
          seen = p.seen;
          told = (v.past.seen, refl);
          owned = subst (Each (Owned r.log v.past.seen owner' seats j)) (sym head_is) ((mine.0.0, hit k refl ∙ (sym (length-set s.views id (rest_view v)) ∙ sym at_end), mine.0.2), tt);
          mine = refl;
          known = omega arith;
        };
        stands = tt;
      })) e)
