-- The steps by which a turn begins and ends: each keeps the rule, and tells what it is to tell.
use Rattle.std.proofs.Common.{◌≡◌, ℕ, ◌+◌, ◌<◌, ◌≤◌, true, List, [], ◌∷◌, length, get_or, set, refl, ap, sym, ◌∙◌, subst, arith, length-set, get_or-set_same, get_or-set_other, Option, Some, None}
use mathlib.Core.Logic.{dite}
use mathlib.Core.List.{IsPrefix}
use mathlib.Core.Option.{none, some}
use native.Mathlib.Decide.{ℕ_discrete}
use lib.ListN.{get_elem?}
use lib.Seq.{set-get_or}
use Rattle.atomic_table.specs.Table.{State, Me, step, keeps, takes, gives, put_back, rest, Allows}
use Rattle.atomic_table.proofs.Lists.{set_again, set_here}
use Rattle.heap_model.specs.declared.call.Entry.{Entry}
use Rattle.arena_lock.specs.declared.opening.Opening.{Opening}
use Rattle.arena_lock.specs.declared.view.Standing.TheVariants.{Waits, InTurn}
use Rattle.arena_lock.specs.declared.view.SeatView.{SeatView}
use Rattle.arena_lock.specs.Journal.{Grows, owns}
use Rattle.arena_lock.specs.Legality.{IsLegal}
use Rattle.arena_lock.specs.Tickets.{Owned, MayStand, in_turn, IsTicketed}
use Rattle.arena_lock.specs.TicketSteps.{ticket_of, begun_view, waited, published_view, published, passed_view, passed_on}
use Rattle.arena_lock.proofs.Entries.{each_map, each_owned, grown, others_calls, since_grows}
use Rattle.arena_lock.proofs.Prefixes.{prefix_self, prefix_trans, prefix_length}
use Rattle.arena_lock.proofs.Standings.{stands_more, stands_beside, stands_passed}
use Rattle.arena_lock.proofs.Views.{set_at, seats_stay, turns_set, Live, not_held, begins}

-- the value in hand
abbrev pub held_or : {T : Type 0} → T → List (ℕ × Option T) → T
held_or d [] = d
held_or d ((k, Some y) ∷ xs) = y
held_or d ((k, None) ∷ xs) = d

pub held_value : {T : Type 0} (x y : T) (l : List (ℕ × Option T)) → (0, Some x) ∷ [] ≡ (0, Some y) ∷ l → x ≡ y
held_value x y l e = ap (held_or x) e

module _ {T : Type 0} (op : T → Opening) (jr : T → List Entry) (o : Opening) (start : List Entry) (seats : ℕ) where
  abbrev Holds : State (Option T) SeatView → Type 0
  Holds = IsTicketed op jr o start seats

  pub waits : (slots id : ℕ) (me : Me (Option T) SeatView) (n ticket : ℕ) → me.0.live ≡ true → me.0.standing ≡ Waits ticket → owns n me.0.past.numbers ≡ true
      → Allows Holds slots id me 1 (λ x. x) (waited op jr (step slots 1 0 0 none) me)
  waits slots id me n ticket live is own s r _ at small =
      let v : SeatView = me.0 in let k = r.each_seat id v at live in let served : ℕ = get_or s.words 1 0 in let next : ℕ = get_or s.words 0 0 in
      let mine : (served ≤ ticket) × (ticket < next) × (r.holder ticket ≡ id) = subst (MayStand r.log next served r.home r.holder id) is k.stands in
      let hand : ticket_of v.standing ≡ ticket = ap ticket_of is in dite (ℕ_discrete served ticket)
      (λ hit. let here : r.holder served ≡ id = ap r.holder hit ∙ mine.2 in
      let home : r.home ≡ 1 = dite (ℕ_discrete r.home 0) (λ z. absurd (not_held op jr o start seats s r id v at (ap in_turn is) z here)) (λ nz. omega (arith, r.home_is)) in
      let h = r.free home in let x : T = h.0 in let w : SeatView = begun_view v served (jr x) in let owned = each_owned _ n v.past.numbers own k.past.owned in (
        w,
        takes 0 (Some x),
        h.1,
        subst (λ (ws : List ℕ). Holds record { words = ws; homes = set s.homes 0 none; views = set s.views id w }) (sym (set-get_or s.words 1 0)) record {
          log = r.log;
          owner = r.owner;
          holder = r.holder;
          home = 0;
          wide = r.wide;
          order = r.order;
          room = omega (arith, turns_set s.views id v w at, r.room);
          published = r.published;
          legal = r.legal;
          since = r.since;
          home_is = omega arith;
          free = λ e. absurd (omega (arith, e));
          held = λ _. ((w, ap (get_elem? (set s.views id w)) here ∙ set_at s.views id w v at, live, refl), omega (arith, mine.1), (n, owned.2, owned.1 ∙ sym here));
          each_seat = seats_stay (Live op jr o start seats r.log next served 0 r.owner r.holder) s.views id w
              (λ _. record { past = k.past; stands = (refl, omega (arith, mine.1), here, refl, h.3) })
              (λ j d other there alive. let q = r.each_seat j d there alive in record { past = q.past; stands = stands_more r.log next next served r.home 0 r.holder r.holder j d.standing (omega arith) (λ _. refl) (λ t l. refl) q.stands });
        },
        ((λ _. (x, refl, h.2 ∙ sym k.past.opens, begins op jr o start seats s r id v x k.past h.3)), λ nohit. absurd (nohit (hit ∙ sym hand))),
      ))
      (λ miss. (
        v,
        keeps,
        tt,
        subst (λ (z : List ℕ × List SeatView). Holds record { words = z.0; homes = s.homes; views = z.1 }) (λ i. (sym (set-get_or s.words 1 0) i, sym (set_again s.views id v at) i)) r,
        ((λ hit. absurd (miss (hit ∙ hand))), λ _. refl),
      ))

  -- the length of the journal that the value has now is published
  pub publishes : (slots id : ℕ) (me : Me (Option T) SeatView) (n new ticket : ℕ) (base : List Entry) (x : T) → me.1 ≡ (0, Some x) ∷ [] → me.0.live ≡ true → me.0.standing ≡ InTurn ticket base → owns n me.0.past.numbers ≡ true → Grows n base (jr x) → new ≡ length (jr x) → IsLegal me.0.past.opening (jr x)
      → Allows Holds slots id me 2 (λ _. new) (λ _. published op jr (step slots 2 new 0 none) me new)
  publishes slots id me n new ticket base x is live stands own grows is_new legal s r deep at _ =
      let v : SeatView = me.0 in let k = r.each_seat id v at live in let log : List Entry = jr x in let wide = r.wide in
      let served : ℕ = get_or s.words 1 0 in let next : ℕ = get_or s.words 0 0 in let hand : ℕ = ticket_of v.standing in let w : SeatView = published_view v hand log in
      let t : (ticket ≡ served) × (ticket < next) × (r.holder ticket ≡ id) × (r.home ≡ 0) × (base ≡ r.log) = subst (MayStand r.log next served r.home r.holder id) stands k.stands in
      let hand_is : hand ≡ ticket = ap ticket_of stands in
      let here : r.holder served ≡ id = ap r.holder (sym t.0) ∙ t.2 in
      let grows' : Grows n r.log log = subst (λ l. Grows n l log) t.4 grows in let more : IsPrefix r.log log = grown n r.log log grows' in
      let owned = each_owned _ n v.past.numbers own k.past.owned in
      let w0 : get_or (set s.words 2 new) 0 0 ≡ next = get_or-set_other s.words 2 0 new 0 (λ e. omega (arith, e)) in
      let w1 : get_or (set s.words 2 new) 1 0 ≡ served = get_or-set_other s.words 2 1 new 0 (λ e. omega (arith, e)) in
      let w2 : get_or (set s.words 2 new) 2 0 ≡ new = get_or-set_same s.words 2 new 0 (omega arith) in
      let longer : length r.log ≤ length log = prefix_length r.log log more in (
        w,
        keeps,
        tt,
        record {
          log = log;
          owner = r.owner;
          holder = r.holder;
          home = r.home;
          wide = length-set s.words 2 new ∙ wide;
          order = omega (arith, w0, w1, r.order);
          room = omega (arith, w0, turns_set s.views id v w at, r.room);
          published = w2 ∙ is_new;
          legal = subst (λ z. IsLegal z log) k.past.opens legal;
          since = since_grows n seats start r.log log grows' owned.2 r.since;
          home_is = r.home_is;
          free = λ e. absurd (omega (arith, e, t.3));
          held = λ _. ((w, ap (get_elem? (set s.views id w)) (ap r.holder w1 ∙ here) ∙ set_at s.views id w v at, live, refl), omega (arith, w0, w1, t.0, t.1), (n, owned.2, owned.1 ∙ sym (ap r.holder w1 ∙ here)));
          each_seat = subst (λ (z : ℕ × ℕ). (j : ℕ) (d : SeatView) → get_elem? (set s.views id w) j ≡ some d → Live op jr o start seats log z.0 z.1 r.home r.owner r.holder j d) (λ i. (sym w0 i, sym w1 i))
              (seats_stay (Live op jr o start seats log next served r.home r.owner r.holder) s.views id w
              (λ _. record {
                past = record {
                  opens = k.past.opens;
                  seen = prefix_self log;
                  told = prefix_trans v.past.told v.past.seen log k.past.told (prefix_trans v.past.seen r.log log k.past.seen more);
                  owned = each_map _ (Owned log log r.owner seats id) (λ m p. (refl, p.1, p.2)) v.past.numbers k.past.owned;
                  mine = refl;
                  known = omega (arith, k.past.known, longer);
                };
                stands = (hand_is ∙ t.0, omega (arith, hand_is, t.1), ap r.holder hand_is ∙ t.2, t.3, refl);
              })
              (λ j d other there alive. let q = r.each_seat j d there alive in record {
                past = record {
                  opens = q.past.opens;
                  seen = prefix_trans d.past.seen r.log log q.past.seen more;
                  told = q.past.told;
                  owned = each_map _ (Owned log d.past.seen r.owner seats j) (λ m p. (others_calls n m r.log log (λ e. other (sym p.1 ∙ (ap r.owner e ∙ owned.1))) grows' ∙ p.0, p.1, p.2)) d.past.numbers q.past.owned;
                  mine = q.past.mine;
                  known = omega (arith, q.past.known, longer);
                };
                stands = stands_beside r.log log next served r.home r.holder j d.standing (λ e. other (sym e ∙ here)) q.stands;
              }));
        },
        λ y is'. let same : x ≡ y = ap (held_or x) (sym is ∙ is') in λ i. (published_view v hand (jr (same i)), me.1),
      )

  -- the next ticket is served, and the value is back in its slot
  pub passes : (slots id : ℕ) (me : Me (Option T) SeatView) (new ticket : ℕ) (x : T) → slots ≡ 1 → me.1 ≡ (0, Some x) ∷ [] → me.0.live ≡ true → me.0.standing ≡ InTurn ticket (jr x) → new ≡ ticket + 1 → op x ≡ me.0.past.opening
      → Allows Holds slots id me 1 (λ _. new) (λ _. passed_on (step slots 1 new 0 none) me new)
  passes slots id me new ticket x one is live stands is_new opens s r deep at _ =
      let v : SeatView = me.0 in let k = r.each_seat id v at live in let w : SeatView = passed_view v in let wide = r.wide in
      let served : ℕ = get_or s.words 1 0 in let next : ℕ = get_or s.words 0 0 in
      let t : (ticket ≡ served) × (ticket < next) × (r.holder ticket ≡ id) × (r.home ≡ 0) × (jr x ≡ r.log) = subst (MayStand r.log next served r.home r.holder id) stands k.stands in
      let here : r.holder served ≡ id = ap r.holder (sym t.0) ∙ t.2 in
      let w0 : get_or (set s.words 1 new) 0 0 ≡ next = get_or-set_other s.words 1 0 new 0 (λ e. omega (arith, e)) in
      let w1 : get_or (set s.words 1 new) 1 0 ≡ served + 1 = get_or-set_same s.words 1 new 0 (omega arith) ∙ (is_new ∙ ap (λ z. z + 1) t.0) in
      let w2 : get_or (set s.words 1 new) 2 0 ≡ get_or s.words 2 0 = get_or-set_other s.words 1 2 new 0 (λ e. omega (arith, e)) in (
        w,
        gives,
        tt,
        record {
          log = r.log;
          owner = r.owner;
          holder = r.holder;
          home = 1;
          wide = length-set s.words 1 new ∙ wide;
          order = omega (arith, w0, w1, t.0, t.1);
          room = omega (arith, w0, turns_set s.views id v w at, r.room);
          published = w2 ∙ r.published;
          legal = r.legal;
          since = r.since;
          home_is = omega arith;
          free = λ _. (x, ap (λ l. get_elem? (put_back s.homes l) 0) is ∙ set_here s.homes 0 (some (Some x)) (omega (arith, deep, one)), opens ∙ k.past.opens, t.4);
          held = λ e. absurd (omega (arith, e));
          each_seat = subst (λ (z : ℕ × ℕ). (j : ℕ) (d : SeatView) → get_elem? (set s.views id w) j ≡ some d → Live op jr o start seats r.log z.0 z.1 1 r.owner r.holder j d) (λ i. (sym w0 i, sym w1 i))
              (seats_stay (Live op jr o start seats r.log next (served + 1) 1 r.owner r.holder) s.views id w
              (λ _. record { past = k.past; stands = tt })
              (λ j d other there alive. let q = r.each_seat j d there alive in record { past = q.past; stands = stands_passed r.log next served r.home r.holder j d.standing (λ e. other (sym e ∙ here)) q.stands }));
        },
        λ i. (w, rest (is i)),
      )
