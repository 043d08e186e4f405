-- The steps that draw a ticket or try to: each keeps the rule, and tells what it is to tell.
use Rattle.std.proofs.Common.{◌≡◌, ℕ, ◌+◌, ◌%◌, ◌^◌, ◌<◌, ◌≤◌, eqb, true, List, get_or, set, refl, ap, sym, ◌∙◌, subst, arith, length-set, get_or-set_same, get_or-set_other, ne_eqb, eq-eqb, Option, Some}
use mathlib.Core.Logic.{dite}
use mathlib.Core.Option.{none, some}
use native.Mathlib.Decide.{ℕ_discrete}
use lib.ListN.{get_elem?}
use prog.Atomic.{either}
use Rattle.atomic_table.specs.Table.{State, Me, step, keeps, takes, stepped, Allows}
use Rattle.atomic_table.proofs.Lists.{set_else}
use Rattle.heap_model.specs.declared.call.Entry.{Entry}
use Rattle.arena_lock.specs.declared.opening.Opening.{Opening}
use Rattle.arena_lock.specs.declared.view.Standing.TheVariants.{Looked}
use Rattle.arena_lock.specs.declared.view.SeatView.{SeatView}
use Rattle.arena_lock.specs.Journal.{owns}
use Rattle.arena_lock.specs.Tickets.{MayStand, in_turn, IsTicketed, IsIdle}
use Rattle.arena_lock.specs.TicketSteps.{drawn_view, drew, glanced_view, glanced, lost_view, begun_view, tried}
use Rattle.arena_lock.proofs.Entries.{each_owned}
use Rattle.arena_lock.proofs.Standings.{stands_more}
use Rattle.arena_lock.proofs.Views.{set_at, seats_stay, turns_set, turns_at, put, put_here, put_else, Live, not_held, unmoved, begins}

module _ {T : Type 0} (op : T → Opening) (jr : T → List Entry) (o : Opening) (start : List Entry) (seats : ℕ) where
  abbrev Holds : State (Option T) SeatView → Type 0
  Holds = IsTicketed op jr o start seats

  pub draws : (slots id : ℕ) (me : Me (Option T) SeatView) → IsIdle me.0 → 0 < me.0.turns
      → Allows Holds slots id me 0 (λ n. (n + 1) % 2 ^ 64) (drew (step slots 0 1 0 none) me)
  draws slots id me idle some_left s r _ at small =
      let v : SeatView = me.0 in let k = r.each_seat id v at idle.live in let n : ℕ = get_or s.words 0 0 in let served : ℕ = get_or s.words 1 0 in let w : SeatView = drawn_view v n in
      let sum = turns_set s.views id v w at in let mine = turns_at s.views id v at in let room = r.room in let order = r.order in let wide = r.wide in
      let up : (n + 1) % 2 ^ 64 ≡ n + 1 = omega arith in
      let ws : List ℕ = set s.words 0 ((n + 1) % 2 ^ 64) in
      let next : get_or ws 0 0 ≡ n + 1 = get_or-set_same s.words 0 _ 0 (omega arith) ∙ up in
      let same : get_or ws 1 0 ≡ served = get_or-set_other s.words 0 1 _ 0 (λ e. omega (arith, e)) in
      let same2 : get_or ws 2 0 ≡ get_or s.words 2 0 = get_or-set_other s.words 0 2 _ 0 (λ e. omega (arith, e)) in
      let holder' : ℕ → ℕ = put r.holder n id in (
        w,
        keeps,
        tt,
        record {
          log = r.log;
          owner = r.owner;
          holder = holder';
          home = r.home;
          wide = length-set s.words 0 _ ∙ wide;
          order = omega (arith, next, same);
          room = omega (arith, next, sum);
          published = same2 ∙ r.published;
          legal = r.legal;
          since = r.since;
          home_is = r.home_is;
          free = r.free;
          held = λ h. let t = r.held h in let before : served < n = t.1 in
              let there : holder' (get_or ws 1 0) ≡ r.holder served = ap holder' same ∙ put_else r.holder n id served (λ e. omega (arith, e)) in
              let not_mine = not_held op jr o start seats s r id v at (ap in_turn idle.idle) h in
              ((t.0.0, ap (get_elem? (set s.views id w)) there ∙ (set_else s.views id (r.holder served) w not_mine ∙ t.0.1), t.0.2, t.0.3), omega (arith, next, same), (t.2.0, t.2.1, t.2.2 ∙ sym there));
          each_seat = subst (λ (z : ℕ × ℕ). (j : ℕ) (d : SeatView) → get_elem? (set s.views id w) j ≡ some d → Live op jr o start seats r.log z.0 z.1 r.home r.owner holder' j d) (λ i. (sym next i, sym same i))
              (seats_stay (Live op jr o start seats r.log (n + 1) served r.home r.owner holder') s.views id w
              (λ _. record { past = k.past; stands = (order, omega arith, put_here r.holder n id n refl) })
              (λ j d other there alive. let q = r.each_seat j d there alive in record { past = q.past; stands = stands_more r.log n (n + 1) served r.home r.home r.holder holder' j d.standing (omega arith) (λ e. e) (λ t l. put_else r.holder n id t (λ e. omega (arith, e, l))) q.stands }));
        },
        (refl, omega arith),
      )

  pub looks : (slots id : ℕ) (me : Me (Option T) SeatView) → IsIdle me.0 → 0 < me.0.turns → Allows Holds slots id me 1 (λ x. x) (glanced (step slots 1 0 0 none) me)
  looks slots id me idle some_left s r _ at small =
      let v : SeatView = me.0 in let k = r.each_seat id v at idle.live in let served : ℕ = get_or s.words 1 0 in let w : SeatView = glanced_view v served in
      let mine = turns_at s.views id v at in let room = r.room in let order = r.order in (
        w,
        keeps,
        tt,
        unmoved op jr o start seats s r 1 id v w at refl (sym (ap in_turn idle.idle)) refl (λ _. record { past = k.past; stands = omega arith }),
        (refl, omega arith),
      )

  pub tries : (slots id : ℕ) (me : Me (Option T) SeatView) (n looked : ℕ) → me.0.live ≡ true → 0 < me.0.turns → me.0.standing ≡ Looked looked → owns n me.0.past.numbers ≡ true
      → Allows Holds slots id me 0 (λ x. either (eqb x looked) (looked + 1) x) (tried op jr (step slots 0 looked (looked + 1) none) me)
  tries slots id me n looked live some_left is own s r _ at small =
      let v : SeatView = me.0 in let k = r.each_seat id v at live in let next : ℕ = get_or s.words 0 0 in let served : ℕ = get_or s.words 1 0 in
      let behind : looked ≤ served = subst (MayStand r.log next served r.home r.holder id) is k.stands in let order = r.order in let wide = r.wide in let room = r.room in dite (ℕ_discrete next looked)
      (λ hit. let home : r.home ≡ 1 = dite (ℕ_discrete r.home 0) (λ z. let t = r.held z in absurd (omega (arith, t.1))) (λ nz. omega (arith, r.home_is)) in
      let h = r.free home in let x : T = h.0 in let w : SeatView = begun_view (drawn_view v looked) looked (jr x) in let sum = turns_set s.views id v w at in
      let ws : List ℕ = set s.words 0 (looked + 1) in
      let now : get_or ws 0 0 ≡ looked + 1 = get_or-set_same s.words 0 _ 0 (omega arith) in
      let same : get_or ws 1 0 ≡ served = get_or-set_other s.words 0 1 _ 0 (λ e. omega (arith, e)) in
      let same2 : get_or ws 2 0 ≡ get_or s.words 2 0 = get_or-set_other s.words 0 2 _ 0 (λ e. omega (arith, e)) in
      let holder' : ℕ → ℕ = put r.holder looked id in let mine = each_owned _ n v.past.numbers own k.past.owned in
      let here : holder' (get_or ws 1 0) ≡ id = put_here r.holder looked id (get_or ws 1 0) (omega arith) in (
        w,
        takes 0 (Some x),
        h.1,
        subst (λ b. Holds (stepped s 0 (either b (looked + 1) next) id me.1 w (takes 0 (Some x)))) (sym (eq-eqb next looked hit)) record {
          log = r.log;
          owner = r.owner;
          holder = holder';
          home = 0;
          wide = length-set s.words 0 _ ∙ wide;
          order = omega (arith, now, same);
          room = omega (arith, now, sum, turns_at s.views id v at);
          published = same2 ∙ r.published;
          legal = r.legal;
          since = r.since;
          home_is = omega arith;
          free = λ e. absurd (omega (arith, e));
          held = λ _. ((w, ap (get_elem? (set s.views id w)) here ∙ set_at s.views id w v at, live, refl), omega (arith, now, same), (n, mine.2, mine.1 ∙ sym here));
          each_seat = subst (λ (z : ℕ × ℕ). (j : ℕ) (d : SeatView) → get_elem? (set s.views id w) j ≡ some d → Live op jr o start seats r.log z.0 z.1 0 r.owner holder' j d) (λ i. (sym now i, sym same i))
              (seats_stay (Live op jr o start seats r.log (looked + 1) served 0 r.owner holder') s.views id w
              (λ _. record { past = k.past; stands = (omega arith, omega arith, put_here r.holder looked id looked refl, refl, h.3) })
              (λ j d other there alive. let q = r.each_seat j d there alive in record { past = q.past; stands = stands_more r.log next (looked + 1) served r.home 0 r.holder holder' j d.standing (omega arith) (λ _. refl) (λ t l. put_else r.holder looked id t (λ e. omega (arith, e, l, hit))) q.stands }));
        },
        (is, (λ _. (x, refl, h.2 ∙ sym k.past.opens, begins op jr o start seats s r id v x k.past h.3)), λ nohit. absurd (nohit hit)),
      ))
      (λ miss. let w : SeatView = lost_view v in (
        w,
        keeps,
        tt,
        subst (λ b. Holds (stepped s 0 (either b (looked + 1) next) id me.1 w keeps)) (sym (ne_eqb next looked miss))
            (unmoved op jr o start seats s r 0 id v w at refl (sym (ap in_turn is)) refl (λ _. record { past = k.past; stands = tt })),
        (is, (λ hit. absurd (miss hit)), λ _. refl),
      ))
