-- The views of all seats, and what the rule says where one of them changes.
use Rattle.std.proofs.Common.{◌≡◌, ◌≢◌, ℕ, zero, suc, ◌+◌, ◌≤◌, eqb, Bool, true, false, List, [], ◌∷◌, length, get_or, set, refl, ap, sym, ◌∙◌, subst, ⊎_elim, arith, ne_eqb, eq-eqb, Option}
use Rattle.std.proofs.lemmas.Bool.{false≢true}
use mathlib.Core.Logic.{dite}
use mathlib.Core.List.{IsPrefix}
use mathlib.Core.Option.{some, some-injective, some-ne-none}
use native.Mathlib.Decide.{ℕ_discrete}
use lib.ListN.{get_elem?}
use lib.Seq.{set-get_or}
use prog.Atomic.{either}
use Rattle.atomic_table.specs.Table.{State}
use Rattle.atomic_table.proofs.Lists.{at_set, set_else}
use Rattle.heap_model.specs.declared.call.Entry.{Entry}
use Rattle.arena_lock.specs.declared.opening.Opening.{Opening}
use Rattle.arena_lock.specs.declared.view.SeatView.{SeatView}
use Rattle.arena_lock.specs.Journal.{calls_by, calls_of}
use Rattle.arena_lock.specs.Legality.{IsLegal}
use Rattle.arena_lock.specs.Tickets.{HasLearnt, Knows, in_turn, all_turns, IsTicketed}
use Rattle.arena_lock.specs.TicketSteps.{Begins}
use Rattle.arena_lock.proofs.Entries.{each_map, same_calls}

pub set_at : {A : Type 0} (l : List A) (i : ℕ) (a b : A) → get_elem? l i ≡ some b → get_elem? (set l i a) i ≡ some a
set_at [] i a b e = absurd (some-ne-none b (sym e))
set_at (x ∷ xs) zero a b e = refl
set_at (x ∷ xs) (suc i) a b e = set_at xs i a b e

-- what holds of the new view in its place and of the others in theirs holds of each view
pub seats_stay : (K : ℕ → SeatView → Type 0) (vs : List SeatView) (me : ℕ) (w : SeatView) → K me w → ((j : ℕ) (d : SeatView) → j ≢ me → get_elem? vs j ≡ some d → K j d)
    → (j : ℕ) (d : SeatView) → get_elem? (set vs me w) j ≡ some d → K j d
seats_stay K vs me w mine others j d e = ⊎_elim (λ (t : (j ≡ me) × (w ≡ d)). subst (λ (x : ℕ × SeatView). K x.0 x.1) (λ i. (sym t.0 i, t.1 i)) mine)
    (λ (t : (j ≢ me) × (get_elem? vs j ≡ some d)). others j d t.0 t.1) (at_set vs me j w d e)

-- the turns that are left to all, with one view changed
pub turns_set : (vs : List SeatView) (i : ℕ) (v w : SeatView) → get_elem? vs i ≡ some v → all_turns (set vs i w) + v.turns ≡ all_turns vs + w.turns
turns_set [] i v w e = absurd (some-ne-none v (sym e))
turns_set (x ∷ xs) zero v w e = omega (arith, ap (λ (z : SeatView). z.turns) (some-injective _ _ e))
turns_set (x ∷ xs) (suc i) v w e = omega (arith, turns_set xs i v w e)

pub turns_at : (vs : List SeatView) (i : ℕ) (v : SeatView) → get_elem? vs i ≡ some v → v.turns ≤ all_turns vs
turns_at [] i v e = absurd (some-ne-none v (sym e))
turns_at (x ∷ xs) zero v e = omega (arith, ap (λ (z : SeatView). z.turns) (some-injective _ _ e))
turns_at (x ∷ xs) (suc i) v e = omega (arith, turns_at xs i v e)

-- a map of numbers to places with one number put elsewhere
abbrev pub put : (ℕ → ℕ) → ℕ → ℕ → ℕ → ℕ
put f at to n = either (eqb n at) to (f n)

pub put_here : (f : ℕ → ℕ) (at to n : ℕ) → n ≡ at → put f at to n ≡ to
put_here f at to n e = ap (λ (b : Bool). either b to (f n)) (eq-eqb n at e)

pub put_else : (f : ℕ → ℕ) (at to n : ℕ) → n ≢ at → put f at to n ≡ f n
put_else f at to n e = ap (λ (b : Bool). either b to (f n)) (ne_eqb n at e)

module _ {T : Type 0} (op : T → Opening) (jr : T → List Entry) (o : Opening) (start : List Entry) (seats : ℕ) where
  abbrev pub St : Type 0
  St = State (Option T) SeatView

  abbrev pub Rule : St → Type 0
  Rule = IsTicketed op jr o start seats

  abbrev pub next_of : St → ℕ
  next_of s = get_or s.words 0 0

  abbrev pub served_of : St → ℕ
  served_of s = get_or s.words 1 0

  -- what is true of the view in place j, if it is live, where the words, the holders and the place of the value are so
  abbrev pub Live : List Entry → ℕ → ℕ → ℕ → (ℕ → ℕ) → (ℕ → ℕ) → ℕ → SeatView → Type 0
  Live log next served home owner holder j v = v.live ≡ true → Knows o seats log next served home owner holder j v

  -- a seat without the turn is not the one that holds the ticket served while the value is out
  pub not_held : (s : St) (r : Rule s) (id : ℕ) (v : SeatView) → get_elem? s.views id ≡ some v → in_turn v.standing ≡ false → r.home ≡ 0 → r.holder (served_of s) ≢ id
  not_held s r id v at idle out = λ e. let t = (r.held out).0 in
      false≢true (sym idle ∙ (ap (λ (z : SeatView). in_turn z.standing) (some-injective _ _ (sym at ∙ (ap (get_elem? s.views) (sym e) ∙ t.1))) ∙ t.3))

  -- a load that changes one view, and neither whether it is live or has the turn nor its turns
  pub unmoved : (s : St) (r : Rule s) (i me : ℕ) (v w : SeatView) → get_elem? s.views me ≡ some v → w.live ≡ v.live → in_turn w.standing ≡ in_turn v.standing → w.turns ≡ v.turns
      → Live r.log (next_of s) (served_of s) r.home r.owner r.holder me w
      → Rule record { words = set s.words i (get_or s.words i 0); homes = s.homes; views = set s.views me w }
  unmoved s r i me v w at live turn turns knows =
      let sum = turns_set s.views me v w at in let room = r.room in let served : ℕ = served_of s in
      subst (λ (ws : List ℕ). Rule record { words = ws; homes = s.homes; views = set s.views me w }) (sym (set-get_or s.words i 0)) record {
        log = r.log;
        owner = r.owner;
        holder = r.holder;
        home = r.home;
        wide = r.wide;
        order = r.order;
        room = omega (arith, sum, turns);
        published = r.published;
        legal = r.legal;
        since = r.since;
        home_is = r.home_is;
        free = r.free;
        held = λ h. let t = r.held h in (
          dite (ℕ_discrete (r.holder served) me)
              (λ is. let same : t.0.0 ≡ v = some-injective _ _ (sym t.0.1 ∙ (ap (get_elem? s.views) is ∙ at)) in
              (w, ap (get_elem? (set s.views me w)) is ∙ set_at s.views me w v at, live ∙ (ap (λ (z : SeatView). z.live) (sym same) ∙ t.0.2), turn ∙ (ap (λ (z : SeatView). in_turn z.standing) (sym same) ∙ t.0.3)))
              (λ not. (t.0.0, set_else s.views me (r.holder served) w not ∙ t.0.1, t.0.2, t.0.3)),
          t.1,
          t.2,
        );
        each_seat = seats_stay (Live r.log (next_of s) served r.home r.owner r.holder) s.views me w knows (λ j d _. r.each_seat j d);
      }

  -- what a turn of the seat begins on
  pub begins : (s : St) (r : Rule s) (id : ℕ) (v : SeatView) (x : T) → HasLearnt o seats r.log r.owner id v.past → jr x ≡ r.log → Begins v.past (jr x)
  begins s r id v x k e = record {
    seen = subst (IsPrefix v.past.seen) (sym e) k.seen;
    mine = ap (λ (l : List Entry). calls_of l v.past.numbers) e ∙ (same_calls r.log v.past.seen v.past.numbers (each_map _ (λ n. calls_by n r.log ≡ calls_by n v.past.seen) (λ n t. t.0) v.past.numbers k.owned) ∙ sym k.mine);
    known = subst (λ (l : List Entry). v.past.known ≤ length l) (sym e) k.known;
    legal = subst (λ (z : Opening × List Entry). IsLegal z.0 z.1) (λ i. (sym k.opens i, sym e i)) r.legal;
  }
