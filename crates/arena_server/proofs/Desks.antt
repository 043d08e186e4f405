-- The arenas at the end, each with its owner.
use Rattle.std.proofs.Common.{Option, ◌≡◌, ◌≢◌, ℕ, suc, ◌+◌, ◌<◌, ◌≤◌, ◌==◌, ◌||◌, Bool, true, false, if◌then◌else◌, List, [], ◌∷◌, map, length, refl, ap, sym, ◌∙◌, subst, arith, eqb-true, eq-eqb}
use Rattle.arena_server.proofs.Common.{false≢true, Entry, Opening, PassState, part_at, seen_at, mine_at, is_in, HasAll, AllAgree, IsClosed, AllClosed, ArenaState}
use mathlib.Core.Logic.{dite}
use mathlib.Core.List.{IsPrefix}
use native.Mathlib.Decide.{ℕ_discrete}
use Rattle.arena_lock.specs.Journal.{calls_by}
use Rattle.heap_model.specs.Journal.{AllBelow}
use Rattle.arena_server.specs.declared.request.Request.{Request}
use Rattle.arena_server.specs.declared.owner.Till.{Till}
use Rattle.arena_server.specs.Senders.{SenderState}
use Rattle.arena_server.specs.Owners.{asked, made, till_list, owner_of, IsOwner}
use Rattle.arena_server.specs.Closed.{Desk, AllBear, IsDesk, owner_at, AllDesks}
use Rattle.arena_server.specs.Emptied.{owners_of, AllOwners, list_at, held_at, IsEmptied, AllEmptied}

-- the journal of an arena has its owner's calls alone

-- each pass made calls of the arena of its number alone
abbrev AllAtHome : List PassState → Type 0
AllAtHome [] = Unit {0}
AllAtHome (p ∷ ps) = ((a : ℕ) → a ≢ p.number → mine_at p a ≡ []) × AllAtHome ps

all_at_home : (ps : List PassState) (ts : List Till) → AllOwners ps ts → AllAtHome ps
all_at_home [] ts h = tt
all_at_home (p ∷ ps) [] h = absurd h
all_at_home (p ∷ ps) (t ∷ ts) h = (h.0.calls.elsewhere, all_at_home ps ts h.1)

none_here : (a b : ℕ) (p : PassState) (j : List Entry) (more is : Bool) → (p.number == b) ≡ is → is || more ≡ true → b ≢ a → ((c : ℕ) → c ≢ p.number → mine_at p c ≡ []) → calls_by p.number j ≡ mine_at p a → (more ≡ true → calls_by b j ≡ []) → calls_by b j ≡ []
none_here a b p j more true e h ne home own rest = let here : p.number ≡ b = eqb-true p.number b e in subst (λ n. calls_by n j ≡ []) here (own ∙ home a (λ s. ne (sym (s ∙ here))))
none_here a b p j more false e h ne home own rest = rest h

none_of : (a b : ℕ) (ps : List PassState) (j : List Entry) → b ≢ a → is_in b (map (λ p. p.number) ps) ≡ true → AllAtHome ps → AllAgree a ps j → calls_by b j ≡ []
none_of a b [] j ne h home agree = absurd (false≢true h)
none_of a b (p ∷ ps) j ne h home agree = none_here a b p j (is_in b (map (λ p. p.number) ps)) (p.number == b) refl h ne home.0 agree.0.1 (λ k. none_of a b ps j ne k home.1 agree.1)

none_left : (e : Entry) (b : Bool) (es : List Entry) → (if b then e ∷ es else es) ≡ [] → es ≡ []
none_left e true es h = absurd (cc h)
none_left e false es h = h

all_bear : (n a : ℕ) (j : List Entry) → AllBelow n j → ((b : ℕ) → b < n → b ≢ a → calls_by b j ≡ []) → AllBear a j
all_bear n a [] below none = tt
all_bear n a (e ∷ es) below none = (
  dite (ℕ_discrete e.seat a) (λ is. is)
      (λ other. let one : e ∷ calls_by e.seat es ≡ [] = sym (ap (λ (t : Bool). if t then e ∷ calls_by e.seat es else calls_by e.seat es) (eq-eqb e.seat e.seat refl)) ∙ none e.seat below.0 other in absurd (cc one)),
  all_bear n a es below.1 (λ b l ne. none_left e (e.seat == b) (calls_by b es) (none b l ne)),
)

calls_all : (a : ℕ) (j : List Entry) → AllBear a j → calls_by a j ≡ j
calls_all a [] h = refl
calls_all a (e ∷ es) h = ap (λ (t : Bool). if t then e ∷ calls_by a es else calls_by a es) (eq-eqb e.seat a h.0) ∙ ap (λ l. e ∷ l) (calls_all a es h.1)

-- one arena

desk_of : (seats a : ℕ) (all : List PassState) (ss : List SenderState) (p : PassState) (t : Till) (o : Opening) (d : Desk) → HasAll seats (map (λ p. p.number) all) → AllAtHome all → IsOwner p t → p.number ≡ a → IsPrefix (seen_at p a) d.journal × (calls_by p.number d.journal ≡ mine_at p a) × ((part_at p a).known ≤ length d.journal)
    → IsEmptied a ss (till_list t) t.held d.left → IsClosed seats a all o (d.journal, d.arena) → IsDesk a ss (owner_of p t) o d
desk_of seats a all ss p t o d has home owner here agree emptied closed =
    let bears : AllBear a d.journal = all_bear seats a d.journal closed.below (λ b l ne. none_of a b all d.journal ne (has b l) home closed.agree) in
    let own : d.journal ≡ mine_at p p.number = sym (calls_all a d.journal bears) ∙ (ap (λ n. calls_by n d.journal) (sym here) ∙ (agree.1 ∙ ap (mine_at p) (sym here))) in record {
      requests = emptied.requests;
      held = emptied.first;
      served = subst (λ (j : List Entry). IsPrefix (made j) (asked (till_list t))) (sym own) owner.calls.own;
      all_served = λ none. ap made own ∙ owner.calls.all none;
      bears = bears;
      seen = agree.0;
      own = own ∙ ap (mine_at p) here;
      known = agree.2;
      leads = closed.held;
    }

-- the owner of an arena, in its parts

record Found (a : ℕ) (ps : List PassState) (ts : List Till) (j : List Entry) : Type 0 where
  pub pass : PassState
  pub till : Till
  pub owner : IsOwner pass till
  pub number : pass.number ≡ a
  pub is : owner_at (owners_of ps ts) a ≡ owner_of pass till
  pub list : list_at ts a ≡ till_list till
  pub held : held_at ts a ≡ till.held
  pub agree : IsPrefix (seen_at pass a) j × (calls_by pass.number j ≡ mine_at pass a) × ((part_at pass a).known ≤ length j)

found_by : (a : ℕ) (p : PassState) (ps : List PassState) (t : Till) (ts : List Till) (j : List Entry) (b : Bool) → (p.number == a) ≡ b → b || is_in a (map (λ p. p.number) ps) ≡ true → IsOwner p t → IsPrefix (seen_at p a) j × (calls_by p.number j ≡ mine_at p a) × ((part_at p a).known ≤ length j)
    → (is_in a (map (λ p. p.number) ps) ≡ true → Found a ps ts j) → Found a (p ∷ ps) (t ∷ ts) j
found_by a p ps t ts j true e has h agree later =
    let there : (t.arena == a) ≡ true = ap (λ n. n == a) h.arena ∙ e in record {
      pass = p;
      till = t;
      owner = h;
      number = eqb-true p.number a e;
      is = ap (λ (b : Bool). if b then owner_of p t else owner_at (owners_of ps ts) a) e;
      list = ap (λ (b : Bool). if b then till_list t else list_at ts a) there;
      held = ap (λ (b : Bool). if b then t.held else held_at ts a) there;
      agree = agree;
    }
found_by a p ps t ts j false e has h agree later =
    let r = later has in
    let away : (t.arena == a) ≡ false = ap (λ n. n == a) h.arena ∙ e in record {
      pass = r.pass;
      till = r.till;
      owner = r.owner;
      number = r.number;
      is = ap (λ (b : Bool). if b then owner_of p t else owner_at (owners_of ps ts) a) e ∙ r.is;
      list = ap (λ (b : Bool). if b then till_list t else list_at ts a) away ∙ r.list;
      held = ap (λ (b : Bool). if b then t.held else held_at ts a) away ∙ r.held;
      agree = r.agree;
    }

found : (a : ℕ) (ps : List PassState) (ts : List Till) (j : List Entry) → is_in a (map (λ p. p.number) ps) ≡ true → AllOwners ps ts → AllAgree a ps j → Found a ps ts j
found a [] ts j has h agree = absurd (false≢true has)
found a (p ∷ ps) [] j has h agree = absurd h
found a (p ∷ ps) (t ∷ ts) j has h agree = found_by a p ps t ts j (p.number == a) refl has h.0 agree.0 (λ more. found a ps ts j more h.1 agree.1)

-- all of them

desks_from : (seats a : ℕ) (ps : List PassState) (ts : List Till) (ss : List SenderState) (os : List Opening) (ds : List Desk) → HasAll seats (map (λ p. p.number) ps) → AllAtHome ps → AllOwners ps ts → a + length os ≡ seats
    → AllEmptied a ss ts (map (λ (d : Desk). d.left) ds) → AllClosed seats a ps os (map (λ (d : Desk). (d.journal, d.arena)) ds) → AllDesks a ss (owners_of ps ts) os ds
desks_from seats a ps ts ss [] [] has home owners many emptied closed = tt
desks_from seats a ps ts ss [] (d ∷ ds) has home owners many emptied closed = absurd closed
desks_from seats a ps ts ss (o ∷ os) [] has home owners many emptied closed = absurd closed
desks_from seats a ps ts ss (o ∷ os) (d ∷ ds) has home owners many emptied closed =
    let f = found a ps ts d.journal (has a (omega (arith, many))) owners closed.0.agree in
    let empty : IsEmptied a ss (till_list f.till) f.till.held d.left = subst (λ (z : List Request × Option Request). IsEmptied a ss z.0 z.1 d.left) (λ i. (f.list i, f.held i)) emptied.0 in (
      subst (λ z. IsDesk a ss z o d) (sym f.is) (desk_of seats a ps ss f.pass f.till o d has home f.owner f.number f.agree empty closed.0),
      desks_from seats (suc a) ps ts ss os ds has home owners (omega (arith, many)) emptied.1 closed.1,
    )

pub all_desks : (seats : ℕ) (ps : List PassState) (ts : List Till) (ss : List SenderState) (os : List Opening) (ds : List Desk) → HasAll seats (map (λ p. p.number) ps) → AllOwners ps ts → length os ≡ seats
    → AllEmptied 0 ss ts (map (λ (d : Desk). d.left) ds) → AllClosed seats 0 ps os (map (λ (d : Desk). (d.journal, d.arena)) ds) → AllDesks 0 ss (owners_of ps ts) os ds
all_desks seats ps ts ss os ds has owners many emptied closed = desks_from seats 0 ps ts ss os ds has (all_at_home ps ts owners) owners (omega (arith, many)) emptied closed

-- lists

pub map_both : {A B C : Type 0} (xs : List A) (g : A → B) (f : B → C) → map f (map g xs) ≡ map (λ x. f (g x)) xs
map_both [] g f = refl
map_both (x ∷ xs) g f = ap (λ ys. f (g x) ∷ ys) (map_both xs g f)

pub closed_length : (seats a : ℕ) (ps : List PassState) (os : List Opening) (cs : List (List Entry × ArenaState)) → AllClosed seats a ps os cs → length cs ≡ length os
closed_length seats a ps [] [] h = refl
closed_length seats a ps [] (c ∷ cs) h = absurd h
closed_length seats a ps (o ∷ os) [] h = absurd h
closed_length seats a ps (o ∷ os) (c ∷ cs) h = ap suc (closed_length seats (suc a) ps os cs h.1)
