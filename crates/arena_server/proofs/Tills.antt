-- The one that serves an arena, taken out of those that are left.
use Rattle.std.proofs.Common.{◌≡◌, ◌≢◌, ℕ, suc, ◌==◌, ◌||◌, Bool, true, false, if◌then◌else◌, List, [], ◌∷◌, get_or, remove, refl, ap, sym, ◌∙◌, subst, eqb-true, ne_eqb}
use Rattle.arena_server.proofs.Common.{false≢true, TableId, is_in}
use Rattle.arena_server.specs.declared.owner.Till.{Till}
use Rattle.arena_server.specs.Owners.{till_list}
use Rattle.arena_server.specs.Emptied.{arenas_of, place_of, list_at, held_at, TakesThere, AllTakeThere}

-- with it taken out, the others are found as before
pub record TakenOut (queues : List TableId) (n a : ℕ) (ts rest : List Till) (t : Till) : Type 0 where
  pub there : TakesThere queues n t
  pub arena : t.arena ≡ a
  pub list : list_at ts a ≡ till_list t
  pub held : held_at ts a ≡ t.held
  pub rest_there : AllTakeThere queues n rest
  pub others : (k : ℕ) → k ≢ a → (list_at rest k ≡ list_at ts k) × (held_at rest k ≡ held_at ts k) × (is_in k (arenas_of rest) ≡ is_in k (arenas_of ts))

first_out : (queues : List TableId) (n a : ℕ) (x : Till) (xs : List Till) → (x.arena == a) ≡ true → AllTakeThere queues n (x ∷ xs) → TakenOut queues n a (x ∷ xs) xs x
first_out queues n a x xs e all =
    let here : x.arena ≡ a = eqb-true x.arena a e in
    let away : (k : ℕ) → k ≢ a → (x.arena == k) ≡ false = λ k ne. ne_eqb x.arena k (λ s. ne (sym s ∙ here)) in record {
      there = all.0;
      arena = here;
      list = ap (λ (b : Bool). if b then till_list x else list_at xs a) e;
      held = ap (λ (b : Bool). if b then x.held else held_at xs a) e;
      rest_there = all.1;
      others = λ k ne. (
        sym (ap (λ (b : Bool). if b then till_list x else list_at xs k) (away k ne)),
        sym (ap (λ (b : Bool). if b then x.held else held_at xs k) (away k ne)),
        sym (ap (λ (b : Bool). b || is_in k (arenas_of xs)) (away k ne)),
      );
    }

next_out : (queues : List TableId) (n a : ℕ) (x : Till) (xs rest : List Till) (t : Till) → (x.arena == a) ≡ false → TakesThere queues n x → TakenOut queues n a xs rest t → TakenOut queues n a (x ∷ xs) (x ∷ rest) t
next_out queues n a x xs rest t e first h = record {
  there = h.there;
  arena = h.arena;
  list = ap (λ (b : Bool). if b then till_list x else list_at xs a) e ∙ h.list;
  held = ap (λ (b : Bool). if b then x.held else held_at xs a) e ∙ h.held;
  rest_there = (first, h.rest_there);
  others = λ k ne. let o = h.others k ne in (
    ap (λ l. if x.arena == k then till_list x else l) o.0,
    ap (λ l. if x.arena == k then x.held else l) o.1,
    ap (λ (b : Bool). (x.arena == k) || b) o.2,
  );
}

out_by : (queues : List TableId) (n a : ℕ) (x : Till) (xs rest : List Till) (t : Till) (b : Bool) → (x.arena == a) ≡ b → b || is_in a (arenas_of xs) ≡ true → AllTakeThere queues n (x ∷ xs)
    → t ≡ get_or (x ∷ xs) (if b then 0 else suc (place_of a xs)) t → rest ≡ remove (x ∷ xs) (if b then 0 else suc (place_of a xs))
    → (is_in a (arenas_of xs) ≡ true → t ≡ get_or xs (place_of a xs) t → TakenOut queues n a xs (remove xs (place_of a xs)) t) → TakenOut queues n a (x ∷ xs) rest t
out_by queues n a x xs rest t true e has all value items later = subst (λ (z : Till × List Till). TakenOut queues n a (x ∷ xs) z.1 z.0) (λ i. (sym value i, sym items i)) (first_out queues n a x xs e all)
out_by queues n a x xs rest t false e has all value items later = subst (λ l. TakenOut queues n a (x ∷ xs) l t) (sym items) (next_out queues n a x xs (remove xs (place_of a xs)) t e all.0 (later has value))

pub taken_out : (queues : List TableId) (n a : ℕ) (ts rest : List Till) (t : Till) → is_in a (arenas_of ts) ≡ true → AllTakeThere queues n ts → t ≡ get_or ts (place_of a ts) t → rest ≡ remove ts (place_of a ts) → TakenOut queues n a ts rest t
taken_out queues n a [] rest t has all value items = absurd (false≢true has)
taken_out queues n a (x ∷ xs) rest t has all value items = out_by queues n a x xs rest t (x.arena == a) refl has all value items (λ more is. taken_out queues n a xs (remove xs (place_of a xs)) t more all.1 is refl)
