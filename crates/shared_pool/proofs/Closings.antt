-- The seats at one lock, and what its end tells.
use Rattle.shared_pool.proofs.Common.{ArenaState, TableId, Entry, Opening, calls_by, calls_of, owns, Since, AllBelow, Lock, Known, AllAt, all_numbers, Covers, AllFit}
use Rattle.std.proofs.Common.{◌≡◌, ℕ, suc, ◌+◌, ◌<◌, ◌≤◌, ◌==◌, ◌||◌, Bool, true, false, List, [], ◌∷◌, ◌++◌, map, length, refl, ap, sym, ◌∙◌, subst, arith, append_assoc, get_or, remove}
use Rattle.std.proofs.lemmas.List.{append-nil}
use Rattle.std.proofs.lemmas.Bool.{false≢true}
use mathlib.Core.List.{IsPrefix, map-append}
use Rattle.shared_pool.specs.Begun.{AllNew}
use Rattle.shared_pool.specs.Closed.{AllFitLocks, is_in, HasAll, AllAgree, IsClosed, AllClosed}
use Rattle.shared_pool.specs.Passes.{PassState, seen_at, mine_at, part_at, first_calls}
use Rattle.shared_pool.specs.Rows.{head_list, heads, behead, AllLong, HeadBelongs, HeadsBelong}

-- arenas that end one after another, each with the first seats of the passes, which lose these
abbrev pub AllEnded : ℕ → List PassState → List Opening → List (List Entry × ArenaState) → Type 0
AllEnded seats passes [] [] = Unit {0}
AllEnded seats passes (o ∷ os) (c ∷ cs) = IsClosed seats 0 passes o c × AllEnded seats (map behead passes) os cs
AllEnded seats passes os cs = ⊥

module _ (t : TableId) (ts : List TableId) where
  long_one : (parts : List Known) → t ∷ ts ≡ map (λ (z : Known). z.lock) parts → 0 < length parts
  long_one [] e = absurd (cc e)
  long_one (x ∷ xs) e = omega arith

  pub long_of : (ps : List PassState) → AllFitLocks (t ∷ ts) ps → AllLong ps
  long_of [] f = tt
  long_of (p ∷ ps) f = (long_one p.parts f.0, long_of ps f.1)

  at_one : (parts rest : List Known) → t ∷ ts ≡ map (λ (z : Known). z.lock) parts → AllAt t rest → AllAt t (head_list parts ++ rest)
  at_one [] rest e h = h
  at_one (x ∷ xs) rest e h = (cc e, h)

  pub at_heads : (ps : List PassState) → AllFitLocks (t ∷ ts) ps → AllAt t (heads ps)
  at_heads [] f = tt
  at_heads (p ∷ ps) f = at_one p.parts (heads ps) f.0 (at_heads ps f.1)

  some_one : (parts rest : List Known) → t ∷ ts ≡ map (λ (z : Known). z.lock) parts → 0 < length (head_list parts ++ rest)
  some_one [] rest e = absurd (cc e)
  some_one (x ∷ xs) rest e = omega arith

  pub some_heads : (ps : List PassState) → 0 < length ps → AllFitLocks (t ∷ ts) ps → 0 < length (heads ps)
  some_heads [] l f = absurd (omega arith)
  some_heads (p ∷ ps) l f = some_one p.parts (heads ps) f.0

  or_either : (b x y : Bool) → (x ≡ true → y ≡ true) → b || x ≡ true → b || y ≡ true
  or_either true x y f e = refl
  or_either false x y f e = f e

  owns_one : (k n : ℕ) (parts rest : List Known) (found : Bool) → t ∷ ts ≡ map (λ (z : Known). z.lock) parts → HeadBelongs n parts → (found ≡ true → owns k (all_numbers rest) ≡ true) → (n == k) || found ≡ true → owns k (all_numbers (head_list parts ++ rest)) ≡ true
  owns_one k n [] rest found e b f h = absurd (cc e)
  owns_one k n (x ∷ xs) rest found e b f h = subst (λ m. owns k (m ++ all_numbers rest) ≡ true) (sym b) (or_either (n == k) found (owns k (all_numbers rest)) f h)

  owns_heads : (k : ℕ) (ps : List PassState) → AllFitLocks (t ∷ ts) ps → HeadsBelong ps → is_in k (map (λ p. p.number) ps) ≡ true → owns k (all_numbers (heads ps)) ≡ true
  owns_heads k [] f b h = h
  owns_heads k (p ∷ ps) f b h = owns_one k p.number p.parts (heads ps) (is_in k (map (λ p. p.number) ps)) f.0 b.0 (λ e. owns_heads k ps f.1 b.1 e) h

  pub covers_heads : (count : ℕ) (ps : List PassState) → AllFitLocks (t ∷ ts) ps → HeadsBelong ps → HasAll count (map (λ p. p.number) ps) → Covers count (heads ps)
  covers_heads count ps f b h = λ k l. owns_heads k ps f b (h k l)

  agree_one : (n : ℕ) (parts rest : List Known) (journal : List Entry) → t ∷ ts ≡ map (λ (z : Known). z.lock) parts → HeadBelongs n parts → AllFit journal (head_list parts ++ rest)
      → (IsPrefix (seen_at (record { number = n; parts = parts }) 0) journal × (calls_by n journal ≡ mine_at (record { number = n; parts = parts }) 0) × ((part_at (record { number = n; parts = parts }) 0).known ≤ length journal)) × AllFit journal rest
  agree_one n [] rest journal e b s = absurd (cc e)
  agree_one n (x ∷ xs) rest journal e b s = ((s.0.seen, ap first_calls (ap (calls_of journal) (sym b) ∙ s.0.mine), s.0.known), s.1)

  pub agree_heads : (ps : List PassState) (journal : List Entry) → AllFitLocks (t ∷ ts) ps → HeadsBelong ps → AllFit journal (heads ps) → AllAgree 0 ps journal
  agree_heads [] journal f b s = tt
  agree_heads (p ∷ ps) journal f b s = let one = agree_one p.number p.parts (heads ps) journal f.0 b.0 s in (one.0, agree_heads ps journal f.1 b.1 one.1)

  fit_one : (parts : List Known) (n : ℕ) → t ∷ ts ≡ map (λ (z : Known). z.lock) parts → ts ≡ map (λ (z : Known). z.lock) (behead (record { number = n; parts = parts })).parts
  fit_one [] n e = absurd (cc e)
  fit_one (x ∷ xs) n e = cc e

  pub fit_behead : (ps : List PassState) → AllFitLocks (t ∷ ts) ps → AllFitLocks ts (map behead ps)
  fit_behead [] f = tt
  fit_behead (p ∷ ps) f = (fit_one p.parts p.number f.0, fit_behead ps f.1)

-- where all numbers are there, and there is one, some pass is
pub some_passes : (seats : ℕ) (ps : List PassState) → 1 ≤ seats → HasAll seats (map (λ p. p.number) ps) → 0 < length ps
some_passes seats [] l all = absurd (false≢true (all 0 (omega (arith, l))))
some_passes seats (p ∷ ps) l all = omega arith

pub numbers_behead : (ps : List PassState) → map (λ p. p.number) (map behead ps) ≡ map (λ p. p.number) ps
numbers_behead [] = refl
numbers_behead (p ∷ ps) = ap (λ ns. p.number ∷ ns) (numbers_behead ps)

pub below_since : (n : ℕ) (start log : List Entry) → start ≡ [] → Since n start log → AllBelow n log
below_since n start log none s = subst (λ l. AllBelow n l) (ap (λ l. l ++ s.0) (sym none) ∙ s.1) s.2

pub head_back : {A : Type 0} (xs ys : List A) (x : A) → 0 < length xs → x ≡ get_or xs 0 x → ys ≡ remove xs 0 → xs ≡ x ∷ ys
head_back [] ys x l e r = absurd (omega arith)
head_back (z ∷ zs) ys x l e r = cc (e, r)

pub map_twice : {A B C : Type 0} (f : B → C) (g : A → B) (xs : List A) → map f (map g xs) ≡ map (λ x. f (g x)) xs
map_twice f g [] = refl
map_twice f g (x ∷ xs) = ap (λ ys. f (g x) ∷ ys) (map_twice f g xs)

pub fits_front : {L : Type 0} (xs ys : List L) (x : L) (tid : L → TableId) (ps : List PassState) → xs ≡ x ∷ ys → AllFitLocks (map tid xs) ps → (ts : List TableId) × AllFitLocks (tid x ∷ ts) ps
fits_front xs ys x tid ps whole f = (map tid ys, subst (λ l. AllFitLocks (map tid l) ps) whole f)

module _ {L C : Type 0} (xs ys : List L) (x : L) (out next : List C) (c : C) (ps after : List PassState) (seats : ℕ)
    (tid : L → TableId) (new : L → Lock) (op : L → Opening) (shown : C → List Entry × ArenaState) (Goal : List (List Entry × ArenaState) → Type 0)
    (whole : xs ≡ x ∷ ys) (passed : after ≡ map behead ps) (pushed : next ≡ out ++ c ∷ []) where
  longer_ps : (ps : List PassState) → 0 < length ps → 0 < length (map behead ps)
  longer_ps [] l = l
  longer_ps (p ∷ ps) l = omega arith

  goes : ((cs : List (List Entry × ArenaState)) → AllEnded seats ps (map op xs) cs → Goal (map shown out ++ cs)) → IsClosed seats 0 ps (op x) (shown c) → (cs : List (List Entry × ArenaState)) → AllEnded seats (map behead ps) (map op ys) cs → Goal (map shown next ++ cs)
  goes f closed cs all =
      let e : map shown out ++ shown c ∷ cs ≡ map shown next ++ cs = sym (ap (λ l. l ++ cs) (ap (map shown) pushed ∙ map-append shown out (c ∷ [])) ∙ append_assoc (map shown out) (shown c ∷ []) cs) in
      subst Goal e (f (shown c ∷ cs) (subst (λ l. AllEnded seats ps (map op l) (shown c ∷ cs)) (sym whole) (closed, all)))

  pub one_closed : 0 < length ps → AllFitLocks (map tid xs) ps → AllNew seats (map new xs) → HasAll seats (map (λ p. p.number) ps) → ((cs : List (List Entry × ArenaState)) → AllEnded seats ps (map op xs) cs → Goal (map shown out ++ cs)) → IsClosed seats 0 ps (op x) (shown c)
      → (0 < length after) × AllFitLocks (map tid ys) after × AllNew seats (map new ys) × HasAll seats (map (λ p. p.number) after) × ((cs : List (List Entry × ArenaState)) → AllEnded seats after (map op ys) cs → Goal (map shown next ++ cs))
  one_closed some fits fresh all f closed =
      subst (λ z. (0 < length z) × AllFitLocks (map tid ys) z × AllNew seats (map new ys) × HasAll seats (map (λ p. p.number) z) × ((cs : List (List Entry × ArenaState)) → AllEnded seats z (map op ys) cs → Goal (map shown next ++ cs))) (sym passed) (
        longer_ps ps some,
        fit_behead (tid x) (map tid ys) ps (subst (λ l. AllFitLocks (map tid l) ps) whole fits),
        (subst (λ l. AllNew seats (map new l)) whole fresh).1,
        subst (λ ns. HasAll seats ns) (sym (numbers_behead ps)) all,
        goes f closed,
      )

pub all_closed : {L C : Type 0} (xs : List L) (out : List C) (ps : List PassState) (seats : ℕ) (op : L → Opening) (shown : C → List Entry × ArenaState) (Goal : List (List Entry × ArenaState) → Type 0)
    → [] ≡ xs → ((cs : List (List Entry × ArenaState)) → AllEnded seats ps (map op xs) cs → Goal (map shown out ++ cs)) → Goal (map shown out)
all_closed xs out ps seats op shown Goal none f = subst Goal (append-nil (map shown out)) (f [] (subst (λ l. AllEnded seats ps (map op l) []) none tt))

-- what is left of a pass is of the arenas from the next number on

part_next : (p : PassState) (b : ℕ) → part_at (behead p) b ≡ part_at p (suc b)
part_next p b = parts p.number p.parts b
  where
    parts : (n : ℕ) (ks : List Known) (b : ℕ) → part_at (behead (record { number = n; parts = ks })) b ≡ part_at (record { number = n; parts = ks }) (suc b)
    parts n [] b = refl
    parts n (k ∷ ks) b = refl

agree_next : (b : ℕ) (ps : List PassState) (j : List Entry) → AllAgree b (map behead ps) j → AllAgree (suc b) ps j
agree_next b [] j h = tt
agree_next b (p ∷ ps) j h = (
  subst (λ (k : Known). IsPrefix k.seen j × (calls_by p.number j ≡ first_calls k.mine) × (k.known ≤ length j)) (part_next p b) h.0,
  agree_next b ps j h.1,
)

ended_from : (seats a : ℕ) (all ps : List PassState) (os : List Opening) (cs : List (List Entry × ArenaState)) → ((b : ℕ) (j : List Entry) → AllAgree b ps j → AllAgree (a + b) all j) → AllEnded seats ps os cs → AllClosed seats a all os cs
ended_from seats a all ps [] [] agree h = tt
ended_from seats a all ps [] (c ∷ cs) agree h = h
ended_from seats a all ps (o ∷ os) [] agree h = h
ended_from seats a all ps (o ∷ os) (c ∷ cs) agree h = (
  record {
    held = h.0.held;
    below = h.0.below;
    agree = subst (λ n. AllAgree n all c.0) (let e : a + 0 ≡ a = omega arith in e) (agree 0 c.0 h.0.agree);
  },
  ended_from seats (suc a) all (map behead ps) os cs (λ b j k. subst (λ n. AllAgree n all j) (let e : a + suc b ≡ suc a + b = omega arith in e) (agree (suc b) j (agree_next b ps j k))) h.1,
)

-- arenas that ended one after another are those of the pool, by number
pub ended_all : (seats : ℕ) (ps : List PassState) (os : List Opening) (cs : List (List Entry × ArenaState)) → AllEnded seats ps os cs → AllClosed seats 0 ps os cs
ended_all seats ps os cs h = ended_from seats 0 ps ps os cs (λ b j k. subst (λ n. AllAgree n ps j) (let e : b ≡ 0 + b = omega arith in e) k) h
