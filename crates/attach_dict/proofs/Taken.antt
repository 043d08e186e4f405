-- A row of heads is taken into a map, one by one: of each key the last root, and the others are stale.
use Rattle.std.proofs.Common.{◌≡◌, ◌≢◌, ◌⊎◌, ℕ, zero, suc, ◌+◌, ◌<◌, ◌≤◌, Bool, not, eqb, List, length, get_or, inl, inr, refl, sym, ap, ◌∙◌, subst, arith, ⊎_elim}
use Rattle.std.proofs.lemmas.List.{get_or_default}
use Rattle.std.proofs.lemmas.List.Elements.{Contains-get_or}
use Rattle.attach_dict.proofs.Common.{cases_eq, cases_lt, eq-eqb, ne_eqb, Contains, Keyed, KeyRoots, IsKeyed, LacksRoot, HasMore}
use Rattle.dict_index.specs.KeyRoots.{HasNoneFrom as AreAllBelow, IsNew}
use Rattle.attach_dict.specs.declared.heads.Head.{Head}
use Rattle.attach_dict.specs.declared.index.DictIndex.{DictIndex}
use Rattle.attach_dict.specs.Heads.{IsBefore, AreInOrder, IsAt, IsLast, IsPassed, EndsKey, keyed_of, IsLastBelow, IsPassedBelow, HasPlaces, AreTakenTo, KeepsRest}
use Rattle.attach_dict.specs.Roots.{Roots, IsIn, IsOut, AreNoRoots, HasMoreRoots}
use Rattle.attach_dict.proofs.HeadOrder.{before_key, before_trans, before_irreflexive, apart_at, at_or_before}

-- places

-- two heads at one place are one
one_head : (heads : List Head) (i j : ℕ) (a b : Head) → i ≡ j → IsAt heads i a → IsAt heads j b → a ≡ b
one_head heads i j a b same at also = sym at.is ∙ (get_or_default heads i a b at.inside ∙ (ap (λ (n : ℕ). get_or heads n b) same ∙ also.is))

has_at : (heads : List Head) (i : ℕ) (a : Head) → IsAt heads i a → Contains heads a
has_at heads i a at = (i, at.inside, at.is)

-- the head at a place
pub head_at : (heads : List Head) (i : ℕ) (d : Head) → i < length heads → IsAt heads i (get_or heads i d)
head_at heads i d low = record { inside = low; is = get_or_default heads i (get_or heads i d) d low }

module _ (heads : List Head) (order : AreInOrder heads) where
  -- a head at a place is not before one that does not stand behind it
  not_back : (i j : ℕ) (a b : Head) → j ≤ i → IsAt heads i a → IsAt heads j b → ¬ (IsBefore a b)
  not_back i j a b from at also before = ⊎_elim
      (λ (same : b ≡ get_or heads i a). before_irreflexive a (subst (λ (x : Head). IsBefore a x) (same ∙ at.is) before))
      (λ (back : IsBefore b (get_or heads i a)). before_irreflexive a (before_trans a b a before (subst (λ (x : Head). IsBefore b x) at.is back)))
      (at_or_before heads order j i b from at.inside also.is a)

  -- before one that does
  ahead : (i j : ℕ) (a b : Head) → i < j → IsAt heads i a → IsAt heads j b → IsBefore a b
  ahead i j a b less at also = subst (λ (x : Head). IsBefore x b) (get_or_default heads i b a at.inside ∙ at.is) (subst (λ (x : Head). IsBefore (get_or heads i b) x) also.is (order.rising i j b less also.inside))

  -- and has another root
  other_root : (i j : ℕ) (a b : Head) → i < j → IsAt heads i a → IsAt heads j b → a.root ≢ b.root
  other_root i j a b less at also same =
      apart_at heads order.apart i j b less also.inside (ap (λ (x : Head). x.root) (get_or_default heads i b a at.inside ∙ at.is) ∙ (same ∙ sym (ap (λ (x : Head). x.root) also.is)))

  module _ (place : ℕ) (h : Head) (at : IsAt heads place h) where
    -- the last head of a row is the last of its key
    pub last_end : place + 1 ≡ length heads → IsLast heads h
    last_end end other has key = not_back place has.0 h other (omega (arith, end, has.1)) at (record { inside = has.1; is = has.2 })

    -- so is one that has another key behind it
    pub last_apart : (d : Head) → place + 1 < length heads → (get_or heads (place + 1) d).key ≢ h.key → IsLast heads h
    last_apart d low apart other has key before = ⊎_elim
        (λ (from : has.0 < place + 1). not_back place has.0 h other (omega (arith, from)) at (record { inside = has.1; is = has.2 }) before)
        (λ (behind : place + 1 ≤ has.0).
        let next : Head = get_or heads (place + 1) d in
        let stands : IsAt heads (place + 1) next = head_at heads (place + 1) d low in
        let up : h.key ≤ next.key = before_key h next (ahead place (place + 1) h next (omega arith) at stands) in
        ⊎_elim
        (λ (same : next ≡ get_or heads has.0 other). apart (omega (arith, up, key, ap (λ (x : Head). x.key) (same ∙ has.2))))
        (λ (before_it : IsBefore next (get_or heads has.0 other)). apart (omega (arith, up, key, before_key next other (subst (λ (x : Head). IsBefore next x) has.2 before_it))))
        (at_or_before heads order (place + 1) has.0 next behind has.1 stands.is other))
        (cases_lt has.0 (place + 1))

    -- and one that has its key behind it is passed
    pub passed_next : (d : Head) → place + 1 < length heads → (get_or heads (place + 1) d).key ≡ h.key → IsPassed heads h
    passed_next d low same = record {
      other = get_or heads (place + 1) d;
      has = Contains-get_or heads (place + 1) d low;
      key = same;
      before = ahead place (place + 1) h (get_or heads (place + 1) d) (omega arith) at (head_at heads (place + 1) d low);
    }

    -- one of the two
    pub last_or_passed : IsLast heads h ⊎ IsPassed heads h
    last_or_passed = ⊎_elim
        (λ (low : place + 1 < length heads). ⊎_elim
        (λ (same : (get_or heads (place + 1) h).key ≡ h.key). inr (passed_next h low same))
        (λ (apart : (get_or heads (place + 1) h).key ≢ h.key). inl (last_apart h low apart))
        (cases_eq (get_or heads (place + 1) h).key h.key))
        (λ (end : length heads ≤ place + 1). inl (last_end (omega (arith, end, at.inside))))
        (cases_lt (place + 1) (length heads))

  -- as a test says it
  module _ (place : ℕ) (h : Head) (at : IsAt heads place h) where
    pub ends_at_end : place + 1 ≡ length heads → EndsKey heads h (eqb (place + 1) (length heads))
    ends_at_end end = subst (λ (b : Bool). EndsKey heads h b) (sym (eq-eqb (place + 1) (length heads) end)) (last_end place h at end)

    pub ends_before : (d : Head) → place + 1 < length heads → EndsKey heads h (not (eqb (get_or heads (place + 1) d).key (get_or heads place d).key))
    ends_before d low =
        let here : (get_or heads place d).key ≡ h.key = ap (λ (x : Head). x.key) (get_or_default heads place d h at.inside ∙ at.is) in
        ⊎_elim
        (λ (same : (get_or heads (place + 1) d).key ≡ (get_or heads place d).key).
        subst (λ (b : Bool). EndsKey heads h b) (sym (ap not (eq-eqb (get_or heads (place + 1) d).key (get_or heads place d).key same))) (passed_next place h at d low (same ∙ here)))
        (λ (apart : (get_or heads (place + 1) d).key ≢ (get_or heads place d).key).
        subst (λ (b : Bool). EndsKey heads h b) (sym (ap not (ne_eqb (get_or heads (place + 1) d).key (get_or heads place d).key apart))) (last_apart place h at d low (λ is. apart (is ∙ sym here))))
        (cases_eq (get_or heads (place + 1) d).key (get_or heads place d).key)

  -- a key of a head has a last one
  last_from : (n place : ℕ) (h : Head) → length heads ≤ place + n → IsAt heads place h → (at : ℕ) × (l : Head) × IsAt heads at l × IsLast heads l × (l.key ≡ h.key)
  last_from zero place h past at = absurd (omega (arith, past, at.inside))
  last_from (suc n) place h past at = ⊎_elim
      (λ (low : place + 1 < length heads). ⊎_elim
      (λ (same : (get_or heads (place + 1) h).key ≡ h.key).
      let more = last_from n (place + 1) (get_or heads (place + 1) h) (omega (arith, past)) (head_at heads (place + 1) h low) in (more.0, more.1, more.2, more.3, more.4 ∙ same))
      (λ (apart : (get_or heads (place + 1) h).key ≢ h.key). (place, h, at, last_apart place h at h low apart, refl))
      (cases_eq (get_or heads (place + 1) h).key h.key))
      (λ (end : length heads ≤ place + 1). (place, h, at, last_end place h at (omega (arith, end, at.inside)), refl))
      (cases_lt (place + 1) (length heads))

  pub last_of : (h : Head) → Contains heads h → (at : ℕ) × (l : Head) × IsAt heads at l × IsLast heads l × (l.key ≡ h.key)
  last_of h has = last_from (length heads) has.0 h (omega arith) (record { inside = has.1; is = has.2 })

-- one more head

-- none was taken
pub taken_none : (heads : List Head) (index : DictIndex) (roots below : ℕ) → IsNew index.keys roots → AreNoRoots index.stale below → AreTakenTo heads 0 index
taken_none heads index roots below keys stale = record {
  sound = keys.sound;
  keys_are = λ r is. absurd (keys.none r is);
  keys_each = λ r l. absurd (omega (arith, l.low));
  stale_are = λ root is. absurd (stale.none root is);
  stale_each = λ root p. absurd (omega (arith, p.low));
}

pub rest_same : (index : DictIndex) → KeepsRest index index
rest_same index = record { roots = refl; below = refl; numbers = refl; free = refl; block = refl }

pub rest_more : (a b c : DictIndex) → KeepsRest a b → KeepsRest b c → KeepsRest a c
rest_more a b c x y = record { roots = y.roots ∙ x.roots; below = y.below ∙ x.below; numbers = y.numbers ∙ x.numbers; free = y.free ∙ x.free; block = y.block ∙ x.block }

last_more : {heads : List Head} {place : ℕ} {r : Keyed} → IsLastBelow heads place r → IsLastBelow heads (place + 1) r
last_more l = record { at = l.at; h = l.h; low = omega (arith, l.low); there = l.there; last = l.last; is = l.is }

passed_more : {heads : List Head} {place root : ℕ} → IsPassedBelow heads place root → IsPassedBelow heads (place + 1) root
passed_more p = record { at = p.at; h = p.h; low = omega (arith, p.low); there = p.there; passed = p.passed; is = p.is }

module _ (heads : List Head) (order : AreInOrder heads) (place : ℕ) (h : Head) (at : IsAt heads place h) (index : DictIndex) (taken : AreTakenTo heads place index) where
  -- its key is above those of the map, where it is the last of it
  pub keys_above : IsLast heads h → AreAllBelow index.keys h.key
  keys_above last = record {
    none = λ r is.
        let l = taken.keys_are r is in
        let before : IsBefore l.h h = ahead heads order l.at place l.h h l.low l.there at in
        let key : r.key ≡ l.h.key = ap (λ (x : Keyed). x.key) l.is in
        ⊎_elim
        (λ (same : l.h.key ≡ h.key). absurd (l.last h (has_at heads place h at) (sym same) before))
        (λ (apart : l.h.key ≢ h.key). omega (arith, key, apart, before_key l.h h before))
        (cases_eq l.h.key h.key);
  }

  -- and its root is new to the map and to the stale ones
  pub root_fresh : LacksRoot index.keys h.root
  root_fresh = record { none = λ r is same. let l = taken.keys_are r is in other_root heads order l.at place l.h h l.low l.there at (sym (ap (λ (x : Keyed). x.root) l.is) ∙ same) }

  pub root_out : IsOut index.stale h.root
  root_out = record { none = λ is. let p = taken.stale_are h.root is in other_root heads order p.at place p.h h p.low p.there at (sym p.is) }

  -- it is the last of its key, and came to the map
  pub taken_last : (keys : KeyRoots) → IsLast heads h → HasMore index.keys (keyed_of h) keys → AreTakenTo heads (place + 1) (record { keys = keys; numbers = index.numbers; free = index.free; stale = index.stale; block = index.block })
  taken_last keys last more = record {
    sound = more.sound;
    keys_are = λ r is. ⊎_elim
        (λ (had : IsKeyed index.keys r). last_more (taken.keys_are r had))
        (λ (same : r ≡ keyed_of h). record { at = place; h = h; low = omega arith; there = at; last = last; is = same })
        (more.each r is);
    keys_each = λ r l. ⊎_elim
        (λ (low : l.at < place). more.kept r (taken.keys_each r (record { at = l.at; h = l.h; low = low; there = l.there; last = l.last; is = l.is })))
        (λ (here : place ≤ l.at).
        let same : l.h ≡ h = one_head heads l.at place l.h h (omega (arith, here, l.low)) l.there at in
        subst (λ (x : Keyed). IsKeyed keys x) (sym (l.is ∙ ap keyed_of same)) more.here)
        (cases_lt l.at place);
    stale_are = λ root is. passed_more (taken.stale_are root is);
    stale_each = λ root p. ⊎_elim
        (λ (low : p.at < place). taken.stale_each root (record { at = p.at; h = p.h; low = low; there = p.there; passed = p.passed; is = p.is }))
        (λ (here : place ≤ p.at).
        let same : p.h ≡ h = one_head heads p.at place p.h h (omega (arith, here, p.low)) p.there at in
        let q : IsPassed heads h = subst (λ (x : Head). IsPassed heads x) same p.passed in
        absurd (last q.other q.has q.key q.before))
        (cases_lt p.at place);
  }

  -- it is passed, and stale
  pub taken_passed : (stale : Roots) → IsPassed heads h → HasMoreRoots index.stale h.root stale → AreTakenTo heads (place + 1) (record { keys = index.keys; numbers = index.numbers; free = index.free; stale = stale; block = index.block })
  taken_passed stale passed more = record {
    sound = taken.sound;
    keys_are = λ r is. last_more (taken.keys_are r is);
    keys_each = λ r l. ⊎_elim
        (λ (low : l.at < place). taken.keys_each r (record { at = l.at; h = l.h; low = low; there = l.there; last = l.last; is = l.is }))
        (λ (here : place ≤ l.at).
        let same : l.h ≡ h = one_head heads l.at place l.h h (omega (arith, here, l.low)) l.there at in
        absurd (l.last passed.other passed.has (passed.key ∙ sym (ap (λ (x : Head). x.key) same)) (subst (λ (x : Head). IsBefore x passed.other) (sym same) passed.before)))
        (cases_lt l.at place);
    stale_are = λ root is. ⊎_elim
        (λ (had : IsIn index.stale root). passed_more (taken.stale_are root had))
        (λ (same : root ≡ h.root). record { at = place; h = h; low = omega arith; there = at; passed = passed; is = same })
        (more.each root is);
    stale_each = λ root p. ⊎_elim
        (λ (low : p.at < place). more.kept root (taken.stale_each root (record { at = p.at; h = p.h; low = low; there = p.there; passed = p.passed; is = p.is })))
        (λ (here : place ≤ p.at).
        let same : p.h ≡ h = one_head heads p.at place p.h h (omega (arith, here, p.low)) p.there at in
        subst (λ (r : ℕ). IsIn stale r) (sym (p.is ∙ ap (λ (x : Head). x.root) same)) more.here)
        (cases_lt p.at place);
  }

-- tables that keep the rest have a place for each root still
pub places_still : (heads : List Head) (old new : DictIndex) → KeepsRest old new → HasPlaces heads old → HasPlaces heads new
places_still heads old new rest places = record {
  keys = λ h has. subst (λ (n : ℕ). h.root < n) (sym rest.roots) (places.keys h has);
  stale = λ h has. subst (λ (n : ℕ). h.root < n) (sym rest.below) (places.stale h has);
}
