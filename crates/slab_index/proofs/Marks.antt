-- What candidates keep, after a slab came or went.
use Rattle.std.proofs.Common.{◌≡◌, ◌≢◌, ℕ, ◌+◌, ◌*◌, ◌/◌, ◌%◌, ◌<◌, ◌≤◌, ⊎_elim, Bool, true, false, cond, eqb, ltb, ◌&&◌, List, Option, Some, None, length, get_or, set, replicate, refl, sym, ap, ◌∙◌, arith}
use Rattle.slab_index.proofs.Common.{cases_lt, cases_eq, eq-eqb, ne_eqb, cond-true, cond-false, get_or-set_same, get_or-set_other, length-set, get_or-replicate, get_or_past, length-replicate, none-some, has, IsPut, has-zeros, get_or-zeros}
use Rattle.slab_index.specs.declared.candidates.NormalSlab.{NormalSlab}
use Rattle.slab_index.specs.Candidates.{normal_in}
use Rattle.slab_index.specs.Sparse.{is_sparse, has_live, has_class, HasRows, AreKept, IsMarked, IsMarkedAnew}

-- the normal slabs after one was replaced
pub normal_after : (normal : List (Option NormalSlab)) (start : ℕ) (slab : Option NormalSlab) → start < length normal → (s : ℕ) → normal_in (set normal start slab) s ≡ cond (eqb s start) slab (normal_in normal s)
unfolding normal_in
normal_after normal start slab inside s = ⊎_elim
    (λ (same : s ≡ start).
    ap (λ t. get_or (set normal start slab) t None) same
    ∙ get_or-set_same normal start slab None inside
    ∙ sym (cond-true (eqb s start) slab (get_or normal s None) (eq-eqb s start same)))
    (λ (apart : s ≢ start). get_or-set_other normal start s slab None apart ∙ sym (cond-false (eqb s start) slab (get_or normal s None) (ne_eqb s start apart)))
    (cases_eq s start)

-- a normal slab of the set is one of the list
pub normal_of_list : {normal set : List (Option NormalSlab)} → normal ≡ set → (s : ℕ) → get_or normal s None ≡ normal_in set s
unfolding normal_in
normal_of_list is s = ap (λ (slabs : List (Option NormalSlab)). get_or slabs s None) is

-- two tests of one meaning
same_eqb : (a b m n : ℕ) → (a ≡ b → m ≡ n) → (m ≡ n → a ≡ b) → eqb a b ≡ eqb m n
same_eqb a b m n there back = ⊎_elim
    (λ (same : a ≡ b). eq-eqb a b same ∙ sym (eq-eqb m n (there same)))
    (λ (apart : a ≢ b). ne_eqb a b apart ∙ sym (ne_eqb m n (λ e. apart (back e))))
    (cases_eq a b)

-- a set of starts by keys that a test of slabs tells, after one slab was replaced and its number put in or out
told_marked : (test : Option NormalSlab → ℕ → Bool) (normal later : List (Option NormalSlab)) (old new : List ℕ) (start key : ℕ) (gate on : Bool) (was now : Option NormalSlab) → start < 4096 →
    ((k : ℕ) → has old k ≡ test (get_or normal (k % 4096) None) (k / 4096)) → ((k : ℕ) → has new k ≡ cond (eqb k (4096 * key + start) && gate) on (has old k)) →
    get_or normal start None ≡ was → get_or later start None ≡ now → ((other : ℕ) → other ≢ start → get_or later other None ≡ get_or normal other None) →
    ((n : ℕ) → test now n ≡ cond (eqb n key && gate) on (test was n)) → (k : ℕ) → has new k ≡ test (get_or later (k % 4096) None) (k / 4096)
told_marked test normal later old new start key gate on was now small told marked was_is now_is others changes k = ⊎_elim
    (λ (here : k % 4096 ≡ start).
    marked k
    ∙ ap (λ b. cond (b && gate) on (has old k)) (same_eqb k (4096 * key + start) (k / 4096) key (λ e. omega (arith, e, small)) (λ e. omega (arith, e, here)))
    ∙ ap (cond (eqb (k / 4096) key && gate) on) (told k ∙ ap (λ s. test (get_or normal s None) (k / 4096)) here ∙ ap (λ slab. test slab (k / 4096)) was_is)
    ∙ sym (changes (k / 4096))
    ∙ ap (λ slab. test slab (k / 4096)) (sym now_is)
    ∙ ap (λ s. test (get_or later s None) (k / 4096)) (sym here))
    (λ (there : k % 4096 ≢ start).
    marked k
    ∙ ap (λ b. cond (b && gate) on (has old k)) (ne_eqb k (4096 * key + start) (λ e. there (omega (arith, e, small))))
    ∙ told k
    ∙ ap (λ slab. test slab (k / 4096)) (sym (others (k % 4096) there)))
    (cases_eq (k % 4096) start)

and_true : (x : Bool) → (x && true) ≡ x
and_true true = refl
and_true false = refl

-- what is kept, after the sets were marked for a slab that was replaced
pub AreKept-changed : {normal : List (Option NormalSlab)} {starts some classes : List ℕ} (starts' some' classes' : List ℕ) (start : ℕ) (slab : NormalSlab) (on : Bool) (was now : Option NormalSlab) →
    AreKept normal starts some classes → start < length normal → get_or normal start None ≡ was →
    IsMarked starts start slab on starts' → HasRows starts' some' → IsPut classes (4096 * slab.class + start) on classes' →
    ((n : ℕ) → has_live now n ≡ cond (eqb n slab.live && is_sparse slab) on (has_live was n)) → ((n : ℕ) → has_class now n ≡ cond (eqb n slab.class) on (has_class was n)) →
    ((other : NormalSlab) → now ≡ Some other → other.class < 36) → AreKept (set normal start now) starts' some' classes'
AreKept-changed {normal} {starts} {some} {classes} starts' some' classes' start slab on was now kept inside was_is marked rows put live_is class_is known =
    let small : start < 4096 = omega (arith, inside, kept.few) in
    let later = set normal start now in
    let here : get_or later start None ≡ now = get_or-set_same normal start now None inside in
    let others : (other : ℕ) → other ≢ start → get_or later other None ≡ get_or normal other None = λ other apart. get_or-set_other normal start other now None apart in
    record {
      few = omega (arith, kept.few, length-set normal start now);
      rows = rows;
      classes_size = put.size ∙ kept.classes_size;
      known = λ s other is. ⊎_elim
          (λ (same : s ≡ start). known other (sym here ∙ ap (λ t. get_or later t None) (sym same) ∙ is))
          (λ (apart : s ≢ start). kept.known s other (sym (others s apart) ∙ is))
          (cases_eq s start);
      starts_are = told_marked has_live normal later starts starts' start slab.live (is_sparse slab) on was now small kept.starts_are marked.each was_is here others live_is;
      classes_are = told_marked has_class normal later classes classes' start slab.class true on was now small kept.classes_are
          (λ k. put.each k ∙ ap (λ b. cond b on (has classes k)) (sym (and_true (eqb k (4096 * slab.class + start)))))
          was_is
          here
          others
          (λ n. class_is n ∙ ap (λ b. cond b on (has_class was n)) (sym (and_true (eqb n slab.class))));
    }

leaves : (x : Bool) → false ≡ cond x false x
leaves true = refl
leaves false = refl

comes : (x : Bool) → x ≡ cond x true false
comes true = refl
comes false = refl

-- after it went
pub AreKept-left : {normal : List (Option NormalSlab)} {starts some classes : List ℕ} (starts' some' classes' : List ℕ) (start : ℕ) (slab : NormalSlab) → AreKept normal starts some classes → start < length normal → get_or normal start None ≡ Some slab →
    IsMarked starts start slab false starts' → HasRows starts' some' → IsPut classes (4096 * slab.class + start) false classes' → AreKept (set normal start None) starts' some' classes'
AreKept-left starts' some' classes' start slab kept inside was marked rows put =
    AreKept-changed starts' some' classes' start slab false (Some slab) None kept inside was marked rows put
    (λ n. leaves (eqb n slab.live && is_sparse slab))
    (λ n. leaves (eqb n slab.class))
    (λ other e. absurd (none-some other e))

same_Some : (slab other : NormalSlab) → Some slab ≡ Some other → slab.class ≡ other.class
same_Some slab other e = ap class_of e
  where
    class_of : Option NormalSlab → ℕ
    class_of None = 0
    class_of (Some slab) = slab.class

-- after it came
pub AreKept-come : {normal : List (Option NormalSlab)} {starts some classes : List ℕ} (starts' some' classes' : List ℕ) (start : ℕ) (slab : NormalSlab) → AreKept normal starts some classes → start < length normal → get_or normal start None ≡ None → slab.class < 36 →
    IsMarked starts start slab true starts' → HasRows starts' some' → IsPut classes (4096 * slab.class + start) true classes' → AreKept (set normal start (Some slab)) starts' some' classes'
AreKept-come starts' some' classes' start slab kept inside was known marked rows put =
    AreKept-changed starts' some' classes' start slab true None (Some slab) kept inside was marked rows put
    (λ n. comes (eqb n slab.live && is_sparse slab))
    (λ n. comes (eqb n slab.class))
    (λ other e. omega (arith, same_Some slab other e, known))

-- a slab of the same class has it still
same_class : (was slab : NormalSlab) → slab.class ≡ was.class → (n : ℕ) → has_class (Some was) n ≡ has_class (Some slab) n
same_class was slab same n = ap (eqb n) (sym same)

-- after its live blocks were counted anew: its start went from the set of the one number to that of the other
pub AreKept-recounted : {normal : List (Option NormalSlab)} {starts some classes : List ℕ} (starts' some' : List ℕ) (start : ℕ) (was slab : NormalSlab) → AreKept normal starts some classes → start < length normal → get_or normal start None ≡ Some was →
    slab.class ≡ was.class → slab.class < 36 → IsMarkedAnew starts start was slab starts' → HasRows starts' some' → AreKept (set normal start (Some slab)) starts' some' classes
AreKept-recounted {normal} {starts} {some} {classes} starts' some' start was slab kept inside was_is same known marked rows =
    let mid = marked.mid in
    let small : start < 4096 = omega (arith, inside, kept.few) in
    let none : List (Option NormalSlab) = set normal start None in
    let later : List (Option NormalSlab) = set normal start (Some slab) in
    let none_here : get_or none start None ≡ None = get_or-set_same normal start None None inside in
    let here : get_or later start None ≡ Some slab = get_or-set_same normal start (Some slab) None inside in
    let none_others : (other : ℕ) → other ≢ start → get_or none other None ≡ get_or normal other None = λ other apart. get_or-set_other normal start other None None apart in
    let others : (other : ℕ) → other ≢ start → get_or later other None ≡ get_or normal other None = λ other apart. get_or-set_other normal start other (Some slab) None apart in
    let told : (k : ℕ) → has mid k ≡ has_live (get_or none (k % 4096) None) (k / 4096) = told_marked has_live normal none starts mid start was.live (is_sparse was) false (Some was) None small kept.starts_are marked.out.each was_is none_here none_others
    (λ n. leaves (eqb n was.live && is_sparse was)) in
    record {
      few = omega (arith, kept.few, length-set normal start (Some slab));
      rows = rows;
      classes_size = kept.classes_size;
      known = λ s other is. ⊎_elim
          (λ (at : s ≡ start). omega (arith, same_Some slab other (sym here ∙ ap (λ t. get_or later t None) (sym at) ∙ is), known))
          (λ (apart : s ≢ start). kept.known s other (sym (others s apart) ∙ is))
          (cases_eq s start);
      starts_are = told_marked has_live none later mid starts' start slab.live (is_sparse slab) true None (Some slab) small told marked.back.each none_here here
          (λ other apart. others other apart ∙ sym (none_others other apart))
          (λ n. comes (eqb n slab.live && is_sparse slab));
      classes_are = λ k. ⊎_elim
          (λ (at : k % 4096 ≡ start).
          kept.classes_are k
          ∙ ap (λ s. has_class (get_or normal s None) (k / 4096)) at
          ∙ ap (λ was. has_class was (k / 4096)) was_is
          ∙ same_class was slab same (k / 4096)
          ∙ ap (λ now. has_class now (k / 4096)) (sym here)
          ∙ ap (λ s. has_class (get_or later s None) (k / 4096)) (sym at))
          (λ (apart : k % 4096 ≢ start). kept.classes_are k ∙ ap (λ slab. has_class slab (k / 4096)) (sym (others (k % 4096) apart)))
          (cases_eq (k % 4096) start);
    }

-- no slab is in a list of none
get_or-nones : (n i : ℕ) → get_or {A = Option NormalSlab} (replicate n None) i None ≡ None
get_or-nones n i = ⊎_elim
    (λ (within : i < n). get_or-replicate n i None None within)
    (λ (past : n ≤ i). get_or_past (replicate n None) i None (omega (arith, length-replicate {A = Option NormalSlab} n None)))
    (cases_lt i n)

-- where there is none
pub AreKept-fresh : (granules : ℕ) → granules ≤ 4096 → AreKept (replicate granules None) (replicate 4160 0) (replicate 65 0) (replicate 2304 0)
AreKept-fresh granules few = record {
  few = omega (arith, few, length-replicate {A = Option NormalSlab} granules None);
  rows = record {
    size = length-replicate {A = ℕ} 4160 0;
    some_size = length-replicate {A = ℕ} 65 0;
    summary = record { is = λ i. has-zeros 65 i ∙ sym (ap (ltb 0) (get_or-zeros 4160 i)) };
  };
  classes_size = length-replicate {A = ℕ} 2304 0;
  known = λ s slab is. absurd (none-some slab (sym (get_or-nones granules s) ∙ is));
  starts_are = λ k. has-zeros 4160 k ∙ sym (ap (λ slab. has_live slab (k / 4096)) (get_or-nones granules (k % 4096)));
  classes_are = λ k. has-zeros 2304 k ∙ sym (ap (λ slab. has_class slab (k / 4096)) (get_or-nones granules (k % 4096)));
}

pub normal_fresh : (granules s : ℕ) → normal_in (replicate granules None) s ≡ None
unfolding normal_in
normal_fresh granules s = get_or-nones granules s
