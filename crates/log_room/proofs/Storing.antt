-- Loops of stores.
use Rattle.std.proofs.Common.{◌≡◌, ◌+◌, ◌-◌, ◌*◌, ◌<◌, ◌≤◌, ℕ, zero, suc, List, [], ◌∷◌, ◌++◌, length, drop, get_or, slice_index, refl, sym, ap, ◌∙◌, arith}
use Rattle.log_room.proofs.Common.{get_or-drop, drop-drop, Event, Store, PmemState, words_of, appended, Appends, appended_none, appended_append, Appends-state, entry_slot}
use Rattle.log_room.specs.Copies.{entry_stores}

-- one store more
store_more : (s t : PmemState) (at here value stored : ℕ) (first rest : List Event) (whole : PmemState) → Appends s t (Store at value ∷ []) → at ≡ here → value ≡ stored → first ≡ Store here stored ∷ rest → appended s first ≡ whole →
    appended t rest ≡ whole
store_more s t at here value stored first rest whole step place same is all =
    ap (λ (p : PmemState). appended p rest) step.state
    ∙ appended_append s (Store at value ∷ []) rest
    ∙ ap (λ a. appended s (Store a value ∷ rest)) place
    ∙ ap (λ v. appended s (Store here v ∷ rest)) same
    ∙ ap (appended s) (sym is)
    ∙ all

-- the stores of entries, of which one more is done
entries_more : (version chunk : ℕ) (value : ℕ → ℕ) (entry n : ℕ) → entry < n → entry_stores version chunk value entry (n - entry) ≡ Store (8 * entry_slot version chunk entry) (value entry) ∷ entry_stores version chunk value (entry + 1) (n - (entry + 1))
entries_more version chunk value entry n less =
    let one : n - entry ≡ suc (n - (entry + 1)) = omega arith in
    ap (entry_stores version chunk value entry) one

-- all of them are done
entries_done : (s t : PmemState) (version chunk : ℕ) (value : ℕ → ℕ) (entry n : ℕ) → n ≤ entry → appended t (entry_stores version chunk value entry (n - entry)) ≡ appended s (entry_stores version chunk value 0 n) →
    Appends s t (entry_stores version chunk value 0 n)
entries_done s t version chunk value entry n past whole =
    let none : n - entry ≡ 0 = omega arith in
    Appends-state s t (entry_stores version chunk value 0 n) (sym (appended_none t) ∙ ap (λ k. appended t (entry_stores version chunk value entry k)) (sym none) ∙ whole)

-- the entries of a chunk are stored, up to one: the stores that are left lead where all of them would from the begin
pub record IsStoring (s t : PmemState) (version chunk : ℕ) (value : ℕ → ℕ) (entry n : ℕ) : Type 0 where
  pub whole : appended t (entry_stores version chunk value entry (n - entry)) ≡ appended s (entry_stores version chunk value 0 n)
  pub size : length (words_of t) ≡ length (words_of s)
  pub room : t.room ≡ s.room
  pub count : length t.events ≡ length s.events + entry

pub storing_more : {s t u : PmemState} {version chunk : ℕ} {value : ℕ → ℕ} {entry n at word : ℕ} → IsStoring s t version chunk value entry n → entry < n → Appends t u (Store at word ∷ []) → at ≡ 8 * entry_slot version chunk entry → word ≡ value entry →
    IsStoring s u version chunk value (entry + 1) n
storing_more {s} {t} {u} {version} {chunk} {value} {entry} {n} {at} {word} so_far less step place same = record {
  whole = store_more t u at (8 * entry_slot version chunk entry) word (value entry) (entry_stores version chunk value entry (n - entry)) (entry_stores version chunk value (entry + 1) (n - (entry + 1))) (appended s (entry_stores version chunk value 0 n))
      step place same (entries_more version chunk value entry n less) so_far.whole;
  size = step.size ∙ so_far.size;
  room = step.room ∙ so_far.room;
  count = omega (arith, step.count, so_far.count);
}

pub storing_done : {s t : PmemState} {version chunk : ℕ} {value : ℕ → ℕ} {entry n : ℕ} → IsStoring s t version chunk value entry n → n ≤ entry → Appends s t (entry_stores version chunk value 0 n)
storing_done {s} {t} {version} {chunk} {value} {entry} {n} all past = entries_done s t version chunk value entry n past all.whole

-- one step more of a list of events
pub events_more : (s t : PmemState) (step first rest : List Event) (whole : PmemState) → Appends s t step → first ≡ step ++ rest → appended s first ≡ whole → appended t rest ≡ whole
events_more s t step first rest whole done is all = ap (λ (p : PmemState). appended p rest) done.state ∙ appended_append s step rest ∙ ap (appended s) (sym is) ∙ all

-- all of it is done
pub events_done : (s t : PmemState) (rest all : List Event) → rest ≡ [] → appended t rest ≡ appended s all → Appends s t all
events_done s t rest all none whole = Appends-state s t all (sym (appended_none t) ∙ ap (appended t) (sym none) ∙ whole)

-- the first of a list that is gone through is next, and then the others
pub next_value : (live now : List ℕ) (entry word : ℕ) → now ≡ drop entry live → word ≡ get_or now 0 0 → word ≡ get_or live entry 0
next_value live now entry word is here = let e : entry + 0 ≡ entry = omega arith in here ∙ ap (λ ws. get_or ws 0 0) is ∙ get_or-drop entry live 0 0 ∙ ap (λ i. get_or live i 0) e

pub next_rest : (live now behind : List ℕ) (entry : ℕ) → now ≡ drop entry live → behind ≡ drop 1 now → behind ≡ drop (entry + 1) live
next_rest live now behind entry is here = here ∙ ap (drop 1) is ∙ drop-drop 1 entry live

-- a list of none
pub none_value : (entry : ℕ) → 0 ≡ slice_index [] entry
none_value zero = refl
none_value (suc entry) = refl
