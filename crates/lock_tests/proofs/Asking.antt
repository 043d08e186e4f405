-- Requests that are refused: they leave the state, and are what a number gains in its turns.
use Rattle.std.proofs.Common.{◌≡◌, ℕ, ◌≤◌, Bool, if◌then◌else◌, inl, inr, List, [], ◌∷◌, ◌++◌, refl, ap, sym, ◌∙◌, subst, arith, eq-eqb, Ok}
use Rattle.heap_model.specs.declared.call.Entry.{Entry}
use Rattle.heap_model.specs.Machine.{Bounds}
use Rattle.heap_model.specs.Placement.{PlacedState, IsPlacedStep}
use Rattle.heap_model.specs.Journal.{Leads, IsPlacedEntry}
use Rattle.heap_check.specs.Image.{bounds_of}
use Rattle.pool_layout.specs.Layout.{IsLayout, layout_of}
use Rattle.pool_layout.specs.Header.{version_in}
use Rattle.pool_layout.proofs.Layouts.{layout_rules}
use Rattle.arena_lock.specs.Journal.{calls_by, calls_of}
use Rattle.arena_lock.specs.Legality.{IsLegal, no_opening, opening_words}
use Rattle.arena_lock.specs.Known.{Known, Turned}
use Rattle.arena_lock.proofs.Entries.{calls_by-append}
use Rattle.lock_tests.specs.Tally.{refusal, Asks}
use Rattle.heap_model.specs.declared.call.Call.TheVariants.{Malloc}
use Rattle.heap_model.specs.declared.call.Reply.TheVariants.{NoRoot}
use Rattle.pool_layout.specs.declared.layout.Layout.{Layout}

-- no arena has so many roots
few_roots : (layout : Layout) → IsLayout layout → layout.roots ≤ 4294967295
few_roots layout rules = omega (arith, rules.roots, rules.heap, rules.some_granule, rules.range, rules.most)

-- a root that is none is refused, and the state stays
refused : (b : Bounds) (s : PlacedState) (seat size : ℕ) → b.roots ≤ 4294967295 → IsPlacedStep b seat s (Malloc 4294967295 size) NoRoot s
refused b s seat size few = record { step = inl (few, (refl, refl)); stacked = inr (λ gave. let no_block = gave.is in cc, refl) }

-- an empty journal is legal
pub nothing_asked : IsLegal no_opening []
nothing_asked = (_, refl)

-- one more entry that leaves the state
leads_more : (b : Bounds) (s last : PlacedState) (entries : List Entry) (e : Entry) → Leads (IsPlacedEntry b) s entries last → IsPlacedStep b e.seat last e.call e.reply last → Leads (IsPlacedEntry b) s (entries ++ e ∷ []) last
leads_more b s last [] e h stays = let P : PlacedState → Type 0 = λ z. IsPlacedStep b e.seat z e.call e.reply last in (last, subst P h stays, refl)
leads_more b s last (x ∷ xs) e h stays = (h.0, h.1, leads_more b h.0 last xs e h.2 stays)

-- a journal from a memory without words stays legal
pub asked_more : (journal : List Entry) (seat size : ℕ) → IsLegal no_opening journal → IsLegal no_opening (journal ++ refusal seat size ∷ [])
asked_more journal seat size h =
    let words : List ℕ = opening_words no_opening in
    let few = few_roots (layout_of (version_in words)) (layout_rules (version_in words)) in
    (h.0, leads_more (bounds_of words) _ h.0 journal (refusal seat size) h.1 (refused (bounds_of words) h.0 seat size few))

-- the entries of a number with one more of it
one_more : (n size : ℕ) (journal : List Entry) → calls_by n (journal ++ refusal n size ∷ []) ≡ calls_by n journal ++ refusal n size ∷ []
one_more n size journal = calls_by-append n journal (refusal n size ∷ []) ∙ ap (λ (b : Bool). calls_by n journal ++ (if b then refusal n size ∷ [] else [])) (eq-eqb n n refl)

-- a turn in which a seat of one number asked: its number gained the entry
pub turned_once : {E : Type 0} (n size place : ℕ) (v w : Known) (calls : List Entry) → v.numbers ≡ n ∷ [] → v.mine ≡ calls ∷ [] → Turned n (λ before after out. Asks {E = E} n size before after out) v w (Ok place) → w.mine ≡ (calls ++ refusal n size ∷ []) ∷ []
turned_once n size place v w calls is mine t =
    let before : calls_by n t.before ∷ [] ≡ calls ∷ [] = ap (calls_of t.before) (sym is) ∙ (t.begins.mine ∙ mine) in
    let gained : calls_by n w.seen ≡ calls ++ refusal n size ∷ [] = ap (calls_by n) t.relates.0 ∙ (one_more n size t.before ∙ ap (λ (l : List Entry). l ++ refusal n size ∷ []) (cc (before))) in
    ap (λ (k : Known). k.mine) t.seat ∙ (ap (calls_of w.seen) is ∙ ap (λ (l : List Entry). l ∷ []) gained)
