-- A line of a trace says one thing, so a text says one trace, or has one refused line.
use Rattle.std.proofs.Common.{◌≡◌, ◌⊎◌, ℕ, ◌<◌, ◌≤◌, ◌^◌, List, [], ◌∷◌, ◌++◌, length, refl, sym, ◌∙◌, ap, inl, inr, arith}
use Rattle.pool_layout.proofs.Layouts.{version_cases}
use Rattle.std.proofs.lemmas.List.{append_cancel_left}
use Rattle.std.specs.Prelude.{decimal}
use Rattle.std.specs.Str.Parse.{AllDigits}
use Rattle.std.proofs.lemmas.Str.Parse.{digit_from_value}
use Rattle.std.proofs.lemmas.Fmt.{decimal_is_IsNumeral, decimal_injective}
use Rattle.heap_model.specs.declared.call.Call.{Call}
use Rattle.heap_model.specs.declared.call.Call.TheVariants.{Malloc, Free, Write, Read, Move}
use Rattle.trace_text.specs.declared.call.PoolSize.{PoolSize}
use Rattle.trace_text.specs.declared.call.TraceCall.{TraceCall}
use Rattle.trace_text.specs.Words.{call_text}
use Rattle.trace_text.specs.Texts.{IsPassedOver, IsClear}
use Rattle.trace_text.specs.Grammar.{pool_word, pool_sizes, trace_lines, still_lines, IsAsked, IsPoolLine, IsCallLine}
use Rattle.trace_text.specs.Laws.{LawOfOneTrace, LawOfNoRefusal, LawOfOneRefusal, LawOfOneStillTrace, LawOfNoStillRefusal, LawOfOneStillRefusal}
use Rattle.trace_text.proofs.Pools.{one_version, one_size}
use Rattle.trace_text.proofs.OneText.{same_letter, law_of_one_text, law_of_none_outside, law_of_one_outside}
use Rattle.trace_text.proofs.CallLines.{same_field, same_three, call_words, behind_arena}

-- a line that is passed over says no pool, since both words begin with the same letter
no_pool_word : (version : ℕ) (line words : List ℕ) → (version ≡ 1) ⊎ (version ≡ 2) → IsPassedOver line → line ≡ pool_word version ++ words → ⊥
no_pool_word version [] words (inl one) passed is = let e : [] ≡ pool_word 1 ++ words = is ∙ ap (λ v. pool_word v ++ words) one in cc
no_pool_word version [] words (inr two) passed is = let e : [] ≡ pool_word 2 ++ words = is ∙ ap (λ v. pool_word v ++ words) two in cc
no_pool_word version (byte ∷ line) words (inl one) passed is =
    let e : byte ∷ line ≡ pool_word 1 ++ words = is ∙ ap (λ v. pool_word v ++ words) one in
    let same : byte ≡ 112 = cc in
    omega (arith, same, passed)
no_pool_word version (byte ∷ line) words (inr two) passed is =
    let e : byte ∷ line ≡ pool_word 2 ++ words = is ∙ ap (λ v. pool_word v ++ words) two in
    let same : byte ≡ 112 = cc in
    omega (arith, same, passed)

no_pool_passed : (line : List ℕ) (pool : PoolSize) → IsPassedOver line → ¬ (IsPoolLine line pool)
no_pool_passed line pool passed says = no_pool_word pool.version line (pool_sizes pool) (version_cases pool.version says.valid.version) passed says.text

-- numerals do not begin with `#`
no_digit_passed : (digits rest line : List ℕ) → 0 < length digits → AllDigits 10 digits → line ≡ digits ++ rest → ¬ (IsPassedOver line)
no_digit_passed [] rest line some digits is passed = absurd (omega arith)
no_digit_passed (d ∷ ds) rest [] some digits is passed = cc
no_digit_passed (d ∷ ds) rest (byte ∷ line) some digits is passed = let same : byte ≡ d = cc in let r = digit_from_value d digits.0 in omega (arith, same, passed, r.0)

-- a line that is passed over makes no call
no_call_passed : (arenas : ℕ) (line : List ℕ) (call : TraceCall) → IsPassedOver line → ¬ (IsCallLine arenas line call)
no_call_passed arenas line call passed makes =
    let numeral = decimal_is_IsNumeral call.thread (omega (arith, makes.valid.thread)) in
    no_digit_passed (decimal call.thread) _ line numeral.0.0 numeral.0.1 (call_words arenas line call makes) passed

-- a line says one pool
one_pool : (line : List ℕ) (m n : PoolSize) → IsPoolLine line m → IsPoolLine line n → m ≡ n
one_pool line m n p q =
    let version = one_version n.version line (pool_sizes n) m (version_cases n.version q.valid.version) q.text p in
    let same : pool_word n.version ++ pool_sizes m ≡ pool_word n.version ++ pool_sizes n = sym (ap (λ v. pool_word v ++ pool_sizes m) version) ∙ sym p.text ∙ q.text in
    one_size m n p.valid q.valid version (append_cancel_left (pool_word n.version) (pool_sizes m) (pool_sizes n) same)

-- two calls of traces with one text are one
one_asked : (a b : Call) → IsAsked a → IsAsked b → call_text a ≡ call_text b → a ≡ b
one_asked (Malloc r s) (Malloc t u) p q e =
    let words : decimal r ++ 32 ∷ decimal s ≡ decimal t ++ 32 ∷ decimal u = cc in
    let h = same_field (decimal t ++ 32 ∷ decimal u) r t (decimal s) (decimal u) (omega (arith, p.0)) (omega (arith, q.0)) (sym words) refl in
    let root : r ≡ t = h.0 in
    let size : s ≡ u = decimal_injective s u (omega (arith, p.1)) (omega (arith, q.1)) h.1 in
    cc
one_asked (Malloc r s) (Free t) p q e = absurd (omega (arith, same_letter 109 102 _ _ e))
one_asked (Free r) (Malloc t u) p q e = absurd (omega (arith, same_letter 102 109 _ _ e))
one_asked (Free r) (Free t) p q e =
    let words : decimal r ≡ decimal t = cc in
    let root : r ≡ t = decimal_injective r t (omega (arith, p)) (omega (arith, q)) words in
    cc
one_asked (Malloc r s) (Write t i v) p q e = absurd (omega (arith, same_letter 109 119 _ _ e))
one_asked (Malloc r s) (Read t i) p q e = absurd (omega (arith, same_letter 109 114 _ _ e))
one_asked (Malloc r s) (Move t i) p q e = absurd (omega (arith, same_letter 109 118 _ _ e))
one_asked (Free r) (Write t i v) p q e = absurd (omega (arith, same_letter 102 119 _ _ e))
one_asked (Free r) (Read t i) p q e = absurd (omega (arith, same_letter 102 114 _ _ e))
one_asked (Free r) (Move t i) p q e = absurd (omega (arith, same_letter 102 118 _ _ e))
one_asked (Write r i v) (Malloc t u) p q e = absurd (omega (arith, same_letter 119 109 _ _ e))
one_asked (Write r i v) (Free t) p q e = absurd (omega (arith, same_letter 119 102 _ _ e))
one_asked (Write r i v) (Write t j w) p q e =
    let words : decimal r ++ 32 ∷ decimal i ++ 32 ∷ decimal v ≡ decimal t ++ 32 ∷ decimal j ++ 32 ∷ decimal w = cc in
    let h = same_three (decimal t ++ 32 ∷ decimal j ++ 32 ∷ decimal w) r i v t j w p q (sym words) refl in
    let root : r ≡ t = h.0 in
    let index : i ≡ j = h.1 in
    let value : v ≡ w = decimal_injective v w (omega (arith, p.2)) (omega (arith, q.2)) h.2 in
    cc
one_asked (Write r i v) (Read t j) p q e = absurd (omega (arith, same_letter 119 114 _ _ e))
one_asked (Write r i v) (Move t j) p q e = absurd (omega (arith, same_letter 119 118 _ _ e))
one_asked (Read r i) (Malloc t u) p q e = absurd (omega (arith, same_letter 114 109 _ _ e))
one_asked (Read r i) (Free t) p q e = absurd (omega (arith, same_letter 114 102 _ _ e))
one_asked (Read r i) (Write t j v) p q e = absurd (omega (arith, same_letter 114 119 _ _ e))
one_asked (Read r i) (Read t j) p q e =
    let words : decimal r ++ 32 ∷ decimal i ≡ decimal t ++ 32 ∷ decimal j = cc in
    let h = same_field (decimal t ++ 32 ∷ decimal j) r t (decimal i) (decimal j) (omega (arith, p.0)) (omega (arith, q.0)) (sym words) refl in
    let root : r ≡ t = h.0 in
    let index : i ≡ j = decimal_injective i j (omega (arith, p.1)) (omega (arith, q.1)) h.1 in
    cc
one_asked (Read r i) (Move t j) p q e = absurd (omega (arith, same_letter 114 118 _ _ e))
one_asked (Move r i) (Malloc t u) p q e = absurd (omega (arith, same_letter 118 109 _ _ e))
one_asked (Move r i) (Free t) p q e = absurd (omega (arith, same_letter 118 102 _ _ e))
one_asked (Move r i) (Write t j v) p q e = absurd (omega (arith, same_letter 118 119 _ _ e))
one_asked (Move r i) (Read t j) p q e = absurd (omega (arith, same_letter 118 114 _ _ e))
one_asked (Move r i) (Move t j) p q e =
    let words : decimal r ++ 32 ∷ decimal i ≡ decimal t ++ 32 ∷ decimal j = cc in
    let h = same_field (decimal t ++ 32 ∷ decimal j) r t (decimal i) (decimal j) (omega (arith, p.0)) (omega (arith, q.0)) (sym words) refl in
    let root : r ≡ t = h.0 in
    let other : i ≡ j = decimal_injective i j (omega (arith, p.1)) (omega (arith, q.1)) h.1 in
    cc

-- calls that agree in all parts are one
same_call : (a b : TraceCall) → a.thread ≡ b.thread → a.arena ≡ b.arena → a.call ≡ b.call → a ≡ b
same_call a b thread arena call = λ i. record { thread = thread i; arena = arena i; call = call i }

-- a line makes one call
pub one_call : (arenas : ℕ) (line : List ℕ) (a b : TraceCall) → arenas ≤ 2 ^ 32 → IsCallLine arenas line a → IsCallLine arenas line b → a ≡ b
one_call arenas line a b few p q =
    let first = call_words arenas line a p in
    let thread = (same_field line a.thread b.thread _ _ (omega (arith, p.valid.thread)) (omega (arith, q.valid.thread)) first (call_words arenas line b q)).0 in
    let rest = behind_arena arenas line a.thread a.arena _ (call_text a.call) b few (omega (arith, p.valid.thread)) p.valid.arena first refl q in
    same_call a b thread rest.0 (one_asked a.call b.call p.valid.asked q.valid.asked rest.1)

-- the grammar of traces is clear
trace_is_clear : IsClear trace_lines
trace_is_clear = record {
  no_head = no_pool_passed;
  no_call = λ pool. no_call_passed pool.arenas;
  one_head = one_pool;
  one_call = λ first pool line a b says. one_call pool.arenas line a b (omega (arith, says.valid.few));
}

-- a text says one trace at most
pub law_of_one_trace : LawOfOneTrace
law_of_one_trace = law_of_one_text trace_lines trace_is_clear

-- a trace has no refused line
pub law_of_no_refusal : LawOfNoRefusal
law_of_no_refusal = law_of_none_outside trace_lines trace_is_clear

-- a text has one refused line at most
pub law_of_one_refusal : LawOfOneRefusal
law_of_one_refusal = law_of_one_outside trace_lines trace_is_clear

-- so is that of traces without moves
still_is_clear : IsClear still_lines
still_is_clear = record {
  no_head = λ line pool passed says. trace_is_clear.no_head line pool passed says.0;
  no_call = λ pool line call passed says. trace_is_clear.no_call pool line call passed says.0;
  one_head = λ line pool other says also. trace_is_clear.one_head line pool other says.0 also.0;
  one_call = λ first pool line a b says one other. trace_is_clear.one_call first pool line a b says.0 one.0 other.0;
}

pub law_of_one_still_trace : LawOfOneStillTrace
law_of_one_still_trace = law_of_one_text still_lines still_is_clear

pub law_of_no_still_refusal : LawOfNoStillRefusal
law_of_no_still_refusal = law_of_none_outside still_lines still_is_clear

pub law_of_one_still_refusal : LawOfOneStillRefusal
law_of_one_still_refusal = law_of_one_outside still_lines still_is_clear
