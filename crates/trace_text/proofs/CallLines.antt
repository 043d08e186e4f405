-- The words of a call line, one by one.
use Rattle.std.proofs.Common.{◌≡◌, ℕ, ◌<◌, ◌≤◌, ◌^◌, List, ◌∷◌, ◌++◌, ◌∙◌, refl, arith}
use Rattle.std.specs.Prelude.{decimal}
use Rattle.std.proofs.lemmas.List.{append_assoc}
use Rattle.trace_text.specs.declared.call.TraceCall.{TraceCall}
use Rattle.trace_text.specs.Words.{call_text}
use Rattle.trace_text.specs.Grammar.{IsCallLine}
use Rattle.trace_text.proofs.Numbers.{as_field, other_field}

-- one number before a space, and one rest
pub same_field : (line : List ℕ) (m n : ℕ) (x y : List ℕ) → m < 2 ^ 64 → n < 2 ^ 64 → line ≡ decimal m ++ 32 ∷ x → line ≡ decimal n ++ 32 ∷ y → (m ≡ n) × (x ≡ y)
same_field line m n x y p q d e =
    let h = other_field line m n (32 ∷ x) y (as_field line m x p d) q e in (h.0, let s : 32 ∷ x ≡ 32 ∷ y = h.1 in cc)

-- a call line, word by word
pub call_words : (arenas : ℕ) (line : List ℕ) (call : TraceCall) → IsCallLine arenas line call → line ≡ decimal call.thread ++ 32 ∷ (decimal call.arena ++ 32 ∷ call_text call.call)
call_words arenas line call is = is.text ∙ append_assoc (decimal call.thread) (32 ∷ decimal call.arena) (32 ∷ call_text call.call)

-- behind the thread
pub behind_thread : (arenas : ℕ) (line : List ℕ) (thread : ℕ) (rest : List ℕ) (call : TraceCall) → thread ≤ 63 → line ≡ decimal thread ++ 32 ∷ rest → IsCallLine arenas line call → rest ≡ decimal call.arena ++ 32 ∷ call_text call.call
behind_thread arenas line thread rest call le e is =
    (same_field line thread call.thread rest _ (omega arith) (omega (arith, is.valid.thread)) e (call_words arenas line call is)).1

-- the arena, and what stands behind it, in a pool of at most 16 arenas
pub behind_arena : (arenas : ℕ) (line : List ℕ) (thread arena : ℕ) (rest words : List ℕ) (call : TraceCall) → arenas ≤ 2 ^ 32 → thread ≤ 63 → arena < arenas → line ≡ decimal thread ++ 32 ∷ rest → rest ≡ decimal arena ++ 32 ∷ words → IsCallLine arenas line call →
    (arena ≡ call.arena) × (words ≡ call_text call.call)
behind_arena arenas line thread arena rest words call few le below d e is =
    same_field rest arena call.arena words _ (omega (arith, few, below)) (omega (arith, few, is.valid.arena)) e (behind_thread arenas line thread rest call le d is)

-- three numbers, and the space between them
pub behind_first : (line : List ℕ) (a b c : ℕ) → line ≡ decimal a ++ 32 ∷ decimal b ++ 32 ∷ decimal c → line ≡ decimal a ++ 32 ∷ (decimal b ++ 32 ∷ decimal c)
behind_first line a b c is = is ∙ append_assoc (decimal a) (32 ∷ decimal b) (32 ∷ decimal c)

-- they are said in one way
pub same_three : (line : List ℕ) (a b c x y z : ℕ) → (a < 2 ^ 32) × (b < 2 ^ 32) × (c < 2 ^ 64) → (x < 2 ^ 32) × (y < 2 ^ 32) × (z < 2 ^ 64) →
    line ≡ decimal a ++ 32 ∷ decimal b ++ 32 ∷ decimal c → line ≡ decimal x ++ 32 ∷ decimal y ++ 32 ∷ decimal z → (a ≡ x) × (b ≡ y) × (decimal c ≡ decimal z)
same_three line a b c x y z fits others is other =
    let h = same_field line a x (decimal b ++ 32 ∷ decimal c) (decimal y ++ 32 ∷ decimal z) (omega (arith, fits.0)) (omega (arith, others.0)) (behind_first line a b c is) (behind_first line x y z other) in
    let rest = same_field (decimal b ++ 32 ∷ decimal c) b y (decimal c) (decimal z) (omega (arith, fits.1)) (omega (arith, others.1)) refl h.1 in
    (h.0, rest.0, rest.1)
