-- The calls that are drawn, one call further.
use Rattle.std.proofs.Common.{◌≡◌, ℕ, suc, ◌+◌, ◌-◌, ◌<◌, List, [], ◌∷◌, ◌++◌, sym, ap, ◌∙◌, arith}
use Rattle.std.proofs.lemmas.List.{append_assoc}
use Rattle.pmem_lines.specs.Picks.{drawn}
use Rattle.trace_text.specs.declared.call.TraceCall.{TraceCall}
use Rattle.trace_gen.specs.Draws.{call_of, drawn_from}

-- the first of some
drawn_first : (n more number state : ℕ) → n ≡ suc more → drawn_from n number state ≡ call_of number (drawn state).0 ∷ drawn_from more (suc number) (drawn state).1
drawn_first n more number state is = ap (λ k. drawn_from k number state) is

-- what is made and what is still to be drawn, after one call more
pub drawn_more : (calls : List TraceCall) (count number state : ℕ) → number < count →
    (calls ++ call_of number (drawn state).0 ∷ []) ++ drawn_from (count - (number + 1)) (number + 1) (drawn state).1 ≡ calls ++ drawn_from (count - number) number state
drawn_more calls count number state below =
    let next : number + 1 ≡ suc number = omega arith in
    let many : count - number ≡ suc (count - (number + 1)) = omega (arith, below) in
    append_assoc calls (call_of number (drawn state).0 ∷ []) (drawn_from (count - (number + 1)) (number + 1) (drawn state).1)
    ∙ ap (λ k. calls ++ call_of number (drawn state).0 ∷ drawn_from (count - (number + 1)) k (drawn state).1) next
    ∙ ap (λ (cs : List TraceCall). calls ++ cs) (sym (drawn_first (count - number) (count - (number + 1)) number state many))
