-- What was read of a source is what it had left.
use Rattle.std.proofs.Common.{◌≡◌, ℕ, ◌+◌, List, [], ◌++◌, length, length-append, Option, Some, None, sym, ap, ◌∙◌, subst, arith}
use Rattle.std.proofs.lemmas.List.{append-nil}
use Rattle.program_io.specs.Streams.{Gives}
use Rattle.program_io.specs.Inputs.{HasLeft, HasRead, HasReadMore}

-- of a source that told its bytes
gives_all : (input after read : List ℕ) → input ≡ read ++ after → after ≡ [] → read ≡ input
gives_all input after read is none = sym (append-nil read) ∙ ap (λ (rest : List ℕ). read ++ rest) (sym none) ∙ sym is

pub one_input : (limit : Option ℕ) (left after : Option (List ℕ)) (input read : List ℕ) → HasLeft limit left input → HasRead limit left after read → read ≡ input
one_input None left after input read has was = was.0 ∙ sym has
one_input (Some n) left None input read has was =
    let gives : Gives (Some input) None read = subst (λ (o : Option (List ℕ)). Gives o None read) has.0 was.0.gives in
    absurd gives
one_input (Some n) left (Some after) input read has was =
    let gives : Gives (Some input) (Some after) read = subst (λ (o : Option (List ℕ)). Gives o (Some after) read) has.0 was.0.gives in
    gives_all input after read gives was.0.ended

-- a source that had an input within the limit does not give more
pub not_more : (limit : Option ℕ) (left after : Option (List ℕ)) (input : List ℕ) → HasLeft limit left input → ¬ (HasReadMore limit left after)
not_more None left after input has more = more
not_more (Some n) left None input has more =
    let gives : Gives (Some input) None more.bytes = subst (λ (o : Option (List ℕ)). Gives o None more.bytes) has.0 more.gives in
    gives
not_more (Some n) left (Some after) input has more =
    let gives : Gives (Some input) (Some after) more.bytes = subst (λ (o : Option (List ℕ)). Gives o (Some after) more.bytes) has.0 more.gives in
    let many : length more.bytes ≡ n + 1 = more.many in
    omega (arith, has.1, many, ap length gives, length-append more.bytes after)
