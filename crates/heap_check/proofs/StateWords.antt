-- The state word of a valid slab.
use Rattle.std.proofs.Common.{◌≡◌, ◌/◌, ◌%◌, ◌^◌, ℕ, true, List, subst, ◌∙◌, arith}
use Rattle.heap_check.proofs.Common.{cond-true, word_at, IsState, HasStateBits, IsStateWord, is_slab, state_word, state_field, tables_of, slab_fields}
use Rattle.heap_check.specs.Sound.{IsValidSlab}

same_state : {kind class old n a c o e : ℕ} → kind ≡ a → class ≡ c → old ≡ o → n ≡ e → IsState kind class old n → IsState a c o e
same_state {kind} {class} {old} {n} {a} {c} {o} {e} x y z w state =
    subst (λ k. IsState k c o e) x (subst (λ k. IsState kind k o e) y (subst (λ k. IsState kind class k e) z (subst (λ k. IsState kind class old k) w state)))

-- is one
pub IsStateWord-valid : (words : List ℕ) (start : ℕ) → is_slab words start ≡ true → HasStateBits (word_at words (state_word start)) → IsValidSlab ((tables_of words).header start) → IsStateWord (word_at words (state_word start))
IsStateWord-valid words start slab bits valid =
    let w = word_at words (state_word start) in
    let field : (bits : ℕ) → state_field words start bits ≡ w / 2 ^ bits % 2 ^ 8 = λ bits. cond-true (is_slab words start) (w / 2 ^ bits % 2 ^ 8) 0 slab in
    record {
      small = bits;
      state = same_state ((slab_fields words start).kind ∙ field 0 ∙ omega arith) ((slab_fields words start).class ∙ field 8) ((slab_fields words start).old ∙ field 16) ((slab_fields words start).index_count ∙ field 24) valid.state;
    }
