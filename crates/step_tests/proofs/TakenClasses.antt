-- A slab of which a state was read may take a class, is on its way to one, or has no old block left.
use Rattle.std.proofs.Common.{◌≡◌, ◌%◌, ◌<◌, ◌≤◌, ◌∙◌, ℕ, true, false, eqb, List, sym, ap, subst, arith}
use Rattle.step_tests.proofs.Common.{class_capacity, word_at}
use Rattle.image_tables.specs.Forms.{IsStateWord}
use Rattle.image_tables.specs.Tables.{state_word, index_word, slab_bit, bit_of_word}
use Rattle.slab_header.specs.declared.state.SlabState.{SlabState}
use Rattle.slab_header.specs.declared.state.SlabState.TheVariants.{Normal, Morphing, Morphed}
use Rattle.slab_header.specs.State.{kind_of, class_of, entries_of, IsWordOfState, SaysOfState}
use Rattle.slab_header.proofs.Entries.{bit_of_word-lowest}
use Rattle.slab_morph.specs.SlabHeaders.{header_at, HasStateWord}
use Rattle.slab_morph.specs.Fitness.{IsFitHeader}
use Rattle.slab_morph.specs.Stages.{morph_count, IsMorphable, IsOnItsWay, IsDone}
use Rattle.slab_morph.proofs.Morphable.{few_set}
use Rattle.slab_morph.proofs.Numbers.{numbers_among}
use Rattle.slab_morph.proofs.Reading.{bit_by, live_read, state_read}

module _ (words : List ℕ) (start word : ℕ) (state : SlabState) (here : word ≡ word_at words (state_word start)) (says : SaysOfState word state) where
  has : HasStateWord (header_at words start) state
  has = state_read words start word state here says

  valid : IsStateWord (word_at words (state_word start))
  valid = subst IsStateWord here says.form

  pub on_its_way : {class old entries : ℕ} → state ≡ Morphing class old entries → IsOnItsWay words start
  on_its_way is = record { valid = valid; kind = has.kind ∙ ap kind_of is }

  pub none_left : {class old entries entry : ℕ} → state ≡ Morphed class old entries → entries ≡ 1 → entry ≡ word_at words (index_word start 0) → entry % 2 ≡ 0 → IsDone words start
  none_left {class} {old} {entries} {entry} is one there even = record {
    valid = valid;
    kind = has.kind ∙ ap kind_of is;
    none = λ place below.
        let first : 0 ≡ place = omega (arith, below, has.entries, ap entries_of is, one) in
        let dead : (header_at words start).live 0 ≡ false =
        live_read words start 0 (omega arith) ∙ ap (λ w. bit_of_word w 0) (sym there) ∙ bit_of_word-lowest entry ∙ ap (λ n. eqb n 1) even in
        subst (λ (p : ℕ). (header_at words start).live p ≡ false) first dead;
  }

  module _ (class number own : ℕ) (form : IsWordOfState word state) (normal : state ≡ Normal own) (below : number < class_capacity own) (small : number < 4096) (bit : true ≡ slab_bit words start number) (fit : IsFitHeader (header_at words start) start class) where
    pub may_take : IsMorphable words start class
    may_take =
        let h = header_at words start in
        let own_class : own ≡ h.class = sym (has.class ∙ ap class_of normal) in
        let among = numbers_among h.bit (class_capacity h.class) number (bit_by words start number true small bit) (subst (λ (c : ℕ). number < class_capacity c) own_class below) in
        record { valid = valid; normal = has.kind ∙ ap kind_of normal; some = omega (arith, among.below); fit = fit }

    pub takes_few : morph_count (header_at words start) ≤ 152
    takes_few = omega (arith, few_set may_take has form.valid (sym (ap class_of normal)))
