-- A valid header is so still while the slab takes another class.
use Rattle.std.proofs.Common.{◌≡◌, ◌≢◌, ◌<◌, inl, inr, ℕ, List, length, get_or, refl, sym, ap, ◌∙◌, subst, arith}
use Rattle.slab_morph.proofs.Common.{class_capacity, word_at, normal_kind, morphing_kind, IsState, IsStateWord, IsIndexWord, state_word, index_word, SlabHeader, IsValidSlab}
use Rattle.slab_morph.specs.SlabHeaders.{header_at}
use Rattle.slab_morph.specs.Stages.{IsSameState, set_numbers, morphing, finished, settled, IsOffState, IsOffBitmap, IsOffIndex, IsValidHeader}
use Rattle.slab_morph.proofs.Numbers.{numbers_pass, numbers_once}
use Rattle.slab_morph.proofs.HeaderWords.{header_off_index, header_off_bitmap}
use Rattle.slab_morph.proofs.Holding.{in_place}

-- the fields of the state, and the numbers of the index table, as another header has them
slab_by : (start : ℕ) (h g : SlabHeader) → IsSameState h g → ((place : ℕ) → place < h.index_count → g.number place ≡ h.number place) →
    IsValidSlab h → IsValidSlab g
slab_by start h g same numbers valid = record {
  state = subst (λ (k : ℕ). IsState k g.class g.old g.index_count) (sym same.kind) (subst (λ (c : ℕ). IsState h.kind c g.old g.index_count) (sym same.class) (subst (λ (o : ℕ). IsState h.kind h.class o g.index_count) (sym same.old) (subst (λ (n : ℕ). IsState h.kind h.class h.old n) (sym same.index_count) valid.state)));
  small = λ place below.
      let less : place < h.index_count = omega (arith, below, same.index_count) in
      subst (λ (o : ℕ). g.number place < class_capacity o) (sym same.old) (subst (λ (n : ℕ). n < class_capacity h.old) (sym (numbers place less)) (valid.small place less));
  once = λ place other below under equal.
      let less : place < h.index_count = omega (arith, below, same.index_count) in
      let lower : other < h.index_count = omega (arith, under, same.index_count) in
      valid.once place other less lower (sym (numbers place less) ∙ equal ∙ numbers other lower);
}

-- a slab without index entries
slab_none : (start : ℕ) (g : SlabHeader) → IsState g.kind g.class g.old g.index_count → g.index_count ≡ 0 → IsValidSlab g
slab_none start g state none = record {
  state = state;
  small = λ place below. absurd (omega (arith, below, none));
  once = λ place other below under equal. absurd (omega (arith, below, none));
}

-- in Morphing
slab_morphing : (start class : ℕ) (h : SlabHeader) → h.kind ≡ normal_kind → h.index_count ≡ 0 → IsState morphing_kind class h.class (length (set_numbers h)) → IsValidSlab (morphing h class)
slab_morphing start class h normal none state =
    let number : (place : ℕ) → place < length (set_numbers h) → (morphing h class).number place ≡ get_or (set_numbers h) place 0 = in_place start class h normal none in
    record {
      state = state;
      small = λ place below. subst (λ (n : ℕ). n < class_capacity h.class) (sym (number place below)) (numbers_pass h.bit (class_capacity h.class) place below).below;
      once = λ place other below under same.
          numbers_once h.bit (class_capacity h.class) place other below under (sym (number place below) ∙ same ∙ number other under);
    }

-- a valid header, as words have it

-- its bitmap differs
pub valid_bitmap : (words image : List ℕ) (start : ℕ) → IsOffBitmap words start image → IsValidHeader words start → IsValidHeader image start
valid_bitmap words image start off valid =
    let same = header_off_bitmap words image start off in
    record {
      state = subst IsStateWord (sym (off.others (state_word start) (inl (omega arith)))) valid.state;
      index = λ place below. subst IsIndexWord (sym (off.others (index_word start place) (inr (omega arith)))) (valid.index place (omega (arith, below, same.state.index_count)));
      slab = slab_by start (header_at words start) (header_at image start) same.state (λ place below. ap (λ (f : ℕ → ℕ). f place) same.number) valid.slab;
    }

-- the index table of one without entries differs
pub valid_index : (words image : List ℕ) (start : ℕ) → IsOffIndex words start image → (header_at words start).index_count ≡ 0 → IsValidHeader words start → IsValidHeader image start
valid_index words image start off none valid =
    let same = header_off_index words image start off in
    let empty : (header_at image start).index_count ≡ 0 = same.state.index_count ∙ none in
    record {
      state = subst IsStateWord (sym (off.others (state_word start) (inl (omega arith)))) valid.state;
      index = λ place below. absurd (omega (arith, below, empty));
      slab = slab_by start (header_at words start) (header_at image start) same.state (λ place below. absurd (omega (arith, below, none))) valid.slab;
    }

-- its state word says something else
pub valid_state : (words image : List ℕ) (start : ℕ) → IsOffState words start image → IsStateWord (word_at image (state_word start)) →
    ((place : ℕ) → place < (header_at image start).index_count → IsIndexWord (word_at words (index_word start place))) → IsValidSlab (header_at image start) → IsValidHeader image start
valid_state words image start off state index slab = record {
  state = state;
  index = λ place below. subst IsIndexWord (sym (off.others (index_word start place) (inr (omega arith)))) (index place below);
  slab = slab;
}

-- Morphing
pub valid_morphing : (indexed told : List ℕ) (start class : ℕ) (h : SlabHeader) → IsOffState indexed start told → IsStateWord (word_at told (state_word start)) → header_at told start ≡ morphing h class →
    ((place : ℕ) → place < length (set_numbers h) → IsIndexWord (word_at indexed (index_word start place))) → h.kind ≡ normal_kind → h.index_count ≡ 0 → IsState morphing_kind class h.class (length (set_numbers h)) → IsValidHeader told start
valid_morphing indexed told start class h off state is index normal none fields =
    valid_state indexed told start off state (λ place below. index place (omega (arith, below, ap (λ (g : SlabHeader). g.index_count) is)))
    (subst (λ (g : SlabHeader). IsValidSlab g) (sym is) (slab_morphing start class h normal none fields))

-- Morphed
pub valid_finished : (cleared new : List ℕ) (start : ℕ) → IsOffState cleared start new → IsStateWord (word_at new (state_word start)) → (header_at cleared start).kind ≡ morphing_kind →
    header_at new start ≡ finished (header_at cleared start) → IsValidHeader cleared start → IsValidHeader new start
valid_finished cleared new start off state kind is valid =
    let h = header_at cleared start in
    let was = valid.slab.state in
    let way : h.kind ≢ normal_kind = λ e. omega (arith, e, kind) in
    let slab : IsValidSlab (finished h) = record {
      state = record { kinds = inr (inr refl); is_class = was.is_class; is_old_class = was.is_old_class; none = λ e. absurd (omega (arith, e)); differ = λ _. was.differ way; number = λ _. was.number way };
      small = valid.slab.small;
      once = valid.slab.once;
    } in
    valid_state cleared new start off state (λ place below. valid.index place (omega (arith, below, ap (λ (g : SlabHeader). g.index_count) is)))
    (subst (λ (g : SlabHeader). IsValidSlab g) (sym is) slab)

-- Normal
pub valid_settled : (words new : List ℕ) (start : ℕ) → IsOffState words start new → IsStateWord (word_at new (state_word start)) → header_at new start ≡ settled (header_at words start) → IsValidHeader words start → IsValidHeader new start
valid_settled words new start off state is valid =
    let h = header_at words start in
    let was = valid.slab.state in
    let slab : IsValidSlab (settled h) = slab_none start (settled h)
    (record { kinds = inl refl; is_class = was.is_class; is_old_class = omega arith; none = λ _. (refl, refl); differ = λ some. absurd (some refl); number = λ some. absurd (some refl) })
    refl in
    valid_state words new start off state (λ place below. absurd (omega (arith, below, ap (λ (g : SlabHeader). g.index_count) is)))
    (subst (λ (g : SlabHeader). IsValidSlab g) (sym is) slab)
