-- What is known of a slab that may take a class.
use Rattle.std.proofs.Common.{◌≡◌, ◌∙◌, ◌<◌, ◌≤◌, inl, inr, ℕ, List, length, refl, sym, ap, subst, arith}
use Rattle.slab_morph.proofs.Common.{morphing_kind, IsState, SlabState, Morphing, class_of, IsValidState, SlabHeader}
use Rattle.slab_morph.specs.SlabHeaders.{header_at, HasStateWord}
use Rattle.slab_morph.specs.Stages.{numbers_of, set_numbers, IsMorphable}
use Rattle.slab_morph.proofs.Fitting.{fit_few, fit_differs, valid_header}

module _ {words : List ℕ} {start class own : ℕ} {state : SlabState} (may : IsMorphable words start class) (is : HasStateWord (header_at words start) state) (valid : IsValidState state) (own_class : own ≡ class_of state) where
  abbrev h : SlabHeader
  h = header_at words start

  fields : IsState h.kind h.class h.old h.index_count
  fields = valid_header h state is valid

  -- its index table is not read
  pub no_entries : h.index_count ≡ 0
  no_entries = (fields.none may.normal).1

  pub own_is : own ≡ h.class
  own_is = own_class ∙ sym is.class

  -- the blocks that it holds
  pub numbers_are : numbers_of h own ≡ set_numbers h
  numbers_are = ap (numbers_of h) own_is

  pub few_set : length (set_numbers h) ≤ 64
  few_set = fit_few h start (λ place below. absurd (omega (arith, below, no_entries))) class (λ e. omega (arith, e, may.normal)) may.fit

  pub few_numbers : length (numbers_of h own) ≤ 64
  few_numbers = omega (arith, few_set, ap length numbers_are)

  -- the state on its way to the class
  pub on_its_way : (entries : ℕ) → class < 36 → entries ≡ length (numbers_of h own) → Morphing class own entries ≡ Morphing class h.class (length (set_numbers h))
  on_its_way entries below count = λ i. Morphing class (own_is i) ((count ∙ ap length numbers_are) i)

  pub valid_on_its_way : (entries : ℕ) → class < 36 → entries ≡ length (numbers_of h own) → IsState morphing_kind class own entries
  valid_on_its_way entries below count = record {
    kinds = inr (inl refl);
    is_class = below;
    is_old_class = omega (arith, own_is, fields.is_class);
    none = λ e. absurd (omega (arith, e));
    differ = λ some same. fit_differs h start class may.fit (sym own_is ∙ same);
    number = λ some. (omega (arith, count, ap length numbers_are, may.some), omega (arith, count, few_numbers));
  }

  -- the same by what the header says
  pub valid_morphing : class < 36 → IsState morphing_kind class h.class (length (set_numbers h))
  valid_morphing below =
      subst (λ (n : ℕ). IsState morphing_kind class h.class n) (ap length numbers_are)
      (subst (λ (d : ℕ). IsState morphing_kind class d (length (numbers_of h own))) own_is (valid_on_its_way (length (numbers_of h own)) below refl))
