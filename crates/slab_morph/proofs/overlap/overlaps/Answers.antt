use Rattle.std.proofs.Common.{◌≡◌, ◌+◌, ◌*◌, ◌/◌, ◌<◌, ◌≤◌, min, ℕ, sym, ap, subst, ◌∙◌}
use Rattle.std.specs.Int.{div_ceil}
use Rattle.size_classes.specs.Classes.{class_size, class_capacity}
use Rattle.slab_morph.specs.Overlaps.{IsOverlapRange}
use Rattle.slab_morph.proofs.Overlapping.{none_overlaps, some_overlap}
use Rattle.slab_morph.proofs.overlap.overlaps.Goals as goal

module _ {old number class width size blocks : ℕ} (is_old : old < 36) (is_class : class < 36) (wide : width ≡ class_size old) (sized : size ≡ class_size class) (many : blocks ≡ class_capacity class) where
  none : blocks ≤ number * width / size → IsOverlapRange old number class blocks blocks
  none past =
      subst (λ b. IsOverlapRange old number class b b) (sym many)
      (none_overlaps old number class is_old is_class
      (subst (λ s. class_capacity class ≤ number * class_size old / s) sized (subst (λ w. class_capacity class ≤ number * w / size) wide (subst (λ b. b ≤ number * width / size) many past))))

  some : {again end last : ℕ} → again ≡ class_size old → number * width / size < blocks → end ≡ div_ceil (number * width + again) size → last ≡ min end blocks → IsOverlapRange old number class (number * width / size) last
  some {again} {end} {last} wide_again inside ends is_last =
      let first : number * class_size old / class_size class ≡ number * width / size = λ i. number * (sym wide) i / (sym sized) i in
      let past : min (div_ceil (number * class_size old + class_size old) (class_size class)) (class_capacity class) ≡ last =
      (λ i. min (div_ceil (number * (sym wide) i + (sym wide_again) i) ((sym sized) i)) ((sym many) i)) ∙ ap (λ e. min e blocks) (sym ends) ∙ sym is_last in
      subst (λ f. IsOverlapRange old number class f last) first
      (subst (IsOverlapRange old number class (number * class_size old / class_size class)) past
      (some_overlap old number class is_old is_class
      (subst (λ b. number * class_size old / class_size class < b) many (subst (λ f. f < blocks) (sym first) inside))))

pub returns-then-first-blocks : goal.returns-then-first-blocks
returns-then-first-blocks c = none c.requires.old_class c.requires.class c.size_of_class.ensures.size c.size_of_class-size.ensures.size c.capacity-blocks.ensures.count c.if-first-blocks.true

pub returns : goal.returns
returns c = some c.requires.old_class c.requires.class c.size_of_class.ensures.size c.size_of_class-size.ensures.size c.capacity-blocks.ensures.count c.size_of_class-2.ensures.size c.if-first-blocks.false c.div_ceil-end.ensures c.min.ensures
