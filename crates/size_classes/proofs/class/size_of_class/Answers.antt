use Rattle.std.proofs.Common.{◌≡◌, ◌<◌, ◌+◌, ◌*◌, ℕ, sym, ◌∙◌, ap}
use Rattle.size_classes.specs.Classes.{class_size}
use Rattle.size_classes.proofs.Spacing.{class_size-low, class_size-shifted, spaced}
use Rattle.size_classes.proofs.class.size_of_class.Goals as goal

low : (class from : ℕ) → class < 8 → from ≡ class → 16 * (from + 1) ≡ class_size class
low class from below is = ap (λ x. 16 * (x + 1)) is ∙ sym (class_size-low class below)

pub returns-then-class-lt8-clause-size : goal.returns-then-class-lt8-clause-size
returns-then-class-lt8-clause-size c = low c.args.class _ c.if-class-lt8.true c.from.ensures

pub returns-then-class-lt8-clause-spaced : goal.returns-then-class-lt8-clause-spaced
returns-then-class-lt8-clause-spaced c = spaced c.args.class _ c.requires (low c.args.class _ c.if-class-lt8.true c.from.ensures)

pub returns-clause-size : goal.returns-clause-size
returns-clause-size c = class_size-shifted c.args.class _ c.if-class-lt8.false c.requires c.from-2.ensures

pub returns-clause-spaced : goal.returns-clause-spaced
returns-clause-spaced c = spaced c.args.class _ c.requires (class_size-shifted c.args.class _ c.if-class-lt8.false c.requires c.from-2.ensures)
