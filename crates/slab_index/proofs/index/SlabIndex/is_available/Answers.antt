use Rattle.std.proofs.Common.{◌+◌, ◌*◌, ⊎_elim, inl, inr, sym, ap, ◌∙◌, arith}
use Rattle.bit_words.specs.Numbers.{has}
use Rattle.slab_index.proofs.Views.{available_within, none_outside}
use Rattle.slab_index.proofs.index.SlabIndex.is_available.Goals as goal

pub returns-then-start-self : goal.returns-then-start-self
returns-then-start-self c =
    sym (none_outside c.self.view_is c.self.invariant c.args.start c.args.number (⊎_elim (λ past. inl past) (λ past. inr past.1) c.then-start-self.either))

pub returns : goal.returns
returns c = c.has.ensures ∙ ap (λ words. has words (4096 * c.args.start + c.args.number)) c.deref.ensures.value ∙ sym (available_within c.self.view_is c.args.start c.args.number (omega arith))
