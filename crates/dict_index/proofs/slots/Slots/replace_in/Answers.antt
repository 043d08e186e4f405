use Rattle.std.proofs.Common.{◌<◌, length, subst, ap, sym, arith}
use Rattle.dict_index.specs.KeyRoots.{KeyRoots, LacksRoot}
use Rattle.dict_index.proofs.Replaced.{kept_replaced, has_replaced}
use Rattle.dict_index.proofs.slots.Slots.replace_in.Goals as goal

pub index_mut-requires : goal.index_mut-requires
index_mut-requires c =
    let s = c.self.inside in
    let at = rw (c.deref.ensures.value, c.deref-2.ensures.value) at c.in_ok-was.ensures in
    omega (arith, at.inside, c.self.invariant.roots_size, s.roots.ok.0)

pub invariant_of-self : goal.invariant_of-self
invariant_of-self c =
    let s = c.self.inside in
    let at = rw (c.deref.ensures.value, c.deref-2.ensures.value) at c.in_ok-was.ensures in
    let low : c.args.more.root < length s.keys.items = omega (arith, c.requires.root, ap (λ (m : KeyRoots). m.roots) c.self.view_is) in
    let fresh = subst (λ (m : KeyRoots). LacksRoot m c.args.more.root) (sym c.self.view_is) c.requires.fresh in
    kept_replaced s.count s.row.items s.keys.items s.roots.items c.self.invariant c.args.slot c.in_ok-was.was' c.args.more at low fresh

pub returns : goal.returns
returns c =
    let s = c.self.inside in
    let at = rw (c.deref.ensures.value, c.deref-2.ensures.value) at c.in_ok-was.ensures in
    let low : c.args.more.root < length s.keys.items = omega (arith, c.requires.root, ap (λ (m : KeyRoots). m.roots) c.self.view_is) in
    let fresh = subst (λ (m : KeyRoots). LacksRoot m c.args.more.root) (sym c.self.view_is) c.requires.fresh in
    rw (c.from.ensures, ← c.self.view_is) (has_replaced s.count s.row.items s.keys.items s.roots.items c.self.invariant c.args.slot c.in_ok-was.was' c.args.more at low fresh)
