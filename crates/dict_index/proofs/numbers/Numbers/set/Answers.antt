use Rattle.std.proofs.Common.{◌≡◌, ◌/◌, ◌<◌, length, ap, arith}
use Rattle.std.proofs.lemmas.List.{get_or_read}
use Rattle.dict_index.proofs.Greatest.{put_back, kept_anew}
use Rattle.dict_index.proofs.numbers.Numbers.set.Goals as goal

pub greatest_anew-anew-requires-clause-was : goal.greatest_anew-anew-requires-clause-was
greatest_anew-anew-requires-clause-was c =
    let s = c.self.inside in
    let inside : c.args.root < length s.numbers.items = omega (arith, c.requires, ap length c.self.view_is) in
    let group : c.args.root / 64 < length s.groups.items = omega (arith, inside, c.self.invariant.size) in
    let was = get_or_read s.numbers.items c.args.root c.index-was.result.now inside c.index-was.ensures 0 in
    let most = get_or_read s.groups.items (c.args.root / 64) c.index-most.result.now group c.index-most.ensures 0 in
    rw (c.deref.ensures.value, put_back s.numbers.items c.args.root c.args.number c.index-was.result.now was, most) (c.self.invariant.each (c.args.root / 64) group)

pub greatest_anew-self-inside-requires-clause-was : goal.greatest_anew-self-inside-requires-clause-was
greatest_anew-self-inside-requires-clause-was c =
    let s = c.self.inside in
    let inside : c.args.root < length s.numbers.items = omega (arith, c.requires, ap length c.self.view_is) in
    let group : c.args.root / 64 < length s.groups.items = omega (arith, inside, c.self.invariant.size) in
    let most = get_or_read s.groups.items (c.args.root / 64) c.index-most.result.now group c.index-most.ensures 0 in
    let count : c.len.result ≡ length s.groups.items = omega (arith, c.len.ensures, s.groups.ok.0) in
    rw (c.deref-2.ensures.value, put_back s.groups.items (c.args.root / 64) c.greatest_anew-anew.result c.index-most.result.now most, count) c.self.invariant.all

pub invariant_of-self : goal.invariant_of-self
invariant_of-self c =
    let s = c.self.inside in
    let inside : c.args.root < length s.numbers.items = omega (arith, c.requires, ap length c.self.view_is) in
    let group : c.args.root / 64 < length s.groups.items = omega (arith, inside, c.self.invariant.size) in
    let count : c.len.result ≡ length s.groups.items = omega (arith, c.len.ensures, s.groups.ok.0) in
    let here = rw c.deref.ensures.value at c.greatest_anew-anew.ensures in
    let all = rw (c.deref-2.ensures.value, count) at c.greatest_anew-self-inside.ensures in
    kept_anew s.numbers.items s.groups.items s.greatest c.args.root c.args.number c.greatest_anew-anew.result c.greatest_anew-self-inside.result c.self.invariant group here all
