use Rattle.std.proofs.Common.{◌≡◌, ◌∙◌, ◌≤◌, ◌/◌, List, ℕ, length, ap, arith, subst, sym}
use Rattle.image_raise.proofs.Common.{AreZeros, heap_word, version_in, IsHeader, header_fits, IsExactImage}
use Rattle.heap_check.proofs.Sizes.{sizes_of, heap_inside}
use Rattle.image_raise.specs.Rise.{raised_header, IsRaisedImage}
use Rattle.image_raise.proofs.Raised.{raised_valid, with_heap, raised_by, header_now}
use Rattle.image_raise.proofs.Tables.{small_roots}
use Rattle.image_raise.proofs.Images.{raised_image}
use Rattle.image_raise.proofs.raising.raised_words.Goals as goal

pub fill_front-requires-clause-fits : goal.fill_front-requires-clause-fits
fill_front-requires-clause-fits c = header_fits (raised_header c.args.header.now) (raised_valid c.args.header.now c.requires.header c.requires.first)

pub fill_front-requires-clause-granules : goal.fill_front-requires-clause-granules
fill_front-requires-clause-granules c = omega (arith, c.requires.granules, (sizes_of c.args.words.now c.requires.image.formed).most)

pub fill_front-requires-clause-small : goal.fill_front-requires-clause-small
fill_front-requires-clause-small c = small_roots c.requires.image c.requires.version

-- the heap begins inside
inside : (words : List ℕ) → IsExactImage words → version_in words ≡ 1 → heap_word 1 ≤ length words
inside words image version = subst (λ v. heap_word v ≤ length words) version (heap_inside words image.formed)

pub fill_front-requires-clause-words : goal.fill_front-requires-clause-words
fill_front-requires-clause-words c = inside c.args.words.now c.requires.image c.requires.version

pub slice_bounds-extend_from_slice-count : goal.slice_bounds-extend_from_slice-count
slice_bounds-extend_from_slice-count c = omega (arith, c.heap_at.ensures, inside c.args.words.now c.requires.image c.requires.version)

pub slice_bounds-extend_from_slice-start : goal.slice_bounds-extend_from_slice-start
slice_bounds-extend_from_slice-start c = omega (arith, c.heap_at.ensures, inside c.args.words.now c.requires.image c.requires.version)

pub returns-clause-raised : goal.returns-clause-raised
returns-clause-raised c =
    let words = c.args.words.now in
    let filled = c.fill_front.ensures in
    let blank = c.deref_mut.ensures.value in
    let new = with_heap c.fill_front.new.front c.in_ok-new.new.items words c.extend_from_slice.new.self.items c.in_ok-new.new.len (c.heap_at.result / 8) c.in_ok-extend_from_slice.ensures.items (omega (arith, filled.log.size, filled.roots.size, filled.line.size, ap length blank, c.in_ok-new.ensures.size)) (omega (arith, c.heap_at.ensures)) in
    subst (IsRaisedImage words) (sym new)
    (raised_image c.requires.image c.requires.version (raised_by (subst AreZeros (sym blank) c.in_ok-new.ensures.zeros) (ap length blank ∙ c.in_ok-new.ensures.size) filled c.requires.header c.requires.first c.requires.granules c.requires.image.formed.size (inside c.args.words.now c.requires.image c.requires.version)))

pub returns-clause-header : goal.returns-clause-header
returns-clause-header c =
    let words = c.args.words.now in
    let filled = c.fill_front.ensures in
    let blank = c.deref_mut.ensures.value in
    let new = with_heap c.fill_front.new.front c.in_ok-new.new.items words c.extend_from_slice.new.self.items c.in_ok-new.new.len (c.heap_at.result / 8) c.in_ok-extend_from_slice.ensures.items (omega (arith, filled.log.size, filled.roots.size, filled.line.size, ap length blank, c.in_ok-new.ensures.size)) (omega (arith, c.heap_at.ensures)) in
    subst (λ ws. IsHeader ws (raised_header c.args.header.now)) (sym new)
    (header_now (subst AreZeros (sym blank) c.in_ok-new.ensures.zeros) (ap length blank ∙ c.in_ok-new.ensures.size) filled c.requires.header c.requires.first c.requires.granules c.requires.image.formed.size (inside c.args.words.now c.requires.image c.requires.version))
