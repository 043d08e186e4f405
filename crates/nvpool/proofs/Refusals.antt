-- What is accepted is not refused.
use Rattle.std.proofs.Common.{◌≡◌, ℕ, ◌<◌, List, sym, ap, subst, ◌∙◌, inl, inr, arith}
use Rattle.pool_layout.specs.declared.header.PoolHeader.{PoolHeader}
use Rattle.pool_layout.specs.declared.defect.Defect.{Defect}
use Rattle.pool_layout.specs.Image.{part_of}
use Rattle.pool_layout.specs.declared.header.PoolVariant.TheVariants.{Log, Gc}
use Rattle.pool_layout.proofs.OneImage.{law_of_no_defect, one_header}
use Rattle.image_defects.proofs.Faultless.{faultless_of}
use Rattle.image_defects.proofs.Order.{no_defect}
use Rattle.gc_check.proofs.Faultless.{faultless_of as gc_faultless_of}
use Rattle.gc_check.proofs.Order.{no_defect as no_gc_defect}
use Rattle.trace_text.proofs.OneMeaning.{law_of_one_trace, law_of_no_refusal}
use Rattle.nvheap.specs.Crashing.{log_arenas, HasEvents}
use Rattle.nvheap.specs.declared.cause.Cause.TheVariants as causes
use Rattle.nvheap.proofs.Refusals as refusals
use Rattle.nvpool.specs.declared.cause.Cause.{Cause}
use Rattle.nvpool.specs.declared.cause.Cause.TheVariants.{Text, Image, NoArena, NoBlock}
use Rattle.nvpool.specs.Rules.{PoolRules, log_pools, gc_pools}
use Rattle.nvpool.specs.Telling.{IsPoolDefect, HasSoundArenas, RefusesImage}
use Rattle.nvpool.specs.Dumping.{HasArena, HasNoBlock, HasBlock, RefusesDump}
use Rattle.nvpool.specs.Cutting.{RefusesCut}

-- an image has its words and one header, and it is not none; sound words have no defect
pub record AreSettled (r : PoolRules) : Type 0 where
  pub one_words : (input words other : List ℕ) (header another : PoolHeader) → r.IsImage input words header → r.IsImage input other another → words ≡ other
  pub one_header : (input words other : List ℕ) (header another : PoolHeader) → r.IsImage input words header → r.IsImage input other another → header ≡ another
  pub some : (input words : List ℕ) (header : PoolHeader) (arena : ℕ) (defect : Defect) → r.IsImage input words header → ¬ (r.IsNone input arena defect)
  pub faultless : (words : List ℕ) (defect : Defect) → r.maps.IsSound words → ¬ (r.IsFirst words defect)

pub log_settled : AreSettled log_pools
log_settled = record {
  one_words = λ input words other header another image second. image.0.words_are ∙ sym second.0.words_are;
  one_header = λ input words other header another image second. sym image.1 ∙ one_header Log input words other image.0 second.0 ∙ second.1;
  some = λ input words header arena defect image. law_of_no_defect Log input words arena defect image.0;
  faultless = λ words defect sound. no_defect words defect (faultless_of words sound);
}

pub gc_settled : AreSettled gc_pools
gc_settled = record {
  one_words = λ input words other header another image second. image.0.words_are ∙ sym second.0.words_are;
  one_header = λ input words other header another image second. sym image.1 ∙ one_header Gc input words other image.0 second.0 ∙ second.1;
  some = λ input words header arena defect image. law_of_no_defect Gc input words arena defect image.0;
  faultless = λ words defect sound. no_gc_defect words defect (gc_faultless_of words sound);
}

module _ (r : PoolRules) (laws : AreSettled r) (input : List ℕ) where
  -- each arena of an image has its words
  one_part : (words other : List ℕ) (header another : PoolHeader) (arena : ℕ) → r.IsImage input words header → r.IsImage input other another → part_of words header.granules arena ≡ part_of other another.granules arena
  one_part words other header another arena image second =
      ap (λ (ws : List ℕ). part_of ws header.granules arena) (laws.one_words input words other header another image second) ∙ ap (λ (h : PoolHeader). part_of other h.granules arena) (laws.one_header input words other header another image second)

  -- a pool of sound arenas has no defect
  sound_not_refused : (arena : ℕ) (defect : Defect) → HasSoundArenas r input → ¬ (IsPoolDefect r input arena defect)
  sound_not_refused arena defect all (inl is) = laws.some input all.words all.header arena defect all.image is
  sound_not_refused arena defect all (inr un) =
      let inside : arena < all.header.arenas = subst (λ (h : PoolHeader). arena < h.arenas) (laws.one_header input un.words all.words un.header all.header un.image all.image) un.unsound.inside in
      let first = subst (λ (ws : List ℕ). r.IsFirst ws defect) (one_part un.words all.words un.header all.header arena un.image all.image) un.unsound.first in
      laws.faultless (part_of all.words all.header.granules arena) defect (all.sound arena inside) first

  pub image_not_refused : (why : Cause) → HasSoundArenas r input → ¬ (RefusesImage r input why)
  image_not_refused (Image arena defect) all refused = sound_not_refused arena defect all refused
  image_not_refused (NoArena arena arenas) all refused = refused
  image_not_refused (NoBlock arena root) all refused = refused
  image_not_refused (Text refusal) all refused = refused

  -- nor has an arena that is sound, of which a root has a block
  pub dump_not_refused : (arena root : ℕ) (why : Cause) → HasArena r input arena (λ words. HasBlock r.maps words root) → ¬ (RefusesDump r arena root input why)
  dump_not_refused arena root (Image found defect) has (inl is) = laws.some input has.words has.header found defect has.image is
  dump_not_refused arena root (Image found defect) has (inr is) =
      let first = subst (λ (ws : List ℕ). r.IsFirst ws defect) (one_part is.1.words has.words is.1.header has.header arena is.1.image has.image) is.1.holds in
      laws.faultless (part_of has.words has.header.granules arena) defect has.holds.sound first
  dump_not_refused arena root (NoArena asked arenas) has refused =
      let same = laws.one_header input refused.1.words has.words refused.1.header has.header refused.1.image has.image in
      omega (arith, ap (λ (h : PoolHeader). h.arenas) same, refused.1.all, refused.1.outside, has.inside)
  dump_not_refused arena root (NoBlock asked named) has refused =
      let none : HasNoBlock r.maps (part_of has.words has.header.granules arena) root = subst (λ (ws : List ℕ). HasNoBlock r.maps ws root) (one_part refused.2.words has.words refused.2.header has.header arena refused.2.image has.image) refused.2.holds in
      has.holds.some none.none
  dump_not_refused arena root (Text refusal) has refused = refused

-- a trace that has the arena, whose calls have the event
pub cut_not_refused : (arena event : ℕ) (input : List ℕ) (why : Cause) → HasEvents log_arenas arena event input → ¬ (RefusesCut arena event input why)
cut_not_refused arena event input (Text refusal) has refused = refusals.crash_not_refused log_arenas law_of_one_trace law_of_no_refusal arena event input (causes.Text refusal) has refused
cut_not_refused arena event input (Image found defect) has refused = refused
cut_not_refused arena event input (NoArena asked arenas) has refused = refused
cut_not_refused arena event input (NoBlock asked named) has refused = refused
