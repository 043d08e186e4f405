-- What each part of recovery leaves.
use Rattle.std.proofs.Common.{◌≡◌, ◌≢◌, ⊎_elim, inl, ◌/◌, ℕ, Bool, true, false, true≢false, cond, Option, List, Some, None, refl, sym, ap, subst, ◌∙◌, arith}
use Rattle.recovery_steps.proofs.Common.{cases_eq, cond-false, WalEntry, Place, Move, Tables, tables_of, SlabHeader, layout_of, version_in, granules_in, Bounds, IsLooseLarge, IsEmptySlab, IsMorphing, IsDoneSlab, LoosensNothing, bounds_of, word_at, layout_rules, IsSoundImage, nearly_done, HasNone, settled_tables, IsEntrySettled, IsFinished, IsEnded}
use Rattle.pool_layout.specs.Places.{fields_word}
use Rattle.pool_layout.specs.Header.{version_field}
use Rattle.image_tables.proofs.Places.{log_start-low}
use Rattle.image_tables.proofs.Updates.{put_at-same, put_header-same, put_header-other}
use Rattle.image_tables.specs.Updates.{put_header}
use Rattle.slab_morph.specs.Stages.{finished, settled}
use Rattle.heap_check.specs.Heap.{slabs}
use Rattle.heap_check.proofs.Forms.{bounds_of-same}
use Rattle.defect_search.specs.Roots.{IsNamedStart, IsNamedGranule, AreMarks}
use Rattle.extent_steps.specs.Large.{IsLooseExtent, IsExtentGone}
use Rattle.extent_steps.specs.Slabs.{IsDroppable, IsDropped}
use Rattle.recovery_steps.specs.Names.{Names, AreNames}
use Rattle.recovery_steps.specs.Parts.{IsShut, IsLeft, KeepsClasses, LeavesNoneMorphing, Rids}
use Rattle.recovery_steps.proofs.Arenas.{sound_of, slab_low}
use Rattle.recovery_steps.proofs.Books.{same_off_header}

-- classes

pub classes_self : (t : Tables) → KeepsClasses t t
classes_self t = record { classes = λ start class is. is; morphing = λ start is. is }

pub classes_then : {t u v : Tables} → KeepsClasses t u → KeepsClasses u v → KeepsClasses t v
classes_then first second = record {
  classes = λ start class is. first.classes start class (second.classes start class is);
  morphing = λ start is. first.morphing start (second.morphing start is);
}

-- the slabs and their classes are the same
same_slabs : (t new : Tables) → slabs new ≡ slabs t → (start class : ℕ) → slabs new start ≡ Some class → slabs t start ≡ Some class
same_slabs t new same start class is = sym (ap (λ (f : ℕ → Option ℕ). f start) same) ∙ is

-- so they are where a header changed that has the class that it had
pub header_slabs : (t : Tables) (at : ℕ) (h : SlabHeader) → h.class ≡ (t.header at).class → (start class : ℕ) → slabs (put_header t at h) start ≡ Some class → slabs t start ≡ Some class
header_slabs t at h same start class is = ⊎_elim
    (λ (here : start ≡ at). put_class (ap (λ s. ((put_header t at h).header s).class) here ∙ ap (λ (g : SlabHeader). g.class) (put_header-same t at h) ∙ same ∙ ap (λ s. (t.header s).class) (sym here)))
    (λ (differ : start ≢ at). put_class (ap (λ (g : SlabHeader). g.class) (put_header-other t at h start differ)))
    (cases_eq start at)
  where
    put_class : ((put_header t at h).header start).class ≡ (t.header start).class → slabs t start ≡ Some class
    put_class equal = sym (ap (λ c. cond (t.slab start) (Some c) None) equal) ∙ is

-- nothing changes

pub left_self : (words : List ℕ) → IsShut words → IsLeft words words
left_self words shut = record { shut = shut; header = refl; roots = refl; slabs = classes_self (tables_of words) }

loosens_self : (t : Tables) → LoosensNothing t t
loosens_self t = record { large = λ start loose. loose; empty = λ start loose. loose; morphing = λ start loose. loose; done = λ start loose. loose }

pub rids_self : {IsLoose : Tables → ℕ → Type 0} (words : List ℕ) → IsShut words → HasNone (IsLoose (tables_of words)) → Rids IsLoose words words
rids_self words shut none = record { left = left_self words shut; loose = loosens_self (tables_of words); none = none }

pub none_morphing_self : (words : List ℕ) → IsShut words → HasNone (IsMorphing (tables_of words)) → LeavesNoneMorphing words words
none_morphing_self words shut none = record { left = left_self words shut; none = none }

-- the open entry is settled

settled_roots : (words : List ℕ) (start : ℕ) (entry : WalEntry) → (settled_tables words start entry).root ≡ (tables_of words).root
settled_roots words start (Place root at true place) = refl
settled_roots words start (Place root at false place) = refl
settled_roots words start (Move from to) = refl

settled_slabs : (words : List ℕ) (start : ℕ) (entry : WalEntry) → slabs (settled_tables words start entry) ≡ slabs (tables_of words)
settled_slabs words start (Place root at true place) = refl
settled_slabs words start (Place root at false place) = refl
settled_slabs words start (Move from to) = refl

pub left_settled : (words : List ℕ) (line start : ℕ) (entry : WalEntry) (new : List ℕ) → word_at new fields_word ≡ word_at words fields_word → IsEntrySettled words line start entry new → IsLeft words new
left_settled words line start entry new header done = record {
  shut = record { image = done.settled.keeps.steady; closed = done.settled.closed };
  header = header;
  roots = ap (λ (t : Tables). t.root) done.tables ∙ settled_roots words start entry;
  slabs = record {
    classes = same_slabs (tables_of words) (tables_of new) (ap slabs done.tables ∙ settled_slabs words start entry);
    morphing = done.settled.loose.morphing;
  };
}

-- a slab in Morphing comes to its class
pub none_morphing_finished : (words : List ℕ) (start : ℕ) (new : List ℕ) → IsSoundImage words → (tables_of words).slab start ≡ true → IsFinished words start new → LeavesNoneMorphing words new
none_morphing_finished words start new image slab done = record {
  left = record {
    shut = record { image = done.keeps.steady; closed = done.closed };
    header = (same_off_header start image slab done.off).fields;
    roots = ap (λ (t : Tables). t.root) done.tables;
    slabs = record {
      classes = λ s class is. header_slabs (tables_of words) start (finished ((tables_of words).header start)) refl s class (subst (λ (t : Tables). slabs t s ≡ Some class) done.tables is);
      morphing = λ s morphing. absurd (done.loose.none_morphing s morphing);
    };
  };
  none = record { none = done.loose.none_morphing };
}

-- a large extent goes
pub rids_large : {words : List ℕ} {start : ℕ} {new : List ℕ} → IsLooseExtent words start → IsExtentGone words start new → Rids IsLooseLarge words new
rids_large {words} {start} {new} may gone = record {
  left = record {
    shut = record { image = gone.image; closed = ap (λ (t : Tables). t.open_entry) gone.tables ∙ may.closed };
    header = gone.rest.others fields_word (λ e. omega (arith, e)) (inl (omega (arith, log_start-low (version_in words))));
    roots = ap (λ (t : Tables). t.root) gone.tables;
    slabs = record { classes = same_slabs (tables_of words) (tables_of new) (ap slabs gone.tables); morphing = gone.loose.morphing };
  };
  loose = gone.loose;
  none = record {
    none = λ other loose.
        let same : other ≡ start = may.image.steady.sound.loose.large.same other start (gone.loose.large other loose) may.loose in
        let none : (tables_of new).large other ≡ 0 = ap (tables_of new).large same ∙ ap (λ (t : Tables). t.large start) gone.tables ∙ put_at-same (tables_of words).large start 0 in
        omega (arith, loose.live, none);
  };
}

-- a slab goes
pub rids_empty : {words : List ℕ} {start : ℕ} {new : List ℕ} → IsDroppable words start → IsDropped words start new → Rids IsEmptySlab words new
rids_empty {words} {start} {new} may dropped = record {
  left = record {
    shut = record { image = dropped.image; closed = sym dropped.slab.entry ∙ may.closed };
    header = dropped.rest.others fields_word (λ e. omega (arith, e)) (inl (omega (arith, log_start-low (version_in words)))) (inl (omega (arith, slab_low words (sound_of words may.image) start may.empty.slab, (layout_rules (version_in words)).first)));
    roots = sym dropped.slab.root;
    slabs = record { classes = dropped_slabs; morphing = dropped.loose.morphing };
  };
  loose = dropped.loose;
  none = record {
    none = λ other empty.
        let same : other ≡ start = may.image.steady.sound.loose.empty.same other start (dropped.loose.empty other empty) may.empty in
        true≢false (sym empty.slab ∙ ap (tables_of new).slab same ∙ dropped.slab.none);
  };
}
  where
    dropped_slabs : (s class : ℕ) → slabs (tables_of new) s ≡ Some class → slabs (tables_of words) s ≡ Some class
    dropped_slabs s class is = ⊎_elim
        (λ (here : s ≡ start). absurd (let none : slabs (tables_of new) s ≡ None = cond-false ((tables_of new).slab s) (Some ((tables_of new).header s).class) None (ap (tables_of new).slab here ∙ dropped.slab.none) in cc))
        (λ (differ : s ≢ start).
        let same = dropped.slab.others s differ in
        ap (λ b. cond b (Some ((tables_of words).header s).class) None) same.slab ∙ ap (λ (h : SlabHeader). cond ((tables_of new).slab s) (Some h.class) None) same.header ∙ is)
        (cases_eq s start)

-- a done slab becomes normal

pub classes_ended : {words : List ℕ} {start : ℕ} {new : List ℕ} → IsEnded words start new → KeepsClasses (tables_of words) (tables_of new)
classes_ended {words} {start} {new} ended = record {
  classes = λ s class is. header_slabs (tables_of words) start (settled ((tables_of words).header start)) refl s class (subst (λ (t : Tables). slabs t s ≡ Some class) ended.tables is);
  morphing = ended.loose.morphing;
}

pub rids_done : {words : List ℕ} {start : ℕ} {new : List ℕ} → IsShut words → IsDoneSlab (tables_of words) start → IsEnded words start new → Rids IsDoneSlab words new
rids_done {words} {start} {new} shut here ended = record {
  left = record {
    shut = record { image = ended.steady shut.image; closed = ap (λ (t : Tables). t.open_entry) ended.tables ∙ shut.closed };
    header = (same_off_header start (sound_of words shut.image) here.slab ended.off).fields;
    roots = ap (λ (t : Tables). t.root) ended.tables;
    slabs = classes_ended ended;
  };
  loose = ended.loose;
  none = record {
    none = λ other done.
        (ended.nearly other (nearly_done (tables_of new) other done)).1
        (shut.image.steady.sound.loose.done.same other start (ended.loose.done other done) here);
  };
}

-- what is not loose does not come to be so

pub no_large_still : {t u : Tables} → LoosensNothing t u → HasNone (IsLooseLarge t) → HasNone (IsLooseLarge u)
no_large_still loosens none = record { none = λ start loose. none.none start (loosens.large start loose) }

pub no_empty_still : {t u : Tables} → LoosensNothing t u → HasNone (IsEmptySlab t) → HasNone (IsEmptySlab u)
no_empty_still loosens none = record { none = λ start empty. none.none start (loosens.empty start empty) }

pub none_morphing_still : {t u : Tables} → LoosensNothing t u → HasNone (IsMorphing t) → HasNone (IsMorphing u)
none_morphing_still loosens none = record { none = λ start morphing. none.none start (loosens.morphing start morphing) }

-- one part behind another
pub left_then : {words between new : List ℕ} → IsLeft words between → IsLeft between new → IsLeft words new
left_then first second = record { shut = second.shut; header = second.header ∙ first.header; roots = second.roots ∙ first.roots; slabs = classes_then first.slabs second.slabs }

-- and of the same version
pub left_version : {words new : List ℕ} → IsLeft words new → version_in new ≡ version_in words
left_version left = ap version_field left.header

-- names

starts_still : (t u : Tables) (m n : ℕ) (marks : List Bool) → u.root ≡ t.root → n ≡ m → AreMarks (IsNamedStart t m) marks → AreMarks (IsNamedStart u n) marks
starts_still t u m n marks root same are =
    subst (λ k. AreMarks (IsNamedStart u k) marks) (sym same) (record {
      each = λ k below. (
        λ marked. let named = (are.each k below).0 marked in record { root = named.root; below = named.below; some = λ none. named.some (sym (ap (λ (f : ℕ → ℕ). f named.root) root) ∙ none); here = ap (λ (f : ℕ → ℕ). f named.root) root ∙ named.here },
        λ named. (are.each k below).1 (record { root = named.root; below = named.below; some = λ none. named.some (ap (λ (f : ℕ → ℕ). f named.root) root ∙ none); here = sym (ap (λ (f : ℕ → ℕ). f named.root) root) ∙ named.here }),
      );
    })

granules_still : (t u : Tables) (m n : ℕ) (marks : List Bool) → u.root ≡ t.root → n ≡ m → AreMarks (IsNamedGranule t m) marks → AreMarks (IsNamedGranule u n) marks
granules_still t u m n marks root same are =
    subst (λ k. AreMarks (IsNamedGranule u k) marks) (sym same) (record {
      each = λ k below. (
        λ marked. let named = (are.each k below).0 marked in record { root = named.root; below = named.below; some = λ none. named.some (sym (ap (λ (f : ℕ → ℕ). f named.root) root) ∙ none); here = ap (λ (f : ℕ → ℕ). f named.root / 16384) root ∙ named.here },
        λ named. (are.each k below).1 (record { root = named.root; below = named.below; some = λ none. named.some (ap (λ (f : ℕ → ℕ). f named.root) root ∙ none); here = sym (ap (λ (f : ℕ → ℕ). f named.root / 16384) root) ∙ named.here }),
      );
    })

-- each root holds what it held, so the names are the same
pub names_same : (names : Names) (words new : List ℕ) → bounds_of new ≡ bounds_of words → (tables_of new).root ≡ (tables_of words).root → AreNames names words → AreNames names new
names_same names words new bounds same are =
    let granules : granules_in new ≡ granules_in words = ap (λ (b : Bounds). b.granules) bounds in
    let roots : (layout_of (version_in new)).roots ≡ (layout_of (version_in words)).roots = ap (λ (b : Bounds). b.roots) bounds in
    record {
      starts_size = are.starts_size ∙ sym granules;
      granules_size = are.granules_size ∙ sym granules;
      starts = starts_still (tables_of words) (tables_of new) (layout_of (version_in words)).roots (layout_of (version_in new)).roots names.starts same roots are.starts;
      granules = granules_still (tables_of words) (tables_of new) (layout_of (version_in words)).roots (layout_of (version_in new)).roots names.granules same roots are.granules;
    }

pub names_left : (names : Names) (words new : List ℕ) → IsLeft words new → AreNames names words → AreNames names new
names_left names words new left are = names_same names words new (bounds_of-same words new left.header) left.roots are

-- all five parts
pub left_all : {a b c d e f : List ℕ} → IsLeft a b → LeavesNoneMorphing b c → Rids IsLooseLarge c d → Rids IsEmptySlab d e → Rids IsDoneSlab e f → IsLeft a f
left_all settled none_morphing large empty done = left_then settled (left_then none_morphing.left (left_then large.left (left_then empty.left done.left)))
