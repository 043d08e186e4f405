-- The counts of live blocks and the normal slabs together, as blocks and slabs come and go.
use Rattle.std.proofs.Common.{◌<◌, ◌-◌, ◌≡◌, ◌≢◌, ◌==◌, ◌&&◌, ℕ, Bool, true, false, ⊎_elim, List, Option, Some, None, sym, ap, ◌∙◌, if◌then◌else◌, arith, length, slice_index}
use Rattle.arena_core.proofs.Common.{normal_kind, Tables, tables_of, SlabHeader, put_header, with_key, Lives, normal_at, AreCountsOf, normal_of, is_unfit, HasNoUnused, AreLivesOf, IsUnusedIn, Range, HaveOneMore, Bounds, live_in, IsOneMore, put_one}
use Rattle.std.proofs.lemmas.Bool.{cases_eq, cond-true, cond-false, eq-eqb, ne_eqb, false≢true}
use Rattle.image_tables.proofs.Updates.{put_header-other}
use Rattle.heap_check.proofs.LiveCounts.{live_step}

-- a header that changed makes a difference to its own slab alone
pub normal_header : (t : Tables) (start : ℕ) (h : SlabHeader) (s : ℕ) → s ≢ start → normal_of (put_header t start h) s ≡ normal_of t s
normal_header t start h s differ = ap (λ (g : SlabHeader). if t.slab s && (g.kind == normal_kind) then Some g.class else None) (put_header-other t start h s differ)

-- more blocks are used, so what was found unfit is so still
still_unfit : {words new : List ℕ} {start class : ℕ} → ((number : ℕ) → IsUnusedIn (tables_of new) start class number → IsUnusedIn (tables_of words) start class number) → HasNoUnused words start class → HasNoUnused new start class
still_unfit fewer none = record { none = λ number below unused. none.none number below (fewer number unused) }

-- what is known of a slab, where nothing is of one, is known of another
other_noted : (start s : ℕ) (b : Bool) → (if s == start then false else b) ≡ true → (s ≢ start) × (b ≡ true)
other_noted start s b known = ⊎_elim
    (λ (here : s ≡ start). absurd (false≢true (sym (cond-true (s == start) false b (eq-eqb s start here)) ∙ known)))
    (λ (there : s ≢ start). (there, sym (cond-false (s == start) false b (ne_eqb s start there)) ∙ known))
    (cases_eq s start)

module _ (words new : List ℕ) (was next : Lives) (counts : AreCountsOf next.counts new) (were : AreLivesOf was words) where
  -- the same slabs are normal, and no block is unused that was not
  pub lives_kept : ((s : ℕ) → normal_at next s ≡ normal_at was s) → ((s : ℕ) → normal_of (tables_of new) s ≡ normal_of (tables_of words) s) → next.unfit ≡ was.unfit →
      ((s class number : ℕ) → IsUnusedIn (tables_of new) s class number → IsUnusedIn (tables_of words) s class number) → AreLivesOf next new
  lives_kept same slabs unfit fewer = record {
    counts = counts;
    normal = λ s. same s ∙ were.normal s ∙ sym (slabs s);
    unfit = λ class s noted. still_unfit (fewer s class) (were.unfit class s (ap (λ (set : List ℕ). is_unfit set class s) (sym unfit) ∙ noted));
  }

  -- one is normal now with a class, or not normal any more, and of no other a block is unused that was not
  pub lives_put : (start : ℕ) (class : Option ℕ) → ((s : ℕ) → normal_at next s ≡ with_key (normal_at was) start class s) → ((s : ℕ) → normal_of (tables_of new) s ≡ with_key (normal_of (tables_of words)) start class s) →
      ((class s : ℕ) → is_unfit next.unfit class s ≡ (if s == start then false else is_unfit was.unfit class s)) → ((s class number : ℕ) → s ≢ start → IsUnusedIn (tables_of new) s class number → IsUnusedIn (tables_of words) s class number) → AreLivesOf next new
  lives_put start class put slabs unfit fewer = record {
    counts = counts;
    normal = λ s. put s ∙ ap (λ x. if s == start then class else x) (were.normal s) ∙ sym (slabs s);
    unfit = λ class s noted. let other = other_noted start s _ (sym (unfit class s) ∙ noted) in still_unfit (λ number. fewer s class number other.0) (were.unfit class s other.1);
  }

-- the other way round, the counts from before are one more at the slab
pub one_more : {without with_it : List ℕ} {root start : ℕ} {range : Range} (lives : Lives) → IsOneMore without with_it root start range → start < length lives.counts → AreLivesOf lives with_it →
    ((s : ℕ) → normal_of (tables_of with_it) s ≡ normal_of (tables_of without) s) → ((s class number : ℕ) → s ≢ start → IsUnusedIn (tables_of without) s class number → IsUnusedIn (tables_of with_it) s class number) → HaveOneMore lives without start
one_more {without} {with_it} {root} {start} {range} lives more inside were normal fewer = record {
  size = were.counts.size ∙ ap (λ (b : Bounds). b.granules) more.bounds;
  inside = inside;
  each = λ s. were.counts.each s ∙ live_step without with_it root start range more s ∙ sym (put_one (s == start) (live_in without s));
  normal = λ s. were.normal s ∙ normal s;
  unfit = λ class s differ noted. still_unfit (λ number. fewer s class number differ) (were.unfit class s noted);
}

-- once it is one less, they are those of the image
pub one_less : {lives next : Lives} {words : List ℕ} {start : ℕ} → HaveOneMore lives words start → length next.counts ≡ length lives.counts →
    ((s : ℕ) → slice_index next.counts s ≡ (if s == start then slice_index lives.counts s - 1 else slice_index lives.counts s)) → ((s : ℕ) → normal_at next s ≡ normal_at lives s) →
    ((class s : ℕ) → is_unfit next.unfit class s ≡ (if s == start then false else is_unfit lives.unfit class s)) → AreLivesOf next words
one_less {lives} {next} {words} {start} were size put normal unfit = record {
  counts = grind arith;
  normal = λ s. normal s ∙ were.normal s;
  unfit = λ class s noted. let other = other_noted start s _ (sym (unfit class s) ∙ noted) in were.unfit class s other.0 other.1;
}
