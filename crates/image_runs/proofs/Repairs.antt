-- The repairs of the arenas that were looked at, one after another.
use Rattle.std.proofs.Common.{◌≡◌, ◌≢◌, ℕ, ◌+◌, ◌*◌, ◌^◌, ◌<◌, ◌≤◌, List, [], ◌++◌, length, take, drop, refl, sym, ap, subst, ◌∙◌, arith, ⊎_elim, length-append, length-drop}
use Rattle.std.specs.Int.{to_le_bytes, w64}
use Rattle.std.proofs.lemmas.Bool.{cases_eq}
use Rattle.std.proofs.lemmas.Grind.{flat_map-append}
use Rattle.std.proofs.lemmas.List.{take-append-le, drop-append-le, take_all, drop_at}
use Rattle.std.proofs.lemmas.List.Elements.{All-nil, All-append}
use Rattle.pmem_lines.specs.Words.{words_at}
use Rattle.pmem_lines.specs.declared.event.Event.{Event}
use Rattle.pmem_lines.specs.Events.{reading}
use Rattle.pmem_lines.specs.Pmem.{PmemState, words_of, fresh}
use Rattle.pool_layout.specs.declared.header.PoolHeader.{PoolHeader}
use Rattle.pool_layout.specs.Bytes.{bytes_of_words}
use Rattle.pool_layout.specs.Header.{fields_of, granules_in}
use Rattle.pool_layout.specs.Image.{part_of}
use Rattle.pool_layout.proofs.Images.{part_inside}
use Rattle.heap_check.specs.Image.{header_in, IsSoundImage}
use Rattle.recover.specs.Recovered.{IsRecovered}
use Rattle.recovery_steps.proofs.Exact.{recovers_sound_none}
use Rattle.image_runs.specs.Repairs.{IsRepaired, AreWholeWords, AddsPart}

-- one arena

-- a device that had sound words and was recovered has repaired ones
pub repaired_words : (words : List ℕ) (room : ℕ) (device : PmemState) → IsSoundImage words → IsRecovered (fresh words room) device → IsRepaired words (words_of device)
repaired_words words room device sound is =
    let made : words_of device ≡ reading words device.events = ap (λ (s : PmemState). words_of s) is.state in
    let header : header_in (words_of device) ≡ header_in words = ap fields_of is.header in
    let granules : granules_in (words_of device) ≡ granules_in words = ap (λ (h : PoolHeader). h.granules) header in
    record {
      sound = sound;
      size = omega (arith, is.image.exact.formed.size, sound.formed.size, granules);
      header = header;
      exact = is.image.exact;
      heap = is.image.heap;
      blocks = is.image.blocks;
      slabs = is.slabs;
      recovery = record { events = device.events; stores = is.stores; is = made };
      still = λ exact. made ∙ ap (λ (events : List Event). reading words events) (recovers_sound_none words exact device.events is.stores);
    }

-- the words of one arena behind those of others

-- those of one of the others
part_before : (words own : List ℕ) (granules arena : ℕ) → 2048 * granules * arena + 2048 * granules ≤ length words → part_of (words ++ own) granules arena ≡ part_of words granules arena
unfolding words_at
part_before words own granules arena inside =
    let from = 2048 * granules * arena in
    let size = 2048 * granules in
    ap (λ (ws : List ℕ). take size ws) (drop-append-le from words own (omega (arith, inside))) ∙ take-append-le size (drop from words) own (omega (arith, inside, length-drop from words))

-- and its own
part_behind : (words own : List ℕ) (granules arena : ℕ) → length words ≡ 2048 * granules * arena → length own ≡ 2048 * granules → part_of (words ++ own) granules arena ≡ own
unfolding words_at
part_behind words own granules arena before size =
    ap (λ (ws : List ℕ). take (2048 * granules) ws) (drop_at words own (2048 * granules * arena) before) ∙ take_all (2048 * granules) own (omega (arith, size))

bytes-append : (words own : List ℕ) → bytes_of_words (words ++ own) ≡ bytes_of_words words ++ bytes_of_words own
unfolding bytes_of_words
bytes-append words own = flat_map-append (to_le_bytes w64) words own

-- several arenas

module _ (Is : List ℕ → List ℕ → Type 0) where
  -- the bytes are those of words that stand so to the first so many arenas of a pool
  pub record HasParts (words : List ℕ) (granules count : ℕ) (bytes : List ℕ) : Type 0 where
    pub new : List ℕ
    pub size : length new ≡ 2048 * granules * count
    pub fit : AreWholeWords new
    pub each : (arena : ℕ) → arena < count → Is (part_of words granules arena) (part_of new granules arena)
    pub is : bytes ≡ bytes_of_words new

  -- no arena yet
  pub no_parts : (words : List ℕ) (granules : ℕ) → HasParts words granules 0 []
  unfolding bytes_of_words
  no_parts words granules = record { new = []; size = omega arith; fit = All-nil (λ word. word < 2 ^ 64); each = λ arena below. absurd (omega arith); is = refl }

  module _ (sized : (words new : List ℕ) → Is words new → length new ≡ length words) (words : List ℕ) (granules : ℕ) where
    -- one arena more
    pub parts_more : {count : ℕ} {bytes new : List ℕ} → length (part_of words granules count) ≡ 2048 * granules → HasParts words granules count bytes → AddsPart Is (part_of words granules count) bytes new → HasParts words granules (count + 1) new
    parts_more {count} {bytes} {new} part has adds =
        let own = adds.own in
        let all = has.new ++ own in
        let long : length own ≡ 2048 * granules = sized (part_of words granules count) own adds.part ∙ part in
        record {
          new = all;
          size = omega (arith, length-append has.new own, has.size, long);
          fit = All-append (λ word. word < 2 ^ 64) has.new own has.fit adds.fit;
          each = λ arena below. ⊎_elim
              (λ (last : arena ≡ count). subst (λ a. Is (part_of words granules a) (part_of all granules a)) (sym last)
              (subst (Is (part_of words granules count)) (sym (part_behind has.new own granules count has.size long)) adds.part))
              (λ (other : arena ≢ count).
              let earlier : arena < count = omega (arith, below, other) in
              let inside : 2048 * granules * arena + 2048 * granules ≤ length has.new = omega (arith, has.size, part_inside granules count arena earlier) in
              subst (Is (part_of words granules arena)) (sym (part_before has.new own granules arena inside)) (has.each arena earlier))
              (cases_eq arena count);
          is = adds.is ∙ ap (λ (bs : List ℕ). bs ++ bytes_of_words own) has.is ∙ sym (bytes-append has.new own);
        }
