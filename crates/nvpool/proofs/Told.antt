-- What is told of the arenas that were looked at, one after another.
use Rattle.std.proofs.Common.{◌≡◌, ◌↔◌, ℕ, ◌+◌, List, [], ◌++◌, refl, sym, ap, subst, ◌∙◌, add-one, append_assoc}
use Rattle.std.proofs.lemmas.List.{append-nil}
use Rattle.pool_layout.specs.declared.header.PoolHeader.{PoolHeader}
use Rattle.pool_layout.specs.Image.{part_of}
use Rattle.heap_check.specs.Image.{bounds_of}
use Rattle.heap_map.specs.declared.mapping.HeapMap.{HeapMap}
use Rattle.heap_map.specs.Rules.{MapRules}
use Rattle.heap_map.specs.Cells.{AreCells, AreNoneLoose}
use Rattle.heap_map.specs.Facts.{AreFacts, AreClassFills}
use Rattle.heap_map.proofs.Requests.{greatest_request}
use Rattle.map_text.specs.Pieces.{Adds}
use Rattle.map_text.specs.Facts.{facts_text}
use Rattle.map_text.specs.Maps.{IsInfo}
use Rattle.nvpool.specs.declared.telling.Form.{Form}
use Rattle.nvpool.specs.declared.telling.Form.TheVariants.{Numbers, Letters, Picture}
use Rattle.nvpool.specs.Telling.{AreTold, IsToldBy, IsToldAs, front_of, back_of, told_text}

module _ (r : MapRules) (form : Form) (words : List ℕ) (header : PoolHeader) where
  -- nothing was told
  pub told_none : (front : List ℕ) → Adds (AreTold r form words header 0) front front
  told_none front = record { own = []; told = refl; is = sym (append-nil front) }

  -- one arena more
  pub told_more : (n : ℕ) (front text new : List ℕ) → Adds (AreTold r form words header n) front text → Adds (IsToldAs r form header (part_of words header.granules n) n) text new → Adds (AreTold r form words header (n + 1)) front new
  told_more n front text new before more = record {
    own = before.own ++ more.own;
    told = subst (λ m. AreTold r form words header m (before.own ++ more.own)) (sym (add-one n)) (before.own, more.own, before.told, more.told, refl);
    is = more.is ∙ ap (λ (t : List ℕ). t ++ more.own) before.is ∙ append_assoc front before.own more.own;
  }

  -- all of them, with what stands behind
  pub told_all : (text : List ℕ) → Adds (AreTold r form words header header.arenas) (front_of form header) text → IsToldBy r form words header (text ++ back_of form)
  told_all text adds = record {
    told = adds.own;
    each = adds.told;
    is = ap (λ (t : List ℕ). t ++ back_of form) adds.is;
    grants = λ arena inside. let own = part_of words header.granules arena in greatest_request (bounds_of own) (r.tables own);
  }

-- what is told of a sound arena, by its map

module _ (r : MapRules) (header : PoolHeader) (words : List ℕ) (arena : ℕ) (map : HeapMap) (sound : r.IsSound words) (cells : AreCells r words map.cells.items) (exact : AreNoneLoose map.cells.items ↔ r.IsExact words) (facts : AreFacts r words map.facts)
    (fills : AreClassFills r words map.classes.items) where
  info : IsInfo r words arena (facts_text arena map.facts map.classes.items)
  info = record { sound = sound; facts = map.facts; are = facts; fills = map.classes.items; full = fills; is = refl }

  told_by : (form : Form) → IsToldAs r form header words arena (told_text form header arena map)
  told_by Numbers = info
  told_by Letters = record { cells = map.cells.items; each = cells; exact = exact; numbers = facts_text arena map.facts map.classes.items; info = info; is = refl }
  told_by Picture = record { sound = sound; cells = map.cells.items; each = cells; exact = exact; facts = map.facts; are = facts; fills = map.classes.items; full = fills; is = refl }

  pub adds_told : (form : Form) (old new : List ℕ) → new ≡ old ++ told_text form header arena map → Adds (IsToldAs r form header words arena) old new
  adds_told form old new is = record { own = told_text form header arena map; told = told_by form; is = is }
