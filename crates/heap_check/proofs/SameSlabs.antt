-- Of a slab two tables say the same: so it holds the same blocks, and the same blocks of it are unused.
use Rattle.std.proofs.Common.{◌≡◌, ◌⊎◌, ◌↔◌, ℕ, ◌<◌, false, Option, None, List, refl, sym, ap, subst, ◌∙◌}
use Rattle.heap_check.proofs.Common.{SlabHeader, Tables, tables_of, WalEntry, Range}
use Rattle.heap_check.specs.Heap.{Holds, HoldsBit, HoldsOld, IsUnusedIn}
use Rattle.heap_check.specs.Slabs.{IsSameSlab}
use Rattle.heap_check.specs.Sound.{IsMorphing, IsDoneSlab, IsNearlyDone}
use Rattle.heap_check.proofs.Loose.{IsSpent, nearly_spent, spent_nearly}

-- both words say the same of each slab
pub record KeepsSlabs (old new : List ℕ) : Type 0 where
  pub each : (start : ℕ) → IsSameSlab (tables_of old) (tables_of new) start

pub IsSameSlab-back : {t new : Tables} {start : ℕ} → IsSameSlab t new start → IsSameSlab new t start
IsSameSlab-back same = record { slab = sym same.slab; header = sym same.header }

-- tables that differ in roots, the open entry and large extents alone
pub IsSameSlab-roots : (t : Tables) (word root large : ℕ → ℕ) (entry : Option WalEntry) (start : ℕ) → IsSameSlab t (record t { word = word; root = root; large = large; open_entry = entry }) start
IsSameSlab-roots t word root large entry start = record { slab = refl; header = refl }

pub Holds-same : {t new : Tables} {start : ℕ} → IsSameSlab t new start → (range : Range) → Holds t start range → Holds new start range
Holds-same {t} {new} {start} same range holds = record {
  slab = same.slab ∙ holds.slab;
  block = subst (λ h. HoldsBit h start range ⊎ HoldsOld h start range) (sym same.header) holds.block;
}

pub Holds-same_back : {t new : Tables} {start : ℕ} → IsSameSlab t new start → (range : Range) → Holds new start range → Holds t start range
Holds-same_back same = Holds-same (IsSameSlab-back same)

pub IsUnusedIn-same : {t new : Tables} {start : ℕ} → IsSameSlab t new start → (class number : ℕ) → IsUnusedIn t start class number ↔ IsUnusedIn new start class number
IsUnusedIn-same same class number = (
  λ unused. record { each = λ range holds. unused.each range (Holds-same_back same range holds) },
  λ unused. record { each = λ range holds. unused.each range (Holds-same same range holds) },
)

-- it is in the same transition

pub IsMorphing-same : {t new : Tables} {start : ℕ} → IsSameSlab t new start → IsMorphing t start → IsMorphing new start
IsMorphing-same same morphing = record { slab = same.slab ∙ morphing.slab; kind = ap (λ (h : SlabHeader). h.kind) same.header ∙ morphing.kind }

pub IsDoneSlab-same : {t new : Tables} {start : ℕ} → IsSameSlab t new start → IsDoneSlab t start → IsDoneSlab new start
IsDoneSlab-same {t} {new} {start} same done = record {
  slab = same.slab ∙ done.slab;
  kind = ap (λ (h : SlabHeader). h.kind) same.header ∙ done.kind;
  none = subst (λ (h : SlabHeader). (place : ℕ) → place < h.index_count → h.live place ≡ false) (sym same.header) done.none;
}

-- while no entry is open
pub IsNearlyDone-same : {t new : Tables} {start : ℕ} → IsSameSlab t new start → t.open_entry ≡ None → IsNearlyDone t start → IsNearlyDone new start
IsNearlyDone-same {t} {new} {start} same closed nearly = spent_nearly new start (same.slab ∙ nearly.slab) (subst IsSpent (sym same.header) (nearly_spent closed nearly))
