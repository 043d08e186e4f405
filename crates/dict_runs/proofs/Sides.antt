-- On which side of the call under way a map stands, told by what its key has.
use Rattle.std.proofs.Common.{◌≡◌, ◌≢◌, ◌⊎◌, ℕ, ◌+◌, ◌<◌, Bool, true, false, List, [], length, Some, None, refl, sym, ap, ◌∙◌, subst, ⊎_elim, arith}
use Rattle.dict_runs.proofs.Common.{cases_eq, MatchBool, CrashSide, Bounds, Stage, total_events, Pair, value_of, AreRising, Puts, same_map, DictCall, Put, Get, Del, DictReply}
use Rattle.trace_text.specs.declared.call.CrashSide.TheVariants.{Same, Before, After}
use Rattle.dict_text.specs.Report.{DictReply as texts}
use Rattle.dict_runs.specs.Acts.{Standing}
use Rattle.dict_runs.specs.Crashes.{IsMapSide}
use Rattle.dict_runs.specs.Scripts.{IsUnstored, IsDone}
use Rattle.dict_runs.specs.Turns.{IsChange}
use Rattle.dict_runs.specs.Watching.{ChangesNothing, IsSideOf}

-- a put of what the key has leaves the map
put_same : (before behind : List Pair) (key : ℕ) (value : List ℕ) → AreRising before → AreRising behind → value_of before key ≡ Some value → Puts before key (Some value) behind → before ≡ behind
put_same before behind key value up also has puts = same_map before behind up also (λ other. ⊎_elim
    (λ (is : other ≡ key). subst (λ k. value_of before k ≡ value_of behind k) (sym is) (has ∙ sym puts.here))
    (λ (is : other ≢ key). sym (puts.others other is))
    (cases_eq other key))

-- maps with different things of a key are two
two_maps : (before behind : List Pair) (key : ℕ) → value_of before key ≢ value_of behind key → before ≢ behind
two_maps before behind key differ same = differ (ap (λ (ps : List Pair). value_of ps key) same)

-- a call that has events and changes the map, by its reply
pub record IsMapChange (call : DictCall) (before behind : List Pair) : Type 0 where
  pub sides : (pairs : List Pair) (side : CrashSide) → (pairs ≡ before) ⊎ (pairs ≡ behind) → IsSideOf call pairs side → IsMapSide before behind pairs side

-- a put of what the key has not
put_change : (before behind : List Pair) (key : ℕ) (value : List ℕ) → value_of before key ≢ Some value → Puts before key (Some value) behind → IsMapChange (Put key value) before behind
put_change before behind key value lacks puts = record { sides = sides }
  where
    differ : before ≢ behind
    differ = two_maps before behind key (λ same. lacks (same ∙ puts.here))

    sides : (pairs : List Pair) (side : CrashSide) → (pairs ≡ before) ⊎ (pairs ≡ behind) → IsSideOf (Put key value) pairs side → IsMapSide before behind pairs side
    sides pairs Same either is = absurd is
    sides pairs Before either is = (differ, ⊎_elim (λ first. first) (λ second. absurd (is (ap (λ (ps : List Pair). value_of ps key) second ∙ puts.here))) either)
    sides pairs After either is = (differ, ⊎_elim (λ first. absurd (lacks (sym (ap (λ (ps : List Pair). value_of ps key) first) ∙ is))) (λ second. second) either)

-- a removal
removal_change : (before behind : List Pair) (key : ℕ) → value_of before key ≢ None → Puts before key None behind → IsMapChange (Del key) before behind
removal_change before behind key has puts = record { sides = sides }
  where
    differ : before ≢ behind
    differ = two_maps before behind key (λ same. has (same ∙ puts.here))

    sides : (pairs : List Pair) (side : CrashSide) → (pairs ≡ before) ⊎ (pairs ≡ behind) → IsSideOf (Del key) pairs side → IsMapSide before behind pairs side
    sides pairs Same either is = absurd is
    sides pairs Before either is = (differ, ⊎_elim (λ first. first) (λ second. absurd (is (ap (λ (ps : List Pair). value_of ps key) second ∙ puts.here))) either)
    sides pairs After either is = (differ, ⊎_elim (λ first. absurd (has (sym (ap (λ (ps : List Pair). value_of ps key) first) ∙ is))) (λ second. second) either)

-- a put that was told from one of what its key had
stored_side : (before behind : List Pair) (key : ℕ) (value : List ℕ) → AreRising before → AreRising behind → Puts before key (Some value) behind → (pairs : List Pair) (side : CrashSide) (same : Bool) →
    (same ≡ true → ChangesNothing before (Put key value)) → (ChangesNothing before (Put key value) → same ≡ true) → (pairs ≡ before) ⊎ (pairs ≡ behind) → MatchBool same (side ≡ Same) (IsSideOf (Put key value) pairs side) → IsMapSide before behind pairs side
stored_side before behind key value up also puts pairs side true told tells either is =
    let one = put_same before behind key value up also (told refl) puts in
    subst (IsMapSide before behind pairs) (sym is) (one, ⊎_elim (λ first. first ∙ one) (λ second. second) either)
stored_side before behind key value up also puts pairs side false told tells either is =
    (put_change before behind key value (λ has. let no = tells has in absurd (cc no)) puts).sides pairs side either is

removed_side : (before behind : List Pair) (key : ℕ) → value_of before key ≢ None → Puts before key None behind → (pairs : List Pair) (side : CrashSide) (same : Bool) →
    (same ≡ true → ChangesNothing before (Del key)) → (pairs ≡ before) ⊎ (pairs ≡ behind) → MatchBool same (side ≡ Same) (IsSideOf (Del key) pairs side) → IsMapSide before behind pairs side
removed_side before behind key has puts pairs side true told either is = absurd (told refl)
removed_side before behind key has puts pairs side false told either is = (removal_change before behind key has puts).sides pairs side either is

-- calls that ask nothing of the arena have no events
no_events : (stages : List Stage) → stages ≡ [] → 0 < total_events stages → ⊥
no_events stages none some = let zero : total_events stages ≡ 0 = ap total_events none in omega (arith, zero, some)

-- nor has a refused one
refused_events : (b : Bounds) (from to : Standing) (value : List ℕ) (stages : List Stage) → IsUnstored b from value stages to → 0 < total_events stages → ⊥
refused_events b from to value stages refused some =
    let zero : total_events stages ≡ length refused.asked.events + 0 = ap total_events refused.are in
    let none : length refused.asked.events ≡ 0 = ap length refused.take.events in
    omega (arith, zero, none, some)

-- On which side of a call that has events a map stands, where a put of what its key had is told from the others.
pub left_side : (b : Bounds) (from to : Standing) (call : DictCall) (reply : DictReply) (stages : List Stage) (before behind : List Pair) → AreRising before → AreRising behind → IsDone b from before call reply stages to →
    IsChange call reply before behind → 0 < total_events stages → (pairs : List Pair) (side : CrashSide) (same : Bool) → (same ≡ true → ChangesNothing before call) → (ChangesNothing before call → same ≡ true) →
    (pairs ≡ before) ⊎ (pairs ≡ behind) → MatchBool same (side ≡ Same) (IsSideOf call pairs side) → IsMapSide before behind pairs side
left_side b from to (Put key value) texts.Stored stages before behind up also done change some pairs side same told tells either is = stored_side before behind key value up also change pairs side same told tells either is
left_side b from to (Put key value) texts.Full stages before behind up also done change some pairs side same told tells either is = absurd (no_events stages done.1.0 some)
left_side b from to (Put key value) texts.NoSpace stages before behind up also done change some pairs side same told tells either is = absurd (refused_events b from to value stages done some)
left_side b from to (Put key value) (texts.Value words) stages before behind up also done change some pairs side same told tells either is = absurd done
left_side b from to (Put key value) texts.Absent stages before behind up also done change some pairs side same told tells either is = absurd done
left_side b from to (Put key value) texts.Removed stages before behind up also done change some pairs side same told tells either is = absurd done
left_side b from to (Get key) reply stages before behind up also done change some pairs side same told tells either is = absurd (no_events stages done.1.0 some)
left_side b from to (Del key) texts.Removed stages before behind up also done change some pairs side same told tells either is = removed_side before behind key change.0 change.1 pairs side same told either is
left_side b from to (Del key) texts.Absent stages before behind up also done change some pairs side same told tells either is = absurd (no_events stages done.1.0 some)
left_side b from to (Del key) texts.Stored stages before behind up also done change some pairs side same told tells either is = absurd done
left_side b from to (Del key) texts.Full stages before behind up also done change some pairs side same told tells either is = absurd done
left_side b from to (Del key) texts.NoSpace stages before behind up also done change some pairs side same told tells either is = absurd done
left_side b from to (Del key) (texts.Value words) stages before behind up also done change some pairs side same told tells either is = absurd done
