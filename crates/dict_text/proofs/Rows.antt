-- The words of puts in a row: where more words follow, the calls stay what they are.
use Rattle.std.proofs.Common.{◌≡◌, ℕ, ◌+◌, ◌-◌, ◌≤◌, List, [], ◌∷◌, ◌++◌, length, map, take, drop, refl, sym, ◌∙◌, ap, subst, arith, length-append, length-drop}
use Rattle.std.specs.Prelude.{slice_range}
use Rattle.std.specs.List.{All}
use Rattle.std.proofs.lemmas.List.{take-append-le, drop-append-le, map-append, length-map}
use Rattle.std.proofs.lemmas.List.Elements.{All-head, All-tail, All-push, All-same, All-weaker}
use Rattle.dict_text.specs.declared.script.ScriptCall.{ScriptCall}
use Rattle.dict_text.specs.declared.script.ScriptCall.TheVariants.{Put, Get, Del}
use Rattle.dict_text.specs.declared.script.Script.{Script}
use Rattle.dict_text.specs.Script.{DictCall}
use Rattle.dict_text.specs.Calls.{call_of, calls_of, HasWordsOf, HasValues}
use Rattle.dict_text.specs.Lines.{ReadsCall, AddsCall}

-- a range of a row, with more behind it
range_kept : (row more : List ℕ) (from count : ℕ) → from + count ≤ length row → slice_range (row ++ more) from (from + count) ≡ slice_range row from (from + count)
range_kept row more from count inside =
    ap (take (from + count - from)) (drop-append-le from row more (omega (arith, inside)))
    ∙ take-append-le (from + count - from) (drop from row) more (omega (arith, inside, length-drop from row))

-- one call
call_kept : (row more : List ℕ) (call : ScriptCall) → HasWordsOf row call → call_of (row ++ more) call ≡ call_of row call
call_kept row more (Put key from count) has = ap (DictCall.Put key) (range_kept row more from count has.inside)
call_kept row more (Get key) has = refl
call_kept row more (Del key) has = refl

-- many
pub calls_kept : (row more : List ℕ) (calls : List ScriptCall) → All (HasWordsOf row) calls → map (call_of (row ++ more)) calls ≡ map (call_of row) calls
calls_kept row more [] has = refl
calls_kept row more (call ∷ calls) has =
    let first = call_kept row more call (All-head (HasWordsOf row) call calls has) in
    let rest = calls_kept row more calls (All-tail (HasWordsOf row) call calls has) in
    cc

-- the words are there still
words_kept : (row more : List ℕ) (call : ScriptCall) → HasWordsOf row call → HasWordsOf (row ++ more) call
words_kept row more (Put key from count) has = record { inside = omega (arith, has.inside, length-append row more); few = has.few }
words_kept row more (Get key) has = tt
words_kept row more (Del key) has = tt

pub all_kept : (row more : List ℕ) (calls : List ScriptCall) → All (HasWordsOf row) calls → All (HasWordsOf (row ++ more)) calls
all_kept row more calls has = All-weaker (HasWordsOf row) (HasWordsOf (row ++ more)) (words_kept row more) calls has

-- a call that was read of a line is put behind those of a script
pub adds_call : (line : List ℕ) (old new : Script) (call : ScriptCall) → HasValues old → ReadsCall line old.values.items new.values.items call → new.calls.items ≡ old.calls.items ++ call ∷ [] → new.granules ≡ old.granules → AddsCall line old new
adds_call line old new call has reads pushed size = record {
  call = call_of new.values.items call;
  makes = reads.makes;
  calls = ap (map (call_of new.values.items)) pushed ∙ map-append (call_of new.values.items) old.calls.items (call ∷ [])
      ∙ ap (λ (calls : List DictCall). calls ++ call_of new.values.items call ∷ [])
      (ap (λ (row : List ℕ). map (call_of row) old.calls.items) reads.row.is ∙ calls_kept old.values.items reads.row.rest old.calls.items has.each);
  has = record {
    each = All-same (HasWordsOf new.values.items) new.calls.items (old.calls.items ++ call ∷ []) pushed
        (All-push (HasWordsOf new.values.items) old.calls.items call
        (subst (λ (row : List ℕ). All (HasWordsOf row) old.calls.items) (sym reads.row.is) (all_kept old.values.items reads.row.rest old.calls.items has.each)) reads.has);
  };
  size = size;
}

-- a script has one call more
pub one_more : {line : List ℕ} {old new : Script} → AddsCall line old new → length new.calls.items ≡ length old.calls.items + 1
one_more {line} {old} {new} adds =
    let before = length-map old.calls.items (call_of old.values.items) in
    let behind = length-map new.calls.items (call_of new.values.items) in
    omega (arith, before, behind, ap length adds.calls, length-append (calls_of old) (adds.call ∷ []))
