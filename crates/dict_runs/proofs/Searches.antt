-- The search for the call under way, call by call.
use Rattle.std.proofs.Common.{◌≡◌, ◌≢◌, ◌⊎◌, ℕ, zero, suc, ◌+◌, ◌-◌, ◌<◌, ◌≤◌, Bool, true, false, List, [], ◌∷◌, ◌++◌, length, take, get_or, Option, Some, None, refl, sym, ap, ◌∙◌, subst, append_assoc, inl, inr, ⊎_elim, arith, ◌==◌, ◌||◌, Vec, Global}
use Rattle.dict_runs.proofs.Common.{append-nil, get_or-map, length-map, MatchOption, cases_lt, ne_eqb, MatchBool, CrashSide, Same, bounds_for, formatted, total_events, Pair, IsSteadyDict, DictState, law_of_dicts, ScriptCall, DictCall, Get, call_of, calls_of, DictReply}
use Rattle.dict_text.specs.declared.script.Script.{Script}
use Rattle.dict_text.specs.declared.script.ScriptCall.TheVariants as said
use Rattle.dict_runs.specs.declared.crashing.DictCrashed.{DictCrashed}
use Rattle.dict_runs.specs.declared.watching.Watch.{Watch}
use Rattle.dict_runs.specs.Crashes.{DictLeft, IsImageWithin, is_within, IsLeft, IsLeftWithin, IsLeftIdle, IsMapSide, IsDictCrash, all_events, calls_up_to}
use Rattle.dict_runs.specs.Scripts.{Turn, IsRunOf, header_of}
use Rattle.dict_runs.specs.Turns.{IsNewDict, IsChange, HasMade}
use Rattle.dict_runs.specs.Watching.{IsWatched, ChangesNothing, IsSideOf, IsSideAt, IsPast, IsFound, IsCrashed, HasSteadyDict, left_of}
use Rattle.dict_runs.proofs.Crossings.{HasCountedAll, HasTakenAll, IsTakenWithin, seen_all, within_true, within_false}
use Rattle.dict_runs.proofs.Runs.{IsSoFar, so_far_none, so_far_more, next_call}
use Rattle.dict_runs.proofs.Sides.{left_side}

-- the search so far: the call under way is none of those that were made, which have these many events
pub record IsSeeking (granules event seed : ℕ) (calls : List DictCall) (dict : DictState) (many : ℕ) (watch : Watch) : Type 0 where
  pub so_far : IsSoFar granules calls dict many
  pub seeded : watch.seed ≡ seed
  pub image : watch.image ≡ None
  pub leaves : (more : List Turn) (left : DictLeft) → IsLeft granules many more watch.left seed left → IsLeft granules 0 (so_far.turns ++ more) event seed left
  pub total : all_events so_far.turns + watch.left ≡ event

all_events-append : (turns more : List Turn) → all_events (turns ++ more) ≡ all_events turns + all_events more
all_events-append [] more = omega arith
all_events-append (turn ∷ turns) more = omega (arith, all_events-append turns more)

-- at the start
pub seeking_none : (granules : ℕ) (dict : DictState) (watch : Watch) → IsNewDict granules dict → watch.image ≡ None → IsSeeking granules watch.left watch.seed [] dict 0 watch
seeking_none granules dict watch new none = record { so_far = so_far_none granules dict new; seeded = refl; image = none; leaves = λ more left is. is; total = omega arith }

module _ (granules event seed : ℕ) (calls : List DictCall) (call : DictCall) (old new : DictState) (watch then : Watch) (reply : DictReply) (many : ℕ)
    (seeking : IsSeeking granules event seed calls old many watch) (made : HasMade IsWatched (bounds_for (header_of granules)) seeking.so_far.to many call old watch new then reply) where
  abbrev turns : List Turn
  turns = seeking.so_far.turns

  seen : HasCountedAll watch made.turn.stages then ⊎ HasTakenAll watch made.turn.stages then
  seen = seen_all watch made.turn.stages then seeking.image made.seen

  -- what more turns leave, by whether this one is under way
  turned : (more : List Turn) (left : DictLeft) (b : Bool) → is_within (total_events made.turn.stages) watch.left ≡ b →
      MatchBool b (IsLeftWithin made.turn (many + 1) watch.left seed left) (IsLeft granules (many + 1) more (watch.left - total_events made.turn.stages) seed left) → IsLeft granules 0 ((turns ++ made.turn ∷ []) ++ more) event seed left
  turned more left b is there =
      subst (λ (ts : List Turn). IsLeft granules 0 ts event seed left) (sym (append_assoc turns (made.turn ∷ []) more))
      (seeking.leaves (made.turn ∷ more) left
      (subst (λ c. MatchBool c (IsLeftWithin made.turn (many + 1) watch.left seed left) (IsLeft granules (many + 1) more (watch.left - total_events made.turn.stages) seed left)) (sym is) there))

  -- it is not
  counted : HasCountedAll watch made.turn.stages then → IsSeeking granules event seed (calls ++ call ∷ []) new (many + 1) then
  counted all = record {
    so_far = so_far_more IsWatched granules calls call old watch new then reply many seeking.so_far made;
    seeded = all.seeded ∙ seeking.seeded;
    image = all.image;
    leaves = λ more left is. turned more left false (within_false (total_events made.turn.stages) watch.left all.few) (subst (λ n. IsLeft granules (many + 1) more n seed left) all.left is);
    total = counted_total all;
  }
    where
      counted_total : HasCountedAll watch made.turn.stages then → all_events (turns ++ made.turn ∷ []) + then.left ≡ event
      counted_total all = ⊎_elim
          (λ (some : 0 < total_events made.turn.stages). let f = all.few some in let b = seeking.total in let c = all.left in let d = all_events-append turns (made.turn ∷ []) in omega (arith, b, c, d, f))
          (λ (none : total_events made.turn.stages ≤ 0). let b = seeking.total in let c = all.left in let d = all_events-append turns (made.turn ∷ []) in omega (arith, b, c, d, none))
          (cases_lt 0 (total_events made.turn.stages))

  pub seeking_more : then.image ≡ None → IsSeeking granules event seed (calls ++ call ∷ []) new (many + 1) then
  seeking_more none = ⊎_elim counted (λ taken. absurd (subst (λ o. MatchOption o ⊥ (λ image. IsTakenWithin made.turn.stages watch.left watch.seed image.items)) none taken.image)) seen

  -- the image that the watch has then is one that it took
  pub taken_all : (image : Vec ℕ Global) → then.image ≡ Some image → HasTakenAll watch made.turn.stages then × IsTakenWithin made.turn.stages watch.left watch.seed image.items
  taken_all image some = ⊎_elim
      (λ all. absurd (let none = all.image in cc (none, some)))
      (λ taken. (taken, subst (λ o. MatchOption o ⊥ (λ image. IsTakenWithin made.turn.stages watch.left watch.seed image.items)) some taken.image))
      seen

  -- it is: an image was taken
  module _ (image : List ℕ) (taken : HasTakenAll watch made.turn.stages then) (is : IsTakenWithin made.turn.stages watch.left watch.seed image) where
    run : IsRunOf granules (calls ++ call ∷ []) (turns ++ made.turn ∷ []) made.to new.pairs
    run = let more = so_far_more IsWatched granules calls call old watch new then reply many seeking.so_far made in more.run

    steady : IsSteadyDict old.pairs image ⊎ IsSteadyDict new.pairs image
    steady = is.left old.pairs new.pairs made.leaves

    either : (pairs : List Pair) → IsSteadyDict pairs image → (pairs ≡ old.pairs) ⊎ (pairs ≡ new.pairs)
    either pairs has = ⊎_elim (λ before. inl (law_of_dicts image pairs old.pairs has.dict before.dict)) (λ behind. inr (law_of_dicts image pairs new.pairs has.dict behind.dict)) steady

    pub some_dict : HasSteadyDict image
    some_dict = ⊎_elim (λ before. record { pairs = old.pairs; steady = before }) (λ behind. record { pairs = new.pairs; steady = behind }) steady

    within : (pairs : List Pair) (side : CrashSide) (same : Bool) → (same ≡ true → ChangesNothing old.pairs call) → (ChangesNothing old.pairs call → same ≡ true) → IsSteadyDict pairs image →
        MatchBool same (side ≡ Same) (IsSideOf call pairs side) → IsLeftWithin made.turn (many + 1) watch.left seed (record { call = many + 1; side = side; image = image; pairs = pairs })
    within pairs side same told tells has side_is =
        let map_side : IsMapSide old.pairs new.pairs pairs side =
        left_side (bounds_for (header_of granules)) seeking.so_far.to made.to call made.turn.reply made.turn.stages old.pairs new.pairs seeking.so_far.at.kept.dict.rising made.at.kept.dict.rising made.is.done
        (subst (λ (r : DictReply). IsChange call r old.pairs new.pairs) (sym made.replied) made.change) taken.some pairs side same told tells (either pairs has) side_is in
        record {
          call = refl;
          image = subst (λ s. IsImageWithin made.turn.stages watch.left s image) seeking.seeded is.within;
          steady = has;
          side = subst (λ (ps : List Pair). IsMapSide ps made.turn.behind pairs side) (sym made.before) (subst (λ (ps : List Pair). IsMapSide old.pairs ps pairs side) (sym made.behind) map_side);
        }

    pub crash_of : (all : List DictCall) → calls_up_to (many + 1) all ≡ calls ++ call ∷ [] → (pairs : List Pair) (side : CrashSide) (same : Bool) → (same ≡ true → ChangesNothing old.pairs call) → (ChangesNothing old.pairs call → same ≡ true) →
        IsSteadyDict pairs image → MatchBool same (side ≡ Same) (IsSideOf call pairs side) → IsDictCrash granules all event seed (record { call = many + 1; side = side; image = image; pairs = pairs })
    crash_of all front pairs side same told tells has side_is = record {
      turns = turns ++ made.turn ∷ [];
      to = made.to;
      last = new.pairs;
      run = subst (λ (cs : List DictCall). IsRunOf granules cs (turns ++ made.turn ∷ []) made.to new.pairs) (sym front) run;
      leaves = subst (λ (ts : List Turn). IsLeft granules 0 ts event seed (record { call = many + 1; side = side; image = image; pairs = pairs })) (append-nil (turns ++ made.turn ∷ []))
          (turned [] (record { call = many + 1; side = side; image = image; pairs = pairs }) true (within_true (total_events made.turn.stages) watch.left taken.some taken.few) (within pairs side same told tells has side_is));
    }

-- whose image is taken out, where there is none
pub seeking_taken : (granules event seed : ℕ) (calls : List DictCall) (dict : DictState) (many : ℕ) (watch : Watch) (image : Option (Vec ℕ Global)) → image ≡ None → IsSeeking granules event seed calls dict many watch →
    IsSeeking granules event seed calls dict many (record { alloc = watch.alloc; seed = watch.seed; left = watch.left; image = image })
seeking_taken granules event seed calls dict many watch image none seeking = record { so_far = seeking.so_far; seeded = seeking.seeded; image = none; leaves = seeking.leaves; total = seeking.total }

pub none_of : {V : Type 0} (o : Option V) → ((v : V) → o ≢ Some v) → o ≡ None
none_of None not = refl
none_of (Some v) not = absurd (not v refl)

-- the calls up to one
up_to : (n : ℕ) (calls : List DictCall) → 0 < n → calls_up_to n calls ≡ take n calls
up_to zero calls some = absurd (omega (arith, some))
up_to (suc n) calls some = refl

pub up_to_next : (n : ℕ) (calls : List DictCall) → calls_up_to (n + 1) calls ≡ take (n + 1) calls
up_to_next n calls = up_to (n + 1) calls (omega arith)

-- no call is under way
pub past_all : (granules event seed : ℕ) (calls : List DictCall) (dict : DictState) (many : ℕ) (watch : Watch) → IsSeeking granules event seed calls dict many watch → IsPast granules calls event seed watch.left
past_all granules event seed calls dict many watch seeking = record {
  turns = seeking.so_far.turns;
  to = seeking.so_far.to;
  last = dict.pairs;
  run = seeking.so_far.run;
  total = seeking.total;
  leaves = λ none left idle. subst (λ (ts : List Turn). IsLeft granules 0 ts event seed left) (append-nil seeking.so_far.turns) (seeking.leaves [] left (subst (λ n. IsLeftIdle granules n left) (sym none) idle));
}

-- the side, where the call under way is one of a list

side_at_next : (i : ℕ) (same : Bool) (calls : List DictCall) (call : DictCall) (pairs : List Pair) (side : CrashSide) → get_or calls i (Get 0) ≡ call → IsSideAt (i + 1) same calls pairs side → MatchBool same (side ≡ Same) (IsSideOf call pairs side)
side_at_next i same calls call pairs side is at =
    let back : i + 1 - 1 ≡ i = omega arith in
    let here : get_or calls (i + 1 - 1) (Get 0) ≡ call = ap (λ n. get_or calls n (Get 0)) back ∙ is in
    subst (λ b. MatchBool (b || same) (side ≡ Same) (IsSideOf call pairs side)) (ne_eqb (i + 1) 0 (λ is. omega (arith, is))) (subst (λ (c : DictCall). MatchBool (((i + 1) == 0) || same) (side ≡ Same) (IsSideOf c pairs side)) here at)

-- with no call under way
pub side_at_none : (same : Bool) (calls : List DictCall) (pairs : List Pair) (side : CrashSide) → IsSideAt 0 same calls pairs side → side ≡ Same
side_at_none same calls pairs side at = at

-- with none under way, a crash leaves the arena as it is formatted
pub idle_crash : (granules : ℕ) (calls : List DictCall) (event seed left : ℕ) (crashed : DictCrashed) → IsPast granules calls event seed left → left ≡ 0 → crashed.call ≡ 0 → crashed.image.items ≡ formatted (header_of granules) →
    IsSteadyDict [] crashed.image.items → IsCrashed granules calls event seed crashed
idle_crash granules calls event seed left crashed past none idle image empty = record {
  each = λ pairs side steady at. record {
    turns = past.turns;
    to = past.to;
    last = past.last;
    run = subst (λ n. IsRunOf granules (calls_up_to n calls) past.turns past.to past.last) (sym idle) past.run;
    leaves = past.leaves none (left_of crashed side pairs) (record {
      done = refl;
      no_call = idle;
      no_side = side_at_none crashed.same calls pairs side (subst (λ n. IsSideAt n crashed.same calls pairs side) idle at);
      image = image;
      none = law_of_dicts crashed.image.items pairs [] steady.dict empty.dict;
    });
  };
}

-- what stands behind a list of calls
abbrev first_call : ScriptCall
first_call = said.Put 0 0 0

-- what is found of the next call of a script
pub found_next : (granules event seed : ℕ) (script : Script) (i : ℕ) (old new : DictState) (watch then : Watch) (reply : DictReply) (same : Bool) (image : Vec ℕ Global) → i < length script.calls.items →
    (seeking : IsSeeking granules event seed (take i (calls_of script)) old i watch) →
    HasMade IsWatched (bounds_for (header_of granules)) seeking.so_far.to i (call_of script.values.items (get_or script.calls.items i first_call)) old watch new then reply → then.image ≡ Some image →
    (same ≡ true → ChangesNothing old.pairs (call_of script.values.items (get_or script.calls.items i first_call))) → (ChangesNothing old.pairs (call_of script.values.items (get_or script.calls.items i first_call)) → same ≡ true) →
    IsFound granules (calls_of script) event seed (record { call = i + 1; image = image; same = same })
found_next granules event seed script i old new watch then reply same image here seeking made some told tells =
    let call = call_of script.values.items (get_or script.calls.items i first_call) in
    let calls = take i (calls_of script) in
    let taken = taken_all granules event seed calls call old new watch then reply i seeking made image some in
    let front : calls_up_to (i + 1) (calls_of script) ≡ calls ++ call ∷ [] = up_to_next i (calls_of script) ∙ next_call (call_of script.values.items) script.calls.items i first_call here in
    let is_call : get_or (calls_of script) i (Get 0) ≡ call = get_or-map (call_of script.values.items) script.calls.items i first_call (Get 0) here in
    record {
      crash = record { each = λ pairs side steady at. crash_of granules event seed calls call old new watch then reply i seeking made image.items taken.0 taken.1 (calls_of script) front pairs side same told tells steady (side_at_next i same (calls_of script) call pairs side is_call at) };
      steady = some_dict granules event seed calls call old new watch then reply i seeking made image.items taken.0 taken.1;
      number = let many = length-map script.calls.items (call_of script.values.items) in omega (arith, here, many);
    }
