-- Runs of calls, one call further.
use Rattle.std.proofs.Common.{◌≡◌, ℕ, suc, ◌+◌, ◌-◌, ◌<◌, ◌^◌, List, [], ◌∷◌, ◌++◌, length, take, get_or, map, flat_map, refl, sym, ap, ◌∙◌, subst, append_assoc, ⊎_elim, arith}
use Rattle.dict_runs.proofs.Common.{flat_map-append, append-nil, map-append, get_or-map, length-map, words_of, Bounds, no_heap, HasState, bounds_for, Pair, stage, HasSome, IsPair, IsValueOf, IsDict, AreNumbersUpTo, DictState, Idle, AreNoneStale, value_none, ScriptCall, DictCall, call_of, DictReply, reply_line, Stage}
use Rattle.std.proofs.Math.Seq.{take-suc}
use Rattle.dict_runs.specs.Acts.{Standing}
use Rattle.dict_runs.specs.Making.{IsReady}
use Rattle.dict_runs.specs.Scripts.{Turn, IsTurn, IsRun, IsRunOf, replies_of, header_of, beginning}
use Rattle.dict_runs.specs.Turns.{standing, IsAt, IsNewDict, HasMade}

-- one turn more
pub run_more : (b : Bounds) (from : Standing) (pairs : List Pair) (calls : List DictCall) (turns : List Turn) (to : Standing) (last : List Pair) (call : DictCall) (turn : Turn) (next : Standing) →
    IsRun b from pairs calls turns to last → IsTurn b to last call turn next → IsRun b from pairs (calls ++ call ∷ []) (turns ++ turn ∷ []) next turn.behind
run_more b from pairs [] [] to last call turn next run is =
    let there : (t : Standing) → t ≡ from → IsTurn b t last call turn next → IsTurn b from last call turn next = λ t same. subst (λ (s : Standing). IsTurn b s last call turn next) same in
    (next, subst (λ (ps : List Pair). IsTurn b from ps call turn next) run.2 (there to run.1 is), (refl, refl, refl))
run_more b from pairs [] (t ∷ turns) to last call turn next run is = absurd (cc (run.0))
run_more b from pairs (c ∷ calls) [] to last call turn next run is = absurd run
run_more b from pairs (c ∷ calls) (t ∷ turns) to last call turn next run is = (run.0, run.1, run_more b run.0 t.behind calls turns to last call turn next run.2 is)

-- a new dictionary

-- an image without a block has no pair and nothing stale
module _ (words : List ℕ) (empty : HasState words no_heap) where
  pub nameless : (root : ℕ) → ¬ (HasSome words root)
  nameless root some = let none = empty.blocks root in let named = some.named in absurd (cc (none, named))

  pairless : (root key number : ℕ) (value : List ℕ) → ¬ (IsPair words root key number value)
  pairless root key number value is = nameless root (record { range = is.has.range; named = is.has.named })

  pub empty_dict : IsDict words []
  empty_dict = record {
    fit = λ root low some. absurd (nameless root some);
    rising = tt;
    each = λ key. subst (IsValueOf words key) (sym (value_none key)) (λ root number value. pairless root key number value);
  }

  pub none_stale : AreNoneStale words Idle
  none_stale root = ⊎_elim (λ stale. nameless root stale.some) (λ staged. nameless stage staged.1)

  pub no_numbers : AreNumbersUpTo words 0
  no_numbers = record { each = λ root key number value is. absurd (pairless root key number value is) }

-- a script's run so far: a new dictionary's calls led to this one
pub record IsSoFar (granules : ℕ) (calls : List DictCall) (dict : DictState) (many : ℕ) : Type 0 where
  pub turns : List Turn
  pub to : Standing
  pub at : IsAt (bounds_for (header_of granules)) to many dict
  pub run : IsRunOf granules calls turns to dict.pairs

-- no call was made yet
abbrev pub so_far_none : (granules : ℕ) (dict : DictState) → IsNewDict granules dict → IsSoFar granules [] dict 0
so_far_none granules dict new =
    let place : beginning granules ≡ standing dict.arena no_heap = λ i. record { words = sym new.arena.words i; line = sym new.arena.line i; placed = record { machine = no_heap; stacks = sym new.arena.stacks i } } in
    record {
      turns = [];
      to = beginning granules;
      at = record {
        kept = new.kept;
        machine = no_heap;
        is = place;
        state = new.arena.empty;
        bounds = new.arena.bounds;
        idle = new.idle;
        tidy = none_stale (words_of dict.arena.device) new.arena.empty;
        numbers = no_numbers (words_of dict.arena.device) new.arena.empty;
      };
      run = (refl, refl, new.none);
    }

-- one call further
abbrev pub so_far_more : {L : Type 0} (sees : L → Stage → L → Type 0) (granules : ℕ) (calls : List DictCall) (call : DictCall) (old : DictState) (look : L) (new : DictState) (then : L) (reply : DictReply) (many : ℕ) →
    (so_far : IsSoFar granules calls old many) → HasMade sees (bounds_for (header_of granules)) so_far.to many call old look new then reply → IsSoFar granules (calls ++ call ∷ []) new (many + 1)
so_far_more sees granules calls call old look new then reply many so_far made = record {
  turns = so_far.turns ++ made.turn ∷ [];
  to = made.to;
  at = made.at;
  run = subst (λ (ps : List Pair). IsRunOf granules (calls ++ call ∷ []) (so_far.turns ++ made.turn ∷ []) made.to ps) made.behind
      (run_more (bounds_for (header_of granules)) (beginning granules) [] calls so_far.turns so_far.to old.pairs call made.turn made.to so_far.run made.is);
}

-- the next call may be made
pub ready_at : (b : Bounds) (s : Standing) (most : ℕ) (dict : DictState) → most < 2 ^ 63 → IsAt b s most dict → IsReady dict
ready_at b s most dict few at = record {
  kept = at.kept;
  idle = at.idle;
  tidy = at.tidy;
  numbers = λ spent. let up = at.numbers.each spent.root spent.key (2 ^ 64 - 1) spent.value spent.pair in omega (arith, few, up);
}

-- the next call of a list
pub next_call : {A B : Type 0} (f : A → B) (xs : List A) (i : ℕ) (d : A) → i < length xs → take (i + 1) (map f xs) ≡ take i (map f xs) ++ f (get_or xs i d) ∷ []
next_call f xs i d here =
    let many = length-map xs f in
    ap (λ n. take n (map f xs)) (let one : i + 1 ≡ suc i = omega arith in one) ∙ take-suc (map f xs) i (f d) (omega (arith, here, many))
    ∙ ap (λ x. take i (map f xs) ++ x ∷ []) (get_or-map f xs i d (f d) here)

-- the same with what their lines came to, behind what stood there
pub record IsWrittenSoFar (granules : ℕ) (calls : List DictCall) (dict : DictState) (many : ℕ) (old new : List ℕ) : Type 0 where
  pub so_far : IsSoFar granules calls dict many
  pub text : new ≡ old ++ flat_map reply_line (replies_of so_far.turns)

pub written_none : (granules : ℕ) (dict : DictState) (old : List ℕ) → IsNewDict granules dict → IsWrittenSoFar granules [] dict 0 old old
written_none granules dict old new = record { so_far = so_far_none granules dict new; text = sym (append-nil old) }

pub written_more : {L : Type 0} (sees : L → Stage → L → Type 0) (granules : ℕ) (calls : List DictCall) (call : DictCall) (old : DictState) (look : L) (new : DictState) (then : L) (reply : DictReply) (many : ℕ) (first was is : List ℕ) →
    (so_far : IsWrittenSoFar granules calls old many first was) → HasMade sees (bounds_for (header_of granules)) so_far.so_far.to many call old look new then reply → is ≡ was ++ reply_line reply →
    IsWrittenSoFar granules (calls ++ call ∷ []) new (many + 1) first is
written_more sees granules calls call old look new then reply many first was is so_far made text =
    let turns = so_far.so_far.turns in
    let more : flat_map reply_line (replies_of (turns ++ made.turn ∷ [])) ≡ flat_map reply_line (replies_of turns) ++ reply_line reply =
    ap (λ (rs : List DictReply). flat_map reply_line rs) (map-append (λ (t : Turn). t.reply) turns (made.turn ∷ []))
    ∙ (flat_map-append reply_line (replies_of turns) (made.turn.reply ∷ []) ∙ ap (λ (xs : List ℕ). flat_map reply_line (replies_of turns) ++ xs) (append-nil (reply_line made.turn.reply) ∙ ap reply_line made.replied)) in
    record {
      so_far = so_far_more sees granules calls call old look new then reply many so_far.so_far made;
      text = text ∙ (ap (λ (xs : List ℕ). xs ++ reply_line reply) so_far.text ∙ (append_assoc first (flat_map reply_line (replies_of turns)) (reply_line reply) ∙ ap (λ (xs : List ℕ). first ++ xs) (sym more)));
    }

-- the same call, of lists that are the same
pub same_call : (values vs : List ℕ) (calls xs : List ScriptCall) (i : ℕ) (d : ScriptCall) → vs ≡ values → xs ≡ calls → call_of vs (get_or xs i d) ≡ call_of values (get_or calls i d)
same_call values vs calls xs i d one two = λ k. call_of (one k) (get_or (two k) i d)
