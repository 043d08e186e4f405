-- What an owner's pass has made of its list, after a request was served or skipped.
use Rattle.std.proofs.Common.{◌≡◌, ◌≢◌, ℕ, zero, suc, ◌<◌, Bool, true, false, true≢false, List, [], ◌∷◌, ◌++◌, length, refl, ap, sym, ◌∙◌, subst, arith, get_or, set, append_assoc, Option, Some, None}
use Rattle.arena_server.proofs.Common.{append-nil, length-map, Entry, Lock, Known, view, PassState, PoolState, IsPassOf, nobody, first_calls, mine_at, Called}
use mathlib.Core.List.{map-append}
use Rattle.shared_pool.specs.declared.job.Receipt.{Receipt}
use Rattle.arena_server.specs.declared.request.Request.{Request}
use Rattle.arena_server.specs.declared.owner.Till.{Till}
use Rattle.arena_server.specs.Owners.{asked, made, held_list, taken_of, till_list, HasMade, IsTill, IsOwner}

get_set : (ps : List Known) (a : ℕ) (w : Known) → a < length ps → get_or (set ps a w) a nobody ≡ w
get_set [] a w l = absurd (omega arith)
get_set (p ∷ ps) zero w l = refl
get_set (p ∷ ps) (suc a) w l = get_set ps a w (omega arith)

get_other : (ps : List Known) (a b : ℕ) (w : Known) → b ≢ a → get_or (set ps a w) b nobody ≡ get_or ps b nobody
get_other [] a b w ne = refl
get_other (p ∷ ps) zero zero w ne = absurd (ne refl)
get_other (p ∷ ps) zero (suc b) w ne = refl
get_other (p ∷ ps) (suc a) zero w ne = refl
get_other (p ∷ ps) (suc a) (suc b) w ne = get_other ps a b w (λ e. ne (ap suc e))

-- where the pool has a lock, the pass has a seat
pub has_part : (pool : PoolState) (p : PassState) (a : ℕ) → IsPassOf pool p → a < length pool.locks → a < length p.parts
has_part pool p a is l = subst (λ n. a < n) (sym (length-map pool.locks (λ (l : Lock). l.id)) ∙ (ap length is ∙ length-map p.parts (λ (k : Known). k.lock))) l

made_more : (p q : PassState) (list : List Request) (r : Request) (receipt : Receipt) (skipped : Bool) → skipped ≡ false → p.number < length p.parts → Called p.number r.call p q receipt → HasMade p list skipped → HasMade q (list ++ r ∷ []) skipped
made_more p q list r receipt skipped none room called h =
    let same : q.number ≡ p.number = ap (λ (z : PassState). z.number) called.pass in
    let here : mine_at q p.number ≡ mine_at p p.number ++ receipt.entry ∷ [] = ap (λ (z : PassState). mine_at z p.number) called.pass ∙ ap (λ (z : Known). first_calls z.mine) (get_set p.parts p.number _ room) in
    let more : made (mine_at q q.number) ≡ asked (list ++ r ∷ []) =
    ap (λ a. made (mine_at q a)) same ∙ (ap made here ∙ (map-append (λ (e : Entry). e.call) (mine_at p p.number) (receipt.entry ∷ []) ∙ (ap (λ l. l ++ receipt.entry.call ∷ []) (h.all none)
    ∙ (ap (λ k. asked list ++ k ∷ []) called.bears.1 ∙ sym (map-append (λ (z : Request). z.call) list (r ∷ [])))))) in record {
      own = ([], append-nil (made (mine_at q q.number)) ∙ more);
      all = λ _. more;
      elsewhere = λ a ne. let other : a ≢ p.number = λ e. ne (e ∙ sym same) in ap (λ (z : PassState). mine_at z a) called.pass ∙ (ap (λ (z : Known). first_calls z.mine) (get_other p.parts p.number a _ other) ∙ h.elsewhere a other);
    }

made_less : (p : PassState) (list : List Request) (r : Request) (skipped : Bool) → HasMade p list skipped → HasMade p (list ++ r ∷ []) true
made_less p list r skipped h = record {
  own = (h.own.0 ++ r.call ∷ [], sym (append_assoc (made (mine_at p p.number)) h.own.0 (r.call ∷ [])) ∙ (ap (λ l. l ++ r.call ∷ []) h.own.1 ∙ sym (map-append (λ (z : Request). z.call) list (r ∷ []))));
  all = λ e. absurd (true≢false e);
  elsewhere = h.elsewhere;
}

-- what was taken out is the list with the request that was held
taken_is : (t : Till) (r : Request) → t.held ≡ Some r → IsTill t → taken_of (view t.token) ≡ till_list t ++ r ∷ []
taken_is t r held h = h.taken ∙ ap (λ (o : Option Request). till_list t ++ held_list o) held

none_held : (t : Till) (skipped : Bool) → IsTill t → IsTill (record { arena = t.arena; token = t.token; held = None; skipped = skipped })
none_held t skipped h = record { part = h.part; here = h.here; taken = sym (append-nil (taken_of (view t.token))) }

pub served_owner : (p q : PassState) (t : Till) (r : Request) (receipt : Receipt) → t.held ≡ Some r → t.skipped ≡ false → p.number < length p.parts → Called p.number r.call p q receipt → IsOwner p t → IsOwner q (record { arena = t.arena; token = t.token; held = None; skipped = t.skipped })
served_owner p q t r receipt held none room called h = record {
  arena = h.arena ∙ sym (ap (λ (z : PassState). z.number) called.pass);
  till = none_held t t.skipped h.till;
  calls = subst (λ (l : List Request). HasMade q l t.skipped) (sym (taken_is t r held h.till)) (made_more p q (till_list t) r receipt t.skipped none room called h.calls);
}

pub skipped_owner : (p : PassState) (t : Till) (r : Request) → t.held ≡ Some r → IsOwner p t → IsOwner p (record { arena = t.arena; token = t.token; held = None; skipped = true })
skipped_owner p t r held h = record {
  arena = h.arena;
  till = none_held t true h.till;
  calls = subst (λ (l : List Request). HasMade p l true) (sym (taken_is t r held h.till)) (made_less p (till_list t) r t.skipped h.calls);
}
