-- All senders end at a queue, and it is emptied.
use Rattle.std.proofs.Common.{◌≡◌, ℕ, List, [], ◌∷◌, ◌++◌, map, length, refl, ap, sym, ◌∙◌, subst, append_assoc, arith}
use Rattle.arena_server.proofs.Common.{append-nil, view, HasAll}
use Rattle.arena_server.specs.declared.request.Request.{Request}
use Rattle.arena_server.specs.declared.owner.Till.{Till}
use Rattle.arena_server.specs.declared.part.Ended.{Ended}
use Rattle.arena_server.specs.declared.part.Part.TheVariants.{Takes}
use Rattle.arena_server.specs.Requests.{AllOfSenders}
use Rattle.arena_server.specs.Parts.{AllEnded, IsWhole, KnowsWhole, HaveAllEnded, IsTaker}
use Rattle.arena_server.specs.Senders.{SenderState, sent_at, numbers}
use Rattle.arena_server.specs.Owners.{held_list, till_list, taken_of, senders_of, IsTill}
use Rattle.arena_server.specs.Closed.{AllSentThere, AllBy}
use Rattle.arena_server.specs.Emptied.{after_all_ending, IsEmptied}

abbrev ended_here : SenderState → Ended
ended_here s = record { sender = s.number; sent = sent_at s 0 }

ended_all : (n : ℕ) (t : List Request) (es : List Ended) (ss : List SenderState) → after_all_ending (Takes n t es) ss ≡ Takes n t (es ++ map ended_here ss)
ended_all n t es [] = ap (Takes n t) (sym (append-nil es))
ended_all n t es (s ∷ ss) = ended_all n t (es ++ ended_here s ∷ []) ss ∙ ap (Takes n t) (append_assoc es (ended_here s ∷ []) (map ended_here ss))

numbers_ended : (ss : List SenderState) → numbers ss ≡ map (λ (e : Ended). e.sender) (map ended_here ss)
numbers_ended [] = refl
numbers_ended (s ∷ ss) = ap (λ ns. s.number ∷ ns) (numbers_ended ss)

sent_there : (n : ℕ) (ss : List SenderState) (all : List Request) → AllEnded n (map ended_here ss) all → AllSentThere 0 ss all
sent_there n [] all h = tt
sent_there n (s ∷ ss) all h = (sym h.0.1, sent_there n ss all h.1)

all_by : (n : ℕ) (ns : List ℕ) (rs : List Request) → HasAll n ns → AllOfSenders n rs → AllBy ns rs
all_by n ns [] has h = tt
all_by n ns (r ∷ rs) has h = (has r.sender h.0, all_by n ns rs has h.1)

-- the part of an owner once all senders have ended
part_ended : (n : ℕ) (t : Till) (ss : List SenderState) → IsTill t → senders_of (view t.token) ≡ n → after_all_ending (view t.token) ss ≡ Takes n (taken_of (view t.token)) (map ended_here ss)
part_ended n t ss h is = ap (λ p. after_all_ending p ss) h.part ∙ (ap (λ m. after_all_ending (Takes m (taken_of (view t.token)) []) ss) is ∙ ended_all n (taken_of (view t.token)) [] ss)

pub till_takes : (t : Till) → IsTill t → IsTaker (view t.token)
till_takes t h = subst IsTaker (sym h.part) tt

pub have_all_ended : (n : ℕ) (t : Till) (ss : List SenderState) → IsTill t → senders_of (view t.token) ≡ n → HasAll n (numbers ss) → HaveAllEnded (after_all_ending (view t.token) ss)
have_all_ended n t ss h is all = subst HaveAllEnded (sym (part_ended n t ss h is)) (subst (HasAll n) (numbers_ended ss) all)

pub emptied : (n : ℕ) (t : Till) (ss : List SenderState) (items left : List Request) → IsTill t → senders_of (view t.token) ≡ n → HasAll n (numbers ss) → left ≡ held_list t.held ++ items → KnowsWhole (after_all_ending (view t.token) ss) items → IsEmptied 0 ss (till_list t) t.held left
emptied n t ss items left h is all left_is knows =
    let whole : IsWhole n (map ended_here ss) (taken_of (view t.token) ++ items) = subst (λ p. KnowsWhole p items) (part_ended n t ss h is) knows in
    let same : taken_of (view t.token) ++ items ≡ till_list t ++ left = ap (λ l. l ++ items) h.taken ∙ (append_assoc (till_list t) (held_list t.held) items ∙ ap (λ l. till_list t ++ l) (sym left_is)) in record {
      requests = record {
        each = subst (AllSentThere 0 ss) same (sent_there n ss (taken_of (view t.token) ++ items) whole.sent);
        no_others = subst (AllBy (numbers ss)) same (all_by n (numbers ss) (taken_of (view t.token) ++ items) all whole.enlisted);
      };
      first = (items, sym left_is);
    }

pub no_items : {A : Type 0} (xs : List A) → length xs ≡ 0 → [] ≡ xs
no_items [] e = refl
no_items (x ∷ xs) e = absurd (omega arith)
