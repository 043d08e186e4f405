-- What a sender sent so far.
use Rattle.std.proofs.Common.{◌≡◌, ◌≢◌, ◌⊎◌, ℕ, ◌<◌, ◌==◌, ◌&&◌, Bool, true, false, List, [], ◌∷◌, ◌++◌, map, length, refl, ap, sym, ◌∙◌, subst, eq-eqb, ne_eqb, ⊎_elim}
use Rattle.std.proofs.lemmas.Bool.{cases_eq}
use Rattle.std.proofs.Math.Seq.{map-set_same}
use mathlib.Core.List.{map-append}
use Rattle.serve_runs.proofs.Common.{append-nil, length-map, get_or-set_same, get_or-set_other, Call, TraceCall, asked, Request, Line, SenderState, nowhere, line_at, sent_at, after_sending, ServerState, IsSenderOf}
use Rattle.trace_runs.proofs.Asked.{asked-append, one_asked, and_first, and_second}
use Rattle.serve_runs.specs.Sent.{wanted, HasSentAll}

-- the line of an arena after a request was sent through it
abbrev line_after : SenderState → ℕ → Request → Line
line_after s a r = record { queue = (line_at s a).queue; sent = sent_at s a ++ r ∷ [] }

sent_here : (s : SenderState) (a : ℕ) (r : Request) → a < length s.lines → sent_at (after_sending s a r) a ≡ sent_at s a ++ r ∷ []
sent_here s a r room = ap (λ (l : Line). l.sent) (get_or-set_same s.lines a (line_after s a r) (record { queue = nowhere; sent = [] }) room)

sent_elsewhere : (s : SenderState) (a b : ℕ) (r : Request) → b ≢ a → sent_at (after_sending s a r) b ≡ sent_at s b
sent_elsewhere s a b r other = ap (λ (l : Line). l.sent) (get_or-set_other s.lines a b (line_after s a r) (record { queue = nowhere; sent = [] }) other)

-- it is a sender of the server still
pub sender_more : (server : ServerState) (s : SenderState) (a : ℕ) (r : Request) → IsSenderOf server s → IsSenderOf server (after_sending s a r)
sender_more server s a r h = h ∙ sym (map-set_same (λ (l : Line). l.queue) s.lines a (line_after s a r) (record { queue = nowhere; sent = [] }) refl)

pub has_line : (server : ServerState) (s : SenderState) (a : ℕ) → IsSenderOf server s → a < length server.queues → a < length s.lines
has_line server s a h l = subst (λ n. a < n) (ap length h ∙ length-map s.lines (λ (l : Line). l.queue)) l

-- what is wanted of one call more

wanted-append : (t a : ℕ) (xs ys : List TraceCall) → wanted t a (xs ++ ys) ≡ wanted t a xs ++ wanted t a ys
wanted-append t a xs ys = ap (map (λ (call : Call). record { sender = t; arena = a; call = call })) (asked-append t a xs ys) ∙ map-append (λ (call : Call). record { sender = t; arena = a; call = call }) (asked t a xs) (asked t a ys)

none_wanted : (t a : ℕ) (xs : List TraceCall) (c : TraceCall) → (c.thread == t) && (c.arena == a) ≡ false → wanted t a (xs ++ c ∷ []) ≡ wanted t a xs
none_wanted t a xs c none =
    wanted-append t a xs (c ∷ []) ∙ (ap (λ (l : List Call). wanted t a xs ++ map (λ (call : Call). record { sender = t; arena = a; call = call }) l) (one_asked c t a false none) ∙ append-nil (wanted t a xs))

one_wanted : (t a : ℕ) (xs : List TraceCall) (c : TraceCall) → (c.thread == t) && (c.arena == a) ≡ true → wanted t a (xs ++ c ∷ []) ≡ wanted t a xs ++ record { sender = t; arena = a; call = c.call } ∷ []
one_wanted t a xs c one =
    wanted-append t a xs (c ∷ []) ∙ ap (λ (l : List Call). wanted t a xs ++ map (λ (call : Call). record { sender = t; arena = a; call = call }) l) (one_asked c t a true one)

-- a call of another thread
pub sent_other : (xs : List TraceCall) (c : TraceCall) (s : SenderState) → c.thread ≢ s.number → HasSentAll xs s → HasSentAll (xs ++ c ∷ []) s
sent_other xs c s other sent a = sent a ∙ sym (none_wanted s.number a xs c (and_first (c.thread == s.number) (c.arena == a) (ne_eqb c.thread s.number other)))

-- a call of the sender's thread
pub sent_more : (xs : List TraceCall) (c : TraceCall) (s : SenderState) → c.arena < length s.lines → c.thread ≡ s.number → HasSentAll xs s →
    HasSentAll (xs ++ c ∷ []) (after_sending s c.arena (record { sender = s.number; arena = c.arena; call = c.call }))
sent_more xs c s room mine sent a = ⊎_elim
    (λ (here : a ≡ c.arena).
    let r : Request = record { sender = s.number; arena = c.arena; call = c.call } in
    let both : (c.thread == s.number) && (c.arena == c.arena) ≡ true = ap (λ (z : Bool). z && (c.arena == c.arena)) (eq-eqb c.thread s.number mine) ∙ eq-eqb c.arena c.arena refl in
    let at : sent_at (after_sending s c.arena r) c.arena ≡ wanted s.number c.arena (xs ++ c ∷ []) =
    sent_here s c.arena r room ∙ (ap (λ (l : List Request). l ++ r ∷ []) (sent c.arena) ∙ sym (one_wanted s.number c.arena xs c both)) in
    subst (λ b. sent_at (after_sending s c.arena r) b ≡ wanted s.number b (xs ++ c ∷ [])) (sym here) at)
    (λ (other : a ≢ c.arena).
    sent_elsewhere s c.arena a (record { sender = s.number; arena = c.arena; call = c.call }) other
    ∙ (sent a ∙ sym (none_wanted s.number a xs c (and_second (c.thread == s.number) (c.arena == a) (ne_eqb c.arena a (λ e. other (sym e)))))))
    (cases_eq a c.arena)
