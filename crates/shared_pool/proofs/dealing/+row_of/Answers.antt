use Rattle.std.proofs.Common.{rules, ◌≡◌, ◌<◌, ◌∷◌, ap, sym, subst, length, List}
use Rattle.shared_pool.specs.declared.pass.Spot.{Spot}
use Rattle.shared_pool.specs.Rows.{AllTell}
use Rattle.shared_pool.proofs.Closings.{head_back}
use Rattle.shared_pool.proofs.FreshPasses.{first_split, first_seat}
use Rattle.shared_pool.proofs.PassParts.{tell_more}
use Rattle.shared_pool.proofs.dealing.+row_of.Goals as goal

pub returns-in-Some-clause-tell : goal.returns-in-Some-clause-tell
returns-in-Some-clause-tell t c n tell first =
    let whole : c.args.dealts.now ≡ c.in-Some.first.now ∷ c.in-Some.rest.now = search rules in
    let f = first_split c.args.dealts.now c.in-Some.rest.now c.in-Some.first.now (λ d. d.items) n whole first in
    let some : 0 < length c.in-Some.first.now.items = search rules in
    let seats : c.in-Some.first.now.items ≡ c.remove-seat.result ∷ c.remove-seat.new.self.items = head_back c.in-Some.first.now.items c.remove-seat.new.self.items c.remove-seat.result some c.remove-seat.ensures.value c.remove-seat.ensures.items in
    let seat = first_seat c.in-Some.first.now.items c.remove-seat.new.self.items c.remove-seat.result n seats f.0 in
    let s : Spot = record { seat = c.remove-seat.result; seen = 0 } in
    c.row_of.ensures.tell n (subst (λ (l : List Spot). AllTell n l) (sym c.push_reserved.ensures.items) (tell_more n c.args.spots.now.items s tell (seat.0, ap length seat.1))) f.1
