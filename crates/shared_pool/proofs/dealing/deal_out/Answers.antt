use Rattle.std.proofs.Common.{rules, arith, ◌≡◌, ◌+◌, ◌++◌, [], ◌∷◌, ◌∙◌, ℕ, suc, ap, sym, subst, map, length, List}
use Rattle.std.specs.Vec.{vec_len, vec_capacity}
use Rattle.shared_pool.specs.declared.pass.Spot.{Spot}
use Rattle.shared_pool.specs.Rows.{tail_list, AllTell, part_of, each_of, AllSome, AllFirst, firsts, lines}
use Rattle.shared_pool.specs.Passes.{PassState, fresh_pass, fresh_passes}
use Rattle.shared_pool.proofs.FreshPasses.{one_left, some_lines, first_lines, firsts_lines, tails_lines, fresh_more, room_left, no_items, one_less}
use Rattle.shared_pool.proofs.dealing.deal_out.Goals as goal

pub row_of-requires-clause-some : goal.row_of-requires-clause-some
row_of-requires-clause-some c =
    let inv = c.loop-number.invariant in
    let locks = c.requires.dealts.0 in
    let k = one_left inv.1 c.loop-number-test.true in
    subst AllSome (sym ((inv.2 locks c.requires.dealts.1).0 ∙ ap (λ m. lines c.loop-number.number m locks) k.1)) (some_lines c.loop-number.number k.0 locks)

pub made-requires-clause-tell : goal.made-requires-clause-tell
made-requires-clause-tell c =
    let inv = c.loop-number.invariant in
    let locks = c.requires.dealts.0 in
    let k = one_left inv.1 c.loop-number-test.true in
    let empty : length c.remove-spots.result.items ≡ 0 = search rules in
    c.row_of.ensures.tell c.loop-number.number (subst (λ (l : List Spot). AllTell c.loop-number.number l) (no_items c.remove-spots.result.items empty) tt)
    (subst (AllFirst c.loop-number.number) (sym ((inv.2 locks c.requires.dealts.1).0 ∙ ap (λ m. lines c.loop-number.number m locks) k.1)) (first_lines c.loop-number.number k.0 locks))

pub loop-number-preserved : goal.loop-number-preserved
loop-number-preserved c =
    let inv = c.loop-number.invariant in
    let n = c.loop-number.number in
    let k = one_left inv.1 c.loop-number-test.true in
    let up : suc n ≡ n + 1 = omega arith in
    let zero_up : n ≡ 0 + n = omega arith in
    let sum : n + 1 + k.0 ≡ c.args.seats = omega (arith, inv.1, k.1) in
    let empty : length c.remove-spots.result.items ≡ 0 = search rules in
    let rows : length c.remove-spots.new.self.items ≡ k.0 = one_less c.loop-number.rows.items c.remove-spots.new.self.items k.0 c.remove-spots.ensures.items (inv.3 ∙ k.1) in
    let same : length c.loop-number.dealts ≡ length c.row_of.new.dealts = search rules in (
      k.0,
      sum,
      (λ locks e.
          let h = inv.2 locks e in
          let here = h.0 ∙ ap (λ m. lines n m locks) k.1 in
          let parts = c.row_of.ensures.spots ∙ (ap (λ (l : List Spot). map part_of l ++ firsts (each_of c.loop-number.dealts (λ d. d.items))) (sym (no_items c.remove-spots.result.items empty)) ∙ (ap firsts here ∙ firsts_lines n k.0 locks)) in
          let pass : c.made.result ≡ fresh_pass locks n = c.made.ensures ∙ ap (λ ps. record { number = n; parts = ps }) parts in (
            c.row_of.ensures.dealts ∙ (ap (map tail_list) here ∙ (tails_lines n k.0 locks ∙ ap (λ z. lines z k.0 locks) up)),
            c.push_reserved.ensures.items ∙ (ap (λ (t : List PassState × PassState). t.0 ++ t.1 ∷ []) (λ i. (h.1 i, pass i))
                ∙ (ap (λ (z : ℕ). fresh_passes locks 0 n ++ fresh_pass locks z ∷ []) zero_up ∙ (sym (fresh_more locks 0 n) ∙ ap (fresh_passes locks 0) up))),
          )),
      rows,
      room_left c.loop-number.rows.items c.remove-spots.new.self.items (λ r. (vec_len r, vec_capacity r)) (length c.loop-number.dealts) (length c.row_of.new.dealts) same c.remove-spots.ensures.items inv.4,
      search rules,
      search rules,
    )
