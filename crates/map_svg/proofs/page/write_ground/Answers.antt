use Rattle.std.proofs.Common.{◌++◌, [], ◌∷◌, codes}
use Rattle.map_svg.specs.Page.{ground}
use Rattle.map_svg.proofs.Texts.{last_text}
use Rattle.map_svg.proofs.page.write_ground.Goals as goal

pub returns : goal.returns
unfolding ground
returns c =
    let o = c.args.out.now.items in
    last_text o c.write_bytes-2.new.out.items c.write_bytes-2.result _ (codes "<rect width='2' height='6' fill='#333'/></pattern><rect width='100%' height='100%' fill='#fff'/>" ++ 10 ∷ []) c.in_ok-write_bytes.ensures.text c.write_bytes-2.ensures.text
