use Rattle.std.proofs.Common.{◌++◌, [], ◌∷◌, codes}
use Rattle.map_svg.specs.Page.{description}
use Rattle.map_svg.proofs.Texts.{then_text, last_text}
use Rattle.map_svg.proofs.page.write_description.Goals as goal

pub returns : goal.returns
unfolding description
returns c =
    let o = c.args.out.now.items in
    let t0 = then_text o _ (codes "A dark edge is where a large block, labelled #, or a slab begins, labelled with the size of its blocks in bytes. A dark bar in a slab says how many tenths of it live, a white one how many have old blocks. ") c.in_ok-write_bytes.ensures.text c.in_ok-write_bytes-2.ensures.text in
    let t1 = then_text o _ (codes "A slab in transition between two classes is hatched. A red frame is around what is loose. A number among free granules is how many stand in the row that ends there, and the longest row is underlined there. ") t0 c.in_ok-write_bytes-3.ensures.text in
    last_text o c.write_bytes-4.new.out.items c.write_bytes-4.result _ (codes "nvpool text and nvpool info tell the same in letters and numbers.</desc>" ++ 10 ∷ []) t1 c.write_bytes-4.ensures.text
