use Rattle.std.proofs.Common.{◌++◌, [], ◌∷◌, codes}
use Rattle.map_svg.specs.Page.{fixed_tones}
use Rattle.map_svg.proofs.Texts.{then_text, last_text}
use Rattle.map_svg.proofs.page.write_fixed_tones.Goals as goal

pub returns : goal.returns
unfolding fixed_tones
returns c =
    let o = c.args.out.now.items in
    let t0 = then_text o _ (codes ".k3{fill:#f8fafc;stroke:#94a3b8;stroke-width:.5}.k4{fill:#f59e0b}.k41{fill:url(#t)}") c.in_ok-write_bytes.ensures.text c.in_ok-write_bytes-2.ensures.text in
    last_text o c.write_bytes-3.new.out.items c.write_bytes-3.result _ (codes ".k42{fill:#000;fill-opacity:.5}.k43{fill:#111}.k44{fill:none;stroke:#c00;stroke-width:3}.k45{fill:#fff;stroke:#111;stroke-width:1}.k46{fill:#111}" ++ 10 ∷ []) t0 c.write_bytes-3.ensures.text
