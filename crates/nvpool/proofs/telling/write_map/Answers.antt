use Rattle.std.proofs.Common.{◌≡◌, ◌++◌, sym, subst}
use Rattle.std.specs.Prelude.{OnOk}
use Rattle.map_svg.specs.Arenas.{arena_picture}
use Rattle.nvpool.specs.declared.telling.Form.{Form}
use Rattle.nvpool.specs.Telling.{told_text}
use Rattle.nvpool.proofs.telling.write_map.Goals as goal

pub returns-in-Numbers : goal.returns-in-Numbers
returns-in-Numbers c =
    subst (λ (form : Form). OnOk c.write_info.result (c.write_info.new.out.items ≡ c.args.text.now.items ++ told_text form c.args.header.now c.args.arena c.args.map.now)) (sym c.in-Numbers.is) c.write_info.ensures

pub returns-in-Letters : goal.returns-in-Letters
returns-in-Letters c =
    subst (λ (form : Form). OnOk c.write_text.result (c.write_text.new.out.items ≡ c.args.text.now.items ++ told_text form c.args.header.now c.args.arena c.args.map.now)) (sym c.in-Letters.is) c.write_text.ensures

pub returns-in-Picture : goal.returns-in-Picture
returns-in-Picture c =
    let map = c.args.map.now in
    subst (λ (form : Form). OnOk c.write_picture.result (c.write_picture.new.out.items ≡ c.args.text.now.items ++ told_text form c.args.header.now c.args.arena map)) (sym c.in-Picture.is)
    (subst (λ y. OnOk c.write_picture.result (c.write_picture.new.out.items ≡ c.args.text.now.items ++ arena_picture c.args.arena y map.cells.items map.facts map.classes.items)) c.arena_y.ensures c.write_picture.ensures)
