use Rattle.std.proofs.Common.{refl, inl, inr, sym, ◌∙◌}
use Rattle.image_tables.specs.Tables.{tables_of}
use Rattle.image_reading.proofs.Holding.{standing_last}
use Rattle.image_reading.proofs.held.is_standing.Goals as goal

pub returns-then-is_large : goal.returns-then-is_large
returns-then-is_large c = (λ _. inl (sym c.is_large.ensures ∙ c.if-is_large.true), λ _. refl)

pub returns-then-is_held : goal.returns-then-is_held
returns-then-is_held c = (λ _. inr (inl (c.is_held.ensures.0 c.if-is_held.true)), λ _. refl)

pub returns : goal.returns
returns c =
    standing_last (tables_of c.args.words.now) c.args.root c.args.at c.args.open_at c.is_large.result c.is_held.result c.is_large.ensures c.if-is_large.false c.is_held.ensures c.if-is_held.false c.requires.entry
