use mathlib.Core.Path.{sym}
use Rattle.grammar.specs.Grammar.{space_step}
use Rattle.markup.proofs.tags.space_step.Goals as goal

pub returns-then-token : goal.returns-then-token
unfolding space_step
returns-then-token c = simp (sym c.is_token-token.ensures, c.if-token.true, sym c.pick_attribute.ensures) c.attribute_at.ensures

pub returns : goal.returns
unfolding space_step
returns c = simp (sym c.is_token-token.ensures, c.if-token.false) c.tag_step.ensures
