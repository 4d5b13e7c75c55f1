use Rattle.auttervil.specs.Exports.{posts_to}
use Rattle.auttervil.proofs.auttervil_raw3_post.Goals as goal

pub returns : goal.returns
returns c = posts_to _ _ _ _ c.post-answer.ensures c.answer_number.ensures
