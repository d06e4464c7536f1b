use Rattle.slim.proofs.AnswerLaw.{keeps_decisions, keeps_replies, keeps_rows}
use Rattle.slim.proofs.laws.slim_keeps_answers.Goals as goal

pub returns-clause-replies : goal.returns-clause-replies
returns-clause-replies c = keeps_replies

pub returns-clause-rows : goal.returns-clause-rows
returns-clause-rows c = keeps_rows

pub returns-clause-decisions : goal.returns-clause-decisions
returns-clause-decisions c = keeps_decisions
